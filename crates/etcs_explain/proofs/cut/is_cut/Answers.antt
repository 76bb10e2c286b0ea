use Rattle.std.proofs.Common.{◌++◌, ◌∙◌, ℕ, List, ap, length, subst}
use Rattle.std.specs.Prelude.{◌↔◌, is_some, IsTrue}
use Rattle.etcs_explain.specs.Kinds.{kind_of}
use Rattle.etcs_explain.specs.Cuts.{AreRefused, awaited}
use Rattle.etcs_explain.proofs.Cutting.{are_refused, cut_else, cut_then}
use Rattle.etcs_explain.proofs.cut.is_cut.Goals as goal
use Rattle.etcs_explain.proofs.cut.is_cut.Goals.{then-begins, else-begins}

pub returns : goal.returns
returns c =
    let asked = c.args.asked in
    let held = c.args.held.now in
    let line = c.args.line.now in
    let first = c.in_ok-extend_from_slice.ensures.items ∙ ap (λ (z : List ℕ). z ++ held) c.new-all.ensures.items in
    let all_is = c.in_ok-extend_from_slice-2.ensures.items ∙ ap (λ (z : List ℕ). z ++ line) first in
    let all = c.extend_from_slice-2.new.self.items in
    let kind = c.kind_of-kind.result in
    let own = c.kind_of-own.result in
    let kind_is = c.kind_of-kind.ensures ∙ ap (λ (z : List ℕ). kind_of asked z) c.as_slice.ensures.value in
    let n_is = c.awaited.ensures.value ∙ ap (λ (z : List ℕ). awaited kind z) c.as_slice-2.ensures.value in
    let len_is = c.len.ensures ∙ c.extend_from_slice-2.new.self.ok.0 in
    record {
      cut = elim c.if-begins.branch [
        | then-begins w ↦
            let refuses = subst (λ (z : List ℕ). IsTrue (is_some w.refusal_at.result) ↔ AreRefused kind z) w.as_slice-then-begins.ensures.value (are_refused kind w.as_slice-then-begins.result.now w.refusal_at.result w.refusal_at.ensures) in
            cut_then asked held line all all_is kind own kind_is c.kind_of-own.ensures c.awaited.result c.len.result n_is len_is c.begins.result c.begins.ensures _ c.if-begins.result w.if-begins.true refuses (w.result-is ∙ w.is_some.ensures)
        | else-begins w ↦
            cut_else asked held line all all_is kind own kind_is c.kind_of-own.ensures c.awaited.result c.len.result n_is len_is c.begins.result c.begins.ensures c.if-begins.result w.if-begins.false (w.result-is ∙ w.if-begins.false)
      ];
    }
