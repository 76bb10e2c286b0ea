use Rattle.std.proofs.Common.{◌≡◌, ◌+◌, ◌-◌, ◌∙◌, ap, sym, arith, take, drop}
use Rattle.std.specs.List.{list_all}
use Rattle.etcs_runs.specs.Cuts.{parts_at}
use Rattle.etcs_runs.specs.Digits.{words}
use Rattle.etcs_runs.proofs.LastWords.{words-shorter}
use Rattle.etcs_runs.proofs.Fronts.{all_longer, without_end-take}
use Rattle.etcs_runs.proofs.words.end_of_word.Goals as goal

pub loop-end-preserved : goal.loop-end-preserved
loop-end-preserved c =
    let text = c.args.text.now in
    let end = c.loop-end.end in
    let some = c.loop-end-test.true in
    let within = c.loop-end.invariant.within in
    let same : end - 1 + 1 ≡ end = omega (arith, some) in
    record {
      within = omega (arith, within);
      words = c.loop-end.invariant.words ∙ ap (λ k. words (parts_at c.args.cut) (take k text)) (sym same) ∙ words-shorter (parts_at c.args.cut) text (end - 1) (omega (arith, some, within)) (sym c.is_at.ensures ∙ c.if-is_at.true);
      all = all_longer (parts_at c.args.cut) text (end - 1) (omega (arith, some, within)) (sym c.is_at.ensures ∙ c.if-is_at.true) (ap (λ k. list_all (parts_at c.args.cut) (drop k text)) same ∙ c.loop-end.invariant.all);
    }

pub returns-else-is_at-clause-end : goal.returns-else-is_at-clause-end
returns-else-is_at-clause-end c =
    let i = c.loop-end.invariant in
    sym (without_end-take (parts_at c.args.cut) c.args.text.now c.loop-end.end i.all i.within (λ some. sym c.is_at.ensures ∙ c.if-is_at.false))

pub returns-after-loop-end-clause-end : goal.returns-after-loop-end-clause-end
returns-after-loop-end-clause-end c =
    let i = c.loop-end.invariant in
    sym (without_end-take (parts_at c.args.cut) c.args.text.now c.loop-end.end i.all i.within (λ some. absurd (omega (arith, some, c.loop-end-test.false))))
