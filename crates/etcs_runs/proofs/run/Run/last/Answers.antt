use Rattle.std.proofs.Common.{◌≡◌, ◌∷◌, ◌∙◌, ◌<◌, Bool, true, eqb, length, sym, ap, arith}
use Rattle.std.specs.List.{list_all}
use Rattle.hex.specs.Hex.{is_hex_digit}
use Rattle.etcs_runs.specs.Digits.{are_enough}
use Rattle.etcs_runs.specs.LineRuns.{runs_before}
use Rattle.etcs_runs.proofs.LastWords.{both}
use Rattle.etcs_runs.proofs.Pure.{all_text, no_group, nothing_before, pure_before, pure_end, pure_read, pure_runs, pure_starts}
use Rattle.etcs_runs.proofs.run.Run.last.Goals as goal

pub whole-requires-clause-word : goal.whole-requires-clause-word
whole-requires-clause-word c =
    let line = c.args.line.now in
    let all = (both (eqb (length line) (length line)) (list_all is_hex_digit line) (sym c.is_taken.ensures.good ∙ c.if-is_taken.true)).1 in
    pure_starts line all (omega (arith, c.if-count-ge-ENOUGH.true))

pub whole-requires-clause-front : goal.whole-requires-clause-front
whole-requires-clause-front c =
    let line = c.args.line.now in
    let all = (both (eqb (length line) (length line)) (list_all is_hex_digit line) (sym c.is_taken.ensures.good ∙ c.if-is_taken.true)).1 in
    sym (nothing_before line all (omega (arith, c.if-count-ge-ENOUGH.true)))

pub invariant_of-result : goal.invariant_of-result
invariant_of-result c =
    let line = c.args.line.now in
    let all = (both (eqb (length line) (length line)) (list_all is_hex_digit line) (sym c.is_taken.ensures.good ∙ c.if-is_taken.true)).1 in
    let two : 1 < length line = omega (arith, c.if-count-ge-ENOUGH.true) in
    let long = no_group line (omega (arith, c.if-count-ge-ENOUGH.true)) in
    record {
      digits = c.whole.ensures.digits ∙ sym (all_text line all two);
      before = sym (pure_before line all two long ∙ nothing_before line all two);
      end = c.whole.ensures.end ∙ sym (pure_end line all two long);
      place = sym (c.whole.ensures.front ∙ nothing_before line all two);
      within = omega (arith, ap length c.whole.ensures.line);
    }

pub returns-then-is_taken-clause-some : goal.returns-then-is_taken-clause-some
returns-then-is_taken-clause-some c =
    let line = c.args.line.now in
    let all = (both (eqb (length line) (length line)) (list_all is_hex_digit line) (sym c.is_taken.ensures.good ∙ c.if-is_taken.true)).1 in
    let two : 1 < length line = omega (arith, c.if-count-ge-ENOUGH.true) in (
      pure_read line all two,
      ap (λ (b : Bool). line ∷ runs_before b (length line) line) (c.whole.result.counted ∙ ap are_enough c.whole.ensures.digits) ∙ sym (pure_runs line all two),
    )
