use Rattle.std.proofs.Common.{◌≡◌, ◌+◌, ◌∙◌, ◌<◌, ◌++◌, length, true, refl, sym, ap, arith}
use Rattle.std.specs.List.{list_all}
use Rattle.hex.specs.Hex.{is_hex_digit}
use Rattle.etcs_runs.specs.declared.words.Cut.TheVariants.{Joints}
use Rattle.etcs_runs.specs.Digits.{bare, before_end, before_words, end_front, group_words, is_gap, is_group, is_joint, last_first, passed_parts}
use Rattle.etcs_runs.specs.Finds.{end_of}
use Rattle.etcs_runs.proofs.Fronts.{before_end-groups}
use Rattle.etcs_runs.proofs.Pure.{long_digits, long_end, long_front, no_group, parts_end}
use Rattle.etcs_runs.proofs.Runs.{last_first-last, no_words}
use Rattle.etcs_runs.proofs.Starts.{bare_joins, word_front, word_starts}
use Rattle.etcs_runs.proofs.found.find_end.Goals as goal
use Rattle.etcs_runs.proofs.found.find_end.Goals.{in-Some+else-is_long+else-not-is_group, in_default}

pub whole-requires-clause-word : goal.whole-requires-clause-word
whole-requires-clause-word c =
    let e = c.in-Some.ensures in
    word_starts c.args.line.now c.in-Some.before.now c.in-Some.word.now e.word.0 e.word.1 e.edge

pub whole-requires-clause-front : goal.whole-requires-clause-front
whole-requires-clause-front c =
    let e = c.in-Some.ensures in
    let w = c.in-Some.word.now in
    let digits = ap (list_all is_hex_digit) (sym c.bare-digits.ensures.value) ∙ (c.is_long.ensures c.if-is_long.true).1 in
    word_front c.args.line.now c.in-Some.before.now w e.word.0 e.word.1 e.edge (bare_joins w digits) e.short.0

pub returns-then-is_long-clause-digits : goal.returns-then-is_long-clause-digits
returns-then-is_long-clause-digits c =
    let line = c.args.line.now in
    let w = bare c.in-Some.word.now in
    let ws = last_first is_gap c.in-Some.before.now in
    let value = c.bare-digits.ensures.value in
    let long = c.is_long.ensures c.if-is_long.true in
    let all = ap (list_all is_hex_digit) (sym value) ∙ long.1 in
    let two : 1 < length w = omega (arith, long.0, ap length value) in
    let other = no_group w (omega (arith, long.0, ap length value)) in
    let is = last_first-last is_gap line c.in-Some.before.now c.in-Some.word.now c.in-Some.ensures.some in
    c.whole.ensures.digits ∙ value ∙ sym (long_digits w all two line ws is other)

pub returns-then-is_long-clause-front : goal.returns-then-is_long-clause-front
returns-then-is_long-clause-front c =
    let line = c.args.line.now in
    let w = bare c.in-Some.word.now in
    let ws = last_first is_gap c.in-Some.before.now in
    let value = c.bare-digits.ensures.value in
    let long = c.is_long.ensures c.if-is_long.true in
    let all = ap (list_all is_hex_digit) (sym value) ∙ long.1 in
    let two : 1 < length w = omega (arith, long.0, ap length value) in
    let other = no_group w (omega (arith, long.0, ap length value)) in
    let is = last_first-last is_gap line c.in-Some.before.now c.in-Some.word.now c.in-Some.ensures.some in
    c.whole.ensures.front ∙ sym (long_front w all two line ws is other)

pub returns-then-is_long-clause-end : goal.returns-then-is_long-clause-end
returns-then-is_long-clause-end c =
    let line = c.args.line.now in
    let w = bare c.in-Some.word.now in
    let ws = last_first is_gap c.in-Some.before.now in
    let value = c.bare-digits.ensures.value in
    let long = c.is_long.ensures c.if-is_long.true in
    let all = ap (list_all is_hex_digit) (sym value) ∙ long.1 in
    let two : 1 < length w = omega (arith, long.0, ap length value) in
    let other = no_group w (omega (arith, long.0, ap length value)) in
    let is = last_first-last is_gap line c.in-Some.before.now c.in-Some.word.now c.in-Some.ensures.some in
    c.whole.ensures.end ∙ sym (long_end w all two line ws is other)

pub find_parts-requires-clause-word : goal.find_parts-requires-clause-word
find_parts-requires-clause-word c =
    let e = c.in-Some.ensures in
    word_starts c.args.line.now c.in-Some.before.now c.in-Some.word.now e.word.0 e.word.1 e.edge

pub returns-then-not-is_group-clause-end : goal.returns-then-not-is_group-clause-end
returns-then-not-is_group-clause-end c =
    let line = c.args.line.now in
    let w = bare c.in-Some.word.now in
    let value = c.bare-digits.ensures.value in
    let is = last_first-last is_gap line c.in-Some.before.now c.in-Some.word.now c.in-Some.ensures.some in
    let other = ap is_group (sym value) ∙ sym c.is_group.ensures ∙ c.if-not-is_group.true in
    c.find_parts.ensures.end ∙ ap (λ z. end_of Joints (passed_parts z) line) value ∙ sym (parts_end line w (last_first is_gap c.in-Some.before.now) is other)

pub returns-clause-front : goal.returns-clause-front
returns-clause-front c =
    let line = c.args.line.now in
    let is : before_words is_gap (group_words (last_first is_gap line)) line ≡ before_end line = elim c.match-last_from.branch [
      | in-Some+else-is_long+else-not-is_group w ↦
          before_end-groups line (bare w.in-Some.word.now) (last_first is_gap w.in-Some.before.now) (last_first-last is_gap line w.in-Some.before.now w.in-Some.word.now w.in-Some.ensures.some) (ap is_group (sym w.bare-digits.ensures.value) ∙ sym w.is_group.ensures ∙ w.if-not-is_group.false)
      | in_default w ↦
          let none = no_words is_gap line (w.in_default.ensures.none refl) in
          ap (λ z. before_words is_gap (group_words z) line) none ∙ sym (ap (λ z. end_front z line) none)
    ] in
    let words : 0 + group_words (last_first is_gap line) ≡ group_words (last_first is_gap line) = omega arith in
    c.find_groups.ensures.front ∙ ap (λ n. before_words is_gap n line) words ∙ is
