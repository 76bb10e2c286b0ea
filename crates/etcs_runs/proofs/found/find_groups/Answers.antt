use Rattle.std.proofs.Common.{◌≡◌, ◌+◌, ◌∙◌, ◌∷◌, Bool, List, ℕ, cond, suc, true, length, sym, ap, arith}
use Rattle.std.specs.List.{list_all}
use Rattle.hex.specs.Hex.{is_hex_digit}
use Rattle.etcs_runs.specs.Cuts.{parts_at}
use Rattle.etcs_runs.specs.Digits.{bare, before_last, before_words, group_size, group_words, is_gap, is_group, is_size, last_first, run_words}
use Rattle.etcs_runs.proofs.Fronts.{all_with}
use Rattle.etcs_runs.proofs.Runs.{last_first-last}
use Rattle.etcs_runs.proofs.found.find_groups.Goals as goal

pub invariant_of-found-2-clause-grouped : goal.invariant_of-found-2-clause-grouped
invariant_of-found-2-clause-grouped c =
    let line = c.args.line.now in
    let text = c.args.text.now in
    λ gaps _.
    ap (λ n. before_words is_gap (n + 1) line) (c.requires.whole gaps).0
    ∙ ap (before_last is_gap) (sym (c.requires.whole gaps).1)
    ∙ ap (λ k. before_last (parts_at k) text) (sym gaps)
    ∙ sym c.in-Some.ensures.before

pub returns-clause-front : goal.returns-clause-front
returns-clause-front c =
    let line = c.args.line.now in
    let text = c.args.text.now in
    let at = parts_at c.args.cut in
    let word = c.bare-word.result.now in
    let ws = last_first at c.in-Some.before.now in
    let is = last_first-last at text c.in-Some.before.now c.in-Some.word.now c.in-Some.ensures.some ∙ ap (λ (z : List ℕ). z ∷ ws) (sym c.bare-word.ensures.value) in
    let group : is_group word ≡ true = all_with (is_size (length word)) (list_all is_hex_digit word) (sym c.is_size.ensures ∙ c.if-not-is_size.false) (sym c.is_of_digits.ensures ∙ c.if-not-is_of_digits.false) in
    let words : group_words (last_first at text) ≡ suc (run_words c.group_size.result ws) =
    ap group_words is
    ∙ ap (λ (b : Bool). cond b (suc (run_words (group_size (length word) ws) ws)) (cond (list_all is_hex_digit word) 1 0)) group
    ∙ ap (λ n. suc (run_words n ws)) (sym c.group_size.ensures.value) in
    let sum : c.args.passed + 1 + run_words c.group_size.result ws ≡ c.args.passed + group_words (last_first at text) = omega (arith, words) in
    ap (λ n. before_words at n line) sum
