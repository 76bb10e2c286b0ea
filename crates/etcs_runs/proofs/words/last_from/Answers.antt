use Rattle.std.proofs.Common.{◌≡◌, ◌+◌, ◌-◌, ◌<◌, ◌∙◌, [], ◌∷◌, ◌++◌, List, ℕ, not, length, take, drop, slice_index, sym, ap, arith, length-drop}
use Rattle.std.specs.List.{list_all}
use Rattle.std.proofs.lemmas.List.{get_or-take, length-take-le, take-append-drop, take_rest}
use Rattle.etcs_runs.specs.Digits.{before_last, is_gap, without_end, words}
use Rattle.etcs_runs.proofs.LastWords.{last_word}
use Rattle.etcs_runs.proofs.Starts.{word_ends, word_last}
use Rattle.etcs_runs.proofs.words.last_from.Goals as goal

pub returns-then-start-text-clause-some : goal.returns-then-start-text-clause-some
returns-then-start-text-clause-some c =
    let text = c.args.text.now in
    let start = c.args.start in
    let k = c.requires.known c.if-start-text.true in
    last_word is_gap text start c.if-start-text.true k.0 k.1 ∙ ap (λ (z : List ℕ). words is_gap (take start text) ++ z ∷ []) (sym (take_rest text start))

pub returns-then-start-text-clause-word : goal.returns-then-start-text-clause-word
returns-then-start-text-clause-word c =
    let text = c.args.text.now in
    let start = c.args.start in
    let k = c.requires.known c.if-start-text.true in
    let some : 0 < length (drop start text) = omega (arith, length-drop start text, c.if-start-text.true) in (
      ap (without_end is_gap) (sym (take-append-drop start text)) ∙ word_ends is_gap (take start text) (drop start text) k.0 some ∙ ap (λ (z : List ℕ). take start text ++ z) (sym (take_rest text start)),
      ap (list_all (λ c'. not (is_gap c'))) (take_rest text start) ∙ k.0,
    )

pub returns-then-start-text-clause-before : goal.returns-then-start-text-clause-before
returns-then-start-text-clause-before c =
    let text = c.args.text.now in
    let start = c.args.start in
    let front = take start text in
    let k = c.requires.known c.if-start-text.true in
    let some : 0 < length (drop start text) = omega (arith, length-drop start text, c.if-start-text.true) in
    let size = length-take-le start text (omega (arith, c.if-start-text.true)) in
    sym (ap (before_last is_gap) (sym (take-append-drop start text))
    ∙ word_last is_gap front (drop start text) k.0 some (λ n.
    ap (λ i. is_gap (slice_index front (i - 1))) size ∙ ap is_gap (get_or-take start text (start - 1) 0 (omega (arith, n, size))) ∙ k.1 (omega (arith, n, size))))
