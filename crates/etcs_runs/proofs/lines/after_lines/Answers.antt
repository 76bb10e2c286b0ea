use Rattle.std.proofs.Common.{◌≡◌, ℕ, ◌+◌, ◌-◌, ◌<◌, List, ◌∷◌, ◌++◌, length, take, drop, refl, sym, ap, ◌∙◌, arith, add-one, drop-cons}
use Rattle.std.specs.Prelude.{slice_index}
use Rattle.std.proofs.lemmas.Bool.{eqb-true}
use Rattle.std.proofs.lemmas.List.{get_or_default, length-take-le, take-append-drop}
use Rattle.std.proofs.lemmas.List.Elements.{All-drop}
use Rattle.memchr.specs.Find.{Nowhere, Passes, is_byte}
use Rattle.etcs_runs.specs.Lines.{IsLine}
use Rattle.etcs_runs.proofs.lines.after_lines.Goals as goal

cut_at : (text : List ℕ) (at : ℕ) → at < length text → slice_index text at ≡ 10 → text ≡ take at text ++ 10 ∷ drop (at + 1) text
cut_at text at below is =
    let rest : drop at text ≡ slice_index text at ∷ drop (at + 1) text = rw (add-one, drop-cons text at 0) refl in
    sym (take-append-drop at text) ∙ ap (λ (z : List ℕ). take at text ++ z) (rest ∙ ap (λ (c : ℕ). c ∷ drop (at + 1) text) is)

pub returns-in-Some-clause-before : goal.returns-in-Some-clause-before
returns-in-Some-clause-before c some =
    let text = c.args.text.now in
    let at = c.in-Some.at in
    let found = c.in-Some.ensures in
    let below : at < length text = found.0.high in
    (take at text, drop (at + 1) text, cut_at text at below (eqb-true (slice_index text at) 10 found.1), omega (arith, below, length-take-le at text (omega (arith, below))))

no_lf : (text : List ℕ) → Nowhere (Passes (is_byte 10) text) 0 (length text) → IsLine text
no_lf text h k d lt is = h k (omega arith) lt (let e : slice_index text k ≡ 10 = get_or_default text k 0 d lt ∙ is in rw e refl)

pub returns-in-None-clause-last : goal.returns-in-None-clause-last
returns-in-None-clause-last c =
    let text = c.args.text.now in
    All-drop (λ c. c ≡ 10 → ⊥) (length text - length text) text (no_lf text c.in-None.ensures)
