use Rattle.std.proofs.Common.{◌≡◌, ℕ, List, [], ◌∷◌, drop, refl, ap, arith, inl}
use Rattle.std.specs.Prelude.{slice_index}
use Rattle.etcs_stream.proofs.json_lines.end_of_line.Goals as goal

begins : (text : List ℕ) → slice_index text 0 ≡ 10 → text ≡ 10 ∷ drop 1 text
begins [] e = absurd (omega (arith, e))
begins (c ∷ text) e = ap (λ (z : ℕ). z ∷ text) e

pub returns-then-text-eq10 : goal.returns-then-text-eq10
returns-then-text-eq10 c = ([], drop 1 c.args.text.now, inl refl, begins c.args.text.now c.if-text-eq10.true, refl)
