-- Lemmas about specs/Differings.antt.
use Rattle.std.proofs.Common.{◌≡◌, ℕ, zero, suc, ◌<◌, Bool, true, false, length, refl, arith, Decides}
use Rattle.std.specs.Prelude.{◌==◌, not}
use Rattle.etcs_vars.specs.declared.var.Var.TheVariants.{Q_DIFF}
use Rattle.etcs_vars.specs.Vars.{width, admits}
use Rattle.etcs_vars.specs.Reading.{spelled}
use Rattle.etcs_tables.specs.declared.item.Test.TheVariants.{IsZero, IsOneOrTwo}
use Rattle.etcs_tables.specs.Layouts.{passes}
use Rattle.etcs_bodies.specs.laws.Takes.{in_width}
use Rattle.etcs_bodies.specs.Formats.{reading}
use Rattle.etcs_bodies.specs.laws.Formats.{IsFormat}
use Rattle.etcs_bodies.specs.Repeats.{bit_count}
use Rattle.etcs_bodies.specs.laws.Repeats.{bit_count_is}
use Rattle.etcs_parts.specs.Differings.{Differing, category_var, differing_format, differing_value}
use Rattle.etcs_bodies.specs.laws.Equality.{number_exact, fields_exact, both_exact, numbers_exact}
use Rattle.etcs_parts.specs.contracts.differing.DifferingPartialEq.TheImpl as differing_eq

-- if Q_DIFF isn't 0, it is 1 or 2
small_apart : (n : ℕ) → n < 4 → admits Q_DIFF n ≡ true → passes IsOneOrTwo n ≡ not (passes IsZero n)
small_apart zero lt h = refl
small_apart (suc zero) lt h = refl
small_apart (suc (suc zero)) lt h = refl
small_apart (suc (suc (suc zero))) lt h = absurd cc
small_apart (suc (suc (suc (suc n)))) lt h = absurd (omega arith)

pub differing_ok : IsFormat differing_format
differing_ok = (λ d. refl, λ v. refl, (λ n h. small_apart n (in_width Q_DIFF n h) h, tt))

-- ---- Its bits.

category_bits : (b : Bool) → width (category_var b) ≡ 4
category_bits true = refl
category_bits false = refl

pub differing_bits : (d : Differing) → bit_count (reading differing_format d) ≡ 13
differing_bits d = rw (category_bits (d.q_diff == 0)) refl

pub differing_spelled : (d : Differing) → 13 ≡ length (spelled (reading differing_format d))
differing_spelled d = rw (bit_count_is (reading differing_format d), differing_bits d) refl

-- ---- Its `==`.

pub differing_exact : (a b : Differing) → Decides (differing_eq.ghosts.eq a b) (a ≡ b)
differing_exact =
    fields_exact (λ (p : Differing). (p.q_diff, (p.category, p.v_diff))) (λ n. differing_value n.0 n.1.0 n.1.1) (λ p. refl) (
    both_exact number_exact numbers_exact)
