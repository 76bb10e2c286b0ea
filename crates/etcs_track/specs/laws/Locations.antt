-- Lemmas about specs/Locations.antt.
use Rattle.std.proofs.Common.{◌≡◌, ℕ, ◌+◌, ◌*◌, ◌≤◌, Bool, true, false, ◌∷◌, length, Option, Some, None, refl, arith}
use Rattle.std.specs.Int.{from_bool}
use Rattle.std.specs.Option.{is_some}
use Rattle.etcs_vars.specs.declared.var.Var.TheVariants.{V_TRAIN, Q_DIRTRAIN, M_MODE}
use Rattle.etcs_vars.specs.Reading.{Reading, spelled}
use Rattle.etcs_bodies.specs.Repeats.{bit_count}
use Rattle.etcs_bodies.specs.laws.Repeats.{bit_count_is, bit_count-append}
use Rattle.etcs_bodies.specs.Codecs.{Codes}
use Rattle.etcs_bodies.specs.Formats.{reading, row, from}
use Rattle.etcs_bodies.specs.laws.Formats.{IsFormat, codes_of}
use Rattle.etcs_track.specs.Locations.{integrity_format, level_format, Located, located_format, IsLocated}

pub located_ok : IsFormat located_format
located_ok = (λ p. refl, λ v. refl, (tt, (tt, (tt, (tt, (tt, (tt, (tt, (tt, (tt, tt))))))))))

pub located_codes : Codes (row located_format) IsLocated (reading located_format) (from located_format)
unfolding IsLocated
located_codes = codes_of located_format located_ok

-- ---- Its bits.

integrity_bits : (n : ℕ) (o : Option ℕ) → bit_count (reading integrity_format (n, o)) ≡ 2 + 15 * from_bool (is_some o)
integrity_bits n None = refl
integrity_bits n (Some m) = refl

level_bits : (n : ℕ) (o : Option ℕ) → bit_count (reading level_format (n, o)) ≡ 3 + 8 * from_bool (is_some o)
level_bits n None = refl
level_bits n (Some m) = refl

pub located_bits : (p : Located) → length (spelled (reading located_format p)) ≡ 67 + 15 * from_bool (is_some p.l_trainint) + 8 * from_bool (is_some p.nid_ntc)
located_bits p =
    let rest : Reading = (V_TRAIN, p.v_train) ∷ (Q_DIRTRAIN, p.q_dirtrain) ∷ (M_MODE, p.m_mode) ∷ reading level_format (p.m_level, p.nid_ntc) in
    let after = bit_count-append (reading integrity_format (p.q_length, p.l_trainint)) rest in
    rw (bit_count_is (reading located_format p)) (omega (arith, after, integrity_bits p.q_length p.l_trainint, level_bits p.m_level p.nid_ntc))

at_most_one : (b : Bool) → from_bool b ≤ 1
at_most_one true = omega arith
at_most_one false = omega arith

pub located_small : (p : Located) → length (spelled (reading located_format p)) ≤ 90
located_small p = omega (arith, located_bits p, at_most_one (is_some p.l_trainint), at_most_one (is_some p.nid_ntc))
