-- Lemmas about specs/ReportsAt.antt.
use Rattle.std.proofs.Common.{◌≡◌, length, refl}
use Rattle.etcs_vars.specs.Reading.{spelled}
use Rattle.etcs_bodies.specs.Formats.{reading}
use Rattle.etcs_bodies.specs.laws.Repeats.{bit_count_is}
use Rattle.etcs_bodies.specs.laws.Formats.{IsFormat}
use Rattle.etcs_parts.specs.ReportsAt.{ReportAt, report_at_format}

pub report_at_ok : IsFormat report_at_format
report_at_ok = (λ p. refl, λ v. refl, (tt, (refl, refl, refl)))

pub report_at_bits : (p : ReportAt) → 16 ≡ length (spelled (reading report_at_format p))
report_at_bits p = rw (bit_count_is (reading report_at_format p)) refl
