-- Lemmas about specs/ReportParameters.antt.
use Rattle.std.proofs.Common.{◌≡◌, ℕ, ◌+◌, ◌≤◌, length, refl, arith, Decides}
use Rattle.etcs_vars.specs.declared.var.Var.TheVariants.{N_ITER}
use Rattle.etcs_vars.specs.Reading.{spelled}
use Rattle.etcs_tables.specs.declared.row.Way.TheVariants.{ToTrain}
use Rattle.etcs_bodies.specs.Packets.{packet_from}
use Rattle.etcs_bodies.specs.PacketCodes.{PacketCodes}
use Rattle.etcs_bodies.specs.PacketFormats.{IsPacketOf, packet_reading, packet_left}
use Rattle.etcs_bodies.specs.Formats.{reading, listed}
use Rattle.etcs_bodies.specs.laws.PacketFormats.{IsPacketFormat, codes_of_packet, packet_most, exact_packet}
use Rattle.etcs_parts.specs.ReportsAt.{report_at_format}
use Rattle.etcs_parts.specs.laws.ReportsAt.{report_at_ok}
use Rattle.etcs_grouped.specs.laws.Fronts.{after_front}
use Rattle.etcs_grouped.specs.ReportParameters.{ReportParameters, report_parameters_packet}
use Rattle.etcs_grouped.specs.contracts.report_parameters.ReportParametersPartialEq.TheImpl as report_parameters_eq

pub report_parameters_ok : IsPacketFormat report_parameters_packet
report_parameters_ok = record { again = λ p. refl; dir_is = λ dir b. refl; rest_is = λ dir b. refl; body = (tt, (tt, (tt, (tt, report_at_ok)))); short = refl }

pub report_parameters_codes : PacketCodes ToTrain 58 (λ (p : ReportParameters). p.dir) (IsPacketOf report_parameters_packet) (packet_reading report_parameters_packet) (packet_from (packet_left report_parameters_packet))
report_parameters_codes = codes_of_packet report_parameters_packet report_parameters_ok 58 refl

-- ---- Its bits.

pub report_parameters_length : (p : ReportParameters) (a : ℕ) → a ≡ length (spelled (reading (listed N_ITER report_at_format) p.reports)) → 28 + a ≡ length (spelled (packet_reading report_parameters_packet p))
report_parameters_length p a h = after_front (packet_reading report_parameters_packet p) (reading (listed N_ITER report_at_format) p.reports) 28 a (omega arith) h

pub report_parameters_most : (p : ReportParameters) → IsPacketOf report_parameters_packet p → length (spelled (packet_reading report_parameters_packet p)) ≤ 529
report_parameters_most = packet_most report_parameters_packet

pub report_parameters_exact : (a b : ReportParameters) → Decides (report_parameters_eq.ghosts.eq a b) (a ≡ b)
report_parameters_exact = exact_packet report_parameters_packet report_parameters_ok
