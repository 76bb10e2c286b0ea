-- Lemmas about specs/Reports.antt.
use Rattle.std.proofs.Common.{◌≡◌, ℕ, ◌+◌, ◌≤◌, [], ◌∷◌, ◌++◌, length, Some, refl, ◌∙◌, arith}
use Rattle.std.specs.Prelude.{IsTrue, nat_le}
use Rattle.std.proofs.lemmas.Bool.{leb-true}
use Rattle.etcs_vars.specs.declared.var.Var.TheVariants.{Q_SCALE, NID_LRBG, NID_PRVLRBG}
use Rattle.etcs_vars.specs.Reading.{Reading, spelled}
use Rattle.etcs_tables.specs.declared.row.Way.TheVariants.{ToTrack}
use Rattle.etcs_tables.specs.Layouts.{whole, ROW_LIMIT}
use Rattle.etcs_tables.specs.Rows.{row_to}
use Rattle.etcs_bodies.specs.Repeats.{bit_count}
use Rattle.etcs_bodies.specs.Packets.{packet_to}
use Rattle.etcs_bodies.specs.PacketCodes.{PacketCodes, directed_from, never}
use Rattle.etcs_bodies.specs.Formats.{Format, Is, reading, row, from, most}
use Rattle.etcs_bodies.specs.laws.Repeats.{bit_count_is, bit_count-append}
use Rattle.etcs_bodies.specs.laws.PacketCodes.{packet_codes}
use Rattle.etcs_bodies.specs.laws.Formats.{IsFormat, codes_of, at_most}
use Rattle.etcs_track.specs.Locations.{Located, located_format}
use Rattle.etcs_track.specs.laws.Locations.{located_ok}
use Rattle.etcs_track.specs.Reports.{PositionReport, position_report_format, PositionReportTwo, position_report_two_format}

-- ---- A packet of a format, with no direction of its own.

module _ {P : Type 0} (f : Format P) (short : IsTrue (nat_le (most f) ROW_LIMIT)) where
  fits_length : (p : P) → Is f p → length (spelled (reading f p)) ≤ ROW_LIMIT
  fits_length p h =
      let few = leb-true (most f) ROW_LIMIT short in
      let all = at_most f p h in
      rw (bit_count_is (reading f p)) (omega arith)

  undirected : IsFormat f → (nid : ℕ) → row_to ToTrack nid ≡ Some (row f whole) → PacketCodes ToTrack nid (λ (p : P). 0) (Is f) (reading f) (packet_to ToTrack (directed_from (from f) never (λ dir p. p)))
  undirected ok nid is =
      packet_codes (codes_of f ok) ToTrack nid is
      (record {
        body = λ p. p;
        again = λ p. refl;
        dir_is = λ dir p. refl;
        same = λ dir p. refl;
        is = λ p h. (h, refl, fits_length p h);
        so = λ dir p h ok fits. h;
        fits = λ dir p short. refl;
      })

pub position_report_ok : IsFormat position_report_format
position_report_ok = (λ p. refl, λ v. refl, (tt, (tt, located_ok)))

pub position_report_codes : PacketCodes ToTrack 0 (λ (p : PositionReport). 0) (Is position_report_format) (reading position_report_format) (packet_to ToTrack (directed_from (from position_report_format) never (λ dir p. p)))
position_report_codes = undirected position_report_format refl position_report_ok 0 refl

pub position_report_two_ok : IsFormat position_report_two_format
position_report_two_ok = (λ p. refl, λ v. refl, (tt, (tt, (tt, located_ok))))

pub position_report_two_codes : PacketCodes ToTrack 1 (λ (p : PositionReportTwo). 0) (Is position_report_two_format) (reading position_report_two_format) (packet_to ToTrack (directed_from (from position_report_two_format) never (λ dir p. p)))
position_report_two_codes = undirected position_report_two_format refl position_report_two_ok 1 refl

-- ---- Their bits: some before, and where the train is.

after_front : (front : Reading) (l : Located) (n a : ℕ) → bit_count front ≡ n → a ≡ length (spelled (reading located_format l)) → n + a ≡ length (spelled (front ++ reading located_format l))
after_front front l n a is h =
    let both = bit_count-append front (reading located_format l) in
    rw (bit_count_is (front ++ reading located_format l)) (omega (arith, h ∙ bit_count_is (reading located_format l)))

pub report_length : (p : PositionReport) (a : ℕ) → a ≡ length (spelled (reading located_format p.located)) → 26 + a ≡ length (spelled (reading position_report_format p))
report_length p a h = after_front ((Q_SCALE, p.q_scale) ∷ (NID_LRBG, p.nid_lrbg) ∷ []) p.located 26 a refl h

pub report_two_length : (p : PositionReportTwo) (a : ℕ) → a ≡ length (spelled (reading located_format p.located)) → 50 + a ≡ length (spelled (reading position_report_two_format p))
report_two_length p a h = after_front ((Q_SCALE, p.q_scale) ∷ (NID_LRBG, p.nid_lrbg) ∷ (NID_PRVLRBG, p.nid_prvlrbg) ∷ []) p.located 50 a refl h
