-- Rows of variables, kept bits, and why telegrams of one size agree.
use Rattle.std.proofs.Common.{◌≡◌, ℕ, true, List, [], ◌∷◌, refl, arith}
use Rattle.std.specs.Prelude.{map, IsTrue, ◌==◌}
use Rattle.std.proofs.lemmas.Bool.Decides.{nat_tests}
use Rattle.etcs_bits.proofs.Numbers.{bit-eqb}
use Rattle.etcs_bits.specs.Bits.{bit}
use Rattle.etcs_vars.specs.declared.var.Var.{Var}
use Rattle.etcs_vars.specs.declared.var.Var.TheVariants.{Q_UPDOWN, Q_MEDIA, Q_LINK}
use Rattle.etcs_vars.specs.Vars.{admits, inside, ranges}
use Rattle.etcs_vars.specs.Reading.{Reading, numbers, IsAdmitted}
use Rattle.etcs_vars.proofs.Prefixes.{admits_parts}
use Rattle.etcs_telegram.specs.Telegrams.{HeaderValue, header_reading, header_of}
use Rattle.etcs_tables.specs.Headers.{header_row}
use Rattle.etcs_reader.specs.Fields.{ReadsFields}
use Rattle.etcs_sequence.specs.Labels.{labelled}

-- a reading with admitted pairs is one of its row
pub row_admitted : (r : Reading) → IsAdmitted r → ReadsFields (map (λ p. p.0) r) r
row_admitted [] a = refl
row_admitted (p ∷ r) a = (p.1, r, a.0, refl, row_admitted r a.1)

pub admitted_row : (vs : List Var) (r : Reading) → ReadsFields vs r → IsAdmitted r
admitted_row [] r h = rw h tt
admitted_row (v ∷ vs) r (n, r', a, e, h) = rw e (a, admitted_row vs r' h)

pub header_reads : (h : HeaderValue) → IsAdmitted (header_reading h) → ReadsFields header_row (header_reading h)
header_reads h a = row_admitted (header_reading h) a

-- the row's reading is a header's
one_only : (n : ℕ) → IsTrue (admits Q_UPDOWN n) → n ≡ 1
one_only n h = let p = admits_parts Q_UPDOWN n h in only_one n p.0
  where
    only_one : (n : ℕ) → inside (ranges Q_UPDOWN) n ≡ true → n ≡ 1
    only_one n h = grind (arith, nat_tests)

zero_only : (n : ℕ) → IsTrue (admits Q_MEDIA n) → n ≡ 0
zero_only n h = let p = admits_parts Q_MEDIA n h in only_zero n p.0
  where
    only_zero : (n : ℕ) → inside (ranges Q_MEDIA) n ≡ true → n ≡ 0
    only_zero n h = grind (arith, nat_tests)

a_bit : (n : ℕ) → IsTrue (admits Q_LINK n) → bit (n == 1) ≡ n
a_bit n h = let p = admits_parts Q_LINK n h in bit-eqb n p.1

pub row_header : (r : Reading) → ReadsFields header_row r → r ≡ header_reading (header_of (numbers r))
row_header r (n0, r0, a0, e0, (n1, r1, a1, e1, (n2, r2, a2, e2, (n3, r3, a3, e3, (n4, r4, a4, e4, (n5, r5, a5, e5, (n6, r6, a6, e6, (n7, r7, a7, e7, (n8, r8, a8, e8, (n9, r9, a9, e9, e)))))))))) =
    let all : r ≡ labelled header_row (n0 ∷ n1 ∷ n2 ∷ n3 ∷ n4 ∷ n5 ∷ n6 ∷ n7 ∷ n8 ∷ n9 ∷ []) = rw (e0, e1, e2, e3, e4, e5, e6, e7, e8, e9, e) refl in
    let up = one_only n0 a0 in
    let media = zero_only n2 a2 in
    let link = a_bit n9 a9 in
    rw (all, up, media) (rw link refl)
