-- Further lemmas beside specs/laws/FieldLaws.antt.
use Rattle.std.proofs.Common.{◌≡◌, ℕ, ◌+◌, ◌-◌, ◌/◌, ◌^◌, ◌<◌, List, [], ◌∷◌, Some, refl, sym, ap, ◌∙◌, arith}
use Rattle.std.specs.Prelude.{◌↔◌, IsTrue}
use Rattle.etcs_vars.specs.declared.var.Var.{Var}
use Rattle.etcs_vars.specs.Vars.{width, ranges, admits, begins}
use Rattle.etcs_vars.specs.Walking.{Residual}
use Rattle.etcs_vars.specs.Reading.{Sent, Reading}
use Rattle.etcs_vars.proofs.Prefixes.{some_number, begins_some, begins_from, ranges_ordered, admits_from, admits_parts, below_quotient}
use Rattle.etcs_reader.specs.Rests.{Starts, Goes}
use Rattle.etcs_reader.specs.Fields.{ReadsFields, first_of}

-- ---- Of variables.

pub some_fields : (vs : List Var) → Goes (ReadsFields vs)
some_fields [] = ([], refl)
some_fields (v ∷ vs) =
    let n = some_number v in
    let r = some_fields vs in
    ((v, n.0) ∷ r.0, (n.0, r.0, admits_from v n.0 n.1 n.2, refl, r.1))

-- what a reading's first number is
pub first_number : (v : Var) (vs : List Var) (n : ℕ) (r : Reading) → ReadsFields (v ∷ vs) ((v, n) ∷ r) → IsTrue (admits v n) × ReadsFields vs r
first_number v vs n r (m, r', a, e, h) =
    let number : m ≡ n = (let f : ◌≡◌ {A = Sent} (v, n) (v, m) = cc in sym (ap (λ (u : Sent). u.1) f)) in
    let rest : r' ≡ r = (let g : r ≡ r' = cc in sym g) in
    (rw number at a, rw rest at h)

pub fields_tested : (vs : List Var) (x : Var) (rest bits : ℕ) → first_of vs ≡ Some x → rest < width x → bits < 2 ^ (width x - rest) → IsTrue (begins (ranges x) rest bits) ↔ Starts (ReadsFields vs) x rest bits
fields_tested [] x rest bits e lt fits = absurd cc
fields_tested (v ∷ vs) x rest bits e lt fits =
    let same : v ≡ x = cc in
    let whole : width x - rest + rest ≡ width x = omega arith in (
      λ t.
          let (n, i, q) = begins_some (ranges x) rest bits (ranges_ordered x) t in
          let small : n < 2 ^ width x = rw whole at (below_quotient n (width x - rest) rest (rw q fits)) in
          let r = some_fields vs in
          (n, r.0, rw same (n, r.0, admits_from x n i small, refl, r.1), q),
      λ (n, r, l, q).
          let l' : ReadsFields (x ∷ vs) ((x, n) ∷ r) = rw same at l in
          rw q at (begins_from (ranges x) rest n (admits_parts x n (first_number x vs n r l').0).0),
    )

-- after its number
pub fields_after : (v : Var) (vs : List Var) (x : Var) (number : ℕ) → first_of (v ∷ vs) ≡ Some x → Starts (ReadsFields (v ∷ vs)) x 0 number → Residual (ReadsFields (v ∷ vs)) ((x, number) ∷ []) (ReadsFields vs)
fields_after v vs x number e (n, r, l, q) =
    let same : v ≡ x = cc in
    let whole : n ≡ number = (let one : n / 2 ^ 0 ≡ n = omega arith in sym one ∙ q) in
    let l' : ReadsFields (x ∷ vs) ((x, number) ∷ r) = rw (same, whole) at l in
    let admitted = (first_number x vs number r l').0 in record {
      to = λ q h. (first_number x vs number q (rw same at h)).1;
      from = λ q h. rw same (number, q, admitted, refl, h);
    }
