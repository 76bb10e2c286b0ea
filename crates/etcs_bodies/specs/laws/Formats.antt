-- Lemmas about specs/Formats.antt: the values of a format are what its row spells, of at most a number of bits, and
-- equal if the test is true.
use Rattle.std.proofs.Common.{◌≡◌, ℕ, ◌-◌, ◌*◌, ◌^◌, ◌≤◌, Bool, true, false, length, Option, None, Some, nat_le, inl, inr, refl, sym, ap, subst, arith}
use Rattle.std.specs.Prelude.{if◌then◌else◌, not}
use Rattle.std.proofs.lemmas.Bool.{leb-true, leb-false}
use Rattle.etcs_vars.specs.declared.var.Var.{Var}
use Rattle.etcs_vars.specs.Vars.{width, admits}
use Rattle.etcs_vars.specs.Faults.{number_fault}
use Rattle.etcs_tables.specs.declared.item.Test.{Test}
use Rattle.etcs_tables.specs.Layouts.{passes}
use Rattle.etcs_bodies.specs.Faults.{count_fault}
use Rattle.etcs_bodies.specs.Repeats.{bit_count}
use Rattle.etcs_bodies.specs.Codecs.{Codes, IsFlag, IsGroup}
use Rattle.etcs_bodies.specs.Equality.{IsExact}
use Rattle.etcs_bodies.specs.Formats.{Format, number, sent_as, flag, both, optional, guarded, either, choice, part, listed, named, Is, reading, row, from, larger, most, either_equal, equal}
use Rattle.etcs_bodies.specs.laws.Takes.{number_ok, admitted, counted_admitted, in_width}
use Rattle.etcs_bodies.specs.laws.Guards.{group_is, group_gives}
use Rattle.etcs_bodies.specs.laws.Choices as choices
use Rattle.etcs_bodies.specs.laws.Codecs as codecs
use Rattle.etcs_bodies.specs.laws.Entries.{all_most}
use Rattle.etcs_bodies.specs.laws.Repeats.{bit_count-append}
use Rattle.etcs_bodies.specs.laws.Equality.{number_exact, flag_exact, option_exact, list_exact, both_exact, fields_exact, numbers_exact}

-- flags are flags, of two tests one holds, and forms are forms of one value
abbrev pub IsFormat : {V : Type 0} → Format V → Type 0
IsFormat (number v) = Unit {0}
IsFormat (sent_as v w) = (n : ℕ) → admits v n ≡ admits w n
IsFormat (flag v) = IsFlag v
IsFormat (both f g) = IsFormat f × IsFormat g
IsFormat (optional v f) = IsFlag v × IsFormat f
IsFormat (guarded v test f) = IsFormat f
IsFormat (either v f g) = IsFlag v × IsFormat f × IsFormat g
IsFormat (choice v test other of) = (n : ℕ) → admits v n ≡ true → passes other n ≡ not (passes test n)
IsFormat (part f) = IsFormat f
IsFormat (listed v f) = IsFormat f
IsFormat {V = W} (named {V = V} to back f) = ((w : W) → to (back w) ≡ w) × ((v : V) → back (to v) ≡ v) × IsFormat f

-- ---- They are what their rows spell.

pub same_number : (v w : Var) → ((n : ℕ) → admits v n ≡ admits w n) → (n : ℕ) → number_fault v n ≡ None → number_fault w n ≡ None
same_number v w same n h = number_ok w n (rw same at (admitted v n h))

guarded_is : {V : Type 0} (v : Var) (test : Test) (f : Format V) (p : ℕ × Option V) → Is (guarded v test f) p → IsGroup v test (Is f) p
guarded_is v test f p h = group_is v test (Is f) p.0 p.1 h.0 h.1 h.2

guarded_so : {V : Type 0} (v : Var) (test : Test) (f : Format V) (p : ℕ × Option V) → IsGroup v test (Is f) p → Is (guarded v test f) p
guarded_so v test f p h = let g = group_gives v test (Is f) p.0 p.1 h in (g.number, g.guard, g.is)

pub codes_of : {V : Type 0} (f : Format V) → IsFormat f → Codes (row f) (Is f) (reading f) (from f)
codes_of (number v) ok = codecs.number v
codes_of (sent_as v w) ok = codecs.renamed (codecs.number w) (λ n h. same_number v w ok n h) (λ n h. same_number w v (λ m. sym (ok m)) n h) (λ n. refl)
codes_of (flag v) ok = codecs.flag v ok
codes_of (both f g) ok = codecs.both (codes_of f ok.0) (codes_of g ok.1)
codes_of (optional v f) ok = codecs.optional v ok.0 (codes_of f ok.1)
codes_of (guarded v test f) ok = codecs.renamed (codecs.group_of v test (codes_of f ok)) (guarded_is v test f) (guarded_so v test f) (λ p. refl)
codes_of (either v f g) ok = choices.either v ok.0 (codes_of f ok.1) (codes_of g ok.2)
codes_of (choice v test other of) ok = choices.choice v test other ok (λ b. codecs.number (of b))
codes_of (part f) ok = codes_of f ok
codes_of (listed v f) ok = codecs.list v (codes_of f ok)
codes_of (named to back f) ok =
    codecs.form (codes_of f ok.2)
    (record { back = back; there = ok.0; again = ok.1; is = λ w h. h; so = λ v h. subst (Is f) (sym (ok.1 v)) h; same = λ w. refl })

-- ---- How many bits.

by_larger : (b : Bool) (m n : ℕ) → nat_le m n ≡ b → (m ≤ (if b then n else m)) × (n ≤ (if b then n else m))
by_larger true m n e = (leb-true m n e, omega arith)
by_larger false m n e = (omega arith, (let lt = leb-false m n e in omega arith))

of_two : (m n : ℕ) → (m ≤ larger m n) × (n ≤ larger m n)
of_two m n = by_larger (nat_le m n) m n refl

of_choice : (of : Bool → Var) (b : Bool) → width (of b) ≤ larger (width (of true)) (width (of false))
of_choice of true = (of_two (width (of true)) (width (of false))).0
of_choice of false = (of_two (width (of true)) (width (of false))).1

few : (v : Var) (n : ℕ) → count_fault v n ≡ None → n ≤ 2 ^ width v - 1
few v n h = let lt = in_width v n (counted_admitted v n h) in omega arith

times : (m n k : ℕ) → m ≤ n → m * k ≤ n * k
times m n k h = grind arith

pub at_most : {V : Type 0} (f : Format V) (v : V) → Is f v → bit_count (reading f v) ≤ most f
at_most (number v) n h = omega arith
at_most (sent_as v w) n h = omega arith
at_most (flag v) b h = omega arith
at_most (both f g) p h = omega (arith, bit_count-append (reading f p.0) (reading g p.1), at_most f p.0 h.0, at_most g p.1 h.1)
at_most (optional v f) None h = omega arith
at_most (optional v f) (Some w) h = omega (arith, at_most f w h)
at_most (guarded v test f) (n, None) h = omega arith
at_most (guarded v test f) (n, Some w) h = omega (arith, at_most f w h.2)
at_most (either v f g) (inl a) h = omega (arith, at_most f a h, (of_two (most f) (most g)).0)
at_most (either v f g) (inr b) h = omega (arith, at_most g b h, (of_two (most f) (most g)).1)
at_most (choice v test other of) p h = omega (arith, of_choice of (passes test p.0))
at_most (part f) w h = at_most f w h
at_most (listed v f) l h =
    let all = all_most (Is f) (reading f) (most f) (at_most f) l h.1 in
    let many = times (length l) (2 ^ width v - 1) (most f) (few v (length l) h.0) in
    omega arith
at_most (named to back f) w h = at_most f (back w) h

-- ---- When two are equal.

either_exact : {V W : Type 0} {E : V → V → Bool} {F : W → W → Bool} → IsExact E → IsExact F → IsExact (either_equal E F)
either_exact e f (inl a) (inl b) = let k = e a b in ((λ h. ap inl (k.0 h)), (λ h. k.1 cc))
either_exact e f (inl a) (inr b) = ((λ h. absurd cc), (λ h. absurd cc))
either_exact e f (inr a) (inl b) = ((λ h. absurd cc), (λ h. absurd cc))
either_exact e f (inr a) (inr b) = let k = f a b in ((λ h. ap inr (k.0 h)), (λ h. k.1 cc))

pub exact_of : {V : Type 0} (f : Format V) → IsFormat f → IsExact (equal f)
exact_of (number v) ok = number_exact
exact_of (sent_as v w) ok = number_exact
exact_of (flag v) ok = flag_exact
exact_of (both f g) ok = both_exact (exact_of f ok.0) (exact_of g ok.1)
exact_of (optional v f) ok = option_exact (exact_of f ok.1)
exact_of (guarded v test f) ok = both_exact number_exact (option_exact (exact_of f ok))
exact_of (either v f g) ok = either_exact (exact_of f ok.1) (exact_of g ok.2)
exact_of (choice v test other of) ok = numbers_exact
exact_of (part f) ok = exact_of f ok
exact_of (listed v f) ok = list_exact (exact_of f ok)
exact_of (named to back f) ok = fields_exact back to ok.0 (exact_of f ok.2)
