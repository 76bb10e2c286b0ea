-- The numbers with which a language continues, from those with which it starts.
use Rattle.std.proofs.Common.{◌≡◌, ℕ, ◌+◌, ◌-◌, ◌/◌, ◌^◌, ◌<◌, ◌≤◌, [], ◌∷◌, ◌++◌, length, Some, refl, sym, ap, subst, ◌∙◌, arith}
use Rattle.std.specs.Prelude.{◌↔◌, IsTrue}
use Rattle.etcs_vars.specs.declared.var.Var.{Var}
use Rattle.etcs_vars.specs.Vars.{width, ranges, admits, begins}
use Rattle.etcs_vars.specs.Reading.{Sent, Reading, spelled, numbers}
use Rattle.etcs_vars.proofs.Prefixes.{admits_parts, admits_by_ranges, begins_some, begins_from, ranges_ordered}
use Rattle.etcs_vars.proofs.Sent.{length-sent}
use Rattle.etcs_vars.proofs.Walk.{Regular}
use Rattle.etcs_tables.specs.Layouts.{Layout, Reads, ReadsIn}
use Rattle.etcs_reader.specs.Rests.{Starts}
use Rattle.etcs_reader.specs.Blocks.{Continues}
use Rattle.etcs_rows.specs.declared.here.Here.{Here}
use Rattle.etcs_rows.specs.declared.here.Here.TheVariants.{Any, Row}
use Rattle.etcs_rows.specs.Places.{first_variable}
use Rattle.etcs_rows.specs.Causes.{Exactly}
use Rattle.etcs_rows.specs.laws.RestLaws.{row_begins_with}
use Rattle.etcs_rows.proofs.RestLemmas.{row_admits}

-- with all its bits a number starts exactly if it continues
pub starts_whole : (L : Reading → Type 0) (x : Var) (n : ℕ) → Continues L x n → Starts L x 0 n
starts_whole L x n (r, l) = (n, r, l, (omega arith))

pub whole_continues : (L : Reading → Type 0) (x : Var) (n : ℕ) → Starts L x 0 n → Continues L x n
whole_continues L x n (m, r, l, e) =
    let one : m / 2 ^ 0 ≡ m = omega arith in
    let same : m ≡ n = sym one ∙ e in
    (r, subst (λ (k : ℕ). L ((x, k) ∷ r)) same l)

-- a language that starts with the same numbers as another
pub exact_as : (L M : Reading → Type 0) (x : Var) (here : Here) → ((n : ℕ) → Starts L x 0 n ↔ Starts M x 0 n) → Exactly L x here → Exactly M x here
exact_as L M x here same exact =
    record {
      passes = λ n c. exact.passes n (whole_continues L x n ((same n).1 (starts_whole M x n c)));
      continues = λ n p. whole_continues M x n ((same n).0 (starts_whole L x n (exact.continues n p)));
    }

-- ---- Any number that the variable admits.

begins_admitted : (x : Var) (n : ℕ) → IsTrue (begins (ranges x) 0 n) → IsTrue (admits x n)
begins_admitted x n h =
    let (m, inside, e) = begins_some (ranges x) 0 n (ranges_ordered x) h in
    let one : m / 2 ^ 0 ≡ m = omega arith in
    subst (λ (k : ℕ). IsTrue (admits x k)) (sym one ∙ e) (admits_by_ranges x m ∙ inside)

admitted_begins : (x : Var) (n : ℕ) → IsTrue (admits x n) → IsTrue (begins (ranges x) 0 n)
admitted_begins x n h =
    let one : n / 2 ^ 0 ≡ n = omega arith in
    subst (λ (k : ℕ). IsTrue (begins (ranges x) 0 k)) one (begins_from (ranges x) 0 n (admits_parts x n h).0)

-- all of its bits
whole_fits : (x : Var) (n : ℕ) → n < 2 ^ width x → n < 2 ^ (width x - 0)
whole_fits x n h = let all : width x ≡ width x - 0 = omega arith in subst (λ (k : ℕ). n < 2 ^ k) all h

-- it starts with those that the ranges begin with
pub exact_admitted : (L : Reading → Type 0) → Regular L → (x : Var) → ((n : ℕ) → n < 2 ^ (width x - 0) → IsTrue (begins (ranges x) 0 n) ↔ Starts L x 0 n) → Exactly L x Any
exact_admitted L regular x same =
    record {
      passes = λ n c. (let fit = regular.fit ((x, n) ∷ c.0) c.1 in begins_admitted x n ((same n (whole_fits x n fit.0)).1 (starts_whole L x n c)));
      continues = λ n a. whole_continues L x n ((same n (whole_fits x n (admits_parts x n a).1)).0 (admitted_begins x n a));
    }

-- it starts with each number, and each is admitted
pub exact_each : (L : Reading → Type 0) → Regular L → (x : Var) → ((n : ℕ) → n < 2 ^ width x → IsTrue (admits x n)) → ((n : ℕ) → n < 2 ^ (width x - 0) → Starts L x 0 n) → Exactly L x Any
exact_each L regular x all starts =
    record {
      passes = λ n c. (let fit = regular.fit ((x, n) ∷ c.0) c.1 in all n fit.0);
      continues = λ n a. whole_continues L x n (starts n (whole_fits x n (admits_parts x n a).1));
    }

-- ---- A variable of a row.

heads_of : (v x : Var) (k m : ℕ) (r q : Reading) → ◌≡◌ {A = Reading} ((v, k) ∷ r) ((x, m) ∷ q) → ◌≡◌ {A = Sent} (v, k) (x, m)
heads_of v x k m r q e = cc

one_read : (row : Layout) (x : Var) (n : ℕ) (r rest : Reading) → first_variable row ≡ Some x → Reads row [] (r ++ rest) → numbers r ≡ n ∷ [] → Reads row [] ((x, n) ∷ rest)
one_read row x n [] rest first reads e = absurd cc
one_read row x n (p ∷ (q ∷ r)) rest first reads e = absurd cc
one_read row x n ((v, k) ∷ []) rest first reads e =
    let number : k ≡ n = cc in
    let (m, q, is) = row_begins_with row (length (spelled ((v, k) ∷ rest))) x first ((v, k) ∷ rest) (reads, refl) in
    let heads : ◌≡◌ {A = Sent} (v, k) (x, m) = heads_of v x k m rest q is in
    let same : v ≡ x = ap (λ (u : Sent). u.0) heads in
    subst (λ (j : ℕ). Reads row [] ((x, j) ∷ rest)) number (subst (λ (u : Var). Reads row [] ((u, k) ∷ rest)) same reads)

pub row_exact : (nid : ℕ) (row : Layout) (len : ℕ) (x : Var) → first_variable row ≡ Some x → len ≤ 8191 → Exactly (ReadsIn row len) x (Row nid row len)
row_exact nid row len x first short =
    record {
      passes = λ n (r, (reads, l)).
          (let long : width x + length (spelled r) ≡ len = sym (length-sent x n r) ∙ l in
          let one : n / 2 ^ 0 ≡ n = omega arith in
          let ok = (row_admits row x len n first (n, r, (reads, l), one)).1 in
          (ok, (length (spelled r), ((x, n) ∷ [], r, reads, refl, refl, omega (arith, long, short)), long)));
      continues = λ n (ok, (m, (r, rest, reads, is, l, small), long)).
          (let whole = one_read row x n r rest first reads is in
          let all : length (spelled ((x, n) ∷ rest)) ≡ len = length-sent x n rest ∙ ap (λ (j : ℕ). width x + j) l ∙ long in
          (rest, (whole, all)));
    }
