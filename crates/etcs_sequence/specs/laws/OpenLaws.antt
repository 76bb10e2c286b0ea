-- What the reader asks of a language of which each reading begins with one variable.
use Rattle.std.proofs.Common.{◌≡◌, ℕ, ◌/◌, ◌^◌, [], ◌∷◌, Bool, Some, refl, sym, ap, subst, ◌∙◌, arith}
use Rattle.std.specs.Prelude.{◌↔◌, IsTrue}
use Rattle.etcs_vars.specs.declared.var.Var.{Var}
use Rattle.etcs_vars.specs.Walking.{Residual}
use Rattle.etcs_vars.specs.Reading.{Sent, Reading}
use Rattle.etcs_vars.proofs.Stepping.{Opens}
use Rattle.etcs_vars.proofs.Walk.{Regular}
use Rattle.etcs_reader.specs.Rests.{Starts, Goes, BeginsWith}
use Rattle.etcs_rows.specs.laws.RestLaws.{head_of}

-- what holds of a language holds of a part of it
pub part_regular : (P Q : Reading → Type 0) → ((r : Reading) → P r → Q r) → Regular Q → Regular P
part_regular P Q h q = record { agree = λ a b x y. q.agree a b (h a x) (h b y); fit = λ a x. q.fit a (h a x) }

-- some number that may come next begins with these bits, followed by rest bits more
abbrev pub GoesOn : (ℕ → Reading → Type 0) → ℕ → ℕ → Type 0
GoesOn After rest bits = (n : ℕ) × (r : Reading) × (n / 2 ^ rest ≡ bits) × After n r

-- x opens L, and After is after its number
module _ (L : Reading → Type 0) (x : Var) (After : ℕ → Reading → Type 0) (o : Opens L x After) where
  pub opens_begins : BeginsWith L x
  opens_begins r l = let (n, q, e, small, a) = o.opens r l in (n, q, e)

  pub opens_regular : ((n : ℕ) → Regular (After n)) → Regular L
  opens_regular beyond = record {
    agree = λ a b la lb.
        let (n, p, e, small, h) = o.opens a la in
        let (m, q, f, small', k) = o.opens b lb in
        rw (e, f) (refl, λ s. (beyond n).agree p q h (let same : m ≡ n = sym (ap (λ (u : Sent). u.1) s) in subst (λ (j : ℕ). After j q) same k));
    fit = λ a la. let (n, p, e, small, h) = o.opens a la in rw e (small, (beyond n).fit p h);
  }

  opens_after : (n : ℕ) (q : Reading) → L ((x, n) ∷ q) → After n q
  opens_after n q l =
      let (m, q', e, small, a) = o.opens ((x, n) ∷ q) l in
      let h = head_of x n m q q' e in
      rw (h.0, h.1) at a

  pub opens_beyond : (n : ℕ) → Residual L ((x, n) ∷ []) (After n)
  opens_beyond n = record { to = λ q l. opens_after n q l; from = λ q a. o.closes n q a }

  -- something continues
  pub opens_goes : Goes L → (n : ℕ) × (r : Reading) × After n r
  opens_goes (r, l) = let (n, q, e, small, a) = o.opens r l in (n, q, a)

  -- a test of what is after tells which numbers continue
  pub opens_tested : (v : Var) (rest bits : ℕ) (result : Bool) → Some x ≡ Some v → IsTrue result ↔ GoesOn After rest bits → IsTrue result ↔ Starts L v rest bits
  opens_tested v rest bits result e iff =
      let same : x ≡ v = cc in
      rw (sym same) (λ t. let (n, r, f, a) = iff.0 t in (n, r, o.closes n r a, f), λ (n, r, l, f). iff.1 (n, r, f, opens_after n r l))

  -- this number continues
  pub opens_number : (n : ℕ) → Starts L x 0 n → (r : Reading) × After n r
  opens_number n (m, r, l, e) =
      let one : m / 2 ^ 0 ≡ m = omega arith in
      let same : m ≡ n = sym one ∙ e in
      (r, subst (λ (k : ℕ). After k r) same (opens_after m r l))
