-- The list of missing positions, as far as it is reported.
use Rattle.std.proofs.Common.{◌≡◌, ◌∙◌, sym, ap, subst, ℕ, zero, suc, replicate, ◌+◌, ◌<◌, arith, Bool, true, false, List, Some, length, set, slice_get, inl, inr, ◌↔◌}
use Rattle.std.specs.Bool.{Decides}
use Rattle.std.proofs.lemmas.Bool.{cases_order, false≢true}
use Rattle.std.proofs.lemmas.Option.{same_Some, none-some}
use Rattle.etcs_group.proofs.Places.{get_set-same, get_set-other}

pub marked_more : (xs : List Bool) (i : ℕ) (b : Bool) (P : ℕ → Type 0) → i < length xs → Decides b (P i) → ((p : ℕ) → (slice_get xs p ≡ Some true) ↔ ((p < i) × P p)) → (p : ℕ) → (slice_get (set xs i b) p ≡ Some true) ↔ ((p < i + 1) × P p)
marked_more xs i b P within here before p = elim (cases_order p i) [
  | inl e ↦
      let place : slice_get (set xs i b) p ≡ Some b = rw e (get_set-same xs i b within) in
      (λ marked. (omega (arith, e), subst P (sym e) (here.0 (same_Some b true (sym place ∙ marked)))), λ q. place ∙ ap Some (here.1 (subst P e q.1)))
  | inr (inl below) ↦
      let place : slice_get (set xs i b) p ≡ slice_get xs p = get_set-other xs i p b (omega arith) in
      (λ marked. let q = (before p).0 (sym place ∙ marked) in (omega (arith, q.0), q.1), λ q. place ∙ (before p).1 (below, q.1))
  | inr (inr above) ↦
      let place : slice_get (set xs i b) p ≡ slice_get xs p = get_set-other xs i p b (omega arith) in
      (λ marked. let q = (before p).0 (sym place ∙ marked) in (omega (arith, q.0), q.1), λ q. absurd (omega (arith, q.0)))
]

pub none_marked : (n p : ℕ) → slice_get (replicate n false) p ≡ Some true → ⊥
none_marked zero p e = none-some true e
none_marked (suc n) zero e = false≢true (same_Some false true e)
none_marked (suc n) (suc p) e = none_marked n p e
