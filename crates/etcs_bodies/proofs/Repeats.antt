-- Lemmas about specs/Repeats.antt.
use Rattle.std.proofs.Common.{◌≡◌, ℕ, suc, ◌<◌, ◌+◌, ◌-◌, List, [], ◌∷◌, ◌++◌, Option, Some, None, refl, ◌∙◌, arith}
use Rattle.std.proofs.lemmas.List.{append-nil}
use Rattle.etcs_bodies.specs.Taking.{Left, times_from}
use Rattle.etcs_bodies.specs.Repeats.{beyond}
use Rattle.etcs_bodies.specs.laws.Repeats.{after_more}

less : (n k : ℕ) → k < n → n - k ≡ suc (n - (k + 1))
less n k h = omega arith

pub loop_none : {V : Type 0} (from : Left → Option (V × Left)) (n k : ℕ) (vs : List V) (s t : Left) → k < n → times_from from n s ≡ beyond vs (times_from from (n - k) t) → from t ≡ None → times_from from n s ≡ None
unfolding times_from
loop_none from n k vs s t lt e none = e ∙ rw (less n k lt, none) refl

pub loop_more : {V : Type 0} (from : Left → Option (V × Left)) (n k : ℕ) (vs : List V) (v : V) (s t u : Left) → k < n → times_from from n s ≡ beyond vs (times_from from (n - k) t) → from t ≡ Some (v, u) → times_from from n s ≡ beyond (vs ++ v ∷ []) (times_from from (n - (k + 1)) u)
unfolding times_from
loop_more from n k vs v s t u lt e one = e ∙ rw (less n k lt, one) (after_more vs v (times_from from (n - (k + 1)) u))

pub loop_end : {V : Type 0} (from : Left → Option (V × Left)) (n k : ℕ) (vs : List V) (s t : Left) → k ≡ n → times_from from n s ≡ beyond vs (times_from from (n - k) t) → times_from from n s ≡ Some (vs, t)
unfolding times_from
loop_end from n k vs s t end e = let none : n - k ≡ 0 = omega arith in e ∙ rw (none, append-nil vs) refl
