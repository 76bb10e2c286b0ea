-- What a taker of sums of lengths proves.
use Rattle.std.specs.Prelude.{ℕ, ◌≤◌, ◌↔◌, ◌⊎◌, Bool, true, false}

-- how a taker changes by the sums that it takes (Took), and from which number on it needs no more (Past)
pub record TakerLaws (T : Type 0) (Took : T → T → Bool → (ℕ → Type 0) → Type 0) (Past : T → ℕ → Type 0) : Type 1 where
  -- the same sums, given otherwise
  pub same : (s t : T) (b : Bool) (A B : ℕ → Type 0) → ((m : ℕ) → A m ↔ B m) → Took s t b A → Took s t b B
  -- no sums, or none that it has a use for
  pub none : (s : T) (A : ℕ → Type 0) → ((m : ℕ) → A m → ⊥) → Took s s false A
  pub past : (s : T) (first : ℕ) (A : ℕ → Type 0) → Past s first → ((m : ℕ) → A m → first ≤ m) → Took s s false A
  -- sums after others
  pub both : (s t u : T) (b : Bool) (A B : ℕ → Type 0) → Took s t false A → Took t u b B → Took s u b (λ m. A m ⊎ B m)
  -- if it needs no more, more may follow
  pub more : (s t : T) (A B : ℕ → Type 0) → ((m : ℕ) → A m → B m) → Took s t true A → Took s t true B
