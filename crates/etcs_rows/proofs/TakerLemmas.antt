-- What a walk gives to a taker.
use Rattle.std.proofs.Common.{◌≡◌, ℕ, ◌+◌, ◌≤◌, Bool, true, false, [], Option, Some, None, refl, subst, arith, inl, inr}
use Rattle.std.specs.Prelude.{◌↔◌, ◌⊎◌, IsTrue, IfSome}
use Rattle.etcs_rows.specs.declared.takers.Sought.{Sought}
use Rattle.etcs_rows.specs.declared.takers.Kept.{Kept}
use Rattle.etcs_rows.specs.Sums.{Plus}
use Rattle.etcs_rows.specs.Totals.{InSums}
use Rattle.etcs_rows.specs.Takers.{TakerLaws}
use Rattle.etcs_rows.proofs.LengthLemmas.{SameSet}

-- the same sums, said otherwise
pub took_same : {T : Type 0} {Took : T → T → Bool → (ℕ → Type 0) → Type 0} {Past : T → ℕ → Type 0} (laws : TakerLaws T Took Past) (s t : T) (r : Option Bool) (A B : ℕ → Type 0) → SameSet A B → IfSome r (λ b. Took s t b A) → IfSome r (λ b. Took s t b B)
took_same laws s t None A B same h = tt
took_same laws s t (Some b) A B same h = laws.same s t b A B same h

-- others after some, by what a flag says
pub took_more : {T : Type 0} {Took : T → T → Bool → (ℕ → Type 0) → Type 0} {Past : T → ℕ → Type 0} (laws : TakerLaws T Took Past) (s t u : T) (b : Bool) (A B C : ℕ → Type 0) → b ≡ false → Took s t false A → Took t u b B → ((m : ℕ) → (A m ⊎ B m) ↔ C m) → Took s u false C
took_more {T} {Took} laws s t u b A B C e h k same = laws.same s u false (λ m. A m ⊎ B m) C same (laws.both s t u false A B h (subst (λ x. Took t u x B) e k))

pub took_last : {T : Type 0} {Took : T → T → Bool → (ℕ → Type 0) → Type 0} {Past : T → ℕ → Type 0} (laws : TakerLaws T Took Past) (s t u : T) (b : Bool) (A B C : ℕ → Type 0) → b ≡ true → Took s t false A → Took t u b B → ((m : ℕ) → (A m ⊎ B m) → C m) → Took s u true C
took_last {T} {Took} laws s t u b A B C e h k all = laws.more s u (λ m. A m ⊎ B m) C all (laws.both s t u true A B h (subst (λ x. Took t u x B) e k))

-- whether a number that was looked for is there
pub found : (s t : Sought) (r : Option Bool) (A : ℕ → Type 0) (Q : Type 0) → (A s.bits ↔ Q) → IfSome r (λ b. (s ≡ t) × (IsTrue b ↔ A s.bits)) → IfSome r (λ b. IsTrue b ↔ Q)
found s t None A Q same h = tt
found s t (Some b) A Q same h = (λ x. same.0 (h.1.0 x), λ y. h.1.1 (same.1 y))

-- all that was kept, where nothing was before
pub kept_all : (old new : Kept) (b : Bool) (A L : ℕ → Type 0) → old.sums.items ≡ [] → (b ≡ false) × ((m : ℕ) → m ≤ 8191 → InSums new.sums.items m ↔ (InSums old.sums.items m ⊎ A m)) → SameSet A L → (m : ℕ) → m ≤ 8191 → InSums new.sums.items m ↔ L m
kept_all old new b A L empty (e, h) same m l =
    let all : InSums new.sums.items m ↔ (InSums [] m ⊎ A m) = rw empty at h m l in (
      λ x. elim (all.0 x) [ inl x0 ↦ absurd x0 | inr a ↦ (same m).0 a ],
      λ x. all.1 (inr ((same m).1 x)),
    )

-- what was kept, with one more part
pub kept_part : (K A G L : ℕ → Type 0) (m : ℕ) → m ≤ 8191 → ((k : ℕ) → k ≤ 8191 → K k ↔ A k) → Plus A G m ↔ L m → Plus K G m ↔ L m
kept_part K A G L m l same all = (
  λ (j, k, a, b, e). all.0 (j, k, (same j (omega (arith, l, e))).0 a, b, e),
  λ x. let (j, k, a, b, e) = all.1 x in (j, k, (same j (omega (arith, l, e))).1 a, b, e),
)

pub part_last : (S Y G : ℕ → Type 0) → SameSet (Plus (Plus S Y) G) (Plus S (Plus G Y))
part_last S Y G m = (
  λ (x, g, (s, y, ps, py, e), pg, f). (s, g + y, ps, (g, y, pg, py, refl), (let t : s + (g + y) ≡ m = omega (arith, e, f) in t)),
  λ (s, x, ps, (g, y, pg, py, e), f). (s + y, g, (s, y, ps, py, refl), pg, (let t : s + y + g ≡ m = omega (arith, e, f) in t)),
)
