-- The laws of what takes sums.
use Rattle.std.proofs.Common.{◌≡◌, ℕ, ◌<◌, ◌≤◌, Bool, false, refl, sym, ◌∙◌, subst, arith, inl, inr}
use Rattle.std.specs.Prelude.{IsTrue, ◌↔◌, ◌⊎◌}
use Rattle.etcs_rows.specs.declared.takers.Sought.{Sought}
use Rattle.etcs_rows.specs.declared.takers.Kept.{Kept}
use Rattle.etcs_rows.specs.Totals.{InSums}
use Rattle.etcs_rows.specs.Takers.{TakerLaws}

-- ---- A number that is looked for.

sought_both : (s t u : Sought) (b : Bool) (A B : ℕ → Type 0) → (s ≡ t) × (IsTrue false ↔ A s.bits) → (t ≡ u) × (IsTrue b ↔ B t.bits) → (s ≡ u) × (IsTrue b ↔ (A s.bits ⊎ B s.bits))
sought_both s t u b A B (e, h) (f, k) =
    let k' : IsTrue b ↔ B s.bits = subst (λ (x : Sought). IsTrue b ↔ B x.bits) (sym e) k in
    (e ∙ f, (λ x. inr (k'.0 x), λ y. elim y [ inl a ↦ (let no : IsTrue false = h.1 a in absurd cc) | inr z ↦ k'.1 z ]))

pub sought_laws : TakerLaws Sought (λ s t b A. (s ≡ t) × (IsTrue b ↔ A s.bits)) (λ s m. s.bits < m)
sought_laws = record {
  same = λ s t b A B all h. (h.0, (λ x. (all s.bits).0 (h.1.0 x), λ y. h.1.1 ((all s.bits).1 y)));
  none = λ s A not. (refl, (λ x. absurd cc, λ a. absurd (not s.bits a)));
  past = λ s first A beyond all. (refl, (λ x. absurd cc, λ a. absurd (let l = all s.bits a in omega (arith, l, beyond))));
  both = sought_both;
  more = λ s t A B all h. (h.0, (λ x. all s.bits (h.1.0 x), λ y. refl));
}

-- ---- All sums up to 8,191.

kept_both : (s t u : Kept) (b : Bool) (A B : ℕ → Type 0) → (false ≡ false) × ((m : ℕ) → m ≤ 8191 → InSums t.sums.items m ↔ (InSums s.sums.items m ⊎ A m)) → (b ≡ false) × ((m : ℕ) → m ≤ 8191 → InSums u.sums.items m ↔ (InSums t.sums.items m ⊎ B m))
    → (b ≡ false) × ((m : ℕ) → m ≤ 8191 → InSums u.sums.items m ↔ (InSums s.sums.items m ⊎ (A m ⊎ B m)))
kept_both s t u b A B (e, h) (f, k) = (
  f,
  λ m l. (
    λ x. elim ((k m l).0 x) [
      | inl y ↦ elim ((h m l).0 y) [ inl z ↦ inl z | inr a ↦ inr (inl a) ]
      | inr c ↦ inr (inr c)
    ],
    λ x. (k m l).1 (elim x [
      | inl z ↦ inl ((h m l).1 (inl z))
      | inr y ↦ elim y [ inl a ↦ inl ((h m l).1 (inr a)) | inr c ↦ inr c ]
    ]),
  ),
)

pub kept_laws : TakerLaws Kept (λ s t b A. (b ≡ false) × ((m : ℕ) → m ≤ 8191 → InSums t.sums.items m ↔ (InSums s.sums.items m ⊎ A m))) (λ s m. 8191 < m)
kept_laws = record {
  same = λ s t b A B all h. (
    h.0,
    λ m l. (
      λ x. elim ((h.1 m l).0 x) [ inl y ↦ inl y | inr a ↦ inr ((all m).0 a) ],
      λ x. (h.1 m l).1 (elim x [ inl y ↦ inl y | inr c ↦ inr ((all m).1 c) ]),
    ),
  );
  none = λ s A not. (refl, λ m l. (λ x. inl x, λ x. elim x [ inl y ↦ y | inr a ↦ absurd (not m a) ]));
  past = λ s first A beyond all. (refl, λ m l. (λ x. inl x, λ x. elim x [ inl y ↦ y | inr a ↦ absurd (let k = all m a in omega (arith, k, beyond, l)) ]));
  both = kept_both;
  more = λ s t A B all h. (let e = h.0 in absurd cc);
}
