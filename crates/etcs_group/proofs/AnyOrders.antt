-- Telegrams of which none is refused are held in any order: that each is good and that every two of the list fit has no
-- order.
use Rattle.std.proofs.Common.{◌≡◌, ◌≢◌, ◌⊎◌, refl, sym, subst, ℕ, zero, suc, ◌<◌, arith, List, [], ◌∷◌, length, get_or, inl, inr, All, Contains}
use Rattle.std.specs.List.{swap}
use Rattle.std.proofs.lemmas.Bool.{cases_eq}
use Rattle.std.proofs.lemmas.List.Edits.{swapped_from_swap, length-swap}
use Rattle.std.proofs.lemmas.List.Elements.{All-nil, All-cons, All-head, All-tail, Contains-get_or}
use Rattle.std.proofs.lemmas.List.Sorted.{IsPermutation-keeps, IsPermutation-sym, All-permutation, Contains-permutation}
use Rattle.etcs_telegram.specs.Telegrams.{TelegramContent}
use Rattle.etcs_group.specs.Groups.{IsGood, CountersAgree, Fit, HeldOf}
use Rattle.etcs_group.specs.Orders.{NoneRefused, AnyOrder}

CountersAgree-sym : (m n : ℕ) → CountersAgree m n → CountersAgree n m
CountersAgree-sym m n a = (a.1, a.0, elim a.2 [ inl e ↦ inl (sym e) | inr (inl e) ↦ inr (inr e) | inr (inr e) ↦ inr (inl e) ])

Fit-sym : (t u : TelegramContent) → Fit t u → Fit u t
Fit-sym t u f = record {
  alike = record { country = sym f.alike.country; group = sym f.alike.group; total = sym f.alike.total };
  counters = CountersAgree-sym t.header.m_mcount u.header.m_mcount f.counters;
  same = λ e. sym (f.same (sym e));
}

-- if none is refused, what is held is what the list has

pub list_from_held : (ts : List TelegramContent) (u : TelegramContent) → NoneRefused ts → HeldOf ts u → Contains ts u
list_from_held [] u none h = absurd h
list_from_held (t ∷ earlier) u none (inl h) =
    let before = list_from_held earlier u none.1 h in
    (suc before.0, omega (arith, before.1), before.2)
list_from_held (t ∷ earlier) u none (inr h) = (zero, omega arith, sym h.1)

held_at : (ts : List TelegramContent) (k : ℕ) (u : TelegramContent) → NoneRefused ts → k < length ts → get_or ts k u ≡ u → HeldOf ts u
held_at [] k u none h e = absurd (omega (arith, h))
held_at (t ∷ earlier) zero u none h e = inr (none.0, sym e)
held_at (t ∷ earlier) (suc k) u none h e = inl (held_at earlier k u none.1 (omega (arith, h)) e)

pub held_from_list : (ts : List TelegramContent) (u : TelegramContent) → NoneRefused ts → Contains ts u → HeldOf ts u
held_from_list ts u none h = held_at ts h.0 u none h.1 h.2

-- every two places of the list fit
abbrev AllFit : List TelegramContent → Type 0
AllFit ts = (i j : ℕ) (d : TelegramContent) → i < length ts → j < length ts → i ≢ j → Fit (get_or ts i d) (get_or ts j d)

good_all : (ts : List TelegramContent) → NoneRefused ts → All (λ t. IsGood t.header) ts
good_all [] none = All-nil (λ t. IsGood t.header)
good_all (t ∷ earlier) none = All-cons (λ t. IsGood t.header) t earlier none.0.0 (good_all earlier none.1)

fit_all : (ts : List TelegramContent) → NoneRefused ts → AllFit ts
fit_all [] none i j d hi hj apart = absurd (omega (arith, hi))
fit_all (t ∷ earlier) none zero zero d hi hj apart = absurd (apart refl)
fit_all (t ∷ earlier) none zero (suc j) d hi hj apart =
    let within : j < length earlier = omega (arith, hj) in
    none.0.1 (get_or earlier j d) (held_from_list earlier (get_or earlier j d) none.1 (Contains-get_or earlier j d within))
fit_all (t ∷ earlier) none (suc i) zero d hi hj apart =
    let within : i < length earlier = omega (arith, hi) in
    Fit-sym t (get_or earlier i d) (none.0.1 (get_or earlier i d) (held_from_list earlier (get_or earlier i d) none.1 (Contains-get_or earlier i d within)))
fit_all (t ∷ earlier) none (suc i) (suc j) d hi hj apart = fit_all earlier none.1 i j d (omega (arith, hi)) (omega (arith, hj)) (λ e. apart (omega (arith, e)))

none_refused : (ts : List TelegramContent) → All (λ t. IsGood t.header) ts → AllFit ts → NoneRefused ts
none_refused [] good fit = tt
none_refused (t ∷ earlier) good fit =
    let rest = none_refused earlier (All-tail (λ t. IsGood t.header) t earlier good) (λ i j d hi hj apart. fit (suc i) (suc j) d (omega (arith, hi)) (omega (arith, hj)) (λ e. apart (omega (arith, e)))) in (
      (
        All-head (λ t. IsGood t.header) t earlier good,
        λ u held.
            let place = list_from_held earlier u rest held in
            subst (λ (v : TelegramContent). Fit t v) place.2 (fit zero (suc place.0) u (omega arith) (omega (arith, place.1)) (λ e. absurd (omega (arith, e)))),
      ),
      rest,
    )

-- the place before of each place of the exchanged list
abbrev Stood : ℕ → ℕ → ℕ → ℕ → Type 0
Stood a b k m = ((k ≡ a) × (m ≡ b)) ⊎ (((k ≡ b) × (m ≡ a)) ⊎ ((k ≢ a) × (k ≢ b) × (m ≡ k)))

stood : (ts : List TelegramContent) (a b k : ℕ) (d : TelegramContent) → a < length ts → b < length ts → k < length ts → (m : ℕ) × (m < length ts) × (get_or ts m d ≡ get_or (swap ts a b) k d) × Stood a b k m
stood ts a b k d ha hb hk =
    let moved = swapped_from_swap ts (swap ts a b) a b d ha hb refl in
    elim (cases_eq k a) [
      | inl e ↦ (b, hb, subst (λ (n : ℕ). get_or ts b d ≡ get_or (swap ts a b) n d) (sym e) (sym moved.0), inl (e, refl))
      | inr not_a ↦ elim (cases_eq k b) [
        | inl e ↦ (a, ha, subst (λ (n : ℕ). get_or ts a d ≡ get_or (swap ts a b) n d) (sym e) (sym moved.1), inr (inl (e, refl)))
        | inr not_b ↦ (k, hk, sym (moved.2 k not_a not_b), inr (inr (not_a, not_b, refl)))
      ]
    ]

still_apart : (a b i j m n : ℕ) → i ≢ j → Stood a b i m → Stood a b j n → m ≢ n
still_apart a b i j m n apart (inl x) (inl y) e = apart (omega (arith, x.0, y.0))
still_apart a b i j m n apart (inl x) (inr (inl y)) e = apart (omega (arith, x.0, x.1, y.0, y.1, e))
still_apart a b i j m n apart (inl x) (inr (inr y)) e = y.1 (omega (arith, x.1, y.2, e))
still_apart a b i j m n apart (inr (inl x)) (inl y) e = apart (omega (arith, x.0, x.1, y.0, y.1, e))
still_apart a b i j m n apart (inr (inl x)) (inr (inl y)) e = apart (omega (arith, x.0, y.0))
still_apart a b i j m n apart (inr (inl x)) (inr (inr y)) e = y.0 (omega (arith, x.1, y.2, e))
still_apart a b i j m n apart (inr (inr x)) (inl y) e = x.1 (omega (arith, x.2, y.1, e))
still_apart a b i j m n apart (inr (inr x)) (inr (inl y)) e = x.0 (omega (arith, x.2, y.1, e))
still_apart a b i j m n apart (inr (inr x)) (inr (inr y)) e = apart (omega (arith, x.2, y.2, e))

fit_exchanged : (ts : List TelegramContent) (a b : ℕ) → a < length ts → b < length ts → AllFit ts → AllFit (swap ts a b)
fit_exchanged ts a b ha hb fit i j d hi hj apart =
    let len : length (swap ts a b) ≡ length ts = length-swap ts a b in
    let one = stood ts a b i d ha hb (omega (arith, hi, len)) in
    let two = stood ts a b j d ha hb (omega (arith, hj, len)) in
    let before : Fit (get_or ts one.0 d) (get_or ts two.0 d) = fit one.0 two.0 d one.1 two.1 (still_apart a b i j one.0 two.0 apart one.3 two.3) in
    subst (λ (v : TelegramContent). Fit (get_or (swap ts a b) i d) v) two.2 (subst (λ (u : TelegramContent). Fit u (get_or ts two.0 d)) one.2 before)

pub any_order : AnyOrder
any_order ts us moved none =
    let fit : AllFit us = IsPermutation-keeps ts AllFit (fit_all ts none) (λ l a b ha hb f. fit_exchanged l a b ha hb f) us moved in
    let good : All (λ (t : TelegramContent). IsGood t.header) us = All-permutation (λ t. IsGood t.header) ts us moved (good_all ts none) in
    let other : NoneRefused us = none_refused us good fit in (
      other,
      λ u. (
        λ h. held_from_list ts u none (Contains-permutation us ts u (IsPermutation-sym ts us moved) (list_from_held us u other h)),
        λ h. held_from_list us u other (Contains-permutation ts us u moved (list_from_held ts u none h)),
      ),
    )
