-- What an add leaves in the places.
use Rattle.std.proofs.Common.{◌≡◌, ◌⊎◌, ◌∙◌, refl, sym, ap, subst, ℕ, ◌<◌, arith, true, false, List, ◌∷◌, Option, Some, None, is_some, length, set, get_or, slice_get, inl, inr, length-set, ◌↔◌}
use Rattle.std.proofs.lemmas.Bool.{both_ways, cases_eq}
use Rattle.std.proofs.lemmas.Option.{same_Some, none-some, slice_get_read}
use Rattle.etcs_telegram.specs.Telegrams.{TelegramContent}
use Rattle.etcs_group.specs.Groups.{Alike, JoinsSet, SetAfter, HeldOf, Holds, Joins, HeldAfter, IsHeldOf, IsGroup}
use Rattle.etcs_group.proofs.Places.{held_place, place_held, get_set-same, get_set-other}

pub is_none : {X : Type 0} (o : Option X) → is_some o ≡ false → o ≡ None
is_none None e = refl
is_none (Some x) e = absurd (both_ways true e refl)

pub is_there : {X : Type 0} (o : Option X) → is_some o ≡ true → (x : X) × (o ≡ Some x)
is_there None e = absurd (both_ways false refl e)
is_there (Some x) e = (x, refl)

-- what an add makes of the same set is the same
pub joins_same : (A B : TelegramContent → Type 0) (t : TelegramContent) → ((u : TelegramContent) → A u ↔ B u) → JoinsSet A t → JoinsSet B t
joins_same A B t same j = (j.0, λ u h. j.1 u ((same u).1 h))

after_same : (A B : TelegramContent → Type 0) (t u : TelegramContent) → ((v : TelegramContent) → A v ↔ B v) → SetAfter A t u → SetAfter B t u
after_same A B t u same (inl h) = inl ((same u).0 h)
after_same A B t u same (inr h) = inr (joins_same A B t same h.0, h.1)

pub adds_from : (old new : List (Option TelegramContent)) (t : TelegramContent) → HeldAfter old t new → (earlier : List TelegramContent) → IsHeldOf earlier old → IsHeldOf (t ∷ earlier) new
adds_from old new t after earlier held u =
    (λ h. after_same (Holds old) (HeldOf earlier) t u held ((after u).0 h), λ h. (after u).1 (after_same (HeldOf earlier) (Holds old) t u (λ v. ((held v).1, (held v).0)) h))

pub after_refused : (slots : List (Option TelegramContent)) (t : TelegramContent) → (Joins slots t → ⊥) → HeldAfter slots t slots
after_refused slots t not_joins u = (λ h. inl h, λ h. elim h [ inl held ↦ held | inr joins ↦ absurd (not_joins joins.0) ])

pub after_repeat : (slots : List (Option TelegramContent)) (t : TelegramContent) → Holds slots t → HeldAfter slots t slots
after_repeat slots t there u = (λ h. inl h, λ h. elim h [ inl held ↦ held | inr joins ↦ subst (λ (v : TelegramContent). Holds slots v) (sym joins.1) there ])

-- a telegram that joins and finds its place taken is the one that is held there
pub held_there : (slots : List (Option TelegramContent)) (t : TelegramContent) → IsGroup slots → Joins slots t → (o : Option TelegramContent) → slice_get slots t.header.n_pig ≡ Some o → is_some o ≡ true → Holds slots t
held_there slots t group joins o at some =
    let one = is_there o some in
    let place : slice_get slots t.header.n_pig ≡ Some (Some one.0) = at ∙ ap Some one.1 in
    let held : Holds slots one.0 = place_held slots t.header.n_pig one.0 place in
    let same : t ≡ one.0 = (joins.1 one.0 held).same (sym (group.placed t.header.n_pig one.0 place)) in
    subst (λ (v : TelegramContent). Holds slots v) (sym same) held

module _ (slots : List (Option TelegramContent)) (t : TelegramContent) (group : IsGroup slots) (joins : Joins slots t) (free : slice_get slots t.header.n_pig ≡ Some None) (within : t.header.n_pig < length slots) where
  -- nothing is held at its position
  pub nothing_there : (u : TelegramContent) → Holds slots u → u.header.n_pig ≡ t.header.n_pig → ⊥
  nothing_there u held e =
      let place = held_place slots u held in
      let here : place.0 ≡ t.header.n_pig = sym (group.placed place.0 u place.1) ∙ e in
      let taken : slice_get slots t.header.n_pig ≡ Some (Some u) = subst (λ (k : ℕ). slice_get slots k ≡ Some (Some u)) here place.1 in
      none-some u (same_Some None (Some u) (sym free ∙ taken))

  placed_now : (k : ℕ) (u : TelegramContent) → slice_get (set slots t.header.n_pig (Some t)) k ≡ Some (Some u) → ((k ≡ t.header.n_pig) × (u ≡ t)) ⊎ (slice_get slots k ≡ Some (Some u))
  placed_now k u place = elim (cases_eq k t.header.n_pig) [
    | inl e ↦
        let here : slice_get (set slots t.header.n_pig (Some t)) t.header.n_pig ≡ Some (Some u) = subst (λ (n : ℕ). slice_get (set slots t.header.n_pig (Some t)) n ≡ Some (Some u)) e place in
        let same : Some (Some t) ≡ Some (Some u) = sym (get_set-same slots t.header.n_pig (Some t) within) ∙ here in
        inl (e, sym (same_Some t u (same_Some (Some t) (Some u) same)))
    | inr apart ↦ inr (sym (get_set-other slots t.header.n_pig k (Some t) apart) ∙ place)
  ]

  held_now : (u : TelegramContent) → Holds (set slots t.header.n_pig (Some t)) u → (u ≡ t) ⊎ Holds slots u
  held_now u held =
      let place = held_place (set slots t.header.n_pig (Some t)) u held in
      elim (placed_now place.0 u place.1) [ inl e ↦ inl e.1 | inr there ↦ inr (place_held slots place.0 u there) ]

  still_held : (u : TelegramContent) → Holds slots u → Holds (set slots t.header.n_pig (Some t)) u
  still_held u held =
      let place = held_place slots u held in
      let apart : place.0 ≡ t.header.n_pig → ⊥ = λ e. nothing_there u held (group.placed place.0 u place.1 ∙ e) in
      place_held (set slots t.header.n_pig (Some t)) place.0 u (get_set-other slots t.header.n_pig place.0 (Some t) apart ∙ place.1)

  pub after_new : HeldAfter slots t (set slots t.header.n_pig (Some t))
  after_new u = (
    λ held. elim (held_now u held) [ inl e ↦ inr (joins, e) | inr old ↦ inl old ],
    λ h. elim h [
      | inl old ↦ still_held u old
      | inr new ↦ subst (λ (v : TelegramContent). Holds (set slots t.header.n_pig (Some t)) v) (sym new.1) (place_held (set slots t.header.n_pig (Some t)) t.header.n_pig t (get_set-same slots t.header.n_pig (Some t) within))
    ],
  )

  alike_now : (u v : TelegramContent) → ((u ≡ t) ⊎ Holds slots u) → ((v ≡ t) ⊎ Holds slots v) → Alike u v
  alike_now u v (inl e) (inl f) = let same : u ≡ v = e ∙ sym f in subst (λ (w : TelegramContent). Alike u w) same (record { country = refl; group = refl; total = refl })
  alike_now u v (inl e) (inr old) = subst (λ (w : TelegramContent). Alike w v) (sym e) (joins.1 v old).alike
  alike_now u v (inr old) (inl f) =
      let fits = (joins.1 u old).alike in
      subst (λ (w : TelegramContent). Alike u w) (sym f) (record { country = sym fits.country; group = sym fits.group; total = sym fits.total })
  alike_now u v (inr old) (inr there) = group.alike u v old there

  pub group_now : t.header.n_total < 8 → IsGroup (set slots t.header.n_pig (Some t))
  group_now small = record {
    eight = length-set slots t.header.n_pig (Some t) ∙ group.eight;
    placed = λ k u place. elim (placed_now k u place) [
      | inl e ↦ ap (λ (v : TelegramContent). v.header.n_pig) e.1 ∙ sym e.0
      | inr there ↦ group.placed k u there
    ];
    small = λ u held. elim (held_now u held) [
      | inl e ↦ subst (λ (v : TelegramContent). v.header.n_total < 8) (sym e) small
      | inr old ↦ group.small u old
    ];
    alike = λ u v hu hv. alike_now u v (held_now u hu) (held_now v hv);
  }

-- what a call knows: `held` are the places as they lie, and `now` is what is seen of them
pub record Added (now : List (Option TelegramContent)) (t : TelegramContent) (new : List (Option TelegramContent)) : Type 0 where
  pub joins : Joins now t
  pub fresh : Holds now t → ⊥
  pub after : HeldAfter now t new

pub added : (held now : List (Option TelegramContent)) (p : ℕ) (t : TelegramContent) (o : Option TelegramContent) → held ≡ now → p ≡ t.header.n_pig → IsGroup held → Joins held t → o ≡ get_or held p o → is_some o ≡ false → p < 8 → Added now t (set held p (Some t))
added held now p t o seen at group joins read none small =
    let within : p < length held = omega (arith, group.eight, small) in
    let free : slice_get held p ≡ Some None = slice_get_read held 8 p o (sym group.eight) small read ∙ ap Some (is_none o none) in
    let free_there : slice_get held t.header.n_pig ≡ Some None = subst (λ (k : ℕ). slice_get held k ≡ Some None) at free in
    let within_there : t.header.n_pig < length held = subst (λ (k : ℕ). k < length held) at within in
    let all : Added held t (set held t.header.n_pig (Some t)) = record {
      joins = joins;
      fresh = λ there. nothing_there held t group joins free_there within_there t there refl;
      after = after_new held t group joins free_there within_there;
    } in
    subst (λ (n : List (Option TelegramContent)). Added n t (set held p (Some t))) seen (subst (λ (k : ℕ). Added held t (set held k (Some t))) (sym at) all)

pub group_after : (held : List (Option TelegramContent)) (p : ℕ) (t : TelegramContent) (o : Option TelegramContent) → p ≡ t.header.n_pig → IsGroup held → Joins held t → o ≡ get_or held p o → is_some o ≡ false → p < 8 → t.header.n_total < 8 → IsGroup (set held p (Some t))
group_after held p t o at group joins read none small total =
    let within : p < length held = omega (arith, group.eight, small) in
    let free : slice_get held p ≡ Some None = slice_get_read held 8 p o (sym group.eight) small read ∙ ap Some (is_none o none) in
    let free_there : slice_get held t.header.n_pig ≡ Some None = subst (λ (k : ℕ). slice_get held k ≡ Some None) at free in
    let within_there : t.header.n_pig < length held = subst (λ (k : ℕ). k < length held) at within in
    subst (λ (k : ℕ). IsGroup (set held k (Some t))) (sym at) (group_now held t group joins free_there within_there total)

pub record Repeated (now : List (Option TelegramContent)) (t : TelegramContent) : Type 0 where
  pub joins : Joins now t
  pub there : Holds now t

pub repeated : (held now : List (Option TelegramContent)) (p : ℕ) (t : TelegramContent) (o : Option TelegramContent) → held ≡ now → p ≡ t.header.n_pig → IsGroup held → Joins held t → o ≡ get_or held p o → is_some o ≡ true → p < 8 → Repeated now t
repeated held now p t o seen at group joins read some small =
    let place : slice_get held p ≡ Some o = slice_get_read held 8 p o (sym group.eight) small read in
    let there : Holds held t = held_there held t group joins o (subst (λ (k : ℕ). slice_get held k ≡ Some o) at place) some in
    subst (λ (n : List (Option TelegramContent)). Repeated n t) seen (record { joins = joins; there = there })
