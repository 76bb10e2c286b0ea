-- A group is what its own telegrams make.
use Rattle.std.proofs.Common.{◌≡◌, ◌∙◌, refl, sym, ap, subst, ℕ, zero, suc, eqb, Bool, ◌&&◌, cond, List, [], ◌∷◌, ◌++◌, Option, Some, None, length, replicate, set, slice_get, inl, inr}
use mathlib.Core.List.{reverse_aux}
use Rattle.std.proofs.lemmas.Bool.{eqb-true, eq-eqb, and_from, and_parts, cases_Bool, cases_eq}
use Rattle.std.proofs.lemmas.Option.{same_Some, none-some, slice_get_within}
use Rattle.etcs_telegram.specs.Telegrams.{TelegramContent}
use Rattle.etcs_group.specs.declared.groups.Group.{Group}
use Rattle.etcs_group.specs.Groups.{Holds, HeldOf, IsHeldOf}
use Rattle.etcs_group.specs.ManyGroups.{IsOfNumbers, HasNone, GroupAfter, Adds, AddsAll, AreDistinct, empty_group}
use Rattle.etcs_group.specs.OneGroups.{OwnTelegrams, IsMadeOf, RefusedOf, own}
use Rattle.etcs_group.proofs.Adding.{joins_same, adds_from}
use Rattle.etcs_group.proofs.Places.{contains_place, place_contains, held_place, get_set-same, get_set-other}
use Rattle.etcs_group.proofs.ManyGroups.{push_cases, push_before, push_last}
use Rattle.etcs_group.proofs.OneGroups.{none_distinct, still_distinct}

-- a telegram is of these numbers
abbrev Is : ℕ → ℕ → TelegramContent → Type 0
Is c b t = (t.header.nid_c ≡ c) × (t.header.nid_bg ≡ b)

own_more : (c b : ℕ) (t : TelegramContent) (es : List TelegramContent) → Is c b t → own c b (t ∷ es) ≡ t ∷ own c b es
own_more c b t es is = ap (λ (x : Bool). cond x (t ∷ own c b es) (own c b es)) (and_from (eqb t.header.nid_c c) (eqb t.header.nid_bg b) (eq-eqb t.header.nid_c c is.0) (eq-eqb t.header.nid_bg b is.1))

own_same : (c b : ℕ) (t : TelegramContent) (es : List TelegramContent) → (Is c b t → ⊥) → own c b (t ∷ es) ≡ own c b es
own_same c b t es other = elim (cases_Bool (eqb t.header.nid_c c && eqb t.header.nid_bg b)) [
  | inl e ↦
      let both = and_parts (eqb t.header.nid_c c) (eqb t.header.nid_bg b) e in
      absurd (other (eqb-true t.header.nid_c c both.0, eqb-true t.header.nid_bg b both.1))
  | inr e ↦ ap (λ (x : Bool). cond x (t ∷ own c b es) (own c b es)) e
]

-- nothing is held at first
abbrev nothing : Option TelegramContent
nothing = None

no_slot : (n k : ℕ) (u : TelegramContent) → slice_get (replicate n nothing) k ≡ Some (Some u) → ⊥
no_slot zero k u e = none-some (Some u) e
no_slot (suc n) zero u e = none-some u (same_Some None (Some u) e)
no_slot (suc n) (suc k) u e = no_slot n k u e

held_of_none : IsHeldOf [] (replicate 8 None)
held_of_none u = (λ h. let place = held_place (replicate 8 None) u h in no_slot 8 place.0 u place.1, λ h. absurd h)

-- a clash is one of the telegram with what the others make
counted : (g h : Group) (t : TelegramContent) (es : List TelegramContent) → GroupAfter g t h → IsMadeOf es g → RefusedOf (t ∷ es) h.clashes
counted g h t es after made = elim after.clashes [
  | inl joins ↦ inl (joins_same (Holds g.held) (HeldOf es) t made.0 joins.0, subst (λ (n : ℕ). RefusedOf es n) (sym joins.1) made.1)
  | inr apart ↦ inr (λ j. apart.0 (joins_same (HeldOf es) (Holds g.held) t (λ u. ((made.0 u).1, (made.0 u).0)) j), (g.clashes, made.1, apart.1))
]

-- groups and the telegrams that they are of, the last of these first
record Kept (es : List TelegramContent) (gs : List Group) : Type 0 where
  distinct : AreDistinct gs
  made : (k : ℕ) (g : Group) → slice_get gs k ≡ Some g → IsMadeOf (own g.nid_c g.nid_bg es) g
  nowhere : (c b : ℕ) → HasNone gs c b → own c b es ≡ []

module _ (es : List TelegramContent) (old : List Group) (kept : Kept es old) (t : TelegramContent) where
  -- a group of other numbers
  apart : (k : ℕ) (g : Group) → slice_get old k ≡ Some g → (Is g.nid_c g.nid_bg t → ⊥) → IsMadeOf (own g.nid_c g.nid_bg (t ∷ es)) g
  apart k g at other = subst (λ (l : List TelegramContent). IsMadeOf l g) (sym (own_same g.nid_c g.nid_bg t es other)) (kept.made k g at)

  -- the group of the telegram
  same : (g h : Group) → IsOfNumbers t.header.nid_c t.header.nid_bg g → GroupAfter g t h → IsMadeOf (own g.nid_c g.nid_bg es) g → IsMadeOf (own h.nid_c h.nid_bg (t ∷ es)) h
  same g h of after before =
      let now : IsMadeOf (t ∷ own g.nid_c g.nid_bg es) h = (adds_from g.held h.held t after.held (own g.nid_c g.nid_bg es) before.0, counted g h t (own g.nid_c g.nid_bg es) after before) in
      let all : own g.nid_c g.nid_bg (t ∷ es) ≡ t ∷ own g.nid_c g.nid_bg es = own_more g.nid_c g.nid_bg t es (sym of.0, sym of.1) in
      let numbers : own h.nid_c h.nid_bg (t ∷ es) ≡ own g.nid_c g.nid_bg (t ∷ es) = ap (λ (n : ℕ). own n h.nid_bg (t ∷ es)) after.same.0 ∙ ap (λ (n : ℕ). own g.nid_c n (t ∷ es)) after.same.1 in
      subst (λ (l : List TelegramContent). IsMadeOf l h) (sym (numbers ∙ all)) now

  changes : (k : ℕ) (g h : Group) → slice_get old k ≡ Some g → IsOfNumbers t.header.nid_c t.header.nid_bg g → GroupAfter g t h → (j : ℕ) (x : Group) → slice_get (set old k h) j ≡ Some x → IsMadeOf (own x.nid_c x.nid_bg (t ∷ es)) x
  changes k g h at of after j x there = elim (cases_eq j k) [
    | inl e ↦
        let is_x : h ≡ x = same_Some h x (sym (get_set-same old k h (slice_get_within old k g at)) ∙ ap (slice_get (set old k h)) (sym e) ∙ there) in
        subst (λ (y : Group). IsMadeOf (own y.nid_c y.nid_bg (t ∷ es)) y) is_x (same g h of after (kept.made k g at))
    | inr other ↦
        let before : slice_get old j ≡ Some x = sym (get_set-other old k j h other) ∙ there in
        apart j x before (λ is. other (kept.distinct j k x g before at (sym is.0 ∙ sym of.0, sym is.1 ∙ sym of.1)))
  ]

  begins : (h : Group) → HasNone old t.header.nid_c t.header.nid_bg → GroupAfter (empty_group t.header.nid_c t.header.nid_bg) t h → (j : ℕ) (x : Group) → slice_get (old ++ h ∷ []) j ≡ Some x → IsMadeOf (own x.nid_c x.nid_bg (t ∷ es)) x
  begins h none after j x there =
      let one : Group = empty_group t.header.nid_c t.header.nid_bg in
      elim (push_cases old h j x there) [
        | inl before ↦ apart j x before (λ is. none x (place_contains old j x before) (sym is.0, sym is.1))
        | inr last ↦
            let first : IsMadeOf (own one.nid_c one.nid_bg es) one = subst (λ (l : List TelegramContent). IsMadeOf l one) (sym (kept.nowhere t.header.nid_c t.header.nid_bg none)) (held_of_none, refl) in
            subst (λ (y : Group). IsMadeOf (own y.nid_c y.nid_bg (t ∷ es)) y) (sym last.1) (same one h (refl, refl) after first)
      ]

  -- each group is still there, and that of the telegram
  found : (new : List Group) → Adds old t new → (c b : ℕ) → HasNone new c b → HasNone old c b × (Is c b t → ⊥)
  found new (inl (k, g, h, at, of, after, is)) c b none =
      let here : slice_get new k ≡ Some h = ap (λ (l : List Group). slice_get l k) is ∙ get_set-same old k h (slice_get_within old k g at) in (
        λ x there numbers.
            let place = contains_place old x there in
            elim (cases_eq place.0 k) [
              | inl e ↦
                  let is_g : x ≡ g = same_Some x g (sym place.1 ∙ ap (slice_get old) e ∙ at) in
                  none h (place_contains new k h here) (after.same.0 ∙ sym (ap (λ (y : Group). y.nid_c) is_g) ∙ numbers.0, after.same.1 ∙ sym (ap (λ (y : Group). y.nid_bg) is_g) ∙ numbers.1)
              | inr other ↦ none x (place_contains new place.0 x (ap (λ (l : List Group). slice_get l place.0) is ∙ get_set-other old k place.0 h other ∙ place.1)) numbers
            ],
        λ numbers. none h (place_contains new k h here) (after.same.0 ∙ of.0 ∙ numbers.0, after.same.1 ∙ of.1 ∙ numbers.1),
      )
  found new (inr (apart_from, (h, after, is))) c b none = (
    λ x there numbers.
        let place = contains_place old x there in
        none x (place_contains new place.0 x (ap (λ (l : List Group). slice_get l place.0) is ∙ push_before old h place.0 x place.1)) numbers,
    λ numbers. none h (place_contains new (length old) h (ap (λ (l : List Group). slice_get l (length old)) is ∙ push_last old h)) (after.same.0 ∙ numbers.0, after.same.1 ∙ numbers.1),
  )

  still_made : (new : List Group) → Adds old t new → (j : ℕ) (x : Group) → slice_get new j ≡ Some x → IsMadeOf (own x.nid_c x.nid_bg (t ∷ es)) x
  still_made new (inl (k, g, h, at, of, after, is)) j x there = changes k g h at of after j x (ap (λ (l : List Group). slice_get l j) (sym is) ∙ there)
  still_made new (inr (none, (h, after, is))) j x there = begins h none after j x (ap (λ (l : List Group). slice_get l j) (sym is) ∙ there)

  still_kept : (new : List Group) → Adds old t new → Kept (t ∷ es) new
  still_kept new add = record {
    distinct = still_distinct old kept.distinct t new add;
    made = still_made new add;
    nowhere = λ c b none. let before = found new add c b none in own_same c b t es before.1 ∙ kept.nowhere c b before.0;
  }

kept_all : (es : List TelegramContent) (old : List Group) → Kept es old → (ts : List TelegramContent) (new : List Group) → AddsAll old ts new → Kept (reverse_aux ts es) new
kept_all es old kept [] new is = subst (λ (l : List Group). Kept es l) (sym is) kept
kept_all es old kept (t ∷ ts) new (mid, add, rest) = kept_all (t ∷ es) mid (still_kept es old kept t mid add) ts new rest

kept_none : Kept [] []
kept_none = record { distinct = none_distinct; made = λ k g at. absurd (none-some g at); nowhere = λ c b none. refl }

pub own_telegrams : OwnTelegrams
own_telegrams ts gs g are there =
    let place = contains_place gs g there in
    (kept_all [] [] kept_none ts gs are).made place.0 g place.1
