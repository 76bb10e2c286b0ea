-- Groups by their numbers, and the map of their places.
use Rattle.std.proofs.Common.{◌≡◌, ◌≢◌, ◌⊎◌, ◌∙◌, refl, sym, ap, subst, ℕ, zero, suc, ◌+◌, ◌<◌, arith, true, false, List, [], ◌∷◌, ◌++◌, Option, Some, None, IfSome, IfNone, length, set, slice_get, slice_index_or, inl, inr}
use Rattle.std.specs.Prelude.{Result, Ok, Err, OnOk, is_err}
use Rattle.std.specs.Ordering.{nat_cmp}
use Rattle.std.specs.BTreeMap.{BTreeMap, get, is_at, Updates}
use Rattle.std.proofs.lemmas.Bool.{both_ways, cases_eq}
use Rattle.std.proofs.lemmas.Bool.Decides.{nat_tests}
use Rattle.std.proofs.lemmas.Option.{same_Some, none-some, slice_get_within, slice_get_read}
use Rattle.etcs_telegram.specs.Telegrams.{TelegramContent, HeaderValue}
use Rattle.etcs_group.specs.declared.clash.Clash.{Clash}
use Rattle.etcs_group.specs.declared.groups.Group.{Group}
use Rattle.etcs_group.specs.Clashes.{IsFirstClash}
use Rattle.etcs_group.specs.Groups.{Joins}
use Rattle.etcs_group.specs.ManyGroups.{IsOfNumbers, IsGroupOf, IsClashWith, HasNone, GroupAfter, Adds, AddsAll, AreDistinct, Indexes, Opens, empty_group, group_key}
use Rattle.etcs_group.proofs.Places.{place_contains, get_set-same, get_set-other}

-- a list after a push
pub push_cases : {X : Type 0} (xs : List X) (y : X) (k : ℕ) (x : X) → slice_get (xs ++ y ∷ []) k ≡ Some x → (slice_get xs k ≡ Some x) ⊎ ((k ≡ length xs) × (x ≡ y))
push_cases [] y zero x e = inr (refl, sym (same_Some y x e))
push_cases [] y (suc k) x e = absurd (none-some x e)
push_cases (z ∷ zs) y zero x e = inl e
push_cases (z ∷ zs) y (suc k) x e = elim (push_cases zs y k x e) [ inl h ↦ inl h | inr h ↦ inr (ap suc h.0, h.1) ]

pub push_before : {X : Type 0} (xs : List X) (y : X) (k : ℕ) (x : X) → slice_get xs k ≡ Some x → slice_get (xs ++ y ∷ []) k ≡ Some x
push_before [] y k x e = absurd (none-some x e)
push_before (z ∷ zs) y zero x e = e
push_before (z ∷ zs) y (suc k) x e = push_before zs y k x e

pub push_last : {X : Type 0} (xs : List X) (y : X) → slice_get (xs ++ y ∷ []) (length xs) ≡ Some y
push_last [] y = refl
push_last (z ∷ zs) y = push_last zs y

set_last : {X : Type 0} (xs : List X) (y z : X) → set (xs ++ y ∷ []) (length xs) z ≡ xs ++ z ∷ []
set_last [] y z = refl
set_last (x ∷ xs) y z = ap (λ (l : List _). x ∷ l) (set_last xs y z)

-- a number of each NID_C and NID_BG
same_numbers : (c b d e : ℕ) → b < 65536 → e < 65536 → group_key c b ≡ group_key d e → (c ≡ d) × (b ≡ e)
same_numbers c b d e hb he same = (omega (arith, hb, he, same), omega (arith, hb, he, same))

-- a map that has one place more
record Put (old : BTreeMap ℕ ℕ) (new : BTreeMap ℕ ℕ) (key k : ℕ) : Type 0 where
  here : get nat_cmp new key ≡ Some k
  apart : (q : ℕ) → q ≢ key → get nat_cmp new q ≡ get nat_cmp old q

other_key : (key q : ℕ) → q ≢ key → is_at (nat_cmp key) q ≡ false
other_key key q h = grind (arith, nat_tests)

put_from : (old new : BTreeMap ℕ ℕ) (key k : ℕ) → Updates nat_cmp old new key (Some k) → Put old new key k
put_from old new key k u = record { here = u.1; apart = λ q h. u.2 q (other_key key q h) }

module _ (places : BTreeMap ℕ ℕ) (gs : List Group) (index : Indexes places gs) where
  pub distinct : AreDistinct gs
  distinct i j g h at_i at_j same =
      let keys : group_key g.nid_c g.nid_bg ≡ group_key h.nid_c h.nid_bg = ap (λ (n : ℕ). group_key n g.nid_bg) same.0 ∙ ap (λ (n : ℕ). group_key h.nid_c n) same.1 in
      same_Some i j (sym (index.found i g at_i) ∙ ap (get nat_cmp places) keys ∙ index.found j h at_j)

  -- the place of a group that has none of the numbers
  pub pushed : (new : BTreeMap ℕ ℕ) (nid_c nid_bg : ℕ) → HasNone gs nid_c nid_bg → nid_bg < 65536 → Updates nat_cmp places new (group_key nid_c nid_bg) (Some (length gs)) → Indexes new (gs ++ empty_group nid_c nid_bg ∷ [])
  pushed new nid_c nid_bg none small updates =
      let key : ℕ = group_key nid_c nid_bg in
      let put : Put places new key (length gs) = put_from places new key (length gs) updates in
      record {
        small = λ k g at. elim (push_cases gs (empty_group nid_c nid_bg) k g at) [
          | inl old ↦ index.small k g old
          | inr last ↦ subst (λ (x : Group). x.nid_bg < 65536) (sym last.1) small
        ];
        found = λ k g at. elim (push_cases gs (empty_group nid_c nid_bg) k g at) [
          | inl old ↦
              put.apart (group_key g.nid_c g.nid_bg) (λ same. none g (place_contains gs k g old) (same_numbers g.nid_c g.nid_bg nid_c nid_bg (index.small k g old) small same))
              ∙ index.found k g old
          | inr last ↦
              ap (λ (x : Group). get nat_cmp new (group_key x.nid_c x.nid_bg)) last.1 ∙ put.here ∙ ap Some (sym last.0)
        ];
        there = λ q k at. elim (cases_eq q key) [
          | inl same ↦
              let last : length gs ≡ k = same_Some (length gs) k (sym put.here ∙ sym (ap (get nat_cmp new) same) ∙ at) in
              (empty_group nid_c nid_bg, subst (λ (n : ℕ). slice_get (gs ++ empty_group nid_c nid_bg ∷ []) n ≡ Some (empty_group nid_c nid_bg)) last (push_last gs (empty_group nid_c nid_bg)), sym same)
          | inr other ↦
              let old = index.there q k (sym (put.apart q other) ∙ at) in
              (old.0, push_before gs (empty_group nid_c nid_bg) k old.0 old.1, old.2)
        ];
      }

  -- a group that changes, but for its numbers
  pub changed : (k : ℕ) (g h : Group) → slice_get gs k ≡ Some g → IsOfNumbers g.nid_c g.nid_bg h → Indexes places (set gs k h)
  changed k g h at same =
      let within : k < length gs = slice_get_within gs k g at in
      let now : slice_get (set gs k h) k ≡ Some h = get_set-same gs k h within in
      let keys : group_key h.nid_c h.nid_bg ≡ group_key g.nid_c g.nid_bg = ap (λ (n : ℕ). group_key n h.nid_bg) same.0 ∙ ap (λ (n : ℕ). group_key g.nid_c n) same.1 in
      let is_h : (j : ℕ) (x : Group) → j ≡ k → slice_get (set gs k h) j ≡ Some x → h ≡ x = λ j x e there. same_Some h x (sym now ∙ ap (slice_get (set gs k h)) (sym e) ∙ there) in
      record {
        small = λ j x there. elim (cases_eq j k) [
          | inl e ↦ subst (λ (y : Group). y.nid_bg < 65536) (is_h j x e there) (subst (λ (n : ℕ). n < 65536) (sym same.1) (index.small k g at))
          | inr other ↦ index.small j x (sym (get_set-other gs k j h other) ∙ there)
        ];
        found = λ j x there. elim (cases_eq j k) [
          | inl e ↦
              ap (λ (y : Group). get nat_cmp places (group_key y.nid_c y.nid_bg)) (sym (is_h j x e there)) ∙ ap (get nat_cmp places) keys ∙ index.found k g at ∙ ap Some (sym e)
          | inr other ↦ index.found j x (sym (get_set-other gs k j h other) ∙ there)
        ];
        there = λ q j found. let old = index.there q j found in elim (cases_eq j k) [
          | inl e ↦
              let is_g : g ≡ old.0 = same_Some g old.0 (sym at ∙ ap (slice_get gs) (sym e) ∙ old.1) in
              (h, ap (slice_get (set gs k h)) e ∙ now, keys ∙ ap (λ (y : Group). group_key y.nid_c y.nid_bg) is_g ∙ old.2)
          | inr other ↦ (old.0, get_set-other gs k j h other ∙ old.1, old.2)
        ];
      }

-- and with what is known at a call
pub pushed_as : (places new : BTreeMap ℕ ℕ) (gs after : List Group) (nid_c nid_bg key k : ℕ) → Indexes places gs → HasNone gs nid_c nid_bg → nid_bg < 65536 → key ≡ group_key nid_c nid_bg → k ≡ length gs → Updates nat_cmp places new key (Some k) → after ≡ gs ++ empty_group nid_c nid_bg ∷ [] → Indexes new after
pushed_as places new gs after nid_c nid_bg key k index none small is_key is_last updates is_after =
    let at_key : Updates nat_cmp places new (group_key nid_c nid_bg) (Some k) = subst (λ (n : ℕ). Updates nat_cmp places new n (Some k)) is_key updates in
    let all : Updates nat_cmp places new (group_key nid_c nid_bg) (Some (length gs)) = subst (λ (n : ℕ). Updates nat_cmp places new (group_key nid_c nid_bg) (Some n)) is_last at_key in
    subst (λ (l : List Group). Indexes new l) (sym is_after) (pushed places gs index new nid_c nid_bg none small all)

pub on_ok : {T E P : Type 0} (r : Result T E) → is_err r ≡ false → OnOk r P → P
on_ok (Ok x) e p = p
on_ok (Err x) e p = absurd (both_ways true e refl)

-- what was opened, as it is seen after it
opens_here : (old mid seen : List Group) (t : TelegramContent) (h : HeaderValue) (nid_c nid_bg k : ℕ) → h ≡ t.header → nid_c ≡ h.nid_c → nid_bg ≡ h.nid_bg → seen ≡ mid → Opens old nid_c nid_bg k mid → Opens old t.header.nid_c t.header.nid_bg k seen
opens_here old mid seen t h nid_c nid_bg k is_h is_c is_bg is_seen opens =
    let one : Opens old nid_c t.header.nid_bg k mid = subst (λ (n : ℕ). Opens old nid_c n k mid) (is_bg ∙ ap (λ (x : HeaderValue). x.nid_bg) is_h) opens in
    let both : Opens old t.header.nid_c t.header.nid_bg k mid = subst (λ (n : ℕ). Opens old n t.header.nid_bg k mid) (is_c ∙ ap (λ (x : HeaderValue). x.nid_c) is_h) one in
    subst (λ (l : List Group). Opens old t.header.nid_c t.header.nid_bg k l) (sym is_seen) both

-- the group at the place
opened : (old mid : List Group) (nid_c nid_bg k : ℕ) → Opens old nid_c nid_bg k mid → (g : Group) × (slice_get mid k ≡ Some g) × IsOfNumbers nid_c nid_bg g
opened old mid nid_c nid_bg k (inl there) = (there.1.0, ap (λ (l : List Group). slice_get l k) there.0 ∙ there.1.1, there.1.2)
opened old mid nid_c nid_bg k (inr begun) =
    (empty_group nid_c nid_bg, ap (λ (l : List Group). slice_get l k) begun.0 ∙ ap (slice_get (old ++ empty_group nid_c nid_bg ∷ [])) begun.1 ∙ push_last old (empty_group nid_c nid_bg), (refl, refl))

-- so the place is there
pub within : (old mid seen : List Group) (nid_c nid_bg k : ℕ) → seen ≡ mid → Opens old nid_c nid_bg k mid → k < length seen
within old mid seen nid_c nid_bg k is_seen opens =
    let at = opened old mid nid_c nid_bg k opens in
    slice_get_within seen k at.0 (ap (λ (l : List Group). slice_get l k) is_seen ∙ at.1)

-- the groups once it has the telegram
added_to : (old mid : List Group) (t : TelegramContent) (k : ℕ) (g h : Group) → Opens old t.header.nid_c t.header.nid_bg k mid → slice_get mid k ≡ Some g → GroupAfter g t h → Adds old t (set mid k h)
added_to old mid t k g h (inl there) at after =
    let is_g : there.1.0 ≡ g = same_Some there.1.0 g (sym there.1.1 ∙ ap (λ (l : List Group). slice_get l k) (sym there.0) ∙ at) in
    inl (k, g, h, ap (λ (l : List Group). slice_get l k) (sym there.0) ∙ at, subst (IsOfNumbers t.header.nid_c t.header.nid_bg) is_g there.1.2, after, ap (λ (l : List Group). set l k h) there.0)
added_to old mid t k g h (inr begun) at after =
    let one : Group = empty_group t.header.nid_c t.header.nid_bg in
    let is_g : g ≡ one = same_Some g one (sym at ∙ ap (λ (l : List Group). slice_get l k) begun.0 ∙ ap (slice_get (old ++ one ∷ [])) begun.1 ∙ push_last old one) in
    inr (begun.2, (h, subst (λ (x : Group). GroupAfter x t h) is_g after, ap (λ (l : List Group). set l k h) begun.0 ∙ ap (λ (n : ℕ). set (old ++ one ∷ []) n h) begun.1 ∙ set_last old one h))

-- one telegram more
pub adds_all_more : (old : List Group) (ts : List TelegramContent) (mid : List Group) (t : TelegramContent) (new : List Group) → AddsAll old ts mid → Adds mid t new → AddsAll old (ts ++ t ∷ []) new
adds_all_more old [] mid t new none add = (new, subst (λ (l : List Group). Adds l t new) none add, refl)
adds_all_more old (x ∷ xs) mid t new all add = (all.0, all.1, adds_all_more all.0 xs mid t new all.2 add)

-- the group that a telegram is added to
group_of : (old mid : List Group) (t : TelegramContent) (k : ℕ) (g : Group) → Opens old t.header.nid_c t.header.nid_bg k mid → slice_get mid k ≡ Some g → IsGroupOf old t.header.nid_c t.header.nid_bg g
group_of old mid t k g (inl there) at =
    let there_now : slice_get old k ≡ Some g = ap (λ (l : List Group). slice_get l k) (sym there.0) ∙ at in
    inl (place_contains old k g there_now, subst (IsOfNumbers t.header.nid_c t.header.nid_bg) (same_Some there.1.0 g (sym there.1.1 ∙ there_now)) there.1.2)
group_of old mid t k g (inr begun) at =
    let one : Group = empty_group t.header.nid_c t.header.nid_bg in
    inr (begun.2, same_Some g one (sym at ∙ ap (λ (l : List Group). slice_get l k) begun.0 ∙ ap (slice_get (old ++ one ∷ [])) begun.1 ∙ push_last old one))

pub clash_with : (gs : List Group) (t : TelegramContent) (g : Group) (o : Option Clash) → IsGroupOf gs t.header.nid_c t.header.nid_bg g → IfSome o (λ c. IsFirstClash c g.held t) → IfNone o (Joins g.held t) → IsClashWith gs t o
clash_with gs t g None is some none = (g, is, none)
clash_with gs t g (Some c) is some none = (g, is, some)

-- what is known of the group of a telegram once it has it
pub record Had (old mid : List Group) (t : TelegramContent) (k : ℕ) (g h : Group) : Type 0 where
  pub of : IsGroupOf old t.header.nid_c t.header.nid_bg g
  pub at : slice_get mid k ≡ Some g
  pub same : IsOfNumbers g.nid_c g.nid_bg h
  pub adds : Adds old t (set mid k h)

had : (old mid : List Group) (t : TelegramContent) (k : ℕ) (g h : Group) → Opens old t.header.nid_c t.header.nid_bg k mid → g ≡ slice_index_or mid k g → k < length mid → GroupAfter g t h → Had old mid t k g h
had old mid t k g h opens read within after =
    let at : slice_get mid k ≡ Some g = slice_get_read mid (length mid) k g refl within read in
    record { of = group_of old mid t k g opens at; at = at; same = after.same; adds = added_to old mid t k g h opens at after }

-- and with what is known at a call
pub had_here : (old mid seen : List Group) (t : TelegramContent) (header : HeaderValue) (nid_c nid_bg k : ℕ) (g h : Group) → header ≡ t.header → nid_c ≡ header.nid_c → nid_bg ≡ header.nid_bg → seen ≡ mid → Opens old nid_c nid_bg k mid → g ≡ slice_index_or seen k g → GroupAfter g t h → Had old seen t k g h
had_here old mid seen t header nid_c nid_bg k g h is_header is_c is_bg is_seen opens read after =
    let here = opens_here old mid seen t header nid_c nid_bg k is_header is_c is_bg is_seen opens in
    had old seen t k g h here read (within old mid seen nid_c nid_bg k is_seen opens) after
