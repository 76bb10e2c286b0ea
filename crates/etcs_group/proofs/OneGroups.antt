-- Telegrams make one list of groups, and groups have one text.
use Rattle.std.proofs.Common.{◌≡◌, ◌∙◌, refl, sym, ap, subst, ℕ, zero, suc, ◌<◌, arith, Bool, true, false, List, [], ◌∷◌, ◌++◌, Option, Some, None, length, get_or, set, slice_get, inl, inr}
use Rattle.std.specs.Prelude.{codes, if◌then◌else◌, slice_index_or}
use Rattle.std.specs.Fmt.{decimal}
use Rattle.std.proofs.lemmas.Bool.{both_ways, cases_eq, cases_lt}
use Rattle.std.proofs.lemmas.List.{same_lists, get_or_past}
use Rattle.std.proofs.lemmas.Option.{same_Some, none-some, slice_get_within, slice_get-get_or, get_or_from_slice_get}
use Rattle.etcs_telegram.specs.Telegrams.{TelegramContent}
use Rattle.etcs_group.specs.declared.groups.Group.{Group}
use Rattle.etcs_group.specs.Groups.{IsGroup, Holds}
use Rattle.etcs_group.specs.ManyGroups.{IsOfNumbers, GroupAfter, Adds, AddsAll, AreDistinct, empty_group}
use Rattle.etcs_group.specs.GroupLines.{AreMissing, StateText, IsGroupLine, trues, positions_text, clashes_text}
use Rattle.etcs_group.specs.OneGroups.{OneList, OneOfEach, OneText}
use Rattle.etcs_group.proofs.Places.{held_place, place_held, place_contains, get_set-same, get_set-other}
use Rattle.etcs_group.proofs.ManyGroups.{push_cases}

-- ---- What is held lies in one way.

-- a telegram lies at its position
pub at_position : (held : List (Option TelegramContent)) → IsGroup held → (p : ℕ) (t : TelegramContent) → Holds held t → t.header.n_pig ≡ p → slice_get held p ≡ Some (Some t)
at_position held group p t h e =
    let place = held_place held t h in
    let here : place.0 ≡ p = sym (group.placed place.0 t place.1) ∙ e in
    subst (λ (n : ℕ). slice_get held n ≡ Some (Some t)) here place.1

module _ (a b : List (Option TelegramContent)) (ga : IsGroup a) (gb : IsGroup b) (more : (u : TelegramContent) → Holds a u → Holds b u) (back : (u : TelegramContent) → Holds b u → Holds a u) where
  same_place : (p : ℕ) (x y : Option TelegramContent) → slice_get a p ≡ Some x → slice_get b p ≡ Some y → x ≡ y
  same_place p None None e f = refl
  same_place p (Some t) y e f = same_Some (Some t) y (sym (at_position b gb p t (more t (place_held a p t e)) (ga.placed p t e)) ∙ f)
  same_place p None (Some u) e f = absurd (none-some u (same_Some None (Some u) (sym e ∙ at_position a ga p u (back u (place_held b p u f)) (gb.placed p u f))))

  pub same_slots : a ≡ b
  same_slots =
      let long : length a ≡ length b = ga.eight ∙ sym gb.eight in
      same_lists a b long (λ p d within. same_place p (get_or a p d) (get_or b p d) (slice_get-get_or a p d within) (slice_get-get_or b p d (omega (arith, within, long))))

-- ---- A group after an add is one.

abbrev made : ℕ → ℕ → List (Option TelegramContent) → ℕ → Group
made c b held n = record { nid_c = c; nid_bg = b; held = held; clashes = n }

same_group : (g h : Group) → g.nid_c ≡ h.nid_c → g.nid_bg ≡ h.nid_bg → g.held ≡ h.held → g.clashes ≡ h.clashes → g ≡ h
same_group g h c b held n =
    ap (λ (x : ℕ). made x g.nid_bg g.held g.clashes) c
    ∙ ap (λ (x : ℕ). made h.nid_c x g.held g.clashes) b
    ∙ ap (λ (x : List (Option TelegramContent)). made h.nid_c h.nid_bg x g.clashes) held
    ∙ ap (λ (x : ℕ). made h.nid_c h.nid_bg h.held x) n

module _ (g : Group) (t : TelegramContent) (h k : Group) (a : GroupAfter g t h) (b : GroupAfter g t k) where
  one_count : h.clashes ≡ k.clashes
  one_count = elim a.clashes [
    | inl joins ↦ elim b.clashes [ inl too ↦ joins.1 ∙ sym too.1 | inr apart ↦ absurd (apart.0 joins.0) ]
    | inr apart ↦ elim b.clashes [ inl joins ↦ absurd (apart.0 joins.0) | inr too ↦ apart.1 ∙ sym too.1 ]
  ]

  one_after : h ≡ k
  one_after =
      same_group h k (a.same.0 ∙ sym b.same.0) (a.same.1 ∙ sym b.same.1)
      (same_slots h.held k.held a.placed b.placed (λ u x. (b.held u).1 ((a.held u).0 x)) (λ u x. (a.held u).1 ((b.held u).0 x)))
      one_count

-- ---- So are the groups after it.

abbrev same_numbers : Group → Group → Type 0
same_numbers g h = IsOfNumbers h.nid_c h.nid_bg g

of_same : (g h : Group) (c b : ℕ) → IsOfNumbers c b g → IsOfNumbers c b h → same_numbers g h
of_same g h c b x y = (x.0 ∙ sym y.0, x.1 ∙ sym y.1)

module _ (old : List Group) (one : AreDistinct old) (t : TelegramContent) where
  abbrev Changes : List Group → Type 0
  Changes new = (k : ℕ) × (g : Group) × (h : Group) × (slice_get old k ≡ Some g) × IsOfNumbers t.header.nid_c t.header.nid_bg g × GroupAfter g t h × (new ≡ set old k h)

  one_change : (a b : List Group) → Changes a → Changes b → a ≡ b
  one_change a b (k, g, h, at, of, after, is) (k', g', h', at', of', after', is') =
      let place : k ≡ k' = one k k' g g' at at' (of_same g g' t.header.nid_c t.header.nid_bg of of') in
      let group : g ≡ g' = same_Some g g' (sym at ∙ ap (slice_get old) place ∙ at') in
      let new : h ≡ h' = one_after g' t h h' (subst (λ (x : Group). GroupAfter x t h) group after) after' in
      is ∙ ap (λ (n : ℕ). set old n h) place ∙ ap (λ (x : Group). set old k' x) new ∙ sym is'

  one_add : (a b : List Group) → Adds old t a → Adds old t b → a ≡ b
  one_add a b (inl x) (inl y) = one_change a b x y
  one_add a b (inl (k, g, h, at, of, _, _)) (inr (none, _)) = absurd (none g (place_contains old k g at) of)
  one_add a b (inr (none, _)) (inl (k, g, h, at, of, _, _)) = absurd (none g (place_contains old k g at) of)
  one_add a b (inr (_, (h, x, is))) (inr (_, (k, y, is'))) =
      is ∙ ap (λ (g : Group). old ++ g ∷ []) (one_after (empty_group t.header.nid_c t.header.nid_bg) t h k x y) ∙ sym is'

  -- and no two of them are of the same numbers
  pub still_distinct : (new : List Group) → Adds old t new → AreDistinct new
  still_distinct new (inl (k, g, h, at, of, after, is)) =
      let within : k < length old = slice_get_within old k g at in
      let before : (i : ℕ) (x : Group) → slice_get (set old k h) i ≡ Some x → (y : Group) × (slice_get old i ≡ Some y) × same_numbers x y = λ i x there. elim (cases_eq i k) [
        | inl e ↦
            let is_x : h ≡ x = same_Some h x (sym (get_set-same old k h within) ∙ ap (slice_get (set old k h)) (sym e) ∙ there) in
            (g, ap (slice_get old) e ∙ at, subst (λ (y : Group). same_numbers y g) is_x after.same)
        | inr other ↦ (x, sym (get_set-other old k i h other) ∙ there, (refl, refl))
      ] in
      subst (λ (l : List Group). AreDistinct l) (sym is) (λ i j x y at_i at_j same.
      let u = before i x at_i in
      let v = before j y at_j in
      one i j u.0 v.0 u.1 v.1 (sym u.2.0 ∙ same.0 ∙ v.2.0, sym u.2.1 ∙ same.1 ∙ v.2.1))
  still_distinct new (inr (none, (h, after, is))) =
      subst (λ (l : List Group). AreDistinct l) (sym is) (λ i j x y at_i at_j same.
      elim (push_cases old h i x at_i) [
        | inl in_x ↦ elim (push_cases old h j y at_j) [
          | inl in_y ↦ one i j x y in_x in_y same
          | inr last ↦ absurd (none x (place_contains old i x in_x) (same.0 ∙ ap (λ (g : Group). g.nid_c) last.1 ∙ after.same.0, same.1 ∙ ap (λ (g : Group). g.nid_bg) last.1 ∙ after.same.1))
        ]
        | inr first ↦ elim (push_cases old h j y at_j) [
          | inl in_y ↦ absurd (none y (place_contains old j y in_y) (sym same.0 ∙ ap (λ (g : Group). g.nid_c) first.1 ∙ after.same.0, sym same.1 ∙ ap (λ (g : Group). g.nid_bg) first.1 ∙ after.same.1))
          | inr last ↦ first.0 ∙ sym last.0
        ]
      ])

one_all : (old : List Group) → AreDistinct old → (ts : List TelegramContent) (gs gs' : List Group) → AddsAll old ts gs → AddsAll old ts gs' → gs ≡ gs'
one_all old one [] gs gs' h k = h ∙ sym k
one_all old one (t ∷ ts) gs gs' (mid, add, rest) (mid', add', rest') =
    let same : mid' ≡ mid = one_add old one t mid' mid add' add in
    one_all mid (still_distinct old one t mid add) ts gs gs' rest (subst (λ (l : List Group). AddsAll l ts gs') same rest')

distinct_all : (old : List Group) → AreDistinct old → (ts : List TelegramContent) (gs : List Group) → AddsAll old ts gs → AreDistinct gs
distinct_all old one [] gs h = subst (λ (l : List Group). AreDistinct l) (sym h) one
distinct_all old one (t ∷ ts) gs (mid, add, rest) = distinct_all mid (still_distinct old one t mid add) ts gs rest

pub none_distinct : AreDistinct []
none_distinct i j g h at_i at_j same = absurd (none-some g at_i)

pub one_list : OneList
one_list ts gs gs' h k = one_all [] none_distinct ts gs gs' h k

pub one_of_each : OneOfEach
one_of_each ts gs h = distinct_all [] none_distinct ts gs h

-- ---- Groups have one text.

-- a place is true in both lists, or in neither
true_there : (bs : List Bool) (n : ℕ) → slice_index_or bs n false ≡ true → slice_get bs n ≡ Some true
true_there bs n e = elim (cases_lt n (length bs)) [
  | inl within ↦ slice_get-get_or bs n false within ∙ ap Some e
  | inr past ↦ absurd (both_ways (slice_index_or bs n false) (get_or_past bs n false past) e)
]

same_tests : (a b : Bool) → (a ≡ true → b ≡ true) → (b ≡ true → a ≡ true) → a ≡ b
same_tests true b h k = sym (h refl)
same_tests false true h k = k refl
same_tests false false h k = refl

module _ (held : List (Option TelegramContent)) (bs cs : List Bool) (h : AreMissing held bs) (k : AreMissing held cs) where
  one_test : (n : ℕ) → slice_index_or bs n false ≡ slice_index_or cs n false
  one_test n =
      same_tests (slice_index_or bs n false) (slice_index_or cs n false)
      (λ e. get_or_from_slice_get cs n true false ((k n).1 ((h n).0 (true_there bs n e))))
      (λ e. get_or_from_slice_get bs n true false ((h n).1 ((k n).0 (true_there cs n e))))

  pub one_missing : (n : ℕ) → trues n bs ≡ trues n cs
  one_missing zero = refl
  one_missing (suc n) =
      ap (λ (z : List ℕ). z ++ (if slice_index_or bs n false then n ∷ [] else [])) (one_missing n)
      ∙ ap (λ (b : Bool). trues n cs ++ (if b then n ∷ [] else [])) (one_test n)

one_state : (held : List (Option TelegramContent)) (text text' : List ℕ) → StateText held text → StateText held text' → text ≡ text'
one_state held text text' (inl (whole, is)) (inl (_, is')) = is ∙ sym is'
one_state held text text' (inl (whole, is)) (inr (inl (none, _))) = absurd (none whole.0.0 whole.0.1)
one_state held text text' (inl (whole, is)) (inr (inr (_, part, _))) = absurd (part whole)
one_state held text text' (inr (inl (none, is))) (inl (whole, _)) = absurd (none whole.0.0 whole.0.1)
one_state held text text' (inr (inl (none, is))) (inr (inl (_, is'))) = is ∙ sym is'
one_state held text text' (inr (inl (none, is))) (inr (inr (some, _, _))) = absurd (none some.0 some.1)
one_state held text text' (inr (inr (some, part, _))) (inl (whole, _)) = absurd (part whole)
one_state held text text' (inr (inr (some, part, _))) (inr (inl (none, _))) = absurd (none some.0 some.1)
one_state held text text' (inr (inr (_, _, (bs, h, is)))) (inr (inr (_, _, (cs, k, is')))) =
    is ∙ ap (λ (z : List ℕ). codes " missing" ++ positions_text z) (one_missing held bs cs h k 8) ∙ sym is'

one_line : (g : Group) (line line' : List ℕ) → IsGroupLine g line → IsGroupLine g line' → line ≡ line'
one_line g line line' (state, is_state, is) (state', is_state', is') =
    is
    ∙ ap (λ (z : List ℕ). codes "group " ++ decimal g.nid_c ++ codes " " ++ decimal g.nid_bg ++ z ++ clashes_text g.clashes ++ codes "\n") (one_state g.held state state' is_state is_state')
    ∙ sym is'

pub one_text : OneText
one_text [] text text' h k = h ∙ sym k
one_text (g ∷ gs) text text' (line, rest, one, more, is) (line', rest', one', more', is') =
    is ∙ ap (λ (z : List ℕ). z ++ rest) (one_line g line line' one one') ∙ ap (λ (z : List ℕ). line' ++ z) (one_text gs rest rest' more more') ∙ sym is'
