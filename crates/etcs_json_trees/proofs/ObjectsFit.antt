-- Objects whose members fit, where of two members of one name the last counts.
use Rattle.std.proofs.Common.{◌≡◌, ℕ, ◌<◌, ◌≤◌, ◌⊎◌, inl, inr, min, List, Option, Some, None, IsSomeAnd, MatchOption, String, BTreeMap, Global, option_map, option_and_then, Ordering, Less, Equal, Greater, nat_cmp, is_eq, refl, sym, ap, ◌∙◌, subst, arith}
use Rattle.std.proofs.lemmas.Cmp.{nat_list_cmp_total, tied_itself}
use Rattle.std.proofs.lemmas.Map.Text.{is_eq-slice_cmp}
use Rattle.std.proofs.lemmas.Slice.Eq.{bytes_eq-Decides}
use Rattle.std.specs.Cmp.Lexicographic.{slice_cmp}
use Rattle.std.specs.Ordering.{match_ordering}
use Rattle.json.specs.Token.{Token}
use Rattle.json.specs.Json as json
use Rattle.serde_json.specs.Data.{Data, null, Members, no_members, member, put}
use Rattle.serde_json.specs.Read.{of_json, of_members, converted}
use Rattle.serde_json.specs.View.{members_view}
use Rattle.serde_json.specs.declared.value.Value.{Value}
use Rattle.etcs_json_trees.specs.declared.place.Place.{Place}
use Rattle.etcs_json_trees.specs.Places.{member_place, limit}
use Rattle.etcs_json_trees.specs.Fits.{weight, members_weight, HasShape, MembersHaveShape, Fits, MembersFit}
use Rattle.etcs_json_trees.specs.Found.{Finds, Keeps, HasNull}
use Rattle.etcs_json_trees.proofs.Reading.{converted_some}

-- ---- A name stays.

abbrev pub HasName : List ℕ → Members → Type 0
HasName k no_members = ⊥
HasName k (member l d ms) = (k ≡ l) ⊎ HasName k ms

HasName-put_at : (o : Ordering) (q k l : List ℕ) (d e : Data) (ms : Members) → slice_cmp nat_cmp k l ≡ o → (q ≡ k) ⊎ HasName q (member l e ms) → HasName q (put k d ms) ⊎ (q ≡ l)
    → HasName q (match_ordering o (member k d (member l e ms)) (member l d ms) (member l e (put k d ms)))
HasName-put_at Less q k l d e ms is h more = h
HasName-put_at Equal q k l d e ms is (inl x) more = inl (x ∙ (bytes_eq-Decides k l).0 (sym (is_eq-slice_cmp k l) ∙ ap is_eq is))
HasName-put_at Equal q k l d e ms is (inr x) more = x
HasName-put_at Greater q k l d e ms is h (inl x) = inr x
HasName-put_at Greater q k l d e ms is h (inr x) = inl x

pub HasName-put_here : (k : List ℕ) (d : Data) (ms : Members) → HasName k (put k d ms)
HasName-put_here k d no_members = inl refl
HasName-put_here k d (member l e ms) = HasName-put_at _ k k l d e ms refl (inl refl) (inl (HasName-put_here k d ms))

pub HasName-put : (q k : List ℕ) (d : Data) (ms : Members) → HasName q ms → HasName q (put k d ms)
HasName-put q k d no_members h = absurd h
HasName-put q k d (member l e ms) (inl x) = HasName-put_at _ q k l d e ms refl (inr (inl x)) (inr x)
HasName-put q k d (member l e ms) (inr x) = HasName-put_at _ q k l d e ms refl (inr (inr x)) (inl (HasName-put q k d ms x))

and_then_some : {A B : Type 0} (f : A → Option B) (o : Option A) (b : B) → option_and_then f o ≡ Some b → (a : A) × (f a ≡ Some b)
and_then_some f None b e = absurd (cc)
and_then_some f (Some a) b e = (a, e)

HasName-of_members : (q : List ℕ) (js : json.Members) (found ms : Members) → of_members js found ≡ Some ms → HasName q found → HasName q ms
HasName-of_members q json.no_members found ms e h = subst (λ o. IsSomeAnd o (HasName q)) e h
HasName-of_members q (json.member k j js) found ms e h =
    let next = and_then_some (λ d. of_members js (put k d found)) (of_json j) ms e in
    HasName-of_members q js (put k next.0 found) ms next.1 (HasName-put q k next.0 found h)

pub HasName-stays : (q : List ℕ) (o : Option (json.Members × List Token)) (found ms : Members) (r : List Token) → converted (λ js. of_members js found) o ≡ Some (ms, r) → HasName q found → HasName q ms
HasName-stays q o found ms r e h = let js = converted_some (λ js. of_members js found) o ms r e in HasName-of_members q js.0 found ms js.2 h

pub name_unfit : (p : Place) (k : List ℕ) → member_place p k ≡ None → (ms : Members) → HasName k ms → MembersHaveShape p ms → ⊥
name_unfit p k unknown no_members h shape = h
name_unfit p k unknown (member l d ms) (inl x) shape =
    subst (λ o. IsSomeAnd o (λ q. HasShape q d × (weight d ≤ limit q))) unknown (subst (λ name. IsSomeAnd (member_place p name) (λ q. HasShape q d × (weight d ≤ limit q))) (sym x) shape.0)
name_unfit p k unknown (member l d ms) (inr x) shape = name_unfit p k unknown ms x shape.1

-- ---- Null in place of members that don't fit.

abbrev pub AllMembers : (List ℕ → Data → Type 0) → Members → Type 0
AllMembers G no_members = Unit {0}
AllMembers G (member k d ms) = G k d × AllMembers G ms

abbrev pub Masked : (List ℕ → Data → Type 0) → Members → Members → Type 0
Masked G no_members no_members = Unit {0}
Masked G no_members (member l e es) = ⊥
Masked G (member k d ms) no_members = ⊥
Masked G (member k d ms) (member l e es) = (k ≡ l) × Keeps (G k d) d e × Masked G ms es

same_text : (xs : List ℕ) → slice_cmp nat_cmp xs xs ≡ Equal
same_text xs = tied_itself nat_list_cmp_total xs

put-put_at : (o : Ordering) (k l : List ℕ) (d e f : Data) (ms : Members) → slice_cmp nat_cmp k l ≡ o → put k d (put k e ms) ≡ put k d ms
    → put k d (match_ordering o (member k e (member l f ms)) (member l e ms) (member l f (put k e ms))) ≡ match_ordering o (member k d (member l f ms)) (member l d ms) (member l f (put k d ms))
put-put_at Less k l d e f ms is more = rw same_text
put-put_at Equal k l d e f ms is more = rw is
put-put_at Greater k l d e f ms is more = rw (is, more)

-- what was put last counts
pub put-put : (k : List ℕ) (d e : Data) (ms : Members) → put k d (put k e ms) ≡ put k d ms
put-put k d e no_members = rw same_text
put-put k d e (member l f ms) = put-put_at _ k l d e f ms refl (put-put k d e ms)

module _ (G : List ℕ → Data → Type 0) where
  Masked-put_at : (o : Ordering) (k l : List ℕ) (d e f g : Data) (ms es : Members) → slice_cmp nat_cmp k l ≡ o → Keeps (G k d) d e → Keeps (G l f) f g → Masked G ms es → Masked G (put k d ms) (put k e es)
      → Masked G (match_ordering o (member k d (member l f ms)) (member l d ms) (member l f (put k d ms))) (match_ordering o (member k e (member l g es)) (member l e es) (member l g (put k e es)))
  Masked-put_at Less k l d e f g ms es is here there rest more = (refl, here, (refl, there, rest))
  Masked-put_at Equal k l d e f g ms es is here there rest more =
      (refl, subst (λ name. Keeps (G name d) d e) ((bytes_eq-Decides k l).0 (sym (is_eq-slice_cmp k l) ∙ ap is_eq is)) here, rest)
  Masked-put_at Greater k l d e f g ms es is here there rest more = (refl, there, more)

  pub Masked-put : (k : List ℕ) (d e : Data) (ms es : Members) → Keeps (G k d) d e → Masked G ms es → Masked G (put k d ms) (put k e es)
  Masked-put k d e no_members no_members here h = (refl, here, tt)
  Masked-put k d e no_members (member m g es) here h = absurd h
  Masked-put k d e (member l f ms) no_members here h = absurd h
  Masked-put k d e (member l f ms) (member m g es) here h =
      subst (λ name. Masked G (put k d (member l f ms)) (put k e (member name g es))) h.0 (Masked-put_at (slice_cmp nat_cmp k l) k l d e f g ms es refl here h.1 h.2 (Masked-put k d e ms es here h.2))

  -- where each is of the kind, they are what was kept
  kept_same : (d e : Data) (P : Type 0) → Keeps P d e → P → d ≡ e
  kept_same d e P (inl x) p = x.0
  kept_same d e P (inr x) p = absurd (x.1 p)

  pub same_where_all : (ms es : Members) → Masked G ms es → AllMembers G ms → ms ≡ es
  same_where_all no_members no_members h all = refl
  same_where_all no_members (member l e es) h all = absurd h
  same_where_all (member k d ms) no_members h all = absurd h
  same_where_all (member k d ms) (member l e es) h all =
      let here = kept_same d e (G k d) h.1 all.0 in
      let name = h.0 in
      let rest = same_where_all ms es h.2 all.1 in
      cc

  kept_not_null : (d e : Data) (P : Type 0) → Keeps P d e → (e ≡ null → ⊥) → (d ≡ e) × P
  kept_not_null d e P (inl x) some = x
  kept_not_null d e P (inr x) some = absurd (some x.0)

  pub all_where_no_null : (ms es : Members) → Masked G ms es → (HasNull es → ⊥) → (ms ≡ es) × AllMembers G ms
  all_where_no_null no_members no_members h none = (refl, tt)
  all_where_no_null no_members (member l e es) h none = absurd h
  all_where_no_null (member k d ms) no_members h none = absurd h
  all_where_no_null (member k d ms) (member l e es) h none =
      let here = kept_not_null d e (G k d) h.1 (λ x. none (inl x)) in
      let rest = all_where_no_null ms es h.2 (λ x. none (inr x)) in
      let name = h.0 in
      let value = here.0 in
      let same = rest.0 in
      (cc, (here.1, rest.1))

  pub no_null_where_all : (ms : Members) → ((k : List ℕ) → G k null → ⊥) → AllMembers G ms → HasNull ms → ⊥
  no_null_where_all no_members never all h = h
  no_null_where_all (member k d ms) never all (inl x) = never k (subst (G k) x all.0)
  no_null_where_all (member k d ms) never all (inr x) = no_null_where_all ms never all.1 x

-- ---- Members that fit.

-- the member fits its place, and what is left of the room
abbrev pub FitsNamed : Place → ℕ → List ℕ → Data → Type 0
FitsNamed p n k d = IsSomeAnd (member_place p k) (λ q. Fits q (min n (limit q)) d)

weaker : {A : Type 0} (o : Option A) (P Q : A → Type 0) → ((a : A) → P a → Q a) → IsSomeAnd o P → IsSomeAnd o Q
weaker None P Q f h = h
weaker (Some a) P Q f h = f a h

nowhere : {A : Type 0} (o : Option A) (P : A → Type 0) → ((a : A) → P a → ⊥) → IsSomeAnd o P → ⊥
nowhere None P f h = h
nowhere (Some a) P f h = f a h

module _ (p : Place) (n : ℕ) where
  all_from_fit : (ms : Members) → MembersHaveShape p ms → members_weight ms ≤ n → AllMembers (FitsNamed p n) ms
  all_from_fit no_members h w = tt
  all_from_fit (member k d ms) h w = (
    weaker (member_place p k) (λ q. HasShape q d × (weight d ≤ limit q)) (λ q. Fits q (min n (limit q)) d) (λ q x. (x.0, omega (arith, x.1))) h.0,
    all_from_fit ms h.1 (omega arith),
  )

  shape_from_all : (ms : Members) → AllMembers (FitsNamed p n) ms → MembersHaveShape p ms
  shape_from_all no_members h = tt
  shape_from_all (member k d ms) h =
      (weaker (member_place p k) (λ q. Fits q (min n (limit q)) d) (λ q. HasShape q d × (weight d ≤ limit q)) (λ q x. (x.0, omega (arith, x.1))) h.0, shape_from_all ms h.1)

  null_unfit : (k : List ℕ) → FitsNamed p n k null → ⊥
  null_unfit k h = nowhere (member_place p k) (λ q. Fits q (min n (limit q)) null) (λ q x. x.0) h

  pub members_fit : (ms es : Members) → Masked (FitsNamed p n) ms es → (HasNull es → ⊥) → members_weight es ≤ n → (ms ≡ es) × MembersFit p n es
  members_fit ms es masked none w =
      let all = all_where_no_null (FitsNamed p n) ms es masked none in
      (all.0, (subst (MembersHaveShape p) all.0 (shape_from_all ms all.1), w))

  pub members_unfit : (ms es : Members) → Masked (FitsNamed p n) ms es → HasNull es ⊎ (n < members_weight es) → MembersFit p n ms → ⊥
  members_unfit ms es masked (inl null_there) fit =
      let all = all_from_fit ms fit.0 fit.1 in
      let same = same_where_all (FitsNamed p n) ms es masked all in
      no_null_where_all (FitsNamed p n) ms null_unfit all (subst HasNull (sym same) null_there)
  members_unfit ms es masked (inr heavy) fit =
      let same = same_where_all (FitsNamed p n) ms es masked (all_from_fit ms fit.0 fit.1) in
      let w = ap members_weight same in
      omega (arith, fit.1)

-- what `finished` answers
pub Finds-members : (p : Place) (n : ℕ) (r : Option (Members × List Token)) (rest : List Token) (ms es : Members) → r ≡ Some (ms, rest) → Masked (FitsNamed p n) ms es → (o : Option (BTreeMap (String Global) Value))
    → MatchOption o (HasNull es ⊎ (n < members_weight es)) (λ m. (members_view m.entries ≡ es) × (HasNull es → ⊥) × (members_weight es ≤ n))
    → Finds r (MembersFit p n) (option_map (λ m. members_view m.entries) o) rest
Finds-members p n r rest ms es e masked None h = (ms, e, members_unfit p n ms es masked h)
Finds-members p n r rest ms es e masked (Some m) h =
    let fit = members_fit p n ms es masked h.1 h.2 in
    rw h.0 (e ∙ ap (λ x. Some (x, rest)) fit.0, fit.1)
