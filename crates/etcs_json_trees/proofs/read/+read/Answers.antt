use Rattle.std.proofs.Common.{◌≡◌, ◌-◌, [], ◌∷◌, inl, inr, length, min, Some, None, IsSomeAnd, refl, subst, sym, ap, ◌∙◌, arith, rules}
use Rattle.json.specs.Token.{Token, begin_array, begin_object}
use Rattle.json.specs.Json.{parse_map, after_end_array, read_key, items, members, value}
use Rattle.json.specs.Reads.{token_of}
use Rattle.json.proofs.Grammar.{value_is}
use Rattle.serde_json.specs.Data.{null, boolean, number, string, array, object, item, no_members, put}
use Rattle.serde_json.specs.Read.{of_json, of_items, converted}
use Rattle.serde_json.specs.View.{view, number_view, members_view}
use Rattle.serde_json.specs.declared.value.Value.{String, Number, Null, the_lemmas}
use Rattle.etcs_json_trees.specs.Places.{limit, member_place}
use Rattle.etcs_json_trees.specs.Fits.{Fits}
use Rattle.etcs_json_trees.specs.Found.{Keeps}
use Rattle.etcs_json_trees.proofs.ListsFit.{ItemsHaveShape-push, items_weight-push, item_unfit}
use Rattle.etcs_json_trees.proofs.ObjectsFit.{FitsNamed, HasName-put_here, HasName-stays, name_unfit, Masked-put, put-put, Finds-members}
use Rattle.etcs_json_trees.proofs.Reading.{array_opened, object_opened, too_deep, item_refused, item_turn, items_over, member_refused, member_turn, key_refused, members_over, items_before, items_before-no_items, one_more_item}
use Rattle.etcs_json_trees.proofs.read.+read.Goals as goal

pub read-returns-in_err-token-clause-err : goal.read-returns-in_err-token-clause-err
read-returns-in_err-token-clause-err t c refused =
    let empty : c.args.reader.now ≡ [] = grind arith in
    ap (converted of_json) (ap (value c.args.depth) empty ∙ value_is c.args.depth [])

pub read-returns-then-not-admits_scalar-clause-ok : goal.read-returns-then-not-admits_scalar-clause-ok
read-returns-then-not-admits_scalar-clause-ok t c =
    let first : c.args.reader.now ≡ token_of c.in_ok-token.token ∷ c.next.new.self = grind arith in
    let is : c.args.reader.now ≡ Token.string c.in-String.text.now ∷ c.next.new.self = grind (arith, first) in
    (string c.in-String.text.now, ap (converted of_json) (ap (value c.args.depth) is ∙ value_is c.args.depth _), c.if-not-admits_scalar.ensures)

pub read-returns-then-not-admits_scalar-2-clause-ok : goal.read-returns-then-not-admits_scalar-2-clause-ok
read-returns-then-not-admits_scalar-2-clause-ok t c =
    let first : c.args.reader.now ≡ token_of c.in_ok-token.token ∷ c.next.new.self = grind arith in
    let is : c.args.reader.now ≡ Token.number c.in-Number.text.now ∷ c.next.new.self = grind (arith, first) in
    (number (number_view c.in-Some.found), ap (converted of_json) (ap (value c.args.depth) is ∙ value_is c.args.depth _) ∙ rw (← c.in-Some.ensures), c.if-not-admits_scalar-2.ensures)

pub read-returns-in_default-clause-err : goal.read-returns-in_default-clause-err
read-returns-in_default-clause-err t c refused =
    let first : c.args.reader.now ≡ token_of c.in_ok-token.token ∷ c.next.new.self = grind arith in
    let is : c.args.reader.now ≡ Token.number c.in-Number.text.now ∷ c.next.new.self = grind (arith, first) in
    ap (converted of_json) (ap (value c.args.depth) is ∙ value_is c.args.depth _) ∙ rw (← c.in_default.ensures)

pub read-returns-in_ok-from_str-in-String-clause-ok : goal.read-returns-in_ok-from_str-in-String-clause-ok
read-returns-in_ok-from_str-in-String-clause-ok t c =
    let first : c.args.reader.now ≡ token_of c.in_ok-token.token ∷ c.next.new.self = grind arith in
    let is : c.args.reader.now ≡ Token.string c.in-String.text.now ∷ c.next.new.self = grind (arith, first) in
    let seen : view (String c.in_ok-from_str-in-String.field-0) ≡ string c.in-String.text.now = search (rules, the_lemmas) in
    rw seen (ap (converted of_json) (ap (value c.args.depth) is ∙ value_is c.args.depth _), c.if-not-admits_scalar.ensures)

pub read-returns-else-not-admits_scalar-2-clause-ok : goal.read-returns-else-not-admits_scalar-2-clause-ok
read-returns-else-not-admits_scalar-2-clause-ok t c =
    let first : c.args.reader.now ≡ token_of c.in_ok-token.token ∷ c.next.new.self = grind arith in
    let is : c.args.reader.now ≡ Token.number c.in-Number.text.now ∷ c.next.new.self = grind (arith, first) in
    let seen : view (Number c.in-Some.found) ≡ number (number_view c.in-Some.found) = search (rules, the_lemmas) in
    rw seen (ap (converted of_json) (ap (value c.args.depth) is ∙ value_is c.args.depth _) ∙ rw (← c.in-Some.ensures), c.if-not-admits_scalar-2.ensures)

pub read-returns-in-Bool-clause-ok : goal.read-returns-in-Bool-clause-ok
read-returns-in-Bool-clause-ok t c =
    let first : c.args.reader.now ≡ token_of c.in_ok-token.token ∷ c.next.new.self = grind arith in
    let is : c.args.reader.now ≡ Token.boolean c.in-Bool.field-0 ∷ c.next.new.self = grind (arith, first) in
    (boolean c.in-Bool.field-0, ap (converted of_json) (ap (value c.args.depth) is ∙ value_is c.args.depth _), λ fits. fits.0)

pub read-returns-in-Null-clause-ok : goal.read-returns-in-Null-clause-ok
read-returns-in-Null-clause-ok t c =
    let first : c.args.reader.now ≡ token_of c.in_ok-token.token ∷ c.next.new.self = grind arith in
    let is : c.args.reader.now ≡ Token.null ∷ c.next.new.self = grind (arith, first) in
    (null, ap (converted of_json) (ap (value c.args.depth) is ∙ value_is c.args.depth _), λ fits. fits.0)

pub read-returns-in-EndObject-clause-err : goal.read-returns-in-EndObject-clause-err
read-returns-in-EndObject-clause-err t c refused =
    let first : c.args.reader.now ≡ token_of c.in_ok-token.token ∷ c.next.new.self = grind arith in
    let none : value c.args.depth c.args.reader.now ≡ None = rw (value_is c.args.depth c.args.reader.now, first) (grind arith) in
    ap (converted of_json) none

pub read-returns-in_err-inner-in-BeginArray-clause-err : goal.read-returns-in_err-inner-in-BeginArray-clause-err
read-returns-in_err-inner-in-BeginArray-clause-err t c never =
    let first : c.args.reader.now ≡ token_of c.in_ok-token.token ∷ c.next.new.self = grind arith in
    let is : c.args.reader.now ≡ begin_array ∷ c.next.new.self = grind (arith, first) in
    too_deep c.args.depth _ c.next.new.self (inl is) (λ some. grind arith)

pub read-returns-in_ok-inner-in-BeginArray : goal.read-returns-in_ok-inner-in-BeginArray
read-returns-in_ok-inner-in-BeginArray t c =
    let first : c.args.reader.now ≡ token_of c.in_ok-token.token ∷ c.next.new.self = grind arith in
    let is : c.args.reader.now ≡ begin_array ∷ c.next.new.self = grind (arith, first) in
    let opened = array_opened c.args.depth _ c.next.new.self c.in_ok-inner-in-BeginArray.inner is (grind arith) in
    record { ok = rw opened c.read_array.ensures.ok; shorter = search rules; err = λ refused. opened ∙ ap (parse_map array) (c.read_array.ensures.err refused) }

pub read-returns-in_err-inner-in-BeginObject-clause-err : goal.read-returns-in_err-inner-in-BeginObject-clause-err
read-returns-in_err-inner-in-BeginObject-clause-err t c never =
    let first : c.args.reader.now ≡ token_of c.in_ok-token.token ∷ c.next.new.self = grind arith in
    let is : c.args.reader.now ≡ begin_object ∷ c.next.new.self = grind (arith, first) in
    too_deep c.args.depth _ c.next.new.self (inr is) (λ some. grind arith)

pub read-returns-in_ok-inner-in-BeginObject : goal.read-returns-in_ok-inner-in-BeginObject
read-returns-in_ok-inner-in-BeginObject t c =
    let first : c.args.reader.now ≡ token_of c.in_ok-token.token ∷ c.next.new.self = grind arith in
    let is : c.args.reader.now ≡ begin_object ∷ c.next.new.self = grind (arith, first) in
    let opened = object_opened c.args.depth _ c.next.new.self c.in_ok-inner-in-BeginObject.inner is (grind arith) in
    record { ok = rw opened c.read_object.ensures.ok; shorter = search rules; err = λ refused. opened ∙ ap (parse_map object) (c.read_object.ensures.err refused) }

pub read_array-returns-in_default-clause-ok : goal.read_array-returns-in_default-clause-ok
read_array-returns-in_default-clause-ok t c =
    let got = c.in_ok-skip_items.ensures.ok (length c.args.reader.now) (omega arith) in
    (array got.0, ap (parse_map array) got.1, c.in_default.ensures got.0)

pub read_items-returns-in_err-item-clause-err : goal.read_items-returns-in_err-item-clause-err
read_items-returns-in_err-item-clause-err t c refused =
    let p = value c.args.depth in
    let l = c.items in
    let n = l.invariant.0 in
    let going : (after_end_array l.reader ≡ None) × (c.take_end_array.new.self ≡ l.reader) = grind arith in
    l.invariant.2 ∙ ap (parse_map (items_before l.found.items)) (item_refused p n l.reader going.0 (rw (← going.1) (c.read.ensures.err (grind arith))))

pub read_items-returns-in_err-skip_items-clause-err : goal.read_items-returns-in_err-skip_items-clause-err
read_items-returns-in_err-skip_items-clause-err t c refused =
    let l = c.items in
    let n = l.invariant.0 in
    let h = rw c.in_default.is at c.in_ok-item.ensures.ok in
    let turn = item_turn (value c.args.depth) n l.reader c.take_end_array.new.self c.read.new.reader l.found.items h.0 _ l.invariant.1 (grind arith) c.in_ok-item.ensures.shorter h.1 l.invariant.2 in
    turn.2 ∙ ap (λ r. parse_map (items_before l.found.items) (parse_map (item h.0) r)) (c.in_err-skip_items.ensures.err (n - 1) turn.1)

pub read_items-returns-in_default-clause-ok : goal.read_items-returns-in_default-clause-ok
read_items-returns-in_default-clause-ok t c =
    let l = c.items in
    let n = l.invariant.0 in
    let h = rw c.in_default.is at c.in_ok-item.ensures.ok in
    let turn = item_turn (value c.args.depth) n l.reader c.take_end_array.new.self c.read.new.reader l.found.items h.0 _ l.invariant.1 (grind arith) c.in_ok-item.ensures.shorter h.1 l.invariant.2 in
    let got = c.in_ok-skip_items.ensures.ok (n - 1) turn.1 in (
      items_before l.found.items (item h.0 got.0),
      turn.2 ∙ ap (λ r. parse_map (items_before l.found.items) (parse_map (item h.0) r)) got.1,
      item_unfit c.args.place l.found.items h.0 got.0 l.left c.args.room l.invariant.5 h.2,
    )

pub read_items-items-preserved : goal.read_items-items-preserved
read_items-items-preserved t c =
    let p = value c.args.depth in
    let l = c.items in
    let n = l.invariant.0 in
    let r = c.read.new.reader in
    let v = c.in-Some.item in
    let h = rw c.in-Some.is at c.in_ok-item.ensures.ok in
    let pushed = c.in_ok-add.ensures in
    let turn = item_turn p n l.reader c.take_end_array.new.self r l.found.items (view v) _ l.invariant.1 (grind arith) c.in_ok-item.ensures.shorter h.0 l.invariant.2 in (
      n - 1,
      turn.1,
      turn.2 ∙ one_more_item l.found.items v _ ∙ ap (λ vs. parse_map (items_before vs) (converted of_items (items p (n - 1) r))) (sym pushed),
      omega (arith, turn.0, l.invariant.3),
      rw pushed (ItemsHaveShape-push c.args.place l.found.items v l.invariant.4 h.1.0),
      rw pushed (omega (arith, items_weight-push l.found.items v, c.in-Some-spend.ensures, l.invariant.5)),
    )

pub read_items-returns-clause-ok : goal.read_items-returns-clause-ok
read_items-returns-clause-ok t c =
    let p = value c.args.depth in
    let l = c.items in
    let n = l.invariant.0 in
    let r = c.take_end_array.new.self in
    let over : after_end_array l.reader ≡ Some r = grind arith in
    (l.invariant.2 ∙ ap (parse_map (items_before l.found.items)) (items_over p n l.reader r l.invariant.1 over) ∙ ap (λ ds. Some (ds, r)) (items_before-no_items l.found.items), (l.invariant.4, omega (arith, l.invariant.5)))

pub read_member-returns-in_ok-set-2-clause-ok : goal.read_member-returns-in_ok-set-2-clause-ok
read_member-returns-in_ok-set-2-clause-ok t c =
    let name = c.args.name.now in
    let v = c.in-Some.member in
    let old = members_view c.args.found.now.entries in
    let h = rw c.in-Some.is at c.in_ok-member.ensures.ok in
    (view v, view v, h.0, inl (refl, h.1), c.in_ok-set-2.ensures ∙ ap (put name (view v)) c.in_ok-set.ensures ∙ put-put name (view v) (view Null) old)

pub read_members-members-init : goal.read_members-members-init
read_members-members-init t c = (length c.args.reader.now, no_members, omega arith, refl, omega arith, rw c.new-found.ensures.empty tt)

pub read_members-returns-in_err-name-clause-err : goal.read_members-returns-in_err-name-clause-err
read_members-returns-in_err-name-clause-err t c refused =
    let l = c.members in
    l.invariant.3 ∙ key_refused (value c.args.depth) l.invariant.1 l.invariant.0 l.reader c.in_err-name.ensures.value

pub read_members-returns-in_err-skip-clause-err : goal.read_members-returns-in_err-skip-clause-err
read_members-returns-in_err-skip-clause-err t c refused =
    let l = c.members in
    let k = c.in-Some.name.now in
    let s = c.next_key.new.self in
    let named : read_key l.reader ≡ Some (Some k, s) = grind arith in
    l.invariant.3 ∙ member_refused (value c.args.depth) l.invariant.1 l.invariant.0 k l.reader s named c.in_err-skip.ensures.err

pub read_members-returns-in_err-skip_members-clause-err : goal.read_members-returns-in_err-skip_members-clause-err
read_members-returns-in_err-skip_members-clause-err t c refused =
    let l = c.members in
    let n = l.invariant.0 in
    let k = c.in-Some.name.now in
    let d = c.in_ok-skip.ensures.ok in
    let turn = member_turn (value c.args.depth) n k l.reader c.next_key.new.self c.skip.new.reader l.invariant.1 d.0 _ l.invariant.2 (grind arith) c.in_ok-skip.ensures.shorter d.1 l.invariant.3 in
    turn.2 ∙ c.in_err-skip_members.ensures.err (n - 1) (put k d.0 l.invariant.1) turn.1

pub read_members-returns-in_default-member-clause-ok : goal.read_members-returns-in_default-member-clause-ok
read_members-returns-in_default-member-clause-ok t c =
    let p = value c.args.depth in
    let l = c.members in
    let n = l.invariant.0 in
    let old = l.invariant.1 in
    let k = c.in-Some.name.now in
    let r = c.skip.new.reader in
    let unknown : member_place c.args.place k ≡ None = grind arith in
    let d = c.in_ok-skip.ensures.ok in
    let turn = member_turn p n k l.reader c.next_key.new.self r old d.0 _ l.invariant.2 (grind arith) c.in_ok-skip.ensures.shorter d.1 l.invariant.3 in
    let got = c.in_ok-skip_members.ensures.ok (n - 1) (put k d.0 old) turn.1 in
    let there = HasName-stays k (members p (n - 1) r) (put k d.0 old) got.0 c.skip_members.new.reader got.1 (HasName-put_here k d.0 old) in
    (got.0, turn.2 ∙ got.1, λ fits. name_unfit c.args.place k unknown got.0 there fits.0)

pub read_members-members-preserved : goal.read_members-members-preserved
read_members-members-preserved t c =
    let l = c.members in
    let n = l.invariant.0 in
    let old = l.invariant.1 in
    let k = c.in-Some.name.now in
    let q = c.in-Some-member.inner in
    let known : member_place c.args.place k ≡ Some q = grind arith in
    let d = c.in_ok-read_member.ensures.ok in
    let turn = member_turn (value c.args.depth) n k l.reader c.next_key.new.self c.read_member.new.reader old d.0 _ l.invariant.2 (grind arith) c.in_ok-read_member.ensures.shorter d.2 l.invariant.3 in
    let keeps : Keeps (FitsNamed c.args.place c.args.room k d.0) d.0 d.1 =
    subst (λ o. Keeps (IsSomeAnd o (λ x. Fits x (min c.args.room (limit x)) d.0)) d.0 d.1) (sym known) (subst (λ m. Keeps (Fits q m d.0) d.0 d.1) c.room-left.ensures d.3) in (
      n - 1,
      put k d.0 old,
      turn.1,
      turn.2,
      omega (arith, turn.0, l.invariant.4),
      rw d.4 (Masked-put (FitsNamed c.args.place c.args.room) k d.0 d.1 old (members_view l.found.entries) keeps l.invariant.5),
    )

pub read_members-returns-in_err-read_member-clause-err : goal.read_members-returns-in_err-read_member-clause-err
read_members-returns-in_err-read_member-clause-err t c refused =
    let l = c.members in
    let k = c.in-Some.name.now in
    let s = c.next_key.new.self in
    let named : read_key l.reader ≡ Some (Some k, s) = grind arith in
    l.invariant.3 ∙ member_refused (value c.args.depth) l.invariant.1 l.invariant.0 k l.reader s named (c.read_member.ensures.err (grind arith))

pub read_members-returns-clause-ok : goal.read_members-returns-clause-ok
read_members-returns-clause-ok t c =
    let l = c.members in
    let over : read_key l.reader ≡ Some (None, c.next_key.new.self) = grind arith in
    Finds-members c.args.place c.args.room _ c.next_key.new.self l.invariant.1 (members_view l.found.entries)
    (l.invariant.3 ∙ members_over (value c.args.depth) l.invariant.1 l.invariant.0 l.reader c.next_key.new.self l.invariant.2 over) l.invariant.5 c.finished.result c.finished.ensures

pub read_object-returns-in_default-clause-ok : goal.read_object-returns-in_default-clause-ok
read_object-returns-in_default-clause-ok t c =
    let got = c.in_ok-skip_members.ensures.ok (length c.args.reader.now) no_members (omega arith) in
    (object got.0, ap (parse_map object) got.1, c.in_default.ensures got.0)
