use Rattle.std.proofs.Common.{inl, inr, rules, ◌≡◌, ◌-◌, ◌<◌, length, Some, None, Ok, refl, ap, ◌∙◌, arith}
use Rattle.std.proofs.lemmas.Result.{on_ok_weaker, on_err_weaker}
use Rattle.json.specs.Json.{parse_map, after_end_array, value}
use Rattle.json.proofs.Grammar.{read_key-shorter}
use Rattle.serde_json.specs.Data.{array, object, item, no_items, no_members, put}
use Rattle.etcs_json_trees.specs.Skips.{SkipsItems, SkipsMembers, NoItems, NoMembers}
use Rattle.etcs_json_trees.proofs.Reading.{array_opened, object_opened, too_deep, item_read, item_refused, items_over, member_read, member_refused, key_refused, members_over, none_before, parse_map-twice}
use Rattle.etcs_json_trees.proofs.Outcomes.{OnErr-always}
use Rattle.etcs_json_trees.proofs.skip.+skip.Goals as goal

pub skip-returns-in_err-begin-clause-err : goal.skip-returns-in_err-begin-clause-err
skip-returns-in_err-begin-clause-err t c = OnErr-always c.from_residual.result (c.in_err-begin.ensures.err c.args.depth)

pub skip-returns-in-Scalar-clause-ok : goal.skip-returns-in-Scalar-clause-ok
skip-returns-in-Scalar-clause-ok t c = let (d, is) = c.in_ok-begin.ensures.scalar (ap Ok c.in-Scalar.is) in (d, is c.args.depth)

pub skip-returns-in_err-ok_or-in-Array-clause-err : goal.skip-returns-in_err-ok_or-in-Array-clause-err
skip-returns-in_err-ok_or-in-Array-clause-err t c =
    OnErr-always c.from_residual-in_err-ok_or-in-Array.result (too_deep c.args.depth _ c.begin.new.reader (inl (c.in_ok-begin.ensures.array (ap Ok c.in-Array.is))) (λ some. grind arith))

pub skip-returns-in_ok-ok_or-in-Array : goal.skip-returns-in_ok-ok_or-in-Array
skip-returns-in_ok-ok_or-in-Array t c =
    let r = c.begin.new.reader in
    let left = c.in_ok-ok_or-in-Array.field-0 in
    let opened = array_opened c.args.depth _ r left (c.in_ok-begin.ensures.array (ap Ok c.in-Array.is)) (grind arith) in
    record {
      ok = on_ok_weaker c.skip_items.result (λ (h : SkipsItems left r c.skip_items.new.reader). let got = h (length r) (omega arith) in (array got.0, opened ∙ ap (parse_map array) got.1)) c.skip_items.ensures.ok;
      shorter = search rules;
      err = on_err_weaker c.skip_items.result (λ (h : NoItems left r). opened ∙ ap (parse_map array) (h (length r) (omega arith))) c.skip_items.ensures.err;
    }

pub skip-returns-in_err-ok_or-in-Object-clause-err : goal.skip-returns-in_err-ok_or-in-Object-clause-err
skip-returns-in_err-ok_or-in-Object-clause-err t c =
    OnErr-always c.from_residual-in_err-ok_or-in-Object.result (too_deep c.args.depth _ c.begin.new.reader (inr (c.in_ok-begin.ensures.object (ap Ok c.in-Object.is))) (λ some. grind arith))

pub skip-returns-in_ok-ok_or-in-Object : goal.skip-returns-in_ok-ok_or-in-Object
skip-returns-in_ok-ok_or-in-Object t c =
    let r = c.begin.new.reader in
    let left = c.in_ok-ok_or-in-Object.field-0 in
    let opened = object_opened c.args.depth _ r left (c.in_ok-begin.ensures.object (ap Ok c.in-Object.is)) (grind arith) in
    record {
      ok = on_ok_weaker c.skip_members.result (λ (h : SkipsMembers left r c.skip_members.new.reader). let got = h (length r) no_members (omega arith) in (object got.0, opened ∙ ap (parse_map object) got.1)) c.skip_members.ensures.ok;
      shorter = search rules;
      err = on_err_weaker c.skip_members.result (λ (h : NoMembers left r). opened ∙ ap (parse_map object) (h (length r) no_members (omega arith))) c.skip_members.ensures.err;
    }

pub skip_items-items-init : goal.skip_items-items-init
skip_items-items-init t c = (λ n h. (n, (λ ds. ds), h, none_before _), omega arith)

pub skip_items-items-preserved : goal.skip_items-items-preserved
skip_items-items-preserved t c =
    let p = value c.args.depth in
    let l = c.items in
    let going : (after_end_array l.reader ≡ None) × (c.end_items.new.reader ≡ l.reader) = grind arith in
    let less : length c.skip.new.reader < length l.reader = rw (← going.1) c.in_ok-skip.ensures.shorter in
    let d = c.in_ok-skip.ensures.ok in (
      λ n h.
          let old = l.invariant.0 n h in
          let enough = old.2 in (
            old.0 - 1,
            (λ ds. old.1 (item d.0 ds)),
            omega arith,
            old.3 ∙ ap (parse_map old.1) (item_read p old.0 l.reader _ d.0 (omega arith) going.0 (rw (← going.1) d.1)) ∙ parse_map-twice old.1 (item d.0) _,
          ),
      omega (arith, l.invariant.1),
    )

pub skip_items-returns-in_err-skip-clause-err : goal.skip_items-returns-in_err-skip-clause-err
skip_items-returns-in_err-skip-clause-err t c =
    let p = value c.args.depth in
    let l = c.items in
    let going : (after_end_array l.reader ≡ None) × (c.end_items.new.reader ≡ l.reader) = grind arith in
    let refused : NoItems c.args.depth c.args.reader.now = λ n h. let old = l.invariant.0 n h in old.3 ∙ ap (parse_map old.1) (item_refused p old.0 l.reader going.0 (rw (← going.1) c.in_err-skip.ensures.err)) in
    OnErr-always c.from_residual.result refused

pub skip_items-returns-clause-ok : goal.skip_items-returns-clause-ok
skip_items-returns-clause-ok t c =
    let p = value c.args.depth in
    let l = c.items in
    let over : after_end_array l.reader ≡ Some c.end_items.new.reader = grind arith in
    λ n h. let old = l.invariant.0 n h in (old.1 no_items, old.3 ∙ ap (parse_map old.1) (items_over p old.0 l.reader c.end_items.new.reader old.2 over))

pub skip_members-members-init : goal.skip_members-members-init
skip_members-members-init t c = (λ n found h. (n, found, h, refl), omega arith)

pub skip_members-members-preserved : goal.skip_members-members-preserved
skip_members-members-preserved t c =
    let p = value c.args.depth in
    let l = c.members in
    let s = c.begin_member.new.reader in
    let (k, key) = c.in_ok-begin_member.ensures.more (ap Ok c.if-branch.true) in
    let less = read_key-shorter l.reader (Some k) s key in
    let lesser = c.in_ok-skip.ensures.shorter in
    let d = c.in_ok-skip.ensures.ok in (
      λ n found h.
          let old = l.invariant.0 n found h in
          let enough = old.2 in
          (old.0 - 1, put k d.0 old.1, omega arith, old.3 ∙ member_read p old.1 old.0 k l.reader s _ d.0 (omega arith) key d.1),
      omega (arith, l.invariant.1),
    )

pub skip_members-returns-in_err-begin_member-clause-err : goal.skip_members-returns-in_err-begin_member-clause-err
skip_members-returns-in_err-begin_member-clause-err t c =
    let p = value c.args.depth in
    let l = c.members in
    let refused : NoMembers c.args.depth c.args.reader.now = λ n found h. let old = l.invariant.0 n found h in old.3 ∙ key_refused p old.1 old.0 l.reader c.in_err-begin_member.ensures.err in
    OnErr-always c.from_residual.result refused

pub skip_members-returns-in_err-skip-clause-err : goal.skip_members-returns-in_err-skip-clause-err
skip_members-returns-in_err-skip-clause-err t c =
    let p = value c.args.depth in
    let l = c.members in
    let s = c.begin_member.new.reader in
    let (k, key) = c.in_ok-begin_member.ensures.more (ap Ok c.if-branch.true) in
    let refused : NoMembers c.args.depth c.args.reader.now = λ n found h. let old = l.invariant.0 n found h in old.3 ∙ member_refused p old.1 old.0 k l.reader s key c.in_err-skip.ensures.err in
    OnErr-always c.from_residual-in_err-skip.result refused

pub skip_members-returns-clause-ok : goal.skip_members-returns-clause-ok
skip_members-returns-clause-ok t c =
    let p = value c.args.depth in
    let l = c.members in
    let over = c.in_ok-begin_member.ensures.last (ap Ok c.if-branch.false) in
    λ n found h. let old = l.invariant.0 n found h in (old.1, old.3 ∙ members_over p old.1 old.0 l.reader c.begin_member.new.reader old.2 over)
