use Rattle.std.proofs.Common.{Bool, List, length, refl, sym, ap, ◌∙◌, arith}
use Rattle.etcs_tables.specs.Rows.{message_row_to}
use Rattle.etcs_messages.specs.Messages.{kept_message}
use Rattle.etcs_json_trees.proofs.OneTrees.{bits_same}
use Rattle.etcs_json.specs.TreeReading.{kept_message_tree}
use Rattle.etcs_json.proofs.ItemTrees.{has_row, kept_wants, no_table, same_number}
use Rattle.etcs_json.proofs.trees.put_kept.Goals as goal

pub returns-in_default-clause-invalid : goal.returns-in_default-clause-invalid
returns-in_default-clause-invalid c = λ invalid m place tree.
    (let s = kept_wants c.args.way m _ _ c.args.out.now place tree in
    let no = c.in_default.ensures.only s.nid s.small s.nid_is in
    absurd cc)

pub returns-then-is_some-clause-invalid : goal.returns-then-is_some-clause-invalid
returns-then-is_some-clause-invalid c = λ invalid m place tree.
    (let s = kept_wants c.args.way m _ _ c.args.out.now place tree in
    let number = same_number c.in-Some.nid s.nid (c.in-Some.ensures.only s.nid s.small s.nid_is) in
    has_row _ c.message_row.result (message_row_to c.args.way c.in-Some.nid) (sym c.is_some.ensures ∙ c.if-is_some.true) c.message_row.ensures (ap (message_row_to c.args.way) number ∙ s.untyped))

pub returns-in_err-bits-clause-invalid : goal.returns-in_err-bits-clause-invalid
returns-in_err-bits-clause-invalid c = λ invalid m place tree.
    (let s = kept_wants c.args.way m _ _ c.args.out.now place tree in
    c.bits_in.ensures.invalid (grind arith) s.bits s.bits_is)

pub returns-then-len-gt-MOST_BITS-clause-invalid : goal.returns-then-len-gt-MOST_BITS-clause-invalid
returns-then-len-gt-MOST_BITS-clause-invalid c = λ invalid m place tree.
    (let s = kept_wants c.args.way m _ _ c.args.out.now place tree in
    let same = bits_same c.in_ok-bits.bits s.bits (sym c.in_ok-bits.ensures.ok ∙ s.bits_is) in
    absurd (omega (arith, s.room, ap (λ (b : List Bool). length b) same, c.len.ensures, c.if-len-gt-MOST_BITS.true)))

pub returns-clause-ok : goal.returns-clause-ok
returns-clause-ok c =
    let none = no_table _ c.message_row.result (message_row_to c.args.way c.in-Some.nid) (sym c.is_some.ensures ∙ c.if-is_some.false) c.message_row.ensures in (
      kept_message c.in-Some.nid c.in_ok-bits.bits,
      (none, omega arith),
      refl,
      (λ i. kept_message_tree c.args.way (c.in_ok-bits.ensures.ok i) (c.in-Some.ensures.some i)),
      rw c.as_slice.ensures at c.in_ok-send_bits.ensures.ok,
    )
