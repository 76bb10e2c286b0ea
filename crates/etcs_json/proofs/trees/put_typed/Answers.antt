use Rattle.std.proofs.Common.{[], Bool, List, length, sym, ap, subst, ◌∙◌, arith}
use Rattle.etcs_tables.specs.Layouts.{Layout, Reads, layout}
use Rattle.etcs_tables.specs.Rows.{message_row_to}
use Rattle.etcs_rows.proofs.FrameLemmas.{no_row, row_found}
use Rattle.etcs_json_trees.proofs.OneTrees.{bits_same, list_same}
use Rattle.etcs_json.proofs.ItemTrees.{head_fields, put_long, same_number, same_row, typed_puts, typed_wants}
use Rattle.etcs_json.proofs.trees.put_typed.Goals as goal

pub returns-in_default-clause-invalid : goal.returns-in_default-clause-invalid
returns-in_default-clause-invalid c = λ invalid m place tree.
    (let s = typed_wants c.args.way m _ _ _ _ _ c.args.out.now place tree in
    let no = c.in_default.ensures.only s.nid s.small s.nid_is in
    absurd cc)

pub returns-in_default-message_row-clause-invalid : goal.returns-in_default-message_row-clause-invalid
returns-in_default-message_row-clause-invalid c = λ invalid m place tree.
    (let s = typed_wants c.args.way m _ _ _ _ _ c.args.out.now place tree in
    let number = same_number c.in-Some.nid s.nid (c.in-Some.ensures.only s.nid s.small s.nid_is) in
    let none = no_row (message_row_to c.args.way c.in-Some.nid) c.in_default-message_row.ensures in
    let some = ap (message_row_to c.args.way) number ∙ s.found in
    absurd cc)

pub returns-in_err-put_row_tree-clause-invalid : goal.returns-in_err-put_row_tree-clause-invalid
returns-in_err-put_row_tree-clause-invalid c = λ invalid m place tree.
    (let s = typed_wants c.args.way m _ _ _ _ _ c.args.out.now place tree in
    c.put_row_tree.ensures.invalid (grind arith) s.head ((head_fields c.args.way c.head_row.result.items.now c.head_row.ensures s.head).1 s.sent) s.header (omega (arith, s.room)))

pub returns-in_err-put_row_tree-2-clause-invalid : goal.returns-in_err-put_row_tree-2-clause-invalid
returns-in_err-put_row_tree-2-clause-invalid c = λ invalid m place tree.
    (let s = typed_wants c.args.way m _ _ _ _ _ c.args.out.now place tree in
    let number = same_number c.in-Some.nid s.nid (c.in-Some.ensures.only s.nid s.small s.nid_is) in
    let items = c.in-Some-message_row.row.items.now in
    let row = same_row c.args.way c.in-Some.nid s.nid s.row (layout items) number s.found (row_found (message_row_to c.args.way c.in-Some.nid) items c.in-Some-message_row.ensures) in
    let (q, reads, list, bits) = c.in_ok-put_row_tree.ensures.ok in
    let own = (head_fields c.args.way c.head_row.result.items.now c.head_row.ensures s.head).1 s.sent in
    let head = list_same (layout c.head_row.result.items.now) q s.head _ reads own list s.header in
    let one = put_long q s.head c.args.out.now c.put_row_tree.new.out head bits in
    c.put_row_tree-2.ensures.invalid (grind arith) s.body (subst (λ (l : Layout). Reads l [] s.body) row s.reads) s.own (omega (arith, s.room, one)))

pub returns-in_err-put_packet_trees-clause-invalid : goal.returns-in_err-put_packet_trees-clause-invalid
returns-in_err-put_packet_trees-clause-invalid c = λ invalid m place tree.
    (let s = typed_wants c.args.way m _ _ _ _ _ c.args.out.now place tree in
    let number = same_number c.in-Some.nid s.nid (c.in-Some.ensures.only s.nid s.small s.nid_is) in
    let items = c.in-Some-message_row.row.items.now in
    let row = same_row c.args.way c.in-Some.nid s.nid s.row (layout items) number s.found (row_found (message_row_to c.args.way c.in-Some.nid) items c.in-Some-message_row.ensures) in
    let (q, reads, list, bits) = c.in_ok-put_row_tree.ensures.ok in
    let (p, reads', list', bits') = c.in_ok-put_row_tree-2.ensures.ok in
    let own = (head_fields c.args.way c.head_row.result.items.now c.head_row.ensures s.head).1 s.sent in
    let head = list_same (layout c.head_row.result.items.now) q s.head _ reads own list s.header in
    let body = list_same (layout items) p s.body _ reads' (subst (λ (l : Layout). Reads l [] s.body) row s.reads) list' s.own in
    let one = put_long q s.head c.args.out.now c.put_row_tree.new.out head bits in
    let two = put_long p s.body c.put_row_tree.new.out c.put_row_tree-2.new.out body bits' in
    c.put_packet_trees.ensures.invalid (grind arith) s.packets s.all s.listed (omega (arith, s.room, one, two)))

pub returns-in_err-padding-clause-invalid : goal.returns-in_err-padding-clause-invalid
returns-in_err-padding-clause-invalid c = λ invalid m place tree.
    (let s = typed_wants c.args.way m _ _ _ _ _ c.args.out.now place tree in
    c.bits_in.ensures.invalid (grind arith) s.padding s.padding_is)

pub returns-then-len-gt7-clause-invalid : goal.returns-then-len-gt7-clause-invalid
returns-then-len-gt7-clause-invalid c = λ invalid m place tree.
    (let s = typed_wants c.args.way m _ _ _ _ _ c.args.out.now place tree in
    let same = bits_same c.in_ok-padding.padding s.padding (sym c.in_ok-padding.ensures.ok ∙ s.padding_is) in
    absurd (omega (arith, s.short, ap (λ (b : List Bool). length b) same, c.len.ensures, c.if-len-gt7.true)))

pub returns-clause-ok : goal.returns-clause-ok
returns-clause-ok c =
    let items = c.in-Some-message_row.row.items.now in
    let found = row_found (message_row_to c.args.way c.in-Some.nid) items c.in-Some-message_row.ensures in
    let (head, reads, header, hbits) = c.in_ok-put_row_tree.ensures.ok in
    let (body, own, fields, obits) = c.in_ok-put_row_tree-2.ensures.ok in
    let (vs, all, listed, pbits) = c.in_ok-put_packet_trees.ensures.ok in
    typed_puts c.args.way c.in-Some.nid (layout items) _ _ _ _ _ head body vs c.in_ok-padding.padding c.args.out.now c.put_row_tree.new.out c.put_row_tree-2.new.out c.put_packet_trees.new.out c.send_bits.new.out c.in-Some.ensures.some found own fields ((head_fields c.args.way c.head_row.result.items.now c.head_row.ensures head).0 reads) header all listed c.in_ok-padding.ensures.ok
    (omega (arith, c.len.ensures, c.if-len-gt7.false)) hbits obits pbits (rw c.as_slice.ensures at c.in_ok-send_bits.ensures.ok)
