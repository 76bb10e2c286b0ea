use Rattle.std.proofs.Common.{◌≡◌, ◌+◌, [], List, length, subst, arith}
use Rattle.serde_json.specs.View.{view}
use Rattle.etcs_tables.specs.declared.item.RowItem.{RowItem}
use Rattle.etcs_tables.specs.Layouts.{Reads, layout}
use Rattle.etcs_telegram.specs.Telegrams.{header_reading, user_bits}
use Rattle.etcs_json.proofs.ItemTrees.{header_put, header_room, header_same, no_telegram, packets_room, telegram_fills, telegram_only, telegram_says, telegram_stored}
use Rattle.etcs_json.proofs.trees.put_telegram_tree.Goals as goal

pub returns-in_default-clause-invalid : goal.returns-in_default-clause-invalid
returns-in_default-clause-invalid c = λ invalid.
    telegram_only c.args.size (view c.args.value.now) (λ t r sized reads tree. no_telegram c.args.size t (view c.args.value.now) sized (λ x y w is. (let no = c.in_default.ensures.none x y w is in absurd cc)) tree)

pub returns-in_err-fill-clause-invalid : goal.returns-in_err-fill-clause-invalid
returns-in_err-fill-clause-invalid c = λ invalid.
    telegram_only c.args.size (view c.args.value.now)
    (λ t r sized reads tree.
    (let s = telegram_says c.args.size t _ _ _ _ c.in-Some.ensures.some tree in
    c.bits_in.ensures.invalid (grind arith) t.fill s.fill))

pub returns-in_err-put_row_tree-clause-invalid : goal.returns-in_err-put_row_tree-clause-invalid
returns-in_err-put_row_tree-clause-invalid c = λ invalid.
    telegram_only c.args.size (view c.args.value.now)
    (λ t r sized reads tree.
    (let s = telegram_says c.args.size t _ _ _ _ c.in-Some.ensures.some tree in
    let room = header_room t r c.args.out.now c.header_row.result.items.now c.header_row.ensures c.requires reads in
    c.put_row_tree.ensures.invalid (grind arith) (header_reading t.header) room.0 s.header room.1))

pub returns-in_err-put_packet_trees-clause-invalid : goal.returns-in_err-put_packet_trees-clause-invalid
returns-in_err-put_packet_trees-clause-invalid c = λ invalid.
    telegram_only c.args.size (view c.args.value.now)
    (λ t r sized reads tree.
    (let s = telegram_says c.args.size t _ _ _ _ c.in-Some.ensures.some tree in
    let (q, row, list, bits) = c.in_ok-put_row_tree.ensures.ok in
    let same = header_same t r q _ c.header_row.result.items.now c.header_row.ensures reads s.header row list in
    let room = packets_room t r c.put_row_tree.new.out reads (header_put q t.header c.args.out.now c.put_row_tree.new.out same c.requires bits) in
    c.put_packet_trees.ensures.invalid (grind arith) t.packets room.0 s.packets room.1))

pub returns-in_default-checked_sub-clause-invalid : goal.returns-in_default-checked_sub-clause-invalid
returns-in_default-checked_sub-clause-invalid c = λ invalid.
    telegram_only c.args.size (view c.args.value.now)
    (λ t r sized reads tree.
    (let s = telegram_says c.args.size t _ _ _ _ c.in-Some.ensures.some tree in
    let (q, row, list, bits) = c.in_ok-put_row_tree.ensures.ok in
    let (vs, all, listed, put) = c.in_ok-put_packet_trees.ensures.ok in
    let same = header_same t r q _ c.header_row.result.items.now c.header_row.ensures reads s.header row list in
    let long = header_put q t.header c.args.out.now c.put_row_tree.new.out same c.requires bits in
    let full = telegram_fills c.args.size t r _ _ _ vs c.in_ok-fill.fill c.put_row_tree.new.out c.put_packet_trees.new.out c.put.new.self sized reads s c.in_ok-fill.ensures.ok all listed long put c.in_ok-put.ensures.ok in
    omega (arith, full, c.user_bits.ensures, c.len.ensures, c.in_default-checked_sub.ensures)))

pub returns-then-len-left-clause-invalid : goal.returns-then-len-left-clause-invalid
returns-then-len-left-clause-invalid c = λ invalid.
    telegram_only c.args.size (view c.args.value.now)
    (λ t r sized reads tree.
    (let s = telegram_says c.args.size t _ _ _ _ c.in-Some.ensures.some tree in
    let (q, row, list, bits) = c.in_ok-put_row_tree.ensures.ok in
    let (vs, all, listed, put) = c.in_ok-put_packet_trees.ensures.ok in
    let same = header_same t r q _ c.header_row.result.items.now c.header_row.ensures reads s.header row list in
    let long = header_put q t.header c.args.out.now c.put_row_tree.new.out same c.requires bits in
    let full = telegram_fills c.args.size t r _ _ _ vs c.in_ok-fill.fill c.put_row_tree.new.out c.put_packet_trees.new.out c.put.new.self sized reads s c.in_ok-fill.ensures.ok all listed long put c.in_ok-put.ensures.ok in
    c.if-len-left.true (omega (arith, full, c.user_bits.ensures, c.len.ensures, c.len-2.ensures, c.in-Some-checked_sub.ensures.0, c.in-Some-checked_sub.ensures.1))))

pub returns-clause-ok : goal.returns-clause-ok
returns-clause-ok c =
    let (q, row, list, bits) = c.in_ok-put_row_tree.ensures.ok in
    let (vs, all, listed, put) = c.in_ok-put_packet_trees.ensures.ok in
    let reads = subst (λ (items : List RowItem). Reads (layout items) [] q) c.header_row.ensures row in
    let room : length c.put.new.self + length c.in_ok-fill.fill ≡ user_bits c.args.size = omega (arith, c.user_bits.ensures, c.len.ensures, c.len-2.ensures, c.in-Some-checked_sub.ensures.0, c.in-Some-checked_sub.ensures.1, c.if-len-left.false) in
    telegram_stored c.args.size _ _ _ _ q vs c.in_ok-fill.fill c.args.out.now c.put_row_tree.new.out c.put_packet_trees.new.out c.put.new.self c.send_bits.new.out c.put-2.new.self c.in-Some.ensures.some reads list all listed c.in_ok-fill.ensures.ok c.requires bits put c.in_ok-put.ensures.ok room
    (rw c.as_slice.ensures at c.in_ok-send_bits.ensures.ok) (rw c.pad_bits.ensures at c.in_ok-put-2.ensures.ok)
