use Rattle.std.proofs.Common.{◌<◌, ℕ, List, subst, arith}
use Rattle.etcs_stream.proofs.LineItems.{EndsBy, first_line, slice_rest}
use Rattle.etcs_stream.proofs.json_lines.JsonLines.take_line.Goals as goal

pub print_item-requires-clause-item : goal.print_item-requires-clause-item
print_item-requires-clause-item c =
    let (e, r, reads, fits, is, bits) = c.in-Some.ensures in
    (e, r, reads, is, bits)

pub returns-then-printed-clause-some : goal.returns-then-printed-clause-some
returns-then-printed-clause-some c =
    let s = c.args.self.now in
    let rest = c.args.rest.now in
    let (e, r, reads, fits, is, bits) = c.in-Some.ensures in
    let room : s.printer.count < 1000000 = omega (arith, c.requires.reported, c.if-count-eq-MOST_ITEMS.false, c.count.ensures) in
    let out = c.in_ok-printed.ensures.ok e r reads is bits c.if-printed.true in
    first_line s.job e r rest c.in-Some.count c.in-Some-end_of_line.end s.printer c.print_item.new.printer c.args.page.now c.print_item.new.page reads fits is (subst (λ (z : List ℕ). EndsBy z c.in-Some-end_of_line.end) (slice_rest rest c.in-Some.count) c.in-Some-end_of_line.ensures) room out
