use Rattle.std.proofs.Common.{◌≡◌}
use Rattle.etcs_messages.proofs.FrontsAtOnce.{ItemsTo}
use Rattle.etcs_messages.proofs.whole.take_items.Given as goal

abbrev pub invariant-loop-item : goal.invariant-loop-item
invariant-loop-item l = record {
  taken : ItemsTo l.items l.item-index l.fn.walker.bits l.fn.walker.place l.fn.numbers.items l.numbers.items l.walker.place;
  bits : l.walker.bits ≡ l.fn.walker.bits;
}
