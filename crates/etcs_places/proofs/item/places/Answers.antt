use Rattle.etcs_places.proofs.item.places.Goals as goal

pub item_places-requires : goal.item_places-requires
item_places-requires c = (rw c.if-not-branch.false at c.in_ok-write_pairs.ensures.ok).0
