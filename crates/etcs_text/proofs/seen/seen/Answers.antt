use Rattle.std.proofs.Common.{◌≤◌, length, take, arith}
use Rattle.std.proofs.lemmas.List.{length-take}
use Rattle.etcs_bits.proofs.Positions.{length-bits}
use Rattle.etcs_text.proofs.SeenItems.{seen_items, all_some}
use Rattle.etcs_text.proofs.seen.seen.Goals as goal

pub seen_first-requires : goal.seen_first-requires
seen_first-requires c = omega (arith, length-bits (take c.min.result c.args.bytes.now), length-take c.min.result c.args.bytes.now, c.min.ensures)

pub returns-clause-some : goal.returns-clause-some
returns-clause-some c = all_some c.args.kind c.args.bytes.now c.min.result c.seen_first.result (omega (arith, c.min.ensures)) c.seen_first.ensures.within c.seen_first.ensures.reads

pub returns-clause-item : goal.returns-clause-item
returns-clause-item c = seen_items c.args.kind c.args.bytes.now c.min.result c.seen_first.result (omega (arith, c.min.ensures)) c.are_bytes.ensures c.seen_first.ensures.within c.seen_first.ensures.reads
