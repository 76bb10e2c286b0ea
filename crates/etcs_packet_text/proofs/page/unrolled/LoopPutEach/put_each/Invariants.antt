use Rattle.std.proofs.Common.{◌≡◌, ◌+◌, ◌*◌, ◌≤◌, ◌++◌, flat_map, take, length}
use Rattle.etcs_packet_text.proofs.page.unrolled.LoopPutEach.put_each.Given as goal

abbrev pub invariant-loop-pair : goal.invariant-loop-pair
invariant-loop-pair g l =
    (length l.place ≡ length l.fn.place) × (l.end ≤ l.at + g.P.Put.room * l.pair-index)
    × (take l.end l.place ≡ take l.at l.fn.place ++ flat_map g.P.Put.text (take l.pair-index l.sent))
