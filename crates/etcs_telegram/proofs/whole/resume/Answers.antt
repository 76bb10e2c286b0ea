use Rattle.std.proofs.Common.{subst}
use Rattle.etcs_bits.specs.Bits.{bits}
use Rattle.etcs_telegram.specs.Lefts.{Leaps}
use Rattle.etcs_telegram.specs.Readers.{store_holds}
use Rattle.etcs_telegram.proofs.Examples.{some_telegram}
use Rattle.etcs_telegram.proofs.Resuming.{run_left, part_at}
use Rattle.etcs_telegram.proofs.whole.resume.Goals as goal

pub leap-requires-clause-goes : goal.leap-requires-clause-goes
leap-requires-clause-goes c =
    let some = some_telegram c.args.size in
    (some.0, (c.begin-rest.ensures.left some.0).1 some.1)

pub returns : goal.returns
returns c =
    let xs = bits c.args.piece.now in
    let start = c.begin-rest.result in
    let front = c.leap.new.self in
    let held = c.begin-rest.ensures.holds in
    let room = c.is_at_packets.ensures.room c.if-not-is_at_packets.false in
    let leap : Leaps store_holds start front xs 0 50 = subst (λ n. Leaps store_holds start front xs 0 n) c.if-front-ne-HEADER_BITS.false (rw c.in-Ok-Some.field-0-is at c.in-Ok-Some.ensures.some) in
    let run = run_left c.args.size start front xs held leap room c.args.left c.args.store c.requires.run in
    rw c.packet_room.ensures (part_at c.args.size start front xs held leap room c.args.left c.resume.new.self c.begin-rest.ensures.left (c.resume.ensures xs 50 run))
