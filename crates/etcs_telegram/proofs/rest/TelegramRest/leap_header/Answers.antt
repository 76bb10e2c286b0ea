use Rattle.std.proofs.Common.{◌≡◌, subst, arith}
use Rattle.etcs_bits.specs.Bits.{bits}
use Rattle.etcs_reader.specs.Rests.{Goes}
use Rattle.etcs_telegram.proofs.FrontSteps.{front_left, front_leaps}
use Rattle.etcs_telegram.specs.declared.phase.Phase.{Phase}
use Rattle.etcs_telegram.specs.declared.phase.Phase.TheVariants.{Header, Packets}
use Rattle.etcs_tables.specs.Headers.{header_row}
use Rattle.etcs_telegram.specs.Lefts.{PacketsAfter, left_at}
use Rattle.etcs_telegram.proofs.RestHolds.{state, whole_header}
use Rattle.etcs_telegram.proofs.rest.TelegramRest.leap_header.Goals as goal

pub returns-clause-some : goal.returns-clause-some
returns-clause-some g c =
    let i = c.self.inside in
    let v = c.self.view_is in
    let s = state i.size i.phase i.header.items i.packets.left i.packets.store i.stands in
    let f = c.in_ok-numbers.ensures in
    let phase : i.phase ≡ Header 0 = rw (← v) at c.requires.phase in
    let goes : Goes (left_at i.size (Header 0) i.packets.left) = subst (λ (x : Phase). Goes (left_at i.size x i.packets.left)) phase (rw (← v) at c.requires.goes) in
    rw (← v)
    (front_leaps header_row (bits c.args.piece.now) c.args.at c.in_ok-numbers.numbers.items c.in_ok-numbers.end (left_at i.size Packets i.packets.left) _ (omega arith) f
    (front_left (PacketsAfter i.size i.packets.left) header_row goes)
    (whole_header g.S.PacketSink.holds s c.in_ok-numbers.numbers.items _ (bits c.args.piece.now) c.args.at c.in_ok-numbers.end phase f))
