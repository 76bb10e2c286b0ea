use Rattle.std.proofs.Common.{◌≡◌, ◌+◌, [], ◌∷◌, ◌++◌, ap, ◌∙◌, length, length-append}
use Rattle.etcs_messages.specs.Lefts.{front_vars, beyond_front}
use Rattle.etcs_messages.proofs.Fronts.{front_counted}
use Rattle.etcs_messages.proofs.RestStands.{front_parts, front_stands}
use Rattle.etcs_messages.proofs.RestHolds.{state, front_follows}
use Rattle.etcs_messages.proofs.rest.MessageRest.pass_front.Goals as goal

pub invariant_of-self-inside : goal.invariant_of-self-inside
invariant_of-self-inside g c =
    let i = c.self.inside in
    let l = i.packets.left in
    let next = c.args.at + 1 in
    let s = state g.H.Packet.AnyPacket.WAY i.nid i.phase i.front.items i.packets.left i.padding i.packets.store i.stands in
    let to : c.beyond_front-next.result ≡ beyond_front (length (front_vars g.H.Packet.AnyPacket.WAY i.nid)) next l = c.beyond_front-next.ensures ∙ ap (λ n. beyond_front n next l) (front_counted g.H.Packet.AnyPacket.WAY i.nid c.in-Some.count (rw c.WAY.ensures at c.in-Some.ensures)) in
    let parts = front_parts s c.args.at (rw (← c.self.view_is) at c.requires.phase) in
    let count : length (i.front.items ++ c.args.number ∷ []) ≡ next = length-append i.front.items (c.args.number ∷ []) ∙ ap (λ n. n + 1) parts.1 in
    (rw (to, c.push.ensures.items) (front_stands g.H.Packet.AnyPacket.WAY i.nid next (length (i.front.items ++ c.args.number ∷ [])) l count parts.2), (c.self.inside.way_is, tt))

pub returns : goal.returns
returns g c =
    let i = c.self.inside in
    let v = c.self.view_is in
    let next = c.args.at + 1 in
    let to : c.beyond_front-next.result ≡ beyond_front (length (front_vars g.H.Packet.AnyPacket.WAY i.nid)) next i.packets.left = c.beyond_front-next.ensures ∙ ap (λ n. beyond_front n next i.packets.left) (front_counted g.H.Packet.AnyPacket.WAY i.nid c.in-Some.count (rw c.WAY.ensures at c.in-Some.ensures)) in
    λ x first goes.
    rw (← v) (front_follows _ _ _ _ _ c.args.at x c.args.number (rw (← v) at c.requires.phase) to c.push.ensures.items (rw (← v) at first) (rw (← v) at goes))
