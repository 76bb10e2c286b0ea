use Rattle.std.proofs.Common.{ℕ, ◌<◌, ◌^◌, List, get_or, subst}
use Rattle.etcs_messages.proofs.RoundTrips.{written_again}
use Rattle.etcs_messages.proofs.laws.append_again.Goals as goal

pub returns-clause-ok : goal.returns-clause-ok
returns-clause-ok g c =
    let old = subst (λ (xs : List ℕ). (i : ℕ) → get_or xs i 0 < 2 ^ 8) c.as_slice.ensures.value c.are_bytes.ensures in
    written_again g.H.Packet.AnyPacket.WAY g.H.Head.head g.B.Own.own g.H.Packet.AnyPacket.form c.args.message.now c.args.out.now.items c.encode.new.out.items c.args.bytes.now c.requires c.in_ok-encode.ensures.ok old (λ k. (c.type_inv.bytes k).fits) c.type_inv.out
