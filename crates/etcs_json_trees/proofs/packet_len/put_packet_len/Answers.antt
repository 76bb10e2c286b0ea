use Rattle.std.proofs.Common.{◌≡◌, ◌+◌, ◌-◌, ◌++◌, [], ◌∷◌, length, refl, arith}
use Rattle.etcs_vars.specs.declared.var.Var.TheVariants.{L_PACKET, NID_PACKET}
use Rattle.etcs_vars.specs.Reading.{spelled}
use Rattle.etcs_tables.specs.Frames.{directed, frame_bits}
use Rattle.etcs_packets.specs.laws.PacketReadings.{frame_is}
use Rattle.etcs_json_trees.proofs.WrittenPackets.{body_long, body_put}
use Rattle.etcs_json_trees.proofs.packet_len.put_packet_len.Goals as goal

pub put_over-requires-clause-inside : goal.put_over-requires-clause-inside
put_over-requires-clause-inside c = omega (arith, c.requires, c.frame_bits-2.ensures.bits, frame_is c.args.way)

pub returns-then-len-frame_bits-clause-none : goal.returns-then-len-frame_bits-clause-none
returns-then-len-frame_bits-clause-none c = λ none nid dir r before at put.
    (let long = body_long c.args.way nid dir r before (before ++ spelled ((NID_PACKET, nid) ∷ directed c.args.way dir ((L_PACKET, 0) ∷ []))) c.args.out.now refl put in
    omega (arith, long, at, c.if-len-frame_bits.true, c.frame_bits.ensures.bits, c.len.ensures))

pub returns-clause-some : goal.returns-clause-some
returns-clause-some c = λ nid dir r before at put.
    (let way = c.args.way in
    let two = c.args.out.now in
    let one = before ++ spelled ((NID_PACKET, nid) ∷ directed way dir ((L_PACKET, 0) ∷ [])) in
    let long = body_long way nid dir r before one two refl put in
    let is : c.len.result - c.args.start ≡ length two - length before = omega (arith, c.len.ensures, at) in
    let place : c.args.start + c.frame_bits-2.result - 13 ≡ length before + frame_bits way - 13 = omega (arith, c.frame_bits-2.ensures.bits, at) in (
      omega (arith, long, at, c.if-len-frame_bits.false, c.frame_bits.ensures.bits, c.len.ensures),
      body_put way nid dir (c.args.start + c.frame_bits-2.result - 13) (c.len.result - c.args.start) r before one two c.put_over.new.self refl put is place c.put_over.ensures,
    ))
