use Rattle.std.proofs.Common.{[], ◌∷◌, ◌++◌, append_assoc, map, refl, sym, false}
use Rattle.std.specs.Prelude.{replicate}
use Rattle.etcs_vars.specs.declared.var.Var.TheVariants.{FILL, NID_PACKET, PAD}
use Rattle.etcs_vars.specs.Reading.{kept}
use Rattle.etcs_packets.specs.PacketReadings.{packets_reading}
use Rattle.etcs_packets.specs.PacketValues.{packet_value}
use Rattle.etcs_sequence.proofs.Sent.{two_sent, two_sent_ok}
use Rattle.etcs_telegram.specs.Phases.{beyond_header}
use Rattle.etcs_telegram.specs.Telegrams.{closed_reading}
use Rattle.etcs_telegram.proofs.Sending.{zeros_taken}
use Rattle.etcs_telegram.proofs.variables.send_closed.Goals as goal

pub returns-clause-ok : goal.returns-clause-ok
returns-clause-ok g c =
    let with = g.S.VarSink.with in
    let both = g.met.S.VarSink.with_both in
    let vs = map packet_value c.args.packets.now in
    let old = c.args.out.now in
    let fill = kept FILL c.args.fill.now in
    let zeros = kept PAD (replicate c.args.zeros false) in
    let second = rw c.from.ensures at c.in_ok-send.ensures.ok in
    let closed = two_sent with both old c.send_all.new.out c.send.new.self (packets_reading vs) ((NID_PACKET, 255) ∷ []) (closed_reading vs) c.in_ok-send_all.ensures.ok second refl in
    let filled = two_sent with both old c.send.new.self c.send_bits.new.out (closed_reading vs) fill (closed_reading vs ++ fill) closed c.in_ok-send_bits.ensures.ok refl in
    let last = rw (zeros_taken c.args.zeros c.requires) at c.send-2.ensures.ok in
    two_sent_ok with both c.send-2.result old c.send_bits.new.out c.send-2.new.self (closed_reading vs ++ fill) zeros (beyond_header (closed_reading vs) c.args.fill.now c.args.zeros) filled last (sym (append_assoc (closed_reading vs) fill zeros))
