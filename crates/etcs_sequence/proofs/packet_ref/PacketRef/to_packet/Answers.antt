use Rattle.std.proofs.Common.{◌∙◌}
use Rattle.etcs_tables.specs.declared.row.Way.TheVariants.{ToTrain}
use Rattle.etcs_tables.specs.Layouts.{layout}
use Rattle.etcs_tables.specs.Rows.{row_to}
use Rattle.etcs_rows.proofs.FrameLemmas.{row_found}
use Rattle.etcs_packets.specs.PacketValues.{packet_value}
use Rattle.etcs_rows.proofs.FrameLemmas.{no_row}
use Rattle.etcs_sequence.proofs.KindBits.{one_value, same_value, is_typed, is_kept}
use Rattle.etcs_sequence.proofs.packet_ref.PacketRef.to_packet.Goals as goal

pub returns-then-nid-eq0-clause-same : goal.returns-then-nid-eq0-clause-same
returns-then-nid-eq0-clause-same c = λ v h e. one_value (packet_value c.marker_packet.result) v c.args.self.now c.marker_packet.ensures.whole.1 h (c.marker_packet.ensures.bits ∙ c.self.view_is) e

pub typed_packet-requires : goal.typed_packet-requires
typed_packet-requires c =
    let e = rw c.in-Some.is at c.row_of.ensures in
    let row = row_found (row_to ToTrain c.nid-nid.result) c.in-Some.field-0.items.now e in
    is_typed c.self.inside.bits c.nid-nid.result (layout c.in-Some.field-0.items.now) c.self.invariant (λ v h s. c.nid-nid.ensures v h (s ∙ c.self.view_is)) row

pub kept_packet-requires : goal.kept_packet-requires
kept_packet-requires c =
    let e = rw c.in-None.is at c.row_of.ensures in
    is_kept c.self.inside.bits c.nid-nid.result c.self.invariant (λ v h s. c.nid-nid.ensures v h (s ∙ c.self.view_is)) c.if-nid-eq0.false (no_row (row_to ToTrain c.nid-nid.result) e)

pub returns-in-Some-clause-same : goal.returns-in-Some-clause-same
returns-in-Some-clause-same c = same_value _ c.typed_packet.result c.self.inside.bits c.args.self.now c.typed_packet.ensures.whole c.typed_packet.ensures.bits c.self.view_is

pub returns-in-None-clause-same : goal.returns-in-None-clause-same
returns-in-None-clause-same c = same_value _ c.kept_packet.result c.self.inside.bits c.args.self.now c.kept_packet.ensures.whole c.kept_packet.ensures.bits c.self.view_is
