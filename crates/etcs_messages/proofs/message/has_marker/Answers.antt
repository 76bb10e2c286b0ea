use Rattle.std.proofs.Common.{◌≡◌, false, sym, subst, ◌∙◌}
use Rattle.std.specs.List.{list_any}
use Rattle.etcs_tables.specs.declared.row.Way.{Way}
use Rattle.etcs_messages.specs.Messages.{is_marker}
use Rattle.etcs_messages.proofs.Faults.{none_marked}
use Rattle.etcs_messages.proofs.message.has_marker.Goals as goal

pub returns-in-ToTrack : goal.returns-in-ToTrack
returns-in-ToTrack g c =
    let form = g.P.AnyPacket.form in
    subst (λ (w : Way). false ≡ list_any (λ p. is_marker w (form p).value) c.args.packets.now) (sym c.in-ToTrack.is ∙ c.WAY.ensures) (none_marked form c.args.packets.now)
