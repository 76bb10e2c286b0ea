-- What is left of a telegram at its beginning is a telegram.
use Rattle.std.proofs.Common.{◌≡◌, ◌-◌, length, sym, subst}
use Rattle.etcs_vars.specs.Reading.{spelled}
use Rattle.etcs_vars.proofs.Languages.{Same, Then-same, same_self}
use Rattle.etcs_rows.specs.declared.frames.Carrier.TheVariants.{Telegram}
use Rattle.etcs_sequence.specs.Contents.{PacketsIn}
use Rattle.etcs_reader.specs.Fields.{ReadsFields}
use Rattle.etcs_sequence.specs.declared.state.PacketsState.{PacketsState}
use Rattle.etcs_sequence.specs.Lefts.{left_of, ahead}
use Rattle.etcs_telegram.specs.declared.size.Size.{Size}
use Rattle.etcs_telegram.specs.declared.phase.Phase.TheVariants.{Header}
use Rattle.etcs_telegram.specs.Telegrams.{packet_room, TelegramLanguage}
use Rattle.etcs_tables.specs.Headers.{header_row}
use Rattle.etcs_telegram.specs.Phases.{FillLeft, PacketsLeft as AllPackets}
use Rattle.etcs_telegram.specs.Lefts.{PacketsAfter, left_at}
use Rattle.etcs_telegram.proofs.Ends.{start_to, start_from}

module _ (size : Size) (l : PacketsState) (room : ahead l.carrier l.room l.stage ≡ packet_room size) (same : Same (left_of l.carrier l.room l.stage) (PacketsIn Telegram (packet_room size))) where
  all_packets : Same (PacketsAfter size l) (AllPackets size)
  all_packets r = (
    λ (a, b, e, h, k). (a, b, e, (same a).0 h, subst (λ n. FillLeft size (n - length (spelled a)) b) room k),
    λ (a, b, e, h, k). (a, b, e, (same a).1 h, subst (λ n. FillLeft size (n - length (spelled a)) b) (sym room) k),
  )

  pub new_left : Same (left_at size (Header 0) l) (TelegramLanguage size)
  new_left r =
      let all = Then-same (ReadsFields header_row) (PacketsAfter size l) (ReadsFields header_row) (AllPackets size) (same_self (ReadsFields header_row)) all_packets r in
      (λ h. start_from size r (all.0 h), λ h. all.1 (start_to size r h))
