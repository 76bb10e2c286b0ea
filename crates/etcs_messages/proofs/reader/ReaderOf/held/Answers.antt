use Rattle.std.proofs.Common.{subst}
use Rattle.std.specs.Prelude.{IfSome}
use Rattle.etcs_sequence.specs.Progress.{Progress}
use Rattle.etcs_sequence.specs.Holdings.{IsHeld}
use Rattle.etcs_messages.specs.declared.message.Content.{Content}
use Rattle.etcs_messages.specs.Messages.{MessageLanguage}
use Rattle.etcs_messages.specs.Readers.{Members}
use Rattle.etcs_messages.proofs.reader.ReaderOf.held.Goals as goal

pub returns-clause-some : goal.returns-clause-some
returns-clause-some g c =
    subst (λ (s : Progress (Content _ _ _)). IfSome c.held.result (λ h. IsHeld (MessageLanguage g.H.Packet.AnyPacket.WAY) (Members g.H.Packet.AnyPacket.WAY g.H.Packet.AnyPacket.form h.packets.now h.numbers.now h.kept) s h.part h.taken)) c.self.view_is c.held.ensures.some
