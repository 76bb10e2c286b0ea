use Rattle.std.proofs.Common.{refl}
use Rattle.std.proofs.lemmas.Option.{IfSome_then}
use Rattle.etcs_json_trees.proofs.WrittenPackets.{unmarked_put}
use Rattle.etcs_json_trees.proofs.written.packets.put_packet.Goals as goal

pub returns-in-ToTrack : goal.returns-in-ToTrack
returns-in-ToTrack g c = IfSome_then c.put_to_track.result c.put_to_track.ensures (λ n puts. unmarked_put g.P.AnyPacket.WAY g.P.AnyPacket.WAY c.args.has_marker n c.args.text.now c.args.out.now c.put_to_track.new.out refl puts)
