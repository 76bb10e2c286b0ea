use Rattle.std.proofs.Common.{ℕ, List, ◌++◌, sym, ap, ◌∙◌}
use Rattle.std.specs.Prelude.{codes}
use Rattle.std.proofs.lemmas.Option.{IfSome_then}
use Rattle.etcs_json_trees.proofs.WrittenPackets.{track_put}
use Rattle.etcs_json_trees.proofs.written.packets.put_to_track.Goals as goal

pub returns-then-skip : goal.returns-then-skip
returns-then-skip g c =
    IfSome_then c.put_typed.result c.put_typed.ensures (λ n puts. track_put g.P.AnyPacket.WAY n c.args.text.now c.left.result.now c.args.out.now c.put_typed.new.out c.requires (sym c.new-left.ensures ∙ c.skip.ensures.taken c.if-skip.true ∙ ap (λ (z : List ℕ). codes "{\"fields\":" ++ z) (sym c.left.ensures)) puts)
