use Rattle.std.proofs.Common.{ℕ, List, ◌++◌, sym, ap, ◌∙◌}
use Rattle.std.specs.Prelude.{codes}
use Rattle.std.proofs.lemmas.Option.{IfSome_then}
use Rattle.etcs_json_trees.proofs.WrittenPackets.{train_put, marked_put, unmarked_put}
use Rattle.etcs_json_trees.proofs.written.packets.put_to_train.Goals as goal

pub returns-then-skip : goal.returns-then-skip
returns-then-skip g c =
    IfSome_then c.put_typed.result c.put_typed.ensures (λ n puts. train_put g.P.AnyPacket.WAY c.args.has_marker c.in_ok-dir.dir n c.args.text.now c.skip.new.self c.byte_and.new.self c.left.result.now c.args.out.now c.put_typed.new.out c.requires (sym c.new-left.ensures ∙ c.skip.ensures.taken c.if-skip.true) c.in_ok-dir.ensures (c.in_ok-pass.ensures ∙ ap (λ (z : List ℕ). codes "\"fields\":" ++ z) (sym c.left.ensures)) puts)

pub returns-then-skip-2 : goal.returns-then-skip-2
returns-then-skip-2 g c =
    IfSome_then c.put_marker.result c.put_marker.ensures (λ n puts. marked_put g.P.AnyPacket.WAY c.args.has_marker n c.args.text.now c.left-then-skip-2.result.now c.args.out.now c.put_marker.new.out c.requires c.if-has_marker.true (sym c.new-left.ensures ∙ sym (c.skip.ensures.none c.if-skip.false) ∙ c.skip-then-has_marker.ensures.taken c.if-skip-2.true ∙ ap (λ (z : List ℕ). codes "{\"fields\":" ++ z) (sym c.left-then-skip-2.ensures)) puts)

pub returns : goal.returns
returns g c = IfSome_then c.put_kept.result c.put_kept.ensures (λ n puts. unmarked_put g.P.AnyPacket.WAY c.WAY.result c.args.has_marker n c.args.text.now c.args.out.now c.put_kept.new.out c.WAY.ensures puts)
