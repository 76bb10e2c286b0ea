use Rattle.std.proofs.Common.{ℕ, ◌-◌, List, refl, sym, ap, ◌∙◌, length, drop}
use Rattle.etcs_json_trees.proofs.WrittenPackets.{all_listed, comma_listed, empty_listed, none_listed, one_listed}
use Rattle.etcs_json_trees.proofs.written.packets.put_packets.Goals as goal

pub returns-then-skip : goal.returns-then-skip
returns-then-skip g c =
    empty_listed g.P.AnyPacket.WAY c.args.has_marker c.args.text.now c.skip.new.self _ _ _ (sym c.new-left.ensures ∙ c.skip.ensures.taken c.if-skip.true) (ap (λ (z : List ℕ). length z) c.left.ensures) refl

pub loop-init : goal.loop-init
loop-init g c =
    none_listed g.P.AnyPacket.WAY c.args.has_marker c.args.text.now _ c.args.out.now _ (sym c.new-left.ensures ∙ sym (c.skip.ensures.none c.if-skip.false) ∙ c.in_ok-pass.ensures) refl

pub returns-then-skip-2 : goal.returns-then-skip-2
returns-then-skip-2 g c =
    let left = c.loop.left in
    let there = c.take.ensures ∙ ap (λ (z : List ℕ). drop (length z - c.in_ok-after.after) left) c.left-in-loop-2.ensures in
    let one = one_listed g.P.AnyPacket.WAY c.args.has_marker c.args.text.now left c.left-in-loop.result.now c.take.new.self c.in_ok-after.after c.args.out.now c.loop.out c.put_packet.new.out c.loop.invariant c.left-in-loop.ensures c.in_ok-after.ensures there in
    all_listed g.P.AnyPacket.WAY c.args.has_marker c.args.text.now _ _ _ _ _ one (c.skip-in-loop.ensures.taken c.if-skip-2.true) (ap (λ (z : List ℕ). length z) c.left-then-skip-2.ensures)

pub loop-preserved : goal.loop-preserved
loop-preserved g c =
    let left = c.loop.left in
    let there = c.take.ensures ∙ ap (λ (z : List ℕ). drop (length z - c.in_ok-after.after) left) c.left-in-loop-2.ensures in
    let one = one_listed g.P.AnyPacket.WAY c.args.has_marker c.args.text.now left c.left-in-loop.result.now c.take.new.self c.in_ok-after.after c.args.out.now c.loop.out c.put_packet.new.out c.loop.invariant c.left-in-loop.ensures c.in_ok-after.ensures there in
    comma_listed g.P.AnyPacket.WAY c.args.has_marker c.args.text.now _ _ _ _ one (sym (c.skip-in-loop.ensures.none c.if-skip-2.false) ∙ c.in_ok-pass-2.ensures)
