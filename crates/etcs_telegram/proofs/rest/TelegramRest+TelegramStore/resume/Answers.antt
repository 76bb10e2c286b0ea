use Rattle.std.proofs.Common.{◌≡◌, ◌-◌, length, Some, sym, subst, ◌∙◌}
use Rattle.std.specs.Prelude.{IsTrue}
use Rattle.std.proofs.Math.Logic.{∥∥₁_elim, ∥∥₁_map, ∥∥₁_prop}
use Rattle.etcs_rows.specs.declared.frames.Carrier.{Carrier}
use Rattle.etcs_rows.specs.declared.frames.Carrier.TheVariants.{Telegram}
use Rattle.etcs_sequence.specs.AtOnce.{RunFirst}
use Rattle.etcs_sequence.proofs.Leaps.{leaps_on}
use Rattle.etcs_sequence.proofs.PacketLemmas.{true_prop}
use Rattle.etcs_telegram.specs.declared.phase.Phase.TheVariants.{Packets}
use Rattle.etcs_telegram.specs.Lefts.{stands_at}
use Rattle.etcs_telegram.specs.Readers.{store_holds}
use Rattle.etcs_telegram.proofs.RestSteps.{packets_all, packets_parts}
use Rattle.etcs_telegram.proofs.RestHolds.{state, packets_follow, packets_fits}
use Rattle.etcs_telegram.proofs.Resuming.{after_stands}
use Rattle.etcs_telegram.proofs.rest.TelegramRest+TelegramStore.resume.Goals as goal

pub resume-requires-clause-run : goal.resume-requires-clause-run
resume-requires-clause-run c =
    let i = c.self.inside in
    let v = c.self.view_is in
    let telegram : i.packets.left.carrier ≡ Telegram = rw (← v) at (packets_parts c.args.self.now c.requires.phase).1 in
    ∥∥₁_map c.requires.run (λ (xs, (at, run)). (xs, (at, subst (λ (d : Carrier). RunFirst d i.packets.left.room (store_holds c.args.store) xs at c.args.left) (sym telegram) (rw (← v) at run))))

pub invariant_of-self-inside : goal.invariant_of-self-inside
invariant_of-self-inside c =
    let i = c.self.inside in
    let v = c.self.view_is in
    let parts = packets_parts c.args.self.now c.requires.phase in
    let ten = rw (← v) at parts.0 in
    let telegram : i.packets.left.carrier ≡ Telegram = rw (← v) at parts.1 in
    let l' = c.resume.new.self.left in
    let stands : IsTrue (stands_at c.after_packets-self-inside.result (length i.header.items) l') = ∥∥₁_elim c.requires.run (true_prop _) (λ (xs, (at, run)).
    let leap = c.resume.ensures xs at (subst (λ (d : Carrier). RunFirst d i.packets.left.room (store_holds c.args.store) xs at c.args.left) (sym telegram) (rw (← v) at run)) in
    rw c.after_packets-self-inside.ensures (after_stands i.size l' _ ten (leap.follows.0.same ∙ telegram))) in
    (stands, tt)

pub invariant_of-self : goal.invariant_of-self
invariant_of-self c =
    let i = c.self.inside in
    let v = c.self.view_is in
    let s = state i.size i.phase i.header.items i.packets.left i.packets.store i.stands in
    let telegram : i.packets.left.carrier ≡ Telegram = rw (← v) at (packets_parts c.args.self.now c.requires.phase).1 in
    ∥∥₁_elim c.requires.run ∥∥₁_prop (λ (xs, (at, run)).
    let leap = c.resume.ensures xs at (subst (λ (d : Carrier). RunFirst d i.packets.left.room (store_holds c.args.store) xs at c.args.left) (sym telegram) (rw (← v) at run)) in
    ∥∥₁_map i.packets.held (packets_fits s c.after_packets-self-inside.result c.resume.new.self.left (store_holds i.packets.store) (store_holds c.resume.new.self.store) leap.whole (rw (← v) at c.requires.phase) c.after_packets-self-inside.ensures leap.follows))

pub returns : goal.returns
returns c =
    let i = c.self.inside in
    let v = c.self.view_is in
    let s = state i.size i.phase i.header.items i.packets.left i.packets.store i.stands in
    let l' = c.resume.new.self.left in
    let e = c.after_packets-self-inside.ensures in
    let phase : i.phase ≡ Packets = rw (← v) at c.requires.phase in
    let telegram : i.packets.left.carrier ≡ Telegram = rw (← v) at (packets_parts c.args.self.now c.requires.phase).1 in
    rw (← v)
    (λ xs at run.
    leaps_on i.packets.left l' (store_holds i.packets.store) (store_holds c.resume.new.self.store) xs at (Some (i.packets.left.room - c.args.left)) (λ goes. rw e (packets_all i.size l' goes))
    (λ p goes steps. packets_follow store_holds s _ _ _ _ p phase e goes steps)
    (c.resume.ensures xs at (subst (λ (d : Carrier). RunFirst d i.packets.left.room (store_holds c.args.store) xs at c.args.left) (sym telegram) run)))
