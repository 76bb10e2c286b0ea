use Rattle.std.proofs.Common.{List, ℕ, refl, sym, subst, ◌∙◌}
use Rattle.std.proofs.lemmas.Grind.{not_there}
use Rattle.etcs_tables.specs.Typed.{IsTyped}
use Rattle.etcs_sequence.proofs.Values.{HasRow, one_by_numbers, more_made}
use Rattle.etcs_sequence.proofs.list.PacketListPacketStore.typed.Goals as goal

pub unreachable-requires : goal.unreachable-requires
unreachable-requires g c = not_there c.requires (λ (vs, (f, ((is, (made, (same, none))), typed))).
    (let no = rw c.in-Ok-None.field-0-is at c.in-Ok-None.ensures.none in
    no refl (subst (λ (l : List ℕ). IsTyped g.P.AnyPacket.WAY c.args.nid c.args.dir l) (same ∙ sym c.as_slice.ensures.value) typed)))

pub returns-in_ok-put-in-Ok-Some-clause-ok : goal.returns-in_ok-put-in-Ok-Some-clause-ok
returns-in_ok-put-in-Ok-Some-clause-ok g c = λ vs f v (is, (made, (same, none))) v-typed v-is v-has.
    (let self = c.args.self.now in
    let way = g.P.AnyPacket.WAY in
    let p = c.in-Ok-Some.packet in
    let value = (g.P.AnyPacket.form p).value in
    let has : ¬ (¬ HasRow way c.args.nid) = λ no. not_there c.requires (λ (ws, (h, (held, (row, e, directed, fields)))). no (row, e)) in
    let some = rw c.in-Ok-Some.field-0-is at c.in-Ok-Some.ensures.some in
    let one = one_by_numbers way c.args.nid c.args.dir self.numbers.items v value has v-is v-typed (v-has ∙ same) c.hold.ensures.packet some.0 (some.1 ∙ c.as_slice.ensures.value) in
    let both = more_made g.P.AnyPacket.form self.packets.items c.put.new.packets.items p vs v c.in_ok-put-in-Ok-Some.ensures is made one c.hold.ensures.made in
    (both.0, (both.1, (sym c.clear.ensures.items, none))))
