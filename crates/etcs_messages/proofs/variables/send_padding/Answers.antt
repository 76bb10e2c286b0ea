use Rattle.std.proofs.Common.{◌∙◌, sym, refl}
use Rattle.etcs_messages.proofs.Padding.{no_bits, padding_cut, some_bits}
use Rattle.etcs_messages.proofs.variables.send_padding.Goals as goal

pub unreachable-requires : goal.unreachable-requires
unreachable-requires g c = no_bits _ (sym c.in-None.is ∙ c.new.ensures ∙ padding_cut _ c.args.count c.args.number c.requires refl)

pub returns-clause-ok : goal.returns-clause-ok
returns-clause-ok g c =
    let same = some_bits c.in-Some.bits _ (sym c.in-Some.is ∙ c.new.ensures ∙ padding_cut _ c.args.count c.args.number c.requires refl) in
    rw same at c.send_bits.ensures.ok
