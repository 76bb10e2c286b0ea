use Rattle.std.proofs.Common.{ap, ◌∙◌, length, arith}
use Rattle.etcs_vars.specs.Reading.{spelled}
use Rattle.etcs_bodies.specs.laws.Choices.{few_counted}
use Rattle.etcs_bodies.specs.Entries.{entries_reading}
use Rattle.etcs_bodies.proofs.EntriesLaws.{entries_length}
use Rattle.etcs_bodies.specs.laws.Entries.{entries_small}
use Rattle.etcs_bodies.proofs.entries.EntriesVariables.bits.Goals as goal

pub bits_of_all-requires : goal.bits_of_all-requires
bits_of_all-requires g c =
    let few = few_counted (length c.self.inside.further) c.self.invariant.1.0 in
    rw c.as_slice.ensures (omega arith)

pub returns-clause-bits : goal.returns-clause-bits
returns-clause-bits g c =
    let i = c.self.inside in
    entries_length g.E.Variables.reading_of (i.first, i.further) c.bits.result c.bits_of_all.result c.bits.ensures.bits (rw c.as_slice.ensures at c.bits_of_all.ensures.bits)
    ∙ ap (λ e. length (spelled (entries_reading g.E.Variables.reading_of e))) c.self.view_is

pub returns-clause-small : goal.returns-clause-small
returns-clause-small g c =
    let i = c.self.inside in
    let whole = entries_length g.E.Variables.reading_of (i.first, i.further) c.bits.result c.bits_of_all.result c.bits.ensures.bits (rw c.as_slice.ensures at c.bits_of_all.ensures.bits) in
    let small = entries_small g.E.Part.is_part g.E.Variables.reading_of g.E.Entry.MOST g.met.E.Entry.most g.E.Entry.short (i.first, i.further) c.self.invariant in
    omega arith
