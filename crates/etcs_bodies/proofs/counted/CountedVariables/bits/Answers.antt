use Rattle.std.proofs.Common.{ap, ◌∙◌, length, arith}
use Rattle.etcs_vars.specs.declared.var.Var.TheVariants.{N_ITER}
use Rattle.etcs_vars.specs.Reading.{spelled}
use Rattle.etcs_bodies.specs.Codecs.{list_reading}
use Rattle.etcs_bodies.specs.laws.Choices.{few_counted}
use Rattle.etcs_bodies.specs.laws.Entries.{list_small}
use Rattle.etcs_bodies.proofs.EntriesLaws.{counted_length}
use Rattle.etcs_bodies.proofs.counted.CountedVariables.bits.Goals as goal

pub bits_of_all-requires : goal.bits_of_all-requires
bits_of_all-requires g c =
    let few = few_counted (length c.self.inside.entries) c.self.invariant.0 in
    rw c.as_slice.ensures (omega arith)

pub returns-clause-bits : goal.returns-clause-bits
returns-clause-bits g c =
    counted_length g.E.Variables.reading_of c.self.inside.entries c.bits_of_all.result (rw c.as_slice.ensures at c.bits_of_all.ensures.bits)
    ∙ ap (λ l. length (spelled (list_reading N_ITER g.E.Variables.reading_of l))) c.self.view_is

pub returns-clause-small : goal.returns-clause-small
returns-clause-small g c =
    let l = c.self.inside.entries in
    let whole = counted_length g.E.Variables.reading_of l c.bits_of_all.result (rw c.as_slice.ensures at c.bits_of_all.ensures.bits) in
    let small = list_small g.E.Part.is_part g.E.Variables.reading_of g.E.Entry.MOST g.met.E.Entry.most g.E.Entry.short l c.self.invariant in
    omega arith
