use Rattle.std.proofs.Common.{◌≡◌, ◌-◌, arith}
use Rattle.etcs_vars.specs.Vars.{width}
use Rattle.etcs_rows.proofs.RestLemmas.{row_tested, row_reaches}
use Rattle.etcs_rows.proofs.rest.RowRestRest.begins.Goals as goal

pub may_begin-requires-clause-reaches : goal.may_begin-requires-clause-reaches
may_begin-requires-clause-reaches c =
    let s = c.args.self.now in
    row_reaches s.place c.args.var s.len c.requires.next s.looks_well s.short c.requires.goes

pub returns : goal.returns
returns c =
    let s = c.args.self.now in
    let same : width c.args.var - (c.width.result - c.args.rest) ≡ c.args.rest = omega (arith, c.width.ensures, c.requires.rest) in
    let t = row_tested s.place c.args.var s.len c.args.rest c.args.number c.requires.next s.looks_well s.short in
    let b = rw same at c.may_begin.ensures in
    (λ h. t.0 (b.0 h), λ f. b.1 (t.1 f))
