use Rattle.std.proofs.Common.{◌/◌, ◌%◌, ◌^◌, Some, sym, ap, ◌∙◌}
use Rattle.etcs_vars.specs.Vars.{width}
use Rattle.etcs_bodies.specs.laws.Sources.{next_is_in_bits, not_in_bits}
use Rattle.etcs_bodies.specs.laws.Takes.{number_ok}
use Rattle.etcs_bodies.proofs.Splits.{first_lies}
use Rattle.etcs_bodies.proofs.runs.VarRun.split.Goals as goal

pub returns-then-not-admits-clause-none : goal.returns-then-not-admits-clause-none
returns-then-not-admits-clause-none c = λ b k h.
    (let v = c.args.self in
    let word = c.args.word in
    let beyond = c.args.beyond in
    let found = ap (λ j. word / 2 ^ beyond % 2 ^ j) (sym c.width.ensures) ∙ sym c.field-number.ensures in
    not_in_bits v c.field-number.result b k (first_lies word (width v) beyond b k h ∙ ap Some found) (sym c.admits.ensures ∙ c.if-not-admits.true))

pub returns-clause-some : goal.returns-clause-some
returns-clause-some c = λ b k h.
    (let v = c.args.self in
    let word = c.args.word in
    let beyond = c.args.beyond in
    let found = ap (λ j. word / 2 ^ beyond % 2 ^ j) (sym c.width.ensures) ∙ sym c.field-number.ensures in
    let fits = sym c.admits.ensures ∙ c.if-not-admits.false in
    (next_is_in_bits v c.field-number.result b k (first_lies word (width v) beyond b k h ∙ ap Some found) fits, number_ok v c.field-number.result fits, fits))
