use Rattle.std.proofs.Common.{◌≡◌, [], ◌++◌, None, append-nil, drop, sym, ap, ◌∙◌, arith}
use Rattle.std.proofs.lemmas.List.{drop_more}
use Rattle.etcs_vars.specs.Reading.{Reading}
use Rattle.etcs_rows.specs.Places.{first_variable, read_of}
use Rattle.etcs_sequence.proofs.Sent.{read_ended}
use Rattle.etcs_sequence.proofs.sending.send_numbers.Goals as goal

pub returns-in_default-clause-ok : goal.returns-in_default-clause-ok
returns-in_default-clause-ok g c =
    let l = c.loop-number in
    let (look, sent, is, all) = l.invariant in
    let none : first_variable l.place ≡ None = sym c.var.ensures ∙ c.in_default.is in
    let next = drop_more c.args.numbers.now l.number-index 0 (omega (arith, c.loop-number-test.true)) in
    let gone : read_of l.place (drop l.number-index c.args.numbers.now) ≡ [] = rw next (read_ended l.place _ _ none) in
    is ∙ ap (λ (r : Reading). g.S.VarSink.with c.args.out.now r) (sym (append-nil sent) ∙ ap (λ (r : Reading). sent ++ r) (sym gone) ∙ all)
