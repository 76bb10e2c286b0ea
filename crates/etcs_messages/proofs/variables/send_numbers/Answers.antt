use Rattle.std.proofs.Common.{◌+◌, [], ◌∷◌, ◌++◌, get_or, take, refl, sym, ap, ◌∙◌}
use Rattle.etcs_sequence.specs.Labels.{labelled}
use Rattle.etcs_sequence.proofs.Sent.{two_sent}
use Rattle.etcs_messages.proofs.Sending.{labelled_at, labelled_past}
use Rattle.etcs_messages.proofs.variables.send_numbers.Goals as goal

pub loop-at-preserved : goal.loop-at-preserved
loop-at-preserved g c =
    let with = g.S.VarSink.with in
    let both = g.met.S.VarSink.with_both in
    let ns = c.args.numbers.now in
    let l = c.loop-at in
    let x = c.in-Some.var in
    let (sent, is) = l.invariant.0 in
    let next = (x, get_or ns l.at 0) ∷ [] in (
      (sent ++ next, two_sent with both c.args.out.now l.out c.send.new.self sent next (sent ++ next) is c.in_ok-send.ensures.ok refl),
      λ vars typed. two_sent with both c.args.out.now l.out c.send.new.self (labelled vars (take l.at ns)) next (labelled vars (take (l.at + 1) ns)) (l.invariant.1 vars typed) c.in_ok-send.ensures.ok (labelled_at vars ns l.at x c.loop-at-test.true (sym c.in-Some.is ∙ c.front_var.ensures vars typed)),
    )

pub returns-in_default-clause-ok : goal.returns-in_default-clause-ok
returns-in_default-clause-ok g c = λ vars typed. c.loop-at.invariant.1 vars typed ∙ ap (g.S.VarSink.with c.args.out.now) (labelled_past vars c.args.numbers.now c.loop-at.at (sym c.in_default.is ∙ c.front_var.ensures vars typed))
