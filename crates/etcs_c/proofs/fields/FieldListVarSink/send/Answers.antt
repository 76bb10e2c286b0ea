use Rattle.std.proofs.Common.{◌≡◌, ◌+◌, take, get_or, ap, ◌∙◌, sym, [], ◌∷◌, ◌++◌}
use Rattle.std.proofs.lemmas.List.{take_more}
use Rattle.etcs_vars.specs.declared.var.Var.TheVariants.{Q_UPDOWN}
use Rattle.etcs_vars.specs.Reading.{Sent}
use Rattle.etcs_c.specs.Fields.{Joined, join, joined}
use Rattle.etcs_c.specs.laws.Joining.{joined_both}
use Rattle.etcs_c.proofs.fields.FieldListVarSink.send.Goals as goal

pub loop-pair-preserved : goal.loop-pair-preserved
loop-pair-preserved c =
    let sent = c.args.sent.now in
    let i = c.loop-pair.pair-index in
    let p : Sent = get_or sent i (Q_UPDOWN, 0) in
    let more : take (i + 1) sent ≡ take i sent ++ p ∷ [] = take_more sent i (Q_UPDOWN, 0) c.loop-pair-test.true in
    c.in_ok-join.ensures
    ∙ ap (λ (s : Joined). join s p) c.loop-pair.invariant
    ∙ sym (joined_both c.args.self.now (take i sent) (p ∷ []))
    ∙ ap (joined c.args.self.now) (sym more)
