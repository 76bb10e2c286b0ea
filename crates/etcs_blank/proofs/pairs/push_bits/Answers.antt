use Rattle.std.proofs.Common.{◌++◌, ◌∷◌, [], if◌then◌else◌, replicate, sym, ap, ◌∙◌}
use Rattle.std.proofs.lemmas.List.{append_assoc}
use Rattle.etcs_vars.specs.Reading.{Reading, kept}
use Rattle.etcs_blank.proofs.Lengths.{one_bit}
use Rattle.etcs_blank.proofs.pairs.push_bits.Goals as goal

pub loop-preserved : goal.loop-preserved
loop-preserved c =
    let old = c.args.pairs.now.items in
    let bits = kept c.args.var (replicate c.loop.counter c.args.bit) in
    let last : Reading = (c.args.var, if c.args.bit then 1 else 0) ∷ [] in
    c.in_ok-push.ensures.items ∙ ap (λ n. c.loop.pairs.items ++ (c.args.var, n) ∷ []) c.number_of.ensures ∙ ap (λ (r : Reading). r ++ last) c.loop.invariant ∙ append_assoc old bits last ∙ ap (λ (r : Reading). old ++ r) (sym (one_bit c.args.var c.args.bit c.loop.counter))
