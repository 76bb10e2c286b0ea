use Rattle.std.proofs.Common.{sym, ap, ◌∙◌, arith}
use Rattle.etcs_sequence.specs.Progress.{seen_of}
use Rattle.etcs_sequence.proofs.Feeding.{counted, progress}
use Rattle.etcs_sequence.proofs.ItemLemmas.{with_none, kept_seen}
use Rattle.etcs_sequence.proofs.item.ItemReader.bits_seen.Goals as goal

pub overflow_mul-result : goal.overflow_mul-result
overflow_mul-result g c =
    let I = g.R.ItemRest in
    let s = progress c.self.invariant.0.readable c.self.inside.feeder in
    let k = kept_seen I.IsValue I.bits c.self.inside.done (c.in-Some.field-0-0, c.in-Some.bytes) s c.args.self.now.progress c.in-Some.is c.self.invariant.1 (ap (λ v. v.progress) c.self.view_is) in
    omega (arith, k.0)

pub returns-in-Some : goal.returns-in-Some
returns-in-Some g c =
    let I = g.R.ItemRest in
    let s = progress c.self.invariant.0.readable c.self.inside.feeder in
    let k = kept_seen I.IsValue I.bits c.self.inside.done (c.in-Some.field-0-0, c.in-Some.bytes) s c.args.self.now.progress c.in-Some.is c.self.invariant.1 (ap (λ v. v.progress) c.self.view_is) in
    k.1

pub returns-in-None : goal.returns-in-None
returns-in-None g c =
    let w = c.self.invariant.0.readable in
    let v = c.self.inside.feeder in
    let same = sym (with_none c.self.inside.done (progress w v) c.in-None.is) ∙ ap (λ r. r.progress) c.self.view_is in
    c.count.ensures ∙ counted w v c.self.invariant.0.is ∙ ap (seen_of g.R.ItemRest.bits) same
