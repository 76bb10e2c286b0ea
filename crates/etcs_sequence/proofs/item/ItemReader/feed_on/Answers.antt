use Rattle.std.proofs.Common.{sym, ap, subst, ◌∙◌, not}
use Rattle.std.specs.Prelude.{is_some}
use Rattle.etcs_bits.specs.Bits.{bits}
use Rattle.etcs_sequence.specs.Progress.{Feeds}
use Rattle.etcs_sequence.proofs.Feeding.{progress, none_there}
use Rattle.etcs_sequence.proofs.ItemLemmas.{with_none, none_done}
use Rattle.etcs_sequence.proofs.item.ItemReader.feed_on.Goals as goal

pub feed_next-requires-clause-stop : goal.feed_next-requires-clause-stop
feed_next-requires-clause-stop g c = sym c.stop.ensures ∙ c.in_default.is

pub feed_next-requires-clause-next : goal.feed_next-requires-clause-next
feed_next-requires-clause-next g c = ap is_some (sym c.var.ensures.next) ∙ (c.is_none.ensures ∙ ap not c.if-is_none.false)

pub invariant_of-self : goal.invariant_of-self
invariant_of-self g c =
    let I = g.R.ItemRest in
    let none = none_there c.self.inside.done (sym c.is_some.ensures ∙ c.if-is_some.false) in
    (c.feed_next.ensures.item, none_done I.IsValue I.bits c.self.inside.done (progress c.self.invariant.0.readable c.feed_next.new.feeder) none, c.self.invariant.2)

pub returns-clause-answer : goal.returns-clause-answer
returns-clause-answer g c seen is =
    let w = c.self.invariant.0.readable in
    let new = c.feed_next.new.feeder in
    let piece = c.args.piece.now in
    let I = g.R.ItemRest in
    let done = c.self.inside.done in
    let none = none_there done (sym c.is_some.ensures ∙ c.if-is_some.false) in
    let same = sym (with_none done (progress w c.self.inside.feeder) none) ∙ ap (λ v. v.progress) c.self.view_is in
    let sizes = ap (λ v. v.size) c.self.view_is in
    let f = c.feed_next.ensures.answer seen (same ∙ is) in
    let sized = subst (λ z. Feeds (I.Reads z) I.value I.IsValue I.least seen (bits piece) c.feed_next.result (progress w new)) sizes f in
    subst (λ s. Feeds (I.Reads c.args.self.now.size) I.value I.IsValue I.least seen (bits piece) c.feed_next.result s) (sym (with_none done (progress w new) none)) sized
