use Rattle.std.proofs.Common.{not, sym, ap, subst, ◌∙◌}
use Rattle.etcs_vars.specs.Reading.{readings_of}
use Rattle.etcs_sequence.specs.Progress.{IsReading}
use Rattle.etcs_sequence.specs.Holdings.{IsHeld}
use Rattle.etcs_sequence.proofs.Feeding.{progress, none_there}
use Rattle.etcs_sequence.proofs.HoldingBetween.{is_held, none_stops, none_comes}
use Rattle.etcs_sequence.proofs.ItemLemmas.{with_none, some_unread}
use Rattle.etcs_sequence.proofs.item.ItemReader.held.Goals as goal
use Rattle.etcs_sequence.proofs.item.ItemReader.held.Goals.{then-is_some-via-then-is_some, then-is_some-via-else-is_some+then-is_some-2, then-is_some-via-else-is_some+else-is_some-2+then-is_none}

pub returns-then-is_some-clause-none : goal.returns-then-is_some-clause-none
returns-then-is_some-clause-none g c _ i =
    let w = c.self.invariant.0.readable in
    let v = c.self.inside.feeder in
    let d = c.self.inside.done in
    let s = progress w v in
    let p = c.args.self.now.progress in
    let same = ap (λ r. r.progress) c.self.view_is in
    elim c.then-is_some.branch [
      | then-is_some-via-then-is_some b ↦ some_unread d s p (sym c.is_some.ensures ∙ b.if-is_some.true) same i
      | then-is_some-via-else-is_some+then-is_some-2 b ↦ none_stops w v b.stop.result (sym b.stop.ensures) (sym b.is_some-else-is_some.ensures ∙ b.if-is_some-2.true) (subst IsReading (sym same ∙ with_none d s (none_there d (sym c.is_some.ensures ∙ b.if-is_some.false))) i)
      | then-is_some-via-else-is_some+else-is_some-2+then-is_none b ↦ none_comes w v (sym b.stop.ensures ∙ none_there b.stop.result (sym b.is_some-else-is_some.ensures ∙ b.if-is_some-2.false)) (sym b.var.ensures.next ∙ none_there b.var.result (b.is_none.ensures ∙ ap not b.if-is_none.true)) (subst IsReading (sym same ∙ with_none d s (none_there d (sym c.is_some.ensures ∙ b.if-is_some.false))) i)
    ]

pub returns-clause-some : goal.returns-clause-some
returns-clause-some g c =
    let I = g.R.ItemRest in
    let w = c.self.invariant.0.readable in
    let v = c.self.inside.feeder in
    let d = c.self.inside.done in
    let none = sym c.stop.ensures ∙ none_there c.stop.result (sym c.is_some-else-is_some.ensures ∙ c.if-is_some-2.false) in
    let same = sym (with_none d (progress w v) (none_there d (sym c.is_some.ensures ∙ c.if-is_some.false))) ∙ ap (λ r. r.progress) c.self.view_is in
    let e = c.var.ensures in
    let p = c.unfinished-part.ensures in
    let k = I.store v.rest in
    let s = c.args.self.now in
    let h = is_held w v s.progress c.var.result c.unfinished-part.result.0 c.unfinished-part.result.1 c.self.invariant.0.is none same (c.is_none.ensures ∙ ap not c.if-is_none.false) e.next (e.holds none) (e.short none) p.bits p.fits in
    rw (c.as_slice.ensures.value, c.as_slice-2.ensures.value, c.as_slice-3.ensures, c.store-store.ensures, c.rest.ensures)
    (subst (λ z. IsHeld (readings_of (I.Reads z)) (I.Members k.packets.items k.numbers.items k.bits) s.progress c.unfinished-part.result.0 c.unfinished-part.result.1) (ap (λ r. r.size) c.self.view_is) h)
