use Rattle.std.proofs.Common.{◌≡◌, true, false, not, sym, ap, ◌∙◌}
use Rattle.std.specs.Prelude.{is_some}
use Rattle.etcs_sequence.proofs.Feeding.{ended_reading}
use Rattle.etcs_sequence.proofs.item.ItemReader.take.Goals as goal
use Rattle.etcs_sequence.proofs.item.ItemReader.take.Goals.{else-is_none-via-then-is_none+else-is_some-2, then-is_some, else-is_some, else-is_none-via-else-is_none}

pub into_item-requires-clause-whole : goal.into_item-requires-clause-whole
into_item-requires-clause-whole g c =
    let w = c.self.invariant.0.readable in
    let v = c.self.inside.feeder in
    let is = c.self.invariant.0.is in
    rw c.into_rest.ensures (
    elim c.else-is_none.branch [
      | else-is_none-via-then-is_none+else-is_some-2 u ↦ elim u.if-is_some.branch [
        | then-is_some t ↦ let no : true ≡ false = sym t.if-is_some.true ∙ (sym t.value-is ∙ u.if-is_some-2.false) in absurd cc
        | else-is_some t ↦ ended_reading w v is (ap is_some (sym u.stop.ensures) ∙ (sym u.is_some.ensures ∙ t.if-is_some.false)) (ap is_some (sym t.var.ensures.next) ∙ (sym t.is_some-else-is_some.ensures ∙ (sym t.value-is ∙ u.if-is_some-2.false)))
      ]
      | else-is_none-via-else-is_none u ↦ let no : true ≡ false = sym (c.is_none.ensures ∙ ap not u.if-is_none.false) ∙ ap is_some c.in-None.is in absurd cc
    ]
    )
