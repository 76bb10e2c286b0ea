use Rattle.std.proofs.Common.{reverse, List, subst}
use Rattle.etcs_rows.specs.declared.place.Pending.{Pending}
use Rattle.etcs_rows.specs.Cursors.{left_of}
use Rattle.etcs_rows.specs.Lengths.{LengthsBy}
use Rattle.etcs_rows.specs.Progressions.{InProgression, IsProgression, AtMost}
use Rattle.etcs_rows.specs.Totals.{InTotal}
use Rattle.etcs_rows.specs.Sums.{Plus}
use Rattle.etcs_rows.specs.Waiting.{Agains, Onward}
use Rattle.etcs_rows.proofs.LengthLemmas.{SameSet, set_along, set_self, Plus-same}
use Rattle.etcs_rows.proofs.FitLemmas.{reaches_sum}
use Rattle.etcs_rows.proofs.TakerLemmas.{kept_all}
use Rattle.etcs_rows.proofs.TotalLemmas.{no_slack}
use Rattle.etcs_rows.proofs.fitting.kept_by_steps.Goals as goal

pub returns : goal.returns
returns c =
    let cursor = c.args.cursor.now in
    let again = c.in_ok-again.again in let g = c.in_ok-groups.groups in let items = c.after_groups-items.result.now in
    let slice = c.as_slice-waiting.ensures.value in let S = InTotal c.new.result in let A = InProgression again in
    let ha : IsProgression again (Agains (reverse cursor.pending.items)) = subst (λ (ps : List Pending). IsProgression again (Agains (reverse ps))) slice c.in_ok-again.ensures in
    let hs : SameSet S A = set_along S (Plus A (AtMost 0)) A c.new.ensures (no_slack A) in
    let X = Plus (InProgression g) (Onward items cursor.pending.items) in
    kept_all c.new-sums.result c.spread.new.out c.in_ok-spread.field-0 (Plus S X) (LengthsBy (left_of cursor) 0) c.new-sums.ensures (rw slice at c.in_ok-spread.ensures)
    (set_along (Plus S X) (Plus A X) (LengthsBy (left_of cursor) 0) (Plus-same S X A X hs (set_self X)) (reaches_sum cursor again g items ha c.in_ok-groups.ensures c.after_groups-items.ensures.beyond))
