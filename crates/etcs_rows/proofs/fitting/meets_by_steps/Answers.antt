use Rattle.std.proofs.Common.{ℕ, reverse, ◌≤◌, List, subst}
use Rattle.etcs_rows.specs.declared.place.Pending.{Pending}
use Rattle.etcs_rows.specs.Cursors.{left_of}
use Rattle.etcs_rows.specs.Lengths.{LengthsBy}
use Rattle.etcs_rows.specs.Progressions.{InProgression, IsProgression}
use Rattle.etcs_rows.specs.Totals.{InTotal}
use Rattle.etcs_rows.specs.Sums.{Plus}
use Rattle.etcs_rows.specs.Waiting.{Agains, Onward}
use Rattle.etcs_rows.proofs.FitLemmas.{reaches_sum, meets_sum}
use Rattle.etcs_rows.proofs.TakerLemmas.{found}
use Rattle.etcs_rows.proofs.fitting.meets_by_steps.Goals as goal

pub returns : goal.returns
returns c =
    let cursor = c.args.cursor.now in let low = c.args.low in let high = c.min-high.result in
    let again = c.in_ok-again.again in let g = c.in_ok-groups.groups in let items = c.after_groups.result.now in
    let slice = c.as_slice-waiting.ensures.value in let S = InTotal c.new-sum.result in
    let ha : IsProgression again (Agains (reverse cursor.pending.items)) = subst (λ (ps : List Pending). IsProgression again (Agains (reverse ps))) slice c.in_ok-again.ensures in
    let L = LengthsBy (left_of cursor) 0 in
    found _ _ c.spread.result (Plus S (Plus (InProgression g) (Onward items c.as_slice-waiting.result.now))) ((m : ℕ) × L m × (m ≤ 8191) × (low ≤ m) × (m ≤ c.args.high))
    (rw slice (meets_sum (InProgression again) (Plus (InProgression g) (Onward items cursor.pending.items)) L c.new-sum.result low high c.args.high c.new-sum.ensures
    (reaches_sum cursor again g items ha c.in_ok-groups.ensures c.after_groups.ensures.beyond) c.if-high-low.false c.min-high.ensures))
    c.spread.ensures
