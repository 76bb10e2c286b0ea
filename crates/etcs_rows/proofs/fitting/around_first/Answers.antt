use Rattle.std.proofs.Common.{reverse, ◌≡◌, ℕ, List, ◌∷◌, ap, ◌∙◌, subst}
use Rattle.etcs_vars.specs.Vars.{width}
use Rattle.etcs_tables.specs.declared.item.RowItem.{RowItem}
use Rattle.etcs_tables.specs.declared.item.RowItem.TheVariants.{One}
use Rattle.etcs_tables.specs.Layouts.{layout}
use Rattle.etcs_rows.specs.declared.place.Pending.{Pending}
use Rattle.etcs_rows.specs.Cursors.{left_of}
use Rattle.etcs_rows.specs.Lengths.{LengthsBy, beyond, GroupsWithin, FitsWithin}
use Rattle.etcs_rows.specs.Progressions.{InProgression, IsProgression, AtMost}
use Rattle.etcs_rows.specs.Totals.{InTotal, InSums}
use Rattle.etcs_rows.specs.Sums.{Plus}
use Rattle.etcs_rows.specs.Waiting.{Agains, Tails, Onward}
use Rattle.etcs_rows.proofs.LengthLemmas.{SameSet, set_along, set_self, Plus-same}
use Rattle.etcs_rows.proofs.FitLemmas.{fits_sum}
use Rattle.etcs_rows.proofs.TakerLemmas.{kept_all, kept_part, part_last}
use Rattle.etcs_rows.proofs.TotalLemmas.{no_slack}
use Rattle.etcs_rows.proofs.fitting.around_first.Goals as goal

pub returns-in_ok-onward-in-Some-One-default : goal.returns-in_ok-onward-in-Some-One-default
returns-in_ok-onward-in-Some-One-default c low high m small =
    let w = c.in-Some-One-default in let cursor = c.args.cursor.now in
    let v = w.var in let rest = w.rest.now in
    let is : cursor.items.now ≡ One v ∷ rest = w.ensures.cases.0 ∙ ap (λ (i : RowItem). i ∷ rest) w.field-0-0-is in
    let again = c.in_ok-waiting_steps-in-Some-One-default.field-0 in let sum = c.in_ok-sum-in-Some-One-default.sum in
    let slice = c.as_slice-waiting.ensures.value in
    let A = InProgression again in let W : ℕ → Type 0 = λ k. k ≡ width v in
    let ha : IsProgression again (Agains (reverse cursor.pending.items)) = subst (λ (ps : List Pending). IsProgression again (Agains (reverse ps))) slice c.in_ok-waiting_steps-in-Some-One-default.ensures in
    let own : SameSet (InProgression c.single.result) W = rw c.width.ensures at c.single.ensures in
    let S = InTotal c.new.result in
    let hs : SameSet S (Plus A W) =
    set_along S (Plus (InProgression sum) (AtMost 0)) (Plus A W) c.new.ensures
    (set_along (Plus (InProgression sum) (AtMost 0)) (InProgression sum) (Plus A W) (no_slack (InProgression sum))
    (set_along (InProgression sum) (Plus A (InProgression c.single.result)) (Plus A W) c.in_ok-sum-in-Some-One-default.ensures (Plus-same A (InProgression c.single.result) A W (set_self A) own))) in
    let G = GroupsWithin v (layout rest) low high in let B = LengthsBy (beyond (layout rest)) 0 in let Y = Plus B (Tails (reverse cursor.pending.items)) in
    let O = Onward c.after_groups.result.now c.as_slice-waiting.result.now in
    let out = c.onward.new.out in
    let same : SameSet O Y = rw (slice, c.after_groups.ensures.beyond) (set_self Y) in
    let kept = kept_all c.new-sums.result out c.in_ok-onward-in-Some-One-default.field-0 (Plus S O) (Plus S Y) c.new-sums.ensures c.in_ok-onward-in-Some-One-default.ensures (Plus-same S O S Y (set_self S) same) in
    kept_part (InSums out.sums.items) (Plus S Y) G (λ k. FitsWithin (left_of cursor) low high k) m small kept
    (let sum = part_last S Y G m in let fit = fits_sum cursor v rest low high m again S is ha hs small in
    (λ x. fit.0 (sum.0 x), λ x. sum.1 (fit.1 x)))
