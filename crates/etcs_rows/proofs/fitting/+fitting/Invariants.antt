use Rattle.std.proofs.Common.{ℕ, false, ◌+◌, ◌*◌, ◌≤◌, ◌<◌, List, length}
use Rattle.std.specs.Prelude.{sum_by}
use Rattle.etcs_tables.specs.declared.item.RowItem.{RowItem}
use Rattle.etcs_rows.specs.declared.place.Pending.{Pending}
use Rattle.etcs_tables.specs.Layouts.{layout}
use Rattle.etcs_rows.specs.Lengths.{LengthsBy, front}
use Rattle.etcs_rows.specs.Totals.{InTotal}
use Rattle.etcs_rows.specs.Waiting.{Onward}
use Rattle.etcs_rows.specs.Sums.{Plus}
use Rattle.etcs_rows.proofs.FitLemmas.{SetsTo, StepsTo}
use Rattle.etcs_rows.proofs.fitting.+fitting.Given as goal

-- the items that are left
abbrev items_left : List RowItem → List Pending → ℕ
items_left items waiting = length items + sum_by (λ p. length p.items.now + 1) waiting

abbrev pub decreases-choose : goal.decreases-choose
decreases-choose g l = 6 * items_left l.rest.now l.waiting.now + 6

abbrev pub decreases-choose_each : goal.decreases-choose_each
decreases-choose_each g l = 6 * items_left l.rest.now l.waiting.now + 5

abbrev pub decreases-leave : goal.decreases-leave
decreases-leave g l = 6 * sum_by (λ p. length p.items.now + 1) l.waiting.now

abbrev pub decreases-onward : goal.decreases-onward
decreases-onward g l = 6 * items_left l.items.now l.waiting.now + 2

abbrev pub decreases-spread : goal.decreases-spread
decreases-spread g l = 6 * items_left l.items.now l.waiting.now + 4

abbrev pub decreases-spread_each : goal.decreases-spread_each
decreases-spread_each g l = 6 * items_left l.items.now l.waiting.now + 3

abbrev pub invariant-choose_each-loop-number : goal.invariant-choose_each-loop-number
invariant-choose_each-loop-number g l = record {
  took : g.T.Taker.Took l.fn.out l.out false (Plus (InTotal l.sum) (Plus (SetsTo l.var (λ n. LengthsBy (front (layout l.rest)) n) l.low l.number) (Onward l.beyond l.waiting)));
  within : (n : ℕ) → l.low ≤ n → n < l.number → n ≤ l.high;
}

abbrev pub invariant-spread_each-loop-index : goal.invariant-spread_each-loop-index
invariant-spread_each-loop-index g l = record {
  took : g.T.Taker.Took l.fn.out l.out false (Plus (InTotal l.sum) (Plus (StepsTo l.more l.index) (Onward l.items l.waiting)));
}
