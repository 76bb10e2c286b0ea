use Rattle.std.proofs.Common.{◌≡◌, ℕ, ◌-◌, ◌^◌, [], Some, arith, subst, sym, ap, ◌∙◌}
use Rattle.std.specs.Prelude.{◌↔◌, IsTrue, false}
use Rattle.etcs_tables.specs.Layouts.{Layout, Lengths, layout}
use Rattle.etcs_tables.specs.Rows.{row_to}
use Rattle.etcs_tables.specs.Frames.{frame_bits}
use Rattle.etcs_rows.specs.Frames.{way_of, InWindows}
use Rattle.etcs_rows.proofs.FrameLemmas.{by_windows, none_fits, kept_fits, row_fits, one_fits, row_found, no_row}
use Rattle.etcs_rows.proofs.frames.length_fits.Goals as goal

pub returns-then-not-any : goal.returns-then-not-any
returns-then-not-any c =
    let a = c.args in let e = c.ends-low in let w = c.new-windows in
    let none : ((m : ℕ) × InWindows w.result m) → IsTrue false = λ x. (let t = c.any.ensures.1 x in rw c.if-not-any.true at t) in
    by_windows a.carrier a.nid a.room (2 ^ a.rest) a.bits e.result.0 e.result.1 w.result false e.ensures.small e.ensures.all w.ensures (none_fits (way_of a.carrier) a.nid w.result none)

pub overflow_sub-low : goal.overflow_sub-low
overflow_sub-low c =
    let some = c.any.ensures.0 c.if-not-any.false in
    let first = (c.new-windows.ensures some.0).0 some.1 in
    omega (arith, c.ends-low.ensures.one c.if-rest-eq0.true, c.frame_bits.ensures.bits, ap frame_bits c.way-way.ensures, first.0, first.1)

pub returns-in-None : goal.returns-in-None
returns-in-None c =
    let a = c.args in let e = c.ends-low in let w = c.new-windows in
    let some = c.any.ensures.0 c.if-not-any.false in
    by_windows a.carrier a.nid a.room (2 ^ a.rest) a.bits e.result.0 e.result.1 w.result c.is_kept.result e.ensures.small e.ensures.all w.ensures
    (kept_fits (way_of a.carrier) a.nid w.result c.is_kept.result (no_row (row_to (way_of a.carrier) a.nid) (rw c.way-way.ensures at c.in-None.ensures)) (rw c.way-way.ensures at c.is_kept.ensures) some)

pub returns-then-rest-eq0 : goal.returns-then-rest-eq0
returns-then-rest-eq0 c =
    let a = c.args in let e = c.ends-low in let w = c.new-windows in
    let some = c.any.ensures.0 c.if-not-any.false in
    let found : row_to (way_of a.carrier) a.nid ≡ Some c.start.result = row_found (row_to (way_of a.carrier) a.nid) c.in-Some.row.items.now (rw c.way-way.ensures at c.in-Some.ensures) ∙ ap (λ (r : Layout). Some r) (sym c.start.ensures.left) in
    let ends-are = e.ensures.one c.if-rest-eq0.true in
    let first = (w.ensures some.0).0 some.1 in
    let only : (k : ℕ) → InWindows w.result k → k ≡ some.0 = λ k inside. (let x = (w.ensures k).0 inside in omega (arith, ends-are, x.0, x.1, first.0, first.1)) in
    let is : e.result.0 - c.frame_bits.result ≡ some.0 = omega (arith, ends-are, c.frame_bits.ensures.bits, ap frame_bits c.way-way.ensures, first.0, first.1) in
    by_windows a.carrier a.nid a.room (2 ^ a.rest) a.bits e.result.0 e.result.1 w.result c.can_take.result e.ensures.small e.ensures.all w.ensures
    (one_fits (way_of a.carrier) a.nid c.start.result w.result some.0 c.can_take.result found some.1 only (subst (λ k. IsTrue c.can_take.result ↔ Lengths c.start.result [] k) is c.can_take.ensures))

pub returns-else-rest-eq0 : goal.returns-else-rest-eq0
returns-else-rest-eq0 c =
    let a = c.args in let e = c.ends-low in let w = c.new-windows in
    let row = layout c.in-Some.row.items.now in
    let found : row_to (way_of a.carrier) a.nid ≡ Some row = row_found (row_to (way_of a.carrier) a.nid) c.in-Some.row.items.now (rw c.way-way.ensures at c.in-Some.ensures) in
    by_windows a.carrier a.nid a.room (2 ^ a.rest) a.bits e.result.0 e.result.1 w.result c.meet_row.result e.ensures.small e.ensures.all w.ensures
    (row_fits (way_of a.carrier) a.nid row w.result c.meet_row.result found c.meet_row.ensures)
