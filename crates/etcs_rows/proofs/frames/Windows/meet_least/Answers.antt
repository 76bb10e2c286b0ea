use Rattle.std.proofs.Common.{inl, inr}
use Rattle.etcs_tables.specs.Layouts.{layout}
use Rattle.etcs_rows.proofs.LengthLemmas.{lengths_are}
use Rattle.etcs_rows.proofs.PlaceLemmas.{sound_parts}
use Rattle.etcs_rows.proofs.frames.Windows.meet_least.Goals as goal

pub returns-then-holds : goal.returns-then-holds
returns-then-holds c h =
    let row = layout c.args.row.items.now in
    let s = sound_parts row c.args.row.sound in
    (c.in-Some.bits, inl (c.holds.ensures h), (lengths_are row s.1 c.in-Some.bits).1 (c.in-Some.ensures, c.if-bits-le-MOST_LENGTH.true))

pub returns-else-holds : goal.returns-else-holds
returns-else-holds c h =
    let row = layout c.args.row.items.now in
    let s = sound_parts row c.args.row.sound in
    (c.in-Some.bits, inr (c.holds-else-holds.ensures h), (lengths_are row s.1 c.in-Some.bits).1 (c.in-Some.ensures, c.if-bits-le-MOST_LENGTH.true))
