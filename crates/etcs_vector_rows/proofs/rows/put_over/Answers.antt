use Rattle.std.proofs.Common.{◌≡◌, ℕ, Bool, List, [], length, ap, ◌∙◌, arith, length-append}
use Rattle.etcs_bits.proofs.Positions.{length-bits}
use Rattle.etcs_tables.specs.Layouts.{Layout, layout, Spells}
use Rattle.etcs_rows.proofs.RowLaws.{one_spelling}
use Rattle.etcs_vector_rows.proofs.rows.put_over.Goals as goal

same_length : (row : Layout) (f : List ℕ) (b out : List Bool) → Spells row [] f b → Spells row [] f out → length b ≡ length out
same_length row f b out h k = ap length (one_spelling.1 row f b out h k)

pub put_row-requires-clause-inside : goal.put_row-requires-clause-inside
put_row-requires-clause-inside c = λ b spells.
    let stands = c.in_ok-admitted.ensures.spelled c.if-not-admitted.false in
    let same = same_length (layout c.args.row.items.now) c.args.fields.now b stands.0 spells stands.1 in
    let grown = ap length stands.2 ∙ length-append c.new-out.result stands.0 in
    omega (arith, same, ap length c.new-out.ensures, grown, length-bits c.args.bytes.now)

pub put_row-requires-clause-small : goal.put_row-requires-clause-small
put_row-requires-clause-small c = λ b spells.
    let stands = c.in_ok-admitted.ensures.spelled c.if-not-admitted.false in
    let same = same_length (layout c.args.row.items.now) c.args.fields.now b stands.0 spells stands.1 in
    let grown = ap length stands.2 ∙ length-append c.new-out.result stands.0 in
    omega (arith, same, ap length c.new-out.ensures, grown)
