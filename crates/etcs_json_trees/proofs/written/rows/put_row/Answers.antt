use Rattle.std.proofs.Common.{List, ℕ, refl, sym, ap, ◌∙◌, length}
use Rattle.etcs_json_trees.proofs.WrittenRows.{none_read}
use Rattle.etcs_json_trees.proofs.written.rows.put_row.Goals as goal

pub returns-then-is_empty : goal.returns-then-is_empty
returns-then-is_empty c =
    none_read c.args.row.items.now c.args.text.now c.pass.new.self _ c.args.out.now _ (sym c.is_empty.ensures ∙ c.if-is_empty.true) (sym c.new-left.ensures ∙ c.in_ok-pass.ensures) (ap (λ (z : List ℕ). length z) c.left.ensures) refl
