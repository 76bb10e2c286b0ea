-- Further lemmas beside specs/laws/TableLaws.antt.
use Rattle.std.proofs.Common.{◌≡◌, ℕ, List, [], ◌∷◌, ◌++◌, inl, inr, refl, sym, ap, ◌∙◌}
use Rattle.std.specs.Prelude.{◌⊎◌}
use Rattle.std.proofs.lemmas.List.{append-nil}
use Rattle.etcs_vars.specs.Reading.{Reading}
use Rattle.etcs_tables.specs.declared.item.RowItem.{RowItem}
use Rattle.etcs_flat.specs.Tables.{table_pairs}
use Rattle.etcs_flat.specs.laws.TableLaws.{pairs_of_none}
use Rattle.etcs_tables.specs.Layouts.{items}

-- ---- Pairs and widths.

-- the pairs end with the items or the numbers
pub pairs_end : {items : List RowItem} {ns : List ℕ} {all : Reading} (sent : Reading) → (items ≡ []) ⊎ (ns ≡ []) → sent ++ table_pairs items ns ≡ all → sent ≡ all
pairs_end {items} {ns} sent last e =
    let none : table_pairs items ns ≡ [] = elim last [
      | inl h ↦ ap (λ (t : List RowItem). table_pairs t ns) h
      | inr h ↦ ap (table_pairs items) h ∙ pairs_of_none items
    ] in
    sym (append-nil sent) ∙ ap (λ (t : Reading). sent ++ t) (sym none) ∙ e
