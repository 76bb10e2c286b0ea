-- How the numbers of a packet are looked through, beside the items of its table.
use Rattle.std.proofs.Common.{◌≡◌, ℕ, ◌==◌, List, [], ◌∷◌, length, map, inl, inr, Option, Some, None, refl, sym, ap, ◌∙◌, arith, subst}
use Rattle.std.specs.Prelude.{if◌then◌else◌, ◌⊎◌}
use Rattle.std.specs.Option.{option_map}
use Rattle.std.proofs.lemmas.List.{length-map}
use Rattle.etcs_vars.specs.declared.var.Var.{Var}
use Rattle.etcs_vars.specs.declared.fault.BuildFault.{BuildFault}
use Rattle.etcs_vars.specs.declared.fault.BuildFault.TheVariants.{Count}
use Rattle.etcs_vars.specs.Faults.{◌or_else◌, number_fault}
use Rattle.etcs_tables.specs.declared.item.RowItem.{RowItem}
use Rattle.etcs_tables.specs.declared.item.RowItem.TheVariants.{One}
use Rattle.etcs_tables.specs.declared.row.Way.{Way}
use Rattle.etcs_flat.specs.Flats.{numbers_fault, row_fault}
use Rattle.etcs_flat.specs.Others.{direction_fault}
use Rattle.etcs_flat.specs.laws.FlatLaws.{same_count}

-- ---- Faults, one after another.

pub none_first : {a b f : Option BuildFault} → a or_else b ≡ f → a ≡ None → b ≡ f
none_first {b} e h = sym (ap (λ (x : Option BuildFault). x or_else b) h) ∙ e

pub some_first : {a f : Option BuildFault} {x : BuildFault} (b : Option BuildFault) → a or_else b ≡ f → a ≡ Some x → f ≡ Some x
some_first b e h = sym e ∙ ap (λ (x : Option BuildFault). x or_else b) h

-- ---- Numbers beside the items of a table.

-- at an item and its number
pub fault_from : {items table : List RowItem} {ns numbers : List ℕ} {item : RowItem} {n : ℕ} {f : Option BuildFault} (vs : List Var) → items ≡ map One vs → items ≡ item ∷ table → ns ≡ n ∷ numbers → numbers_fault vs ns ≡ f → (v : Var) × (ws : List Var) × (item ≡ One v) × (table ≡ map One ws) × (number_fault v n or_else numbers_fault ws numbers ≡ f)
fault_from [] are first second e = absurd cc
fault_from {f} (v ∷ ws) are first second e = (v, ws, cc, cc, subst (λ (g : List ℕ). numbers_fault (v ∷ ws) g ≡ f) second e)

-- after the last item or the last number
pub fault_end : {items : List RowItem} {ns : List ℕ} {f : Option BuildFault} (vs : List Var) → items ≡ map One vs → (items ≡ []) ⊎ (ns ≡ []) → numbers_fault vs ns ≡ f → f ≡ None
fault_end [] are over e = sym e
fault_end (v ∷ ws) are (inl h) e = absurd cc
fault_end (v ∷ ws) are (inr h) e = sym e ∙ ap (numbers_fault (v ∷ ws)) h

-- if the count and the direction are right, only numbers may be wrong
pub numbers_left : (way : Way) (o : Option (List Var)) (table : List RowItem) (dir : ℕ) (ns : List ℕ) → Some table ≡ option_map (λ vs. map One vs) o → length ns ≡ length table → direction_fault way dir ≡ None
    → (vs : List Var) × (table ≡ map One vs) × (row_fault way o dir ns ≡ numbers_fault vs ns)
numbers_left way None table dir ns is long fine = absurd cc
numbers_left way (Some vs) table dir ns is long fine =
    let are : table ≡ map One vs = cc in
    let count : length ns ≡ length vs = omega (arith, long, ap length are, length-map vs One) in
    let counted : (if length ns == length vs then None else Some Count) ≡ None = same_count (length ns) (length vs) None (Some Count) count in
    (vs, are, rw (counted, fine) refl)
