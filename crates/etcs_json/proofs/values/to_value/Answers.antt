use Rattle.std.proofs.Common.{◌≡◌, ◌+◌, ◌-◌, ◌≤◌, ◌++◌, ◌∷◌, [], ℕ, List, Option, Some, IsUtf8, length, take, refl, sym, ap, subst, ◌∙◌, arith}
use Rattle.std.proofs.lemmas.List.{length-append, length-take-le, take_at}
use Rattle.serde_json.specs.Data.{Data}
use Rattle.serde_json.specs.Read.{read}
use Rattle.serde_json.specs.View.{view}
use Rattle.etcs_text.specs.Entries.{entry_kind, entry_value}
use Rattle.etcs_text.specs.Trees.{json_tree}
use Rattle.etcs_json.proofs.FittingTrees.{item_fits}
use Rattle.etcs_json.proofs.OwnStored.{own_stored}
use Rattle.etcs_json.proofs.PlainTrees.{read_tree, utf8_tree}
use Rattle.etcs_json.proofs.values.to_value.Goals as goal

-- what is before a LF
before_lf : (line text lines none : List ℕ) → text ≡ lines → lines ≡ none ++ (line ++ 10 ∷ []) → none ≡ [] → (1 ≤ length text) × (take (length text - 1) text ≡ line)
before_lf line text lines none same put empty =
    let is : text ≡ line ++ 10 ∷ [] = same ∙ put ∙ ap (λ (t : List ℕ). t ++ (line ++ 10 ∷ [])) empty in
    let long : length text ≡ length line + 1 = ap length is ∙ length-append line (10 ∷ []) in
    (omega (arith, long), ap (take (length text - 1)) is ∙ take_at line (10 ∷ []) (length text - 1) (omega (arith, long)))

pub slice_bounds-tree_of-count : goal.slice_bounds-tree_of-count
slice_bounds-tree_of-count c =
    let text = before_lf _ _ _ _ c.as_slice-text.ensures.value c.in_ok-json_line.ensures.ok c.new-line.ensures.items in
    text.0

pub slice_bounds-tree_of-length : goal.slice_bounds-tree_of-length
slice_bounds-tree_of-length c = omega (arith, length-take-le (length c.as_slice-text.result.now - 1) c.as_slice-text.result.now (omega arith))

pub unreachable-requires : goal.unreachable-requires
unreachable-requires c =
    let e = entry_value c.args.entry.now in
    let (r, spells) = c.reads.ensures in
    let text = before_lf _ _ _ _ c.as_slice-text.ensures.value c.in_ok-json_line.ensures.ok c.new-line.ensures.items in
    let s = own_stored (entry_kind e) e r (refl, spells) in
    let none = rw c.in-None.is at c.in_ok-tree.ensures.none in
    none (json_tree e) (subst IsUtf8 (sym text.1) (utf8_tree e r spells)) (ap read text.1 ∙ read_tree e r spells) (item_fits (entry_kind e) e (json_tree e) s.loose s.tree)

pub returns : goal.returns
returns c =
    let e = entry_value c.args.entry.now in
    let (r, spells) = c.reads.ensures in
    let text = before_lf _ _ _ _ c.as_slice-text.ensures.value c.in_ok-json_line.ensures.ok c.new-line.ensures.items in
    let some = rw c.in-Some.is at c.in_ok-tree.ensures.some in
    let both : ◌≡◌ {A = Option Data} (Some (view c.in-Some.tree)) (Some (json_tree e)) = sym some.1 ∙ ap read text.1 ∙ read_tree e r spells in
    cc
