-- The steps of the walk outside of rows, as the code takes them.
use Rattle.std.proofs.Common.{◌≡◌, ◌+◌, ◌<◌, ◌≤◌, Bool, true, false, List, [], ◌∷◌, ◌++◌, length, get_or, drop, Option, Some, None, refl, sym, ap, ◌∙◌, subst, arith, append_assoc, append-nil, length-append, drop-drop}
use Rattle.std.specs.Prelude.{option_map, if◌then◌else◌}
use Rattle.std.proofs.lemmas.List.{drop_all, drop_more}
use Rattle.etcs_vars.specs.Reading.{Sent, Reading}
use Rattle.etcs_tables.specs.declared.item.RowItem.{RowItem}
use Rattle.etcs_tables.specs.declared.row.Way.{Way}
use Rattle.etcs_tables.specs.Layouts.{Layout, items, layout}
use Rattle.etcs_tables.specs.Rows.{row_to}
use Rattle.etcs_tables.specs.laws.Flat.{layout-items}
use Rattle.etcs_places.specs.declared.place.Place.{Place}
use Rattle.etcs_places.specs.declared.walk.Here.{Here}
use Rattle.etcs_places.specs.Places.{outside, in_packet}
use Rattle.etcs_places.specs.Walks.{opens, closes, is_length, places_by}
use Rattle.etcs_places.specs.Scans.{step, body_places, scan}
use Rattle.etcs_places.proofs.RowLemmas.{row_within}

-- places that a row has given already come first
pub scan_queue : (way : Way) (h : Here) (q : List Place) (r : Reading) → length q ≤ length r → scan way h q r ≡ q ++ scan way h [] (drop (length q) r)
unfolding scan
scan_queue way h [] r fits = refl
scan_queue way h (x ∷ q) [] fits = absurd (omega (arith, fits))
scan_queue way h (x ∷ q) (p ∷ r) fits = ap (λ (y : List Place). x ∷ y) (scan_queue way h q r (omega (arith, fits)))

by_within : (o : Option Layout) (at : Place) (r : Reading) → length (places_by o at r) ≤ length r
by_within None at r = omega arith
by_within (Some row) at r = row_within row 0 at r

if_within : (b : Bool) (q : List Place) (r : Reading) → length q ≤ length r → length (if b then q else []) ≤ length r
if_within true q r h = h
if_within false q r h = omega arith

pub scan_end : (way : Way) (h : Here) (pairs : Reading) (places all : List Place) → length pairs ≤ length places → places ++ scan way h [] (drop (length places) pairs) ≡ all → places ≡ all
unfolding scan
scan_end way h pairs places all past is = sym (append-nil places) ∙ (rw (drop_all (length places) pairs past) at is)

-- a variable, with the row that follows it, is taken
pub scan_step : (way : Way) (h next : Here) (pairs : Reading) (p : Sent) (places mid new all : List Place) → length places < length pairs → p ≡ get_or pairs (length places) p → next ≡ step h p → mid ≡ places ++ next.at ∷ [] → new ≡ mid ++ body_places way next p.0 (drop (length mid) pairs) → places ++ scan way h [] (drop (length places) pairs) ≡ all → new ++ scan way next [] (drop (length new) pairs) ≡ all
unfolding scan
scan_step way h next pairs p places mid new all inside here steps first second is =
    let left = drop (length mid) pairs in
    let body = body_places way next p.0 left in
    let counted : length mid ≡ length places + 1 = ap (λ (q : List Place). length q) first ∙ length-append places (next.at ∷ []) in
    let comes : drop (length places) pairs ≡ p ∷ left = drop_more pairs (length places) p inside ∙ ap (λ (q : Sent). q ∷ drop (length places + 1) pairs) (sym here) ∙ ap (λ k. p ∷ drop k pairs) (sym counted) in
    let queue = scan_queue way next body left (if_within (is_length p.0) (places_by (row_to way next.nid) next.at left) left (by_within (row_to way next.nid) next.at left)) in
    let long : length new ≡ length mid + length body = ap (λ (q : List Place). length q) second ∙ length-append mid body in
    let taken : scan way h [] (p ∷ left) ≡ next.at ∷ scan way next body left = subst (λ (n : Here). scan way h [] (p ∷ left) ≡ n.at ∷ scan way n (body_places way n p.0 left) left) (sym steps) refl in
    let after = scan way next [] (drop (length body) left) in
    let both = scan way next body left in
    ap (λ (d : Reading). new ++ scan way next [] d) (ap (λ k. drop k pairs) long ∙ sym (drop-drop (length body) (length mid) pairs))
    ∙ ap (λ (q : List Place). q ++ after) second
    ∙ append_assoc mid body after
    ∙ ap (λ (q : List Place). mid ++ q) (sym queue)
    ∙ ap (λ (q : List Place). q ++ both) first
    ∙ append_assoc places (next.at ∷ []) both
    ∙ ap (λ (q : List Place). places ++ q) (sym taken)
    ∙ ap (λ (r : Reading). places ++ scan way h [] r) (sym comes)
    ∙ is

step_counts : (h : Here) (p : Sent) → (step h p).packets ≤ h.packets + 1
step_counts h p = counts (opens p.0) (closes p.0)
  where
    counts : (o c : Bool) → (if o then record { packets = h.packets + 1; nid = p.1; at = in_packet (h.packets + 1) } else (if c then record h { at = outside } else h)).packets ≤ h.packets + 1
    counts true c = omega arith
    counts false true = omega arith
    counts false false = omega arith

-- no more packets have begun than variables were taken
pub scan_counted : (h next : Here) (p : Sent) (places mid new body : List Place) → next ≡ step h p → mid ≡ places ++ next.at ∷ [] → new ≡ mid ++ body → h.packets ≤ length places → next.packets ≤ length new
scan_counted h next p places mid new body steps first second before =
    let one = ap (λ (q : List Place). length q) first ∙ length-append places (next.at ∷ []) in
    let more = ap (λ (q : List Place). length q) second ∙ length-append mid body in
    let least : next.packets ≤ h.packets + 1 = rw steps (step_counts h p) in
    omega (arith, one, more, least, before)

-- ---- The row of a number.

pub by_table : (o : Option Layout) (table : List RowItem) → Some table ≡ option_map items o → o ≡ Some (layout table)
by_table None table e = absurd cc
by_table (Some row) table e =
    let same : table ≡ items row = cc in
    ap (λ (l : Layout). Some l) (sym (layout-items row) ∙ ap (λ (t : List RowItem). layout t) (sym same))
