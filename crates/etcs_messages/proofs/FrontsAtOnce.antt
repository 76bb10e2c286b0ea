-- What comes before a message's packets, taken at once.
use Rattle.std.proofs.Common.{◌≡◌, ℕ, suc, ◌+◌, ◌-◌, ◌<◌, ◌≤◌, Bool, true, false, List, [], ◌∷◌, ◌++◌, length, take, drop, get_or, map, Some, None, leb, refl, sym, ap, subst, ◌∙◌, arith, length-append, append_assoc, append-nil}
use Rattle.std.specs.Prelude.{IsTrue, Option, option_map, if◌then◌else◌}
use Rattle.std.proofs.lemmas.Bool.{leb-true}
use Rattle.std.proofs.lemmas.List.{length-map, length-take, take_all, map-append}
use Rattle.std.proofs.Math.Seq.{take-suc, take-append_seam, drop-append_seam}
use Rattle.etcs_bits.specs.Bits.{num, value, part, number_at}
use Rattle.etcs_bits.specs.SliceWalker.{SliceWalk}
use Rattle.etcs_bits.proofs.Lists.{length-part, part-add}
use Rattle.etcs_bits.proofs.Views.{number_bits}
use Rattle.etcs_vars.specs.declared.var.Var.{Var}
use Rattle.etcs_vars.specs.Vars.{width, admits}
use Rattle.etcs_vars.specs.Reading.{Reading, spelled}
use Rattle.etcs_vars.specs.laws.Spellings.{spelled-append}
use Rattle.etcs_tables.specs.declared.row.Way.{Way}
use Rattle.etcs_tables.specs.declared.item.RowItem.{RowItem}
use Rattle.etcs_tables.specs.declared.item.RowItem.TheVariants.{One}
use Rattle.etcs_tables.specs.Layouts.{layout, items}
use Rattle.etcs_tables.specs.laws.Flat.{layout-items}
use Rattle.etcs_tables.specs.Rows.{message_row_to}
use Rattle.etcs_flat.specs.Flats.{variables}
use Rattle.etcs_reader.specs.Fields.{ReadsFields}
use Rattle.etcs_sequence.specs.Labels.{labelled, widths}
use Rattle.etcs_sequence.specs.Fronts.{FrontAt}
use Rattle.etcs_sequence.proofs.LabelLaws.{numbers_labelled}
use Rattle.etcs_tables.specs.Headers.{head_row}
use Rattle.etcs_messages.specs.Lefts.{own_row, front_after, front_row, front_bits, some_row}
use Rattle.etcs_messages.specs.Fronts.{WholeFront}
use Rattle.etcs_messages.proofs.Ways.{head_short}
use Rattle.etcs_messages.proofs.Fields.{fields_append, fields_length}
use Rattle.etcs_messages.proofs.Fronts.{as_row, as_items, fields_row, rows_alike, own_asked, own_few, table_long}

-- a number that is found lies inside
found_by : (t : Bool) (s w n x : ℕ) (b : List Bool) → leb (s + w) (length b) ≡ t → ◌≡◌ {A = Option ℕ} (if t then Some x else None) (Some n) → s + w ≤ length b
found_by true s w n x b e h = leb-true (s + w) (length b) e
found_by false s w n x b e h = absurd cc

found_inside : (s w n : ℕ) (b : List Bool) → number_at s w b ≡ Some n → s + w ≤ length b
found_inside s w n b e = found_by (leb (s + w) (length b)) s w n (value (part s w b)) b refl e

-- ---- Variables one after another whose bits are all there.

pub front_none : (xs : List Bool) (at : ℕ) → at ≤ length xs → FrontAt [] xs at [] at
front_none xs at h =
    let none : 0 ≡ at - at = omega arith in
    record { count = refl; onward = omega arith; inside = h; reads = refl; bits = ap (λ k. part at k xs) none }

pub front_one : (v : Var) (xs : List Bool) (at n : ℕ) → number_at at (width v) xs ≡ Some n → IsTrue (admits v n) → FrontAt (v ∷ []) xs at (n ∷ []) (at + width v)
front_one v xs at n found ok =
    let inside = found_inside at (width v) n xs found in
    let wide : width v ≡ at + width v - at = omega arith in
    record {
      count = refl;
      onward = omega arith;
      inside = inside;
      reads = (n, [], ok, refl, refl);
      bits = append-nil (num (width v) n) ∙ number_bits at (width v) n xs inside found ∙ ap (λ k. part at k xs) wide;
    }

labelled_append : (vs ws : List Var) (ns ms : List ℕ) → length ns ≡ length vs → labelled (vs ++ ws) (ns ++ ms) ≡ labelled vs ns ++ labelled ws ms
labelled_append [] ws [] ms e = refl
labelled_append [] ws (n ∷ ns) ms e = absurd cc
labelled_append (v ∷ vs) ws [] ms e = absurd cc
labelled_append (v ∷ vs) ws (n ∷ ns) ms e = ap (λ (r : Reading). (v, n) ∷ r) (labelled_append vs ws ns ms (omega (arith, e)))

-- and more of them
pub front_both : (vs ws : List Var) (xs : List Bool) (at mid end : ℕ) (ns ms : List ℕ) → FrontAt vs xs at ns mid → FrontAt ws xs mid ms end → FrontAt (vs ++ ws) xs at (ns ++ ms) end
front_both vs ws xs at mid end ns ms f g =
    let on = f.onward in
    let on' = g.onward in
    let same = labelled_append vs ws ns ms f.count in
    let place : mid ≡ at + (mid - at) = omega arith in
    let all : mid - at + (end - mid) ≡ end - at = omega arith in
    record {
      count = omega (arith, length-append ns ms, length-append vs ws, f.count, g.count);
      onward = omega arith;
      inside = g.inside;
      reads = subst (ReadsFields (vs ++ ws)) (sym same) (fields_append vs ws (labelled vs ns) (labelled ws ms) f.reads g.reads);
      bits = ap spelled same
          ∙ spelled-append (labelled vs ns) (labelled ws ms)
          ∙ ap (λ (t : List Bool). t ++ spelled (labelled ws ms)) f.bits
          ∙ ap (λ (t : List Bool). part at (mid - at) xs ++ t) (g.bits ∙ ap (λ k. part k (end - mid) xs) place)
          ∙ sym (part-add at (mid - at) (end - mid) xs)
          ∙ ap (λ k. part at k xs) all;
    }

-- they take this many bits
pub front_span : (vs : List Var) (xs : List Bool) (at : ℕ) (ns : List ℕ) (end : ℕ) → FrontAt vs xs at ns end → end ≡ at + widths vs
front_span vs xs at ns end f =
    let on = f.onward in
    let inside = f.inside in
    let one = sym (fields_length vs (labelled vs ns) f.reads) ∙ ap length f.bits ∙ length-part at (end - at) xs (omega (arith, on, inside)) in
    omega (arith, one, on)

-- ---- The numbers that were taken so far.

-- these come before others, and come from the first of the variables
pub record TakenTo (vs : List Var) (xs : List Bool) (at : ℕ) (before now : List ℕ) (place : ℕ) : Type 0 where
  pub numbers : List ℕ
  pub now_is : now ≡ before ++ numbers
  pub front : FrontAt vs xs at numbers place

pub none_taken : (xs : List Bool) (at : ℕ) (before : List ℕ) → at ≤ length xs → TakenTo [] xs at before before at
none_taken xs at before h = record { numbers = []; now_is = sym (append-nil before); front = front_none xs at h }

pub taken_more : (vs : List Var) (v : Var) (xs : List Bool) (at : ℕ) (before now next : List ℕ) (place end n : ℕ) → TakenTo vs xs at before now place → next ≡ now ++ n ∷ [] → FrontAt (v ∷ []) xs place (n ∷ []) end → TakenTo (vs ++ v ∷ []) xs at before next end
taken_more vs v xs at before now next place end n t e f = record {
  numbers = t.numbers ++ n ∷ [];
  now_is = e ∙ ap (λ (l : List ℕ). l ++ n ∷ []) t.now_is ∙ append_assoc before t.numbers (n ∷ []);
  front = front_both vs (v ∷ []) xs at place end t.numbers (n ∷ []) t.front f;
}

pub taken_long : (vs : List Var) (xs : List Bool) (at : ℕ) (before now : List ℕ) (place : ℕ) → TakenTo vs xs at before now place → length now ≡ length before + length vs
taken_long vs xs at before now place t = ap length t.now_is ∙ length-append before t.numbers ∙ ap (λ k. length before + k) t.front.count

take_next : {A : Type 0} (l : List A) (i : ℕ) (d : A) → i < length l → take (i + 1) l ≡ take i l ++ get_or l i d ∷ []
take_next l i d h = let one : i + 1 ≡ suc i = omega arith in ap (λ k. take k l) one ∙ take-suc l i d h

-- ---- The same of a table's items.

-- the first items are these variables
pub record ItemsTo (table : List RowItem) (i : ℕ) (xs : List Bool) (at : ℕ) (before now : List ℕ) (place : ℕ) : Type 0 where
  pub vars : List Var
  pub items_are : take i table ≡ map One vars
  pub taken : TakenTo vars xs at before now place

pub no_items : (table : List RowItem) (xs : List Bool) (at : ℕ) (before : List ℕ) → at ≤ length xs → ItemsTo table 0 xs at before before at
no_items table xs at before h = record { vars = []; items_are = refl; taken = none_taken xs at before h }

pub items_more : (table : List RowItem) (i : ℕ) (d : RowItem) (v : Var) (xs : List Bool) (at : ℕ) (before now next : List ℕ) (place end n : ℕ) → i < length table → get_or table i d ≡ One v → ItemsTo table i xs at before now place → next ≡ now ++ n ∷ [] → FrontAt (v ∷ []) xs place (n ∷ []) end → ItemsTo table (i + 1) xs at before next end
items_more table i d v xs at before now next place end n h one t e f = record {
  vars = t.vars ++ v ∷ [];
  items_are = take_next table i d h ∙ ap (λ (l : List RowItem). l ++ get_or table i d ∷ []) t.items_are ∙ ap (λ (x : RowItem). map One t.vars ++ x ∷ []) one ∙ sym (map-append One t.vars (v ∷ []));
  taken = taken_more t.vars v xs at before now next place end n t.taken e f;
}

pub items_long : (table : List RowItem) (i : ℕ) (xs : List Bool) (at : ℕ) (before now : List ℕ) (place : ℕ) → i ≤ length table → ItemsTo table i xs at before now place → length now ≡ length before + i
items_long table i xs at before now place h t =
    let here = sym (length-map t.vars One) ∙ ap length (sym t.items_are) ∙ length-take i table in
    omega (arith, here, taken_long t.vars xs at before now place t.taken)

row_variables : (vs : List Var) → variables (as_row vs) ≡ Some vs
row_variables [] = refl
row_variables (v ∷ vs) = ap (λ (o : Option (List Var)). option_map (λ ws. v ∷ ws) o) (row_variables vs)

table_variables : (vs : List Var) → variables (layout (map One vs)) ≡ Some vs
table_variables vs =
    let same : layout (map One vs) ≡ as_row vs = ap (λ (t : List RowItem). layout t) (sym (as_items vs)) ∙ layout-items (as_row vs) in
    ap variables same ∙ row_variables vs

pub items_all : (table : List RowItem) (i : ℕ) (xs : List Bool) (at : ℕ) (before now : List ℕ) (place : ℕ) (vars : List Var) → length table ≤ i → ItemsTo table i xs at before now place → variables (layout table) ≡ Some vars → (ns : List ℕ) × (now ≡ before ++ ns) × FrontAt vars xs at ns place
items_all table i xs at before now place vars h t e =
    let is : table ≡ map One t.vars = sym (take_all i table h) ∙ t.items_are in
    let some : Some t.vars ≡ Some vars = sym (table_variables t.vars) ∙ ap (λ (l : List RowItem). variables (layout l)) (sym is) ∙ e in
    let same : t.vars ≡ vars = cc in
    (t.taken.numbers, t.taken.now_is, subst (λ (vs : List Var). FrontAt vs xs at t.taken.numbers place) same t.taken.front)

-- ---- All of the front.

-- a table's length, and the variables that its items are
pub table_is : (way : Way) (nid : ℕ) (table : List RowItem) → Some table ≡ option_map items (message_row_to way nid) → (own : List Var) × (own_row way nid ≡ Some own) × (variables (layout table) ≡ Some own) × (length (head_row way) + length table ≤ 5)
table_is way nid table e =
    let (own, is, same) = own_asked way items nid table e in
    let all : table ≡ map One own = same ∙ as_items own in
    let long : length table ≡ length own = ap length all ∙ length-map own One in
    let few = (own_few way nid own is).1 in
    let head = head_short way in
    (own, is, ap (λ (l : List RowItem). variables (layout l)) all ∙ table_variables own, omega (arith, long, few, head))

pub whole_front : (way : Way) (nid : ℕ) (table : List RowItem) (xs : List Bool) (hs f : List ℕ) (mid end : ℕ) → Some table ≡ option_map items (message_row_to way nid) → FrontAt (head_row way) xs 18 hs mid → ((own : List Var) → variables (layout table) ≡ Some own → (ns : List ℕ) × (f ≡ hs ++ ns) × FrontAt own xs mid ns end) → WholeFront way nid xs f
whole_front way nid table xs hs f mid end found h o =
    let row = head_row way in
    let (own, is, its, few) = table_is way nid table found in
    let (ns, f_is, g) = o own its in
    let n = length row in
    let count : length hs ≡ n = h.count in
    let firsts : take n f ≡ hs = ap (take n) f_is ∙ ap (λ k. take k (hs ++ ns)) (sym count) ∙ take-append_seam hs ns in
    let others : drop n f ≡ ns = ap (drop n) f_is ∙ ap (λ k. drop k (hs ++ ns)) (sym count) ∙ drop-append_seam hs ns in
    let all : front_row way nid ≡ Some (row ++ own) = ap (option_map (front_after way)) is in
    let both = front_both row own xs 18 mid end hs ns h g in
    let last : end ≡ front_bits (row ++ own) = front_span (row ++ own) xs 18 (hs ++ ns) end both in
    let front : FrontAt (row ++ own) xs 18 f (front_bits (row ++ own)) = subst (λ k. FrontAt (row ++ own) xs 18 f k) last (subst (λ (x : List ℕ). FrontAt (row ++ own) xs 18 x end) (sym f_is) both) in
    record {
      there = omega (arith, ap length f_is, length-append hs ns, count);
      head = (labelled row hs, h.reads, numbers_labelled row hs count ∙ sym firsts);
      own = (as_row own, labelled own ns, rows_alike way nid ∙ ap (option_map as_row) is, fields_row own [] (labelled own ns) g.reads, numbers_labelled own ns g.count ∙ sym others);
      front = subst (λ (vs : List Var). FrontAt vs xs 18 f (front_bits vs)) (sym (ap some_row all)) front;
    }

-- ---- A walker that comes by the front.

-- the numbers of these variables come after others, and the walker passes them
abbrev pub Passes : List Var → SliceWalk → List ℕ → List ℕ → ℕ → Type 0
Passes vs w before now end = (ns : List ℕ) × (now ≡ before ++ ns) × FrontAt vs w.bits w.place ns end

-- those of a table's variables
abbrev pub PassesTable : List RowItem → SliceWalk → List ℕ → List ℕ → ℕ → Type 0
PassesTable table w before now end = (vars : List Var) → variables (layout table) ≡ Some vars → Passes vars w before now end

-- the table of the header's
pub head_passed : (way : Way) (table : List RowItem) (w : SliceWalk) (before now : List ℕ) (end : ℕ) → table ≡ map One (head_row way) → PassesTable table w before now end → Passes (head_row way) w before now end
head_passed way table w before now end is p = p (head_row way) (ap (λ (l : List RowItem). variables (layout l)) is ∙ table_variables (head_row way))

pub head_room : (way : Way) (before : List ℕ) (table : List RowItem) → before ≡ [] → table ≡ map One (head_row way) → length before + length table ≤ 5
head_room way before table none is = (let few = head_short way in omega (arith, ap length none, table_long way table is, few))

pub own_room : (way : Way) (nid : ℕ) (table : List RowItem) (before mid : List ℕ) (w : SliceWalk) (end : ℕ) → Some table ≡ option_map items (message_row_to way nid) → before ≡ [] → Passes (head_row way) w before mid end → (length mid + length table ≤ 5) × (end ≤ length w.bits)
own_room way nid table before mid w end found none (hs, mid_is, h) =
    let (own, o, its, few) = table_is way nid table found in
    let long = ap length mid_is ∙ length-append before hs in
    let empty = ap length none in
    let count = h.count in
    (omega (arith, long, empty, count, few), h.inside)

pub front_passed : (way : Way) (nid : ℕ) (table : List RowItem) (xs : List Bool) (w w' : SliceWalk) (before mid now : List ℕ) (end : ℕ) → Some table ≡ option_map items (message_row_to way nid) → w ≡ record { bits = xs; place = 18 } → before ≡ [] → Passes (head_row way) w before mid w'.place → w'.bits ≡ w.bits → PassesTable table w' mid now end → WholeFront way nid xs now
front_passed way nid table xs w w' before mid now end found start none (hs, mid_is, h) same o =
    let mid' : mid ≡ hs = mid_is ∙ ap (λ (l : List ℕ). l ++ hs) none in
    let first = subst (λ (x : SliceWalk). FrontAt (head_row way) x.bits x.place hs w'.place) start h in
    let place : w'.bits ≡ xs = same ∙ ap (λ (x : SliceWalk). x.bits) start in
    whole_front way nid table xs hs now w'.place end found first
    (λ own its. (let (ns, now_is, g) = o own its in
    (ns, now_is ∙ ap (λ (l : List ℕ). l ++ ns) mid', subst (λ (b : List Bool). FrontAt own b w'.place ns end) place g)))
