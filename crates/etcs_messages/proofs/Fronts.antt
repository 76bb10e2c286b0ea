-- The variables before a message's packets, and the row of its own.
use Rattle.std.proofs.Common.{◌≡◌, ℕ, zero, suc, ◌+◌, ◌-◌, ◌≤◌, ◌<◌, true, leb, List, [], ◌∷◌, ◌++◌, length, drop, map, Some, None, refl, sym, ap, subst, ◌∙◌, arith, length-append}
use Rattle.std.specs.Prelude.{Option, option_map, option_and_then, slice_get}
use Rattle.std.proofs.lemmas.Bool.{and_parts, leb-true}
use Rattle.std.proofs.lemmas.List.{length-map}
use Rattle.std.proofs.lemmas.Option.{option_and_then_some}
use Rattle.etcs_vars.specs.declared.var.Var.{Var}
use Rattle.etcs_vars.specs.Vars.{width}
use Rattle.etcs_vars.specs.Reading.{Reading, spelled}
use Rattle.etcs_tables.specs.declared.row.Way.{Way}
use Rattle.etcs_tables.specs.declared.item.RowItem.{RowItem}
use Rattle.etcs_tables.specs.declared.item.RowItem.TheVariants.{One}
use Rattle.etcs_tables.specs.Layouts.{Layout, Scope, whole, one, guarded, counted, Reads, items}
use Rattle.etcs_tables.specs.Rows.{message_row_to}
use Rattle.etcs_tables.specs.MessageRows.{header_bits, row_bits}
use Rattle.etcs_rows.proofs.MessageLengths.{is_flat}
use Rattle.etcs_flat.specs.Flats.{variables}
use Rattle.etcs_reader.specs.Fields.{ReadsFields, first_of}
use Rattle.etcs_sequence.specs.Labels.{widths}
use Rattle.etcs_messages.specs.Kinds.{OfRow}
use Rattle.etcs_tables.specs.Headers.{head_row}
use Rattle.etcs_messages.proofs.Ways.{header_is, header_few, head_some, head_short, few, row_flat, row_few}
use Rattle.etcs_messages.proofs.Fields.{fields_length, widths_append}
use Rattle.etcs_messages.specs.Lefts.{own_row, front_after, front_row, some_row, front_vars, front_bits, var_of}

-- ---- A row of variables alone.

abbrev pub as_row : List Var → Layout
as_row [] = whole
as_row (v ∷ vs) = one v (as_row vs)

pub row_fields : (vs : List Var) (s : Scope) (r : Reading) → Reads (as_row vs) s r → ReadsFields vs r
unfolding Reads
row_fields [] s r h = h
row_fields (v ∷ vs) s r (n, r', a, e, h) = (n, r', a, e, row_fields vs ((v, n) ∷ s) r' h)

pub fields_row : (vs : List Var) (s : Scope) (r : Reading) → ReadsFields vs r → Reads (as_row vs) s r
unfolding Reads
fields_row [] s r h = h
fields_row (v ∷ vs) s r (n, r', a, e, h) = (n, r', a, e, fields_row vs ((v, n) ∷ s) r' h)

-- the bits of what comes after a variable
pub drop_bits : (vs : List Var) (at : ℕ) (x : Var) → first_of (drop at vs) ≡ Some x → widths (drop at vs) ≡ width x + widths (drop (suc at) vs)
drop_bits [] zero x e = absurd cc
drop_bits [] (suc at) x e = absurd cc
drop_bits (v ∷ vs) zero x e = let same : v ≡ x = cc in rw same refl
drop_bits (v ∷ vs) (suc at) x e = drop_bits vs at x e

-- ---- Which messages are typed.

first_alike : (v : Var) (o : Option (List Var)) (rest : Layout) → option_map as_row o ≡ Some rest → option_map as_row (option_map (λ vs. v ∷ vs) o) ≡ Some (one v rest)
first_alike v None rest e = absurd cc
first_alike v (Some vs) rest e = let same : as_row vs ≡ rest = cc in ap (λ (r : Layout). Some (one v r)) same

flat_alike : (row : Layout) → is_flat row ≡ true → option_map as_row (variables row) ≡ Some row
flat_alike whole h = refl
flat_alike (one v rest) h = first_alike v (variables rest) rest (flat_alike rest h)
flat_alike (guarded g group rest) h = absurd cc
flat_alike (counted group rest) h = absurd cc

alike : (way : Way) (n : ℕ) (o : Option Layout) → message_row_to way n ≡ o → o ≡ option_map as_row (option_and_then variables o)
alike way n None is = refl
alike way n (Some row) is = sym (flat_alike row (row_flat way n row is))

pub rows_alike : (way : Way) (n : ℕ) → message_row_to way n ≡ option_map as_row (own_row way n)
rows_alike way n = alike way n (message_row_to way n) refl

-- a row's variables
pub typed_own : (o : Option (List Var)) (row : Layout) → option_map as_row o ≡ Some row → (own : List Var) × (o ≡ Some own) × (as_row own ≡ row)
typed_own None row e = absurd cc
typed_own (Some own) row e = (own, refl, (let same : as_row own ≡ row = cc in same))

pub kept_own : (o : Option (List Var)) → option_map as_row o ≡ None → o ≡ None
kept_own None e = refl
kept_own (Some own) e = absurd cc

few_are : (o : Option (List Var)) (own : List Var) → few o ≡ true → o ≡ Some own → (widths own ≤ 32) × (length own ≤ 2)
few_are None own h e = absurd cc
few_are (Some vs) own h e =
    let same : vs ≡ own = cc in
    let both = and_parts (leb (widths vs) 32) (leb (length vs) 2) h in
    rw (← same) (leb-true (widths vs) 32 both.0, leb-true (length vs) 2 both.1)

pub own_few : (way : Way) (n : ℕ) (own : List Var) → own_row way n ≡ Some own → (widths own ≤ 32) × (length own ≤ 2)
own_few way n own e =
    option_and_then_some variables (message_row_to way n) own e
    (λ row is its. few_are (variables row) own (row_few way n row is) its)

-- the front of a typed message
front_own : (way : Way) (n : ℕ) (o : Option (List Var)) (vs : List Var) → own_row way n ≡ o → option_map (front_after way) o ≡ Some vs → (own : List Var) × (own_row way n ≡ Some own) × (front_after way own ≡ vs)
front_own way n None vs is f = absurd cc
front_own way n (Some own) vs is f = (own, is, (let same : front_after way own ≡ vs = cc in same))

-- at most 107 bits
pub front_small : (way : Way) (n : ℕ) (vs : List Var) → front_row way n ≡ Some vs → front_bits vs ≤ 107
front_small way n vs e =
    let (own, is, same) = front_own way n (own_row way n) vs refl e in
    let small = (own_few way n own is).0 in
    let wide = widths_append (head_row way) own in
    let head = header_is way in
    let most = header_few way in
    subst (λ (x : List Var). front_bits x ≤ 107) same (omega (arith, small, wide, head, most))

-- at least the header
pub front_wide : (way : Way) (n : ℕ) (vs : List Var) → front_row way n ≡ Some vs → header_bits way ≤ 18 + widths vs
front_wide way n vs e =
    let (own, is, same) = front_own way n (own_row way n) vs refl e in
    let wide = widths_append (head_row way) own in
    let head = header_is way in
    subst (λ (x : List Var). header_bits way ≤ 18 + widths x) same (omega (arith, wide, head))

-- at most five variables
pub front_short : (way : Way) (n : ℕ) (vs : List Var) → front_row way n ≡ Some vs → (0 < length vs) × (length vs ≤ 5)
front_short way n vs e =
    let (own, is, same) = front_own way n (own_row way n) vs refl e in
    let short = (own_few way n own is).1 in
    let long = length-append (head_row way) own in
    let some = head_some way in
    let head = head_short way in
    subst (λ (x : List Var). (0 < length x) × (length x ≤ 5)) same (omega (arith, long, some), omega (arith, short, long, head))

-- a reading of a row has at most 32 bits
pub row_short : (way : Way) (n : ℕ) (r : Reading) → OfRow way n r → length (spelled r) ≤ 32
row_short way n r (row, found, reads) =
    let (own, is, same) = typed_own (own_row way n) row (sym (rows_alike way n) ∙ found) in
    let fields = row_fields own [] r (subst (λ (x : Layout). Reads x [] r) (sym same) reads) in
    let wide = fields_length own r fields in
    let few = (own_few way n own is).0 in
    omega (arith, wide, few)

-- ---- What the code asks of a message's row.

-- what is asked of a typed message's row is asked of its variables
pub own_asked : (way : Way) {A : Type 0} (f : Layout → A) (nid : ℕ) (a : A) → Some a ≡ option_map f (message_row_to way nid) → (own : List Var) × (own_row way nid ≡ Some own) × (a ≡ f (as_row own))
own_asked way {A} f nid a e = of (own_row way nid) refl (e ∙ ap (option_map f) (rows_alike way nid))
  where
    of : (o : Option (List Var)) → own_row way nid ≡ o → Some a ≡ option_map f (option_map as_row o) → (own : List Var) × (own_row way nid ≡ Some own) × (a ≡ f (as_row own))
    of None is same = absurd cc
    of (Some own) is same = (own, is, (let here : a ≡ f (as_row own) = cc in here))

-- if there is no result, the number isn't typed
pub none_asked : (way : Way) {A : Type 0} (f : Layout → A) (nid : ℕ) → None ≡ option_map f (message_row_to way nid) → front_row way nid ≡ None
none_asked way {A} f nid e = of (own_row way nid) refl (e ∙ ap (option_map f) (rows_alike way nid))
  where
    of : (o : Option (List Var)) → own_row way nid ≡ o → None ≡ option_map f (option_map as_row o) → front_row way nid ≡ None
    of None is same = ap (option_map (front_after way)) is
    of (Some own) is same = absurd cc

pub as_items : (own : List Var) → items (as_row own) ≡ map One own
as_items [] = refl
as_items (v ∷ own) = ap (λ (table : List RowItem). One v ∷ table) (as_items own)

as_bits : (own : List Var) → row_bits (as_row own) ≡ widths own
as_bits [] = refl
as_bits (v ∷ own) = ap (λ (n : ℕ). width v + n) (as_bits own)

-- a table of the header's variables has as many items
pub table_long : (way : Way) (table : List RowItem) → table ≡ map One (head_row way) → length table ≡ length (head_row way)
table_long way table is = ap length is ∙ length-map (head_row way) One

-- how many variables come before the packets
pub count_is : (way : Way) (nid : ℕ) (table : List RowItem) → Some table ≡ option_map items (message_row_to way nid) → Some (length (head_row way) + length table) ≡ option_map length (front_row way nid)
count_is way nid table e =
    let (own, is, same) = own_asked way items nid table e in
    let long : length table ≡ length own = ap length (same ∙ as_items own) ∙ length-map own One in
    let count : length (head_row way) + length table ≡ length (front_after way own) = (let all = length-append (head_row way) own in omega (arith, long, all)) in
    ap (λ (n : ℕ). Some n) count ∙ sym (ap (λ (o : Option (List Var)). option_map length (option_map (front_after way) o)) is)

-- and how many bits
pub bits_are : (way : Way) (nid bits : ℕ) → Some bits ≡ option_map row_bits (message_row_to way nid) → (bits ≤ 32) × (Some (header_bits way + bits) ≡ option_map front_bits (front_row way nid))
bits_are way nid bits e =
    let (own, is, same) = own_asked way row_bits nid bits e in
    let wide : bits ≡ widths own = same ∙ as_bits own in
    let all : header_bits way + bits ≡ front_bits (front_after way own) = (let a = widths_append (head_row way) own in let h = header_is way in omega (arith, wide, a, h)) in
    let few = (own_few way nid own is).0 in
    (omega (arith, wide, few), ap (λ (n : ℕ). Some n) all ∙ sym (ap (λ (o : Option (List Var)). option_map front_bits (option_map (front_after way) o)) is))

-- ---- The variable at a place of the front.

in_head : (xs : List Var) (at : ℕ) (own : List Var) → at < length xs → var_of (slice_get (map One xs) at) ≡ first_of (drop at (xs ++ own))
in_head [] at own h = absurd (omega (arith, h))
in_head (y ∷ xs) zero own h = refl
in_head (y ∷ xs) (suc at) own h = in_head xs at own (omega (arith, h))

in_own : (own : List Var) (k : ℕ) → var_of (slice_get (map One own) k) ≡ first_of (drop k own)
in_own [] zero = refl
in_own [] (suc k) = refl
in_own (v ∷ own) zero = refl
in_own (v ∷ own) (suc k) = in_own own k

past : (xs : List Var) (at : ℕ) (own : List Var) → length xs ≤ at → drop at (xs ++ own) ≡ drop (at - length xs) own
past [] at own h = ap (λ (k : ℕ). drop k own) (omega arith)
past (x ∷ xs) zero own h = absurd (omega (arith, h))
past (x ∷ xs) (suc at) own h = past xs at own (omega (arith, h)) ∙ ap (λ (k : ℕ). drop k own) (omega arith)

-- one of the header's
pub head_at : (way : Way) (nid at : ℕ) (table : List RowItem) (vars : List Var) → at < length table → table ≡ map One (head_row way) → front_row way nid ≡ Some vars → var_of (slice_get table at) ≡ first_of (drop at vars)
head_at way nid at table vars near is typed =
    let (own, o, same) = front_own way nid (own_row way nid) vars refl typed in
    let long = table_long way table is in
    subst (λ (vs : List Var). var_of (slice_get table at) ≡ first_of (drop at vs)) same
    (ap (λ (l : List RowItem). var_of (slice_get l at)) is ∙ in_head (head_row way) at own (omega (arith, near, long)))

-- one of the message's own
own_at : (way : Way) (nid at : ℕ) (table : List RowItem) (vars : List Var) → length (head_row way) ≤ at → Some table ≡ option_map items (message_row_to way nid) → front_row way nid ≡ Some vars → var_of (slice_get table (at - length (head_row way))) ≡ first_of (drop at vars)
own_at way nid at table vars far e typed =
    let (own, is, same) = front_own way nid (own_row way nid) vars refl typed in
    let (own', is', table_is) = own_asked way items nid table e in
    let one : own' ≡ own = (let both : Some own' ≡ Some own = sym is' ∙ is in cc) in
    let all : table ≡ map One own = table_is ∙ as_items own' ∙ ap (λ (vs : List Var). map One vs) one in
    subst (λ (vs : List Var). var_of (slice_get table (at - length (head_row way))) ≡ first_of (drop at vs)) same
    (ap (λ (l : List RowItem). var_of (slice_get l (at - length (head_row way)))) all ∙ in_own own (at - length (head_row way)) ∙ ap first_of (sym (past (head_row way) at own far)))

pub own_there : (way : Way) (nid at n : ℕ) (table : List RowItem) (vars : List Var) → n ≡ length (head_row way) → n ≤ at → Some table ≡ option_map items (message_row_to way nid) → front_row way nid ≡ Some vars → var_of (slice_get table (at - n)) ≡ first_of (drop at vars)
own_there way nid at n table vars long far e typed =
    subst (λ (k : ℕ). var_of (slice_get table (at - k)) ≡ first_of (drop at vars)) (sym long) (own_at way nid at table vars (subst (λ (k : ℕ). k ≤ at) long far) e typed)

-- ---- A front by what was found of it.

pub front_there : (f : List Var → ℕ) (o : Option (List Var)) (n : ℕ) → Some n ≡ option_map f o → (vs : List Var) × (o ≡ Some vs) × (n ≡ f vs)
front_there f None n e = absurd cc
front_there f (Some vs) n e = (vs, refl, (let same : n ≡ f vs = cc in same))

-- how many variables a front has that is there
pub front_counted : (way : Way) (nid n : ℕ) → Some n ≡ option_map length (front_row way nid) → n ≡ length (front_vars way nid)
front_counted way nid n e = let (vs, found, same) = front_there length (front_row way nid) n e in same ∙ sym (ap (λ o. length (some_row o)) found)

pub no_front : (f : List Var → ℕ) (o : Option (List Var)) → None ≡ option_map f o → o ≡ None
no_front f None e = refl
no_front f (Some vs) e = absurd cc
