-- Pairs of variables with their numbers.
use Rattle.std.proofs.Common.{◌≡◌, ℕ, ◌^◌, ◌<◌, Bool, List, [], ◌∷◌, ◌++◌, length, get_or, Option, Some, None, map, refl, sym, ap, subst, ◌∙◌, arith, append_assoc, append-nil}
use Rattle.std.specs.Prelude.{IsTrue}
use Rattle.std.proofs.Math.Nat.{pow-le-pow_right}
use Rattle.std.proofs.lemmas.Option.{some_pair_parts}
use Rattle.serde_json.specs.Data.{Data, null, boolean, number, string, array, object, Items, no_items, item}
use Rattle.serde_json.specs.Find.{as_array, as_str}
use Rattle.serde_json.specs.Events.{items_len}
use Rattle.serde_json.specs.View.{view, items_view}
use Rattle.serde_json.specs.declared.value.Value.{Value}
use Rattle.serde_json.proofs.Views.{items_len-items_view}
use Rattle.etcs_vars.specs.declared.var.Var.{Var}
use Rattle.etcs_vars.specs.declared.var.Var.TheVariants.{NID_RADIO}
use Rattle.etcs_vars.specs.Vars.{admits}
use Rattle.etcs_vars.specs.Reading.{Reading, Sent, spelled}
use Rattle.etcs_vars.proofs.Prefixes.{admits_parts, width-le}
use Rattle.etcs_tables.specs.Layouts.{Layout, whole, one, guarded, counted, Reads, looks}
use Rattle.etcs_rows.specs.Places.{onto, first_variable, after_any}
use Rattle.etcs_rows.proofs.Following.{follows}
use Rattle.etcs_packet_text.specs.Show.{hex_digits}
use Rattle.etcs_json_trees.specs.Digits.{lower}
use Rattle.etcs_json_trees.specs.TreeReading.{SaysNumber, IsPairTree, ArePairTrees}
use Rattle.etcs_json_trees.proofs.WrittenRows.{both_put}

-- ---- One pair.

pub radio_only : (v : Var) (n : ℕ) (d : Data) (text : List ℕ) (r : Option ℕ) → v ≡ NID_RADIO → SaysNumber v n d → Some text ≡ as_str d → (map lower text ≡ hex_digits 16 n → r ≡ Some n) → r ≡ Some n
radio_only v n d text r e h s k =
    let (t, is, digits) = subst (λ (w : Var). SaysNumber w n d) e h in
    let same : Some text ≡ Some t = s ∙ ap as_str is in
    let text_is : text ≡ t = cc in
    k (ap (map lower) text_is ∙ digits)

pub array_is : (d : Data) (ds : Items) → Some ds ≡ as_array d → d ≡ array ds
array_is null ds e = absurd cc
array_is (boolean b) ds e = absurd cc
array_is (number n) ds e = absurd cc
array_is (string s) ds e = absurd cc
array_is (array es) ds e = cc
array_is (object ms) ds e = absurd cc

pub string_is : (d : Data) (s : List ℕ) → Some s ≡ as_str d → d ≡ string s
string_is null s e = absurd cc
string_is (boolean b) s e = absurd cc
string_is (number n) s e = absurd cc
string_is (string t) s e = cc
string_is (array ds) s e = absurd cc
string_is (object ms) s e = absurd cc

pub array_back : (d : Data) (ds es : Items) → Some ds ≡ as_array d → d ≡ array es → ds ≡ es
array_back d ds es e is = let same : Some ds ≡ Some es = e ∙ ap as_array is in cc

pub two_long : (list : List Value) (d e : Data) → items_view list ≡ item d (item e no_items) → length list ≡ 2
two_long list d e is = sym (items_len-items_view list) ∙ ap items_len is

pub two_items : (list : List Value) (x y : Value) → length list ≡ 2 → x ≡ get_or list 0 x → y ≡ get_or list 1 y → items_view list ≡ item (view x) (item (view y) no_items)
two_items [] x y e a b = absurd (omega (arith, e))
two_items (v ∷ []) x y e a b = absurd (omega (arith, e))
two_items (v ∷ w ∷ []) x y e a b = rw (a, b) refl
two_items (v ∷ w ∷ u ∷ list) x y e a b = absurd (omega (arith, e))

-- ---- The pairs of a row.

-- pairs of what is left of the row are what is left of its pairs, after those of the reading f
pub record Goes (row : Layout) (ds : Items) (f : Reading) (left : Layout) (es : Items) : Type 0 where
  pub looks_well : IsTrue (looks None left)
  pub on : (q : Reading) → Reads left [] q → ArePairTrees q es → Reads row [] (f ++ q) × ArePairTrees (f ++ q) ds
  pub back : (r : Reading) → Reads row [] r → ArePairTrees r ds → (q : Reading) × Reads left [] q × ArePairTrees q es × (r ≡ f ++ q)

pub below_all : (v : Var) (m : ℕ) → IsTrue (admits v m) → m < 2 ^ 64
below_all v m a = let le = pow-le-pow_right {n = 2} (omega arith) (width-le v) in omega (arith, le, (admits_parts v m a).1)

-- what no variable begins is empty
pub nothing_left : (left : Layout) (q : Reading) → IsTrue (looks None left) → first_variable left ≡ None → Reads left [] q → q ≡ []
unfolding Reads
nothing_left whole q l e h = h
nothing_left (one v rest) q l e h = absurd cc
nothing_left (guarded g group rest) q l e h = absurd cc
nothing_left (counted group rest) q l e h = absurd cc

pub is_whole : (left : Layout) → IsTrue (looks None left) → first_variable left ≡ None → left ≡ whole
is_whole whole l e = refl
is_whole (one v rest) l e = absurd cc
is_whole (guarded g group rest) l e = absurd cc
is_whole (counted group rest) l e = absurd cc

-- where a variable comes next
abbrev Heads : Layout → Var → Type 0
Heads left v = (rest : Layout) × (left ≡ one v rest)

heads : (left : Layout) (v : Var) → first_variable left ≡ Some v → Heads left v
heads whole v e = absurd cc
heads (one w rest) v e = let same : w ≡ v = cc in (rest, ap (λ (x : Var). one x rest) same)
heads (guarded g group rest) v e = absurd cc
heads (counted group rest) v e = absurd cc

first_of : (v : Var) (rest : Layout) (q : Reading) → Reads (one v rest) [] q → (m : ℕ) × (q' : Reading) × IsTrue (admits v m) × (q ≡ (v, m) ∷ q')
unfolding Reads
first_of v rest q (m, q', a, i, z) = (m, q', a, i)

-- the first pair is the next variable's
pub first_pair : (left : Layout) (v : Var) (q : Reading) (d : Data) (ds : Items) → first_variable left ≡ Some v → Reads left [] q → ArePairTrees q (item d ds) → (m : ℕ) × (q' : Reading) × IsTrue (admits v m) × (m < 2 ^ 64) × (q ≡ (v, m) ∷ q') × IsPairTree (v, m) d × ArePairTrees q' ds
first_pair left v q d ds e h t =
    let (rest, is) = heads left v e in
    let (m, q', a, i) = first_of v rest q (subst (λ (l : Layout). Reads l [] q) is h) in
    let t' : ArePairTrees ((v, m) ∷ q') (item d ds) = subst (λ (x : Reading). ArePairTrees x (item d ds)) i t in
    (m, q', a, below_all v m a, i, t'.0, t'.1)

pub not_ended : (left : Layout) (v : Var) (q : Reading) → first_variable left ≡ Some v → Reads left [] q → ArePairTrees q no_items → ⊥
not_ended left v [] e h t =
    let (rest, is) = heads left v e in
    let (m, q', a, i) = first_of v rest [] (subst (λ (l : Layout). Reads l [] []) is h) in
    absurd cc
not_ended left v (p ∷ q) e h t = t

-- what is known of the pair of one variable is known of the next
pub only_next : (left : Layout) (v w : Var) (n : ℕ) (d : Data) (r : Option ℕ) → Some w ≡ first_variable left → ((m : ℕ) → m < 2 ^ 64 → IsPairTree (w, m) d → r ≡ Some m) → first_variable left ≡ Some v → IsTrue (admits v n) → IsPairTree (v, n) d → r ≡ Some n
only_next left v w n d r e only first a pair =
    let two : Some w ≡ Some v = e ∙ first in
    let same : v ≡ w = cc in
    only n (below_all v n a) (subst (λ (x : Var). IsPairTree (x, n) d) same pair)

-- after a pair
next_pair : (row : Layout) (ds : Items) (f : Reading) (v : Var) (rest : Layout) (d : Data) (es : Items) (n : ℕ) → Goes row ds f (one v rest) (item d es) → IsTrue (admits v n) → IsPairTree (v, n) d → ((m : ℕ) → IsTrue (admits v m) → IsPairTree (v, m) d → n ≡ m) → IsTrue (looks None (onto n rest whole)) → Goes row ds (f ++ (v, n) ∷ []) (onto n rest whole) es
next_pair row ds f v rest d es n g a pair only l = record {
  looks_well = l;
  on = λ q h t.
      (let law = follows v rest n g.looks_well a q in
      let both = g.on ((v, n) ∷ q) (law.1 h) (pair, t) in
      let joined : f ++ (v, n) ∷ q ≡ (f ++ (v, n) ∷ []) ++ q = sym (append_assoc f ((v, n) ∷ []) q) in
      (subst (λ (x : Reading). Reads row [] x) joined both.0, subst (λ (x : Reading). ArePairTrees x ds) joined both.1));
  back = λ r h t.
      (let (q, reads, trees, same) = g.back r h t in
      let (m, q', a', small, is, pair', rest') = first_pair (one v rest) v q d es refl reads trees in
      let number : m ≡ n = sym (only m a' pair') in
      let is' : q ≡ (v, n) ∷ q' = is ∙ ap (λ (k : ℕ). let x : Reading = (v, k) ∷ q' in x) number in
      let law = follows v rest n g.looks_well a q' in
      let reads' : Reads (onto n rest whole) [] q' = law.0 (subst (λ (x : Reading). Reads (one v rest) [] x) is' reads) in
      (q', reads', rest', same ∙ ap (λ (x : Reading). f ++ x) is' ∙ sym (append_assoc f ((v, n) ∷ []) q')));
}

goes_next : (row : Layout) (ds : Items) (f : Reading) (left left' : Layout) (v : Var) (n : ℕ) (d : Data) (es fs : Items) → Goes row ds f left fs → fs ≡ item d es → first_variable left ≡ Some v → IsTrue (admits v n) → IsPairTree (v, n) d → ((m : ℕ) → IsTrue (admits v m) → IsPairTree (v, m) d → n ≡ m) → after_any left n ≡ Some left' → IsTrue (looks None left') → Goes row ds (f ++ (v, n) ∷ []) left' es
goes_next row ds f left left' v n d es fs h e first a pair only after l =
    let (rest, is) = heads left v first in
    let two : Some (onto n rest whole) ≡ Some left' = sym (ap (λ (x : Layout). after_any x n) is) ∙ after in
    let same : onto n rest whole ≡ left' = cc in
    let h' : Goes row ds f (one v rest) (item d es) = rw (← is, ← e) h in
    let l' : IsTrue (looks None (onto n rest whole)) = rw same l in
    rw (← same) (next_pair row ds f v rest d es n h' a pair only l')

-- ---- The pairs of a row that are put.

-- the pairs before those that are left are read, and their bits are put after those before
pub record IsBegun (row : Layout) (ds : Items) (left : Layout) (es : Items) (old now : List Bool) : Type 0 where
  pub reading : Reading
  pub goes : Goes row ds reading left es
  pub bits : now ≡ old ++ spelled reading

pub none_begun : (row left : Layout) (ds : Items) (old now : List Bool) → left ≡ row → IsTrue (looks None left) → now ≡ old → IsBegun row ds left ds old now
none_begun row left ds old now same l put = record {
  reading = [];
  goes = record {
    looks_well = l;
    on = λ q h t. (subst (λ (x : Layout). Reads x [] q) same h, t);
    back = λ r h t. (r, subst (λ (x : Layout). Reads x [] r) (sym same) h, t, refl);
  };
  bits = put ∙ sym (append-nil old);
}

pub next_begun : (row : Layout) (ds : Items) (left left' : Layout) (o : Option Sent) (v : Var) (n : ℕ) (d : Data) (es fs : Items) (old mid new : List Bool) → IsBegun row ds left fs old mid → fs ≡ item d es → first_variable left ≡ Some v → IsTrue (admits v n) → IsPairTree (v, n) d → o ≡ Some (v, n) → ((w : Var) (m : ℕ) → first_variable left ≡ Some w → IsTrue (admits w m) → IsPairTree (w, m) d → o ≡ Some (w, m)) → after_any left n ≡ Some left' → IsTrue (looks None left') → new ≡ mid ++ spelled ((v, n) ∷ []) → IsBegun row ds left' es old new
next_begun row ds left left' o v n d es fs old mid new h e first a pair is only after l put = record {
  reading = h.reading ++ (v, n) ∷ [];
  goes = goes_next row ds h.reading left left' v n d es fs h.goes e first a pair (λ m b p. (some_pair_parts v v n m (sym is ∙ only v m first b p)).1) after l;
  bits = both_put h.reading ((v, n) ∷ []) old mid new h.bits put;
}

-- where the next value is no pair of the next variable, these are no pairs of the row
pub wrong_begun : (row left : Layout) (ds : Items) (d : Data) (es fs : Items) (old now : List Bool) (r : Reading) → IsBegun row ds left fs old now → fs ≡ item d es → ((v : Var) (m : ℕ) → first_variable left ≡ Some v → IsTrue (admits v m) → IsPairTree (v, m) d → ⊥) → Reads row [] r → ArePairTrees r ds → ⊥
wrong_begun row left ds d es fs old now r g e wrong h t =
    let (q, reads, trees, same) = g.goes.back r h t in
    by_first (first_variable left) refl q reads (subst (λ (x : Items). ArePairTrees q x) e trees)
  where
    by_first : (o : Option Var) → first_variable left ≡ o → (q : Reading) → Reads left [] q → ArePairTrees q (item d es) → ⊥
    by_first None first q reads trees = subst (λ (x : Reading). ArePairTrees x (item d es)) (nothing_left left q g.goes.looks_well first reads) trees
    by_first (Some v) first q reads trees =
        let (m, q', a, small, is, pair, rest) = first_pair left v q d es first reads trees in
        wrong v m first a pair

-- nor where they end too early
pub short_begun : (row left : Layout) (ds : Items) (v : Var) (fs : Items) (old now : List Bool) (r : Reading) → IsBegun row ds left fs old now → fs ≡ no_items → first_variable left ≡ Some v → Reads row [] r → ArePairTrees r ds → ⊥
short_begun row left ds v fs old now r g e first h t =
    let (q, reads, trees, same) = g.goes.back r h t in
    not_ended left v q first reads (subst (λ (x : Items). ArePairTrees q x) e trees)

-- at the end
pub all_begun : (row left : Layout) (ds fs : Items) (old now : List Bool) → IsBegun row ds left fs old now → fs ≡ no_items → first_variable left ≡ None → (r : Reading) × Reads row [] r × ArePairTrees r ds × (now ≡ old ++ spelled r)
unfolding Reads
all_begun row left ds fs old now g e first =
    let all = is_whole left g.goes.looks_well first in
    let none : Reads left [] [] = rw all refl in
    let both = g.goes.on [] none (rw e tt) in
    let same = append-nil g.reading in
    (g.reading, subst (λ (x : Reading). Reads row [] x) same both.0, subst (λ (x : Reading). ArePairTrees x ds) same both.1, g.bits)
