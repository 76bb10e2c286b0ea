-- Rows without groups that are put of the text of their pairs.
use Rattle.std.proofs.Common.{◌≡◌, ℕ, ◌+◌, ◌-◌, ◌≤◌, Bool, List, [], ◌∷◌, ◌++◌, length, drop, Option, None, Some, Result, Ok, Err, refl, sym, ap, subst, ◌∙◌, append_assoc, append-nil, arith}
use Rattle.std.specs.Prelude.{◌==◌, IfOk, IfSome, IsTrue, codes}
use Rattle.std.specs.Result.{result_ok}
use Rattle.std.proofs.Math.Seq.{drop-append_seam}
use Rattle.std.proofs.lemmas.Bool.{eqb-true}
use Rattle.std.proofs.lemmas.List.{length-append}
use Rattle.serde_json.specs.Written.{compact_text}
use Rattle.etcs_vars.specs.declared.var.Var.{Var}
use Rattle.etcs_vars.specs.Vars.{admits}
use Rattle.etcs_vars.specs.Reading.{Sent, Reading, spelled}
use Rattle.etcs_vars.specs.laws.Spellings.{spelled-append}
use Rattle.etcs_tables.specs.declared.item.RowItem.{RowItem}
use Rattle.etcs_tables.specs.declared.item.RowItem.TheVariants.{One}
use Rattle.etcs_tables.specs.Layouts.{Scope, Reads, layout}
use Rattle.etcs_bodies.specs.Runs.{TakesNumber, TakesBoth}
use Rattle.etcs_bodies.specs.Taking.{Left, named, ahead, next_number}
use Rattle.etcs_bodies.specs.laws.Takes.{ahead_both, ahead_none, next_sound}
use Rattle.etcs_packet_text.specs.Trees.{pairs_tree}
use Rattle.etcs_json_trees.specs.PacketTexts.{Leaves}
use Rattle.etcs_json_trees.specs.PairTexts.{IsOpened, pairs_left}
use Rattle.etcs_json_trees.proofs.PairRows.{row_text}

-- ---- What an answer says.

pub some_is : {A : Type 0} (o : Option A) (x : A) (P : A → Type 0) → o ≡ Some x → IfSome o P → P x
some_is None x P e h = absurd cc
some_is (Some y) x P e h = let same : y ≡ x = cc in subst P same h

pub ok_is : {A E : Type 0} (r : Result A E) (o : Option A) (x : A) (P : A → Type 0) → o ≡ result_ok r → o ≡ Some x → IfOk r P → P x
ok_is {A} (Ok y) o x P e f h = let both : ◌≡◌ {A = Option A} (Some y) (Some x) = sym e ∙ f in let same : y ≡ x = cc in subst P same h
ok_is {A} (Err z) o x P e f h = let both : ◌≡◌ {A = Option A} None (Some x) = sym e ∙ f in absurd cc

-- ---- What is left of a text.

pub left_after : (n : ℕ) (text front : List ℕ) → Leaves n (λ s. text ≡ front ++ s) → (n ≤ length text) × (text ≡ front ++ drop (length text - n) text)
left_after n text front (s, long, e) =
    let all : length text ≡ length front + length s = ap length e ∙ length-append front s in
    let at : length text - n ≡ length front = omega (arith, all, long) in
    let rest : drop (length text - n) text ≡ s = ap (λ (k : ℕ). drop k text) at ∙ ap (drop (length front)) e ∙ drop-append_seam front s in
    (omega (arith, all, long), e ∙ ap (λ (z : List ℕ). front ++ z) (sym rest))

-- a list of which all pairs are taken
pub list_taken : (text rest : List ℕ) (a b : ℕ) (x y : List ℕ) (r : Reading) (n : ℕ) → IsOpened text a x → named (pairs_left a x) ≡ ahead r (named (pairs_left b y)) → (b ≡ 93) × (rest ≡ y) → n ≡ length rest → Leaves n (λ s. text ≡ compact_text (pairs_tree r) ++ s)
list_taken text rest a b x y r n opened taken (closed, same) long = (
  rest,
  sym long,
  row_text text rest a x r opened (taken ∙ ap (λ (k : ℕ). ahead r (named (pairs_left k y))) closed ∙ ap (λ (z : List ℕ). ahead r (named (pairs_left 93 z))) (sym same)),
)

-- ---- The variables of a row that are taken.

-- r are the variables of a table before those that are left, and what was there began with them
pub record IsTaken (table left : List RowItem) (old now : Left) (r : Reading) : Type 0 where
  pub scope : Scope
  pub more : (r' : Reading) → Reads (layout left) scope r' → Reads (layout table) [] (r ++ r')
  pub taken : old ≡ ahead r now

pub none_taken : (table : List RowItem) (s : Left) → IsTaken table table s s []
none_taken table s = record { scope = []; more = λ r' reads. reads; taken = sym (ahead_none s) }

variable_read : (table left : List RowItem) (x : Sent) (r : Reading) (s : Scope) → ((r' : Reading) → Reads (layout (One x.0 ∷ left)) s r' → Reads (layout table) [] (r ++ r')) → IsTrue (admits x.0 x.1) → (r' : Reading) → Reads (layout left) (x ∷ s) r' → Reads (layout table) [] ((r ++ x ∷ []) ++ r')
unfolding Reads
variable_read table left x r s before ok r' reads = subst (Reads (layout table) []) (sym (append_assoc r (x ∷ []) r')) (before (x ∷ r') (x.1, r', ok, refl, reads))

pub one_taken : (table left : List RowItem) (v : Var) (n : ℕ) (s t u : Left) (r : Reading) → IsTaken table (One v ∷ left) s t r → next_number v t ≡ Some (n, u) → IsTrue (admits v n) → IsTaken table left s u (r ++ (v, n) ∷ [])
one_taken table left v n s t u r h next ok = record {
  scope = (v, n) ∷ h.scope;
  more = variable_read table left (v, n) r h.scope h.more ok;
  taken = h.taken ∙ ap (ahead r) (next_sound v n t u next).1 ∙ sym (ahead_both r ((v, n) ∷ []) u);
}

nothing_left : (s : Scope) → Reads (layout []) s []
unfolding Reads
nothing_left s = refl

pub all_taken : (table : List RowItem) (s t : Left) (r : Reading) → IsTaken table [] s t r → Reads (layout table) [] r
all_taken table s t r h = subst (Reads (layout table) []) (append-nil r) (h.more [] (nothing_left h.scope))

-- none of a table without variables
pub none_read : (table : List RowItem) (text left : List ℕ) (n : ℕ) (old new : List Bool) → IsTrue (length table == 0) → text ≡ codes "[]" ++ left → n ≡ length left → new ≡ old → (r : Reading) × Reads (layout table) [] r × (n ≤ length text) × (text ≡ compact_text (pairs_tree r) ++ drop (length text - n) text) × (new ≡ old ++ spelled r)
none_read [] text left n old new none e long same =
    let after = left_after n text (compact_text (pairs_tree [])) (left, sym long, e) in
    ([], nothing_left [], after.0, after.1, same ∙ sym (append-nil old))
none_read (item ∷ table) text left n old new none e long same = let some : length (item ∷ table) ≡ 0 = eqb-true (length (item ∷ table)) 0 none in absurd cc

-- ---- Several of them.

abbrev pub TakesTwo : Var → Var → Left → ℕ × ℕ → Left → Type 0
TakesTwo v w = TakesBoth (TakesNumber v) (TakesNumber w)

abbrev pub TakesThree : Var → Var → Var → Left → ℕ × (ℕ × ℕ) → Left → Type 0
TakesThree v w x = TakesBoth (TakesNumber v) (TakesTwo w x)

abbrev pub TakesFive : Var → Var → Var → Var → Var → Left → ℕ × (ℕ × (ℕ × (ℕ × ℕ))) → Left → Type 0
TakesFive v w x y z = TakesBoth (TakesNumber v) (TakesBoth (TakesNumber w) (TakesThree x y z))

pub two_taken : (table left : List RowItem) (v w : Var) (m n : ℕ) (s t u : Left) (r : Reading) → IsTaken table (One v ∷ One w ∷ left) s t r → TakesTwo v w t (m, n) u → IsTaken table left s u ((r ++ (v, m) ∷ []) ++ (w, n) ∷ [])
two_taken table left v w m n s t u r h (a, one, two) =
    one_taken table left w n s a u (r ++ (v, m) ∷ []) (one_taken table (One w ∷ left) v m s t a r h one.0 one.2) two.0 two.2

pub three_taken : (table left : List RowItem) (v w x : Var) (l m n : ℕ) (s t u : Left) (r : Reading) → IsTaken table (One v ∷ One w ∷ One x ∷ left) s t r → TakesThree v w x t (l, (m, n)) u → IsTaken table left s u (((r ++ (v, l) ∷ []) ++ (w, m) ∷ []) ++ (x, n) ∷ [])
three_taken table left v w x l m n s t u r h (a, one, more) =
    two_taken table left w x m n s a u (r ++ (v, l) ∷ []) (one_taken table (One w ∷ One x ∷ left) v l s t a r h one.0 one.2) more

pub five_taken : (table left : List RowItem) (v w x y z : Var) (j k l m n : ℕ) (s t u : Left) (r : Reading) → IsTaken table (One v ∷ One w ∷ One x ∷ One y ∷ One z ∷ left) s t r → TakesFive v w x y z t (j, (k, (l, (m, n)))) u → IsTaken table left s u (((((r ++ (v, j) ∷ []) ++ (w, k) ∷ []) ++ (x, l) ∷ []) ++ (y, m) ∷ []) ++ (z, n) ∷ [])
five_taken table left v w x y z j k l m n s t u r h (a, one, (b, two, more)) =
    three_taken table left x y z l m n s b u ((r ++ (v, j) ∷ []) ++ (w, k) ∷ [])
    (one_taken table (One x ∷ One y ∷ One z ∷ left) w k s a b (r ++ (v, j) ∷ []) (one_taken table (One w ∷ One x ∷ One y ∷ One z ∷ left) v j s t a r h one.0 one.2) two.0 two.2)
    more

-- ---- What is put of them.

-- variables and then more variables are put
pub both_put : (p q : Reading) (old mid new : List Bool) → mid ≡ old ++ spelled p → new ≡ mid ++ spelled q → new ≡ old ++ spelled (p ++ q)
both_put p q old mid new first second =
    second ∙ ap (λ (b : List Bool). b ++ spelled q) first ∙ append_assoc old (spelled p) (spelled q) ∙ ap (λ (b : List Bool). old ++ b) (sym (spelled-append p q))

-- the variables of a table before those that are left are taken and put
pub record IsPut (table left : List RowItem) (start now : Left) (old new : List Bool) : Type 0 where
  pub reading : Reading
  pub taken : IsTaken table left start now reading
  pub bits : new ≡ old ++ spelled reading

pub none_put : (table : List RowItem) (s : Left) (old new : List Bool) → new ≡ old → IsPut table table s s old new
none_put table s old new same = record { reading = []; taken = none_taken table s; bits = same ∙ sym (append-nil old) }

pub one_put : (table here left : List RowItem) (item : RowItem) (v : Var) (n : ℕ) (s t u : Left) (old mid new : List Bool) → IsPut table here s t old mid → here ≡ item ∷ left → item ≡ One v → next_number v t ≡ Some (n, u) → IsTrue (admits v n) → new ≡ mid ++ spelled ((v, n) ∷ []) → IsPut table left s u old new
one_put table here left item v n s t u old mid new h split one next ok sent =
    let at : here ≡ One v ∷ left = split ∙ ap (λ (i : RowItem). i ∷ left) one in
    record {
      reading = h.reading ++ (v, n) ∷ [];
      taken = one_taken table left v n s t u h.reading (subst (λ (i : List RowItem). IsTaken table i s t h.reading) at h.taken) next ok;
      bits = both_put h.reading ((v, n) ∷ []) old mid new h.bits sent;
    }

-- the list of the pairs of a row
pub row_put : (table : List RowItem) (text rest : List ℕ) (a b : ℕ) (x y : List ℕ) (r : Reading) (n : ℕ) (old new : List Bool) → IsOpened text a x → IsTaken table [] (named (pairs_left a x)) (named (pairs_left b y)) r → new ≡ old ++ spelled r → (b ≡ 93) × (rest ≡ y) → n ≡ length rest
    → (q : Reading) × Reads (layout table) [] q × (n ≤ length text) × (text ≡ compact_text (pairs_tree q) ++ drop (length text - n) text) × (new ≡ old ++ spelled q)
row_put table text rest a b x y r n old new opened taken put end long =
    let after = left_after n text (compact_text (pairs_tree r)) (list_taken text rest a b x y r n opened taken.taken end long) in
    (r, all_taken table (named (pairs_left a x)) (named (pairs_left b y)) r taken, after.0, after.1, put)

-- the list of the pairs of a table of which nothing is left
pub table_put : (table left : List RowItem) (text rest : List ℕ) (a b : ℕ) (x y : List ℕ) (n : ℕ) (old new : List Bool) → IsOpened text a x → IsPut table left (named (pairs_left a x)) (named (pairs_left b y)) old new → left ≡ [] → (b ≡ 93) × (rest ≡ y) → n ≡ length rest
    → (q : Reading) × Reads (layout table) [] q × (n ≤ length text) × (text ≡ compact_text (pairs_tree q) ++ drop (length text - n) text) × (new ≡ old ++ spelled q)
table_put table left text rest a b x y n old new opened h none end long =
    row_put table text rest a b x y h.reading n old new opened (subst (λ (i : List RowItem). IsTaken table i (named (pairs_left a x)) (named (pairs_left b y)) h.reading) none h.taken) h.bits end long
