-- Parts that are explained one after another.
use Rattle.std.proofs.Common.{◌≡◌, ℕ, zero, suc, ◌+◌, ◌≤◌, ◌<◌, Bool, true, false, Option, Some, None, List, [], ◌∷◌, ◌++◌, map, flat_map, length, take, drop, replicate, refl, sym, ap, subst, ◌∙◌, arith, append_assoc}
use Rattle.std.proofs.lemmas.Bool.{le-ltb, lt-ltb}
use Rattle.std.proofs.lemmas.List.{append-nil, drop-drop, drop-take, take-take, flat_map_more}
use Rattle.etcs_text.specs.declared.entry.Kind.{Kind}
use Rattle.etcs_runs.specs.Passes.{counted}
use Rattle.etcs_runs.specs.declared.form.Form.{Form}
use Rattle.etcs_runs.specs.declared.fault.RunFault.{RunFault}
use Rattle.etcs_explain.specs.declared.task.Task.{Task}
use Rattle.etcs_explain.specs.declared.seen.Seen.{Seen}
use Rattle.etcs_explain.specs.Inputs.{Token, of_byte, of_line, placed, is_long, line_tokens, line_long, json_tokens, short_tokens}
use Rattle.etcs_explain.specs.Parts.{Part, tokens_of, long_of, items_of, fault_of, text_of, IsPart, Fits, AreParts, items_in, noted, first_fault, edge, missing, written}
use Rattle.etcs_explain.specs.Explained.{has_some, Explained}
use Rattle.etcs_explain.specs.Stands.{AddsOne, Explains, ExplainsSome}

-- ---- Counts.

pub counted_more : (k m : ℕ) → counted (counted k + m) ≡ counted (k + m)
counted_more k m = omega arith

-- ---- One part more.

fits_at : (task : Task) (p : Part) (next next' : List Token) → next' ≡ next → Fits task.from task.kind p next → Fits task.from task.kind p next'
fits_at task p next next' e h = subst (λ (z : List Token). Fits task.from task.kind p z) (sym e) h

are_snoc : (task : Task) (k : ℕ) (ps : List Part) (p : Part) (next : List Token) → AreParts task k ps (tokens_of p ++ next) → IsPart task (counted (k + items_in ps + 1)) p → Fits task.from task.kind p next → AreParts task k (ps ++ p ∷ []) next
are_snoc task k [] p next all is fits = (subst (λ (n : ℕ). IsPart task (counted (n + 1)) p) (omega arith) is, fits, tt)
are_snoc task k (q ∷ ps) p next all is fits =
    let same : k + (items_of q + items_in ps) ≡ k + items_of q + items_in ps = omega arith in
    let follow : flat_map tokens_of (ps ++ p ∷ []) ++ next ≡ flat_map tokens_of ps ++ (tokens_of p ++ next) =
    ap (λ (z : List Token). z ++ next) (sym (flat_map_more tokens_of [] ps p)) ∙ append_assoc (flat_map tokens_of ps) (tokens_of p) next in
    (all.0, fits_at task q _ _ follow all.1, are_snoc task (k + items_of q) ps p next all.2 (subst (λ (n : ℕ). IsPart task (counted (n + 1)) p) same is) fits)

items_snoc : (ps : List Part) (p : Part) → items_in (ps ++ p ∷ []) ≡ items_in ps + items_of p
items_snoc [] p = omega arith
items_snoc (q ∷ ps) p = omega (arith, items_snoc ps p)

noted_none : (o : Option RunFault) → noted o None ≡ o
noted_none None = refl
noted_none (Some fault) = refl

noted_both : (a b c : Option RunFault) → noted a (noted b c) ≡ noted (noted a b) c
noted_both None b c = refl
noted_both (Some fault) b c = refl

first_snoc : (ps : List Part) (p : Part) → first_fault (ps ++ p ∷ []) ≡ noted (first_fault ps) (fault_of p)
first_snoc [] p = noted_none (fault_of p)
first_snoc (q ∷ ps) p = ap (λ (z : Option RunFault). noted (fault_of q) z) (first_snoc ps p) ∙ noted_both (fault_of q) (first_fault ps) (fault_of p)

has_snoc : (ps : List Part) (p : Part) → has_some (ps ++ p ∷ []) ≡ true
has_snoc [] p = refl
has_snoc (q ∷ ps) p = refl

written_snoc : (head : List ℕ) (ps : List Part) (p : Part) → written head ps ++ (missing (has_some ps) head ++ text_of p) ≡ written head (ps ++ p ∷ [])
written_snoc head [] p = ap (λ (z : List ℕ). head ++ z) (sym (append-nil (text_of p)))
written_snoc head (q ∷ ps) p = flat_map_more text_of head (q ∷ ps) p

pub one_more : (page : List ℕ) (task : Task) (seen seen' : Seen) (tokens more next : List Token) (long longs output text text' : List ℕ) → Explained page task seen tokens (more ++ next) long (output ++ text) → AddsOne page task seen seen' more next longs text text' → Explained page task seen' (tokens ++ more) next (long ++ longs) (output ++ text')
one_more page task seen seen' tokens more next long longs output text text' h (p, tokens_is, long_is, a) =
    let head = edge task.layout page in
    let number : counted (seen.items + 1) ≡ counted (0 + items_in h.parts + 1) =
    ap (λ (z : ℕ). counted (z + 1)) h.items_is ∙ counted_more (items_in h.parts) 1 ∙ ap (λ (z : ℕ). counted (z + 1)) (omega arith) in
    record {
      parts = h.parts ++ p ∷ [];
      are_parts = are_snoc task 0 h.parts p next (subst (λ (z : List Token). AreParts task 0 h.parts (z ++ next)) (sym tokens_is) h.are_parts) (subst (λ (z : ℕ). IsPart task z p) number a.is_part) a.fits;
      tokens_are = ap (λ (z : List Token). z ++ more) h.tokens_are ∙ ap (λ (z : List Token). flat_map tokens_of h.parts ++ z) (sym tokens_is) ∙ flat_map_more tokens_of [] h.parts p;
      long_is = ap (λ (z : List ℕ). z ++ longs) h.long_is ∙ ap (λ (z : List ℕ). flat_map long_of h.parts ++ z) (sym long_is) ∙ flat_map_more long_of [] h.parts p;
      output_is =
          ap (λ (z : List ℕ). output ++ z) a.text_is
          ∙ sym (append_assoc output text (missing seen.is_begun head ++ text_of p))
          ∙ ap (λ (z : List ℕ). z ++ (missing seen.is_begun head ++ text_of p)) h.output_is
          ∙ ap (λ (z : Bool). written head h.parts ++ (missing z head ++ text_of p)) h.begun_is
          ∙ written_snoc head h.parts p;
      begun_is = a.after.begun_is ∙ sym (has_snoc h.parts p);
      items_is =
          a.after.items_is
          ∙ ap (λ (z : ℕ). counted (z + items_of p)) h.items_is
          ∙ counted_more (items_in h.parts) (items_of p)
          ∙ ap counted (sym (items_snoc h.parts p));
      first_is = a.after.first_is ∙ ap (λ (z : Option RunFault). noted z (fault_of p)) h.first_is ∙ sym (first_snoc h.parts p);
    }

-- ---- Bytes, each of its line.

pub placed_none : (lines : List ℕ) → placed lines [] ≡ []
placed_none [] = refl
placed_none (l ∷ lines) = refl

pub placed_split : (n : ℕ) (lines bytes : List ℕ) → placed lines bytes ≡ placed (take n lines) (take n bytes) ++ placed (drop n lines) (drop n bytes)
placed_split zero lines bytes = refl
placed_split (suc n) [] bytes = refl
placed_split (suc n) (l ∷ lines) [] = sym (placed_none (drop n lines))
placed_split (suc n) (l ∷ lines) (b ∷ bytes) = ap (λ (z : List Token). of_byte l b ∷ z) (placed_split n lines bytes)

pub placed_further : (m n : ℕ) (lines bytes : List ℕ) → placed (take m lines) (take m bytes) ++ placed (take n (drop m lines)) (take n (drop m bytes)) ≡ placed (take (m + n) lines) (take (m + n) bytes)
placed_further m n lines bytes =
    let le : m ≤ m + n = omega arith in
    let ls = take (m + n) lines in
    let bs = take (m + n) bytes in
    sym (
    placed_split m ls bs
    ∙ ap (λ (z : List ℕ). placed z (take m bs) ++ placed (drop m ls) (drop m bs)) (take-take m (m + n) lines le)
    ∙ ap (λ (z : List ℕ). placed (take m lines) z ++ placed (drop m ls) (drop m bs)) (take-take m (m + n) bytes le)
    ∙ ap (λ (z : List ℕ). placed (take m lines) (take m bytes) ++ placed z (drop m bs)) (drop-take m n lines)
    ∙ ap (λ (z : List ℕ). placed (take m lines) (take m bytes) ++ placed (take n (drop m lines)) z) (drop-take m n bytes)
    )

pub placed_both : (lines bytes more : List ℕ) (l : ℕ) → length lines ≡ length bytes → placed (lines ++ replicate (length more) l) (bytes ++ more) ≡ placed lines bytes ++ map (of_byte l) more
placed_both [] [] [] l e = refl
placed_both [] [] (b ∷ more) l e = ap (λ (z : List Token). of_byte l b ∷ z) (placed_both [] [] more l refl)
placed_both [] (b ∷ bytes) more l e = absurd (omega (arith, e))
placed_both (k ∷ lines) [] more l e = absurd (omega (arith, e))
placed_both (k ∷ lines) (b ∷ bytes) more l e = ap (λ (z : List Token). of_byte k b ∷ z) (placed_both lines bytes more l (omega (arith, e)))

-- ---- Items one after another.

-- none was explained
pub explains_none : (page : List ℕ) (task : Task) (seen : Seen) (text : List ℕ) (next : List Token) → Explains page task seen text [] next seen text
explains_none page task seen text next = record { explained = λ tokens long output h. subst (λ (z : List Token). Explained page task seen z next long (output ++ text)) (sym (append-nil tokens)) h }

-- the first n of these bytes were
pub first_some : (page : List ℕ) (task : Task) (seen seen' : Seen) (text text' : List ℕ) (n : ℕ) (lines bytes : List ℕ) (next : List Token) → Explains page task seen text (placed (take n lines) (take n bytes)) (placed (drop n lines) (drop n bytes) ++ next) seen' text' → ExplainsSome page task seen text (placed lines bytes) next text'
first_some page task seen seen' text text' n lines bytes next h =
    let front = placed (take n lines) (take n bytes) in
    let rest = placed (drop n lines) (drop n bytes) in
    record {
      some = λ tokens long output e. record {
        tokens = tokens ++ front;
        rest = rest;
        long = long;
        more = [];
        seen = seen';
        all_are = ap (λ (z : List Token). tokens ++ z) (placed_split n lines bytes) ∙ sym (append_assoc tokens front rest);
        longs_are = sym (append-nil long);
        explained = h.explained tokens long output (subst (λ (z : List Token). Explained page task seen tokens z long (output ++ text)) (ap (λ (z : List Token). z ++ next) (placed_split n lines bytes) ∙ append_assoc front rest next) e);
      };
    }

-- and one item more
pub items_further : (page : List ℕ) (task : Task) (seen seen' seen'' : Seen) (text text' text'' : List ℕ) (m n : ℕ) (lines bytes : List ℕ) (next : List Token) → Explains page task seen text (placed (take m lines) (take m bytes)) (placed (drop m lines) (drop m bytes) ++ next) seen' text' → AddsOne page task seen' seen'' (placed (take n (drop m lines)) (take n (drop m bytes))) (placed (drop n (drop m lines)) (drop n (drop m bytes)) ++ next) [] text' text'' → Explains page task seen text (placed (take (m + n) lines) (take (m + n) bytes)) (placed (drop (m + n) lines) (drop (m + n) bytes) ++ next) seen'' text''
items_further page task seen seen' seen'' text text' text'' m n lines bytes next h a =
    let front = placed (take m lines) (take m bytes) in
    let more = placed (take n (drop m lines)) (take n (drop m bytes)) in
    let rest = placed (drop n (drop m lines)) (drop n (drop m bytes)) in
    let left : placed (drop (m + n) lines) (drop (m + n) bytes) ≡ rest =
    sym (ap (λ (z : List ℕ). placed z (drop n (drop m bytes))) (drop-drop n m lines) ∙ ap (λ (z : List ℕ). placed (drop (m + n) lines) z) (drop-drop n m bytes)) in
    let first : placed (take (m + n) lines) (take (m + n) bytes) ≡ front ++ more = sym (placed_further m n lines bytes) in
    let mid : placed (drop m lines) (drop m bytes) ++ next ≡ more ++ (rest ++ next) = ap (λ (z : List Token). z ++ next) (placed_split n (drop m lines) (drop m bytes)) ∙ append_assoc more rest next in
    let all : placed (take (m + n) lines) (take (m + n) bytes) ++ (placed (drop (m + n) lines) (drop (m + n) bytes) ++ next) ≡ front ++ (placed (drop m lines) (drop m bytes) ++ next) =
    ap (λ (z : List Token). z ++ (placed (drop (m + n) lines) (drop (m + n) bytes) ++ next)) first
    ∙ append_assoc front more (placed (drop (m + n) lines) (drop (m + n) bytes) ++ next)
    ∙ ap (λ (z : List Token). front ++ (more ++ (z ++ next))) left
    ∙ ap (λ (z : List Token). front ++ z) (sym mid) in
    record {
      explained = λ tokens long output e.
          let was = h.explained tokens long output (subst (λ (z : List Token). Explained page task seen tokens z long (output ++ text)) all e) in
          let was1 = subst (λ (z : List Token). Explained page task seen' (tokens ++ front) z long (output ++ text')) mid was in
          let is = one_more page task seen' seen'' (tokens ++ front) more (rest ++ next) long [] output text' text'' was1 a in
          let both = append_assoc tokens front more ∙ ap (λ (z : List Token). tokens ++ z) (sym first) in
          subst (λ (z : List Token). Explained page task seen'' z (placed (drop (m + n) lines) (drop (m + n) bytes) ++ next) long (output ++ text'')) both
          (subst (λ (z : List Token). Explained page task seen'' ((tokens ++ front) ++ more) (z ++ next) long (output ++ text'')) (sym left)
          (subst (λ (z : List ℕ). Explained page task seen'' ((tokens ++ front) ++ more) (rest ++ next) z (output ++ text'')) (append-nil long) is));
    }

-- ---- What a line has.

pub tokens_short : (kind : Option Kind) (form : Form) (n : ℕ) (line : List ℕ) → length line ≤ 1048576 → line_tokens kind form n line ≡ short_tokens kind form n line
tokens_short kind form n line le = let is : is_long line ≡ false = le-ltb 1048576 (length line) le in rw is refl

pub long_short : (n : ℕ) (line : List ℕ) → length line ≤ 1048576 → line_long n line ≡ []
long_short n line le = let is : is_long line ≡ false = le-ltb 1048576 (length line) le in rw is refl

pub tokens_long : (kind : Option Kind) (form : Form) (n : ℕ) (line : List ℕ) → 1048576 < length line → line_tokens kind form n line ≡ []
tokens_long kind form n line lt = let is : is_long line ≡ true = lt-ltb 1048576 (length line) lt in rw is refl

pub long_long : (n : ℕ) (line : List ℕ) → 1048576 < length line → line_long n line ≡ n ∷ []
long_long n line lt = let is : is_long line ≡ true = lt-ltb 1048576 (length line) lt in rw is refl

pub json_none : (n : ℕ) (line : List ℕ) → length line ≡ 0 → json_tokens n line ≡ []
json_none n [] none = refl
json_none n (c ∷ line) none = absurd (omega (arith, none))

pub json_some : (n : ℕ) (line : List ℕ) → (line ≡ [] → ⊥) → json_tokens n line ≡ of_line n line ∷ []
json_some n [] other = absurd (other refl)
json_some n (c ∷ line) other = refl
