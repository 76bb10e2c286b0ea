-- Parts of what was written of them.
use Rattle.std.proofs.Common.{◌≡◌, ℕ, ◌+◌, ◌<◌, ◌≤◌, min, Bool, true, false, Option, Some, None, List, [], ◌∷◌, ◌++◌, length, take, drop, refl, sym, ap, subst, ◌∙◌, arith, append_assoc}
use Rattle.std.specs.Prelude.{Result, Ok, Err, OnOk, slice_index}
use Rattle.std.proofs.lemmas.List.{length-take, length-take-le, take_all, take-append-drop, get_or-take}
use Rattle.etcs_text.specs.declared.entry.Kind.{Kind}
use Rattle.etcs_text.specs.Entries.{EntryValue}
use Rattle.etcs_json.specs.JsonLines.{SaysItem}
use Rattle.etcs_runs.specs.Passes.{counted}
use Rattle.etcs_runs.specs.declared.form.Form.{Form}
use Rattle.etcs_runs.specs.declared.form.Form.TheVariants.{Hex, Bin, Json}
use Rattle.etcs_runs.specs.declared.fault.RunFault.{RunFault}
use Rattle.etcs_explain.specs.declared.task.Task.{Task}
use Rattle.etcs_explain.specs.declared.seen.Seen.{Seen}
use Rattle.etcs_explain.specs.Inputs.{Token, of_line, placed}
use Rattle.etcs_explain.specs.Kinds.{IsAsked, kind_of}
use Rattle.etcs_explain.specs.Cuts.{awaited}
use Rattle.etcs_explain.specs.Parts.{Fits, noted, item, broken, good_line, bad_line, long_line, item_of, IsBad, IsBadHex, IsBadJson, HasTitle, edge, missing, opening, place, long_fault}
use Rattle.etcs_explain.specs.Stands.{IsAfter, Writes, ItemPart, AddsOne, AddsLine, AreReady}
use Rattle.etcs_explain.proofs.Joining.{joined_take, over_there, rest_ready, none_left}

-- both of two calls' promises, of one that answered Ok
on_both : {T E : Type 0} {A B C : Type 0} (r : Result T E) → (A → B → C) → OnOk r A → OnOk r B → OnOk r C
on_both (Ok x) f a b = f a b
on_both (Err e) f a b = tt

-- ---- Lines.

long_one : (page : List ℕ) (task : Task) (seen seen' : Seen) (n : ℕ) (fault : RunFault) (text text' : List ℕ) → fault ≡ long_fault task.from n → IsAfter seen 0 (Some fault) seen' → Writes page task seen.is_begun false (counted (seen.items + 1)) n text text' → AddsLine page task seen seen' [] (n ∷ []) text text'
long_one page task seen seen' n fault text text' is after (t, title, added) =
    λ next. (long_line n fault t, refl, refl, record { is_part = (is, title); fits = tt; text_is = added; after = after })

pub adds_long : {E : Type 0} (r : Result (Unit {0}) E) (page : List ℕ) (task task' : Task) (seen seen' seen'' : Seen) (n : ℕ) (fault : RunFault) (text text' : List ℕ) → task' ≡ task → seen' ≡ seen → fault ≡ long_fault task'.from n → OnOk r (IsAfter seen' 0 (Some fault) seen'') → OnOk r (Writes page task' seen'.is_begun false (counted (seen'.items + 1)) n text text') → OnOk r (AddsLine page task seen seen'' [] (n ∷ []) text text')
adds_long r page task task' seen seen' seen'' n fault text text' te se is after writes =
    subst (λ (z : Task). OnOk r (AddsLine page z seen seen'' [] (n ∷ []) text text')) te
    (subst (λ (z : Seen). OnOk r (AddsLine page task' z seen'' [] (n ∷ []) text text')) se
    (on_both r (long_one page task' seen' seen'' n fault text text' is) after writes))

bad_one : (page : List ℕ) (task : Task) (seen seen' : Seen) (kind : Kind) (n : ℕ) (line : List ℕ) (items : ℕ) (fault : RunFault) (text text' : List ℕ) → IsAsked task.kind kind → IsBad task.from kind (counted (seen.items + 1)) n line fault → items ≡ item_of fault → IsAfter seen items (Some fault) seen' → Writes page task seen.is_begun false (counted (seen.items + 1)) n text text' → AddsLine page task seen seen' (of_line n line ∷ []) [] text text'
bad_one page task seen seen' kind n line items fault text text' asked is count after (t, title, added) =
    λ next. (bad_line kind n line fault t, refl, refl, record { is_part = (asked, is, title); fits = tt; text_is = added; after = subst (λ (z : ℕ). IsAfter seen z (Some fault) seen') count after })

pub adds_bad : {E : Type 0} (r : Result (Unit {0}) E) (page : List ℕ) (task task' : Task) (seen seen' seen'' : Seen) (kind : Kind) (n : ℕ) (line : List ℕ) (items : ℕ) (fault : RunFault) (text text' : List ℕ) → task' ≡ task → seen' ≡ seen → IsAsked task.kind kind → IsBad task.from kind (counted (seen'.items + 1)) n line fault → items ≡ item_of fault → OnOk r (IsAfter seen' items (Some fault) seen'') → OnOk r (Writes page task' seen'.is_begun false (counted (seen'.items + 1)) n text text') → OnOk r (AddsLine page task seen seen'' (of_line n line ∷ []) [] text text')
adds_bad r page task task' seen seen' seen'' kind n line items fault text text' te se asked is count after writes =
    subst (λ (z : Seen). OnOk r (AddsLine page task z seen'' (of_line n line ∷ []) [] text text')) se
    (on_both r (bad_one page task seen' seen'' kind n line items fault text text' asked is count) after
    (subst (λ (z : Task). OnOk r (Writes page z seen'.is_begun false (counted (seen'.items + 1)) n text text')) te writes))

good_one : (page : List ℕ) (task : Task) (seen seen' : Seen) (kind : Kind) (n : ℕ) (line : List ℕ) (e : EntryValue) (text text' : List ℕ) → IsAsked task.kind kind → SaysItem kind line e → IsAfter seen 1 None seen' → Writes page task seen.is_begun true (counted (seen.items + 1)) n text text' → AddsLine page task seen seen' (of_line n line ∷ []) [] text text'
good_one page task seen seen' kind n line e text text' asked says after (t, title, added) =
    λ next. (good_line kind n line t, refl, refl, record { is_part = (asked, (e, says), title); fits = tt; text_is = added; after = after })

pub adds_good : {E : Type 0} (r : Result (Unit {0}) E) (page : List ℕ) (task : Task) (seen seen' : Seen) (kind : Kind) (n : ℕ) (line : List ℕ) (e : EntryValue) (text text' : List ℕ) → IsAsked task.kind kind → SaysItem kind line e → OnOk r (IsAfter seen 1 None seen') → OnOk r (Writes page task seen.is_begun true (counted (seen.items + 1)) n text text') → OnOk r (AddsLine page task seen seen' (of_line n line ∷ []) [] text text')
adds_good r page task seen seen' kind n line e text text' asked says after writes = on_both r (good_one page task seen seen' kind n line e text text' asked says) after writes

pub bad_hex_of : (form : Form) (kind : Kind) (number n : ℕ) (line : List ℕ) (fault : RunFault) → (form ≡ Json → ⊥) → IsBadHex n line fault → IsBad form kind number n line fault
bad_hex_of Bin kind number n line fault other h = h
bad_hex_of Hex kind number n line fault other h = h
bad_hex_of Json kind number n line fault other h = absurd (other refl)

pub bad_json_of : (form : Form) (kind : Kind) (number n : ℕ) (line : List ℕ) (fault : RunFault) → form ≡ Json → IsBadJson kind number n line fault → IsBad form kind number n line fault
bad_json_of form kind number n line fault e h = subst (λ (f : Form). IsBad f kind number n line fault) (sym e) h

-- a kind that is guessed is asked for if one is
pub asked_kind : (asked : Option Kind) (bytes : List ℕ) → IsAsked asked (kind_of asked bytes)
asked_kind (Some kind) bytes = refl
asked_kind None bytes = tt

-- ---- Items of bytes.

item_one : (page : List ℕ) (task : Task) (seen seen' : Seen) (kind : Kind) (lines bytes : List ℕ) (n : ℕ) (fault : Option RunFault) (last : Bool) (next : List Token) (text text' : List ℕ) → length lines ≡ length bytes → 0 < length bytes → kind ≡ kind_of task.kind bytes → ItemPart kind (counted (seen.items + 1)) bytes n fault → AreReady last task lines bytes next → (last ≡ false → awaited kind bytes ≤ length bytes) → IsAfter seen 1 fault seen' → Writes page task seen.is_begun true (counted (seen.items + 1)) (slice_index lines 0) text text' → AddsOne page task seen seen' (placed (take n lines) (take n bytes)) (placed (drop n lines) (drop n bytes) ++ next) [] text text'
item_one page task seen seen' kind lines bytes n None last next text text' even some kind_is (positive, within, is) ready whole after (t, title, added) =
    let same : length (take n lines) ≡ length (take n bytes) = length-take n lines ∙ ap (λ (z : ℕ). min n z) even ∙ sym (length-take n bytes) in
    let count : length (take n bytes) ≡ n = length-take-le n bytes within in
    let first : slice_index lines 0 ≡ slice_index (take n lines) 0 = sym (get_or-take n lines 0 0 positive) in (
      item kind (take n lines) (take n bytes) t,
      refl,
      refl,
      record {
        is_part = ((drop n bytes, kind_is ∙ ap (λ (z : List ℕ). kind_of task.kind z) (sym (take-append-drop n bytes))), same, omega (arith, count, positive), is, subst (λ (z : ℕ). HasTitle task true (counted (seen.items + 1)) z t) first title);
        fits = λ hex. joined_take task.kind lines bytes next n within (ready hex).joined;
        text_is = added;
        after = after;
      },
    )
item_one page task seen seen' kind lines bytes n (Some fault) last next text text' even some kind_is (all, is) ready whole after (t, title, added) =
    let l : take n lines ≡ lines = take_all n lines (omega (arith, all, even)) in
    let b : take n bytes ≡ bytes = take_all n bytes (omega (arith, all)) in
    let over : Fits task.from task.kind (broken kind lines bytes fault t) next = λ hex. over_there last task.kind kind _ lines bytes fault next (ready hex) whole some is in (
      broken kind lines bytes fault t,
      ap (λ (z : List ℕ). placed z bytes) (sym l) ∙ ap (λ (z : List ℕ). placed (take n lines) z) (sym b),
      refl,
      record {
        is_part = (kind_is, even, some, is, title);
        fits = subst (λ (z : List Token). Fits task.from task.kind (broken kind lines bytes fault t) z) (sym (none_left lines bytes n next all)) over;
        text_is = added;
        after = after;
      },
    )

pub adds_item : (page : List ℕ) (task : Task) (seen seen' seen'' : Seen) (kind : Kind) (lines bytes : List ℕ) (number n : ℕ) (fault : Option RunFault) (text text' : List ℕ) → length lines ≡ length bytes → 0 < length bytes → kind ≡ kind_of task.kind bytes → number ≡ counted (seen.items + 1) → ItemPart kind number bytes n fault → seen' ≡ seen → IsAfter seen' 1 fault seen'' → Writes page task seen.is_begun true (counted (seen.items + 1)) (slice_index lines 0) text text' → (last : Bool) (next : List Token) → AreReady last task lines bytes next → (last ≡ false → awaited kind bytes ≤ length bytes) → AddsOne page task seen seen'' (placed (take n lines) (take n bytes)) (placed (drop n lines) (drop n bytes) ++ next) [] text text' × AreReady last task (drop n lines) (drop n bytes) next
adds_item page task seen seen' seen'' kind lines bytes number n fault text text' even some kind_is number_is part se after writes = λ last next ready whole. (
  item_one page task seen seen'' kind lines bytes n fault last next text text' even some kind_is (subst (λ (z : ℕ). ItemPart kind z bytes n fault) number_is part) ready whole (subst (λ (z : Seen). IsAfter z 1 fault seen'') se after) writes,
  (λ hex. rest_ready last task.kind kind number lines bytes n fault next kind_is part (ready hex)),
)

-- what was wrong first stays
pub first_kept : (seen seen' seen'' : Seen) (fault : Option RunFault) → seen' ≡ seen → IsAfter seen' 1 fault seen'' → (first : RunFault) → seen.first ≡ Some first → seen''.first ≡ Some first
first_kept seen seen' seen'' fault se after first e = after.first_is ∙ ap (λ (z : Seen). noted z.first fault) se ∙ ap (λ (z : Option RunFault). noted z fault) e

-- ---- Texts.

pub writes_part : (page : List ℕ) (task : Task) (begun is_item : Bool) (number line : ℕ) (text text' part head open_is at rest : List ℕ) (n : ℕ) → head ≡ missing begun (edge task.layout page) → open_is ≡ opening task.layout is_item → n ≡ number → at ≡ place task.from n line → part ≡ head ++ open_is ++ at ++ rest → text' ≡ text ++ part → Writes page task begun is_item number line text text'
writes_part page task begun is_item number line text text' part head open_is at rest n h o e a p t =
    let at_is : at ≡ place task.from number line = a ∙ ap (λ (z : ℕ). place task.from z line) e in (
      open_is ++ (at ++ rest),
      (rest, ap (λ (z : List ℕ). z ++ (at ++ rest)) o ∙ ap (λ (z : List ℕ). opening task.layout is_item ++ (z ++ rest)) at_is),
      t
          ∙ ap (λ (z : List ℕ). text ++ z) (p ∙ append_assoc (head ++ open_is) at rest ∙ append_assoc head open_is (at ++ rest))
          ∙ ap (λ (z : List ℕ). text ++ (z ++ (open_is ++ (at ++ rest)))) h,
    )
