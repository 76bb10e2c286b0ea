-- What a reader to which nothing was fed returns for bytes.
use Rattle.std.proofs.Common.{◌≡◌, ℕ, zero, suc, ◌+◌, ◌*◌, ◌<◌, ◌≤◌, Bool, List, [], ◌++◌, length, take, drop, Result, Ok, Err, refl, sym, ap, subst, ◌∙◌, arith}
use Rattle.std.specs.Prelude.{IfOk}
use Rattle.std.proofs.lemmas.List.{append-nil, take-append-drop, length-drop}
use Rattle.std.proofs.Math.Seq.{take-length}
use Rattle.etcs_bits.specs.Bits.{bits}
use Rattle.etcs_bits.proofs.Positions.{length-bits}
use Rattle.etcs_vars.specs.declared.var.Var.{Var}
use Rattle.etcs_vars.specs.declared.feed.Fed.{Fed}
use Rattle.etcs_vars.specs.declared.feed.Fed.TheVariants.{More, Done}
use Rattle.etcs_vars.specs.declared.feed.ReadFault.{ReadFault}
use Rattle.etcs_vars.specs.declared.feed.ReadFault.TheVariants.{Refused}
use Rattle.etcs_vars.specs.Reading.{NoneYet, readings_of, spelled, IsOutcome, done}
use Rattle.etcs_vars.proofs.Apart.{apart}
use Rattle.etcs_text.specs.declared.entry.Kind.{Kind}
use Rattle.etcs_text.specs.Entries.{EntryValue, EntryReads}
use Rattle.etcs_sequence.specs.Progress as inner
use Rattle.etcs_text.specs.Readers.{ReaderValue, Progress, Feeds, reading, finished}
use Rattle.etcs_text.proofs.ItemKinds.{kind_regular}
use Rattle.etcs_text.specs.declared.verdict.Verdict.{Verdict}
use Rattle.etcs_text.specs.Verdicts.{IsItem, IsBegun, IsVerdict}

pub fresh_feeds : (kind : Kind) (r : ReaderValue) (new : List Bool) (answer : Result Fed ReadFault) (at : Progress) → r ≡ record { kind = kind; progress = reading [] } → ((seen : List Bool) → r.progress ≡ reading seen → Feeds r.kind seen new answer at) → Feeds kind [] new answer at
fresh_feeds kind r new answer at is f = subst (λ (k : Kind). Feeds k [] new answer at) (ap (λ (z : ReaderValue). z.kind) is) (f [] (ap (λ (z : ReaderValue). z.progress) is))

pub none_of : (kind : Kind) (bytes : List ℕ) → NoneYet (readings_of (EntryReads kind)) (bits bytes) → (e : EntryValue) → IsItem kind bytes e → ⊥
none_of kind bytes none e (r, reads, is) = none (length (bits bytes)) (omega arith) (r, (e, reads), is ∙ sym (take-length (bits bytes)))

pub none_of_more : (kind : Kind) (bytes : List ℕ) (at : Progress) → Feeds kind [] (bits bytes) (Ok More) at → (e : EntryValue) → IsItem kind bytes e → ⊥
none_of_more kind bytes at f = none_of kind bytes f.1.0

pub none_of_refused : (kind : Kind) (bytes : List ℕ) (i : ℕ) (x : Var) (at : Progress) → Feeds kind [] (bits bytes) (Err (Refused i x)) at → (e : EntryValue) → IsItem kind bytes e → ⊥
none_of_refused kind bytes i x at f = none_of kind bytes f.1.0.0

-- an item that ends elsewhere begins no other
pub none_of_done : (kind : Kind) (bytes : List ℕ) (k : ℕ) (at : Progress) → Feeds kind [] (bits bytes) (Ok (Done k)) at → (k ≡ length bytes → ⊥) → (e : EntryValue) → IsItem kind bytes e → ⊥
none_of_done kind bytes k at (e', at_is, any, within, (fits, r', reads', is')) other e (r, reads, is) =
    let regular = kind_regular kind in
    let b = bits bytes in
    let same : spelled r' ++ drop (0 + 8 * k) b ≡ spelled r ++ [] = ap (λ (z : List Bool). z ++ drop (0 + 8 * k) b) is' ∙ take-append-drop (0 + 8 * k) b ∙ sym is ∙ sym (append-nil (spelled r)) in
    let end = (apart r' r (drop (0 + 8 * k) b) [] (regular.agree r' r (e', reads') (e, reads)) (regular.fit r' (e', reads')) (regular.fit r (e, reads)) same).1 in
    other (omega (arith, ap length end, length-drop (0 + 8 * k) b, length-bits bytes, within))

less : (k n : ℕ) → (k ≡ n → ⊥) → k ≤ n → k < n
less zero zero h l = absurd (h refl)
less zero (suc n) h l = omega arith
less (suc k) zero h l = absurd (omega (arith, l))
less (suc k) (suc n) h l = (let i = less k n (λ e. h (ap suc e)) (omega (arith, l)) in omega (arith, i))

-- one that ends before the end of the bytes begins them
pub begun_of : (kind : Kind) (bytes : List ℕ) (k : ℕ) (at : Progress) → Feeds kind [] (bits bytes) (Ok (Done k)) at → (k ≡ length bytes → ⊥) → IsBegun kind bytes
begun_of kind bytes k at (e, at_is, any, within, o) other =
    let most : k ≤ length bytes = omega (arith, within, length-bits bytes) in
    let from : 0 + 8 * k ≡ 8 * k = omega arith in
    (e, k, less k (length bytes) other most, subst (λ (n : ℕ). IsOutcome (EntryReads kind) (bits bytes) (done e n)) from o)

pub item_of : (kind : Kind) (bytes : List ℕ) (k : ℕ) (at : Progress) → Feeds kind [] (bits bytes) (Ok (Done k)) at → k ≡ length bytes → (e : EntryValue) × (at ≡ finished e) × IsItem kind bytes e
item_of kind bytes k at (e, at_is, any, within, (fits, r, reads, is)) all =
    let b = bits bytes in
    let whole : 0 + 8 * k ≡ length b = omega (arith, all, length-bits bytes) in
    (e, at_is, (r, reads, is ∙ ap (λ (n : ℕ). take n b) whole ∙ take-length b))

pub fed_as : (kind : Kind) (r : ReaderValue) (bytes : List ℕ) (answer answer' : Result Fed ReadFault) (at : Progress) → r ≡ record { kind = kind; progress = reading [] } → answer ≡ answer' → ((seen : List Bool) → r.progress ≡ reading seen → Feeds r.kind seen (bits bytes) answer at) → Feeds kind [] (bits bytes) answer' at
fed_as kind r bytes answer answer' at is same f = subst (λ (z : Result Fed ReadFault). Feeds kind [] (bits bytes) z at) same (fresh_feeds kind r (bits bytes) answer at is f)

abbrev item_in : EntryValue → Progress → EntryValue
item_in d (inner.reading b) = d
item_in d (inner.finished e) = e
item_in d (inner.stopped i x) = d
item_in d (inner.starved n) = d

same_item : (kind : Kind) (bytes : List ℕ) (at : Progress) (e taken : EntryValue) → at ≡ finished e → at ≡ finished taken → IsItem kind bytes e → IsItem kind bytes taken
same_item kind bytes at e taken one other is = subst (λ (z : EntryValue). IsItem kind bytes z) (ap (item_in e) (sym one ∙ other)) is

pub is_taken : (kind : Kind) (bytes : List ℕ) (k : ℕ) (at : Progress) (taken : EntryValue) → Feeds kind [] (bits bytes) (Ok (Done k)) at → k ≡ length bytes → at ≡ finished taken → IsItem kind bytes taken
is_taken kind bytes k at taken f all is =
    let whole = item_of kind bytes k at f all in
    same_item kind bytes at whole.0 taken whole.1 is whole.2

pub verdict_by : {E : Type 0} (kind : Kind) (bytes : List ℕ) (r r' : Result Verdict E) → r ≡ r' → IfOk r' (λ v. IsVerdict kind bytes v) → IfOk r (λ v. IsVerdict kind bytes v)
verdict_by kind bytes r r' is h = subst (λ z. IfOk z (λ v. IsVerdict kind bytes v)) (sym is) h
