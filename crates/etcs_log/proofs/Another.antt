-- Another item before the item of a line.
use Rattle.std.proofs.Common.{◌≡◌, ◌++◌, ◌∷◌, ◌∙◌, ◌<◌, ◌&&◌, length, nat_lt, ℕ, Bool, true, false, List, [], Option, Some, None, Result, Ok, Err, ap, inl, refl, sym, subst}
use Rattle.std.proofs.lemmas.Bool.{lt-ltb}
use Rattle.std.proofs.lemmas.List.{append-nil}
use Rattle.std.specs.Prelude.{IfOk, OnOk}
use Rattle.etcs_log.specs.declared.byte_count.ByteCount.{ByteCount}
use Rattle.etcs_log.specs.declared.job.LogJob.{LogJob}
use Rattle.etcs_log.specs.declared.kinds.Kinds.{Kinds}
use Rattle.etcs_log.specs.declared.notes.Note.TheVariants.{Another}
use Rattle.etcs_runs.specs.RunTexts.{runs_from}
use Rattle.etcs_runs.specs.declared.run.Run.{Run}
use Rattle.etcs_text.specs.declared.entry.Kind.{Kind}
use Rattle.etcs_text.specs.declared.entry.Kind.TheVariants.{Long, Short}
use Rattle.etcs_text.specs.Entries.{EntryValue}
use Rattle.etcs_text.specs.Verdicts.{IsItem}
use Rattle.etcs_log.specs.Candidates.{AreNone, Candidate, asks_message, candidates, contains, last_bytes, last_candidate, last_candidates, line_candidates, message_candidate, message_way, telegram_bytes, text_candidates, trial, where_asked, whole_candidate, whole_candidates}
use Rattle.etcs_log.specs.Logs.{AnotherSaid, reported}
use Rattle.etcs_log.specs.Notes.{count_of}
use Rattle.etcs_log.specs.Reports.{IsCountBefore, IsCountOf}
use Rattle.etcs_log.proofs.Answering.{first-left, first-right, none-append, none-split, none_asked}

-- lines aren't reported
pub quiet_none : (job : LogJob) (n : ℕ) (run : Run) (text : List ℕ) → job.quiet ≡ true → AnotherSaid job n (runs_from run) text text
quiet_none job n run text quiet = (None, (λ _. refl), (λ loud. cc (sym quiet ∙ loud)), sym (append-nil text))

-- there is none
pub another_none : (job : LogJob) (n : ℕ) (run : Run) (text : List ℕ) (o : Option ByteCount) → o ≡ None → job.quiet ≡ false → IsCountBefore job.kinds (runs_from run) o → AnotherSaid job n (runs_from run) text text
another_none job n run text o none loud is =
    (None, (λ _. refl), (λ _. subst (IsCountBefore job.kinds (runs_from run)) none is), sym (append-nil text))

-- or there is one
pub another_some : {T E : Type 0} (r : Result T E) (job : LogJob) (n : ℕ) (run : Run) (text text' : List ℕ) (o : Option ByteCount) (count : ByteCount) → o ≡ Some count → job.quiet ≡ false → IsCountBefore job.kinds (runs_from run) o → OnOk r (text' ≡ text ++ reported job n (Another count)) → OnOk r (AnotherSaid job n (runs_from run) text text')
another_some (Ok x) job n run text text' o count some loud is t =
    let (c, e, first, same) = subst (IsCountBefore job.kinds (runs_from run)) some is in
    (Some c, (λ quiet. cc (sym loud ∙ quiet)), (λ _. (e, first)), t ∙ ap (λ (z : ByteCount). text ++ reported job n (Another z)) same)
another_some (Err e) job n run text text' o count some loud is t = tt

-- ---- The first item among candidates.

pub count_one : (asked : Bool) (kind : Kind) (is_last : Bool) (text bytes : List ℕ) (count : ByteCount) → asked ≡ true → (e : EntryValue) × IsItem kind bytes e → count ≡ count_of true bytes → IsCountOf (where_asked asked kind is_last text bytes) (Some count)
count_one true kind is_last text bytes count asks (e, is) same = (trial kind is_last text bytes, e, inl (refl, is), same)
count_one false kind is_last text bytes count asks is same = cc asks

pub count_unasked : (asked : Bool) (kind : Kind) (is_last : Bool) (text bytes : List ℕ) → asked ≡ false → IsCountOf (where_asked asked kind is_last text bytes) None
count_unasked true kind is_last text bytes none = cc none
count_unasked false kind is_last text bytes none = tt

pub count_none : (asked : Bool) (kind : Kind) (is_last : Bool) (text bytes : List ℕ) → ((e : EntryValue) → IsItem kind bytes e → ⊥) → IsCountOf (where_asked asked kind is_last text bytes) None
count_none asked kind is_last text bytes none = none_asked asked kind is_last text bytes none

pub count_left : (cs ds : List Candidate) (count : ByteCount) → IsCountOf cs (Some count) → IsCountOf (cs ++ ds) (Some count)
count_left cs ds count (c, e, first, same) = (c, e, first-left cs ds c e first, same)

pub count_right : (cs ds : List Candidate) (o : Option ByteCount) → AreNone cs → IsCountOf ds o → IsCountOf (cs ++ ds) o
count_right cs ds None none h = none-append cs ds none h
count_right cs ds (Some count) none (c, e, first, same) = (c, e, first-right cs ds c e none first, same)

-- ---- The runs before an item.

count_after : (kinds : Kinds) (text : List ℕ) (seen others : List (List ℕ)) (count : ByteCount) → AreNone (line_candidates kinds seen) → IsCountOf (text_candidates kinds text) (Some count) → IsCountOf (line_candidates kinds (seen ++ text ∷ others)) (Some count)
count_after kinds text [] others count none h = count_left (text_candidates kinds text) (line_candidates kinds others) count h
count_after kinds text (x ∷ xs) others count none h =
    let (left, right) = none-split (text_candidates kinds x) (line_candidates kinds xs) none in
    count_right (text_candidates kinds x) (line_candidates kinds (xs ++ text ∷ others)) (Some count) left (count_after kinds text xs others count right h)

-- a text and those after it have this item
pub before_some : (kinds : Kinds) (last text : List ℕ) (seen others all : List (List ℕ)) (count : ByteCount) → all ≡ (last ∷ seen) ++ (text ∷ others) → AreNone (line_candidates kinds seen) → IsCountOf (text_candidates kinds text) (Some count) → IsCountBefore kinds all (Some count)
before_some kinds last text seen others all count is none h = subst (λ (z : List (List ℕ)). IsCountBefore kinds z (Some count)) (sym is) (count_after kinds text seen others count none h)

-- none has
pub before_none : (kinds : Kinds) (last : List ℕ) (seen all : List (List ℕ)) → all ≡ (last ∷ seen) ++ [] → AreNone (line_candidates kinds seen) → IsCountBefore kinds all None
before_none kinds last seen all is none = subst (λ (z : List (List ℕ)). IsCountBefore kinds z None) (sym (is ∙ ap (λ (z : List (List ℕ)). last ∷ z) (append-nil seen))) none

-- ---- The last bytes of a run.

and_true : (b c : Bool) → c ≡ true → b && c ≡ b
and_true true c is = is
and_true false c is = refl

pub last_count : {E : Type 0} (r : Result (Option ByteCount) E) (kinds : Kinds) (kind : Kind) (text bytes these : List ℕ) (asked : Bool) → asked ≡ contains kinds kind → telegram_bytes kind < length bytes → these ≡ last_bytes kind bytes → IfOk r (IsCountOf (where_asked asked kind true text these)) → IfOk r (IsCountOf (last_candidate kinds kind text bytes))
last_count r kinds kind text bytes these asked same long is h =
    let more : contains kinds kind && nat_lt (telegram_bytes kind) (length bytes) ≡ asked = and_true (contains kinds kind) _ (lt-ltb (telegram_bytes kind) (length bytes) long) ∙ sym same in
    subst (λ (z : Bool). IfOk r (IsCountOf (where_asked z kind true text (last_bytes kind bytes)))) (sym more) (subst (λ (z : List ℕ). IfOk r (IsCountOf (where_asked asked kind true text z))) is h)

-- ---- The candidates of a run, one after another.

pub count_not : (cs : List Candidate) (o : Option ByteCount) → ((count : ByteCount) → o ≡ Some count → ⊥) → IsCountOf cs o → AreNone cs
count_not cs None not h = h
count_not cs (Some count) not h = absurd (not count refl)

module _ (kinds : Kinds) (text bytes : List ℕ) where
  abbrev long : List Candidate
  long = whole_candidate kinds Long text bytes

  abbrev short : List Candidate
  short = whole_candidate kinds Short text bytes

  abbrev message : List Candidate
  message = message_candidate kinds text bytes

  pub in_one : (count : ByteCount) → IsCountOf long (Some count) → IsCountOf (candidates kinds text bytes) (Some count)
  in_one count h = count_left (whole_candidates kinds text bytes) (last_candidates kinds text bytes) count (count_left long (short ++ message) count h)

  pub in_two : (count : ByteCount) → AreNone long → IsCountOf short (Some count) → IsCountOf (candidates kinds text bytes) (Some count)
  in_two count a h = count_left (whole_candidates kinds text bytes) (last_candidates kinds text bytes) count (count_right long (short ++ message) (Some count) a (count_left short message count h))

  pub in_three : (count : ByteCount) → AreNone long → AreNone short → IsCountOf message (Some count) → IsCountOf (candidates kinds text bytes) (Some count)
  in_three count a b h = count_left (whole_candidates kinds text bytes) (last_candidates kinds text bytes) count (count_right long (short ++ message) (Some count) a (count_right short message (Some count) b h))

  none_whole : AreNone long → AreNone short → AreNone message → AreNone (whole_candidates kinds text bytes)
  none_whole a b m = none-append long (short ++ message) a (none-append short message b m)

  pub in_four : (count : ByteCount) → AreNone long → AreNone short → AreNone message → IsCountOf (last_candidate kinds Long text bytes) (Some count) → IsCountOf (candidates kinds text bytes) (Some count)
  in_four count a b m h = count_right (whole_candidates kinds text bytes) (last_candidates kinds text bytes) (Some count) (none_whole a b m) (count_left (last_candidate kinds Long text bytes) (last_candidate kinds Short text bytes) count h)

  pub in_five : {E : Type 0} (r : Result (Option ByteCount) E) → AreNone long → AreNone short → AreNone message → AreNone (last_candidate kinds Long text bytes) → IfOk r (IsCountOf (last_candidate kinds Short text bytes)) → IfOk r (IsCountOf (candidates kinds text bytes))
  in_five (Ok o) a b m l h = count_right (whole_candidates kinds text bytes) (last_candidates kinds text bytes) o (none_whole a b m) (count_right (last_candidate kinds Long text bytes) (last_candidate kinds Short text bytes) o l h)
  in_five (Err e) a b m l h = tt

-- a message that is asked for
pub as_message : (kinds : Kinds) (text bytes : List ℕ) (asked : Bool) (kind : Kind) (o : Option ByteCount) → asked ≡ asks_message kinds bytes → kind ≡ message_way kinds bytes → IsCountOf (where_asked asked kind false text bytes) o → IsCountOf (message_candidate kinds text bytes) o
as_message kinds text bytes asked kind o a k h = subst (λ (z : Bool). IsCountOf (where_asked z (message_way kinds bytes) false text bytes) o) a (subst (λ (z : Kind). IsCountOf (where_asked asked z false text bytes) o) k h)
