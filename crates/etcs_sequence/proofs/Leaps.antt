-- What a leap over packets comes to, for what reads them in a frame of its own.
use Rattle.std.proofs.Common.{◌≡◌, ℕ, Bool, List, [], None, Some, Result, Ok, Err, OnErr, refl}
use Rattle.std.specs.Prelude.{IsNone, IfSome, Option}
use mathlib.Core.HLevel.{is_prop→PathP, Discrete, hedberg}
use Rattle.etcs_vars.specs.Reading.{Reading}
use Rattle.etcs_reader.specs.Rests.{Goes, LeapsBy}
use Rattle.etcs_tables.specs.declared.row.Way.{Way}
use Rattle.etcs_tables.specs.declared.row.Way.TheVariants.{ToTrain, ToTrack}
use Rattle.etcs_sequence.specs.declared.state.PacketsState.{PacketsState}
use Rattle.etcs_sequence.specs.AtOnce.{Holds}
use Rattle.etcs_sequence.specs.Leaps.{Follows}
use Rattle.etcs_sequence.specs.Lefts.{left_of}
use Rattle.etcs_sequence.specs.laws.Leaps.{follows_none}

-- what holds however a call ended
pub on_err : {T E P : Type 0} (r : Result T E) → P → OnErr r P
on_err (Ok x) p = tt
on_err (Err e) p = p

-- from packets to others by these variables
abbrev pub Steps : (l l' : PacketsState) (holds holds' : Holds) → Reading → Type 0
Steps l l' holds holds' p = Follows l holds p l' holds'

-- a leap that takes nothing goes by no variable
pub steps : (l l' : PacketsState) (holds holds' : Holds) (xs : List Bool) (at : ℕ) (o : Option ℕ) → (IsNone o → (l' ≡ l) × (holds' ≡ holds))
    → IfSome o (λ n. LeapsBy (left_of l'.carrier l'.room l'.stage) (Steps l l' holds holds') xs at n) → (p : Reading) × Steps l l' holds holds' p
steps l l' holds holds' xs at None same h = ([], rw ((same refl).0, (same refl).1) (follows_none l holds))
steps l l' holds holds' xs at (Some n) same h = (h.whole, h.follows)

-- and one that takes some, in a frame of its own
pub leaps_on : (l l' : PacketsState) (holds holds' : Holds) (xs : List Bool) (at : ℕ) (o : Option ℕ) {Left F : Reading → Type 0} → (Goes (left_of l'.carrier l'.room l'.stage) → Goes Left) → ((p : Reading) → Goes (left_of l'.carrier l'.room l'.stage) → Steps l l' holds holds' p → F p)
    → IfSome o (λ n. LeapsBy (left_of l'.carrier l'.room l'.stage) (Steps l l' holds holds') xs at n) → IfSome o (λ n. LeapsBy Left F xs at n)
leaps_on l l' holds holds' xs at None goes on h = tt
leaps_on l l' holds holds' xs at (Some n) goes on h = record {
  some = h.some;
  inside = h.inside;
  goes = goes h.goes;
  whole = h.whole;
  follows = on h.whole h.goes h.follows;
  bits = h.bits;
}

-- what is made of the same, and of two facts about it, is the same
pub same_made : {A R : Type 0} (P Q : A → Type 0) → ((a : A) (x y : P a) → x ≡ y) → ((a : A) (x y : Q a) → x ≡ y) → (make : (a : A) → P a → Q a → R) → (a b : A) → a ≡ b → (h : P a) (k : Q a) (h' : P b) (k' : Q b) → make a h k ≡ make b h' k'
same_made P Q one two make a b e h k h' k' i = make (e i) (is_prop→PathP (λ j. P (e j)) (λ j. one (e j)) h h' i) (is_prop→PathP (λ j. Q (e j)) (λ j. two (e j)) k k' i)

-- two ways are the same in one way
two_ways : Discrete Way
two_ways ToTrain ToTrain = yes refl
two_ways ToTrain ToTrack = no (λ e. absurd cc)
two_ways ToTrack ToTrain = no (λ e. absurd cc)
two_ways ToTrack ToTrack = yes refl

pub ways_alike : (a b : Way) (p q : a ≡ b) → p ≡ q
ways_alike a b p q = hedberg two_ways a b p q
