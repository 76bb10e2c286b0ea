-- What is reported of the lines of a log.
use Rattle.std.specs.Prelude.{◌≡◌, ℕ, ◌+◌, ◌<◌, ◌≤◌, ◌%◌, Bool, true, false, not, ◌&&◌, ◌||◌, ◌==◌, List, [], ◌∷◌, ◌++◌, length, take, if◌then◌else◌, codes, ◌⊎◌, Option, Some, None, Result, Ok, Err, All}
use Rattle.std.specs.Fmt.{decimal}
use Rattle.std.specs.List.{AllZip}
use Rattle.hex.specs.Hex.{decode_of}
use Rattle.hex.specs.declared.error.FromHexError.{FromHexError}
use Rattle.etcs_bits.specs.Bits.{bits}
use Rattle.etcs_vars.specs.Reading.{readings_of}
use Rattle.etcs_rows.specs.Refusals.{FindsRefusal}
use Rattle.etcs_runs.specs.Digits.{is_passed_over, text_digits}
use Rattle.etcs_runs.specs.LineRuns.{line_runs}
use Rattle.etcs_runs.specs.Lines.{IsLine, lines_text, strip_cr}
use Rattle.etcs_text.specs.declared.entry.Kind.{Kind}
use Rattle.etcs_text.specs.declared.entry.Kind.TheVariants.{Long, Short}
use Rattle.etcs_text.specs.Entries.{EntryReads, EntryValue}
use Rattle.etcs_log.specs.declared.job.Good.{Good}
use Rattle.etcs_log.specs.declared.job.Good.TheVariants.{Left, Digits, Json}
use Rattle.etcs_log.specs.declared.job.LogJob.{LogJob}
use Rattle.etcs_log.specs.declared.job.LogTally.{LogTally}
use Rattle.etcs_log.specs.declared.kinds.Kinds.{Kinds}
use Rattle.etcs_log.specs.declared.notes.Note.{Note}
use Rattle.etcs_log.specs.declared.notes.Note.TheVariants.{TooLong, NoDigits, OddDigits, Bytes, Refused, Other, OtherBits, Another}
use Rattle.etcs_log.specs.declared.seen.Seen.{Seen}
use Rattle.etcs_telegram.specs.Telegrams.{TelegramValue}
use Rattle.etcs_group.specs.declared.groups.Group.{Group}
use Rattle.etcs_group.specs.GroupLines.{AreGroupLines}
use Rattle.etcs_reasons.specs.BitDigits.{are_bits}
use Rattle.etcs_log.specs.LogGroups.{AreGroups, telegram_of}
use Rattle.etcs_log.specs.Candidates.{AreNone, Candidate, IsFirst, is_asked, is_wanted, line_candidates, text_candidates, whole_bytes}
use Rattle.etcs_log.specs.JsonLines.{json_item}
use Rattle.etcs_log.specs.Needed.{needs_of}
use Rattle.etcs_log.specs.Notes.{count_of, note_text}
use Rattle.etcs_log.specs.Picks.{picks}
use Rattle.etcs_log.specs.Texts.{are_named, are_text}
use Rattle.etcs_log.specs.Values.{digits_line}

-- what a line is: passed over; these bytes, which are this item, and perhaps those of another item before it; of another
-- kind; plain text; bad, and why
pub data Answer : Type 0 where
  passed : Answer
  item : Candidate → EntryValue → Option Candidate → Answer
  other : Note → Answer
  plain : Answer
  bad : Note → Answer

-- ---- What a line is.

-- these bytes, if they are such ones
abbrev pub some_if : Bool → List ℕ → Option (List ℕ)
some_if such bytes = if such then Some bytes else None

-- the same, or else what comes after them
abbrev pub such_bytes : (List ℕ → Bool) → Result (List ℕ) FromHexError → Option (List ℕ) → Option (List ℕ)
such_bytes p (Ok bytes) others = if p bytes then Some bytes else others
such_bytes p (Err e) others = others

-- of the bytes at the ends of these texts, the first such ones
abbrev pub first_bytes : (List ℕ → Bool) → List (List ℕ) → Option (List ℕ)
first_bytes p [] = None
first_bytes p (text ∷ texts) = such_bytes p (decode_of (text_digits text)) (first_bytes p texts)

-- none of those that are asked for, but these
abbrev pub unless_asked : Option (List ℕ) → Option (List ℕ) → Option (List ℕ)
unless_asked None wanted = wanted
unless_asked (Some bytes) wanted = None

-- the bytes of which only a kind that isn't asked for has the length, if there are any, and none of a length that is asked for
abbrev pub other_bytes : Kinds → List (List ℕ) → Option (List ℕ)
other_bytes kinds texts = unless_asked (first_bytes (is_asked kinds) texts) (first_bytes is_wanted texts)

-- what is reported of bytes of another kind
abbrev pub other_note : Bool → List ℕ → Note
other_note named bytes = if are_bits Long bytes then OtherBits Long else if are_bits Short bytes then OtherBits Short else Other (count_of named bytes)

-- why these bytes are no item: they are refused as one of a kind, at the first bit with which no item of the kind continues;
-- or how many they are
abbrev pub IsBytesNote : Kinds → Bool → List ℕ → Note → Type 0
IsBytesNote kinds named bytes TooLong = ⊥
IsBytesNote kinds named bytes NoDigits = ⊥
IsBytesNote kinds named bytes (OddDigits n) = ⊥
IsBytesNote kinds named bytes (Bytes needs count) = (needs ≡ needs_of kinds bytes) × (count ≡ count_of named bytes)
IsBytesNote kinds named bytes (Refused kind r) = FindsRefusal (readings_of (EntryReads kind)) (take 8184 (bits (whole_bytes kind bytes))) (Some r)
IsBytesNote kinds named bytes (Other count) = ⊥
IsBytesNote kinds named bytes (OtherBits kind) = ⊥
IsBytesNote kinds named bytes (Another count) = ⊥

-- why the digits of a text are no item: there are none, or an odd number of them; or what their bytes are
abbrev pub IsTextNote : Kinds → Bool → List ℕ → Note → Type 0
IsTextNote kinds named text TooLong = ⊥
IsTextNote kinds named text NoDigits = text_digits text ≡ []
IsTextNote kinds named text (OddDigits n) = (n ≡ length (text_digits text)) × (n % 2 ≡ 1)
IsTextNote kinds named text (Bytes needs count) = (bytes : List ℕ) × (decode_of (text_digits text) ≡ Ok bytes) × IsBytesNote kinds named bytes (Bytes needs count)
IsTextNote kinds named text (Refused kind r) = (bytes : List ℕ) × (decode_of (text_digits text) ≡ Ok bytes) × IsBytesNote kinds named bytes (Refused kind r)
IsTextNote kinds named text (Other count) = ⊥
IsTextNote kinds named text (OtherBits kind) = ⊥
IsTextNote kinds named text (Another count) = ⊥

-- why a line with these texts is bad: it is of the first bytes of a length that is asked for, if there are any, and else of
-- the first text
abbrev pub IsNoteOf : Kinds → Bool → Option (List ℕ) → List (List ℕ) → Note → Type 0
IsNoteOf kinds named (Some bytes) texts note = IsBytesNote kinds named bytes note
IsNoteOf kinds named None [] note = ⊥
IsNoteOf kinds named None (text ∷ texts) note = IsTextNote kinds named text note

-- the line is only text, and that isn't bad
abbrev pub lets : LogJob → List (List ℕ) → Bool
lets job texts = not job.strict && are_text texts

-- the first of the texts whose digits are an item has this one, and these texts come after it
abbrev pub IsItemOf : Kinds → List (List ℕ) → Candidate → EntryValue → List (List ℕ) → Type 0
IsItemOf kinds [] c e others = ⊥
IsItemOf kinds (text ∷ texts) c e others = (IsFirst (text_candidates kinds text) c e × (others ≡ texts)) ⊎ (AreNone (text_candidates kinds text) × IsItemOf kinds texts c e others)

-- these texts have another item, or none
abbrev pub IsAnother : Kinds → List (List ℕ) → Option Candidate → Type 0
IsAnother kinds texts None = AreNone (line_candidates kinds texts)
IsAnother kinds texts (Some c) = (e : EntryValue) × IsFirst (line_candidates kinds texts) c e

-- what a line with these texts is: the first candidate that is an item, and perhaps another before it, unless lines aren't
-- reported; of another kind if none is, by its length; else text, or bad
abbrev pub IsTextsAnswer : LogJob → List (List ℕ) → Answer → Type 0
IsTextsAnswer job texts passed = ⊥
IsTextsAnswer job texts (item c e another) = (others : List (List ℕ)) × IsItemOf job.kinds texts c e others × (job.quiet ≡ true → another ≡ None) × (job.quiet ≡ false → IsAnother job.kinds others another)
IsTextsAnswer job texts (other note) = AreNone (line_candidates job.kinds texts) × ((bytes : List ℕ) × (other_bytes job.kinds texts ≡ Some bytes) × (note ≡ other_note (are_named texts) bytes))
IsTextsAnswer job texts plain = AreNone (line_candidates job.kinds texts) × (other_bytes job.kinds texts ≡ None) × (lets job texts ≡ true)
IsTextsAnswer job texts (bad note) = AreNone (line_candidates job.kinds texts) × (other_bytes job.kinds texts ≡ None) × (lets job texts ≡ false) × IsNoteOf job.kinds (are_named texts) (first_bytes (is_asked job.kinds) texts) texts note

-- what a line is: it may be too long; blank or a comment; and else it is what its texts are
abbrev pub IsAnswer : LogJob → List ℕ → Answer → Type 0
IsAnswer job line a =
    ((1048576 < length line) × (a ≡ bad TooLong))
    ⊎ ((length line ≤ 1048576) × (((is_passed_over line ≡ true) × (a ≡ passed)) ⊎ ((is_passed_over line ≡ false) × IsTextsAnswer job (line_runs line) a)))

-- one result for each line, in order; a CR at its end isn't a character of it
abbrev pub AreAnswers : LogJob → List (List ℕ) → List Answer → Type 0
AreAnswers job lines answers = AllZip (λ line a. IsAnswer job (strip_cr line) a) lines answers

-- ---- What is written of it.

-- good lines are written
abbrev pub is_written : Good → Bool
is_written Left = false
is_written Digits = true
is_written Json = true

-- what is written of an item: nothing; its digits in upper case, and before them its kind if there are several; or JSON
abbrev pub good_text : LogJob → ℕ → Candidate → EntryValue → Good → List ℕ
good_text job n c e Left = []
good_text job n c e Digits = digits_line job.kinds c.kind c.bytes
good_text job n c e Json = json_item n c.front e

-- what is written of the line of this number, which is no item: nothing if good lines are
abbrev pub reported : LogJob → ℕ → Note → List ℕ
reported job n note = if job.quiet || is_written job.good then [] else note_text job.good n note

-- what is written of another item before the item of the line
abbrev pub another_said : LogJob → ℕ → Option Candidate → List ℕ
another_said job n None = []
another_said job n (Some c) = reported job n (Another (count_of true c.bytes))

-- what is written of the line of this number: only of good lines if they are written, else only of bad lines and of those
-- of another kind
abbrev pub said : LogJob → ℕ → Answer → List ℕ
said job n passed = []
said job n (item c e another) = (if picks job e then good_text job n c e job.good else []) ++ another_said job n another
said job n (other note) = reported job n note
said job n plain = []
said job n (bad note) = reported job n note

-- what is written of lines one after another, of which the first has this number
abbrev pub output_of : LogJob → ℕ → List Answer → List ℕ
output_of job n [] = []
output_of job n (a ∷ others) = said job n a ++ output_of job (n + 1) others

-- ---- How it is counted.

-- a line more was counted
abbrev pub tallied : LogTally → Answer → LogTally
tallied t passed = t
tallied t (item c e another) = record t { items = t.items + 1 }
tallied t (other note) = record t { other = t.other + 1 }
tallied t plain = record t { text = t.text + 1 }
tallied t (bad note) = record t { bad = t.bad + 1 }

-- no line was counted
abbrev pub no_lines : LogTally
no_lines = record { items = 0; bad = 0; other = 0; text = 0 }

-- lines were counted, one after another
abbrev pub tally_of : LogTally → List Answer → LogTally
tally_of t [] = t
tally_of t (a ∷ others) = tally_of (tallied t a) others

-- how many lines were counted
abbrev pub lines_in : LogTally → ℕ
lines_in t = t.items + t.bad + t.other + t.text

-- the telegrams among the items, in order
abbrev pub telegrams_in : List Answer → List TelegramValue
telegrams_in [] = []
telegrams_in (passed ∷ others) = telegrams_in others
telegrams_in (item c e another ∷ others) = telegram_of e ++ telegrams_in others
telegrams_in (other note ∷ others) = telegrams_in others
telegrams_in (plain ∷ others) = telegrams_in others
telegrams_in (bad note ∷ others) = telegrams_in others

-- ---- What comes after the last line.

-- a line with this count, unless it is 0
abbrev pub count_line : List ℕ → ℕ → List ℕ
count_line name count = if count == 0 then [] else name ++ decimal count ++ codes "\n"

-- how many lines are items, how many are bad and, if any, how many are of other kinds, and text, one count per line
abbrev pub counts_front : LogTally → List ℕ
counts_front tally = codes "items " ++ decimal tally.items ++ codes "\nbad " ++ decimal tally.bad ++ codes "\n" ++ count_line (codes "other ") tally.other ++ count_line (codes "text ") tally.text

-- what is written after the last line: these counts and some further text if counts are asked for and good lines aren't
-- written, else nothing
abbrev pub CountsText : LogJob → LogTally → List ℕ → Type 0
CountsText job tally text =
    ((is_written job.good ≡ true) ⊎ (job.summary ≡ false) → text ≡ [])
    × (is_written job.good ≡ false → job.summary ≡ true → (further : List ℕ) × (text ≡ counts_front tally ++ further))

-- what is written after them: a line for each group if groups are asked for and good lines aren't written, else nothing
abbrev pub GroupsText : LogJob → List Group → List ℕ → Type 0
GroupsText job gs text =
    ((is_written job.good ≡ true) ⊎ (job.groups ≡ false) → text ≡ [])
    × (is_written job.good ≡ false → job.groups ≡ true → AreGroupLines gs text)

-- both of them
abbrev pub EndText : LogJob → LogTally → List Group → List ℕ → Type 0
EndText job tally gs text = (counts : List ℕ) × (lines : List ℕ) × CountsText job tally counts × GroupsText job gs lines × (text ≡ counts ++ lines)

-- ---- What a line does.

-- the result for the line of this number, the text written about it, and how it is counted
abbrev pub Counted : LogJob → ℕ → Answer → LogTally → LogTally → List ℕ → List ℕ → Type 0
Counted job n a before after text text' = (text' ≡ text ++ said job n a) × (after ≡ tallied before a)

-- if groups are asked for, the telegram of the line, if it is one, was added to them
abbrev pub Grouped : LogJob → Answer → List Group → List Group → Type 0
Grouped job a old new = job.groups ≡ true → (vs : List TelegramValue) → AreGroups vs old → AreGroups (vs ++ telegrams_in (a ∷ [])) new

-- it is counted so, and grouped
abbrev pub Noted : LogJob → ℕ → Answer → Seen → Seen → List ℕ → List ℕ → Type 0
Noted job n a before after text text' = Counted job n a before.tally after.tally text text' × Grouped job a before.groups after.groups

-- a line was classified and counted
abbrev pub Answered : LogJob → ℕ → List ℕ → Seen → Seen → List ℕ → List ℕ → Type 0
Answered job n line before after text text' = (a : Answer) × IsAnswer job line a × Noted job n a before after text text'

-- if lines are reported, another item before the last of these texts was, if there is one
abbrev pub AnotherSaid : LogJob → ℕ → List (List ℕ) → List ℕ → List ℕ → Type 0
AnotherSaid job n [] text text' = ⊥
AnotherSaid job n (last ∷ texts) text text' = (another : Option Candidate) × (job.quiet ≡ true → another ≡ None) × (job.quiet ≡ false → IsAnother job.kinds texts another) × (text' ≡ text ++ another_said job n another)

-- the same of a line with these texts
abbrev pub TextsAnswered : LogJob → ℕ → List (List ℕ) → Seen → Seen → List ℕ → List ℕ → Type 0
TextsAnswered job n texts before after text text' = (a : Answer) × IsTextsAnswer job texts a × Noted job n a before after text text'

-- these were tried: the first item among them was counted, or there is none, and nothing was
abbrev pub Tried : List Candidate → Bool → LogJob → ℕ → Seen → Seen → List ℕ → List ℕ → Type 0
Tried cs true job n before after text text' = (c : Candidate) × (e : EntryValue) × IsFirst cs c e × Noted job n (item c e None) before after text text'
Tried cs false job n before after text text' = AreNone cs × (after ≡ before) × (text' ≡ text)

-- a whole log: the bytes given are its lines, of which the last has no LF and may be empty. Each gets one result, in
-- order. Output is what is written of them, then the counts and the groups; the tally has how many are items, bad, of
-- other kinds, and text
pub record IsLog (job : LogJob) (given output : List ℕ) (tally : LogTally) : Type 0 where
  pub lines : List (List ℕ)
  pub last : List ℕ
  pub given_is : given ≡ lines_text lines ++ last
  pub are_lines : All IsLine lines × IsLine last
  pub answers : List Answer
  pub are_answers : AreAnswers job (lines ++ last ∷ []) answers
  pub groups : List Group
  pub end : List ℕ
  pub output_is : output ≡ output_of job 1 answers ++ end
  pub end_is : EndText job tally groups end
  pub groups_are : job.groups ≡ true → AreGroups (telegrams_in answers) groups
  pub tally_is : tally ≡ tally_of no_lines answers
