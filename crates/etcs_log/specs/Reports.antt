-- What is reported of a line while its texts are looked at.
use Rattle.std.specs.Prelude.{◌≡◌, ℕ, true, false, List, [], ◌∷◌, Option, Some, None, is_some}
use Rattle.std.specs.Option.{option_map}
use Rattle.etcs_log.specs.declared.kinds.Kinds.{Kinds}
use Rattle.etcs_log.specs.declared.reports.Reports.{Reports}
use Rattle.etcs_log.specs.Candidates.{AreNone, Candidate, IsFirst, is_asked, is_wanted, line_candidates}
use Rattle.etcs_log.specs.declared.byte_count.ByteCount.{ByteCount}
use Rattle.etcs_log.specs.Logs.{IsBytesNote, IsNoteOf, first_bytes, other_bytes, other_note, some_if}
use Rattle.etcs_log.specs.Notes.{count_of}
use Rattle.etcs_log.specs.Texts.{are_named, are_text}
use Rattle.etcs_text.specs.Entries.{EntryValue}

-- this is what is reported of a line if these are its texts
pub record AreReports (kinds : Kinds) (texts : List (List ℕ)) (r : Reports) : Type 0 where
  pub named_is : r.named ≡ are_named texts
  pub text_is : r.is_text ≡ are_text texts
  pub asked_is : r.asked ≡ is_some (first_bytes (is_asked kinds) texts)
  pub note_is : IsNoteOf kinds r.named (first_bytes (is_asked kinds) texts) texts r.note
  pub other_is : r.other ≡ option_map (other_note r.named) (other_bytes kinds texts)

-- the first item among these candidates has this number of bytes, or there is none
abbrev pub IsCountOf : List Candidate → Option ByteCount → Type 0
IsCountOf cs None = AreNone cs
IsCountOf cs (Some count) = (c : Candidate) × (e : EntryValue) × IsFirst cs c e × (count ≡ count_of true c.bytes)

-- the same of all candidates of the texts before the last one
abbrev pub IsCountBefore : Kinds → List (List ℕ) → Option ByteCount → Type 0
IsCountBefore kinds [] o = ⊥
IsCountBefore kinds (last ∷ texts) o = IsCountOf (line_candidates kinds texts) o

-- the first of the two that there is
abbrev pub first_of : {X : Type 0} → Option X → Option X → Option X
first_of None b = b
first_of (Some x) b = Some x

-- a run with these bytes was looked at, too
abbrev pub Sees : Kinds → List ℕ → Reports → Reports → Type 0
Sees kinds bytes old new =
    (new.named ≡ old.named)
    × (new.is_text ≡ old.is_text)
    × (old.asked ≡ true → new ≡ old)
    × (old.asked ≡ false → is_asked kinds bytes ≡ true → (new.asked ≡ true) × IsBytesNote kinds old.named bytes new.note × (new.other ≡ None))
    × (old.asked ≡ false → is_asked kinds bytes ≡ false → (new.asked ≡ false) × (new.note ≡ old.note) × (new.other ≡ first_of old.other (option_map (other_note old.named) (some_if (is_wanted bytes) bytes))))
