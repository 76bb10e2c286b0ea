-- What the calls return for bytes and for lines of JSON, as numbers. `old` and `new` are the caller's buffer before and
-- after the call, s its status and a its answer.
use Rattle.std.specs.Prelude.{◌≡◌, ℕ, ◌*◌, ◌⊎◌, Bool, List}
use Rattle.serde_json.specs.Written.{compact_text}
use Rattle.etcs_vars.specs.declared.var.Var.{Var}
use Rattle.etcs_vars.specs.Reading.{Reading, IsOutcome, Outcome, done, refused, more}
use Rattle.etcs_text.specs.declared.entry.Kind.{Kind}
use Rattle.etcs_text.specs.declared.entry.Kind.TheVariants.{Long, Short, Radio, Train}
use Rattle.etcs_text.specs.Entries.{EntryReads, EntryValue, entry_text}
use Rattle.etcs_text.specs.Encodings.{IsEncoded}
use Rattle.etcs_text.specs.Trees.{json_tree}
use Rattle.etcs_json.specs.JsonLines.{OfLine, SaysItem, SaysRefused}
use Rattle.etcs_json.specs.Loose.{IsLoose}
use Rattle.etcs_json.specs.TreeReading.{IsTreeOf}
use Rattle.etcs_c.specs.declared.answer.EtcsAnswer.{EtcsAnswer}
use Rattle.etcs_c.specs.Writes.{Starves, Writes, name_field}
use Rattle.etcs_c.specs.declared.texts.Wanted.{Wanted}
use Rattle.etcs_c.specs.declared.texts.Wanted.TheVariants.{Show, Json}

-- the number of a kind
abbrev pub kind_number : Kind → ℕ
kind_number Long = 1
kind_number Short = 2
kind_number Radio = 3
kind_number Train = 4

-- this for the kind of the number n; or no kind has the number, and the status is 5, and Rest
abbrev pub OfKind : ℕ → (Kind → Type 0) → Type 0 → ℕ → Type 0
OfKind n Says Rest s = ((kind : Kind) × (kind_number kind ≡ n) × Says kind) ⊎ ((s ≡ 5) × ((kind : Kind) → kind_number kind ≡ n → ⊥) × Rest)

-- what is returned for an outcome: for an item how many bytes it has, and Whole of it; for a refused bit which it is, its
-- variable, and Refused of both; for the beginning of an item 1, and Rest
abbrev pub OfOutcome : {V : Type 0} → (V → Type 0) → (ℕ → Var → Type 0) → Type 0 → Outcome V → ℕ → EtcsAnswer → Type 0
OfOutcome Whole Refused Rest (done v n) s a = (n ≡ 8 * a.taken) × Whole v
OfOutcome Whole Refused Rest (refused i x) s a = (a.bit ≡ i) × (a.var ≡ name_field x) × Refused i x
OfOutcome Whole Refused Rest more s a = (s ≡ 1) × Rest

-- that for what the bits begin with (`IsOutcome`): a reading of a value; or it is out of memory, with 4 and Rest
abbrev pub OfBits : {V : Type 0} → (V → Reading → Type 0) → List Bool → (V → Type 0) → (ℕ → Var → Type 0) → Type 0 → ℕ → EtcsAnswer → Type 0
OfBits {V} Reads b Whole Refused Rest s a = ((o : Outcome V) × IsOutcome Reads b o × OfOutcome Whole Refused Rest o s a) ⊎ ((s ≡ 4) × Rest)

-- `etcs_check`: the status and the numbers of what the bits begin with
abbrev pub SaysBits : {V : Type 0} → (V → Reading → Type 0) → List Bool → ℕ → EtcsAnswer → Type 0
SaysBits Reads b s a = OfBits Reads b (λ v. s ≡ 0) (λ i x. s ≡ 2) (Unit {0}) s a

-- they begin with no reading of a value, or it is out of memory
abbrev pub SaysNone : {V : Type 0} → (V → Reading → Type 0) → List Bool → ℕ → EtcsAnswer → Type 0
SaysNone Reads b s a = OfBits Reads b (λ v. ⊥) (λ i x. s ≡ 2) (Unit {0}) s a

-- the text is what is written of the item: its lines of text, or its JSON
abbrev pub IsText : Wanted → EntryValue → List ℕ → Type 0
IsText (Show item) e text = text ≡ entry_text e item
IsText Json e text = text ≡ compact_text (json_tree e)

-- that is written; or it is out of memory
abbrev pub OutputsOf : Wanted → EntryValue → List ℕ → List ℕ → ℕ → EtcsAnswer → Type 0
OutputsOf wanted e old new s a = ((text : List ℕ) × IsText wanted e text × Writes text old new s a) ⊎ Starves old new s

-- `etcs_show` and `etcs_to_json`: for an item, how many bytes it has, and what is written of it; else as for a check, and
-- nothing is written
abbrev pub SaysText : Wanted → Kind → List Bool → List ℕ → List ℕ → ℕ → EtcsAnswer → Type 0
SaysText wanted kind b old new s a = OfBits (EntryReads kind) b (λ e. OutputsOf wanted e old new s a) (λ i x. (s ≡ 2) × (new ≡ old)) (new ≡ old) s a

-- `etcs_from_json`: the encoding of the item whose JSON the line is is written; or it is the JSON of none: the bits of its
-- older form are refused, or it has no tree of an item, nor one of this form
abbrev pub SaysLine : Kind → List ℕ → List ℕ → List ℕ → ℕ → EtcsAnswer → Type 0
SaysLine kind line old new s a = ((e : EntryValue) × (bytes : List ℕ) × SaysItem kind line e × IsEncoded e bytes × Writes bytes old new s a) ⊎ (((i : ℕ) × (x : Var) × (s ≡ 2) × (a.bit ≡ i) × (a.var ≡ name_field x) × (new ≡ old) × SaysRefused kind line i x) ⊎ (((s ≡ 6) × (new ≡ old) × ((e : EntryValue) → IsLoose kind e → OfLine (λ d. IsTreeOf e d) line → ⊥)) ⊎ Starves old new s))
