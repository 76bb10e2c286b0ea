-- What is returned and written for bytes that no item begins with, and for lines that are the JSON of none.
use Rattle.std.specs.Prelude.{◌≡◌, ◌<◌, ℕ, ◌⊎◌, Bool, List, length, take}
use Rattle.etcs_vars.specs.Vars.{width}
use Rattle.etcs_vars.specs.declared.var.Var.{Var}
use Rattle.etcs_vars.specs.Reading.{Reading, readings_of, IsOutcome, refused}
use Rattle.etcs_text.specs.declared.entry.Kind.{Kind}
use Rattle.etcs_text.specs.Entries.{EntryReads, EntryValue}
use Rattle.etcs_text.specs.Pairs.{ItemLanguage, PairsRead}
use Rattle.etcs_json.specs.JsonLines.{OfLine, SaysItem, SaysRefused}
use Rattle.etcs_json.specs.Loose.{IsLoose}
use Rattle.etcs_json.specs.TreeReading.{IsTreeOf}
use Rattle.etcs_rows.specs.Refusals.{Explains}
use Rattle.etcs_rows.specs.Words.{words}
use Rattle.etcs_rows.specs.declared.refusal.Refusal.{Refusal}
use Rattle.etcs_text.specs.Accounts.{Shows}
use Rattle.etcs_c.specs.declared.answer.EtcsAnswer.{EtcsAnswer}
use Rattle.etcs_c.specs.declared.fields.EtcsField.{EtcsField}
use Rattle.etcs_c.specs.declared.reason.EtcsReason.{EtcsReason}
use Rattle.etcs_c.specs.Writes.{Starves, WritesAs, name_field}
use Rattle.etcs_c.specs.Answers.{OfBits}
use Rattle.etcs_c.specs.Fields.{fields_of}
use Rattle.etcs_c.specs.Reasons.{reason_of}

-- a text that isn't empty is written, with this status; or there is no room for it; or it is out of memory
abbrev pub Words : ℕ → List ℕ → List ℕ → ℕ → EtcsAnswer → Type 0
Words status old new s a = ((text : List ℕ) × (0 < length text) × WritesAs status text old new s a) ⊎ Starves old new s

-- no bit is refused: as for a check, and nothing is written
abbrev pub SaysUnrefused : {V : Type 0} → (V → Reading → Type 0) → List Bool → ℕ → EtcsAnswer → Type 0
SaysUnrefused Reads b s a = OfBits Reads b (λ v. (s ≡ 0) × (a.written ≡ 0)) (λ i x. ⊥) (a.written ≡ 0) s a

-- the refusal is of bit i of these bits, which x holds, and explains why no item of the kind continues with it
abbrev pub IsWhy : Kind → List Bool → ℕ → Var → Refusal → Type 0
IsWhy kind b i x r = (r.bit ≡ i) × (r.var ≡ x) × Explains (readings_of (EntryReads kind)) (take 8184 b) r

-- the refusal's bit is refused, and that is why; in the answer are the bit and the variable that holds it
abbrev pub IsFound : Kind → List Bool → Refusal → EtcsAnswer → Type 0
IsFound kind b r a = (a.bit ≡ r.bit) × (a.var ≡ name_field r.var) × IsOutcome (EntryReads kind) b (refused r.bit r.var) × Explains (readings_of (EntryReads kind)) (take 8184 b) r

-- for a refused bit, which it is, its variable, and this; else as for a check, and nothing is written
abbrev pub SaysRefusal : {V A : Type 0} → (V → Reading → Type 0) → List Bool → (ℕ → Var → Type 0) → A → A → ℕ → EtcsAnswer → Type 0
SaysRefusal Reads b Refused old new s a = OfBits Reads b (λ v. (s ≡ 0) × (a.written ≡ 0) × (new ≡ old)) Refused ((a.written ≡ 0) × (new ≡ old)) s a

-- `etcs_explain`: for a refused bit, why it is refused, in words
abbrev pub SaysWhy : Kind → List Bool → List ℕ → List ℕ → ℕ → EtcsAnswer → Type 0
SaysWhy kind b old new s a = SaysRefusal (EntryReads kind) b (λ i x. (r : Refusal) × IsWhy kind b i x r × (WritesAs 2 (words r) old new s a ⊎ Starves old new s)) old new s a

-- `etcs_refusal`: for a refused bit, also if there is no memory, why it is refused, as numbers
abbrev pub SaysReason : Kind → List Bool → EtcsReason → EtcsReason → ℕ → EtcsAnswer → Type 0
SaysReason kind b old new s a = SaysRefusal (EntryReads kind) b (λ i x. (s ≡ 2) × ((r : Refusal) × IsWhy kind b i x r × (new ≡ reason_of r))) old new s a × ((i : ℕ) (x : Var) → IsOutcome (EntryReads kind) b (refused i x) → s ≡ 2)

-- these are the fields of all whole variables before bit i: in an item of the kind the variable x follows them, and the bits
-- before bit i are theirs and then fewer than x has
abbrev pub AreBefore : Kind → List Bool → ℕ → Var → List EtcsField → Type 0
AreBefore kind b i x fs = (p : Reading) × (part : List Bool) × Shows (ItemLanguage kind) p x part (take i b) × (length part < width x) × (fs ≡ fields_of p)

-- `etcs_fields_before`: for a refused bit, the fields before the variable that holds it
abbrev pub SaysBefore : Kind → List Bool → List EtcsField → List EtcsField → ℕ → EtcsAnswer → Type 0
SaysBefore kind b old new s a = SaysRefusal (PairsRead kind) b (λ i x. ((fs : List EtcsField) × AreBefore kind b i x fs × WritesAs 2 fs old new s a) ⊎ Starves old new s) old new s a

-- `etcs_explain_json` and `etcs_json_reason`: for a line that is the JSON of no item, some text, with the status and the
-- answer as for `etcs_from_json`; for one that is the JSON of an item nothing is written
abbrev pub SaysLineWhy : Kind → List ℕ → List ℕ → List ℕ → ℕ → EtcsAnswer → Type 0
SaysLineWhy kind line old new s a = ((e : EntryValue) × SaysItem kind line e × (s ≡ 0) × (a.written ≡ 0) × (new ≡ old)) ⊎ (((i : ℕ) × (x : Var) × SaysRefused kind line i x × (a.bit ≡ i) × (a.var ≡ name_field x) × Words 2 old new s a) ⊎ ((((e : EntryValue) → IsLoose kind e → OfLine (λ d. IsTreeOf e d) line → ⊥) × Words 6 old new s a) ⊎ Starves old new s))
