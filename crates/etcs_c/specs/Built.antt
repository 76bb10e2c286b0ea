-- Items built from their fields, as C has them.
use Rattle.std.specs.Prelude.{◌≡◌, ◌<◌, ℕ, ◌⊎◌, All, List}
use Rattle.etcs_bits.specs.Bits.{bits}
use Rattle.etcs_vars.specs.declared.var.Var.{Var}
use Rattle.etcs_vars.specs.Reading.{Reading, spelled, IsOutcome, done, refused, more}
use Rattle.etcs_text.specs.declared.entry.Kind.{Kind}
use Rattle.etcs_text.specs.Pairs.{ItemLanguage, PairsRead}
use Rattle.etcs_c.specs.declared.answer.EtcsAnswer.{EtcsAnswer}
use Rattle.etcs_c.specs.declared.fields.EtcsField.{EtcsField}
use Rattle.etcs_c.specs.Writes.{Starves, Writes, name_field}
use Rattle.etcs_c.specs.Fields.{fields_of}
use Rattle.etcs_c.specs.ItemFields.{AreFit, packed, whole_bytes}

-- these are all the fields of the reading, that of an item of the kind
abbrev pub HasFields : Kind → List EtcsField → Reading → Type 0
HasFields kind fs r = ItemLanguage kind r × (fs ≡ fields_of r)

-- these are the fields of no item of the kind
abbrev pub NoneHas : Kind → List EtcsField → Type 0
NoneHas kind fs = (r : Reading) → HasFields kind fs r → ⊥

-- the bytes of the reading's bits are written; or it is out of memory
abbrev pub SaysPacked : Reading → List ℕ → List ℕ → ℕ → EtcsAnswer → Type 0
SaysPacked r old new s a = ((bytes : List ℕ) × All (λ b. b < 256) bytes × (bits bytes ≡ spelled r) × Writes bytes old new s a) ⊎ Starves old new s

-- the fields don't fit their widths, or their bits, up to the last whole byte, begin with an item
abbrev pub AreBad : Kind → List EtcsField → Type 0
AreBad kind fs = (AreFit fs → ⊥) ⊎ ((r : Reading) × (n : ℕ) × IsOutcome (PairsRead kind) (whole_bytes (packed fs)) (done r n))

-- what is returned if no item has the fields: 7 if they are bad; or, if they fit their widths, 1 if their bits, up to
-- the last whole byte, end inside an item, and 2 with the one that is refused
abbrev pub Misses : Kind → List EtcsField → ℕ → EtcsAnswer → Type 0
Misses kind fs s a = ((s ≡ 7) × AreBad kind fs) ⊎ (AreFit fs × (((s ≡ 1) × IsOutcome (PairsRead kind) (whole_bytes (packed fs)) more) ⊎ ((i : ℕ) × (x : Var) × (s ≡ 2) × (a.bit ≡ i) × (a.var ≡ name_field x) × IsOutcome (PairsRead kind) (whole_bytes (packed fs)) (refused i x))))

-- `etcs_from_fields`: the encoding of the item whose fields these are is written; or no item of the kind has them, and
-- nothing is written; or it is out of memory
abbrev pub IsBuilt : Kind → List EtcsField → List ℕ → List ℕ → ℕ → EtcsAnswer → Type 0
IsBuilt kind fs old new s a = ((r : Reading) × HasFields kind fs r × SaysPacked r old new s a) ⊎ ((NoneHas kind fs × Misses kind fs s a × (new ≡ old)) ⊎ Starves old new s)
