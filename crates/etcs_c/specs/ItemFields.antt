-- The bits of fields, and what `etcs_fields` returns for an item.
use Rattle.std.specs.Prelude.{◌≡◌, ℕ, ◌*◌, ◌/◌, ◌^◌, ◌<◌, ◌≤◌, All, flat_map, length, take, Bool, List, ◌⊎◌}
use Rattle.etcs_bits.specs.Bits.{num}
use Rattle.etcs_text.specs.declared.entry.Kind.{Kind}
use Rattle.etcs_text.specs.Pairs.{PairsRead}
use Rattle.etcs_c.specs.declared.answer.EtcsAnswer.{EtcsAnswer}
use Rattle.etcs_c.specs.declared.fields.EtcsField.{EtcsField}
use Rattle.etcs_c.specs.Writes.{Starves, Writes}
use Rattle.etcs_c.specs.Fields.{fields_of}
use Rattle.etcs_c.specs.Answers.{OfBits}

-- ---- The bits of fields.

-- the numbers of fields as bits, one after another, each in its width
abbrev pub packed : List EtcsField → List Bool
packed fs = flat_map (λ f. num f.width f.number) fs

-- the field's width is at most 64, and its number has no more bits than that
abbrev pub IsFit : EtcsField → Type 0
IsFit f = (f.width ≤ 64) × (f.number < 2 ^ f.width)

-- the same of each field
abbrev pub AreFit : List EtcsField → Type 0
AreFit fs = All IsFit fs

-- bits up to the last whole byte
abbrev pub whole_bytes : List Bool → List Bool
whole_bytes b = take (8 * (length b / 8)) b

-- ---- What a call returns.

-- `etcs_fields`: for an item, how many bytes it has, and its fields; else as for a check, and nothing is written
abbrev pub SaysFields : Kind → List Bool → List EtcsField → List EtcsField → ℕ → EtcsAnswer → Type 0
SaysFields kind b old new s a = OfBits (PairsRead kind) b (λ r. Writes (fields_of r) old new s a ⊎ Starves old new s) (λ i x. (s ≡ 2) × (new ≡ old)) (new ≡ old) s a
