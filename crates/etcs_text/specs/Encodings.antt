-- The encoding of an item, and the line of one that was accepted.
use Rattle.std.specs.Prelude.{◌≡◌, ℕ, ◌<◌, List, ◌++◌, All, codes}
use Rattle.std.specs.Fmt.{decimal}
use Rattle.etcs_bits.specs.Bits.{bits}
use Rattle.etcs_vars.specs.Reading.{Reading, spelled}
use Rattle.etcs_text.specs.Entries.{EntryValue, Spells, entry_bits}

-- the bits of these bytes are the item's spelling
pub record IsEncoded (e : EntryValue) (bytes : List ℕ) : Type 0 where
  pub reading : Reading
  pub reads : Spells e reading
  pub small : All (λ b. b < 256) bytes
  pub bits_are : bits bytes ≡ spelled reading

-- the line of an item that was accepted: its number, and how many bits it has, of a telegram user bits
abbrev pub check_line : EntryValue → ℕ → List ℕ
check_line e item = codes "item " ++ decimal item ++ codes " ok " ++ decimal (entry_bits e) ++ codes " bits\n"
