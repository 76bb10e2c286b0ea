-- What the heads and the bodies of the messages of a way are, and their laws (SUBSET-026, chapter 8).
use Rattle.std.specs.Prelude.{◌≡◌, ℕ, Bool, true, false, List, [], length, take, drop, Option, Some, None, IsTrue}
use Rattle.etcs_vars.specs.declared.fault.BuildFault.{BuildFault}
use Rattle.etcs_vars.specs.Reading.{Reading, numbers}
use Rattle.etcs_tables.specs.declared.row.Way.{Way}
use Rattle.etcs_tables.specs.declared.row.Way.TheVariants.{ToTrain, ToTrack}
use Rattle.etcs_tables.specs.Headers.{head_row}
use Rattle.etcs_tables.specs.Layouts.{Layout, Reads}
use Rattle.etcs_tables.specs.Rows.{message_row_to}
use Rattle.etcs_rows.specs.declared.frames.Carrier.{Carrier}
use Rattle.etcs_rows.specs.declared.frames.Carrier.TheVariants.{Telegram, Message}
use Rattle.etcs_reader.specs.Fields.{ReadsFields}

-- the carrier is a message of this way
abbrev pub is_carrier : Way → Carrier → Bool
is_carrier way Telegram = false
is_carrier ToTrain (Message ToTrain) = true
is_carrier ToTrain (Message ToTrack) = false
is_carrier ToTrack (Message ToTrain) = false
is_carrier ToTrack (Message ToTrack) = true

-- ---- Heads.

-- what heads are: their variables with their numbers, the first number that isn't admitted, what else holds of the
-- numbers by their types, and the head of some numbers
pub record HeadOf (H : Type 0) : Type 1 where
  pub reading : H → Reading
  pub fault : H → Option BuildFault
  pub Fits : H → Type 0
  pub made : List ℕ → H

-- all numbers of the head are admitted
pub record IsHead {H : Type 0} (k : HeadOf H) (h : H) : Type 0 where
  pub variables : k.fault h ≡ None
  pub types : k.Fits h

-- the numbers of a reading of the header's variables
abbrev pub IsHeadNumbers : Way → List ℕ → Type 0
IsHeadNumbers way f = (r : Reading) × ReadsFields (head_row way) r × (numbers r ≡ f)

-- a head is sent as its variables, which are a reading of the header's variables and no other head's; and the head of
-- the numbers of such a reading is the one that has it
pub record HeadLaws (way : Way) (H : Type 0) (sent : H → Reading) (k : HeadOf H) : Type 0 where
  pub is_sent : (h : H) → sent h ≡ k.reading h
  pub reads : (h : H) → IsHead k h → ReadsFields (head_row way) (k.reading h)
  pub one : (h g : H) → IsHead k h → IsHead k g → k.reading h ≡ k.reading g → h ≡ g
  pub back : (r : Reading) → ReadsFields (head_row way) r → IsHead k (k.made (numbers r)) × (k.reading (k.made (numbers r)) ≡ r)

-- ---- Bodies.

-- what bodies are: their numbers, whether the number is one of the variant's, their variables with their numbers, the
-- first number that isn't admitted, what else holds of the numbers by their types, and the body of a number and the
-- numbers of its variables
pub record OwnOf (B : Type 0) : Type 1 where
  pub nid : B → ℕ
  pub is_of_variant : B → Bool
  pub reading : B → Reading
  pub fault : B → Option BuildFault
  pub Fits : B → Type 0
  pub made : ℕ → List ℕ → B

-- a body of its variant's numbers whose variables admit theirs
pub record IsOwn {B : Type 0} (k : OwnOf B) (b : B) : Type 0 where
  pub variant : IsTrue (k.is_of_variant b)
  pub variables : k.fault b ≡ None
  pub types : k.Fits b

-- the number is typed, and these are the numbers of a reading of its row
abbrev pub IsOwnNumbers : Way → ℕ → List ℕ → Type 0
IsOwnNumbers way nid f = (row : Layout) × (r : Reading) × (message_row_to way nid ≡ Some row) × Reads row [] r × (numbers r ≡ f)

-- the body of this number whose reading is this one
pub record IsMadeOf {B : Type 0} (k : OwnOf B) (nid : ℕ) (r : Reading) (b : B) : Type 0 where
  pub number : k.nid b ≡ nid
  pub own : IsOwn k b
  pub back : k.reading b ≡ r

-- the row of a body's number, and a reading of it
abbrev pub OfRow : Way → ℕ → Reading → Type 0
OfRow way nid r = (row : Layout) × (message_row_to way nid ≡ Some row) × Reads row [] r

-- a body is sent as its variables, which are a reading of its number's row and no other such body's; and the body of
-- the numbers of such a reading is the one that has it
pub record OwnLaws (way : Way) (B : Type 0) (sent : B → Reading) (k : OwnOf B) : Type 0 where
  pub is_sent : (b : B) → sent b ≡ k.reading b
  pub reads : (b : B) → IsOwn k b → OfRow way (k.nid b) (k.reading b)
  pub one : (b c : B) → IsOwn k b → IsOwn k c → k.nid b ≡ k.nid c → k.reading b ≡ k.reading c → b ≡ c
  pub back : (nid : ℕ) (row : Layout) (r : Reading) → message_row_to way nid ≡ Some row → Reads row [] r → IsMadeOf k nid r (k.made nid (numbers r))

-- the head and the body that these numbers of the variables before the packets make
abbrev pub IsFrontBy : {H B : Type 0} → Way → HeadOf H → OwnOf B → ℕ → List ℕ → H → B → Type 0
IsFrontBy way k o nid f head body = (head ≡ k.made (take (length (head_row way)) f)) × (body ≡ o.made nid (drop (length (head_row way)) f))
