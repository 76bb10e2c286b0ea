-- What comes next in a telegram.
use Rattle.std.specs.Prelude.{◌≡◌, ℕ, ◌+◌, ◌-◌, Bool, false, List, ◌++◌, length, replicate, slice_index_or, if◌then◌else◌, nat_lt}
use Rattle.etcs_vars.specs.declared.var.Var.{Var}
use Rattle.etcs_vars.specs.declared.var.Var.TheVariants.{FILL, PAD}
use Rattle.etcs_vars.specs.Reading.{Reading, kept, spelled, Then}
use Rattle.etcs_telegram.specs.declared.size.Size.{Size}
use Rattle.etcs_telegram.specs.declared.phase.Phase.{Phase}
use Rattle.etcs_telegram.specs.declared.phase.Phase.TheVariants.{Header, Packets, Fill, Pad, Whole}
use Rattle.etcs_rows.specs.declared.frames.Carrier.TheVariants as carrier
use Rattle.etcs_sequence.specs.Contents.{PacketsIn}
use Rattle.etcs_telegram.specs.Telegrams.{packet_room, pad_bits}
use Rattle.etcs_tables.specs.Headers.{header_row}
use Rattle.etcs_reader.specs.Fields.{ReadsFields}
use Rattle.etcs_sequence.specs.BitLaws.{BitsLeft}

-- the variable at this place of the header
abbrev pub header_var : ℕ → Var
header_var at = slice_index_or header_row at PAD

-- what comes after the variable at this place of the header
abbrev pub after_header : ℕ → Phase
after_header at = if nat_lt at 9 then Header (at + 1) else Packets

-- what comes after n bits of FILL, of which this many were left
abbrev pub after_fill : Size → ℕ → ℕ → Phase
after_fill size left n = if nat_lt n left then Fill (left - n) else Pad (pad_bits size)

-- what comes after a bit of PAD, of which this many were left with it
abbrev pub after_pad : ℕ → Phase
after_pad left = if nat_lt 1 left then Pad (left - 1) else Whole

-- ---- The readings of what is left.

-- n zeros of PAD
abbrev pub PadLeft : ℕ → Reading → Type 0
PadLeft n r = r ≡ kept PAD (replicate n false)

-- n bits of FILL, and all of PAD
abbrev pub FillLeft : Size → ℕ → Reading → Type 0
FillLeft size n r = Then (BitsLeft FILL n) (PadLeft (pad_bits size)) r

-- FILL and PAD after packets and packet 255
abbrev pub FillAfter : Size → Reading → Reading → Type 0
FillAfter size p r = FillLeft size (packet_room size - length (spelled p)) r

-- packets, packet 255, FILL and PAD
abbrev pub PacketsLeft : Size → Reading → Type 0
PacketsLeft size r = (p : Reading) × (rest : Reading) × (r ≡ p ++ rest) × PacketsIn carrier.Telegram (packet_room size) p × FillAfter size p rest

-- these variables of the header, and all that comes after it
abbrev pub HeaderLeft : Size → List Var → Reading → Type 0
HeaderLeft size vs r = Then (ReadsFields vs) (PacketsLeft size) r

-- ---- What comes before it.

-- packets with packet 255, then the bits of FILL, then this many zeros of PAD
abbrev pub beyond_header : Reading → List Bool → ℕ → Reading
beyond_header p fill zeros = p ++ (kept FILL fill ++ kept PAD (replicate zeros false))
