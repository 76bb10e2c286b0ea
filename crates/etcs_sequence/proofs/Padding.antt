-- A message's padding.
use Rattle.std.proofs.Common.{◌≡◌, ℕ, ◌≤◌, [], ◌∷◌, length, ap, arith}
use Rattle.std.proofs.lemmas.List.Elements.{All-nil}
use Rattle.etcs_vars.specs.Reading.{Reading, spelled}
use Rattle.etcs_vars.proofs.Languages.{Same}
use Rattle.etcs_tables.specs.declared.row.Way.{Way}
use Rattle.etcs_rows.specs.declared.frames.Carrier.TheVariants.{Message}
use Rattle.etcs_packets.specs.laws.PacketReadings.{bits_are}
use Rattle.etcs_packets.specs.PacketValues.{bits_to}
use Rattle.etcs_sequence.specs.Contents.{Carries, PacketsIn}
use Rattle.etcs_sequence.specs.laws.Agreement.{some_bits}
use Rattle.etcs_sequence.specs.laws.RunSteps.{beyond}

only_padding : (way : Way) (room : ℕ) → room ≤ 7 → (r : Reading) → PacketsIn (Message way) room r → r ≡ []
only_padding way room le r ([], run) = run.reading_is
only_padding way room le r (v ∷ vs, run) = absurd (let b = beyond (Message way) room (bits_to way v) v vs r run (bits_are way v) in omega (arith, le, b.2, some_bits way v))

padding_only : (way : Way) (room : ℕ) → room ≤ 7 → (r : Reading) → r ≡ [] → PacketsIn (Message way) room r
padding_only way room le r e =
    let none : length (spelled r) ≡ 0 = ap (λ (t : Reading). length (spelled t)) e in
    ([], record { carried = All-nil (Carries (Message way)); reading_is = e; fills = (omega (arith, none), omega (arith, none, le)) })

-- no packet fits into it
pub padded : (way : Way) (room : ℕ) → room ≤ 7 → Same (λ r. r ≡ []) (PacketsIn (Message way) room)
padded way room le r = (padding_only way room le r, only_padding way room le r)
