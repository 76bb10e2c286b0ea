-- Parts of the trees of packets.
use Rattle.std.specs.Prelude.{◌≡◌, ℕ}
use Rattle.etcs_tables.specs.declared.row.Way.{Way}
use Rattle.etcs_tables.specs.declared.row.Way.TheVariants.{ToTrain, ToTrack}

-- a packet's tree may have the direction dir: to the track, where it has no member for it, that is 0
abbrev pub SaysDirection : Way → ℕ → Type 0
SaysDirection ToTrain dir = Unit {0}
SaysDirection ToTrack dir = dir ≡ 0
