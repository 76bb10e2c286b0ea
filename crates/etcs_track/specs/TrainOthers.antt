-- Packets to the track that are kept as bits (SUBSET-026, 7.4).
use Rattle.std.specs.Prelude.{ℕ, Bool, List}
pub use Rattle.etcs_track.specs.declared.train_other.TrainOther.TheInside.{Inside as TrainOther}

-- the kept packet of this number and these bits
abbrev pub train_other_value : ℕ → List Bool → TrainOther
train_other_value nid body = record { nid = nid; body = body }
