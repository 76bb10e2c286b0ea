use Rattle.std.proofs.Common.{w64}
use Rattle.std.proofs.lemmas.Nat.{le_bytes_8}
use Rattle.etcs_json_trees.proofs.Eight.{same_number}
use Rattle.etcs_json_trees.proofs.written.fronts.is_same_word.Goals as goal

pub returns : goal.returns
returns c =
    same_number w64 c.args.first.now c.args.second.now _ _ c.from_le_bytes.ensures c.from_le_bytes-2.ensures
    (le_bytes_8 _ _ c.told-first c.fits-first c.from_le_bytes.ensures) (le_bytes_8 _ _ c.told-second c.fits-second c.from_le_bytes-2.ensures)
