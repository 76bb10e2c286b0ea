use Rattle.std.proofs.Common.{inl}
use Rattle.etcs_bits.specs.Bits.{bits}
use Rattle.etcs_text.specs.Entries.{EntryReads}
use Rattle.etcs_text.specs.Pairs.{PairsRead}
use Rattle.etcs_c.proofs.Readings.{bits_along, pairs_same}
use Rattle.etcs_c.proofs.etcs_check.Goals as goal

pub returns-in-Some : goal.returns-in-Some
returns-in-Some c =
    let k = c.in-Some.kind in
    inl (k, c.in-Some.ensures.some, bits_along (EntryReads k) (PairsRead k) (pairs_same k) (bits c.args.bytes.now) _ _ _ c.check.result c.check.new.answer c.check.ensures)
