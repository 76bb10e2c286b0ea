use Rattle.std.proofs.Common.{◌≡◌, ◌+◌, ◌*◌, ℕ, refl, subst, arith}
use Rattle.etcs_bits.specs.Bits.{bits}
use Rattle.etcs_vars.specs.Reading.{IsOutcome, done}
use Rattle.etcs_text.specs.Entries.{EntryReads}
use Rattle.etcs_text.specs.Readers.{finished}
use Rattle.etcs_reasons.proofs.first.fed.Goals as goal

pub returns-in-Some : goal.returns-in-Some
returns-in-Some c =
    let (e, outcome, encoded) = c.in-Some.ensures.item in
    let n = c.in-Some.taken in
    let from : 8 * n ≡ 0 + 8 * n = omega arith in
    (finished e, (e, refl, tt, outcome.0, subst (λ (k : ℕ). IsOutcome (EntryReads c.args.kind) (bits c.args.bytes.now) (done e k)) from outcome))
