use Rattle.std.proofs.Common.{◌≡◌, ◌/◌, ◌^◌, ◌∙◌}
use Rattle.std.proofs.lemmas.Bool.{eqb-true}
use Rattle.etcs_sequence.proofs.RunLemmas.{closes_telegram}
use Rattle.etcs_sequence.proofs.run.closes.Goals as goal

pub returns-then-left-ge-CLOSING_BITS : goal.returns-then-left-ge-CLOSING_BITS
returns-then-left-ge-CLOSING_BITS c = λ xs at next within is.
    (let same : c.args.word / 2 ^ 56 ≡ 255 = eqb-true (c.args.word / 2 ^ 56) c.from.result is ∙ c.from.ensures in
    rw c.in-Telegram.is (closes_telegram c.args.left at c.args.word xs next within c.if-left-ge-CLOSING_BITS.true same))
