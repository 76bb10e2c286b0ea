use Rattle.std.proofs.Common.{◌≡◌, List, [], ◌∷◌, ◌++◌, Bool, subst, ◌∙◌, arith}
use Rattle.std.specs.Prelude.{◌==◌}
use Rattle.std.proofs.Math.Logic.{∥∥₁_map}
use Rattle.std.proofs.lemmas.Result.{on_ok_weaker}
use Rattle.etcs_bits.specs.Bits.{bits, part}
use Rattle.etcs_bits.proofs.Positions.{length-bits}
use Rattle.etcs_bits.proofs.Lists.{length-part}
use Rattle.etcs_sequence.proofs.PacketLemmas.{one_sent, none_sent}
use Rattle.etcs_sequence.proofs.packets.absorb.Goals as goal
use Rattle.etcs_sequence.proofs.packets.absorb.Goals.{then-number-eq1, else-number-eq1}

pub bits_at-requires : goal.bits_at-requires
bits_at-requires g c = omega (arith, length-bits (c.if-number-eq1.byte ∷ []))

pub bits-requires : goal.bits-requires
bits-requires g c =
    let byte = c.if-number-eq1.byte ∷ [] in
    let one = length-part 7 1 (bits byte) (omega (arith, length-bits byte)) in
    ∥∥₁_map (c.requires c.in-Bit.is) (λ (vs, (f, (k, (held, small)))). (vs, (f, (k, (held, rw (c.bits_at.ensures, one) (omega (arith, small)))))))

pub returns-after-number-eq1-clause-ok : goal.returns-after-number-eq1-clause-ok
returns-after-number-eq1-clause-ok g c =
    let sent : part 7 1 (bits (c.if-number-eq1.byte ∷ [])) ≡ (c.args.number == 1) ∷ [] = elim c.if-number-eq1.branch [ then-number-eq1 w ↦ one_sent _ _ w.if-number-eq1.true w.byte-is | else-number-eq1 w ↦ none_sent _ _ w.if-number-eq1.false w.byte-is ] in
    let same = c.bits_at.ensures ∙ sent in
    on_ok_weaker c.bits.result (λ ok vs f k held. rw c.in-Bit.is (subst (λ (t : List Bool). g.S.PacketSink.holds c.bits.new.self vs f (k ++ t)) same (ok vs f k held))) c.bits.ensures.ok
