use Rattle.std.proofs.Common.{◌∙◌, List, ℕ, length, ap, arith}
use Rattle.etcs_packet_text.proofs.Places.{first_long, later_long, pair_first}
use Rattle.etcs_packet_text.proofs.page.fronts.pair_front.Goals as goal

pub returns-then-later-clause-front : goal.returns-then-later-clause-front
returns-then-later-clause-front c =
    c.first_front.ensures.front
    ∙ pair_first c.args.later c.args.var _ c.padded_pair-padded.result.now _ c.padded_pair-padded.ensures (omega (arith, later_long c.args.later c.args.var c.if-later.true, ap (λ (t : List ℕ). length t) c.name.ensures))

pub returns-clause-front : goal.returns-clause-front
returns-clause-front c =
    c.first_front-2.ensures.front
    ∙ pair_first c.args.later c.args.var _ c.padded_pair-padded.result.now _ c.padded_pair-padded.ensures (omega (arith, first_long c.args.later c.args.var c.if-later.false, ap (λ (t : List ℕ). length t) c.name.ensures))
