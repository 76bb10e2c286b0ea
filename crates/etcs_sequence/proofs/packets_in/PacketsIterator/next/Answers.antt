use Rattle.std.proofs.Common.{rules, ◌≡◌, ◌-◌, ◌<◌, List, ◌∷◌, length, Bool, sym, ap, subst, ◌∙◌, arith}
use Rattle.etcs_sequence.specs.Refs.{IsPacketBits, ArePackets, refs}
use Rattle.etcs_sequence.proofs.Splits.{packets_ahead, packets_first, packets_after, cut_first, cut_after, refs_cut}
use Rattle.etcs_sequence.proofs.packets_in.PacketsIterator.next.Goals as goal

pub len_ahead-len-requires : goal.len_ahead-len-requires
len_ahead-len-requires c = packets_ahead c.self.inside.left c.self.inside.rest (omega (arith, c.if-self-eq0.false)) c.self.invariant

pub new-packet-requires : goal.new-packet-requires
new-packet-requires c =
    let b = c.self.inside.rest in
    let first = cut_first b c.cut_in.result c.len_ahead-len.result c.cut_in.ensures c.len_ahead-len.ensures.len in
    subst IsPacketBits (sym first) (packets_first c.self.inside.left b (omega (arith, c.if-self-eq0.false)) c.self.invariant)

pub invariant_of-self : goal.invariant_of-self
invariant_of-self c =
    let b = c.self.inside.rest in
    let n = c.self.inside.left in
    let rest = cut_after b c.cut_in-self-inside.result c.len_ahead-len.result c.len.result c.cut_in-self-inside.ensures c.len_ahead-len.ensures.len c.len.ensures in
    subst (ArePackets (n - 1)) (sym rest) (packets_after n b (omega (arith, c.if-self-eq0.false)) c.self.invariant)

pub returns-clause-steps : goal.returns-clause-steps
returns-clause-steps c =
    let b = c.self.inside.rest in
    let first = cut_first b c.cut_in.result c.len_ahead-len.result c.cut_in.ensures c.len_ahead-len.ensures.len in
    let rest = cut_after b c.cut_in-self-inside.result c.len_ahead-len.result c.len.result c.cut_in-self-inside.ensures c.len_ahead-len.ensures.len c.len.ensures in
    sym c.self.view_is ∙ refs_cut c.self.inside.left b c.new-packet.result c.cut_in-self-inside.result (omega (arith, c.if-self-eq0.false)) (c.new-packet.ensures ∙ first) rest

pub returns-clause-goes : goal.returns-clause-goes
returns-clause-goes c =
    let b = c.self.inside.rest in
    let left = refs (c.self.inside.left - 1) c.cut_in-self-inside.result in
    let first = cut_first b c.cut_in.result c.len_ahead-len.result c.cut_in.ensures c.len_ahead-len.ensures.len in
    let rest = cut_after b c.cut_in-self-inside.result c.len_ahead-len.result c.len.result c.cut_in-self-inside.ensures c.len_ahead-len.ensures.len c.len.ensures in
    let step : c.args.self.now ≡ c.new-packet.result ∷ left = sym c.self.view_is ∙ refs_cut c.self.inside.left b c.new-packet.result c.cut_in-self-inside.result (omega (arith, c.if-self-eq0.false)) (c.new-packet.ensures ∙ first) rest in
    let less : length left < length c.args.self.now = omega (arith, ap (λ (x : List (List Bool)). length x) step) in
    search (rules, less)
