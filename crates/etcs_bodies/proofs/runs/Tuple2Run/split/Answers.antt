use Rattle.std.proofs.Common.{◌≡◌, ◌+◌, drop, subst, sym, arith, inl, inr}
use Rattle.etcs_bodies.specs.Taking.{in_bits}
use Rattle.etcs_bodies.specs.Runs.{LiesAt}
use Rattle.etcs_bodies.proofs.Splits.{lies_further, second_lies}
use Rattle.etcs_bodies.proofs.runs.Tuple2Run.split.Goals as goal

pub returns-in_err-first-clause-none : goal.returns-in_err-first-clause-none
returns-in_err-first-clause-none g c =
    let w = g.A.Run.bits c.args.self.0 in
    let w' = g.B.Run.bits c.args.self.1 in
    rw c.from_residual.ensures (λ b k h.
    inl (c.in_err-first.ensures.none b k (subst (λ j. LiesAt c.args.word (w + (j + c.args.beyond)) b k) (sym c.width.ensures) (lies_further c.args.word w w' c.args.beyond b k h))))

pub returns-in_err-second-clause-none : goal.returns-in_err-second-clause-none
returns-in_err-second-clause-none g c =
    let w = g.A.Run.bits c.args.self.0 in
    let w' = g.B.Run.bits c.args.self.1 in
    rw c.from_residual-in_err-second.ensures (λ b k h.
    let all = lies_further c.args.word w w' c.args.beyond b k h in
    let first = c.in_ok-first.ensures.some b k (subst (λ j. LiesAt c.args.word (w + (j + c.args.beyond)) b k) (sym c.width.ensures) all) in
    inr (c.in_ok-first.first, in_bits (drop (k + w) b), first, c.in_err-second.ensures.none b (k + w) (second_lies c.args.word w (w' + c.args.beyond) b k all)))

pub returns-clause-some : goal.returns-clause-some
returns-clause-some g c = λ b k h.
    (let w = g.A.Run.bits c.args.self.0 in
    let w' = g.B.Run.bits c.args.self.1 in
    let all = lies_further c.args.word w w' c.args.beyond b k h in
    let first = c.in_ok-first.ensures.some b k (subst (λ j. LiesAt c.args.word (w + (j + c.args.beyond)) b k) (sym c.width.ensures) all) in
    let second = c.in_ok-second.ensures.some b (k + w) (second_lies c.args.word w (w' + c.args.beyond) b k all) in
    let end : k + w + w' ≡ k + (w + w') = omega arith in
    (in_bits (drop (k + w) b), first, subst (λ j. g.B.Run.Takes c.args.self.1 (in_bits (drop (k + w) b)) c.in_ok-second.second (in_bits (drop j b))) end second))
