use Rattle.std.proofs.Common.{◌≡◌, ℕ, ◌+◌, ◌-◌, take, drop, ap, ◌∙◌, arith}
use Rattle.etcs_json_trees.proofs.HexTexts.{quoted_parts, quoted_whole}
use Rattle.etcs_json_trees.proofs.written.pair_numbers.hexadecimal_number.Goals as goal

pub returns-then-text-at-ne34-clause-none : goal.returns-then-text-at-ne34-clause-none
returns-then-text-at-ne34-clause-none c = λ n s small e.
    (let parts = quoted_parts c.args.text.now s c.args.at n e in
    omega (arith, c.if-text-at-ne34.true, parts.0))

pub returns-then-text-at-ne34-2-clause-none : goal.returns-then-text-at-ne34-2-clause-none
returns-then-text-at-ne34-2-clause-none c = λ n s small e.
    (let parts = quoted_parts c.args.text.now s c.args.at n e in
    omega (arith, c.if-text-at-ne34-2.true, parts.1))

pub returns-then-text-at-ne93-clause-none : goal.returns-then-text-at-ne93-clause-none
returns-then-text-at-ne93-clause-none c = λ n s small e.
    (let parts = quoted_parts c.args.text.now s c.args.at n e in
    omega (arith, c.if-text-at-ne93.true, parts.2))

pub returns-in_err-number-clause-none : goal.returns-in_err-number-clause-none
returns-in_err-number-clause-none c =
    rw c.from_residual.ensures (λ n s small e.
    (let parts = quoted_parts c.args.text.now s c.args.at n e in
    let sixteen : c.args.at + 17 - (c.args.at + 1) ≡ 16 = omega arith in
    c.in_err-number.ensures.none n (ap (λ (k : ℕ). take k (drop (c.args.at + 1) c.args.text.now)) sixteen ∙ parts.3)))

pub returns-clause-some : goal.returns-clause-some
returns-clause-some c =
    let sixteen : 16 ≡ c.args.at + 17 - (c.args.at + 1) = omega arith in
    quoted_whole c.args.text.now c.args.at c.in_ok-number.number (omega arith) c.if-text-at-ne34.false c.if-text-at-ne34-2.false c.if-text-at-ne93.false
    (ap (λ (k : ℕ). take k (drop (c.args.at + 1) c.args.text.now)) sixteen ∙ c.in_ok-number.ensures.some.1)
