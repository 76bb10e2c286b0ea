use Rattle.std.proofs.Common.{◌≡◌, ℕ, ◌<◌, length, get_or, arith}
use Rattle.etcs_json_trees.proofs.Eight.{eight_digits, eight_small}
use Rattle.etcs_json_trees.proofs.written.digits.byte_of.Goals as goal

pub returns : goal.returns
returns c =
    let eight = c.args.eight.now in
    let long : length eight ≡ 8 = omega arith in
    let small : (k : ℕ) → get_or eight k 0 < 256 = λ k. omega (arith, c.fits-eight k) in
    (eight_small c.from_le_bytes-word.result, eight_digits eight c.from_le_bytes-word.result long small c.from_le_bytes-word.ensures c.if-word-ne3472328296227680304.false)
