use Rattle.std.proofs.Common.{◌+◌, ◌%◌, ◌^◌, ◌≤◌, arith}
use Rattle.std.proofs.Math.Nat.{mod-lt}
use Rattle.std.proofs.lemmas.Nat.{pow_pos}
use Rattle.etcs_vars.proofs.LowestBits.{num-low}
use Rattle.etcs_vars.proofs.Joins.{at_place, join_first, join_next, join_word}
use Rattle.etcs_vars.proofs.joining.joined.Goals as goal

pub loop-count-init : goal.loop-count-init
loop-count-init c = join_first c.args.sent.now c.width-width.result c.lowest-number.result c.requires c.width-width.ensures c.lowest-number.ensures.fits c.lowest-number.ensures.bits

pub loop-count-preserved : goal.loop-count-preserved
loop-count-preserved c =
    let l = c.loop-count in
    let sent = c.args.sent.now in
    let more = c.width-more.result in
    let n = (at_place sent l.count).1 in
    let word : l.width + more ≤ 57 = (let t = c.if-width-more-gt-WORD.false in omega (arith, t)) in
    rw (join_word l.width more l.number n l.invariant.fits word)
    (join_next sent l.count l.width l.number more (n % 2 ^ more) l.invariant c.loop-count-test.true c.width-more.ensures (omega (arith, word)) (mod-lt n (pow_pos more)) (num-low more n))
