use Rattle.std.proofs.Common.{◌≡◌, ◌-◌, ◌+◌, ◌<◌, bit_and, arith}
use Rattle.std.specs.Int.{trailing_zeros, w64}
use Rattle.etcs_rows.proofs.Flags.{Passed, passed_none, passed_more, passed_all, still_part}
use Rattle.etcs_rows.proofs.Additions.{adds_none, adds_more, adds_same}
use Rattle.etcs_rows.proofs.length_set.add_each.Goals as goal

pub loop-left-init : goal.loop-left-init
loop-left-init c = record {
  passed = adds_none (Passed c.args.word c.args.word c.args.base) c.args.words.now c.args.sums.now (passed_none c.args.word c.args.base);
  part = λ i h. h;
}

pub loop-left-preserved : goal.loop-left-preserved
loop-left-preserved c =
    let word = c.args.word in let left = c.loop-left.left in let base = c.args.base in
    let pos : 0 < left = omega arith in
    let fit = c.loop-left.auto.left-fits.fits in record {
      passed = adds_more (Passed word left base) (λ j. j ≡ base + trailing_zeros w64 left) (Passed word (bit_and left (left - 1)) base) c.args.words.now c.args.sums.now c.loop-left.sums c.add_shifted.new.sums
          (passed_more word left base pos fit c.loop-left.invariant.part) c.loop-left.invariant.passed c.add_shifted.ensures;
      part = still_part word left pos fit c.loop-left.invariant.part;
    }

pub returns : goal.returns
returns c = adds_same (Passed c.args.word c.loop-left.left c.args.base) _ c.args.words.now c.args.sums.now c.loop-left.sums (passed_all c.args.word c.loop-left.left c.args.base c.loop-left-test.false) c.loop-left.invariant.passed
