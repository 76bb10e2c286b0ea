use Rattle.std.proofs.Common.{arith, ◌*◌, ◌+◌, bit_or, sym, ◌∙◌, refl}
use Rattle.std.proofs.lemmas.List.{take_all}
use Rattle.std.proofs.lemmas.Simd.{length-put_chunk}
use Rattle.std.specs.Simd.Lanes.{zip2, chunk}
use Rattle.etcs_rows.proofs.Blocks.{more_lanes}
use Rattle.etcs_rows.proofs.length_set.joined.Goals as goal

pub loop-block-preserved : goal.loop-block-preserved
loop-block-preserved c =
    let at = c.loop-block.block * 4 in (
      rw (c.join_lanes.ensures) (omega (arith, length-put_chunk at c.loop-block.out (zip2 bit_or (chunk at 4 c.args.a.now) (chunk at 4 c.args.b.now)))),
      rw (c.join_lanes.ensures) (more_lanes bit_or _ _ _ at ((c.loop-block.block + 1) * 4) (omega arith) (omega arith) (omega arith) (omega arith) c.loop-block.invariant.1),
    )

pub returns : goal.returns
returns c =
    let at = c.loop-block.block * 4 in
    sym (take_all at c.loop-block.out (omega arith)) ∙ c.loop-block.invariant.1 ∙ rw (take_all at c.args.a.now (omega arith), take_all at c.args.b.now (omega arith)) refl
