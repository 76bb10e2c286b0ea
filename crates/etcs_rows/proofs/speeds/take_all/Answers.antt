use Rattle.std.proofs.Common.{◌≡◌, ℕ, ◌+◌, ◌*◌, List, ◌++◌, refl, ap, ◌∙◌, arith, append_assoc}
use Rattle.etcs_bits.specs.Bits.{bits}
use Rattle.etcs_rows.proofs.EntryLemmas.{all_more, all_whole}
use Rattle.etcs_rows.proofs.speeds.take_all.Goals as goal

pub loop-index-preserved : goal.loop-index-preserved
loop-index-preserved c =
    let t = c.take_differing.ensures.taken c.if-not-take_differing.false in
    let one_more = c.take_differing.ensures.len c.if-not-take_differing.false in
    let before = c.loop-index.invariant.taken in
    let index = c.loop-index.index in
    record {
      len = omega (arith, c.loop-index.invariant.len, one_more);
      taken = (
        before.0 ++ t.0,
        t.1 ∙ ap (λ (l : List ℕ). l ++ t.0) before.1 ∙ append_assoc c.args.numbers.now.items before.0 t.0,
        all_more c.args.count index (bits c.args.piece.now) c.args.at (c.args.at + 13 * index) before.0 t.0 c.loop-index-test.true refl before.2 (t.2 c.args.count),
      );
    }

pub returns : goal.returns
returns c = λ yes.
    let all = c.loop-index.invariant.taken in
    let index = c.loop-index.index in
    let end : index ≡ c.args.count = omega (arith, c.loop-index-test.false, c.loop-index.auto.index-end) in
    (all.0, all.1, all_whole c.args.count index (bits c.args.piece.now) c.args.at all.0 end all.2)
