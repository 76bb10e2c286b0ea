use Rattle.std.proofs.Common.{◌≡◌, ◌+◌, ◌*◌, ◌<◌, ℕ, get_or, arith}
use Rattle.std.specs.Int.{bit_at}
use Rattle.etcs_rows.specs.Sets.{Has}
use Rattle.etcs_rows.proofs.SetLemmas.{zeroes}
use Rattle.etcs_rows.proofs.Additions.{adds_none, adds_more, adds_same, adds_to_none, word_parts, all_words}
use Rattle.etcs_rows.proofs.length_set.sums_of.Goals as goal

pub loop-i-init : goal.loop-i-init
loop-i-init c = adds_none (λ j. Has c.args.few.now j × (j < 0)) c.args.many.now (zeroes 128) (λ j (h, l). omega (arith, l))

pub loop-i-preserved : goal.loop-i-preserved
loop-i-preserved c =
    let few = c.args.few.now in let i = c.loop-i.i in
    adds_more (λ j. Has few j × (j < i * 64)) (λ j. (k : ℕ) × (bit_at (get_or few i 0) k ≡ 1) × (i * 64 + k ≡ j)) (λ j. Has few j × (j < (i + 1) * 64)) c.args.many.now (zeroes 128) c.loop-i.sums c.add_each.new.sums
    (word_parts few i (c.fits-few i)) c.loop-i.invariant c.add_each.ensures

pub returns : goal.returns
returns c =
    let few = c.args.few.now in let many = c.args.many.now in let i = c.loop-i.i in
    adds_to_none (Has few) many c.loop-i.sums (adds_same (λ j. Has few j × (j < i * 64)) (Has few) many (zeroes 128) c.loop-i.sums (all_words few i (omega arith) (omega arith)) c.loop-i.invariant)
