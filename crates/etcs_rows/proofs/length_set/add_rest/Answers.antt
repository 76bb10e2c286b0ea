use Rattle.std.proofs.Common.{arith, refl, subst, ◌≡◌, ℕ, ◌+◌, ◌-◌, ◌/◌}
use Rattle.etcs_rows.specs.Sets.{TakesIn}
use Rattle.etcs_rows.proofs.Raised.{takes_none, takes_more, takes_word}
use Rattle.etcs_rows.proofs.length_set.add_rest.Goals as goal

pub loop-i-init : goal.loop-i-init
loop-i-init c = takes_none c.args.by c.args.words.now c.args.at c.args.at c.args.sums.now refl

pub loop-i-preserved : goal.loop-i-preserved
loop-i-preserved c =
    let by = c.args.by in let words = c.args.words.now in let i = c.loop-i.i in
    takes_more by words c.args.at i (i + 1) c.args.sums.now c.loop-i.sums _ (omega arith) (omega arith) c.loop-i.invariant (takes_word by words i (i - by / 64 - 1) c.loop-i.sums (omega arith) (omega arith))

pub returns : goal.returns
returns c =
    let last : c.loop-i.i ≡ 128 = omega arith in
    let P : ℕ → Type 0 = λ n. TakesIn c.args.by c.args.words.now c.args.at n c.args.sums.now c.loop-i.sums in subst P last c.loop-i.invariant
