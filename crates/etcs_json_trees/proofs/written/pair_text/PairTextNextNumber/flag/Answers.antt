use Rattle.std.proofs.Common.{◌∷◌, arith}
use Rattle.etcs_json_trees.proofs.PairReading.{flag_is_named, flag_too_large, no_flag_named}
use Rattle.etcs_json_trees.proofs.written.pair_text.PairTextNextNumber.flag.Goals as goal

pub returns-in_err-number-clause-none : goal.returns-in_err-number-clause-none
returns-in_err-number-clause-none c =
    let old = c.args.self.now in
    rw c.from_residual.ensures (no_flag_named c.args.var (old.after ∷ old.left.now) c.in_err-number.ensures.none)

pub returns-then-number-gt1-clause-none : goal.returns-then-number-gt1-clause-none
returns-then-number-gt1-clause-none c =
    let old = c.args.self.now in
    let new = c.number.new.self in
    let pair = c.in_ok-number.ensures in
    flag_too_large c.args.var c.in_ok-number.number (new.after ∷ new.left.now) (old.after ∷ old.left.now) pair.small (omega (arith, pair.long)) pair.some c.if-number-gt1.true

pub returns-clause-next : goal.returns-clause-next
returns-clause-next c =
    let old = c.args.self.now in
    let new = c.number.new.self in
    let pair = c.in_ok-number.ensures in
    flag_is_named c.args.var c.in_ok-number.number (new.after ∷ new.left.now) (old.after ∷ old.left.now) pair.small (omega (arith, pair.long)) pair.some c.if-number-gt1.false
