use Rattle.std.proofs.Common.{◌∷◌, sym, ◌∙◌, arith}
use Rattle.etcs_json_trees.proofs.PairReading.{next_is_named, not_admitted, none_named}
use Rattle.etcs_json_trees.proofs.written.pair_text.PairTextNextNumber.next.Goals as goal

pub returns-in_err-number-clause-none : goal.returns-in_err-number-clause-none
returns-in_err-number-clause-none c =
    let old = c.args.self.now in
    rw c.from_residual.ensures (none_named c.args.var (old.after ∷ old.left.now) c.in_err-number.ensures.none)

pub returns-then-not-admits-clause-none : goal.returns-then-not-admits-clause-none
returns-then-not-admits-clause-none c =
    let old = c.args.self.now in
    let new = c.number.new.self in
    let pair = c.in_ok-number.ensures in
    not_admitted c.args.var c.in_ok-number.number (new.after ∷ new.left.now) (old.after ∷ old.left.now) pair.small (omega (arith, pair.long)) pair.some (sym c.admits.ensures ∙ c.if-not-admits.true)

pub returns-clause-next : goal.returns-clause-next
returns-clause-next c =
    let old = c.args.self.now in
    let new = c.number.new.self in
    let pair = c.in_ok-number.ensures in
    next_is_named c.args.var c.in_ok-number.number (new.after ∷ new.left.now) (old.after ∷ old.left.now) pair.small (omega (arith, pair.long)) pair.some (sym c.admits.ensures ∙ c.if-not-admits.false)
