use Rattle.std.proofs.Common.{ℕ, List, ◌∷◌, ap, ◌∙◌}
use Rattle.etcs_bodies.specs.Taking.{named_as}
use Rattle.etcs_json_trees.specs.PairTexts.{pair_text}
use Rattle.etcs_json_trees.proofs.Parts.{pair_taken}
use Rattle.etcs_json_trees.proofs.PairReading.{no_pair}
use Rattle.etcs_json_trees.proofs.written.pair_text.PairText.number.Goals as goal

pub returns-in_err-number-clause-none : goal.returns-in_err-number-clause-none
returns-in_err-number-clause-none c =
    let self = c.args.self.now in
    rw c.from_residual-in_err-number.ensures (no_pair c.args.var self.after c.in_ok-next.next.now self.left.now c.in_ok-next.ensures.cases.same c.in_err-number.ensures.none)

pub returns-clause-some : goal.returns-clause-some
returns-clause-some c =
    let left = c.args.self.now.left.now in
    let first = c.in_ok-next.ensures.cases in
    let pair = c.in_ok-number.ensures in
    ap (λ (x : ℕ). x ∷ left) c.if-self-ne44.false
    ∙ ap (λ (z : List ℕ). 44 ∷ z) (pair_taken (pair_text (named_as (c.args.var, c.in_ok-number.number))) c.in_ok-next.next.now left c.in_ok-number.len first.same pair.inside first.enough pair.some)
