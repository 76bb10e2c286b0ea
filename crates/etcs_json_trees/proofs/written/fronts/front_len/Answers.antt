use Rattle.std.proofs.Common.{ℕ, List, ◌+◌, length, ap}
use Rattle.std.proofs.lemmas.Bool.{both_ways}
use Rattle.etcs_vars.specs.Vars.{name}
use Rattle.etcs_json_trees.proofs.Parts.{front_few, front_seen, front_there}
use Rattle.etcs_json_trees.proofs.written.fronts.front_len.Goals as goal

pub returns-then-not-begin_alike-clause-none : goal.returns-then-not-begin_alike-clause-none
returns-then-not-begin_alike-clause-none c = λ s e.
    (let long = ap (λ (t : List ℕ). length t + 4) c.name.ensures in
    both_ways _ c.if-not-begin_alike.true (c.begin_alike.ensures.1 (front_seen (name c.args.var) c.args.text.now c.padded_front.result.now _ c.first_32.result.now c.first_32-2.result.now s (length c.name.result.now + 4) c.padded_front.ensures long (front_few c.args.var _ long) c.first_32.ensures c.first_32-2.ensures e)))

pub returns-clause-some : goal.returns-clause-some
returns-clause-some c =
    let long = ap (λ (t : List ℕ). length t + 4) c.name.ensures in
    front_there (name c.args.var) c.args.text.now c.padded_front.result.now _ c.first_32.result.now c.first_32-2.result.now (length c.name.result.now + 4) c.padded_front.ensures long (front_few c.args.var _ long) c.first_32.ensures c.first_32-2.ensures (c.begin_alike.ensures.0 c.if-not-begin_alike.false)
