use Rattle.std.proofs.lemmas.Option.{IfSome_then}
use Rattle.etcs_json_trees.proofs.Parts.{after_part}
use Rattle.etcs_json_trees.proofs.written.text.Text.before.Goals as goal

pub returns : goal.returns
returns g c =
    rw (← c.self.view_is) (IfSome_then c.pass.result c.pass.ensures (λ u e. after_part c.self.inside.left.now c.in_ok-left.left.now c.args.member.now c.pass.new.self c.in_ok-count.count c.in_ok-left.ensures.cases.2 e))
