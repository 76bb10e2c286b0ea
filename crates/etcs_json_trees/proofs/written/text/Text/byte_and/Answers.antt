use Rattle.std.proofs.Common.{sym, ◌∙◌, arith}
use Rattle.etcs_json_trees.proofs.Parts.{byte_taken}
use Rattle.etcs_json_trees.proofs.written.text.Text.byte_and.Goals as goal

pub returns : goal.returns
returns c =
    let first = c.in_ok-next.ensures.cases in
    sym c.self.view_is
    ∙ byte_taken c.in_ok-number.number c.args.end c.in_ok-number.count c.in_ok-next.next.now c.self.inside.left.now first.same (omega (arith, c.in_ok-number.ensures.place)) first.enough c.in_ok-number.ensures.some
