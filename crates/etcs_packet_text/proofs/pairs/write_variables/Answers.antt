use Rattle.std.proofs.Common.{◌≡◌, ◌∙◌, ◌∷◌, ◌++◌, [], false, ap}
use Rattle.etcs_vars.specs.Reading.{Reading}
use Rattle.etcs_packet_text.specs.PairSinks.{Listed, with_pairs}
use Rattle.etcs_packet_text.specs.Trees.{pair_tree}
use Rattle.etcs_packet_text.proofs.TreeTexts.{closed_err, closed_ok}
use Rattle.etcs_packet_text.proofs.pairs.write_variables.Goals as goal

pub returns-clause-ok : goal.returns-clause-ok
returns-clause-ok g c =
    let old = c.args.page.now.0 in
    let xs : Reading = g.V.Variables.reading_of c.args.variables.now in
    let is : c.send.new.out ≡ with_pairs (old ++ 91 ∷ [], false) xs = c.in_ok-send.ensures.ok ∙ ap (λ (s : Listed). with_pairs s xs) c.in_ok-open_list.ensures.ok in
    closed_ok c.put_array.result pair_tree old c.put_array.new.self.0 c.send.new.out xs is c.put_array.ensures.ok

pub returns-clause-err : goal.returns-clause-err
returns-clause-err g c =
    let old = c.args.page.now.0 in
    let xs : Reading = g.V.Variables.reading_of c.args.variables.now in
    let is : c.send.new.out ≡ with_pairs (old ++ 91 ∷ [], false) xs = c.in_ok-send.ensures.ok ∙ ap (λ (s : Listed). with_pairs s xs) c.in_ok-open_list.ensures.ok in
    closed_err c.put_array.result pair_tree old c.put_array.new.self.0 c.send.new.out xs is c.put_array.ensures.err
