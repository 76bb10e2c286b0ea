use Rattle.std.proofs.Common.{◌∙◌, ◌++◌, Bool, List, [], take, subst}
use Rattle.std.proofs.lemmas.List.{append-nil}
use Rattle.etcs_bits.specs.Bits.{bits}
use Rattle.etcs_reader.specs.Readers.{Passed}
use Rattle.etcs_reader.specs.Feeders.{FeederValue, Feeds}
use Rattle.etcs_reader.proofs.Leaping.{all_by}
use Rattle.etcs_reader.proofs.feeder.Feeder.after.Goals as goal

pub returns : goal.returns
returns g c s l =
    let R = g.R.Rest in
    let xs = bits c.args.piece.now in
    let new = c.new-feeder in
    let f : Passed (λ p. R.follows s p c.args.rest) ([] ++ take c.args.at xs) [] = record { whole = l.whole; follows = l.follows; bits = append-nil _ ∙ l.bits } in
    let is = all_by new.result c.args.rest new.ensures.rest new.ensures.part new.ensures.count new.ensures.stop in
    subst (λ (v : FeederValue g.row.R.Denot). (t : g.row.R.Denot) (b : List Bool) → Passed (λ p. R.follows t p v.rest) (b ++ take c.args.at xs) v.part → Feeds g.row.R.Denot R.left R.next R.follows R.fails (record v { rest = t; part = b }) xs c.take-fed.result c.take-fed.new.self) is c.take-fed.ensures s [] f
