use Rattle.std.proofs.Common.{◌≤◌, [], length, take, Ok, ap, subst, arith}
use Rattle.std.proofs.lemmas.List.{length-take}
use Rattle.etcs_bits.specs.Bits.{bits}
use Rattle.etcs_bits.proofs.Positions.{length-bits}
use Rattle.etcs_vars.specs.declared.feed.Fed.TheVariants.{Done}
use Rattle.etcs_sequence.specs.Progress.{Feeds, finished}
use Rattle.etcs_sequence.proofs.ItemLemmas.{fed_whole, part_within}
use Rattle.etcs_sequence.proofs.item.ItemReader.feed_first.Goals as goal

pub whole-requires-clause-small : goal.whole-requires-clause-small
whole-requires-clause-small g c =
    let near = c.min-near.result in
    let piece = c.args.piece.now in
    omega (arith, length-bits (take near piece), length-take near piece, c.min-near.ensures)

pub whole-requires-clause-none : goal.whole-requires-clause-none
whole-requires-clause-none g c = c.self.invariant.2

pub returns-in-Some-clause-answer : goal.returns-in-Some-clause-answer
returns-in-Some-clause-answer g c =
    let I = g.R.ItemRest in
    let near = c.min-near.result in
    let piece = c.args.piece.now in
    let item = c.in-Some.item in
    let k = c.in-Some.taken in
    let fit : near ≤ length piece = omega (arith, c.min-near.ensures, c.min.ensures) in
    let e = c.in-Some.ensures in
    let (r, reads, b) = e.reads in
    let f = fed_whole c.self.invariant.0.readable piece near k item r fit e.value e.within reads b in
    subst (λ z. Feeds (I.Reads z) I.value I.IsValue I.least [] (bits piece) (Ok (Done k)) (finished item)) (ap (λ v. v.size) c.self.view_is) f.0

pub feed_part-requires-clause-part : goal.feed_part-requires-clause-part
feed_part-requires-clause-part g c =
    let I = g.R.ItemRest in
    let near = c.min-near.result in
    let piece = c.args.piece.now in
    let size = c.self.inside.size in
    let fit : near ≤ length piece = omega (arith, c.min-near.ensures, c.min.ensures) in
    part_within g.R.Rest.left g.R.Rest.follows (I.holds size) (I.Reads size) (I.most size) piece near _ fit c.whole.ensures.part
