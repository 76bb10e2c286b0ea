use Rattle.std.proofs.Common.{◌≡◌, refl, subst, min, arith}
use Rattle.std.specs.Prelude.{◌-◌, ◌/◌, ◌*◌, ◌≤◌, length, take}
use Rattle.std.proofs.lemmas.List.{length-take-le}
use Rattle.etcs_bits.specs.Bits.{bits}
use Rattle.etcs_bits.proofs.Positions.{length-bits}
use Rattle.etcs_reader.specs.Feeders.{all_of}
use Rattle.etcs_sequence.specs.Progress.{Feeds}
use Rattle.etcs_sequence.proofs.Feeding.{first_at, none_seen, Answer, answers_fed, progress}
use Rattle.etcs_sequence.proofs.ItemLemmas.{leaps_in}
use Rattle.etcs_sequence.proofs.item.feed_after.Given.{Over}
use Rattle.etcs_sequence.proofs.item.feed_after.Goals as goal
use Rattle.etcs_sequence.proofs.item.feed_after.Goals.{After-fed-answer}

pub after-feeder-requires-clause-goes : goal.after-feeder-requires-clause-goes
after-feeder-requires-clause-goes g c = c.requires.part.4.goes

pub after-feeder-requires-clause-inside : goal.after-feeder-requires-clause-inside
after-feeder-requires-clause-inside g c =
    let piece = c.args.piece.now in
    let most = c.min-most.result in
    omega (arith, c.min-most.ensures, c.most.ensures, c.requires.part.0, c.requires.part.4.inside, length-bits piece, length-bits (take most piece), length-take-le most piece (omega (arith, c.min-most.ensures)))

pub after-feeder-requires-clause-room : goal.after-feeder-requires-clause-room
after-feeder-requires-clause-room g c =
    let piece = c.args.piece.now in
    let most = c.min-most.result in
    let w = c.requires.readable in
    omega (arith, c.min-most.ensures, c.most.ensures, w.room, length-take-le most piece (omega (arith, c.min-most.ensures)))

answered : (g : Over) (c : After-fed-answer g) → Answer c.requires.readable (all_of c.requires.part.1) c.after-feeder.result.0 c.args.piece.now c.fed-answer.result
answered g c =
    let w = c.requires.readable in
    let piece = c.args.piece.now in
    let taken = c.min-most.result in
    let most = g.R.ItemRest.most c.args.size in
    let (le, start, same, held, leap) = c.requires.part in
    let old = all_of start in
    let at = first_at w old refl refl refl same held in
    let e : taken ≡ min (most - 0 / 8) (length piece) = omega (arith, c.min-most.ensures, c.most.ensures) in
    let within : taken ≤ length piece = omega (arith, c.min-most.ensures) in
    let bytes : c.args.at ≤ 8 * taken = omega (arith, c.min-most.ensures, c.most.ensures, le, leap.inside, length-bits piece) in
    let going = c.after-feeder.ensures start (leaps_in (g.R.Rest.left c.args.rest) (λ p. g.R.Rest.follows start p c.args.rest) piece taken c.args.at within bytes leap) in
    answers_fed w old c.after-feeder.result.0 piece taken at e c.after-feeder.result.1 c.fed-answer.result going c.fed-answer.ensures

pub returns-clause-item : goal.returns-clause-item
returns-clause-item g c = record { readable = c.requires.readable; is = (answered g (goal.at.returns-clause-item g c).After-fed-answer).is }

pub returns-clause-answer : goal.returns-clause-answer
returns-clause-answer g c =
    let w = c.requires.readable in
    let I = g.R.ItemRest in
    let (le, start, same, held, leap) = c.requires.part in
    let first = none_seen w (all_of start) refl refl refl same held in
    subst (λ b. Feeds (I.Reads c.args.size) I.value I.IsValue I.least b (bits c.args.piece.now) c.fed-answer.result (progress w c.after-feeder.result.0)) first (answered g (goal.at.returns-clause-answer g c).After-fed-answer).fed
