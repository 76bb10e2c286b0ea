use Rattle.std.proofs.Common.{◌≡◌, refl, ap, ◌∙◌, min, arith}
use Rattle.std.specs.Prelude.{ℕ, ◌-◌, ◌/◌, length}
use Rattle.std.proofs.lemmas.List.{length-take-le}
use Rattle.etcs_sequence.proofs.Feeding.{at_of, bytes_wanted, Answer, answers_fed, answers, progress}
use Rattle.etcs_sequence.proofs.item.feed_next.Given.{Over}
use Rattle.etcs_sequence.proofs.item.feed_next.Goals as goal
use Rattle.etcs_sequence.proofs.item.feed_next.Goals.{After-fed}

pub overflow_sub-wanted : goal.overflow_sub-wanted
overflow_sub-wanted g c =
    let w = c.requires.item.readable in
    let v = c.args.feeder.now in
    rw (c.count.ensures, c.most.ensures) (bytes_wanted w v (at_of w v c.requires.stop c.requires.item.is))

pub feed-answer-requires : goal.feed-answer-requires
feed-answer-requires g c =
    let w = c.requires.item.readable in
    let v = c.args.feeder.now in
    let at = at_of w v c.requires.stop c.requires.item.is in
    let most = c.most.ensures in
    let count = c.count.ensures in
    let fed = c.min-most.ensures in
    let all = length-take-le c.min-most.result c.args.piece.now (omega (arith, fed)) in
    omega (arith, bytes_wanted w v at, at.bytes, w.room, most, count, fed, all)

answered : (g : Over) (c : After-fed g) → Answer c.requires.item.readable c.args.feeder.now c.feed-answer.new.self c.args.piece.now c.fed.result
answered g c =
    let w = c.requires.item.readable in
    let most = g.R.ItemRest.most c.args.size in
    let old = c.args.feeder.now in
    let piece = c.args.piece.now in
    let at = at_of w old c.requires.stop c.requires.item.is in
    let e : c.min-most.result ≡ min (most - old.count / 8) (length piece) =
    c.min-most.ensures ∙ ap (λ (n : ℕ). min (n - c.count.result / 8) (length piece)) c.most.ensures ∙ ap (λ (n : ℕ). min (most - n / 8) (length piece)) c.count.ensures in
    answers_fed w old c.feed-answer.new.self piece c.min-most.result at e c.feed-answer.result c.fed.result (c.feed-answer.ensures.going c.requires.stop) c.fed.ensures

pub returns-clause-item : goal.returns-clause-item
returns-clause-item g c = record { readable = c.requires.item.readable; is = (answered g (goal.at.returns-clause-item g c).After-fed).is }

pub returns-clause-answer : goal.returns-clause-answer
returns-clause-answer g c seen is =
    let w = c.requires.item.readable in
    let old = c.args.feeder.now in
    answers w old c.feed-answer.new.self c.args.piece.now c.fed.result (progress w old) c.requires.stop c.requires.next (answered g (goal.at.returns-clause-answer g c).After-fed) refl seen is
