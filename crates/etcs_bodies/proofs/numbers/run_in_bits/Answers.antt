use Rattle.std.proofs.Common.{◌+◌, Option, Some, None, drop, sym, ap, subst, ◌∙◌}
use Rattle.std.specs.Prelude.{IfNone}
use Rattle.std.proofs.lemmas.Option.{IfSome_then}
use Rattle.etcs_bits.specs.Bits.{number_at}
use Rattle.etcs_bodies.specs.Taking.{in_bits}
use Rattle.etcs_bodies.specs.Sources.{bits_left}
use Rattle.etcs_bodies.specs.laws.Runs.{none_past}
use Rattle.etcs_bodies.proofs.Splits.{word_lies}
use Rattle.etcs_bodies.proofs.numbers.run_in_bits.Goals as goal

pub returns-in_err-word-clause-none : goal.returns-in_err-word-clause-none
returns-in_err-word-clause-none g c =
    let w = g.W.Walk.walk c.args.walk.now in
    let r = c.args.run in
    rw c.from_residual.ensures (none_past (g.R.Run.Takes r) (g.R.Run.Lacks r) (g.R.Run.bits r) w.bits w.place (g.R.Run.either r w.bits w.place) (ap (λ j. number_at w.place j w.bits) (sym c.width.ensures) ∙ sym c.take.ensures.number ∙ c.in_err-word.was))

pub returns-clause-some : goal.returns-clause-some
returns-clause-some g c =
    let w = g.W.Walk.walk c.args.walk.now in
    let r = c.args.run in
    let lies = word_lies c.in_ok-word.word (g.R.Run.bits r) w.bits w.place (ap (λ j. number_at w.place j w.bits) (sym c.width.ensures) ∙ sym c.take.ensures.number ∙ c.in_ok-word.was) in
    let end = ap (λ j. in_bits (drop (w.place + j) w.bits)) (sym c.width.ensures) ∙ sym (ap bits_left c.in_ok-word.ensures.moved) in
    IfSome_then c.split.result c.split.ensures.some (λ ns h. subst (g.R.Run.Takes r (bits_left w) ns) end (h w.bits w.place lies))

none_then : {X : Type 0} (o : Option X) {P Q : Type 0} → IfNone o P → (P → Q) → IfNone o Q
none_then None h f = f h
none_then (Some x) h f = h

pub returns-clause-none : goal.returns-clause-none
returns-clause-none g c =
    let w = g.W.Walk.walk c.args.walk.now in
    let r = c.args.run in
    let lies = word_lies c.in_ok-word.word (g.R.Run.bits r) w.bits w.place (ap (λ j. number_at w.place j w.bits) (sym c.width.ensures) ∙ sym c.take.ensures.number ∙ c.in_ok-word.was) in
    none_then c.split.result c.split.ensures.none (λ h. h w.bits w.place lies)
