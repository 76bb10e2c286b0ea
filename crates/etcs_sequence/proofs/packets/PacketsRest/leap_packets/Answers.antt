use Rattle.std.proofs.Common.{◌≡◌, ◌+◌, ◌-◌, ◌<◌, ℕ, Bool, List, [], ◌++◌, refl, sym, ap, subst, ◌∙◌, arith}
use Rattle.etcs_bits.specs.Bits.{bits, part}
use Rattle.etcs_bits.proofs.Lists.{part-add}
use Rattle.etcs_bits.proofs.Positions.{length-bits}
use Rattle.etcs_vars.specs.Reading.{spelled, Viable}
use Rattle.etcs_vars.specs.laws.Spellings.{spelled-append}
use Rattle.etcs_reader.proofs.Leaping.{leapt_viable}
use Rattle.etcs_sequence.proofs.Leaps.{on_err}
use Rattle.etcs_sequence.specs.Lefts.{left_of}
use Rattle.etcs_sequence.specs.laws.Leaps.{follows_none, follows_along}
use Rattle.etcs_sequence.proofs.packets.PacketsRest.leap_packets.Goals as goal
use Rattle.etcs_sequence.proofs.packets.PacketsRest.leap_packets.Goals.{then-loop-place-test+else-is_at_number, else-loop-place-test, then-loop-place-test+then-is_at_number+in_ok-count+in-None}

pub overflow_mul-end : goal.overflow_mul-end
overflow_mul-end g c = omega (arith, c.requires.small, length-bits c.args.piece.now)

pub loop-place-init : goal.loop-place-init
loop-place-init g c =
    let s = c.args.self.now in
    record {
      order = omega arith;
      within = omega (arith, c.requires.inside);
      same = λ e. refl;
      goes = λ less. absurd (omega (arith, less));
      whole = [];
      follows = follows_none s.left (g.S.PacketSink.holds s.store);
      spelling = (let none : c.args.at - c.args.at ≡ 0 = omega arith in ap (λ (k : ℕ). part c.args.at k (bits c.args.piece.now)) (sym none));
    }

pub leap_packet-requires-clause-inside : goal.leap_packet-requires-clause-inside
leap_packet-requires-clause-inside g c = omega (arith, length-bits c.args.piece.now, c.loop-place-test.true)

pub loop-place-preserved : goal.loop-place-preserved
loop-place-preserved g c =
    let l = c.loop-place in
    let i = l.invariant in
    let xs = bits c.args.piece.now in
    let new = c.leap_packet.new.self in
    let leap = rw c.in-Some.is at c.in_ok-count.ensures.some in
    let some = leap.some in
    let inside = leap.inside in
    let before = l.place - c.args.at in
    let all : c.args.at + before ≡ l.place = omega (arith, i.order) in
    let size : before + c.in-Some.count ≡ l.place + c.in-Some.count - c.args.at = omega (arith, i.order) in
    record {
      order = omega (arith, i.order);
      within = omega (arith, inside);
      same = λ e. absurd (omega (arith, e, i.order, some));
      goes = λ less. leap.goes;
      whole = i.whole ++ leap.whole;
      follows = follows_along c.args.self.now.left l.self.left new.left (g.S.PacketSink.holds c.args.self.now.store) (g.S.PacketSink.holds l.self.store) (g.S.PacketSink.holds new.store) i.whole leap.whole i.follows leap.follows;
      spelling =
          spelled-append i.whole leap.whole
          ∙ ap (λ (b : List Bool). b ++ spelled leap.whole) i.spelling
          ∙ ap (λ (b : List Bool). part c.args.at before xs ++ b) (leap.bits ∙ ap (λ (k : ℕ). part k c.in-Some.count xs) (sym all))
          ∙ sym (part-add c.args.at before c.in-Some.count xs)
          ∙ ap (λ (k : ℕ). part c.args.at k xs) size;
    }

pub returns-clause-some : goal.returns-clause-some
returns-clause-some g c =
    let i = c.loop-place.invariant in
    let less : c.args.at < c.loop-place.place = omega (arith, i.order, c.if-place-at.false) in
    let same : c.loop-place-test.self ≡ c.loop-place.self = elim c.loop-place-test.branch [
      | then-loop-place-test+else-is_at_number w ↦ w.self-is
      | else-loop-place-test w ↦ w.self-is
      | then-loop-place-test+then-is_at_number+in_ok-count+in-None w ↦ w.self-is ∙ (rw w.in-None.is at w.in_ok-count.ensures.none) refl
    ] in
    rw same record {
      some = omega (arith, less);
      inside = omega (arith, i.within, i.order);
      goes = i.goes less;
      whole = i.whole;
      follows = i.follows;
      bits = i.spelling;
    }

pub returns-then-place-at-clause-none : goal.returns-then-place-at-clause-none
returns-then-place-at-clause-none g c = λ none.
    (let same : c.loop-place-test.self ≡ c.loop-place.self = elim c.loop-place-test.branch [
      | then-loop-place-test+else-is_at_number w ↦ w.self-is
      | else-loop-place-test w ↦ w.self-is
      | then-loop-place-test+then-is_at_number+in_ok-count+in-None w ↦ w.self-is ∙ (rw w.in-None.is at w.in_ok-count.ensures.none) refl
    ] in
    same ∙ c.loop-place.invariant.same c.if-place-at.true)

pub returns-in_err-count-clause-viable : goal.returns-in_err-count-clause-viable
returns-in_err-count-clause-viable g c =
    let i = c.loop-place.invariant in
    let xs = bits c.args.piece.now in
    let old = c.args.self.now.left in
    let now = c.loop-place.self.left in
    let at : c.args.at + (c.loop-place.place - c.args.at) ≡ c.loop-place.place = omega (arith, i.order) in
    let next = subst (λ (k : ℕ). Viable (left_of now.carrier now.room now.stage) (part k 1 xs)) (sym at) c.in_err-count.ensures.viable in
    on_err c.from_residual.result (leapt_viable (left_of old.carrier old.room old.stage) (left_of now.carrier now.room now.stage) xs c.args.at (c.loop-place.place - c.args.at) i.whole i.follows.0.residual i.spelling next)
