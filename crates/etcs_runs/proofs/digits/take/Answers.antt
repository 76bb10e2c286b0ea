use Rattle.std.proofs.Common.{◌≡◌, ◌-◌, ◌/◌, ◌∙◌, ◌++◌, true, false, length, refl, drop, Ok, sym, ap, arith}
use Rattle.std.proofs.lemmas.List.{drop-append-le, length-append, length-drop, length-take-le}
use Rattle.hex.specs.Hex.{decode_of}
use Rattle.etcs_runs.specs.Cuts.{parts_at}
use Rattle.etcs_runs.specs.Digits.{are_digits, bare, last_first}
use Rattle.etcs_runs.proofs.Decoding.{decode_of-append}
use Rattle.etcs_runs.proofs.Runs.{before_more, before_none, before_other, digits_long, last_first-last, take_more_digits}
use Rattle.etcs_runs.proofs.digits.take.Goals as goal

pub loop-before-preserved : goal.loop-before-preserved
loop-before-preserved c =
    let i = c.loop-before.invariant in
    let f = c.args.found in
    let here = c.loop-before.at in
    let old = c.loop-before.buffer in
    let taken = c.is_taken-in-Some in
    let now = taken.new.buffer in
    let half = f.size / 2 in
    let word = c.in-Some.word.now in
    let short = c.in-Some.ensures.short in
    let value = c.bare.ensures.value in
    let kept : length now ≡ here = taken.ensures.room ∙ length-take-le here old (omega (arith, i.some, i.same)) in
    let yes : taken.result ≡ true = c.if-not-is_taken.false in
    let digit : are_digits f.size (bare word) ≡ true = ap (are_digits f.size) (sym value) ∙ sym taken.ensures.good ∙ yes in
    let long : length (bare word) ≡ f.size = digits_long f.size (bare word) digit in
    let one : decode_of (bare word) ≡ Ok (drop (length now - half) now) = ap decode_of (sym value) ∙ taken.ensures.bytes yes in
    let place : here - half ≡ length now - half = omega (arith, kept) in
    let split : drop (here - half) (now ++ drop here old) ≡ drop (length now - half) now ++ drop here old = ap (λ k. drop k (now ++ drop here old)) place ∙ drop-append-le (length now - half) now (drop here old) (omega arith) in
    record {
      some = omega (arith, i.some);
      same = omega (arith, length-append now (drop here old), kept, length-drop here old, i.some, i.same);
      room = omega (arith, short.1, c.bare.ensures.short, long, ap length value, i.room);
      rest = i.rest ∙ before_more (parts_at f.cut) f.size c.loop-before.rest.now c.in-Some.before.now (bare word) (last_first (parts_at f.cut) c.in-Some.before.now) (last_first-last (parts_at f.cut) c.loop-before.rest.now c.in-Some.before.now word c.in-Some.ensures.some) digit c.in-Some.ensures.before;
      bytes = (
        bare word ++ i.bytes.0,
        decode_of-append (bare word) i.bytes.0 (drop (length now - half) now) (drop here old) one i.bytes.1 ∙ ap Ok (sym split),
        i.bytes.2 ∙ take_more_digits (parts_at f.cut) f.size c.loop-before.rest.now c.in-Some.before.now word c.in-Some.ensures.some digit i.bytes.0,
      );
    }

pub returns-then-not-is_taken-clause-rest : goal.returns-then-not-is_taken-clause-rest
returns-then-not-is_taken-clause-rest c =
    let f = c.args.found in
    let at = parts_at f.cut in
    let rest = c.loop-before.rest.now in
    let word = c.in-Some.word.now in
    let before = c.in-Some.before.now in
    let other : are_digits f.size (bare word) ≡ false = ap (are_digits f.size) (sym c.bare.ensures.value) ∙ sym c.is_taken-in-Some.ensures.good ∙ c.if-not-is_taken.true in
    λ _. sym (c.loop-before.invariant.rest ∙ before_other at f.size rest (bare word) (last_first at before) (last_first-last at rest before word c.in-Some.ensures.some) other)

pub returns-clause-rest : goal.returns-clause-rest
returns-clause-rest c =
    let f = c.args.found in
    λ _. sym (c.loop-before.invariant.rest ∙ before_none (parts_at f.cut) f.size c.loop-before.rest.now (c.in_default.ensures.none refl))
