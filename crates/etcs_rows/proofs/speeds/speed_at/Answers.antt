use Rattle.std.proofs.Common.{◌≡◌, ℕ, ◌+◌, ◌*◌, ◌/◌, ◌%◌, ◌^◌, ◌≤◌, List, ◌∷◌, ◌++◌, length, refl, sym, ap, subst, ◌∙◌, arith}
use Rattle.etcs_bits.specs.Bits.{bits}
use Rattle.etcs_bits.proofs.Positions.{length-bits}
use Rattle.etcs_rows.specs.Entries.{speed, ListIn}
use Rattle.etcs_rows.proofs.EntryLemmas.{speed_in, four_pushed}
use Rattle.etcs_rows.proofs.speeds.speed_at.Goals as goal

pub overflow_mul-room : goal.overflow_mul-room
overflow_mul-room c = omega (arith, c.requires.small, length-bits c.args.piece.now)

pub overflow_sub-room : goal.overflow_sub-room
overflow_sub-room c = omega (arith, c.requires.inside, length-bits c.args.piece.now)

pub overflow_add-at : goal.overflow_add-at
overflow_add-at c = omega (arith, c.requires.small, c.requires.inside, c.if-room-lt-SPEED_BITS.false, length-bits c.args.piece.now)

pub take_all-requires-clause-inside : goal.take_all-requires-clause-inside
take_all-requires-clause-inside c = omega (arith, c.requires.inside, c.if-len-room.false, length-bits c.args.piece.now)

pub returns-then-take_all-clause-taken : goal.returns-then-take_all-clause-taken
returns-then-take_all-clause-taken c =
    let w = c.next_bits-word.result in
    let d = w / 2 ^ 49 in
    let v = w / 2 ^ 42 % 2 ^ 7 in
    let q = w / 2 ^ 41 % 2 ^ 1 in
    let k = w / 2 ^ 36 % 2 ^ 5 in
    let xs = bits c.args.piece.now in
    let t = c.take_all.ensures c.if-take_all.true in
    let first = four_pushed c.args.numbers.now.items c.push.new.self.items c.push-2.new.self.items c.push-3.new.self.items c.push-4.new.self.items d v q k c.requires.none c.push.ensures.items c.push-2.ensures.items c.push-3.ensures.items c.push-4.ensures.items in
    let all : c.take_all.new.numbers.items ≡ d ∷ v ∷ q ∷ k ∷ t.0 = t.1 ∙ ap (λ (l : List ℕ). l ++ t.0) first in
    let within : c.args.at + 28 ≤ length xs = omega (arith, c.requires.inside, c.if-room-lt-SPEED_BITS.false, length-bits c.args.piece.now) in
    λ n. subst (λ (f : List ℕ). ListIn speed n xs c.args.at (28 + 13 * k) f) (sym all)
    (speed_in w d v q k n xs c.args.at t.0 c.next_bits-word.ensures within refl refl refl refl
    (sym c.admits.ensures ∙ c.if-not-admits.false) (sym c.admits-else-not-admits.ensures ∙ c.if-not-admits-2.false)
    (sym c.admits-2.ensures ∙ c.if-not-admits-3.false) (sym c.admits-else-not-admits-3.ensures ∙ c.if-not-admits-4.false) t.2)
