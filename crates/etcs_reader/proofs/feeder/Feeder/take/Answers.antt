use Rattle.std.proofs.Common.{◌≡◌, ◌+◌, ◌*◌, ◌^◌, ◌<◌, None, length, sym, subst, refl, arith}
use Rattle.etcs_bits.proofs.Positions.{length-bits}
use Rattle.etcs_reader.proofs.feeder.Feeder.take.Goals as goal

pub push-requires-clause-small : goal.push-requires-clause-small
push-requires-clause-small g c = omega (arith, length-bits c.args.piece.now, c.requires.room)

pub overflow_add-self : goal.overflow_add-self
overflow_add-self g c =
    let room = subst (λ v. v.count + 8 * length c.args.piece.now < 2 ^ 64) (sym c.self.view_is) c.requires.room in
    record { fits = omega (arith, length-bits c.args.piece.now, room, c.in-Ok.ensures.within) }

pub overflow_add-self-in-Err-Refused : goal.overflow_add-self-in-Err-Refused
overflow_add-self-in-Err-Refused g c =
    let room = subst (λ v. v.count + 8 * length c.args.piece.now < 2 ^ 64) (sym c.self.view_is) c.requires.room in
    let within = rw c.in-Err-Refused.field-0-is at c.in-Err-Refused.ensures.within in
    record { fits = omega (arith, length-bits c.args.piece.now, room, within) }

pub overflow_add-self-in-Err-Memory : goal.overflow_add-self-in-Err-Memory
overflow_add-self-in-Err-Memory g c =
    let room = subst (λ v. v.count + 8 * length c.args.piece.now < 2 ^ 64) (sym c.self.view_is) c.requires.room in
    let within = rw c.in-Err-Memory.field-0-is at c.in-Err-Memory.ensures.within in
    record { fits = omega (arith, length-bits c.args.piece.now, room, within) }

pub returns-in-Ok : goal.returns-in-Ok
returns-in-Ok g c =
    let going = subst (λ v. v.stop ≡ None) (sym c.self.view_is) c.requires.going in
    rw (← c.self.view_is) (λ s b f. (going, refl, c.in-Ok.ensures.ok s b f))

pub returns-in-Err-Refused : goal.returns-in-Err-Refused
returns-in-Err-Refused g c =
    let h = rw c.in-Err-Refused.field-0-is at c.in-Err-Refused.ensures.err in
    rw (← c.self.view_is) (λ s b f. (refl, refl, c.in-Err-Refused.at, refl, h s b f))

pub returns-in-Err-Memory : goal.returns-in-Err-Memory
returns-in-Err-Memory g c =
    let h = rw c.in-Err-Memory.field-0-is at c.in-Err-Memory.ensures.err in
    rw (← c.self.view_is) (λ s b f. (refl, c.in-Err-Memory.at, refl, h s b f))
