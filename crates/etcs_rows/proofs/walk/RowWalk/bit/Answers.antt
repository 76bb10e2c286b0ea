use Rattle.std.proofs.Common.{Err, sym, arith, refl, subst}
use Rattle.etcs_bits.proofs.Positions.{bit-le}
use Rattle.etcs_vars.proofs.Prefixes.{width-le}
use Rattle.etcs_vars.specs.declared.var.Var.{Var}
use Rattle.etcs_rows.specs.declared.walk.Stopped.TheVariants.{Refused}
use Rattle.etcs_rows.specs.Walks.{WalkValue, TakesBit}
use Rattle.etcs_rows.proofs.WalkSteps.{Kept, walk, first_of, part_long, none_before, number_room, more_step, number_step, whole_step, refused_again}
use Rattle.etcs_rows.proofs.walk.RowWalk.bit.Goals as goal
use Rattle.etcs_rows.proofs.walk.RowWalk.bit.Goals.{in-Ok, in-Ok-2+in-Some-var, in-Ok-2+in-None, in-Err-Refused}

pub bit-requires-clause-room : goal.bit-requires-clause-room
bit-requires-clause-room c =
    let x = c.in-Some.var in
    let first = first_of c.self.inside.feeder c.args.self.now x c.self.view_is c.in-Some.ensures.next in
    omega (arith, c.self.invariant.small, c.self.invariant.inside x first, width-le x)

pub overflow_add-taken : goal.overflow_add-taken
overflow_add-taken c =
    let v = c.self.inside.feeder in let x = c.in-Some.var in
    let first = first_of v c.args.self.now x c.self.view_is c.in-Some.ensures.next in
    let room = number_room v x c.unfinished-bits.result.0 c.unfinished-bits.result.1 c.self.invariant first c.unfinished-bits.ensures.bits c.unfinished-bits.ensures.fits in
    record { fits = omega (arith, room.0, width-le x) }

pub overflow_mul-number : goal.overflow_mul-number
overflow_mul-number c =
    let v = c.self.inside.feeder in let x = c.in-Some.var in
    let first = first_of v c.args.self.now x c.self.view_is c.in-Some.ensures.next in
    let room = number_room v x c.unfinished-bits.result.0 c.unfinished-bits.result.1 c.self.invariant first c.unfinished-bits.ensures.bits c.unfinished-bits.ensures.fits in
    record { fits = omega (arith, room.1) }

pub overflow_add-number : goal.overflow_add-number
overflow_add-number c =
    let v = c.self.inside.feeder in let x = c.in-Some.var in
    let first = first_of v c.args.self.now x c.self.view_is c.in-Some.ensures.next in
    let room = number_room v x c.unfinished-bits.result.0 c.unfinished-bits.result.1 c.self.invariant first c.unfinished-bits.ensures.bits c.unfinished-bits.ensures.fits in
    record { fits = omega (arith, room.1, c.digit.ensures, bit-le c.args.b) }

-- what a bit does, by what the feeder answers
answered : (c : goal.Joined-bit) → Kept c.bit.new.self × TakesBit (walk c.self.inside.feeder) c.args.b c.match-bit.result (walk c.bit.new.self)
answered c =
    let old = c.self.inside.feeder in let new = c.bit.new.self in let x = c.in-Some.var in let kept = c.self.invariant in
    let first = first_of old c.args.self.now x c.self.view_is c.in-Some.ensures.next in
    let part = c.unfinished-bits.ensures in
    let bits = c.unfinished-bits.result.0 in let taken = c.unfinished-bits.result.1 in
    let long = part_long old.part bits taken part.bits in
    elim c.match-bit.branch [
      | in-Ok w ↦
          let none = none_before old new w.in-Ok.field-0 w.in-Ok.ensures.stopped in
          rw w.result-is (more_step old new c.args.b x first kept none (w.in-Ok.ensures.going none) (omega (arith, long, w.width.ensures, w.if-taken-width.true)))
      | in-Ok-2+in-Some-var w ↦
          let none = none_before old new w.in-Ok.field-0 w.in-Ok.ensures.stopped in
          let h = w.in-Ok.ensures.going none in
          let y = w.in-Some-var.field-0 in let then = w.in-Some-var.ensures in
          rw w.result-is (number_step old new c.args.b x first kept none h bits taken c.digit.result part.bits part.fits c.digit.ensures (omega (arith, long, w.width.ensures, w.if-taken-width.false)) y (sym then.next) (then.short h.0) (then.holds h.0))
      | in-Ok-2+in-None w ↦
          let none = none_before old new w.in-Ok.field-0 w.in-Ok.ensures.stopped in
          let h = w.in-Ok.ensures.going none in
          let then = w.in-None.ensures in
          rw w.result-is (whole_step old new c.args.b x first kept none h bits taken c.digit.result part.bits part.fits c.digit.ensures (omega (arith, long, w.width.ensures, w.if-taken-width.false)) (sym then.next) (then.ended h.0 refl).1)
      | in-Err-Refused w ↦
          let r = w.in-Err-Refused in
          let again = refused_again old new c.args.b x first kept r.field-0 r.field-0-0 r.var r.field-0-is r.ensures.going r.ensures.stopped in
          rw w.result-is (subst (λ (y : Var). Kept new × TakesBit (walk old) c.args.b (Err (Refused y)) (walk new)) (sym r.var-is) again)
    ]

pub invariant_of-self : goal.invariant_of-self
invariant_of-self c = (answered c).0

pub returns : goal.returns
returns c = subst (λ (w : WalkValue). TakesBit w c.args.b c.match-bit.result (walk c.bit.new.self)) c.self.view_is (answered c).1
