use Rattle.std.proofs.Common.{◌≡◌, ℕ, ◌-◌, ◌<◌, ◌^◌, ap, subst, arith}
use Rattle.etcs_vars.specs.declared.var.Var.TheVariants.{NID_PACKET, L_PACKET}
use Rattle.etcs_vars.specs.Vars.{width}
use Rattle.etcs_rows.specs.declared.here.Here.TheVariants.{Any, PacketNumber, PacketLength, Row}
use Rattle.etcs_rows.proofs.CauseLemmas.{claims_by}
use Rattle.etcs_rows.proofs.here.Here.cause.Goals as goal

pub returns-in-Any : goal.returns-in-Any
returns-in-Any c = rw (c.in-Any.is, c.cause_by.ensures) (claims_by Any c.args.var c.args.rest c.args.bits c.one_admitted.result c.one_admitted.ensures)

pub returns-in-MessageLength : goal.returns-in-MessageLength
returns-in-MessageLength c = rw c.in-MessageLength.is (rw c.in-MessageLength.is at c.requires.none)

pub one_number-requires-clause-rest : goal.one_number-requires-clause-rest
one_number-requires-clause-rest c =
    let same : c.args.var ≡ NID_PACKET = rw c.in-PacketNumber.is at c.requires.at in
    let wide : width c.args.var ≡ 8 = ap width same in
    omega (arith, c.requires.rest, wide)

pub one_number-requires-clause-fits : goal.one_number-requires-clause-fits
one_number-requires-clause-fits c =
    let same : c.args.var ≡ NID_PACKET = rw c.in-PacketNumber.is at c.requires.at in
    let wide : width c.args.var ≡ 8 = ap width same in
    subst (λ (k : ℕ). c.args.bits < 2 ^ (k - c.args.rest)) wide c.requires.fits

pub returns-in-PacketNumber : goal.returns-in-PacketNumber
returns-in-PacketNumber c = rw (c.in-PacketNumber.is, c.cause_by-in-PacketNumber.ensures) (claims_by (PacketNumber c.in-PacketNumber.carrier c.in-PacketNumber.field-1) c.args.var c.args.rest c.args.bits c.one_number.result c.one_number.ensures)

pub one_length-requires-clause-rest : goal.one_length-requires-clause-rest
one_length-requires-clause-rest c =
    let same : c.args.var ≡ L_PACKET = rw c.in-PacketLength.is at c.requires.at in
    let wide : width c.args.var ≡ 13 = ap width same in
    omega (arith, c.requires.rest, wide)

pub one_length-requires-clause-fits : goal.one_length-requires-clause-fits
one_length-requires-clause-fits c =
    let same : c.args.var ≡ L_PACKET = rw c.in-PacketLength.is at c.requires.at in
    let wide : width c.args.var ≡ 13 = ap width same in
    subst (λ (k : ℕ). c.args.bits < 2 ^ (k - c.args.rest)) wide c.requires.fits

pub returns-in-PacketLength : goal.returns-in-PacketLength
returns-in-PacketLength c = rw (c.in-PacketLength.is, c.cause_by-in-PacketLength.ensures) (claims_by (PacketLength c.in-PacketLength.carrier c.in-PacketLength.nid c.in-PacketLength.field-2) c.args.var c.args.rest c.args.bits c.one_length.result c.one_length.ensures)

pub returns-in-Row : goal.returns-in-Row
returns-in-Row c = rw (c.in-Row.is, c.cause_by-in-Row.ensures) (claims_by (Row c.in-Row.field-0 c.in-Row.field-1 c.in-Row.field-2) c.args.var c.args.rest c.args.bits c.one_admitted-in-Row.result c.one_admitted-in-Row.ensures)
