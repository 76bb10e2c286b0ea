use Rattle.std.proofs.Common.{◌≡◌, ℕ, ◌-◌, ◌*◌, ◌%◌, ◌^◌, ◌<◌, ◌≤◌, arith, pow_pos}
use Rattle.std.proofs.Math.Nat.{mod-eq_of_lt}
use Rattle.std.proofs.Math.Pow.{pow_mono}
use Rattle.etcs_rows.proofs.FrameLemmas.{quotient_is, quotient_small}
use Rattle.etcs_rows.proofs.frames.ends.Goals as goal

-- no bit is shifted out
whole : (width bits rest : ℕ) → width ≤ 13 → rest ≤ width → bits < 2 ^ (width - rest) → (bits * 2 ^ rest % 18446744073709551616 ≡ bits * 2 ^ rest) × (1 * 2 ^ rest % 18446744073709551616 ≡ 2 ^ rest)
whole width bits rest small le fits =
    let all = quotient_small width bits rest le fits in
    let most : 2 ^ width ≤ 2 ^ 13 = pow_mono small in
    let part : 2 ^ rest ≤ 2 ^ width = pow_mono le in
    let pos : 0 < 2 ^ rest = pow_pos rest in
    let one : 1 * 2 ^ rest ≡ 2 ^ rest = omega arith in
    (mod-eq_of_lt (omega arith), rw one (mod-eq_of_lt (omega arith)))

pub returns-clause-small : goal.returns-clause-small
returns-clause-small c =
    let all = quotient_small c.args.width c.args.bits c.args.rest c.requires.rest c.requires.fits in
    let same = whole c.args.width c.args.bits c.args.rest c.requires.width c.requires.rest c.requires.fits in
    rw (same.0, same.1) all

pub returns-clause-all : goal.returns-clause-all
returns-clause-all c =
    let same = whole c.args.width c.args.bits c.args.rest c.requires.width c.requires.rest c.requires.fits in
    simp (same.0, same.1) (quotient_is c.args.bits c.args.rest)
