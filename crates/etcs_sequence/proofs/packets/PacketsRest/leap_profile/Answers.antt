use Rattle.std.proofs.Common.{◌≡◌, refl}
use Rattle.etcs_sequence.proofs.Leaps.{on_err}
use Rattle.etcs_sequence.proofs.packets.PacketsRest.leap_profile.Goals as goal

pub leap_row-requires-clause-row : goal.leap_row-requires-clause-row
leap_row-requires-clause-row g c =
    let same : c.leap_entries.new.self ≡ c.args.self.now = (rw c.in-None.is at c.in_ok-taken.ensures.none) refl in
    rw same c.requires.row

pub leap_row-requires-clause-goes : goal.leap_row-requires-clause-goes
leap_row-requires-clause-goes g c =
    let same : c.leap_entries.new.self ≡ c.args.self.now = (rw c.in-None.is at c.in_ok-taken.ensures.none) refl in
    rw same c.requires.goes

pub returns-in-None-clause-none : goal.returns-in-None-clause-none
returns-in-None-clause-none g c =
    let same : c.leap_entries.new.self ≡ c.args.self.now = (rw c.in-None.is at c.in_ok-taken.ensures.none) refl in
    rw same at c.leap_row.ensures.none

pub returns-in-None-clause-some : goal.returns-in-None-clause-some
returns-in-None-clause-some g c =
    let same : c.leap_entries.new.self ≡ c.args.self.now = (rw c.in-None.is at c.in_ok-taken.ensures.none) refl in
    rw same at c.leap_row.ensures.some

pub returns-in-None-clause-err : goal.returns-in-None-clause-err
returns-in-None-clause-err g c =
    let same : c.leap_entries.new.self ≡ c.args.self.now = (rw c.in-None.is at c.in_ok-taken.ensures.none) refl in
    rw same at c.leap_row.ensures.err

pub returns-in-None-clause-viable : goal.returns-in-None-clause-viable
returns-in-None-clause-viable g c =
    let same : c.leap_entries.new.self ≡ c.args.self.now = (rw c.in-None.is at c.in_ok-taken.ensures.none) refl in
    rw same at c.leap_row.ensures.viable

pub returns-in_err-taken-clause-viable : goal.returns-in_err-taken-clause-viable
returns-in_err-taken-clause-viable g c = on_err c.from_residual.result c.in_err-taken.ensures.viable
