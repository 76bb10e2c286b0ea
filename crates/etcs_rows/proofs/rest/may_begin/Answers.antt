use Rattle.std.proofs.Common.{◌≡◌, ◌+◌, ◌-◌, ◌*◌, ◌%◌, ◌^◌, sym, ap, ◌∙◌, arith, subst}
use Rattle.std.specs.Prelude.{◌↔◌, IsTrue}
use Rattle.etcs_vars.specs.Vars.{width}
use Rattle.etcs_vars.proofs.Prefixes.{width-le}
use Rattle.etcs_rows.specs.Lengths.{FitsWithin}
use Rattle.etcs_rows.proofs.RowWalkLemmas.{may_room, begun_between, free_whole}
use Rattle.etcs_rows.proofs.SumLemmas.{free_fits}
use Rattle.etcs_rows.proofs.rest.may_begin.Goals as goal

pub returns-then-taken-width : goal.returns-then-taken-width
returns-then-taken-width c =
    let v = c.args.var in
    let all = free_whole c.args.place.now v 0 (2 ^ width v - 1) c.args.bits (width v - c.args.taken) c.args.len c.requires.next (c.is_free.ensures c.if-is_free.true) c.requires.reaches (omega (arith, c.if-taken-width.true, c.width.ensures)) in
    (λ h. all.0 (sym c.admits.ensures ∙ h), λ f. c.admits.ensures ∙ all.1 f)

pub returns-else-taken-width : goal.returns-else-taken-width
returns-else-taken-width c =
    let v = c.args.var in let k = width v - c.args.taken in
    let between = begun_between v c.args.taken c.args.bits c.requires.taken c.requires.small in
    let free = free_fits c.args.place.now v 0 (2 ^ width v - 1) (c.args.bits * 2 ^ k) (c.args.bits * 2 ^ k + (2 ^ k - 1)) c.args.len c.requires.next (c.is_free.ensures c.if-is_free.true) c.requires.reaches in
    (λ h. free.0 (between.0 (c.admits_prefix.ensures.0 h)), λ f. c.admits_prefix.ensures.1 (between.1 (free.1 f)))

pub overflow_add-high : goal.overflow_add-high
overflow_add-high c =
    let wide = width-le c.args.var in
    let room = may_room c.width-2.result c.args.taken c.args.bits c.requires.some (rw c.width-2.ensures c.requires.taken) (rw c.width-2.ensures wide) c.requires.small in
    let a = room.0 in let b = room.1 in let d = room.2 in
    record { fits = omega (arith, a, b, d) }

pub returns : goal.returns
returns c =
    let room = may_room (width c.args.var) c.args.taken c.args.bits c.requires.some c.requires.taken (width-le c.args.var) c.requires.small in
    let k = width c.args.var - c.args.taken in
    let low : c.args.bits * 2 ^ (c.width-2.result - c.args.taken) % 2 ^ 64 ≡ c.args.bits * 2 ^ k = ap (λ w. c.args.bits * 2 ^ (w - c.args.taken) % 2 ^ 64) c.width-2.ensures ∙ room.0 in
    let high : c.args.bits * 2 ^ (c.width-2.result - c.args.taken) % 2 ^ 64 + (1 * 2 ^ (c.width-2.result - c.args.taken) % 2 ^ 64 - 1) ≡ c.args.bits * 2 ^ k + (2 ^ k - 1) =
    ap (λ y. y + (1 * 2 ^ (c.width-2.result - c.args.taken) % 2 ^ 64 - 1)) low ∙ ap (λ w. c.args.bits * 2 ^ k + (1 * 2 ^ (w - c.args.taken) % 2 ^ 64 - 1)) c.width-2.ensures ∙ ap (λ y. c.args.bits * 2 ^ k + (y - 1)) room.1 in
    subst (λ y. IsTrue c.fits.result ↔ FitsWithin c.args.place.now (c.args.bits * 2 ^ k) y c.args.len) high
    (subst (λ y. IsTrue c.fits.result ↔ FitsWithin c.args.place.now y (c.args.bits * 2 ^ (c.width-2.result - c.args.taken) % 2 ^ 64 + (1 * 2 ^ (c.width-2.result - c.args.taken) % 2 ^ 64 - 1)) c.args.len) low c.fits.ensures)
