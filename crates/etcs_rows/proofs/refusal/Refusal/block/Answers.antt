use Rattle.std.proofs.Common.{◌+◌, ◌-◌, ◌*◌, ◌%◌, ◌^◌, ap, ◌∙◌, arith}
use Rattle.etcs_vars.specs.Vars.{width}
use Rattle.etcs_vars.proofs.Prefixes.{width-le}
use Rattle.etcs_rows.specs.Words.{low_of, high_of}
use Rattle.etcs_rows.proofs.RowWalkLemmas.{may_room}
use Rattle.etcs_rows.proofs.refusal.Refusal.block.Goals as goal

pub overflow_add-high : goal.overflow_add-high
overflow_add-high c =
    let r = c.args.self.now in
    let wide = width-le r.var in
    let room = may_room c.width.result r.count r.bits r.some (rw c.width.ensures r.short) (rw c.width.ensures wide) r.fits in
    let a = room.0 in let b = room.1 in let d = room.2 in
    record { fits = omega (arith, a, b, d) }

pub returns-clause-low : goal.returns-clause-low
unfolding low_of
returns-clause-low c =
    let r = c.args.self.now in
    ap (λ w. r.bits * 2 ^ (w - r.count) % 2 ^ 64) c.width.ensures ∙ (may_room (width r.var) r.count r.bits r.some r.short (width-le r.var) r.fits).0

pub returns-clause-high : goal.returns-clause-high
unfolding low_of high_of
returns-clause-high c =
    let r = c.args.self.now in
    let k = width r.var - r.count in
    let room = may_room (width r.var) r.count r.bits r.some r.short (width-le r.var) r.fits in
    ap (λ w. r.bits * 2 ^ (w - r.count) % 2 ^ 64 + (1 * 2 ^ (w - r.count) % 2 ^ 64 - 1)) c.width.ensures
    ∙ ap (λ y. y + (1 * 2 ^ k % 2 ^ 64 - 1)) room.0 ∙ ap (λ y. r.bits * 2 ^ k + (y - 1)) room.1
