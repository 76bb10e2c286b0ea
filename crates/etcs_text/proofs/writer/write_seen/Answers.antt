use Rattle.std.proofs.Common.{◌≤◌, length, take, arith}
use Rattle.std.proofs.lemmas.List.{length-take}
use Rattle.etcs_bits.proofs.Positions.{length-bits}
use Rattle.etcs_text.proofs.WrittenItems.{begins_long, spelled_outcome}
use Rattle.etcs_text.proofs.writer.write_seen.Goals as goal

pub back-requires : goal.back-requires
back-requires g c =
    let len = g.met.W.Page.PacketPage.ends_len c.args.page.now c.place-place.result c.place-place.ensures in
    omega (arith, len, begins_long _ _ c.item_at.ensures.begins)

pub back-requires-in-Err : goal.back-requires-in-Err
back-requires-in-Err g c =
    let len = g.met.W.Page.PacketPage.ends_len c.args.page.now c.place-place.result c.place-place.ensures in
    omega (arith, len, begins_long _ _ c.item_at.ensures.begins)

pub returns-in-Ok-None-clause-none : goal.returns-in-Ok-None-clause-none
returns-in-Ok-None-clause-none g c = λ _. c.back.ensures c.args.page.now c.place-place.ensures c.item_at.ensures.begins

pub returns-in-Err-clause-err : goal.returns-in-Err-clause-err
returns-in-Err-clause-err g c = c.back-in-Err.ensures c.args.page.now c.place-place.ensures c.item_at.ensures.begins

pub returns-in-Ok-Some-clause-some : goal.returns-in-Ok-Some-clause-some
returns-in-Ok-Some-clause-some g c =
    let bytes = c.args.bytes.now in
    let m = c.min.result in
    let n = c.in-Ok-Some.count in
    let (within, e, r, reads, spells, text) = rw c.in-Ok-Some.field-0-is at c.in-Ok-Some.ensures.some in
    let inside : m ≤ length bytes = omega (arith, c.min.ensures) in
    let short : n ≤ m = omega (arith, within, length-take m bytes) in
    (omega (arith, inside, short), e, spelled_outcome c.args.kind bytes m n e inside short (r, reads, spells), text)

pub item_at-requires : goal.item_at-requires
item_at-requires g c = omega (arith, length-bits (take c.min.result c.args.bytes.now), length-take c.min.result c.args.bytes.now, c.min.ensures)
