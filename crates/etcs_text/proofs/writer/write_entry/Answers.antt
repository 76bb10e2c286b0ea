use Rattle.std.proofs.Common.{arith}
use Rattle.etcs_text.proofs.WrittenItems.{begins_long}
use Rattle.etcs_text.proofs.writer.write_entry.Goals as goal

pub back-requires : goal.back-requires
back-requires g c =
    let len = g.met.W.Page.PacketPage.ends_len c.args.page.now c.place-place.result c.place-place.ensures in
    omega (arith, len, begins_long _ _ c.write_item.ensures.begins)

pub returns-in-Err-clause-err : goal.returns-in-Err-clause-err
returns-in-Err-clause-err g c = c.back.ensures c.args.page.now c.place-place.ensures c.write_item.ensures.begins
