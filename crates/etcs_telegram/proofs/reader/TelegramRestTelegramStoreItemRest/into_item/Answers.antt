use Rattle.etcs_telegram.proofs.Finished.{finished_is}
use Rattle.etcs_telegram.proofs.reader.TelegramRestTelegramStoreItemRest.into_item.Goals as goal

pub header_by-requires : goal.header_by-requires
header_by-requires c =
    let f = finished_is c.args._size c.args.self c.requires.ended c.requires.whole c.requires.holds in
    rw c.as_slice.ensures.value (rw (← c.self.view_is) at f.numbers)

pub invariant_of-result : goal.invariant_of-result
invariant_of-result c =
    let f = finished_is c.args._size c.args.self c.requires.ended c.requires.whole c.requires.holds in
    rw (c.header_by.ensures, c.as_slice.ensures.value, c.from_vec.ensures) (rw (← c.self.view_is) at f.telegram)
