use Rattle.std.proofs.Common.{rules}
use Rattle.std.proofs.lemmas.Fmt.{length-decimal-le}
use Rattle.etcs_packet_text.proofs.page.place.put_around.Goals as goal

pub put_decimal-end-requires : goal.put_decimal-end-requires
put_decimal-end-requires c = search (rules, length-decimal-le 20)

pub put_array-requires : goal.put_array-requires
put_array-requires c = search (rules, length-decimal-le 20)

pub returns-clause-most : goal.returns-clause-most
returns-clause-most c = search (rules, length-decimal-le 20)
