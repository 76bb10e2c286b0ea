use Rattle.std.proofs.Common.{rules}
use Rattle.std.proofs.lemmas.Fmt.{length-decimal-le}
use Rattle.etcs_packet_text.proofs.page.Page.put_decimal.Goals as goal

pub put_decimal-self-inside-requires : goal.put_decimal-self-inside-requires
put_decimal-self-inside-requires c = search (rules, length-decimal-le 20)
