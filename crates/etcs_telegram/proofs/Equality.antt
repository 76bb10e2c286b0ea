-- `==` of telegrams is equality of their values.
use Rattle.std.proofs.Common.{rules, ◌≡◌, refl}
use Rattle.std.specs.Bool.{Decides}
use Rattle.etcs_bodies.specs.Equality.{IsExact}
use Rattle.etcs_bodies.specs.laws.Equality.{flag_exact, list_exact, both_exact, fields_exact}
use Rattle.etcs_packets.proofs.Equality.{packet_exact}
use Rattle.etcs_telegram.specs.Telegrams.{TelegramContent}
use Rattle.etcs_telegram.specs.contracts.size.SizePartialEq.TheImpl as size
use Rattle.etcs_telegram.specs.contracts.header.HeaderPartialEq.TheImpl as header
use Rattle.etcs_telegram.specs.contracts.telegram.TelegramPartialEq.TheImpl as telegram
use Rattle.etcs_telegram.proofs.Spellings.{held}

size_exact : IsExact size.ghosts.eq
size_exact a b = search rules

header_exact : IsExact header.ghosts.eq
header_exact a b = search rules

pub telegram_exact : (a b : TelegramContent) → Decides (telegram.ghosts.eq a b) (a ≡ b)
telegram_exact =
    fields_exact (λ (t : TelegramContent). (t.size, (t.header, (t.packets, t.fill)))) (λ n. held n.0 n.1.0 n.1.1.0 n.1.1.1) (λ t. refl) (
    both_exact size_exact (both_exact header_exact (both_exact (list_exact packet_exact) (list_exact flag_exact))))
