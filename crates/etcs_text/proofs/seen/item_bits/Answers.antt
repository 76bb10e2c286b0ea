use Rattle.etcs_telegram.specs.declared.size.Size.TheVariants.{Long, Short}
use Rattle.etcs_text.proofs.SeenItems.{telegram_bits, either_bits}
use Rattle.etcs_text.proofs.seen.item_bits.Goals as goal

pub returns-in-Long : goal.returns-in-Long
returns-in-Long c = λ e b is. telegram_bits Long b _ e (rw c.in-Long.is at is)

pub returns-in-Short : goal.returns-in-Short
returns-in-Short c = λ e b is. telegram_bits Short b _ e (rw c.in-Short.is at is)

pub returns-in-Radio : goal.returns-in-Radio
returns-in-Radio c = λ e b is. either_bits c.args.kind b _ e c.in-Radio.is is
