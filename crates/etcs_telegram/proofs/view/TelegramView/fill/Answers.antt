use Rattle.std.proofs.Common.{◌≡◌, ◌-◌, sym, ap, subst, ◌∙◌, arith}
use Rattle.etcs_bits.specs.Bits.{bits, part}
use Rattle.etcs_telegram.specs.Telegrams.{TelegramValue}
use Rattle.etcs_telegram.specs.Views.{ViewValue, Sees}
use Rattle.etcs_telegram.proofs.Viewing.{seen_one, seen_end, seen_fill, seen_long}
use Rattle.etcs_telegram.proofs.view.TelegramView.fill.Goals as goal

pub overflow_sub-user_bits : goal.overflow_sub-user_bits
overflow_sub-user_bits c = let v = c.self.inside in omega (arith, c.user_bits.ensures, (seen_end v.size (bits v.bytes.now) v.header v.packets v.end c.self.invariant).0)

pub bits_at-requires : goal.bits_at-requires
bits_at-requires c =
    let v = c.self.inside in
    omega (arith, c.user_bits.ensures, (seen_end v.size (bits v.bytes.now) v.header v.packets v.end c.self.invariant).0, seen_long v.size (bits v.bytes.now) v.header v.packets v.end c.self.invariant)

pub returns : goal.returns
returns c =
    let v = c.self.inside in
    let b = bits v.bytes.now in
    let i = c.self.invariant in
    let fill = c.bits_at.ensures ∙ ap (λ n. part v.end (n - v.end) b) c.user_bits.ensures ∙ seen_fill v.size b v.header v.packets v.end i in
    subst (λ (w : ViewValue). (t : TelegramValue) → Sees w t → c.bits_at.result ≡ t.fill) c.self.view_is
    (λ t (r, reads, e). fill ∙ sym (ap (λ (u : TelegramValue). u.fill) (seen_one v.size b v.header v.packets v.end i t r reads e)))
