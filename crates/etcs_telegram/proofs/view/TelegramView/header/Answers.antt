use Rattle.std.proofs.Common.{◌≡◌, sym, ap, subst, ◌∙◌}
use Rattle.etcs_bits.specs.Bits.{bits}
use Rattle.etcs_telegram.specs.Telegrams.{TelegramValue}
use Rattle.etcs_telegram.specs.Views.{ViewValue, Sees}
use Rattle.etcs_telegram.proofs.Viewing.{seen_one}
use Rattle.etcs_telegram.proofs.view.TelegramView.header.Goals as goal

pub returns : goal.returns
returns c =
    let v = c.self.inside in
    let i = c.self.invariant in
    subst (λ (w : ViewValue). (t : TelegramValue) → Sees w t → v.header ≡ t.header) c.self.view_is
    (λ t (r, reads, b). sym (ap (λ (u : TelegramValue). u.header) (seen_one v.size (bits v.bytes.now) v.header v.packets v.end i t r reads b) ∙ i.header_is))
