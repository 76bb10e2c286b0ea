use Rattle.std.proofs.Common.{◌∙◌, ◌≡◌, List, ℕ, ap, false, subst, sym, take}
use Rattle.std.specs.Prelude.{IfOk}
use Rattle.etcs_log.specs.Candidates.{contains, telegram_bytes, where_asked, whole_bytes}
use Rattle.etcs_log.specs.Reports.{IsCountOf}
use Rattle.etcs_log.proofs.Answering.{whole_bits, whole_plain}
use Rattle.etcs_log.proofs.others.find_whole.Goals as goal

pub returns-then-are_bits : goal.returns-then-are_bits
returns-then-are_bits c text =
    let kind = c.args.kind in
    let bytes = c.args.bytes.now in
    let first = ap (λ (k : ℕ). take k c.packed-packed.result) c.telegram_bytes.ensures.value ∙ ap (take (telegram_bytes kind)) c.packed-packed.ensures in
    let these = first ∙ sym (whole_bits kind bytes (sym c.are_bits.ensures ∙ c.if-are_bits.true)) in
    rw c.contains.ensures at (subst (λ (z : List ℕ). IfOk c.find.result (IsCountOf (where_asked c.contains.result kind false text z))) these (c.find.ensures false text))

pub returns : goal.returns
returns c text =
    let kind = c.args.kind in
    let bytes = c.args.bytes.now in
    let these = sym (whole_plain kind bytes (sym c.are_bits.ensures ∙ c.if-are_bits.false)) in
    rw c.contains-2.ensures at (subst (λ (z : List ℕ). IfOk c.find-2.result (IsCountOf (where_asked c.contains-2.result kind false text z))) these (c.find-2.ensures false text))
