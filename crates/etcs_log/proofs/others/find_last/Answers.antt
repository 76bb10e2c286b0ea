use Rattle.std.proofs.Common.{◌∙◌, ℕ, ap, arith, drop, length, refl, true, ◌-◌}
use Rattle.etcs_log.proofs.Another.{last_count}
use Rattle.etcs_log.proofs.Answering.{slice_is}
use Rattle.etcs_log.proofs.others.find_last.Goals as goal

pub returns : goal.returns
returns c text =
    let bytes = c.args.bytes.now in
    let count = c.telegram_bytes-count.ensures.value in
    last_count c.find.result c.args.kinds c.args.kind text bytes _ c.contains.result c.contains.ensures (omega (arith, count)) (slice_is bytes _ _ c.telegram_bytes-count.result refl refl ∙ ap (λ (k : ℕ). drop (length bytes - k) bytes) count) (c.find.ensures true text)
