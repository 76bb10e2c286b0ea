use Rattle.std.proofs.Common.{ℕ, ◌∙◌, false, ap, refl, sym, take}
use Rattle.etcs_log.specs.Candidates.{contains, telegram_bytes, whole_bytes}
use Rattle.etcs_log.proofs.Answering.{tried_asked, whole_bits}
use Rattle.etcs_log.proofs.lines.Answers.take_telegram.Goals as goal

pub returns-then-are_bits-clause-ok : goal.returns-then-are_bits-clause-ok
returns-then-are_bits-clause-ok c =
    let s = c.args.self.now in
    let kind = c.args.kind in
    let bytes = c.args.bytes.now in
    let t = c.take_item in
    let first = ap (λ (k : ℕ). take k c.packed-packed.result) c.telegram_bytes.ensures.value ∙ ap (take (telegram_bytes kind)) c.packed-packed.ensures in
    let these = first ∙ sym (whole_bits kind bytes (sym c.are_bits.ensures ∙ c.if-are_bits.true)) in
    tried_asked t.result (contains s.job.kinds kind) kind kind false c.args.run.now.text.now (whole_bytes kind bytes) _ s.job s.line s.seen t.new.self.seen c.args.text.now.items t.new.text.items (sym c.contains.ensures ∙ c.if-not-contains.false) refl these t.ensures.ok
