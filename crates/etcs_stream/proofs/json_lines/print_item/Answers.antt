use Rattle.std.proofs.Common.{◌/◌, ℕ, ap}
use Rattle.etcs_stream.proofs.LineItems.{of_bits}
use Rattle.etcs_stream.proofs.json_lines.print_item.Goals as goal

pub print_line-requires-clause-short : goal.print_line-requires-clause-short
print_line-requires-clause-short c =
    let (e, r, reads, line, is) = c.requires.item in
    let h = of_bits c.args.job.kind e r c.args.item.now c.bytes-bytes.result.now (c.len-count.result / 8) reads is c.bytes-bytes.ensures.within c.bytes-bytes.ensures.first (ap (λ (n : ℕ). n / 8) c.len-count.ensures) c.are_bytes.ensures in
    h.short

pub print_line-requires-clause-within : goal.print_line-requires-clause-within
print_line-requires-clause-within c =
    let (e, r, reads, line, is) = c.requires.item in
    let h = of_bits c.args.job.kind e r c.args.item.now c.bytes-bytes.result.now (c.len-count.result / 8) reads is c.bytes-bytes.ensures.within c.bytes-bytes.ensures.first (ap (λ (n : ℕ). n / 8) c.len-count.ensures) c.are_bytes.ensures in
    h.within

pub returns-clause-ok : goal.returns-clause-ok
returns-clause-ok c e r reads line is =
    let h = of_bits c.args.job.kind e r c.args.item.now c.bytes-bytes.result.now (c.len-count.result / 8) reads is c.bytes-bytes.ensures.within c.bytes-bytes.ensures.first (ap (λ (n : ℕ). n / 8) c.len-count.ensures) c.are_bytes.ensures in
    c.print_line.ensures.ok e h.outcome h.encoded line
