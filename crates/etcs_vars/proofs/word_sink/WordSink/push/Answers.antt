use Rattle.std.proofs.Common.{◌+◌, ◌<◌, ◌≤◌, length, sym, arith}
use Rattle.etcs_bits.specs.Bits.{num}
use Rattle.etcs_vars.proofs.WordSinks.{pushed_number, pushed_none}
use Rattle.etcs_vars.proofs.word_sink.WordSink.push.Goals as goal

pub returns-then-saturating_sub-ge8 : goal.returns-then-saturating_sub-ge8
returns-then-saturating_sub-ge8 c =
    let s = c.args.self.now in
    let room : s.at + 8 ≤ length s.bytes.now = omega (arith, c.saturating_sub.ensures, c.if-saturating_sub-ge8.true) in
    pushed_number s c.args.word c.write_front.new.bytes (omega arith) room c.write_front.ensures

pub returns-else-saturating_sub-ge8 : goal.returns-else-saturating_sub-ge8
returns-else-saturating_sub-ge8 c =
    let s = c.args.self.now in
    let short : length s.bytes.now < s.at + 8 = omega (arith, c.saturating_sub.ensures, c.if-saturating_sub-ge8.false) in
    sym (pushed_none s (num 64 c.args.word) short)
