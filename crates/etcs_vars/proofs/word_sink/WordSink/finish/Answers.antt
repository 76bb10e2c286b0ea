use Rattle.std.proofs.Common.{◌∙◌, subst, sym, arith}
use Rattle.etcs_vars.specs.WordSinks.{IsWritten}
use Rattle.etcs_vars.proofs.WordSinks.{none_written, last_written}
use Rattle.etcs_vars.proofs.word_sink.WordSink.finish.Goals.{then-at-bytes, else-at-bytes}
use Rattle.etcs_vars.proofs.word_sink.WordSink.finish.Goals as goal

pub returns : goal.returns
returns c =
    let s = c.args.self in
    elim c.if-at-bytes.branch [
      | then-at-bytes w ↦ last_written s c.if-at-bytes.bytes w.number.result w.min-count.result w.if-at-bytes.true w.min-count.ensures (omega arith) w.number.ensures.bits w.number.ensures.few (w.bytes-is ∙ w.write_front.ensures)
      | else-at-bytes w ↦ subst (IsWritten s) (sym w.bytes-is) (none_written s (omega (arith, w.if-at-bytes.false)))
    ]
