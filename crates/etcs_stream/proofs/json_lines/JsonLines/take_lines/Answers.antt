use Rattle.std.proofs.Common.{◌∙◌, ◌-◌, length, take, drop, refl, arith}
use Rattle.etcs_runs.proofs.LineTexts.{lines_few}
use Rattle.etcs_runs.proofs.Several.{none_of}
use Rattle.etcs_stream.specs.Stands.{JsonTook}
use Rattle.etcs_stream.specs.Taking.{TakesFirst}
use Rattle.etcs_stream.proofs.LineItems.{first_few, next_lines}
use Rattle.etcs_stream.proofs.json_lines.JsonLines.take_lines.Goals as goal

pub loop-at-init : goal.loop-at-init
loop-at-init c =
    let s = c.args.self.now in
    record {
      job_is = refl;
      few = c.requires.reported;
      taken = none_of (JsonTook s.job s.printer) c.args.rest.now c.args.whole c.args.page.now;
    }

pub loop-at-preserved : goal.loop-at-preserved
loop-at-preserved c =
    let before = c.loop-at.invariant in
    let s = c.args.self.now in
    let rest = c.args.rest.now in
    let first : TakesFirst c.loop-at.self.job (take (length rest - c.loop-at.at) (drop c.loop-at.at rest)) c.loop-at.self.printer c.take_line.new.self.printer c.loop-at.page c.take_line.new.page c.in-Some.count = rw c.in-Some.is at c.in_ok-count.ensures.some in
    record {
      job_is = c.take_line.ensures.job ∙ before.job_is;
      few = first_few c.loop-at.self.job _ c.loop-at.self.printer c.take_line.new.self.printer _ _ c.in-Some.count first before.few;
      taken = next_lines s.job rest c.args.whole s.printer c.loop-at.self.printer c.take_line.new.self.printer c.args.page.now c.loop-at.page c.take_line.new.page c.loop-at.at c.loop-at.lines c.in-Some.count c.requires.whole c.loop-at-test.true before.taken (rw before.job_is at first);
    }

pub overflow_add-lines : goal.overflow_add-lines
overflow_add-lines c =
    let taken = c.loop-at.invariant.taken in
    omega (arith, taken.count_is, lines_few taken.taken, taken.bytes_is, c.loop-at-test.true, c.ranges.whole.fits)
