use Rattle.std.proofs.Common.{◌≡◌, ◌-◌, ◌≤◌, length, take, sym, ap, ◌∙◌, arith}
use Rattle.etcs_vars.specs.WordSinks.{and_bits}
use Rattle.etcs_vars.proofs.WordSinks.{put_more, put_last}
use Rattle.etcs_vars.proofs.word_sink.WordSink.put_slice.Goals as goal

pub loop-left-init : goal.loop-left-init
loop-left-init c =
    let seen = c.args.slice.now in
    let none : length seen - c.len-left.result ≡ 0 = omega (arith, c.len-left.ensures) in
    record {
      within = omega (arith, c.len-left.ensures);
      put = sym (ap (λ k. and_bits c.args.self.now (take k seen)) none);
    }

pub loop-left-preserved : goal.loop-left-preserved
loop-left-preserved c =
    let l = c.loop-left in
    let seen = c.args.slice.now in
    let from = length seen - l.left in
    let within = l.invariant.within in
    let enough = c.loop-left-test.true in
    record {
      within = omega (arith, within);
      put =
          put_more c.args.self.now l.self c.put.new.self seen from c.word.result (omega (arith, within, enough)) l.invariant.put (rw c.len.ensures at c.word.ensures) c.put.ensures
          ∙ ap (λ k. and_bits c.args.self.now (take k seen)) (omega (arith, within, enough));
    }

pub returns-then-left-gt0 : goal.returns-then-left-gt0
returns-then-left-gt0 c =
    let l = c.loop-left in
    let seen = c.args.slice.now in
    let from = length seen - l.left in
    let within = l.invariant.within in
    let few : l.left ≤ 64 = omega (arith, c.loop-left-test.false) in
    put_last c.args.self.now l.self c.put-then-left-gt0.new.self seen from l.left c.word-then-left-gt0.result (omega (arith, within)) few l.invariant.put (rw c.len-then-left-gt0.ensures at c.word-then-left-gt0.ensures) c.put-then-left-gt0.ensures
