use Rattle.std.proofs.Common.{◌∙◌, refl, [], ◌++◌, take, subst}
use Rattle.std.proofs.lemmas.Result.{err_from_is_err_and}
use Rattle.etcs_stream.specs.declared.job.Job.{Job}
use Rattle.etcs_text.specs.Readers.{seen_bits}
use Rattle.etcs_stream.specs.Readers.{Awaits}
use Rattle.etcs_stream.proofs.Streams.{Advances-none, Advances-then, Halts-then, cut_front}
use Rattle.etcs_stream.proofs.Saying.{says_then}
use Rattle.etcs_stream.proofs.byte_items.ByteItems.take_bytes.Goals as goal

pub loop-rest-init : goal.loop-rest-init
loop-rest-init c = record {
  front = [];
  job_is = refl;
  waits = c.requires.waits;
  few = c.requires.reported;
  room = λ h. h;
  all = refl;
  advances = Advances-none c.args.self.now.job.kind c.args.self.now.job.command (seen_bits c.args.self.now.reader.progress) c.args.self.now.printer c.args.page.now;
}

pub loop-rest-preserved : goal.loop-rest-preserved
loop-rest-preserved c =
    let before = c.loop-rest.invariant in
    let more = c.in_ok-taken.ensures.ok in
    let n = c.in_ok-taken.taken in
    let rest = c.loop-rest.rest.now in
    let job = c.args.self.now.job in
    record {
      front = before.front ++ take n rest;
      job_is = c.take_front.ensures.job ∙ before.job_is;
      waits = subst (λ (j : Job). Awaits j.kind c.take_front.new.self.reader) before.job_is more.waits;
      few = more.few;
      room = λ h. more.room;
      all = cut_front c.args.bytes.now before.front rest n _ refl before.all;
      advances =
          Advances-then job.kind job.command _ _ _ _ before.front (take n rest) _ _ _ before.advances _ _
          (rw before.job_is at more.advances);
    }

pub returns-in_err-taken-clause-err : goal.returns-in_err-taken-clause-err
returns-in_err-taken-clause-err c =
    let before = c.loop-rest.invariant in
    let job = c.args.self.now.job in
    let p = err_from_is_err_and c.from_residual.result c.from_residual.ensures.1 in
    rw (p.1, p.2, before.all)
    (Halts-then job.kind job.command _ _ _ _ before.front c.loop-rest.rest.now _ _ _ before.advances c.in_err-taken.field-0.0 (rw before.job_is at c.in_err-taken.ensures.err.0))

pub returns-in_err-taken-clause-said : goal.returns-in_err-taken-clause-said
returns-in_err-taken-clause-said c =
    let before = c.loop-rest.invariant in
    let job = c.args.self.now.job in
    let p = err_from_is_err_and c.from_residual.result c.from_residual.ensures.1 in
    let printed = before.advances in
    rw p.1 (says_then job.command _ _ c.take_front.new.self.printer printed.reported _ printed.added _ _ printed.added_is printed.text_is (rw before.job_is at c.in_err-taken.ensures.err.1))
