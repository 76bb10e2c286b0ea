use Rattle.std.proofs.Common.{◌≡◌, ◌∙◌, Ok, Err, Result, ap}
use Rattle.etcs_vars.specs.declared.feed.Fed.{Fed}
use Rattle.etcs_vars.specs.declared.feed.Fed.TheVariants.{More, Done}
use Rattle.etcs_vars.specs.declared.feed.ReadFault.{ReadFault}
use Rattle.etcs_vars.specs.declared.feed.ReadFault.TheVariants.{Refused, Ended}
use Rattle.etcs_text.proofs.Verdicts.{begun_of, fed_as, item_of, is_taken, none_of_done, none_of_more, none_of_refused, verdict_by}
use Rattle.etcs_text.proofs.verdict.SingleReader.read.Goals as goal
use Rattle.etcs_text.proofs.verdict.SingleReader.read.Goals.{in-Ok-Done+else-taken-bytes, in-Ok-More, in-Err-Refused, in-Err-Memory}

pub take-entry-requires : goal.take-entry-requires
take-entry-requires c =
    let s = c.self.inside in
    let is : ◌≡◌ {A = Result Fed ReadFault} c.feed.result (Ok (Done c.in-Ok-Done.taken)) = c.in-Ok-Done.is ∙ ap Ok c.in-Ok-Done.field-0-is in
    let f = fed_as s.kind s.reader c.args.bytes.now c.feed.result (Ok (Done c.in-Ok-Done.taken)) c.feed.new.self.progress c.self.invariant is c.feed.ensures.answer in
    let whole = item_of s.kind c.args.bytes.now c.in-Ok-Done.taken c.feed.new.self.progress f c.if-taken-bytes.true in
    record { whole = (whole.0, whole.1) }

pub returns-then-taken-bytes-clause-verdict : goal.returns-then-taken-bytes-clause-verdict
returns-then-taken-bytes-clause-verdict c =
    let s = c.self.inside in
    let is : ◌≡◌ {A = Result Fed ReadFault} c.feed.result (Ok (Done c.in-Ok-Done.taken)) = c.in-Ok-Done.is ∙ ap Ok c.in-Ok-Done.field-0-is in
    let f = fed_as s.kind s.reader c.args.bytes.now c.feed.result (Ok (Done c.in-Ok-Done.taken)) c.feed.new.self.progress c.self.invariant is c.feed.ensures.answer in
    rw (← c.self.view_is) (is_taken s.kind c.args.bytes.now c.in-Ok-Done.taken c.feed.new.self.progress _ f c.if-taken-bytes.true c.take-entry.ensures.item)

pub unreachable-requires : goal.unreachable-requires
unreachable-requires c =
    let s = c.self.inside in
    let is : ◌≡◌ {A = Result Fed ReadFault} c.feed.result (Err Ended) = c.in-Err-Ended.is ∙ ap Err c.in-Err-Ended.field-0-is in
    fed_as s.kind s.reader c.args.bytes.now c.feed.result (Err Ended) c.feed.new.self.progress c.self.invariant is c.feed.ensures.answer

pub returns-clause-verdict : goal.returns-clause-verdict
returns-clause-verdict c =
    let s = c.self.inside in
    let bytes = c.args.bytes.now in
    let at = c.feed.new.self.progress in
    rw (← c.self.view_is)
    (elim c.match-feed.branch [
      | in-Ok-Done+else-taken-bytes w ↦
          let is : ◌≡◌ {A = Result Fed ReadFault} c.feed.result (Ok (Done w.in-Ok-Done.taken)) = w.in-Ok-Done.is ∙ ap Ok w.in-Ok-Done.field-0-is in
          let f = fed_as s.kind s.reader bytes c.feed.result (Ok (Done w.in-Ok-Done.taken)) at c.self.invariant is c.feed.ensures.answer in
          verdict_by s.kind bytes _ _ w.verdict-is (none_of_done s.kind bytes w.in-Ok-Done.taken at f w.if-taken-bytes.false, begun_of s.kind bytes w.in-Ok-Done.taken at f w.if-taken-bytes.false)
      | in-Ok-More w ↦
          let is : ◌≡◌ {A = Result Fed ReadFault} c.feed.result (Ok More) = w.in-Ok-More.is ∙ ap Ok w.in-Ok-More.field-0-is in
          let f = fed_as s.kind s.reader bytes c.feed.result (Ok More) at c.self.invariant is c.feed.ensures.answer in
          verdict_by s.kind bytes _ _ w.verdict-is (none_of_more s.kind bytes at f, f.1)
      | in-Err-Refused w ↦
          let bit = w.in-Err-Refused.bit in
          let var = w.in-Err-Refused.var in
          let is : ◌≡◌ {A = Result Fed ReadFault} c.feed.result (Err (Refused bit var)) = w.in-Err-Refused.is ∙ ap Err w.in-Err-Refused.field-0-is in
          let f = fed_as s.kind s.reader bytes c.feed.result (Err (Refused bit var)) at c.self.invariant is c.feed.ensures.answer in
          verdict_by s.kind bytes _ _ w.verdict-is (none_of_refused s.kind bytes bit var at f, f.1)
      | in-Err-Memory w ↦ rw w.verdict-is tt
    ])
