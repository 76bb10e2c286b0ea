use Rattle.std.proofs.Common.{◌≡◌, ◌∙◌, ◌++◌, ◌∷◌, [], None, Some, refl, subst, sym, ap}
use Rattle.std.proofs.lemmas.List.{append-nil}
use Rattle.etcs_runs.specs.RunTexts.{runs_from}
use Rattle.etcs_log.specs.Candidates.{text_candidates}
use Rattle.etcs_log.specs.Reports.{IsCountOf}
use Rattle.etcs_log.proofs.Answering.{none_more}
use Rattle.etcs_log.proofs.Another.{before_some, count_not}
use Rattle.etcs_log.proofs.Walking.{walk_begins, walk_ends, walk_goes}
use Rattle.etcs_log.proofs.others.item_before.Goals as goal

pub runs-init : goal.runs-init
runs-init c =
    let e = c.before-next.ensures in
    ([], walk_begins c.args.run.now c.before-next.result c.args.buffer.now c.before-next.new.buffer e.none e.some e.bytes e.short e.room c.requires, tt)

pub returns-in-Some-2 : goal.returns-in-Some-2
returns-in-Some-2 c =
    let run = c.in-Some.earlier in
    let (seen, walk, none) = c.runs.invariant in
    before_some c.args.kinds c.args.run.now.text.now run.text.now seen _ _ c.in-Some-2.count (rw c.in-Some.is at walk.all_is) none (subst (IsCountOf (text_candidates c.args.kinds run.text.now)) c.in-Some-2.is c.in_ok-count.ensures)

pub runs-preserved : goal.runs-preserved
runs-preserved c =
    let run = c.in-Some.earlier in
    let e = c.before-next-in-Some.ensures in
    let (seen, walk, none) = c.runs.invariant in
    (seen ++ run.text.now ∷ [], walk_goes run c.before-next-in-Some.result c.runs.buffer c.before-next-in-Some.new.buffer e.none e.some e.bytes e.short e.room (rw c.in-Some.is at walk.room) _ (c.args.run.now.text.now ∷ seen) (rw c.in-Some.is at walk.all_is), none_more c.args.kinds seen run.text.now none (count_not (text_candidates c.args.kinds run.text.now) _ c.in_default-2.not-Some c.in_ok-count.ensures))
