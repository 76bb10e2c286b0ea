use Rattle.std.proofs.Common.{arith}
use Rattle.std.proofs.lemmas.List.{drop_more, drop_all}
use Rattle.etcs_rows.proofs.WriteLemmas.{appends_begin, appends_room, appends_step, appends_done, writes_fits, writes_ended}
use Rattle.etcs_rows.proofs.write.write_row.Goals as goal
use Rattle.etcs_rows.proofs.write.write_row.Goals.{in-Some+in_default-push_number, in_default}

pub loop-number-init : goal.loop-number-init
loop-number-init c = rw c.start-place.ensures.left (appends_begin c.requires.admitted (rw c.start-place.ensures.left at c.start-place.ensures.looks))

pub push_number-requires-clause-fits : goal.push_number-requires-clause-fits
push_number-requires-clause-fits c =
    rw c.width.ensures (writes_fits c.loop-number.invariant.writes (drop_more c.args.fields.now c.loop-number.number-index 0 (omega arith)) c.in-Some.ensures).0

pub push_number-requires-clause-room : goal.push_number-requires-clause-room
push_number-requires-clause-room c =
    rw c.width.ensures (appends_room c.loop-number.invariant (drop_more c.args.fields.now c.loop-number.number-index 0 (omega arith)) c.in-Some.ensures c.requires.room)

pub loop-number-preserved : goal.loop-number-preserved
loop-number-preserved c =
    let next = drop_more c.args.fields.now c.loop-number.number-index 0 (omega arith) in
    elim c.match-var.branch [
      | in-Some+in_default-push_number b ↦ rw (b.out-is, b.place-is) (appends_step c.loop-number.invariant next b.in-Some.ensures b.pass.ensures.left (rw b.width.ensures at b.in_default-push_number.ensures.ok))
      | in_default b ↦ absurd (writes_ended c.loop-number.invariant.writes next b.in_default.ensures)
    ]

pub returns-clause-ok : goal.returns-clause-ok
returns-clause-ok c = appends_done c.loop-number.invariant (drop_all c.loop-number.number-index c.args.fields.now (omega arith))
