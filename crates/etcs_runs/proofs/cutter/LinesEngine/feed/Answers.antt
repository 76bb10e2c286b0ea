use Rattle.std.proofs.Common.{◌≡◌, ℕ, List, ◌++◌, ◌∷◌, [], length, refl, sym, ap, subst, ◌∙◌, arith, length-append}
use Rattle.std.specs.Prelude.{OnOk}
use Rattle.std.proofs.lemmas.List.{append-nil}
use Rattle.std.proofs.lemmas.Result.{err_from_is_err_and}
use Rattle.etcs_runs.specs.Faults.{IfFault, IsOfEngine}
use Rattle.etcs_runs.specs.Cutting.{Stands}
use Rattle.etcs_runs.proofs.LineTexts.{after_piece, cut_given, cut_line, cut_lines, last_line, more_given}
use Rattle.etcs_runs.proofs.Keeping.{none_output, piece_stops}
use Rattle.etcs_runs.proofs.cutter.LinesEngine.feed.Goals as goal

pub returns-in_err-rest-clause-said : goal.returns-in_err-rest-clause-said
returns-in_err-rest-clause-said g c given output h =
    let r = err_from_is_err_and c.from_residual.result c.from_residual.ensures.1 in
    rw r.1 (c.in_err-rest.ensures.said given output (none_output (Stands g.T.LineHandler c.args.self.now given) output c.args.page.now c.requires.empty h))

pub loop-line-init : goal.loop-line-init
loop-line-init g c =
    let (front, is, stands) = c.in_ok-rest.ensures.ok in
    let start = c.args.self.now in
    record {
      front = front;
      job_is = c.take_lines.ensures.job;
      all = is;
      stands = λ given output h. stands given output (none_output (Stands g.T.LineHandler start given) output c.args.page.now c.requires.empty h);
    }

pub loop-line-preserved : goal.loop-line-preserved
loop-line-preserved g c =
    let before = c.loop-line.invariant in
    let ended = c.in_ok-end_line.ensures in
    let (front, is, stands) = c.in_ok-rest-2.ensures.ok in
    let line = c.in-Some.line.now in
    let ends = line ++ 10 ∷ [] in
    record {
      front = (before.front ++ ends) ++ front;
      job_is = c.take_lines-in-Some.ensures.job ∙ ended.job ∙ before.job_is;
      all = cut_lines c.args.piece.now before.front c.loop-line.rest.now line c.in-Some.beyond.now front _ before.all c.in-Some.ensures.some.0 is;
      stands = λ given output h. (
          subst (λ (z : List ℕ). Stands g.T.LineHandler c.take_lines-in-Some.new.self z (output ++ c.take_lines-in-Some.new.page)) (more_given given before.front ends front)
          (stands ((given ++ before.front) ++ ends) output (ended.ok (given ++ before.front) output (before.stands given output h)))
          );
    }

pub next_line-requires : goal.next_line-requires
next_line-requires g c =
    let before = c.loop-line.invariant in
    last_line c.args.piece.now before.front c.loop-line.rest.now c.after_lines-after.result before.all c.after_lines-after.ensures.last

pub end_line-requires : goal.end_line-requires
end_line-requires g c =
    let before = c.loop-line.invariant in
    let (given, output, h, short) = c.requires.stands in
    let rest = c.loop-line.rest.now in
    let line = c.in-Some.line.now in
    record {
      stands = (given ++ before.front, output, before.stands given output h, omega (arith, short, length-append given before.front, ap length before.all, length-append before.front rest, ap length c.in-Some.ensures.some.0, length-append line (10 ∷ c.in-Some.beyond.now)));
      line = c.in-Some.ensures.some.1;
    }

pub take_lines-requires-in-Some-clause-stands : goal.take_lines-requires-in-Some-clause-stands
take_lines-requires-in-Some-clause-stands g c =
    let before = c.loop-line.invariant in
    let (given, output, h, short) = c.requires.stands in
    let line = c.in-Some.line.now in
    let ends = line ++ 10 ∷ [] in
    let beyond = c.in-Some.beyond.now in
    let cut = cut_line c.args.piece.now before.front c.loop-line.rest.now line beyond before.all c.in-Some.ensures.some.0 in (
      (given ++ before.front) ++ ends,
      output,
      c.in_ok-end_line.ensures.ok (given ++ before.front) output (before.stands given output h),
      omega (arith, short, ap length cut, length-append (given ++ before.front) ends, length-append given before.front, length-append (before.front ++ ends) beyond, length-append before.front ends),
    )

pub take_lines-requires-in-Some-clause-after : goal.take_lines-requires-in-Some-clause-after
take_lines-requires-in-Some-clause-after g c =
    let before = c.loop-line.invariant in
    let line = c.in-Some.line.now in
    let beyond = c.in-Some.beyond.now in
    after_piece c.args.piece.now (before.front ++ (line ++ 10 ∷ [])) beyond c.after_lines-after.result (cut_line c.args.piece.now before.front c.loop-line.rest.now line beyond before.all c.in-Some.ensures.some.0) c.after_lines-after.ensures.before

pub keep-requires : goal.keep-requires
keep-requires g c =
    let before = c.loop-line.invariant in
    let (given, output, h, short) = c.requires.stands in
    record {
      stands = (given ++ before.front, output, before.stands given output h, omega (arith, short, length-append given before.front, ap length before.all, length-append before.front c.loop-line.rest.now));
      line = c.in_default.ensures.none refl;
    }

pub returns-in_err-rest-2-clause-err : goal.returns-in_err-rest-2-clause-err
returns-in_err-rest-2-clause-err g c given output h =
    let before = c.loop-line.invariant in
    let ended = c.in_ok-end_line.ensures in
    let p = g.T.LineHandler.promises (g.T.LineHandler.job c.end_line.new.self.handler) in
    let piece = c.args.piece.now in
    let line = c.in-Some.line.now in
    let ends = line ++ 10 ∷ [] in
    let beyond = c.in-Some.beyond.now in
    let text = output ++ c.take_lines-in-Some.new.page in
    let e = c.in_err-rest-2.field-0.0 in
    let r = err_from_is_err_and c.from_residual-in_err-rest-2.result c.from_residual-in_err-rest-2.ensures.1 in
    let cut = cut_line piece before.front c.loop-line.rest.now line beyond before.all c.in-Some.ensures.some.0 in
    let all : ((given ++ before.front) ++ ends) ++ beyond ≡ given ++ piece = more_given given before.front ends beyond ∙ ap (λ (z : List ℕ). given ++ z) (sym cut) in
    let stops = subst (λ (z : List ℕ). IsOfEngine e × p.Stops z text e) all
    (c.in_err-rest-2.ensures.err ((given ++ before.front) ++ ends) output (ended.ok (given ++ before.front) output (before.stands given output h))) in
    rw (r.1, r.2) (rw (ended.job ∙ before.job_is) at stops)

pub returns-in_err-rest-2-clause-said : goal.returns-in_err-rest-2-clause-said
returns-in_err-rest-2-clause-said g c given output h =
    let before = c.loop-line.invariant in
    let ends = c.in-Some.line.now ++ 10 ∷ [] in
    let r = err_from_is_err_and c.from_residual-in_err-rest-2.result c.from_residual-in_err-rest-2.ensures.1 in
    rw r.1 (c.in_err-rest-2.ensures.said ((given ++ before.front) ++ ends) output (c.in_ok-end_line.ensures.ok (given ++ before.front) output (before.stands given output h)))

pub returns-in_err-end_line-clause-err : goal.returns-in_err-end_line-clause-err
returns-in_err-end_line-clause-err g c given output h =
    let before = c.loop-line.invariant in
    let p = g.T.LineHandler.promises (g.T.LineHandler.job c.loop-line.self.handler) in
    let piece = c.args.piece.now in
    let text = c.end_line.new.page in
    let e = c.in_err-end_line.field-0.0 in
    let r = err_from_is_err_and c.from_residual-in_err-end_line.result c.from_residual-in_err-end_line.ensures.1 in
    let stops = c.in_err-end_line.ensures.err c.in-Some.beyond.now (given ++ before.front) output (before.stands given output h) in
    let all = piece_stops (λ (z : List ℕ). IsOfEngine e × p.Stops z (output ++ text) e) given piece before.front c.loop-line.rest.now c.in-Some.line.now c.in-Some.beyond.now before.all c.in-Some.ensures.some.0 stops in
    rw (r.1, r.2) (rw before.job_is at all)

pub returns-clause-ok : goal.returns-clause-ok
returns-clause-ok g c given output h =
    let before = c.loop-line.invariant in
    subst (λ (z : List ℕ). OnOk c.keep.result (Stands g.T.LineHandler c.keep.new.self z (output ++ c.keep.new.page))) (cut_given given c.args.piece.now before.front c.loop-line.rest.now before.all)
    (c.keep.ensures.ok (given ++ before.front) output (before.stands given output h))

pub returns-clause-err : goal.returns-clause-err
returns-clause-err g c given output h =
    let before = c.loop-line.invariant in
    let p = g.T.LineHandler.promises (g.T.LineHandler.job c.loop-line.self.handler) in
    let rest = c.loop-line.rest.now in
    let all : (given ++ before.front) ++ (rest ++ []) ≡ given ++ c.args.piece.now = ap (λ (z : List ℕ). (given ++ before.front) ++ z) (append-nil rest) ∙ cut_given given c.args.piece.now before.front rest before.all in
    let stops = subst (λ (z : List ℕ). IfFault c.keep.result (p.Stops z (output ++ c.keep.new.page))) all
    (c.keep.ensures.err [] (given ++ before.front) output (before.stands given output h)) in
    rw before.job_is at stops

pub returns-in_err-end_line-clause-said : goal.returns-in_err-end_line-clause-said
returns-in_err-end_line-clause-said g c given output h =
    let before = c.loop-line.invariant in
    let r = err_from_is_err_and c.from_residual-in_err-end_line.result c.from_residual-in_err-end_line.ensures.1 in
    rw r.1 (c.in_err-end_line.ensures.said (given ++ before.front) output (before.stands given output h))

pub returns-clause-said : goal.returns-clause-said
returns-clause-said g c given output h =
    let before = c.loop-line.invariant in
    c.keep.ensures.said (given ++ before.front) output (before.stands given output h)
