use Rattle.etcs_vars.specs.declared.var.Var.TheVariants.{N_ITER}
use Rattle.etcs_bodies.specs.Formats.{listed, part, ◌⊗◌}
use Rattle.etcs_bodies.specs.laws.Passing.{passed_format, passed_pair}
use Rattle.etcs_parts.specs.Sections.{section_format, end_format}
use Rattle.etcs_parts.specs.Authorities.{end_timer_format, danger_format, overlap_format, groups_format, authority_value}
use Rattle.etcs_parts.specs.laws.Sections.{end_ok}
use Rattle.etcs_parts.specs.laws.Authorities.{groups_ok}
use Rattle.etcs_parts.proofs.authority.AuthorityPassing.pass.Goals as goal

pub returns-clause-passed : goal.returns-clause-passed
returns-clause-passed g c =
    let left = g.L.NextNumber.left in
    let with = g.S.VarSink.with in
    let both = g.met.S.VarSink.with_both in
    let first = left c.args.numbers.now in
    let ended = left c.pass_list.new.numbers in
    let timed = left c.end_from_numbers.new.numbers in
    let pointed = left c.take_end_timer.new.numbers in
    let lapped = left c.take_danger_point.new.numbers in
    let last = left c.take_overlap.new.numbers in
    let out = c.args.out.now in
    let sections = c.pass_list.new.out in
    let end = c.send_end.new.out in
    let timer = c.send_end_timer.new.out in
    let point = c.send_danger_point.new.out in
    let lap = c.send_overlap.new.out in
    let rest = passed_pair with both end_timer_format (danger_format ⊗ overlap_format) timed pointed last end timer lap
    (passed_format with both end_timer_format groups_ok.0 timed pointed end timer c.in-Some-take_end_timer.end_timer c.in-Some-take_end_timer.ensures.from c.in_ok-send_end_timer.ensures.ok)
    (passed_pair with both danger_format overlap_format pointed lapped last timer point lap
    (passed_format with both danger_format groups_ok.1.0 pointed lapped timer point c.in-Some-take_danger_point.danger_point c.in-Some-take_danger_point.ensures.from c.in_ok-send_danger_point.ensures.ok)
    (passed_format with both overlap_format groups_ok.1.1 lapped last point lap c.in-Some-take_overlap.overlap c.in-Some-take_overlap.ensures.from c.in_ok-send_overlap.ensures.ok)) in
    λ yes.
    let all = passed_pair with both (listed N_ITER section_format) (part end_format ⊗ groups_format) first ended last out sections lap
    (c.in_ok-pass_list.ensures.passed c.if-not-branch.false)
    (passed_pair with both (part end_format) groups_format ended timed last sections end lap (passed_format with both end_format end_ok ended timed sections end c.in-Some.end c.in-Some.ensures.from c.in_ok-send_end.ensures.ok) rest) in
    (authority_value all.0.0 all.0.1.0 all.0.1.1.0 all.0.1.1.1.0 all.0.1.1.1.1, all.1, all.2)
