use Rattle.std.proofs.Common.{◌<◌, [], take, get_or, length, ap, sym, ◌∙◌, rules, arith}
use Rattle.std.specs.Prelude.{codes}
use Rattle.std.specs.Fmt.{HasWritten}
use Rattle.std.specs.List.{flat_map}
use Rattle.std.proofs.Output.{has_written_append, has_written_of_eq}
use Rattle.std.proofs.lemmas.List.{take_more, flat_map_more}
use Rattle.etcs_rows.specs.Words.{range_text, more_text}
use Rattle.etcs_rows.proofs.words.write_ranges.Goals as goal

pub loop-range-preserved : goal.loop-range-preserved
unfolding more_text
loop-range-preserved g c = λ plain.
    let took = g.W.Write.write_str_gives in
    let xs = c.in-Some.others.now in
    let i = c.loop-range.range-index in
    let within : i < length xs = omega arith in
    let r = get_or xs i (0, 0) in
    let all = flat_map_more more_text [] (take i xs) r ∙ ap (flat_map more_text) (sym (take_more xs i (0, 0) within)) in
    let before = c.loop-range.invariant plain in
    let or : HasWritten took c.loop-range.f (codes " or ") c.write_str.new.self = search rules in
    let range : HasWritten took c.write_str.new.self (range_text r.0 r.1) c.write_range-in-loop-range.new.f = search rules in
    has_written_of_eq _ _ _ _ _ all (has_written_append _ _ _ _ _ _ before (has_written_append _ _ _ _ _ _ or range))
