use Rattle.std.proofs.Common.{◌≡◌, ◌∙◌, ◌+◌, refl, sym, ap, arith}
use Rattle.etcs_runs.specs.declared.words.Cut.TheVariants.{Joints}
use Rattle.etcs_runs.specs.Digits.{before_words, group_words, groups, is_joint, last_first, searched, word_parts}
use Rattle.etcs_runs.specs.Finds.{end_of}
use Rattle.etcs_runs.proofs.Pure.{all_parts, no_parts_after, one_part}
use Rattle.etcs_runs.proofs.Runs.{found_words-none, no_words}
use Rattle.etcs_runs.proofs.found.find_parts.Goals as goal

pub returns-in_default-clause-front : goal.returns-in_default-clause-front
returns-in_default-clause-front c =
    let ws = last_first is_joint c.args.word.now in
    let none = no_words is_joint c.loop-found.rest.now (c.in_default.ensures.none refl) in
    let all : word_parts c.args.word.now ≡ group_words ws = found_words-none groups group_words ws (c.loop-found.invariant.passed ∙ ap (searched groups) none) in
    let words : 0 + group_words ws ≡ word_parts c.args.word.now = omega (arith, all) in
    c.find_groups-last.ensures.front ∙ ap (λ n. before_words is_joint n c.args.line.now) words
