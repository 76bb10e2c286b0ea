use Rattle.std.proofs.Common.{sym, ap, ◌∙◌}
use Rattle.serde_json.specs.Data.{string}
use Rattle.etcs_json_trees.proofs.MemberLemmas.{inside, after_one, after_two, valued}
use Rattle.etcs_json.proofs.trees.telegram_members.Goals as goal

pub returns-in_err-text-clause-none : goal.returns-in_err-text-clause-none
returns-in_err-text-clause-none c x y w e =
    let all = inside _ _ (sym c.in_ok-members.ensures.some ∙ e) in
    let two = after_two _ _ _ _ _ _ _ _ (sym c.in_ok-fill.ensures.some ∙ all) in
    let no = c.in_err-text.ensures.none _ (valued _ _ _ _ _ two (ap string (sym c.size_word.ensures))) in
    absurd cc

pub returns-in_err-packets-clause-none : goal.returns-in_err-packets-clause-none
returns-in_err-packets-clause-none c x y w e =
    let all = inside _ _ (sym c.in_ok-members.ensures.some ∙ e) in
    let two = after_two _ _ _ _ _ _ _ _ (sym c.in_ok-fill.ensures.some ∙ all) in
    let last = after_one _ _ _ _ _ (sym c.in_ok-text.ensures.some ∙ two) in
    let no = c.in_err-packets.ensures.none w last in
    absurd cc

pub returns-clause-some : goal.returns-clause-some
returns-clause-some c =
    let all = c.in_ok-members.ensures.some in
    let two = c.in_ok-fill.ensures.some in
    let kind = ap string c.size_word.ensures in
    let one = c.in_ok-text.ensures.some in
    let last = c.in_ok-packets.ensures.some in
    cc
