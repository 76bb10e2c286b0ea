use Rattle.std.proofs.Common.{sym, ap, ◌∙◌}
use Rattle.serde_json.specs.Data.{object, string}
use Rattle.etcs_json_trees.proofs.MemberLemmas.{inside, after_one, after_two, all_six, valued}
use Rattle.etcs_json.proofs.trees.typed_members.Goals as goal

pub returns-in_err-text-clause-none : goal.returns-in_err-text-clause-none
returns-in_err-text-clause-none c x y w u v e =
    let all = inside _ _ (sym c.in_ok-members.ensures.some ∙ e) in
    let four = after_two _ _ _ _ _ _ _ _ (sym c.in_ok-fields.ensures.some ∙ all) in
    let no = c.in_err-text.ensures.none _ (valued _ _ _ _ _ four (ap string (sym c.way_word.ensures))) in
    absurd cc

pub returns-in_err-nid-clause-none : goal.returns-in_err-nid-clause-none
returns-in_err-nid-clause-none c x y w u v e =
    let all = inside _ _ (sym c.in_ok-members.ensures.some ∙ e) in
    let four = after_two _ _ _ _ _ _ _ _ (sym c.in_ok-fields.ensures.some ∙ all) in
    let three = after_one _ _ _ _ _ (sym c.in_ok-text.ensures.some ∙ four) in
    let no = c.in_err-nid.ensures.none w _ three in
    absurd cc

pub returns-in_err-packets-clause-none : goal.returns-in_err-packets-clause-none
returns-in_err-packets-clause-none c x y w u v e =
    let all = inside _ _ (sym c.in_ok-members.ensures.some ∙ e) in
    let four = after_two _ _ _ _ _ _ _ _ (sym c.in_ok-fields.ensures.some ∙ all) in
    let three = after_one _ _ _ _ _ (sym c.in_ok-text.ensures.some ∙ four) in
    let two = after_one _ _ _ _ _ (sym c.in_ok-nid.ensures.some ∙ three) in
    let no = c.in_err-packets.ensures.none u v two in
    absurd cc

pub returns-clause-some : goal.returns-clause-some
returns-clause-some c =
    c.in_ok-members.ensures.some ∙ ap object (all_six _ _ _ _ _ _ _ _ _ _ _ _ _ _ _ _ _ c.in_ok-fields.ensures.some c.in_ok-text.ensures.some (ap string c.way_word.ensures) c.in_ok-nid.ensures.some c.in_ok-packets.ensures.some)
