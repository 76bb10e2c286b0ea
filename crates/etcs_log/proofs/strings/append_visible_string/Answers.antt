use Rattle.std.proofs.Common.{◌≡◌, ◌++◌, List, ℕ, false, OnOk, rules, tests, subst, sym, ◌∙◌}
use Rattle.std.specs.List.{list_any}
use Rattle.std.specs.Str.{chars}
use Rattle.std.proofs.lemmas.Iterator.{YieldsList-from_chars}
use Rattle.std.proofs.lemmas.Iterator.Search.{any_from_yields_List}
use Rattle.etcs_log.specs.Visible.{is_unseen}
use Rattle.etcs_log.proofs.Shown.{quoted_as_it_is}
use Rattle.etcs_log.proofs.strings.append_visible_string.Goals as goal

pub returns : goal.returns
returns c =
    let text = c.args.text.now in
    let any = any_from_yields_List is_unseen _ _ _ c.any.ensures.ran (YieldsList-from_chars text c.utf8.text cc) (λ x b q k. search (rules, tests)) in
    let none : list_any is_unseen (chars text) ≡ false = sym any ∙ c.if-any.false in
    subst (λ (z : List ℕ). OnOk c.append_string.result (c.append_string.new.out.items ≡ c.args.out.now.items ++ z)) (sym (quoted_as_it_is text c.utf8.text none)) c.append_string.ensures
