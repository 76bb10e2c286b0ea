use Rattle.std.proofs.Common.{◌≡◌, ◌++◌, ap, subst, sym, ◌∙◌}
use Rattle.std.specs.Prelude.{OnOk, option_map}
use Rattle.std.proofs.lemmas.List.{append_assoc}
use Rattle.etcs_vars.specs.Reading.{Reading}
use Rattle.etcs_tables.specs.declared.row.Row.{Row}
use Rattle.etcs_tables.specs.Layouts.{layout}
use Rattle.etcs_blank.specs.Blanks.{blank_row}
use Rattle.etcs_blank.proofs.Lengths.{own_of}
use Rattle.etcs_blank.proofs.items.push_own.Goals as goal

pub returns-in_ok-push_row-in-Some : goal.returns-in_ok-push_row-in-Some
returns-in_ok-push_row-in-Some c l e =
    let old = c.args.pairs.now.items in
    let head = blank_row (layout c.head_row.result.items.now) 0 in
    let own = blank_row (layout c.in-Some.row.items.now) 0 in
    let call = c.push_row-in-Some in
    subst (λ (r : Reading). OnOk call.result (call.new.pairs.items ≡ r))
    (ap (λ (r : Reading). r ++ own) c.in_ok-push_row-in-Some.ensures ∙ append_assoc old head own ∙ ap (λ (r : Reading). old ++ r) (own_of c.args.way c.in-Some.row.items.now l c.head_row.result.items.now c.head_row.ensures (sym (ap (option_map (λ (r : Row). r.items.now)) c.in-Some.is) ∙ e)))
    call.ensures
