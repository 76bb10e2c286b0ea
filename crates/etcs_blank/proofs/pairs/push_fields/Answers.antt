use Rattle.std.proofs.Common.{◌++◌, ap, subst, sym, ◌∙◌, ◌≡◌}
use Rattle.std.specs.Prelude.{OnOk, option_map}
use Rattle.etcs_vars.specs.Reading.{Reading}
use Rattle.etcs_tables.specs.declared.row.Row.{Row}
use Rattle.etcs_blank.proofs.Lengths.{fields_of}
use Rattle.etcs_blank.proofs.pairs.push_fields.Goals as goal

pub returns-in-Some : goal.returns-in-Some
returns-in-Some c l e =
    subst (λ (r : Reading). OnOk c.push_row.result (c.push_row.new.pairs.items ≡ c.args.pairs.now.items ++ r))
    (fields_of c.in-Some.row.items.now l (sym (ap (option_map (λ (r : Row). r.items.now)) c.in-Some.is) ∙ e))
    c.push_row.ensures
