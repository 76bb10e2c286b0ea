-- Lemmas about specs/Walks.antt.
use Rattle.std.specs.Prelude.{ℕ, Bool, List, Option, refl}
use Rattle.std.specs.Coded.{Coded, code_by, coded×, coded_ℕ, coded_bool, coded_list, coded_option}
use Rattle.etcs_vars.specs.declared.var.Var.{Var}
use Rattle.etcs_vars.specs.contracts.var.Var as variable
use Rattle.etcs_tables.specs.Layouts.{Layout}
use Rattle.etcs_tables.specs.laws.Flat.{layout_code}
use Rattle.etcs_rows.specs.Walks.{WalkValue}

abbrev pub walk_code : Coded WalkValue
walk_code =
    code_by (Layout × (ℕ × (List Bool × Option Var))) (coded× layout_code (coded× coded_ℕ (coded× (coded_list coded_bool) (coded_option variable.the_row.coded))))
    (λ w. (w.left, (w.len, (w.part, w.refused)))) (λ p. record { left = p.0; len = p.1.0; part = p.1.1.0; refused = p.1.1.1 }) (λ _. refl)
