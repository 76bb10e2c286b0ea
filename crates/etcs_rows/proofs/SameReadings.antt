-- What is begun and refused, in two languages of the same readings.
use Rattle.std.proofs.Common.{◌≡◌, ℕ, Bool, List, take, Some, sym, ◌∙◌}
use Rattle.std.specs.Prelude.{Option}
use Rattle.etcs_vars.specs.declared.var.Var.{Var}
use Rattle.etcs_vars.specs.Walking.{Refuses}
use Rattle.etcs_vars.specs.Reading.{Reading, Viable, Owner}
use Rattle.etcs_vars.proofs.Languages.{Same}

module _ (P Q : Reading → Type 0) (same : Same P Q) where
  pub viable_along : (b : List Bool) → Viable P b → Viable Q b
  viable_along b (r, c, l, e) = (r, c, (same r).0 l, e)

  pub owner_along : (b : List Bool) (x : Var) → Owner P b x → Owner Q b x
  owner_along b x o = record {
    viable = viable_along b o.viable;
    open_end = λ (r, l, e). o.open_end (r, (same r).1 l, e);
    holds = λ r c l e. o.holds r c ((same r).1 l) e;
  }

  pub refuses_along : (b : List Bool) (i : ℕ) (x : Var) → Refuses P b i x → Refuses Q b i x
  refuses_along b i x r = record { within = r.within; owned = owner_along (take i b) x r.owned; blocked = λ (q, c, l, e). r.blocked (q, c, (same q).1 l, e) }

-- ---- Of one language.

same_var : (x y : Var) → ◌≡◌ {A = Option Var} (Some x) (Some y) → y ≡ x
same_var x y e = cc

-- what holds the next bit is one variable
pub owner_same : (L : Reading → Type 0) (t : List Bool) (x y : Var) → Owner L t x → Owner L t y → y ≡ x
owner_same L t x y o p =
    let (r, c, l, e) = o.viable in
    same_var x y (sym (o.holds r c l e) ∙ p.holds r c l e)
