-- Variables one after another whose bits are all there.
use Rattle.std.specs.Prelude.{◌≡◌, ℕ, ◌-◌, ◌≤◌, Bool, List, length}
use Rattle.etcs_bits.specs.Bits.{part}
use Rattle.etcs_vars.specs.declared.var.Var.{Var}
use Rattle.etcs_vars.specs.Reading.{spelled}
use Rattle.etcs_reader.specs.Fields.{ReadsFields}
use Rattle.etcs_sequence.specs.Labels.{labelled}

-- the bits of xs from at up to end spell the variables with these numbers, each of which is admitted
pub record FrontAt (vs : List Var) (xs : List Bool) (at : ℕ) (ns : List ℕ) (end : ℕ) : Type 0 where
  pub count : length ns ≡ length vs
  pub onward : at ≤ end
  pub inside : end ≤ length xs
  pub reads : ReadsFields vs (labelled vs ns)
  pub bits : spelled (labelled vs ns) ≡ part at (end - at) xs
