-- From one stage to another by one variable.
use Rattle.std.proofs.Common.{◌≡◌, ℕ, ◌+◌, [], ◌∷◌, refl, arith}
use Rattle.etcs_vars.specs.declared.var.Var.{Var}
use Rattle.etcs_vars.specs.Vars.{width}
use Rattle.etcs_vars.specs.Walking.{Residual}
use Rattle.etcs_vars.specs.Reading.{Reading}
use Rattle.etcs_vars.proofs.Languages.{Same}
use Rattle.etcs_vars.proofs.Sent.{length-sent}
use Rattle.etcs_rows.specs.declared.frames.Carrier.{Carrier}
use Rattle.etcs_sequence.proofs.Turns.{residual_same}
use Rattle.etcs_sequence.specs.declared.stage.Stage.{Stage}
use Rattle.etcs_sequence.specs.Lefts.{left_of, ahead, Moved}

pub moved_by : (c : Carrier) (room : ℕ) (s : Stage) (x : Var) (n room' : ℕ) (s' : Stage) (Following : Reading → Type 0) → Residual (left_of c room s) ((x, n) ∷ []) Following → Same Following (left_of c room' s') → ahead c room s ≡ width x + ahead c room' s' → Moved c room s ((x, n) ∷ []) c room' s'
moved_by c room s x n room' s' Following d same bits = record {
  same = refl;
  residual = residual_same (left_of c room s) ((x, n) ∷ []) Following (left_of c room' s') d same;
  ahead_is = omega (arith, length-sent x n [], bits);
}
