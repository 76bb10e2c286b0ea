-- How the fault of a view is printed.
use Rattle.std.specs.Prelude.{ℕ, List, ◌++◌, codes}
use Rattle.std.specs.Fmt.{decimal}
use Rattle.etcs_vars.specs.Vars.{name}
use Rattle.etcs_telegram.specs.declared.view.ViewFault.{ViewFault}
use Rattle.etcs_telegram.specs.declared.view.ViewFault.TheVariants as view

-- the text of a fault: the wrong count of bytes, or the refused bit and its variable
abbrev pub view_fault_text : ViewFault → List ℕ
view_fault_text view.Length = codes "not as many bytes as a telegram of this size takes"
view_fault_text (view.Refused bit v) = codes "refused at bit " ++ decimal bit ++ codes ", " ++ name v
