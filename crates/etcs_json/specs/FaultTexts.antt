-- The texts of faults.
use Rattle.std.specs.Prelude.{ℕ, List, ◌++◌, codes}
use Rattle.std.specs.Fmt.{decimal}
use Rattle.etcs_vars.specs.Vars.{name}
use Rattle.etcs_json.specs.declared.fault.JsonFault.{JsonFault}
use Rattle.etcs_json.specs.declared.fault.JsonFault.TheVariants.{Shape, Refused, Memory}

-- the text of a fault of `from_value` and `from_line`
abbrev pub json_fault_text : JsonFault → List ℕ
json_fault_text Shape = codes "not the tree of an item"
json_fault_text (Refused bit var) = codes "the bits of no item: refused at bit " ++ decimal bit ++ codes ", " ++ name var
json_fault_text Memory = codes "out of memory"
