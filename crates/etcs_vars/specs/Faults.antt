-- The faults of constructors and readers: the order in which a constructor looks for them, and their texts
-- (SUBSET-026, 7.5: the numbers that a variable admits).
use Rattle.std.specs.Prelude.{ℕ, List, ◌++◌, Option, Some, None, if◌then◌else◌, codes}
use Rattle.std.specs.Fmt.{decimal}
use Rattle.etcs_vars.specs.declared.var.Var.{Var}
use Rattle.etcs_vars.specs.declared.fault.BuildFault.{BuildFault}
use Rattle.etcs_vars.specs.declared.fault.BuildFault.TheVariants.{NotAdmitted, Guard, TooMany, Count, TooLong, FillLength, Memory}
use Rattle.etcs_vars.specs.declared.feed.ReadFault.{ReadFault}
use Rattle.etcs_vars.specs.declared.feed.ReadFault.TheVariants as read
use Rattle.etcs_vars.specs.Vars.{admits, name}

infixr 10 ◌or_else◌
-- this fault, if there is one, else that one: with it the order in which a constructor refuses is one line
abbrev pub ◌or_else◌ : Option BuildFault → Option BuildFault → Option BuildFault
(Some e) or_else f = Some e
None or_else f = f

-- the fault of the number n of a variable: NotAdmitted if the variable doesn't admit it, else none
abbrev pub number_fault : Var → ℕ → Option BuildFault
number_fault v n = if admits v n then None else Some (NotAdmitted v)

-- the text that is printed of a fault of a constructor
abbrev pub build_fault_text : BuildFault → List ℕ
build_fault_text (NotAdmitted v) = name v ++ codes " doesn't admit the number"
build_fault_text (Guard v) = name v ++ codes " and the group that it guards don't agree"
build_fault_text (TooMany v) = codes "more entries than " ++ name v ++ codes " can count"
build_fault_text Count = codes "not as many numbers as the row has"
build_fault_text TooLong = codes "longer than may be sent"
build_fault_text FillLength = codes "the fill isn't the rest of the bits"
build_fault_text Memory = codes "out of memory"

-- the text that is printed of a fault of a reader
abbrev pub read_fault_text : ReadFault → List ℕ
read_fault_text (read.Refused bit v) = codes "refused at bit " ++ decimal bit ++ codes ", " ++ name v
read_fault_text read.Ended = codes "the value was whole before"
read_fault_text read.Memory = codes "out of memory"
