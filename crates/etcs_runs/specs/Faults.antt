-- The line of each fault, and which faults are those of an engine.
use Rattle.std.specs.Prelude.{ℕ, List, ◌++◌, codes, Result, IfErr}
use Rattle.std.specs.Fmt.{decimal}
use Rattle.etcs_vars.specs.Vars.{name}
use Rattle.etcs_runs.specs.declared.fault.RunFault.{RunFault}
use Rattle.etcs_runs.specs.declared.fault.RunFault.TheVariants.{Refused, Truncated, BadHex, BadJson, Read, Write, Endless, Memory}

-- the line on standard error for each fault, with its LF
abbrev pub fault_line : RunFault → List ℕ
fault_line (Refused item bit var) = codes "etcs: item " ++ decimal item ++ codes " refused at bit " ++ decimal bit ++ codes ", " ++ name var ++ codes "\n"
fault_line (Truncated item bits) = codes "etcs: item " ++ decimal item ++ codes " truncated after " ++ decimal bits ++ codes " bits\n"
fault_line (BadHex line place) = codes "etcs: line " ++ decimal line ++ codes ": bad hexadecimal at " ++ decimal place ++ codes "\n"
fault_line (BadJson line) = codes "etcs: line " ++ decimal line ++ codes ": bad JSON\n"
fault_line Read = codes "etcs: read fault\n"
fault_line (Write sent) = codes "etcs: write fault after " ++ decimal sent ++ codes " bytes\n"
fault_line Endless = codes "etcs: input without end\n"
fault_line Memory = codes "etcs: out of memory\n"

-- any fault but `Read` and `Write`: of the input, and not of the source or the sink; or memory was refused
abbrev pub IsOfEngine : RunFault → Type 0
IsOfEngine (Refused item bit var) = Unit {0}
IsOfEngine (Truncated item bits) = Unit {0}
IsOfEngine (BadHex line place) = Unit {0}
IsOfEngine (BadJson line) = Unit {0}
IsOfEngine Read = ⊥
IsOfEngine (Write sent) = ⊥
IsOfEngine Endless = Unit {0}
IsOfEngine Memory = Unit {0}

-- if it fails, the fault is neither `Read` nor `Write`, and this holds of it
abbrev pub IfFault : {T : Type 0} → Result T RunFault → (RunFault → Type 0) → Type 0
IfFault r Holds = IfErr r (λ e. IsOfEngine e × Holds e)
