-- The status with which the program ends.
use Rattle.std.specs.Prelude.{ℕ, ◌==◌, if◌then◌else◌}
use Rattle.etcs_log.specs.declared.job.LogTally.{LogTally}
use Rattle.etcs_stream.specs.declared.job.Tally.{Tally}
use Rattle.etcs_runs.specs.declared.fault.RunFault.{RunFault}
use Rattle.etcs_runs.specs.declared.fault.RunFault.TheVariants.{Refused, Truncated, BadHex, BadJson, Read, Write, Endless, Memory}

-- the status of a fault: 1 if the input is at fault; 3 if a stream failed, memory ran out, or there was more input than the
-- limit
abbrev pub fault_status : RunFault → ℕ
fault_status (Refused item bit var) = 1
fault_status (Truncated item bits) = 1
fault_status (BadHex line place) = 1
fault_status (BadJson line) = 1
fault_status Read = 3
fault_status (Write sent) = 3
fault_status Endless = 3
fault_status Memory = 3

-- the status of a run that reached the end of its input: 1 if a group has a clash or isn't complete, else 0
abbrev pub tally_status : Tally → ℕ
tally_status t = if t.complete then (if t.clashes == 0 then 0 else 1) else 1

-- the status of a log that was read to its end: 1 if a line is bad, else 0
abbrev pub log_status : LogTally → ℕ
log_status t = if t.bad == 0 then 0 else 1
