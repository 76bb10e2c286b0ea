use Rattle.std.proofs.Common.{◌≡◌, ◌-◌, ◌≤◌, length, take}
use Rattle.etcs_vars.specs.WordSinks.{and_bits}
use Rattle.etcs_vars.proofs.word_sink.WordSink.put_slice.Given as goal

-- the bits so far are put
abbrev pub invariant-loop-left : goal.invariant-loop-left
invariant-loop-left l = record { within : l.left ≤ length l.slice; put : l.self ≡ and_bits l.fn.self (take (length l.slice - l.left) l.slice) }

abbrev pub decreases-loop-left : goal.decreases-loop-left
decreases-loop-left l = l.left
