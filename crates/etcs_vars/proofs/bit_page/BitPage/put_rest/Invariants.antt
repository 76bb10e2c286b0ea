use Rattle.std.proofs.Common.{◌≡◌, ◌-◌, ◌≤◌, ◌++◌, length, take}
use Rattle.etcs_vars.specs.Reading.{spelled}
use Rattle.etcs_vars.proofs.bit_page.BitPage.put_rest.Given as goal

-- the variables so far are put
abbrev pub invariant-loop-done : goal.invariant-loop-done
invariant-loop-done l = record { within : l.done ≤ length l.sent; sent : l.self ≡ l.fn.self ++ spelled (take l.done l.sent) }

abbrev pub decreases-loop-done : goal.decreases-loop-done
decreases-loop-done l = length l.sent - l.done
