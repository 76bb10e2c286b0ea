use Rattle.std.proofs.Common.{◌≡◌, ◌++◌, flat_map}
use Rattle.etcs_log.specs.Visible.{visible_char}
use Rattle.etcs_log.proofs.strings.append_visible.Given as goal

abbrev pub invariant-loop-character : goal.invariant-loop-character
invariant-loop-character l = l.out.items ≡ l.fn.out.items ++ flat_map visible_char l.yielded
