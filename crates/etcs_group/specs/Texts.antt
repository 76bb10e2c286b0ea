-- The texts of clashes and faults.
use Rattle.std.specs.Prelude.{ℕ, List, codes}
use Rattle.etcs_group.specs.declared.clash.Clash.{Clash}
use Rattle.etcs_group.specs.declared.clash.Clash.TheVariants.{BadPosition, BadDuplicate, OtherGroup, OtherTotal, Counter, Differs}
use Rattle.etcs_group.specs.declared.fault.GroupFault.{GroupFault}
use Rattle.etcs_group.specs.declared.fault.GroupFault.TheVariants.{NotWhole, Memory}

-- how a clash is printed
abbrev pub clash_text : Clash → List ℕ
clash_text BadPosition = codes "the position is after the group's last"
clash_text BadDuplicate = codes "the position has no such neighbour to be a duplicate of"
clash_text OtherGroup = codes "the telegram is of another group"
clash_text OtherTotal = codes "the telegram counts other balises in the group"
clash_text Counter = codes "the message counters don't agree"
clash_text Differs = codes "another telegram is held at this position"

-- how the fault of a group's message is printed
abbrev pub group_fault_text : GroupFault → List ℕ
group_fault_text NotWhole = codes "the group isn't whole"
group_fault_text Memory = codes "out of memory"
