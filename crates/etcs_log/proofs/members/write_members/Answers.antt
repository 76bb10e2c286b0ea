use Rattle.etcs_log.specs.Notes.{members}
use Rattle.etcs_log.proofs.members.write_members.Goals as goal

pub returns-in-Bytes : goal.returns-in-Bytes
unfolding members
returns-in-Bytes c = rw c.in-Bytes.is c.write-in-Bytes.ensures.bytes

pub returns-in-Other : goal.returns-in-Other
unfolding members
returns-in-Other c = rw c.in-Other.is c.write-in-Other.ensures.bytes

pub returns-in-OtherBits : goal.returns-in-OtherBits
unfolding members
returns-in-OtherBits c = rw c.in-OtherBits.is (rw c.user_bits.ensures at c.write-in-OtherBits.ensures.bytes)

pub returns-in-Another : goal.returns-in-Another
unfolding members
returns-in-Another c = rw c.in-Another.is c.write-in-Another.ensures.bytes
