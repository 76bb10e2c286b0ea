use Rattle.etcs_stream.proofs.printer.put_checked.Goals as goal

pub returns-in-Long-clause-ok : goal.returns-in-Long-clause-ok
returns-in-Long-clause-ok c = λ e b is. rw (c.item_bits.ensures e b (rw c.in-Long.is at is)) at c.put_checked.ensures.ok

pub returns-in-Short-clause-ok : goal.returns-in-Short-clause-ok
returns-in-Short-clause-ok c = λ e b is. rw (c.item_bits-in-Short.ensures e b (rw c.in-Short.is at is)) at c.put_checked-in-Short.ensures.ok

pub returns-in-Radio-clause-ok : goal.returns-in-Radio-clause-ok
returns-in-Radio-clause-ok c = λ e b is. rw (c.item_bits-in-Radio.ensures e b is) at c.put_checked-in-Radio.ensures.ok
