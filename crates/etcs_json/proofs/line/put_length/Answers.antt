use Rattle.etcs_json.proofs.line.put_length.Goals as goal

pub returns-clause-some : goal.returns-clause-some
returns-clause-some c =
    ((rw c.len-len.ensures at c.if-len-ne0.false, rw c.len-len.ensures at c.if-len-gt-MOST_BITS.false), rw (c.from.ensures, c.len-len.ensures) at c.put_over.ensures)
