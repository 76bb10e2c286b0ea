use Rattle.std.specs.Prelude.{codes}
use Rattle.etcs_json.proofs.line.pass_own.Goals as goal

pub returns-then-skip : goal.returns-then-skip
returns-then-skip c = (codes "[],\"", c.skip.ensures.taken c.if-skip.true)

pub returns : goal.returns
returns c = rw (c.skip.ensures.none c.if-skip.false) at c.before-2.ensures
