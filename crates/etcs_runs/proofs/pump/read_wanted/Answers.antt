use Rattle.std.proofs.Common.{arith}
use Rattle.std.proofs.lemmas.List.{length-take-le}
use Rattle.etcs_runs.proofs.Known.{front_bound, front_consumes}
use Rattle.etcs_runs.proofs.pump.read_wanted.Goals as goal

pub returns-clause-bound : goal.returns-clause-bound
returns-clause-bound g c = front_bound c.read.result c.read.new.buffer _ c.read.ensures.bound

pub returns-clause-bytes : goal.returns-clause-bytes
returns-clause-bytes g c =
    let front = length-take-le c.wanted-wanted.result c.args.buffer.now (omega (arith, c.requires.room, c.wanted-wanted.ensures.most)) in
    front_consumes _ _ c.read.result c.read.new.buffer _ (omega (arith, front, c.read.auto.buffer, c.wanted-wanted.ensures.some)) c.read.ensures.bound c.read.ensures.bytes
