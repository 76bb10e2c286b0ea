use Rattle.etcs_bits.specs.Bits.{bits}
use Rattle.etcs_reader.proofs.Parts.{passed_none}
use Rattle.etcs_reader.proofs.feeder.Feeder.feed.Goals as goal

pub returns-in-None-clause-going : goal.returns-in-None-clause-going
returns-in-None-clause-going g c going =
    let s = c.args.self.now in
    c.take.ensures s.rest s.part (passed_none (λ p. g.R.Rest.follows s.rest p s.rest) (g.met.R.Rest.none s.rest) s.part (bits c.args.piece.now))
