use Rattle.std.proofs.Common.{Some, sym, ap, ◌∙◌}
use Rattle.etcs_bodies.specs.laws.Sources.{flag_is_in_bits}
use Rattle.etcs_bodies.proofs.Splits.{first_lies}
use Rattle.etcs_bodies.proofs.runs.FlagRun.split.Goals as goal

pub returns-clause-some : goal.returns-clause-some
returns-clause-some c = λ b k h. flag_is_in_bits c.args.self.0 c.field.result b k (first_lies c.args.word 1 c.args.beyond b k h ∙ ap Some (sym c.field.ensures))
