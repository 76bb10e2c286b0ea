use Rattle.std.proofs.Common.{rules}
use Rattle.etcs_parts.specs.laws.Authorities.{groups_bits}
use Rattle.etcs_parts.proofs.authority.Authority.group_bits.Goals as goal

pub returns-clause-bits : goal.returns-clause-bits
returns-clause-bits c =
    let i = c.args.self.now in
    groups_bits i.end_timer i.danger_point i.overlap c.if-is_some.end_timer c.if-is_some-2.danger_point c.if-is_some-3.overlap (search rules) (search rules) (search rules)
