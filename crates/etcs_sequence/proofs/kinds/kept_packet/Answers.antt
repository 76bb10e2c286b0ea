use Rattle.std.proofs.Common.{◌≡◌, Option, Some, None, sym, ◌∙◌}
use Rattle.etcs_vars.specs.declared.fault.BuildFault.{BuildFault}
use Rattle.etcs_sequence.proofs.KindBits.{kept_least, kept_made}
use Rattle.etcs_sequence.proofs.kinds.kept_packet.Goals as goal

pub body-requires : goal.body-requires
body-requires c = kept_least c.args.nid c.args.bits.now c.requires

pub direction-requires : goal.direction-requires
direction-requires c = kept_least c.args.nid c.args.bits.now c.requires

pub unreachable-requires : goal.unreachable-requires
unreachable-requires c =
    let made = kept_made c.args.nid c.args.bits.now c.requires c.direction.result c.in_ok-kept.kept c.direction.ensures (c.in_ok-kept.ensures ∙ c.body.ensures) in
    let none : ◌≡◌ {A = Option BuildFault} None (Some c.in-Err.field-0.0) = sym made.0 ∙ c.in-Err.ensures.fault in
    absurd cc

pub returns-clause-bits : goal.returns-clause-bits
returns-clause-bits c =
    let made = kept_made c.args.nid c.args.bits.now c.requires c.direction.result c.in_ok-kept.kept c.direction.ensures (c.in_ok-kept.ensures ∙ c.body.ensures) in
    rw c.in-Ok.ensures.ok made.1
