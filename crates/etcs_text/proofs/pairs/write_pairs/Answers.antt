use Rattle.std.proofs.Common.{Bool, List, ◌++◌, ap, refl, ◌∙◌}
use Rattle.etcs_bits.specs.Bits.{bits}
use Rattle.etcs_bits.proofs.ByteBits.{bits-append}
use Rattle.etcs_text.proofs.Written.{long_none}
use Rattle.etcs_text.proofs.pairs.write_pairs.Goals as goal

pub returns-in_default-clause-ok : goal.returns-in_default-clause-ok
returns-in_default-clause-ok c = (λ item. long_none c.args.kind c.args.pairs.now (rw c.in_default.is at c.bytes_of.ensures) item, refl)

pub returns-clause-ok : goal.returns-clause-ok
returns-clause-ok c =
    let old = c.args.out.now.items in
    let item = c.in_ok-are_item.ensures.0 c.if-not-branch.false in
    let added = c.as_slice-2.result.now in
    let spells = ap bits c.as_slice-2.ensures.value ∙ c.in_ok-bytes.ensures in
    (item, ap bits c.in_ok-extend_from_slice.ensures.items ∙ bits-append old added ∙ ap (λ (t : List Bool). bits old ++ t) spells)
