use Rattle.std.proofs.Common.{ap, refl}
use Rattle.etcs_sequence.proofs.Feeding.{first_is, first_progress}
use Rattle.etcs_sequence.proofs.item.ItemReader.new.Goals as goal

pub new-requires : goal.new-requires
new-requires g c = let (r, l) = c.requires.readable.some in (r, (c.requires.same r).1 l)

pub invariant_of-result : goal.invariant_of-result
invariant_of-result g c =
    let w = c.requires.readable in
    let e = c.new.ensures in (
      record {
        readable = w;
        is = first_is w c.new.result e.part e.count e.stop (rw e.rest c.requires.same) (rw e.rest c.requires.holds);
      },
      tt,
      refl,
    )

pub returns : goal.returns
returns g c =
    let e = c.new.ensures in
    ap (λ s. record { size = c.args.size; progress = s }) (first_progress c.requires.readable c.new.result e.part e.count e.stop (rw e.rest c.requires.same) (rw e.rest c.requires.holds))
