use Rattle.std.proofs.Common.{◌<◌, length, arith}
use Rattle.etcs_bits.specs.Bits.{bits}
use Rattle.etcs_reader.specs.Blocks.{Continues}
use Rattle.etcs_rows.specs.Causes.{Passes}
use Rattle.etcs_rows.proofs.RefusalLemmas.{blocks_same, begins_at, explained}
use Rattle.etcs_rows.proofs.refused.refusal_of.Goals as goal

pub refusal_by-requires-clause-block : goal.refusal_by-requires-clause-block
refusal_by-requires-clause-block g c =
    let L = g.R.Rest.left c.args.feeder.now.rest in
    let x = c.args.var in
    record { numbers = blocks_same (Continues L x) (Passes c.args.here x) c.requires.here.passes c.requires.here.continues x c.block-block.result c.block-block.ensures.block }

pub refusal_by-requires-clause-within : goal.refusal_by-requires-clause-within
refusal_by-requires-clause-within g c =
    let (start, fed) = c.requires.fed in
    let (stop, count, n, is, h) = fed in
    let p = c.block-block.ensures.bits start fed in
    let b = c.block-block.result in
    let within : c.args.bit < length (bits c.args.bytes.now) = omega (arith, is, h.refuses.within) in
    (begins_at p.whole b.count b.bits c.args.bit (bits c.args.bytes.now) p.bits within).0

pub returns : goal.returns
returns g c =
    let b = c.block-block.result in
    let xs = bits c.args.bytes.now in
    let m = c.refusal_by.ensures in
    record {
      bit = m.same.0;
      var = m.same.1;
      explains = λ start fed.
          (let (stop, count, n, is, refused) = fed in
          let p = c.block-block.ensures.bits start fed in
          let d = g.met.R.Rest.residual start c.args.feeder.now.rest p.whole p.follows in
          let within : c.args.bit < length xs = omega (arith, is, refused.refuses.within) in
          explained (g.R.Rest.left start) p.whole (g.R.Rest.left c.args.feeder.now.rest) d c.args.var c.args.here c.requires.here xs c.args.bit b.count b.bits p.bits within c.refusal_by.result m.same.0 m.same.1 m.same.2 m.same.3 m.same.4 m.number m.reasons);
    }
