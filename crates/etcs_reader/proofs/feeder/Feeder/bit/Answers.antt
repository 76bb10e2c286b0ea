use Rattle.std.proofs.Common.{◌≡◌, [], ◌∷◌, Some, None, Err, refl, subst, arith}
use Rattle.etcs_bits.specs.Bits.{bits}
use Rattle.etcs_bits.proofs.Positions.{length-bits}
use Rattle.etcs_reader.specs.Feeders.{FeederValue, Feeds}
use Rattle.etcs_reader.specs.Readers.{part_of}
use Rattle.etcs_reader.proofs.Passing.{takes_all}
use Rattle.etcs_reader.proofs.Single.{last_bit, value, bit_halts}
use Rattle.etcs_reader.proofs.feeder.Feeder.bit.Goals as goal

pub step-requires-clause-inside : goal.step-requires-clause-inside
step-requires-clause-inside g c = let l = length-bits (c.from.result ∷ []) in omega (arith, l)

pub step-requires-clause-small : goal.step-requires-clause-small
step-requires-clause-small g c = let l = length-bits (c.from.result ∷ []) in omega (arith, l)

pub returns-in-Ok-clause-going : goal.returns-in-Ok-clause-going
returns-in-Ok-clause-going g c =
    let R = g.R.Rest in
    let s = c.self.inside.reader in
    let t = c.step.new.self in
    let n = c.in-Ok.field-0 in
    let a = c.in-Ok.ensures.ok in
    let l = length-bits (c.from.result ∷ []) in
    let one : n ≡ 1 = omega (arith, a.some, a.inside, l) in
    let last = last_bit c.args.bit c.from.result c.from.ensures in
    let passed = rw (one, last) at a.passed in
    rw (← c.self.view_is)
    (λ going. (going, refl, takes_all R.left g.met.R.Rest.regular R.next g.met.R.Rest.begins_with g.met.R.Rest.ended R.follows g.met.R.Rest.residual s.rest (part_of s) t (c.args.bit ∷ []) 1 passed a.reader (omega arith) (λ x e. refl)))

pub returns-in-Err-clause-going : goal.returns-in-Err-clause-going
returns-in-Err-clause-going g c =
    let R = g.R.Rest in
    let i = c.self.inside in
    let why = c.stop_at-why.result in
    subst (λ (v : FeederValue g.row.R.Denot). v.stop ≡ None → Feeds g.row.R.Denot R.left R.next R.follows R.fails v (c.args.bit ∷ []) (Err why) (value c.step.new.self i.count (Some why))) c.self.view_is
    (λ going. bit_halts R.left R.next R.follows R.fails i.reader c.step.new.self i.count c.args.bit i.stop c.in-Err.halt why (bits (c.from.result ∷ [])) c.stop_at-why.ensures (last_bit c.args.bit c.from.result c.from.ensures) c.in-Err.ensures.err)
