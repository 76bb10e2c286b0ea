use Rattle.std.proofs.Common.{◌≡◌, ◌++◌, subst}
use Rattle.std.specs.Result.{OnOk}
use Rattle.etcs_bits.proofs.Owned.{pushed_bit}
use Rattle.etcs_bits.proofs.bits.Bits.push.Goals as goal

pub returns-clause-ok : goal.returns-clause-ok
returns-clause-ok c =
    subst (λ l. OnOk c.push_number.result (c.push_number.new.self ≡ c.args.self.now ++ l)) (pushed_bit c.args.bit c.from.result c.from.ensures) c.push_number.ensures.ok
