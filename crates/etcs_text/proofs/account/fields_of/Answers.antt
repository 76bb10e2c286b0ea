use Rattle.std.proofs.Common.{◌++◌, ◌∙◌, length, ap, arith}
use Rattle.etcs_bits.proofs.Numbers.{length-num}
use Rattle.etcs_vars.specs.Reading.{Reading, spelled}
use Rattle.etcs_text.proofs.account.fields_of.Goals as goal

pub overflow_sub-bits : goal.overflow_sub-bits
overflow_sub-bits g c =
    let u = c.unfinished-count in
    omega (arith, c.requires.taken, ap length u.ensures.bits, length-num u.result.1 u.result.0, c.count.ensures)

pub send-requires-clause-taken : goal.send-requires-clause-taken
send-requires-clause-taken g c =
    let u = c.unfinished-count in
    let far = ap (λ r. length (spelled (g.R.ItemRest.far r))) c.rest.ensures in
    omega (arith, far, c.requires.taken, ap length u.ensures.bits, length-num u.result.1 u.result.0, c.count.ensures)

pub returns : goal.returns
returns g c = c.into_vec.ensures ∙ c.in_ok-send.ensures.ok ∙ ap (λ (r : Reading). r ++ g.R.ItemRest.far c.rest.result.now) c.new-list.ensures ∙ ap g.R.ItemRest.far c.rest.ensures
