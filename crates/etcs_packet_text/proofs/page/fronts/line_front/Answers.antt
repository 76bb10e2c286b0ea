use Rattle.std.proofs.Common.{◌∙◌, ◌+◌, ℕ, List, length, take, ap, arith}
use Rattle.etcs_vars.specs.Vars.{name}
use Rattle.etcs_packet_text.proofs.Places.{front_first, name_short}
use Rattle.etcs_packet_text.proofs.page.fronts.line_front.Goals as goal

pub returns-clause-front : goal.returns-clause-front
returns-clause-front c =
    let v = c.args.var in
    ap (λ (t : List ℕ). take (length t + 3) c.in-Some.bytes.now) c.name.ensures
    ∙ front_first (name v) _ c.in-Some.bytes.now (name_short v) (c.in-Some.ensures.cases.same ∙ ap (take 32) c.padded_line.ensures)

pub returns-clause-most : goal.returns-clause-most
returns-clause-most c = omega (arith, ap (λ (t : List ℕ). length t) c.name.ensures, name_short c.args.var)
