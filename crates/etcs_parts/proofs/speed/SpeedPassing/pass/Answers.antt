use Rattle.std.proofs.Common.{◌∷◌, [], refl}
use Rattle.std.proofs.lemmas.Result.{IfOk-weaker}
use Rattle.etcs_bits.specs.Bits.{bit}
use Rattle.etcs_vars.specs.Reading.{Reading}
use Rattle.etcs_vars.specs.declared.var.Var.TheVariants.{D_STATIC, V_STATIC, Q_FRONT, N_ITER}
use Rattle.etcs_bodies.specs.Formats.{reading}
use Rattle.etcs_bodies.specs.Codecs.{list_reading}
use Rattle.etcs_bodies.specs.laws.Takes.{flag_sound}
use Rattle.etcs_bodies.specs.laws.Passing.{number_before, went_both}
use Rattle.etcs_parts.specs.Differings.{differing_format}
use Rattle.etcs_parts.specs.Speeds.{speed_value}
use Rattle.etcs_parts.proofs.speed.SpeedPassing.pass.Goals as goal

pub returns-clause-passed : goal.returns-clause-passed
returns-clause-passed g c =
    let left = g.L.NextNumber.left in
    let s = g.met.S.VarSink in
    let k = c.in-Some in
    let (u, n, (w, m, f)) = k.ensures.some in
    let flag : Reading = (Q_FRONT, bit k.q_front) ∷ [] in
    let beyond : Reading = (V_STATIC, k.v_static) ∷ flag in
    let front : Reading = (D_STATIC, k.d_static) ∷ beyond in
    let taken = number_before D_STATIC k.d_static (left c.args.numbers.now) u (left c.run.new.self) beyond n.0 (number_before V_STATIC k.v_static u w (left c.run.new.self) flag m.0 (flag_sound Q_FRONT k.q_front w (left c.run.new.self) refl f)) in
    IfOk-weaker c.pass.result _ _ (λ b h yes.
    let (ds, all, x) = h yes in (
      speed_value k.d_static k.v_static k.q_front ds,
      (n.1, (m.1, (tt, all))),
      went_both g.S.VarSink.with s.with_both (left c.args.numbers.now) (left c.run.new.self) (left c.pass.new.numbers) c.args.out.now c.send.new.self c.pass.new.out front (list_reading N_ITER (reading differing_format) ds) (record { taken = taken; sent = rw c.from.ensures at c.in_ok-send.ensures.ok }) x,
    )) c.pass.ensures.passed
