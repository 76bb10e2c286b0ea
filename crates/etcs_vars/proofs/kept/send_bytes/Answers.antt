use Rattle.std.proofs.Common.{◌≡◌, ◌+◌, ◌≤◌, take, sym, ap, ◌∙◌, arith}
use Rattle.std.proofs.lemmas.List.{map-append}
use Rattle.std.proofs.Math.Seq.{take-add}
use Rattle.etcs_bits.specs.Bits.{num, part}
use Rattle.etcs_vars.specs.Reading.{kept}
use Rattle.etcs_vars.proofs.KeptBytes.{word_bits}
use Rattle.etcs_vars.proofs.kept.send_bytes.Goals as goal

pub loop-place-preserved : goal.loop-place-preserved
loop-place-preserved g c =
    let S = g.S.VarSink in
    let l = c.loop-place in
    let v = c.args.var in
    let word = c.args.word in
    let xs = num 64 word in
    let within : l.place + 8 ≤ c.args.count = omega (arith, c.loop-place-test.true, l.invariant.0) in
    let is = word_bits word l.place 8 (omega (arith, within, c.requires)) in (
      within,
      c.in_ok-send.ensures.ok
          ∙ ap (S.with l.out) (c.of_byte.ensures ∙ ap (kept v) is)
          ∙ ap (λ o. S.with o (kept v (part l.place 8 xs))) l.invariant.1
          ∙ sym (g.met.S.VarSink.with_both c.args.out.now (kept v (take l.place xs)) (kept v (part l.place 8 xs)))
          ∙ ap (S.with c.args.out.now) (sym (map-append _ (take l.place xs) (part l.place 8 xs)) ∙ ap (kept v) (sym (take-add l.place 8 xs))),
    )
