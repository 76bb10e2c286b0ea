use Rattle.std.proofs.Common.{◌≡◌, ◌+◌, ◌≤◌, length, take, sym, ap, ◌∙◌, arith}
use Rattle.std.proofs.lemmas.List.{map-append}
use Rattle.std.proofs.Math.Seq.{take-add}
use Rattle.etcs_bits.specs.Bits.{part}
use Rattle.etcs_vars.specs.Reading.{kept}
use Rattle.etcs_vars.proofs.KeptBytes.{word_part}
use Rattle.etcs_vars.proofs.kept.send_bits.Goals as goal

pub loop-from-preserved : goal.loop-from-preserved
loop-from-preserved g c =
    let S = g.S.VarSink in
    let l = c.loop-from in
    let v = c.args.var in
    let xs = c.args.bits.now in
    let count = c.min-count.result in
    let inside : l.from + count ≤ length xs = omega (arith, c.min-count.ensures, l.invariant.0) in
    let is = word_part xs l.from count c.word.result inside (omega (arith, c.min-count.ensures)) c.word.ensures in (
      inside,
      c.in_ok-send_word.ensures.ok
          ∙ ap (S.with l.out) (ap (kept v) is)
          ∙ ap (λ o. S.with o (kept v (part l.from count xs))) l.invariant.1
          ∙ sym (g.met.S.VarSink.with_both c.args.out.now (kept v (take l.from xs)) (kept v (part l.from count xs)))
          ∙ ap (S.with c.args.out.now) (sym (map-append _ (take l.from xs) (part l.from count xs)) ∙ ap (kept v) (sym (take-add l.from count xs))),
    )
