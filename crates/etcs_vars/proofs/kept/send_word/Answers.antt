use Rattle.std.proofs.Common.{◌≡◌, ◌+◌, ◌≤◌, take, sym, ap, ◌∙◌, arith}
use Rattle.std.proofs.lemmas.List.{map-append}
use Rattle.std.proofs.Math.Seq.{take-add}
use Rattle.etcs_bits.specs.Bits.{num, part}
use Rattle.etcs_vars.specs.Reading.{kept}
use Rattle.etcs_vars.proofs.KeptBytes.{one_bit, word_bits, bit_below}
use Rattle.etcs_vars.proofs.kept.send_word.Goals as goal

pub loop-place-preserved : goal.loop-place-preserved
loop-place-preserved g c =
    let S = g.S.VarSink in
    let l = c.loop-place in
    let v = c.args.var in
    let word = c.args.word in
    let xs = num 64 word in
    let inside : l.place + 1 ≤ 64 = omega (arith, c.loop-place-test, c.requires) in
    let sent = sym (one_bit v _ (bit_below word l.place inside)) ∙ ap (kept v) (word_bits word l.place 1 inside) in
    c.in_ok-send.ensures.ok
    ∙ ap (S.with l.out) sent
    ∙ ap (λ o. S.with o (kept v (part l.place 1 xs))) l.invariant
    ∙ sym (g.met.S.VarSink.with_both c.args.out.now (kept v (take l.place xs)) (kept v (part l.place 1 xs)))
    ∙ ap (S.with c.args.out.now) (sym (map-append _ (take l.place xs) (part l.place 1 xs)) ∙ ap (kept v) (sym (take-add l.place 1 xs)))
