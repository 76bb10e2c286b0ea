use Rattle.std.proofs.Common.{◌++◌, ◌∙◌, take, map, sym, ap, refl, arith, append-nil}
use Rattle.etcs_packet_text.specs.Show.{bit_digit}
use Rattle.etcs_packet_text.proofs.Texts.{byte_more, bits_last, bits_none, bits_on}
use Rattle.etcs_packet_text.proofs.page.bits.put_bits.Goals as goal

pub loop-left-init : goal.loop-left-init
loop-left-init c =
    let none = bits_none c.args.number c.args.width in
    (omega arith, refl, refl, sym (append-nil _) ∙ ap (λ z. take c.args.at c.args.place.now ++ map bit_digit z) (sym none))

pub loop-left-preserved : goal.loop-left-preserved
loop-left-preserved c =
    let l = c.loop-left in
    let some = c.loop-left-test.true in
    let bytes = l.invariant.3 in
    let put = c.put_byte-end in (
      omega (arith, l.invariant.0),
      omega (arith, l.invariant.1, put.ensures.end, some),
      put.ensures.len ∙ l.invariant.2,
      bits_on (take c.args.at c.args.place.now) _ _ _ _ _ bytes put.ensures.bytes (sym (byte_more c.args.number c.args.width l.left some l.invariant.0)),
    )

pub returns-clause-bytes : goal.returns-clause-bytes
returns-clause-bytes c =
    let l = c.loop-left in
    bits_on (take c.args.at c.args.place.now) _ _ _ _ _ l.invariant.3 c.put_few.ensures.bytes (bits_last c.args.number c.args.width l.left l.invariant.0)
