use Rattle.std.proofs.Common.{◌/◌, ◌∷◌, length, refl, ap, arith}
use Rattle.std.proofs.lemmas.List.{length-append}
use Rattle.etcs_bits.specs.Bits.{num}
use Rattle.etcs_bits.proofs.Numbers.{length-num}
use Rattle.etcs_vars.specs.declared.var.Var.TheVariants.{NID_MESSAGE, L_MESSAGE}
use Rattle.etcs_vars.specs.Reading.{spelled}
use Rattle.etcs_text.specs.Entries.{of_message}
use Rattle.etcs_json.proofs.PutItems.{frame_put, framed}
use Rattle.etcs_json.proofs.line.put_message.Goals as goal

pub put_length-requires : goal.put_length-requires
put_length-requires g c =
    let (m, r, completes, leaves, bits) = c.in_ok-nid.ensures in
    let all = framed r c.args.out.now c.put.new.out c.put_rest.new.out c.requires c.in_ok-put.ensures bits in
    omega (arith, ap length all, length-append (num 18 0) (spelled r), length-num 18 0)

pub returns : goal.returns
returns g c =
    let nid = c.in_ok-nid.nid in
    let (m, r, completes, leaves, bits) = c.in_ok-nid.ensures in
    let page = c.put_rest.new.out in
    let all = framed r c.args.out.now c.put.new.out page c.requires c.in_ok-put.ensures bits in
    let (whole, is) = c.in_ok-put_length.ensures.some in
    let put = frame_put nid r page c.put_length.new.out all whole is in
    let len = length page / 8 in
    (of_message g.P.AnyPacket.WAY m, (NID_MESSAGE, nid) ∷ (L_MESSAGE, len) ∷ r, (refl, completes len put.1 put.2), leaves, put.0)
