use Rattle.std.proofs.Common.{◌≡◌, ◌+◌, ◌-◌, ◌≤◌, length, sym, ap, subst, ◌∙◌, arith}
use Rattle.etcs_bits.specs.Bits.{bits, part}
use Rattle.etcs_tables.specs.declared.row.Way.{Way}
use Rattle.etcs_tables.specs.Frames.{frame_bits, kept_limit}
use Rattle.etcs_rows.specs.Frames.{way_of}
use Rattle.etcs_sequence.specs.AtOnce.{FrameAt, IsFrameIn}
use Rattle.etcs_sequence.proofs.RunLemmas.{word_frame, frame_short}
use Rattle.etcs_sequence.proofs.run.take_framed.Goals as goal

pub fits-requires : goal.fits-requires
fits-requires g c = frame_short c.way-way.result c.args.word c.frame_in-nid.result c.frame_in-nid.ensures

pub overflow_add-at : goal.overflow_add-at
overflow_add-at g c = omega (arith, c.requires.inside, c.requires.small, c.if-len-front.false, c.if-len-count.false)

pub put_packet-requires-clause-inside : goal.put_packet-requires-clause-inside
put_packet-requires-clause-inside g c = omega (arith, c.requires.inside, c.if-len-front.false, c.if-len-count.false)

pub put_packet-requires-clause-short : goal.put_packet-requires-clause-short
put_packet-requires-clause-short g c =
    let a = c.args in
    let front : c.frame_bits-front.result ≡ frame_bits (way_of a.carrier) = c.frame_bits-front.ensures.bits ∙ ap frame_bits c.way-way.ensures in
    let limit : kept_limit (way_of a.carrier) ≡ kept_limit g.S.PacketSink.WAY = ap kept_limit c.requires.way in
    omega (arith, c.requires.room, c.fits.ensures.within c.if-not-fits.false, front, limit)

pub returns-then-put-clause-whole : goal.returns-then-put-clause-whole
returns-then-put-clause-whole g c =
    let a = c.args in
    let way = way_of a.carrier in
    let f = c.frame_in-nid.result in
    let xs = bits a.piece.now in
    let front : c.frame_bits-front.result ≡ frame_bits way = c.frame_bits-front.ensures.bits ∙ ap frame_bits c.way-way.ensures in
    let is-frame : IsFrameIn way a.word f = subst (λ (w : Way). IsFrameIn w a.word f) c.way-way.ensures c.frame_in-nid.ensures in
    let least : frame_bits way ≤ f.len = omega (arith, front, c.if-len-front.false) in
    let within : a.at + f.len ≤ length xs = omega (arith, c.requires.inside, c.if-len-count.false) in
    let frame : FrameAt way f.nid f.dir f.len a.at xs = word_frame way a.word a.at xs f c.requires.word is-frame least within in
    c.in_ok-put.ensures.whole c.if-put.true a.carrier xs a.at f.len (sym c.way-way.ensures) frame within (ap (λ k. part (a.at + k) (f.len - k) xs) front)
