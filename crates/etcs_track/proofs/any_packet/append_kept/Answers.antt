use Rattle.std.proofs.Common.{◌≡◌, [], ◌∷◌, ◌++◌, Bool, List, sym, ap, ◌∙◌}
use Rattle.etcs_vars.specs.declared.var.Var.TheVariants.{NID_PACKET, L_PACKET, OTHER_DATA}
use Rattle.etcs_vars.specs.Reading.{Reading, spelled, kept}
use Rattle.etcs_vars.specs.declared.word_sink.WordSink.{WordSink}
use Rattle.etcs_vars.specs.WordSinks.{and_bits}
use Rattle.etcs_vars.specs.laws.WordSinks.{spelled_both}
use Rattle.etcs_packets.proofs.PacketBits.{spelled_kept}
use Rattle.etcs_track.proofs.any_packet.append_kept.Goals as goal

after_front : (s one two : WordSink) (front : Reading) (b : List Bool) → one ≡ and_bits s (spelled front) → two ≡ and_bits one b → two ≡ and_bits s (spelled (front ++ kept OTHER_DATA b))
after_front s one two front b e f =
    f
    ∙ ap (λ (o : WordSink). and_bits o b) e
    ∙ ap (and_bits (and_bits s (spelled front))) (sym (spelled_kept b))
    ∙ sym (spelled_both s front (kept OTHER_DATA b))

pub returns : goal.returns
returns c = after_front c.args.out.now c.put_reading.new.self c.put_slice.new.self ((NID_PACKET, c.args.nid) ∷ (L_PACKET, c.args.len) ∷ []) c.args.body.now (rw c.from.ensures at c.put_reading.ensures) c.put_slice.ensures
