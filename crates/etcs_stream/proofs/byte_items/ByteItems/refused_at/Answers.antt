use Rattle.std.proofs.Common.{arith}
use Rattle.etcs_bits.specs.Bits.{bits}
use Rattle.etcs_text.specs.Readers.{seen_bits}
use Rattle.etcs_stream.proofs.Fronts.{refused_fronts}
use Rattle.etcs_stream.proofs.byte_items.ByteItems.refused_at.Goals as goal

pub returns : goal.returns
returns c =
    let s = c.args.self.now in
    refused_fronts s.job.kind (seen_bits s.reader.progress) (bits c.args.bytes.now) c.refused_at.result (omega (arith, c.if-bits_seen-gt0.false, c.bits_seen.ensures (seen_bits s.reader.progress) c.requires.progress_is)) c.refused_at.ensures
