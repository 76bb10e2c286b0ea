use Rattle.std.proofs.Common.{◌∙◌, [], ℕ, get_or, ap, arith}
use Rattle.etcs_packet_text.proofs.ByteDigits.{byte_digits}
use Rattle.etcs_packet_text.specs.declared.page.bits.TheConstants.{BYTES}
use Rattle.etcs_packet_text.proofs.page.bits.byte_digits.Goals as goal

pub returns : goal.returns
returns c = ap (λ (k : ℕ). get_or BYTES k []) c.from.ensures ∙ byte_digits [] c.args.byte (omega arith)
