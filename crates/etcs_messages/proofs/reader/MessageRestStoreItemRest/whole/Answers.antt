use Rattle.std.proofs.Common.{◌≡◌, ℕ, ◌*◌, ◌≤◌, Some, None, length, arith}
use Rattle.std.specs.Prelude.{Option, IfSome}
use Rattle.etcs_bits.specs.Bits.{bits}
use Rattle.etcs_bits.proofs.Positions.{length-bits}
use Rattle.etcs_messages.proofs.reader.MessageRestStoreItemRest.whole.Goals as goal

-- eight bits a byte
within_bits : {A : Type 0} (o : Option (A × ℕ)) (n m : ℕ) → m ≡ 8 * n → IfSome o (λ t. t.1 ≤ n) → IfSome o (λ t. 8 * t.1 ≤ m)
within_bits None n m e h = tt
within_bits (Some t) n m e h = omega (arith, e, h)

pub returns-clause-within : goal.returns-clause-within
returns-clause-within g c = within_bits c.message_at.result (length c.args.piece.now) (length (bits c.args.piece.now)) (length-bits c.args.piece.now) c.message_at.ensures.within

pub message_at-requires-clause-part : goal.message_at-requires-clause-part
message_at-requires-clause-part g c = rw c.requires.none tt

pub returns-clause-left : goal.returns-clause-left
returns-clause-left g c = rw c.requires.none at c.message_at.ensures.left
