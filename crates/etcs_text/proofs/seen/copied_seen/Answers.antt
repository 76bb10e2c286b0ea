use Rattle.std.proofs.Common.{◌∙◌, ◌++◌, ℕ, List, ap, drop, length, replicate, arith}
use Rattle.std.proofs.lemmas.List.{length-append, length-drop, length-replicate}
use Rattle.etcs_bits.proofs.Positions.{length-bits}
use Rattle.etcs_text.proofs.SeenItems.{copied_front}
use Rattle.etcs_text.proofs.seen.copied_seen.Goals as goal

pub message_seen-requires : goal.message_seen-requires
message_seen-requires g c =
    let copied = c.copy_from_slice.new.self in
    let count = length c.args.piece.now in
    let zeros = replicate {A = ℕ} 64 0 in
    let rest = drop count zeros in
    omega (arith, length-bits (copied ++ rest), length-append copied rest, length-drop count zeros, length-replicate {A = ℕ} 64 0, ap (λ (l : List ℕ). length l) c.copy_from_slice.ensures.after, c.requires)

pub returns-clause-reads : goal.returns-clause-reads
returns-clause-reads g c =
    let (m, r, reads, is) = c.in_ok-bytes.ensures.reads in
    let rest = drop (length c.args.piece.now) (replicate {A = ℕ} 64 0) in
    (m, r, reads, is ∙ copied_front c.args.piece.now c.copy_from_slice.new.self rest c.in_ok-bytes.bytes c.copy_from_slice.ensures.after (omega (arith, c.if-bytes-count.false)))
