use Rattle.std.proofs.Common.{◌≡◌, ℕ, ap, sym, ◌∙◌, arith}
use Rattle.std.proofs.lemmas.Option.{IfSome_then}
use Rattle.etcs_bits.specs.Bits.{num}
use Rattle.etcs_telegram.specs.Telegrams.{pad_bits}
use Rattle.etcs_telegram.proofs.Encoding.{room_more}
use Rattle.etcs_telegram.proofs.WholeTelegram.{container_inside}
use Rattle.etcs_telegram.proofs.whole.front_of.Goals as goal

pub pad_at_end-requires : goal.pad_at_end-requires
pad_at_end-requires c = omega (arith, c.if-piece-container_bytes.false, c.container_bytes.ensures)

pub header_at_front-requires : goal.header_at_front-requires
header_at_front-requires c =
    let long = container_inside c.args.size c.args.piece.now (omega (arith, c.if-piece-container_bytes.false, c.container_bytes.ensures)) in
    omega (arith, long, room_more c.args.size)

pub returns-clause-within : goal.returns-clause-within
returns-clause-within c =
    IfSome_then c.header_at_front.result c.header_at_front.ensures.admitted (λ _ _. omega (arith, c.if-piece-container_bytes.false, c.container_bytes.ensures))

pub returns-clause-pad : goal.returns-clause-pad
returns-clause-pad c =
    let none : c.pad_at_end.result ≡ 0 = (let test = c.if-pad_at_end-gt0.false in omega (arith, test)) in
    let zeros = sym c.pad_at_end.ensures ∙ ap (λ (n : ℕ). num (pad_bits c.args.size) n) none in
    IfSome_then c.header_at_front.result c.header_at_front.ensures.admitted (λ _ _. zeros)
