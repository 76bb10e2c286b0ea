-- What a sink holds that took variables, one after another.
use Rattle.std.proofs.Common.{◌≡◌, ℕ, zero, suc, ◌+◌, ◌<◌, ◌≤◌, false, List, [], ◌∷◌, ◌++◌, length, take, drop, get_or, Some, refl, ap, ◌∙◌, arith}
use Rattle.std.specs.Prelude.{replicate}
use Rattle.std.proofs.Math.Seq.{drop-cons}
use Rattle.std.proofs.lemmas.List.{length-append, length-take-le, take_more, take-replicate}
use Rattle.etcs_vars.specs.declared.var.Var.TheVariants.{PAD}
use Rattle.etcs_vars.specs.Reading.{Reading, kept, spelled}
use Rattle.etcs_vars.specs.laws.Spellings.{spelled-append}
use Rattle.etcs_tables.specs.Headers.{header_row}
use Rattle.etcs_reader.specs.Fields.{first_of}
use Rattle.etcs_packets.specs.PacketValues.{form}
use Rattle.etcs_sequence.specs.Held.{packets_so_far}
use Rattle.etcs_sequence.specs.Labels.{labelled}
use Rattle.etcs_sequence.proofs.LabelLaws.{labelled_more, labelled_widths, length-widths}
use Rattle.etcs_telegram.specs.declared.phase.Phase.{Phase}
use Rattle.etcs_telegram.specs.declared.phase.Phase.TheVariants.{Packets}
use Rattle.etcs_telegram.specs.declared.store.TelegramStore.{TelegramStore}
use Rattle.etcs_telegram.specs.Lefts.{TelegramState}
use Rattle.etcs_telegram.specs.Phases.{header_var}
use Rattle.etcs_telegram.specs.Readers.{far_at, so_far}
use Rattle.etcs_telegram.proofs.RestSteps.{packets_parts}

-- ---- One more of the header's variables.

pub header_more : (ns : List ℕ) (at : ℕ) → length ns ≤ 10 → at < length ns → labelled header_row (take (at + 1) ns) ≡ labelled header_row (take at ns) ++ (header_var at, get_or ns at 0) ∷ []
header_more ns at short lt =
    let long : length (take at ns) ≡ at = length-take-le at ns (omega (arith, lt)) in
    let inside : at < length header_row = omega (arith, short, lt) in
    let row : drop at header_row ≡ get_or header_row at PAD ∷ drop (suc at) header_row = drop-cons header_row at PAD inside in
    let next : first_of (drop (length (take at ns)) header_row) ≡ Some (header_var at) = rw long (rw row refl) in
    ap (labelled header_row) (take_more ns at 0 lt) ∙ labelled_more header_row (take at ns) (header_var at) (get_or ns at 0) next

-- ---- The zeros that end a telegram.

zeros_kept : (n : ℕ) → replicate n (PAD, 0) ≡ kept PAD (replicate n false)
zeros_kept zero = refl
zeros_kept (suc n) = ap (λ (r : Reading). (PAD, 0) ∷ r) (zeros_kept n)

pub zeros_taken : (n : ℕ) → n ≤ 6 → take n (replicate 6 (PAD, 0)) ≡ kept PAD (replicate n false)
zeros_taken n le = take-replicate n 6 (PAD, 0) le ∙ zeros_kept n

-- ---- What was read: the header, and packets.

pub far_long : (s : TelegramState TelegramStore) → s.phase ≡ Packets → length (spelled (so_far s)) ≡ 50 + length (spelled (packets_so_far form s.left.carrier s.left.stage s.store.list.packets.items s.store.list.numbers.items s.store.list.bits))
far_long s e =
    let l = s.store.list in
    let packets = packets_so_far form s.left.carrier s.left.stage l.packets.items l.numbers.items l.bits in
    let header = labelled header_row s.header in
    let far : so_far s ≡ header ++ packets = ap (λ (x : Phase). far_at x s) e in
    let all = ap (λ (t : Reading). length (spelled t)) far ∙ ap length (spelled-append header packets) ∙ length-append (spelled header) (spelled packets) in
    omega (arith, all, length-widths header ∙ labelled_widths header_row s.header (packets_parts s e).0)
