-- What was read of a telegram that is whole.
use Rattle.std.proofs.Common.{◌≡◌, ℕ, Bool, false, List, ◌++◌, length, None, refl, sym, ap, subst, ◌∙◌, arith, append_assoc}
use Rattle.std.specs.Prelude.{replicate, map, All}
use Rattle.std.proofs.lemmas.List.{length-append}
use Rattle.etcs_vars.specs.declared.var.Var.TheVariants.{FILL, PAD}
use Rattle.etcs_vars.specs.Reading.{Reading, spelled, numbers, kept, IsAdmitted}
use Rattle.etcs_vars.proofs.Apart.{cut}
use Rattle.etcs_vars.specs.laws.Spellings.{spelled-append}
use Rattle.etcs_packets.specs.PacketValues.{PacketValue, packet_value, IsPacket}
use Rattle.etcs_sequence.specs.Labels.{labelled}
use Rattle.etcs_sequence.proofs.LabelLaws.{numbers_labelled, labelled_count}
use Rattle.etcs_sequence.proofs.BitLaws.{bits_length}
use Rattle.etcs_telegram.specs.declared.size.Size.{Size}
use Rattle.etcs_telegram.specs.declared.store.TelegramStore.{TelegramStore}
use Rattle.etcs_telegram.specs.declared.phase.Phase.{Phase}
use Rattle.etcs_telegram.specs.declared.phase.Phase.TheVariants.{Whole}
use Rattle.etcs_telegram.specs.Telegrams.{header_reading, header_of, closed_reading, IsTelegram, ReadsAs, pad_bits, telegram_value, HeaderValue, TelegramReads, TelegramLanguage}
use Rattle.etcs_tables.specs.Headers.{header_row}
use Rattle.etcs_telegram.specs.Headers.{IsHeaderNumbers}
use Rattle.etcs_telegram.specs.Phases.{beyond_header}
use Rattle.etcs_telegram.specs.Lefts.{HoldsBy, TelegramState, next_var}
use Rattle.etcs_telegram.specs.laws.RestLaws.{ended_whole}
use Rattle.etcs_telegram.specs.Readers.{store_holds, far_at, so_far, telegram_by, OwnHeld}
use Rattle.etcs_telegram.proofs.HeaderLemmas.{header_back, header_length}
use Rattle.etcs_telegram.proofs.Spellings.{whole_length, zeros_length}

-- ten numbers of the header, packets with 255, FILL and zeros that are a telegram's reading are that of their own
pub whole_reads : (size : Size) (header : List ℕ) (vs : List PacketValue) (fill : List Bool) (q : Reading) → length header ≡ 10 → All IsPacket vs → TelegramLanguage size q → q ≡ labelled header_row header ++ beyond_header (closed_reading vs) fill (pad_bits size)
    → TelegramReads (record { size = size; header = header_of header; packets = vs; fill = fill }) q × IsHeaderNumbers header
whole_reads size header vs fill q ten carried (t, (st, x)) e =
    let h = labelled header_row header in
    let p = closed_reading vs in
    let zeros = kept PAD (replicate (pad_bits size) false) in
    let k = header_reading t.header in
    let l = labelled_count header_row header ten in
    let far : h ++ (p ++ (kept FILL fill ++ zeros)) ≡ k ++ (closed_reading t.packets ++ (kept FILL t.fill ++ kept PAD (replicate (pad_bits t.size) false))) =
    sym e ∙ x.reading_is ∙ append_assoc (k ++ closed_reading t.packets) (kept FILL t.fill) (kept PAD (replicate (pad_bits t.size) false)) ∙ append_assoc k (closed_reading t.packets) (kept FILL t.fill ++ kept PAD (replicate (pad_bits t.size) false)) in
    let same : h ≡ k = (cut h k (p ++ (kept FILL fill ++ zeros)) (closed_reading t.packets ++ (kept FILL t.fill ++ kept PAD (replicate (pad_bits t.size) false))) l far).0 in
    let parts : header_of header ≡ t.header = ap header_of (sym (numbers_labelled header_row header ten) ∙ ap numbers same) ∙ header_back t.header in
    let is : h ≡ header_reading (header_of header) = same ∙ ap header_reading (sym parts) in
    let total = whole_length size q (t, (st, x)) in
    let bits = ap (λ (r : Reading). length (spelled r)) e in
    let b1 = ap length (spelled-append h (p ++ (kept FILL fill ++ zeros))) ∙ length-append (spelled h) (spelled (p ++ (kept FILL fill ++ zeros))) in
    let b2 = ap length (spelled-append p (kept FILL fill ++ zeros)) ∙ length-append (spelled p) (spelled (kept FILL fill ++ zeros)) in
    let b3 = ap length (spelled-append (kept FILL fill) zeros) ∙ length-append (spelled (kept FILL fill)) (spelled zeros) in
    let b4 = ap (λ (r : Reading). length (spelled r)) is in (
      record {
        header_admitted = subst (λ (h : HeaderValue). IsAdmitted (header_reading h)) (sym parts) x.header_admitted;
        packets_hold = carried;
        reading_is = e ∙ ap (λ (r : Reading). r ++ (p ++ (kept FILL fill ++ zeros))) is ∙ sym (append_assoc (header_reading (header_of header)) p (kept FILL fill ++ zeros)) ∙ sym (append_assoc (header_reading (header_of header) ++ p) (kept FILL fill) zeros);
        user_bits_is = omega (arith, total, bits, b1, b2, b3, b4, bits_length FILL fill refl, zeros_length size);
      },
      record { ten = ten; admitted = subst IsAdmitted (sym same) x.header_admitted },
    )

-- what a reader keeps at the end is a telegram, and q is its reading
pub record Finished (own : Size) (s : TelegramState TelegramStore) (q : Reading) : Type 0 where
  pub telegram : IsTelegram (telegram_by s)
  pub reads : ReadsAs own (telegram_value (telegram_by s)) q
  pub numbers : IsHeaderNumbers s.header

module _ (own : Size) (s : TelegramState TelegramStore) where
  -- where it stands for all of one
  abbrev Finishes : Phase → Type 0
  Finishes phase = TelegramLanguage own (far_at phase s) → (s.size ≡ own) × HoldsBy s.size phase s.header s.left (store_holds s.store) (far_at phase s) → Finished own s (far_at phase s)

  at_whole : Finishes Whole
  at_whole lang (same, h) =
      let q = far_at Whole s in
      let k = s.store.list in
      let vs = map packet_value k.packets.items in
      let carried : All IsPacket vs = subst (All IsPacket) h.held.0 h.carried in
      let is = whole_reads s.size s.header vs k.bits q h.ten carried (subst (λ (z : Size). TelegramLanguage z q) (sym same) lang) refl in
      record {
        telegram = record {
          header = is.0.header_admitted;
          made = h.held.1.0;
          packets = carried;
          fill = omega (arith, is.0.user_bits_is, header_length (header_of s.header));
        };
        reads = (same, is.0);
        numbers = is.1;
      }

  pub finished_is : next_var s ≡ None → TelegramLanguage own (so_far s) → OwnHeld own s (so_far s) → Finished own s (so_far s)
  finished_is e = subst Finishes (sym (ended_whole s e)) at_whole
