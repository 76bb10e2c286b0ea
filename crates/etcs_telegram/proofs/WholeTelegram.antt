-- A telegram that lies whole in a piece.
use Rattle.std.proofs.Common.{◌≡◌, ℕ, ◌+◌, ◌-◌, ◌*◌, ◌≤◌, Bool, true, false, List, [], ◌++◌, length, Option, Some, None, is_some, refl, sym, ap, subst, ◌∙◌, arith}
use Rattle.std.proofs.lemmas.Bool.{both_ways}
use Rattle.etcs_bits.specs.Bits.{num, bits, part}
use Rattle.etcs_bits.proofs.Lists.{length-part, part-add}
use Rattle.etcs_bits.proofs.Positions.{length-bits}
use Rattle.etcs_vars.specs.Reading.{Reading, spelled, IsAdmitted}
use Rattle.etcs_packets.specs.declared.packet.Packet.{Packet}
use Rattle.etcs_packets.specs.PacketValues.{form}
use Rattle.etcs_rows.specs.declared.frames.Carrier.TheVariants as carrier
use Rattle.etcs_sequence.specs.AtOnce.{Holds, RunAt}
use Rattle.etcs_sequence.specs.Held.{list_holds}
use Rattle.etcs_sequence.specs.Labels.{labelled}
use Rattle.etcs_sequence.proofs.LabelLaws.{numbers_labelled}
use Rattle.etcs_telegram.specs.declared.size.Size.{Size}
use Rattle.etcs_telegram.specs.Telegrams.{HeaderValue, TelegramValue, TelegramReads, IsTelegram, ReadsAs, telegram_value, header_reading, header_of, closed_reading, user_bits, pad_bits, packet_room, container_bytes}
use Rattle.etcs_tables.specs.Headers.{header_row}
use Rattle.etcs_telegram.specs.Headers.{IsHeaderNumbers}
use Rattle.etcs_telegram.specs.Fronts.{FieldsIn}
use Rattle.etcs_telegram.specs.Writing.{telegram_reading}
use Rattle.etcs_telegram.proofs.Encoding.{room_more, user_small, whole_bytes, telegram_inner}
use Rattle.etcs_telegram.proofs.FrontSteps.{fields_count, fields_read, fields_bits}
use Rattle.etcs_telegram.proofs.HeaderLemmas.{header_length}
use Rattle.etcs_telegram.proofs.Rows.{row_header, admitted_row}
use Rattle.etcs_telegram.proofs.Spellings.{held, parts_one}

-- ---- The header.

module _ (word : ℕ) (ns : List ℕ) (h : FieldsIn header_row word ns) where
  pub header_numbers : IsHeaderNumbers ns
  header_numbers = record {
    ten = fields_count header_row word ns h;
    admitted = admitted_row header_row (labelled header_row ns) (fields_read header_row word ns h);
  }

  header_is : labelled header_row ns ≡ header_reading (header_of ns)
  header_is =
      row_header (labelled header_row ns) (fields_read header_row word ns h)
      ∙ ap (λ (ms : List ℕ). header_reading (header_of ms)) (numbers_labelled header_row ns (fields_count header_row word ns h))

  pub header_admits : IsAdmitted (header_reading (header_of ns))
  header_admits = subst IsAdmitted header_is header_numbers.admitted

  pub header_bits : spelled (header_reading (header_of ns)) ≡ num 50 word
  header_bits = ap spelled (sym header_is) ∙ fields_bits header_row word ns h

-- ---- The front.

-- the header that was found
pub found : (o : Option HeaderValue) → is_some o ≡ true → (h : HeaderValue) × (o ≡ Some h)
found None e = absurd (both_ways false refl e)
found (Some h) e = (h, refl)

-- ---- Parts one after another.

parts_more : (n m all : ℕ) (xs : List Bool) → all ≡ n + m → part 0 all xs ≡ part 0 n xs ++ part n m xs
parts_more n m all xs e =
    let same : 0 + n ≡ n = omega arith in
    ap (λ (k : ℕ). part 0 k xs) e ∙ part-add 0 n m xs ∙ ap (λ (k : ℕ). part 0 n xs ++ part k m xs) same

four_parts : (xs : List Bool) (a b c d second third all : ℕ) → second ≡ a + b → third ≡ second + c → all ≡ third + d → part 0 all xs ≡ ((part 0 a xs ++ part a b xs) ++ part second c xs) ++ part third d xs
four_parts xs a b c d second third all e f g =
    parts_more third d all xs g
    ∙ ap (λ (l : List Bool). l ++ part third d xs) (parts_more second c third xs f ∙ ap (λ (l : List Bool). l ++ part second c xs) (parts_more a b second xs e))

-- ---- All of it.

pub container_inside : (size : Size) (piece : List ℕ) → container_bytes size ≤ length piece → user_bits size + pad_bits size ≤ length (bits piece)
container_inside size piece h = omega (arith, h, length-bits piece, whole_bytes size)

-- the first bits of the piece, as many as the container has, spell this telegram of the size
abbrev pub ReadsFront : Size → List ℕ → TelegramValue → Type 0
ReadsFront size piece t = (r : Reading) × ReadsAs size t r × (spelled r ≡ part 0 (8 * container_bytes size) (bits piece))

-- packets in their room, of which this many bits are left, and the bits of FILL after them
module _ (size : Size) (piece : List ℕ) (left room user : ℕ) (H : Holds) (long : container_bytes size ≤ length piece) (room_is : room ≡ packet_room size) (user_is : user ≡ user_bits size) (run : RunAt carrier.Telegram room H (bits piece) 50 left) (fill : List Bool) (fill_is : fill ≡ part (user - left) left (bits piece)) where
  pub fill_long : length fill ≡ left
  fill_long =
      let inside : (user - left) + left ≤ length (bits piece) = omega (arith, run.within, room_is, user_is, room_more size, container_inside size piece long) in
      ap length fill_is ∙ length-part (user - left) left (bits piece) inside

  pub fill_fits : 0 + length fill ≤ 8191
  fill_fits = omega (arith, fill_long, run.within, room_is, room_more size, user_small size)

  module _ (header : HeaderValue) (admitted : IsAdmitted (header_reading header)) where
    abbrev pub seen : TelegramValue
    seen = record { size = size; header = header; packets = run.packets; fill = fill }

    seen_holds : TelegramReads seen (telegram_reading seen)
    seen_holds =
        let run_long : length (spelled (closed_reading run.packets)) + left ≡ room = run.long in
        record {
          header_admitted = admitted;
          packets_hold = λ i d lt. run.run.carried i d lt;
          reading_is = refl;
          user_bits_is = omega (arith, header_length header, run_long, room_is, room_more size, fill_long);
        }

    -- the telegram of the packets, whatever holds them
    pub seen_reads : spelled (header_reading header) ≡ part 0 50 (bits piece) → part (user_bits size) (pad_bits size) (bits piece) ≡ num (pad_bits size) 0 → ReadsFront size piece seen
    seen_reads front zeros =
        let xs = bits piece in
        let p0 = part 0 50 xs in
        let p1 = part 50 (room - left) xs in
        let p2 = part (user - left) left xs in
        let c = spelled (closed_reading run.packets) in
        let closed : c ≡ p1 = run.bits in
        let second : user - left ≡ 50 + (room - left) = omega (arith, run.within, room_is, user_is, room_more size) in
        let third : user_bits size ≡ user - left + left = omega (arith, run.within, room_is, user_is, room_more size) in (
          telegram_reading seen,
          (refl, seen_holds),
          telegram_inner seen
              ∙ ap (λ (b : List Bool). ((b ++ c) ++ fill) ++ num (pad_bits size) 0) front
              ∙ ap (λ (b : List Bool). ((p0 ++ b) ++ fill) ++ num (pad_bits size) 0) closed
              ∙ ap (λ (b : List Bool). ((p0 ++ p1) ++ b) ++ num (pad_bits size) 0) fill_is
              ∙ ap (λ (b : List Bool). ((p0 ++ p1) ++ p2) ++ b) (sym zeros)
              ∙ sym (four_parts xs 50 (room - left) left (pad_bits size) (user - left) (user_bits size) (8 * container_bytes size) second third (sym (whole_bytes size))),
        )

    pub seen_found : spelled (header_reading header) ≡ part 0 50 (bits piece) → part (user_bits size) (pad_bits size) (bits piece) ≡ num (pad_bits size) 0 → (t : TelegramValue) × (r : Reading) × ReadsAs size t r × (spelled r ≡ part 0 (8 * container_bytes size) (bits piece))
    seen_found front zeros = let (r, reads, is) = seen_reads front zeros in (seen, r, reads, is)

    -- the same of a store's packets
    module _ (ps : List Packet) (f : List ℕ) (k : List Bool) (kept : list_holds form ps f k run.packets [] fill) where
      kept_is : seen ≡ telegram_value (held size header ps k)
      kept_is = parts_one seen (telegram_value (held size header ps k)) refl refl kept.0 kept.1.1.1

      pub whole_value : IsTelegram (held size header ps k)
      whole_value =
          let reads = subst (λ (t : TelegramValue). TelegramReads t (telegram_reading t)) kept_is seen_holds in
          record {
            header = admitted;
            made = kept.1.0;
            packets = reads.packets_hold;
            fill = omega (arith, header_length header, reads.user_bits_is);
          }

      pub whole_reads : spelled (header_reading header) ≡ part 0 50 (bits piece) → part (user_bits size) (pad_bits size) (bits piece) ≡ num (pad_bits size) 0 → ReadsFront size piece (telegram_value (held size header ps k))
      whole_reads front zeros = subst (ReadsFront size piece) kept_is (seen_reads front zeros)
