-- What is left of a telegram after its header and the packets that were taken in one pass.
use Rattle.std.proofs.Common.{◌≡◌, ℕ, ◌+◌, ◌-◌, Bool, List, [], ◌++◌, refl, sym, ap, subst, ◌∙◌, arith, ltb}
use Rattle.std.specs.Prelude.{IsTrue, nat_lt}
use Rattle.etcs_bits.specs.Bits.{part}
use Rattle.etcs_bits.proofs.Lists.{part-add}
use Rattle.etcs_vars.specs.Reading.{spelled}
use Rattle.etcs_vars.specs.laws.Spellings.{spelled-append}
use Rattle.etcs_vars.proofs.Languages.{Same}
use Rattle.etcs_rows.specs.declared.frames.Carrier.TheVariants as carrier
use Rattle.etcs_sequence.specs.AtOnce.{RunFirst}
use Rattle.etcs_sequence.specs.declared.state.PacketsState.{PacketsState}
use Rattle.etcs_sequence.specs.Lefts.{is_closed}
use Rattle.etcs_telegram.specs.declared.size.Size.{Size}
use Rattle.etcs_telegram.specs.declared.size.Size.TheVariants.{Short, Long}
use Rattle.etcs_telegram.specs.declared.phase.Phase.TheVariants.{Packets, Fill, Pad}
use Rattle.etcs_telegram.specs.declared.store.TelegramStore.{TelegramStore}
use Rattle.etcs_telegram.specs.Telegrams.{TelegramLanguage, packet_room, pad_bits}
use Rattle.etcs_telegram.specs.Phases.{after_fill}
use Rattle.etcs_telegram.specs.Lefts.{stands_at, after_packets, TelegramState, Left, Leaps}
use Rattle.etcs_telegram.specs.Readers.{store_holds, OwnHeld, IsTelegramPart}
use Rattle.etcs_telegram.specs.laws.RestLaws.{follows_along}
use Rattle.etcs_telegram.proofs.Encoding.{room_more, whole_bytes}
use Rattle.etcs_telegram.proofs.PhaseSteps.{by_test}

some_zeros : (size : Size) → IsTrue (nat_lt 0 (pad_bits size))
some_zeros Short = refl
some_zeros Long = refl

-- after packets of a telegram with a whole header
pub after_stands : (size : Size) (l : PacketsState) (n : ℕ) → n ≡ 10 → l.carrier ≡ carrier.Telegram → IsTrue (stands_at (after_packets size l) n l)
after_stands size l n ten telegram =
    by_test (is_closed l.stage) (λ x. IsTrue (stands_at x n l)) (after_fill size l.room 0) Packets
    (λ closed. by_test (ltb 0 l.room) (λ x. IsTrue (stands_at x n l)) (Fill (l.room - 0)) (Pad (pad_bits size))
    (λ some. let e : l.room - 0 ≡ l.room = omega arith in rw (e, some, closed) refl)
    (λ _. some_zeros size))
    (λ further. rw (ten, telegram, further) refl)

-- by n bits, and then by k more
leaps_along : (s t u : TelegramState TelegramStore) (xs : List Bool) (at n k : ℕ) → Leaps store_holds s t xs at n → Leaps store_holds t u xs (at + n) k → Leaps store_holds s u xs at (n + k)
leaps_along s t u xs at n k h m = record {
  some = omega (arith, h.some);
  inside = omega (arith, m.inside);
  goes = m.goes;
  whole = h.whole ++ m.whole;
  follows = follows_along store_holds s t u h.whole m.whole h.follows m.follows;
  bits = spelled-append h.whole m.whole ∙ ap (λ (b : List Bool). b ++ spelled m.whole) h.bits ∙ ap (λ (b : List Bool). part at n xs ++ b) m.bits ∙ sym (part-add at n k xs);
}

-- a header, after which there is room for all packets, and then packets up to where this many bits of it are left
module _ (size : Size) (start front : TelegramState TelegramStore) (xs : List Bool) (held : OwnHeld size start []) (h : Leaps store_holds start front xs 0 50) (room : front.left.room ≡ packet_room front.size) (left : ℕ) where
  all_room : front.left.room ≡ packet_room size
  all_room = room ∙ ap packet_room (h.follows.same ∙ held.0)

  pub run_left : (store : TelegramStore) → RunFirst carrier.Telegram (packet_room size) (store_holds store) xs 50 left → RunFirst carrier.Telegram front.left.room (store_holds store) xs 50 left
  run_left store run = subst (λ n. RunFirst carrier.Telegram n (store_holds store) xs 50 left) (sym all_room) run

  pub part_at : (rest : TelegramState TelegramStore) → Same (Left start) (TelegramLanguage size) → Leaps store_holds front rest xs 50 (front.left.room - left) → IsTelegramPart size xs rest (50 + (packet_room size - left))
  part_at rest same m =
      let n = packet_room size - left in
      let further : Leaps store_holds front rest xs 50 n = subst (λ k. Leaps store_holds front rest xs 50 (k - left)) all_room m in
      (omega (arith, room_more size, whole_bytes size), start, same, held, leaps_along start front rest xs 0 50 n h further)
