-- A telegram that is read from its encoding, and written again.
use Rattle.std.proofs.Common.{◌≡◌, ℕ, zero, suc, ◌^◌, ◌<◌, ◌∷◌, get_or, ◌+◌, ◌*◌, ◌≤◌, Bool, List, [], ◌++◌, length, take, drop, sym, ap, ◌∙◌, arith}
use Rattle.std.proofs.lemmas.List.{take_at, length-append, length-drop, length-take}
use Rattle.etcs_bits.specs.Bits.{bits}
use Rattle.etcs_bits.proofs.Positions.{length-bits}
use Rattle.etcs_bits.proofs.Owned.{bits-take, bits_same}
use Rattle.etcs_vars.specs.Reading.{Reading, spelled, NoneYet}
use Rattle.etcs_sequence.specs.Firsts.{IsFirst}
use Rattle.etcs_sequence.proofs.RoundTrips.{one_first, some_there}
use Rattle.etcs_telegram.specs.declared.size.Size.{Size}
use Rattle.etcs_telegram.specs.declared.size.Size.TheVariants.{Short, Long}
use Rattle.etcs_telegram.specs.Telegrams.{TelegramContent, TelegramValue, TelegramLanguage, telegram_value, TelegramReads, IsTelegram, ReadsAs, container_bytes}
use Rattle.etcs_telegram.specs.Writing.{Writes}
use Rattle.etcs_telegram.proofs.Spellings.{one_spelling}

-- what encoding leaves in the bytes
abbrev pub Encoded : TelegramContent → List ℕ → List ℕ → ℕ → Type 0
Encoded t old new n = (n ≡ container_bytes t.size) × (r : Reading) × TelegramReads (telegram_value t) r × (bits new ≡ spelled r ++ bits (drop n old))

first_bits : (old new : List ℕ) (n : ℕ) (x : List Bool) → length new ≡ length old → n ≤ length old → bits new ≡ x ++ bits (drop n old) → x ≡ bits (take n new)
first_bits old new n x l le e =
    let all : length (bits new) ≡ length x + length (bits (drop n old)) = ap (λ (b : List Bool). length b) e ∙ length-append x (bits (drop n old)) in
    let len : length x ≡ 8 * n = omega (arith, all, length-bits new, length-bits (drop n old), length-drop n old) in
    sym (bits-take new n (omega (arith)) ∙ ap (take (8 * n)) e ∙ take_at x (bits (drop n old)) (8 * n) len)

module _ (t : TelegramContent) (old new : List ℕ) (n : ℕ) (size : Size) (l : length new ≡ length old) (le : n ≤ length old) (is : IsTelegram t) (wrote : Encoded t old new n) (same : size ≡ t.size) where
  -- what is read of an encoding
  pub read_again : (again : TelegramContent) (k : ℕ) → IsFirst (ReadsAs size) telegram_value IsTelegram (take n new) again k → again ≡ t
  read_again again k first =
      let (at, r, reads, e) = wrote in
      one_first (ReadsAs size) telegram_value IsTelegram (take n new) again k t r is (sym same, reads) (first_bits old new n (spelled r) l le e) (one_spelling size) first

  -- and something is
  pub some_again : NoneYet (TelegramLanguage size) (bits (take n new)) → ⊥
  some_again none =
      let (at, r, reads, e) = wrote in
      some_there (ReadsAs size) (telegram_value t) r (bits (take n new)) (sym same, reads) (first_bits old new n (spelled r) l le e) none

pub container_small : (size : Size) → container_bytes size ≤ 104
container_small Short = omega arith
container_small Long = omega arith

-- ---- What was read is written again.

pub writes_over : (t : TelegramContent) (old new : List ℕ) (n : ℕ) → length new ≡ length old → container_bytes t.size ≤ length old → Encoded t old new n → Writes t new
writes_over t old new n l le (at, r, reads, e) =
    let whole = first_bits old new n (spelled r) l (omega (arith, at, le)) e in
    (r, reads, sym (whole ∙ ap (λ (k : ℕ). bits (take k new)) at))

take_small : (xs : List ℕ) (n : ℕ) → ((i : ℕ) → get_or xs i 0 < 2 ^ 8) → (i : ℕ) → get_or (take n xs) i 0 < 2 ^ 8
take_small xs zero h i = omega arith
take_small [] (suc n) h i = h i
take_small (x ∷ xs) (suc n) h zero = h 0
take_small (x ∷ xs) (suc n) h (suc i) = take_small xs n (λ k. h (suc k)) i

-- a telegram has one reading
one_reading : (t : TelegramValue) (r q : Reading) → TelegramReads t r → TelegramReads t q → r ≡ q
one_reading t r q x y = x.reading_is ∙ sym y.reading_is

pub written_back : (size : Size) (bytes out : List ℕ) (n : ℕ) (t : TelegramContent) → IsFirst (ReadsAs size) telegram_value IsTelegram bytes t n → length out ≡ 104 → Writes t out → ((i : ℕ) → get_or bytes i 0 < 2 ^ 8) → ((i : ℕ) → get_or out i 0 < 2 ^ 8) → take n out ≡ take n bytes
written_back size bytes out n t (is, less, q, reads', e') long (r, reads, e) hb ho =
    let front = e ∙ ap spelled (one_reading (telegram_value t) r q reads reads'.1) ∙ e' in
    let size_is : container_bytes t.size ≡ n = omega (arith, ap (λ (b : List Bool). length b) front, length-bits (take (container_bytes t.size) out), length-bits (take n bytes), length-take n bytes, length-take (container_bytes t.size) out, long, container_small t.size, less) in
    bits_same (take n out) (take n bytes) (take_small out n ho) (take_small bytes n hb) (ap (λ (k : ℕ). bits (take k out)) (sym size_is) ∙ front)
