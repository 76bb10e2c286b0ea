-- How many bytes an item has that bytes begin.
use Rattle.std.proofs.Common.{◌≡◌, ℕ, ◌+◌, ◌*◌, ◌^◌, ◌<◌, ◌≤◌, Bool, true, false, zero, suc, Option, Some, None, List, [], ◌∷◌, ◌++◌, length, take, drop, refl, sym, ap, subst, ◌∙◌, arith, append_assoc, inl, inr}
use Rattle.std.specs.Prelude.{not, nat_le, slice_index, ◌==◌, ◌&&◌, ◌||◌, if◌then◌else◌}
use Rattle.std.proofs.lemmas.Bool.{both_ways, cases_Bool, cases_lt, false≢true, le-leb, lt-leb, ne_eqb}
use Rattle.std.proofs.lemmas.List.{append-nil, length-append, length-drop, length-take-le, take_all, take-take, take-append-drop, get_or-take}
use Rattle.etcs_bits.specs.Bits.{bits, num, value, number_at}
use Rattle.etcs_bits.proofs.Numbers.{length-num, value-num}
use Rattle.etcs_bits.proofs.Owned.{bits-take}
use Rattle.etcs_bits.proofs.Positions.{length-bits, number_inside}
use Rattle.etcs_vars.specs.Reading.{Reading, spelled, readings_of}
use Rattle.etcs_vars.proofs.Apart.{cut}
use Rattle.etcs_tables.specs.declared.row.Way.{Way}
use Rattle.etcs_tables.specs.declared.row.Way.TheVariants.{ToTrain, ToTrack}
use Rattle.etcs_telegram.specs.declared.size.Size.{Size}
use Rattle.etcs_telegram.specs.declared.size.Size.TheVariants as size
use Rattle.etcs_telegram.specs.Telegrams.{user_bits, pad_bits}
use Rattle.etcs_telegram.proofs.Spellings.{whole_length}
use Rattle.etcs_text.specs.declared.entry.Kind.{Kind}
use Rattle.etcs_text.specs.declared.entry.Kind.TheVariants.{Long, Short, Radio, Train}
use Rattle.etcs_text.specs.Entries.{EntryValue, of_telegram, of_message, EntryReads, kind_of, message_kind}
use Rattle.etcs_text.proofs.ItemLengths.{item_length, open_short}
use Rattle.etcs_json.proofs.ItemLengths.{Headed, headed}
use Rattle.etcs_explain.specs.Kinds.{begins_telegram, is_short, guessed, kind_of as kind_there}
use Rattle.etcs_explain.specs.Cuts.{AreFew, AreOpen, IsFront, at_least_3, awaited}

some_3 : (o : Option ℕ) → 3 ≤ at_least_3 o
some_3 None = omega arith
some_3 (Some n) = omega arith

pub three_awaited : (kind : Kind) (bytes : List ℕ) → 3 ≤ awaited kind bytes
three_awaited kind bytes = some_3 _

-- ---- By L_MESSAGE.

-- a message's first 18 bits are NID_MESSAGE and L_MESSAGE
message_number : (r : Reading) (h : Headed r) (bs c d : List Bool) → bs ++ c ≡ spelled r ++ d → 18 ≤ length bs → number_at 8 10 bs ≡ Some h.len
message_number r h bs c d e le =
    let rest = drop 8 bs in
    let left : bs ++ c ≡ take 8 bs ++ (take 10 rest ++ (drop 10 rest ++ c)) =
    ap (λ (z : List Bool). z ++ c) (sym (take-append-drop 8 bs))
    ∙ append_assoc (take 8 bs) rest c
    ∙ ap (λ (z : List Bool). take 8 bs ++ (z ++ c)) (sym (take-append-drop 10 rest))
    ∙ ap (λ (z : List Bool). take 8 bs ++ z) (append_assoc (take 10 rest) (drop 10 rest) c) in
    let right : spelled r ++ d ≡ num 8 h.nid ++ (num 10 h.len ++ (spelled h.rest ++ d)) =
    ap (λ (z : Reading). spelled z ++ d) h.is
    ∙ append_assoc (num 8 h.nid) (num 10 h.len ++ spelled h.rest) d
    ∙ ap (λ (z : List Bool). num 8 h.nid ++ z) (append_assoc (num 10 h.len) (spelled h.rest) d) in
    let first = cut (take 8 bs) (num 8 h.nid) _ _ (length-take-le 8 bs (omega (arith, le)) ∙ sym (length-num 8 h.nid)) (sym left ∙ e ∙ right) in
    let second = cut (take 10 rest) (num 10 h.len) _ _ (length-take-le 10 rest (omega (arith, le, length-drop 8 bs)) ∙ sym (length-num 10 h.len)) first.1 in
    sym (number_inside 8 10 bs h.len (omega (arith, le)) (sym (ap value second.0 ∙ value-num 10 h.len h.small)))

-- and it has at least these
some_message : (r : Reading) (h : Headed r) → 18 ≤ length (spelled r)
some_message r h =
    omega (arith, ap (λ (z : Reading). length (spelled z)) h.is, length-append (num 8 h.nid) (num 10 h.len ++ spelled h.rest), length-append (num 10 h.len) (spelled h.rest), length-num 8 h.nid, length-num 10 h.len)

message_awaits : (way : Way) (kind : Kind) (bytes : List ℕ) (n : ℕ) → message_kind way ≡ kind → number_at 8 10 (bits bytes) ≡ Some n → 3 ≤ n → n < 2 ^ 10 → awaited kind bytes ≡ n
message_awaits ToTrain kind bytes n k e some small = subst (λ (z : Kind). awaited z bytes ≡ n) k (ap at_least_3 e ∙ omega (arith, some, small))
message_awaits ToTrack kind bytes n k e some small = subst (λ (z : Kind). awaited z bytes ≡ n) k (ap at_least_3 e ∙ omega (arith, some, small))

telegram_awaits : (s : Size) (kind : Kind) (bytes : List ℕ) (n : ℕ) → kind_of s ≡ kind → n ≡ user_bits s + pad_bits s → 8 * awaited kind bytes ≡ n
telegram_awaits size.Long kind bytes n k e = subst (λ (z : Kind). 8 * awaited z bytes ≡ n) k (omega (arith, e))
telegram_awaits size.Short kind bytes n k e = subst (λ (z : Kind). 8 * awaited z bytes ≡ n) k (omega (arith, e))

-- bytes that begin an item, or that an item begins
awaited_is : (kind : Kind) (e : EntryValue) (r : Reading) → EntryReads kind e r → (bytes : List ℕ) (c d : List Bool) → bits bytes ++ c ≡ spelled r ++ d → 3 ≤ length bytes → 8 * awaited kind bytes ≡ length (spelled r)
awaited_is kind (of_telegram t) r reads bytes c d same some = telegram_awaits t.size kind bytes (length (spelled r)) reads.0 (whole_length t.size r (t, (refl, reads.1)))
awaited_is kind (of_message way m) r reads bytes c d same some =
    let h = headed way m r reads.1 in
    let number = message_number r h (bits bytes) c d same (omega (arith, some, length-bits bytes)) in
    omega (arith, message_awaits way kind bytes h.len reads.0 number (omega (arith, h.long, some_message r h)) h.small, h.long)

three_telegram : (s : Size) (n : ℕ) → n ≡ user_bits s + pad_bits s → 24 ≤ n
three_telegram size.Long n e = omega (arith, e)
three_telegram size.Short n e = omega (arith, e)

three_bytes : (kind : Kind) (e : EntryValue) (r : Reading) → EntryReads kind e r → 24 ≤ length (spelled r)
three_bytes kind (of_telegram t) r reads = three_telegram t.size (length (spelled r)) (whole_length t.size r (t, (refl, reads.1)))
three_bytes kind (of_message way m) r reads = let h = headed way m r reads.1 in omega (arith, h.long, some_message r h)

-- ---- Items and fronts.

-- of bytes that aren't all there no item of their kind ends
held_front : (kind : Kind) (bytes : List ℕ) (m n : ℕ) → m ≤ length bytes → length (take m bytes) < awaited kind (take m bytes) → IsFront kind bytes n → m < n
held_front kind bytes m n le few (within, e, (r, reads, is)) =
    elim (cases_lt m n) [
      | inl less ↦ less
      | inr more ↦
          let held = take m bytes in
          let x = bits held in
          let count : length held ≡ m = length-take-le m bytes le in
          let same : length (spelled r) ≡ 8 * n = ap length is ∙ length-bits (take n bytes) ∙ ap (λ (k : ℕ). 8 * k) (length-take-le n bytes within) in
          let first : spelled r ≡ take (8 * n) x = is ∙ ap bits (sym (take-take n m bytes more)) ∙ bits-take held n (omega (arith, more, count)) in
          let all : x ++ [] ≡ spelled r ++ drop (8 * n) x = append-nil x ∙ sym (take-append-drop (8 * n) x) ∙ ap (λ (z : List Bool). z ++ drop (8 * n) x) (sym first) in
          let long = awaited_is kind e r reads held [] (drop (8 * n) x) all (omega (arith, three_bytes kind e r reads, same, more, count)) in
          absurd (omega (arith, few, long, same, more, count))
    ]

longer : (n : ℕ) (c : List Bool) → (c ≡ [] → ⊥) → n < n + length c
longer n [] some = absurd (some refl)
longer n (x ∷ c) some = omega arith

pub open_few : (kind : Kind) (bytes : List ℕ) → AreOpen kind bytes → length bytes < awaited kind bytes
open_few kind bytes ((r, c, (e, reads), is), none) =
    elim (cases_lt (length bytes) 3) [
      | inl less ↦ omega (arith, less, three_awaited kind bytes)
      | inr some ↦
          let short = open_short kind bytes (r, c, (e, reads), is) none in
          let whole : take 8184 (bits bytes) ≡ bits bytes = take_all 8184 (bits bytes) (omega (arith, short, length-bits bytes)) in
          let all : spelled r ≡ bits bytes ++ c = is ∙ ap (λ (z : List Bool). z ++ c) whole in
          let long = awaited_is kind e r reads bytes c [] (sym (append-nil (spelled r) ∙ all)) some in
          let more = longer (length (bits bytes)) c (λ (gone : c ≡ []). none (r, (e, reads), is ∙ ap (λ (z : List Bool). take 8184 (bits bytes) ++ z) gone ∙ append-nil (take 8184 (bits bytes)))) in
          omega (arith, long, more, ap length all, length-append (bits bytes) c, length-bits bytes)
    ]

-- ---- Of the kind that is guessed.

-- ---- Of the kind that is asked for or guessed.

-- an item has as many bytes as are awaited
front_awaits : (kind : Kind) (bytes : List ℕ) (n : ℕ) → IsFront kind bytes n → (3 ≤ n) × (awaited kind (take n bytes) ≡ n)
front_awaits kind bytes n (within, e, (r, reads, is)) =
    let held = take n bytes in
    let count : length held ≡ n = length-take-le n bytes within in
    let same : length (spelled r) ≡ 8 * n = ap length is ∙ length-bits held ∙ ap (λ (k : ℕ). 8 * k) count in
    let three : 3 ≤ n = omega (arith, three_bytes kind e r reads, same) in
    let long = awaited_is kind e r reads held [] [] (ap (λ (z : List Bool). z ++ []) (sym is)) (omega (arith, three, count)) in
    (three, omega (arith, long, same))

short_test : (a b c : Bool) → (a || (b && not c)) ≡ false → c ≡ false → b ≡ false
short_test true b c e f = absurd (false≢true (sym e))
short_test false true true e f = absurd (false≢true (sym f))
short_test false true false e f = absurd (false≢true (sym e))
short_test false false c e f = refl

short_false : (a b c : Bool) → a ≡ false → b ≡ false → (a || (b && not c)) ≡ false
short_false true b c e f = absurd (false≢true (sym e))
short_false false true c e f = absurd (false≢true (sym f))
short_false false false c e f = refl

few_short : (bytes : List ℕ) → length bytes ≤ 27 → is_short bytes ≡ true
few_short bytes le = let e : nat_le (length bytes) 27 ≡ true = le-leb (length bytes) 27 le in rw e refl

-- a long telegram stays one
long_later : (bytes : List ℕ) (m : ℕ) → 27 < m → m < 104 → m ≤ length bytes → is_short (take m bytes) ≡ false → is_short bytes ≡ false
long_later bytes m some less le long =
    let count : length (take m bytes) ≡ m = length-take-le m bytes le in
    let other : (length (take m bytes) == 104) ≡ false = ne_eqb (length (take m bytes)) 104 (λ e. omega (arith, e, count, less)) in
    let none : begins_telegram (slice_index (take m bytes) 27) ≡ false = short_test (nat_le (length (take m bytes)) 27) (begins_telegram (slice_index (take m bytes) 27)) (length (take m bytes) == 104) long other in
    let at : slice_index (take m bytes) 27 ≡ slice_index bytes 27 = get_or-take m bytes 27 0 some in
    short_false (nat_le (length bytes) 27) (begins_telegram (slice_index bytes 27)) (length bytes == 104) (lt-leb (length bytes) 27 (omega (arith, some, le))) (ap begins_telegram (sym at) ∙ none)

guessed_telegram : (b : ℕ) (bytes : List ℕ) → begins_telegram b ≡ true → guessed (b ∷ bytes) ≡ (if is_short (b ∷ bytes) then Short else Long)
guessed_telegram b bytes e = rw e refl

guessed_message : (b : ℕ) (bytes more : List ℕ) → begins_telegram b ≡ false → guessed (b ∷ bytes) ≡ guessed (b ∷ more)
guessed_message b bytes more e = rw e refl

guessed_short : (b : ℕ) (bytes : List ℕ) → begins_telegram b ≡ true → is_short (b ∷ bytes) ≡ true → guessed (b ∷ bytes) ≡ Short
guessed_short b bytes e f = guessed_telegram b bytes e ∙ (rw f refl)

guessed_long : (b : ℕ) (bytes : List ℕ) → begins_telegram b ≡ true → is_short (b ∷ bytes) ≡ false → guessed (b ∷ bytes) ≡ Long
guessed_long b bytes e f = guessed_telegram b bytes e ∙ (rw f refl)

-- the first m bytes of a telegram, of some more, are fewer than it has
telegram_item : (b : ℕ) (bytes : List ℕ) (j n : ℕ) → begins_telegram b ≡ true → suc j ≤ length (b ∷ bytes) → AreFew None (b ∷ take j bytes) → IsFront (guessed (b ∷ bytes)) (b ∷ bytes) n → suc j < n
telegram_item b bytes j n e le few front =
    let held = b ∷ take j bytes in
    let all = b ∷ bytes in
    let count : length held ≡ suc j = length-take-le (suc j) all le in
    elim (cases_Bool (is_short held)) [
      | inl short ↦
          let less = subst (λ (z : Kind). length held < awaited z held) (guessed_short b (take j bytes) e short) few in
          elim (cases_Bool (is_short all)) [
            | inl s ↦ let w = front_awaits Short all n (subst (λ (z : Kind). IsFront z all n) (guessed_short b bytes e s) front) in omega (arith, less, count, w.1)
            | inr l ↦ let w = front_awaits Long all n (subst (λ (z : Kind). IsFront z all n) (guessed_long b bytes e l) front) in omega (arith, less, count, w.1)
          ]
      | inr long ↦
          let less = subst (λ (z : Kind). length held < awaited z held) (guessed_long b (take j bytes) e long) few in
          elim (cases_Bool (is_short all)) [
            | inl s ↦ elim (cases_lt 27 (suc j)) [
              | inl more ↦ absurd (both_ways (is_short all) (long_later all (suc j) more (omega (arith, less, count)) le long) s)
              | inr few27 ↦ absurd (both_ways (is_short held) long (few_short held (omega (arith, few27, count))))
            ]
            | inr l ↦ let w = front_awaits Long all n (subst (λ (z : Kind). IsFront z all n) (guessed_long b bytes e l) front) in omega (arith, less, count, w.1)
          ]
    ]

-- of bytes that aren't all there no item ends
pub held_item : (asked : Option Kind) (bytes : List ℕ) (m n : ℕ) → m ≤ length bytes → AreFew asked (take m bytes) → IsFront (kind_there asked bytes) bytes n → m < n
held_item (Some kind) bytes m n le few front = held_front kind bytes m n le few front
held_item None [] m n le few front = let w = front_awaits (guessed []) [] n front in omega (arith, le, w.0)
held_item None (b ∷ bytes) zero n le few front = let w = front_awaits (guessed (b ∷ bytes)) (b ∷ bytes) n front in omega (arith, w.0)
held_item None (b ∷ bytes) (suc j) n le few front =
    elim (cases_Bool (begins_telegram b)) [
      | inl telegram ↦ telegram_item b bytes j n telegram le few front
      | inr message ↦
          held_front (guessed (b ∷ bytes)) (b ∷ bytes) (suc j) n le (subst (λ (z : Kind). length (b ∷ take j bytes) < awaited z (b ∷ take j bytes)) (guessed_message b (take j bytes) bytes message) few) front
    ]
