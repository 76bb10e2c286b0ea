-- Bits put over those of bytes, one after another.
use Rattle.std.proofs.Common.{◌≡◌, ℕ, zero, suc, ◌+◌, ◌-◌, ◌*◌, ◌/◌, ◌%◌, ◌^◌, ◌<◌, ◌≤◌, min, Bool, true, false, List, [], ◌∷◌, ◌++◌, length, take, drop, replicate, leb, ltb, refl, sym, ap, subst, ◌∙◌, arith, append_assoc, le-leb, lt-ltb, le-ltb, ltb-true, ltb-false}
use Rattle.std.specs.Int.{to_be_bytes, w64}
use Rattle.std.proofs.lemmas.Bool.{lt-leb}
use Rattle.std.proofs.lemmas.List.{append-nil, length-append, length-take-le, length-drop, take_all, take_at, take-take, take-append-le, take-append-drop, drop_at, drop_all}
use Rattle.std.proofs.Math.Seq.{take-add, take-append-add, drop-append-add}
use borrow.Rule.Slice.PartMut.{put_mid}
use Rattle.etcs_bits.specs.Bits.{num, value, bits}
use Rattle.etcs_bits.proofs.ByteBits.{bits-append}
use Rattle.etcs_bits.proofs.Numbers.{length-num, num-value, value-num, value_below}
use Rattle.etcs_bits.proofs.Owned.{bits-take}
use Rattle.etcs_bits.proofs.Positions.{length-bits}
use Rattle.etcs_bits.proofs.WordWrites.{bits-word}
use Rattle.etcs_vars.specs.Vars.{width}
use Rattle.etcs_vars.specs.Reading.{Reading, spelled}
use Rattle.etcs_vars.proofs.Prefixes.{take-num, width_pos}
use Rattle.etcs_vars.specs.declared.word_sink.WordSink.{WordSink}
use Rattle.etcs_vars.specs.Joins.{Joins}
use Rattle.etcs_vars.specs.Words.{with_front}
use Rattle.etcs_vars.specs.WordSinks.{pushed, with_word, and_bit, and_bits, bits_so_far, IsWritten}
use Rattle.etcs_vars.specs.laws.WordSinks.{and_both}

-- ---- One bit more.

bit_some : (s : WordSink) (b : Bool) → length s.word + 1 < 64 → and_bit s b ≡ with_word s (s.word ++ b ∷ [])
unfolding and_bit
bit_some s b h = let t : ltb (length s.word + 1) 64 ≡ true = lt-ltb _ _ h in rw t refl

bit_full : (s : WordSink) (b : Bool) → 64 ≤ length s.word + 1 → and_bit s b ≡ with_word (pushed s (s.word ++ b ∷ [])) []
unfolding and_bit
bit_full s b h = let t : ltb (length s.word + 1) 64 ≡ false = le-ltb _ _ h in rw t refl

-- ---- A word.

pushed_some : (s : WordSink) (w : List Bool) → s.at + 8 ≤ length s.bytes.now → pushed s w ≡ record { bytes = record s.bytes { now = with_front s.bytes.now s.at (value w) 8 }; at = s.at + 8; word = s.word }
unfolding pushed
pushed_some s w h = let t : leb (s.at + 8) (length s.bytes.now) ≡ true = le-leb _ _ h in rw t refl

pub pushed_none : (s : WordSink) (w : List Bool) → length s.bytes.now < s.at + 8 → pushed s w ≡ s
unfolding pushed
pushed_none s w h = let t : leb (s.at + 8) (length s.bytes.now) ≡ false = lt-leb _ _ h in rw t refl

pub pushed_number : (s : WordSink) (word : ℕ) (new : List ℕ) → word < 2 ^ 64 → s.at + 8 ≤ length s.bytes.now → new ≡ with_front s.bytes.now s.at word 8 → record { bytes = record s.bytes { now = new }; at = s.at + 8; word = s.word } ≡ pushed s (num 64 word)
pushed_number s word new small h e =
    let written : List ℕ → WordSink = λ l. record { bytes = record s.bytes { now = l }; at = s.at + 8; word = s.word } in
    ap written e ∙ ap (λ (k : ℕ). written (with_front s.bytes.now s.at k 8)) (sym (value-num 64 word small)) ∙ sym (pushed_some s (num 64 word) h)

-- the last bits don't matter to it
pushed_by : (s : WordSink) (v w : List Bool) (fits : Bool) → leb (s.at + 8) (length s.bytes.now) ≡ fits → pushed (with_word s v) w ≡ with_word (pushed s w) v
unfolding pushed
pushed_by s v w true t = rw t refl
pushed_by s v w false t = rw t refl

with_pushed : (s : WordSink) (v w : List Bool) → pushed (with_word s v) w ≡ with_word (pushed s w) v
with_pushed s v w = pushed_by s v w (leb (s.at + 8) (length s.bytes.now)) refl

-- ---- Bits more.

-- which stay in the word
pub bits_within : (s : WordSink) (b : List Bool) → length s.word + length b < 64 → and_bits s b ≡ with_word s (s.word ++ b)
bits_within s [] h = ap (with_word s) (sym (append-nil s.word))
bits_within s (x ∷ b) h =
    let one = s.word ++ x ∷ [] in
    let size = length-append s.word (x ∷ []) in
    ap (λ (t : WordSink). and_bits t b) (bit_some s x (omega (arith, h)))
    ∙ bits_within (with_word s one) b (omega (arith, h, size))
    ∙ ap (with_word s) (append_assoc s.word (x ∷ []) b)

-- which fill it
bits_fill : (s : WordSink) (b : List Bool) → length s.word < 64 → length s.word + length b ≡ 64 → and_bits s b ≡ with_word (pushed s (s.word ++ b)) []
bits_fill s [] h e = absurd (omega (arith, h, e))
bits_fill s (x ∷ []) h e = bit_full s x (omega (arith, e))
bits_fill s (x ∷ y ∷ b) h e =
    let one = s.word ++ x ∷ [] in
    let size = length-append s.word (x ∷ []) in
    ap (λ (t : WordSink). and_bits t (y ∷ b)) (bit_some s x (omega (arith, e)))
    ∙ bits_fill (with_word s one) (y ∷ b) (omega (arith, e, size)) (omega (arith, e, size))
    ∙ ap (λ (w : List Bool). with_word (pushed (with_word s one) w) []) (append_assoc s.word (x ∷ []) (y ∷ b))
    ∙ ap (λ (t : WordSink). with_word t []) (with_pushed s one (s.word ++ x ∷ y ∷ b))

-- which fill it, and more
pub bits_over : (s : WordSink) (b word after : List Bool) → length s.word < 64 → length after < 64 → length word ≡ 64 → word ++ after ≡ s.word ++ b → and_bits s b ≡ with_word (pushed s word) after
bits_over s b word after before few full e =
    let n = 64 - length s.word in
    let first = take n b in
    let last = drop n b in
    let place : 64 ≡ length s.word + n = omega (arith, before) in
    let sum = ap length e in
    let size = length-append word after in
    let both = length-append s.word b in
    let word_is : s.word ++ first ≡ word = sym (take-append-add s.word b n) ∙ ap (λ (k : ℕ). take k (s.word ++ b)) (sym place) ∙ ap (take 64) (sym e) ∙ take_at word after 64 full in
    let after_is : last ≡ after = sym (drop-append-add s.word b n) ∙ ap (λ (k : ℕ). drop k (s.word ++ b)) (sym place) ∙ ap (drop 64) (sym e) ∙ drop_at word after 64 full in
    let long : length first ≡ n = length-take-le n b (omega (arith, sum, size, both, full)) in
    ap (and_bits s) (sym (take-append-drop n b))
    ∙ sym (and_both s first last)
    ∙ ap (λ (t : WordSink). and_bits t last) (bits_fill s first before (omega (arith, long, before)) ∙ ap (λ (w : List Bool). with_word (pushed s w) []) word_is)
    ∙ ap (and_bits (with_word (pushed s word) [])) after_is
    ∙ bits_within (with_word (pushed s word) []) after (omega (arith, few))

-- a number more
pub number_over : (s : WordSink) (b after : List Bool) (word : ℕ) → length s.word < 64 → length after < 64 → num 64 word ++ after ≡ s.word ++ b → pushed (with_word s after) (num 64 word) ≡ and_bits s b
number_over s b after word before few e = with_pushed s after (num 64 word) ∙ sym (bits_over s b (num 64 word) after before few (length-num 64 word) e)

-- ---- What is in the bytes.

pub front_bits : (bytes : List ℕ) (at word count : ℕ) → word < 2 ^ 64 → at ≤ length bytes → count ≤ 8 → take (8 * at + 8 * count) (bits (with_front bytes at word count)) ≡ take (8 * at) (bits bytes) ++ take (8 * count) (num 64 word)
front_bits bytes at word count small inside few =
    let first = take at bytes in
    let new = take count (to_be_bytes w64 word) in
    let rest = drop count (drop at bytes) in
    let front = take (8 * at) (bits bytes) in
    let b = take (8 * count) (num 64 word) in
    let first_bits : bits first ≡ front = bits-take bytes at inside in
    let new_bits : bits new ≡ b = bits-take (to_be_bytes w64 word) count few ∙ ap (take (8 * count)) (bits-word word small) in
    let size : length front ≡ 8 * at = length-take-le (8 * at) (bits bytes) (omega (arith, length-bits bytes, inside)) in
    let wide : length b ≡ 8 * count = length-take-le (8 * count) (num 64 word) (omega (arith, length-num 64 word, few)) in
    let all : bits (with_front bytes at word count) ≡ (front ++ b) ++ bits rest =
    bits-append first (new ++ rest)
    ∙ ap (λ (l : List Bool). l ++ bits (new ++ rest)) first_bits
    ∙ ap (λ (l : List Bool). front ++ l) (bits-append new rest ∙ ap (λ (l : List Bool). l ++ bits rest) new_bits)
    ∙ sym (append_assoc front b (bits rest)) in
    ap (take (8 * at + 8 * count)) all ∙ take_at (front ++ b) (bits rest) (8 * at + 8 * count) (omega (arith, length-append front b, size, wide))

-- only the first of the word's bits
pub front_first : (bytes : List ℕ) (at word count n : ℕ) → word < 2 ^ 64 → at ≤ length bytes → count ≤ 8 → n ≤ 8 * count → take (8 * at + n) (bits (with_front bytes at word count)) ≡ take (8 * at) (bits bytes) ++ take n (num 64 word)
front_first bytes at word count n small inside few enough =
    let all = 8 * at + 8 * count in
    let front = take (8 * at) (bits bytes) in
    let b = take (8 * count) (num 64 word) in
    let size : length front ≡ 8 * at = length-take-le (8 * at) (bits bytes) (omega (arith, length-bits bytes, inside)) in
    let place : 8 * at + n ≡ length front + n = omega (arith, size) in
    sym (take-take (8 * at + n) all (bits (with_front bytes at word count)) (omega (arith, enough)))
    ∙ ap (take (8 * at + n)) (front_bits bytes at word count small inside few)
    ∙ ap (λ (k : ℕ). take k (front ++ b)) place
    ∙ take-append-add front b n
    ∙ ap (λ (l : List Bool). front ++ l) (take-take n (8 * count) (num 64 word) enough)

front_length : (bytes : List ℕ) (at word : ℕ) → at + 8 ≤ length bytes → length (with_front bytes at word 8) ≡ length bytes
front_length bytes at word room =
    let first = take at bytes in
    let new = take 8 (to_be_bytes w64 word) in
    let rest = drop 8 (drop at bytes) in
    omega (arith, length-append first (new ++ rest), length-append new rest, length-take-le at bytes (omega (arith, room)), length-drop 8 (drop at bytes), length-drop at bytes, room)

-- a sink after others, and the bits between
pub record Goes (s t : WordSink) (b : List Bool) : Type 0 where
  pub name : t.bytes.ghost_name ≡ s.bytes.ghost_name
  pub long : length t.bytes.now ≡ length s.bytes.now
  pub within : t.at ≤ length t.bytes.now
  pub few : length t.word < 64
  pub place : 8 * t.at + length t.word ≡ 8 * s.at + length s.word + length b
  pub is : bits_so_far t ≡ bits_so_far s ++ b

goes_one : (s : WordSink) (x : Bool) → s.at ≤ length s.bytes.now → length s.word < 64 → 8 * s.at + length s.word + 1 ≤ 8 * length s.bytes.now → Goes s (and_bit s x) (x ∷ [])
goes_one s x within few room = one_by s x (ltb (length s.word + 1) 64) refl within few room where
  one_by : (s : WordSink) (x : Bool) (fits : Bool) → ltb (length s.word + 1) 64 ≡ fits → s.at ≤ length s.bytes.now → length s.word < 64 → 8 * s.at + length s.word + 1 ≤ 8 * length s.bytes.now → Goes s (and_bit s x) (x ∷ [])
  one_by s x true t within few room =
      let size = length-append s.word (x ∷ []) in
      subst (λ (u : WordSink). Goes s u (x ∷ [])) (sym (bit_some s x (ltb-true _ _ t)))
      (record {
        name = refl;
        long = refl;
        within = within;
        few = omega (arith, size, ltb-true _ _ t);
        place = omega (arith, size);
        is = sym (append_assoc (take (8 * s.at) (bits s.bytes.now)) s.word (x ∷ []));
      })
  one_by s x false t within few room =
      let full : 64 ≤ length s.word + 1 = ltb-false _ _ t in
      let w = s.word ++ x ∷ [] in
      let size = length-append s.word (x ∷ []) in
      let front = take (8 * s.at) (bits s.bytes.now) in
      let fits : s.at + 8 ≤ length s.bytes.now = omega (arith, full, room) in
      let wide : length w ≡ 64 = omega (arith, size, full, few) in
      let number : num 64 (value w) ≡ w = ap (λ (k : ℕ). num k (value w)) (sym wide) ∙ num-value w in
      let small : value w < 2 ^ 64 = subst (λ (k : ℕ). value w < 2 ^ k) wide (value_below w) in
      let all : take 64 (num 64 (value w)) ≡ w = take_all 64 (num 64 (value w)) (omega (arith, length-num 64 (value w))) ∙ number in
      let place : 8 * (s.at + 8) ≡ 8 * s.at + 8 * 8 = omega arith in
      subst (λ (u : WordSink). Goes s u (x ∷ [])) (sym (bit_full s x full ∙ ap (λ (u : WordSink). with_word u []) (pushed_some s w fits)))
      (record {
        name = refl;
        long = front_length s.bytes.now s.at (value w) fits;
        within = omega (arith, front_length s.bytes.now s.at (value w) fits, fits);
        few = omega arith;
        place = omega (arith, size, wide);
        is =
            append-nil (take (8 * (s.at + 8)) (bits (with_front s.bytes.now s.at (value w) 8)))
            ∙ ap (λ (k : ℕ). take k (bits (with_front s.bytes.now s.at (value w) 8))) place
            ∙ front_bits s.bytes.now s.at (value w) 8 small within (omega arith)
            ∙ ap (λ (b : List Bool). front ++ b) all
            ∙ sym (append_assoc front s.word (x ∷ []));
      })

-- bits that have room
pub goes : (s : WordSink) (b : List Bool) → s.at ≤ length s.bytes.now → length s.word < 64 → 8 * s.at + length s.word + length b ≤ 8 * length s.bytes.now → Goes s (and_bits s b) b
goes s [] within few room = record { name = refl; long = refl; within = within; few = few; place = omega arith; is = sym (append-nil (bits_so_far s)) }
goes s (x ∷ b) within few room =
    let one = goes_one s x within few (omega (arith, room)) in
    let two = goes (and_bit s x) b one.within one.few (omega (arith, room, one.place, one.long)) in
    record {
      name = two.name ∙ one.name;
      long = two.long ∙ one.long;
      within = two.within;
      few = two.few;
      place = omega (arith, one.place, two.place);
      is = two.is ∙ ap (λ (l : List Bool). l ++ b) one.is ∙ append_assoc (bits_so_far s) (x ∷ []) b;
    }

-- ---- The last bits.

no_more : (at : ℕ) (b w : List Bool) → length w ≡ 0 → take (at + length w) b ≡ take at b ++ w
no_more at b [] e = ap (λ (k : ℕ). take k b) (let same : at + 0 ≡ at = omega arith in same) ∙ sym (append-nil (take at b))
no_more at b (x ∷ w) e = absurd (omega (arith, e))

pub none_written : (s : WordSink) → length s.bytes.now ≤ s.at → IsWritten s s.bytes.now
none_written s all = λ room. no_more (8 * s.at) (bits s.bytes.now) s.word (omega (arith, room, all))

pub last_written : (s : WordSink) (bytes : List ℕ) (word count : ℕ) → s.at < length s.bytes.now → count ≡ min (length s.bytes.now - s.at) 8 → word < 2 ^ 64 → take (length s.word) (num 64 word) ≡ s.word → length s.word < 64 → bytes ≡ with_front s.bytes.now s.at word count → IsWritten s bytes
last_written s bytes word count some most small is few e = λ room.
    let n = length s.word in
    let front = take (8 * s.at) (bits s.bytes.now) in
    ap (λ (l : List ℕ). take (8 * s.at + n) (bits l)) e
    ∙ front_first s.bytes.now s.at word count n small (omega (arith, some)) (omega (arith, most)) (omega (arith, room, most, few))
    ∙ ap (λ (l : List Bool). front ++ l) is

-- ---- How many bits a word has.

bit_length : (s : WordSink) (x : Bool) (fits : Bool) → ltb (length s.word + 1) 64 ≡ fits → length s.word < 64 → (length (and_bit s x).word < 64) × (length (and_bit s x).word % 8 ≡ (length s.word + 1) % 8)
bit_length s x true t few =
    let is : length (and_bit s x).word ≡ length s.word + 1 = ap (λ (u : WordSink). length u.word) (bit_some s x (ltb-true _ _ t)) ∙ length-append s.word (x ∷ []) in
    (omega (arith, is, ltb-true _ _ t), ap (λ (k : ℕ). k % 8) is)
bit_length s x false t few =
    let full : 64 ≤ length s.word + 1 = ltb-false _ _ t in
    let is : length (and_bit s x).word ≡ 0 = ap (λ (u : WordSink). length u.word) (bit_full s x full) in
    (omega (arith, is), omega (arith, is, full, few))

pub word_length : (s : WordSink) (b : List Bool) → length s.word < 64 → length (and_bits s b).word % 8 ≡ (length s.word + length b) % 8
word_length s [] few = ap (λ (k : ℕ). k % 8) (let same : length s.word ≡ length s.word + 0 = omega arith in same)
word_length s (x ∷ b) few =
    let one = bit_length s x (ltb (length s.word + 1) 64) refl few in
    let rest = word_length (and_bit s x) b one.0 in
    omega (arith, rest, one.1)

-- ---- All bytes of a slice.

pub record Fills (s t : WordSink) (b : List Bool) (new : List ℕ) : Type 0 where
  pub name : s.bytes.ghost_name ≡ t.bytes.ghost_name
  pub bits : length new ≡ length s.bytes.now → bits new ≡ b

pub fills : (bytes new : List ℕ) (b : List Bool) (s t : WordSink) → s.bytes.now ≡ bytes → s.at ≡ 0 → s.word ≡ [] → length b ≡ 8 * length bytes → t ≡ and_bits s b → IsWritten t new → Fills s t b new
fills bytes new b s t now at none size is wrote =
    let empty : length s.word ≡ 0 = ap length none in
    let same : length s.bytes.now ≡ length bytes = ap length now in
    let g : Goes s t b = subst (λ (u : WordSink). Goes s u b) (sym is) (goes s b (omega (arith, at)) (omega (arith, empty)) (omega (arith, at, empty, size, same))) in
    let end : 8 * t.at + length t.word ≡ 8 * length bytes = omega (arith, g.place, at, empty, size) in
    let first : bits_so_far s ≡ [] = ap (λ (k : ℕ). take (8 * k) (bits s.bytes.now) ++ s.word) at ∙ none in
    record {
      name = sym g.name;
      bits = λ long.
          sym (take_all (8 * t.at + length t.word) (bits new) (omega (arith, length-bits new, long, same, end)))
          ∙ wrote (omega (arith, end, g.long, same))
          ∙ g.is
          ∙ ap (λ (l : List Bool). l ++ b) first;
    }

-- ---- Bytes after others.

-- bytes that grew by some, over which bits were written
pub appended : (old big slice new : List ℕ) (start count zeros len : ℕ) (b : List Bool) → start ≡ length old → big ≡ take (start + count) old ++ replicate zeros 0 → slice ≡ big → len ≡ start + count → length b ≡ 8 * count → bits new ≡ b → bits (take len (put_mid start (length slice - start) slice new ++ drop (length (put_mid start (length slice - start) slice new)) big)) ≡ bits old ++ b
appended old big slice new start count zeros len b at grew same size whole wrote =
    let all = put_mid start (length slice - start) slice new in
    let kept : take (start + count) old ≡ old = take_all (start + count) old (omega (arith, at)) in
    let first : take start slice ≡ old = ap (take start) (same ∙ grew ∙ ap (λ (l : List ℕ). l ++ replicate zeros 0) kept) ∙ take_at old (replicate zeros 0) start (sym at) in
    let none : drop (length slice - start) (drop start slice) ≡ [] = drop_all (length slice - start) (drop start slice) (omega (arith, length-drop start slice)) in
    let parts : all ≡ old ++ new = ap (λ (l : List ℕ). take start slice ++ (new ++ l)) none ∙ ap (λ (l : List ℕ). take start slice ++ l) (append-nil new) ∙ ap (λ (l : List ℕ). l ++ new) first in
    let long : length all ≡ len = omega (arith, ap length parts, length-append old new, at, size, whole, ap length wrote, length-bits new) in
    ap bits (take_at all (drop (length all) big) len long ∙ parts) ∙ bits-append old new ∙ ap (λ (l : List Bool). bits old ++ l) wrote

-- ---- Bits one after another.

-- a number of no bits
pub none_put : (s : WordSink) (k n : ℕ) → k ≡ 0 → s ≡ and_bits s (num k n)
unfolding num
none_put s zero n e = refl
none_put s (suc k) n e = absurd (omega (arith, e))

-- a word of a slice
pub put_more : (s one two : WordSink) (seen : List Bool) (from word : ℕ) → from + 64 ≤ length seen → one ≡ and_bits s (take from seen) → num 64 word ≡ take 64 (drop from seen ++ replicate 64 false) → two ≡ and_bits one (num 64 word) → two ≡ and_bits s (take (from + 64) seen)
put_more s one two seen from word inside e is f =
    let rest = drop from seen in
    let next : num 64 word ≡ take 64 rest = is ∙ take-append-le 64 rest (replicate 64 false) (omega (arith, length-drop from seen, inside)) in
    f
    ∙ ap (and_bits one) next
    ∙ ap (λ (t : WordSink). and_bits t (take 64 rest)) e
    ∙ and_both s (take from seen) (take 64 rest)
    ∙ ap (and_bits s) (sym (take-add from 64 seen))

-- its last bits
pub put_last : (s one two : WordSink) (seen : List Bool) (from left word : ℕ) → from + left ≡ length seen → left ≤ 64 → one ≡ and_bits s (take from seen) → num 64 word ≡ take 64 (drop from seen ++ replicate 64 false) → two ≡ and_bits one (num left (word / 2 ^ (64 - left))) → two ≡ and_bits s seen
put_last s one two seen from left word all most e is f =
    let rest = drop from seen in
    let wide : 64 ≡ left + (64 - left) = omega (arith, most) in
    let size : length rest ≡ left = omega (arith, length-drop from seen, all) in
    let next : num left (word / 2 ^ (64 - left)) ≡ rest =
    sym (take-num left (64 - left) word) ∙ ap (λ (k : ℕ). take left (num k word)) (sym wide) ∙ ap (take left) is ∙ take-take left 64 (rest ++ replicate 64 false) most ∙ take_at rest (replicate 64 false) left size in
    f
    ∙ ap (and_bits one) next
    ∙ ap (λ (t : WordSink). and_bits t rest) e
    ∙ and_both s (take from seen) rest
    ∙ ap (and_bits s) (take-append-drop from seen)

-- ---- Variables.

pub joins_some : (sent : Reading) (count wide number : ℕ) → Joins sent count wide number → 0 < wide
joins_some [] count wide number j = (let some = j.some in let most = j.most in absurd (omega (arith, some, most)))
joins_some (p ∷ sent) zero wide number j = (let some = j.some in absurd (omega (arith, some)))
joins_some (p ∷ sent) (suc count) wide number j =
    let new = num (width p.0) p.1 in
    let rest = spelled (take count sent) in
    let size : wide ≡ length (new ++ rest) = j.width_is in
    omega (arith, size, length-append new rest, length-num (width p.0) p.1, width_pos p.0)
