-- Fields that were written one after another, as far as an item has bits.
use Rattle.std.proofs.Common.{◌≡◌, ℕ, ◌+◌, ◌*◌, ◌/◌, ◌≤◌, min, Bool, List, [], ◌++◌, length, take, sym, ap, subst, ◌∙◌, ◌⊎◌, inl, inr, arith}
use Rattle.std.proofs.lemmas.Bool.{cases_lt}
use Rattle.std.proofs.lemmas.List.{length-append, length-take, take-append-le, take-take, take_all}
use Rattle.etcs_bits.specs.Bits.{bits}
use Rattle.etcs_bits.proofs.Owned.{bits-take}
use Rattle.etcs_vars.specs.declared.word_sink.WordSink.{WordSink}
use Rattle.etcs_vars.specs.WordSinks.{IsWritten, and_bits, bits_so_far}
use Rattle.etcs_vars.proofs.WordSinks.{Goes, goes}
use Rattle.etcs_c.specs.ItemFields.{whole_bytes}

-- the first bits of whole bytes
whole_front : (b : List Bool) (place : ℕ) → place ≡ min 8184 (length b) → take (8 * (place / 8)) b ≡ take 8184 (whole_bytes b)
whole_front b place is =
    elim (cases_lt (length b) 8184) [
      | inl lt ↦
          let same : 8 * (place / 8) ≡ 8 * (length b / 8) = omega (arith, is, lt) in
          let short : length (whole_bytes b) ≤ 8184 = omega (arith, length-take (8 * (length b / 8)) b, lt) in
          ap (λ (n : ℕ). take n b) same ∙ sym (take_all 8184 (whole_bytes b) short)
      | inr ge ↦
          let same : 8 * (place / 8) ≡ 8184 = omega (arith, is, ge) in
          ap (λ (n : ℕ). take n b) same ∙ sym (take-take 8184 (8 * (length b / 8)) b (omega (arith, ge)))
    ]

-- into a sink s over bytes, into which nothing was put, bits were put, which makes it t; new are the bytes in the end
pub record Packs (s t : WordSink) (all : List Bool) (place : ℕ) (new : List ℕ) : Type 0 where
  pub name : s.bytes.ghost_name ≡ t.bytes.ghost_name
  pub bits_are : length new ≡ length s.bytes.now → bits (take (place / 8) new) ≡ take 8184 (whole_bytes all)

-- b are all of the bits, or at least as many of them as an item may have
pub packs : (s t : WordSink) (all b rest : List Bool) (place : ℕ) (new : List ℕ) → s.at ≡ 0 → s.word ≡ [] → length b ≤ 8 * length s.bytes.now → t ≡ and_bits s b → IsWritten t new → all ≡ b ++ rest → (rest ≡ []) ⊎ (8184 ≤ length b) → place ≡ min (length b) 8184 → Packs s t all place new
packs s t all b rest place new at none fits is wrote whole ends place_is =
    let empty : length s.word ≡ 0 = ap length none in
    let g : Goes s t b = subst (λ (u : WordSink). Goes s u b) (sym is) (goes s b (omega (arith, at)) (omega (arith, empty)) (omega (arith, at, empty, fits))) in
    let end : 8 * t.at + length t.word ≡ length b = omega (arith, g.place, at, empty) in
    let nothing : bits_so_far s ≡ [] = ap (λ (k : ℕ). take (8 * k) (bits s.bytes.now) ++ s.word) at ∙ none in
    let first : take (length b) (bits new) ≡ b =
    ap (λ (n : ℕ). take n (bits new)) (sym end)
    ∙ wrote (omega (arith, end, fits, g.long))
    ∙ g.is
    ∙ ap (λ (l : List Bool). l ++ b) nothing in
    let long : length all ≡ length b + length rest = ap (λ (l : List Bool). length l) whole ∙ length-append b rest in
    let most : place ≡ min 8184 (length all) = elim ends [
      | inl end ↦ let e : length rest ≡ 0 = ap (λ (l : List Bool). length l) end in omega (arith, long, e, place_is)
      | inr beyond ↦ omega (arith, long, beyond, place_is)
    ] in
    let n = 8 * (place / 8) in
    record {
      name = sym g.name;
      bits_are = λ same.
          bits-take new (place / 8) (omega (arith, place_is, fits, same))
          ∙ sym (take-take n (length b) (bits new) (omega (arith, place_is)))
          ∙ ap (λ (l : List Bool). take n l) first
          ∙ sym (take-append-le n b rest (omega (arith, place_is)))
          ∙ ap (λ (l : List Bool). take n l) (sym whole)
          ∙ whole_front all place most;
    }
