-- The bytes of an encoding.
use Rattle.std.proofs.Common.{◌≡◌, ℕ, zero, suc, ◌+◌, ◌*◌, ◌^◌, ◌<◌, ◌≤◌, Bool, List, [], ◌∷◌, ◌++◌, length, take, drop, get_or, Result, Ok, Err, sym, ap, ◌∙◌, arith}
use Rattle.std.specs.Prelude.{All, OnOk}
use Rattle.std.proofs.lemmas.List.{drop_at, length-append, take-append-drop, take_at}
use Rattle.std.proofs.lemmas.List.Elements.{All-drop, All-get_or, All-take}
use Rattle.etcs_bits.specs.Bits.{bits}
use Rattle.etcs_bits.proofs.ByteBits.{bits-drop}
use Rattle.etcs_bits.proofs.Owned.{bits-take, bits_same}
use Rattle.etcs_bits.proofs.Positions.{length-bits}
use Rattle.etcs_vars.specs.Reading.{Reading, spelled}
use Rattle.etcs_text.specs.Entries.{EntryValue, Spells}
use Rattle.etcs_text.specs.Encodings.{IsEncoded}

all_small : (xs : List ℕ) → All (λ b. b < 256) xs → (i : ℕ) → get_or xs i 0 < 2 ^ 8
all_small [] h i = omega arith
all_small (x ∷ xs) h zero = All-get_or (λ b. b < 256) (x ∷ xs) 0 0 (omega arith) h
all_small (x ∷ xs) h (suc i) = all_small xs (All-drop (λ b. b < 256) 1 (x ∷ xs) h) i

-- bytes after others
appended : (e : EntryValue) (old new : List ℕ) (r : Reading) → All (λ b. b < 256) old → All (λ b. b < 256) new → Spells e r → bits new ≡ bits old ++ spelled r → (added : List ℕ) × IsEncoded e added × (new ≡ old ++ added)
appended e old new r hold hnew reads is =
    let n = length old in
    let all : length (bits new) ≡ length (bits old) + length (spelled r) = ap (λ (b : List Bool). length b) is ∙ length-append (bits old) (spelled r) in
    let inside : n ≤ length new = omega (arith, all, length-bits new, length-bits old) in
    let front : bits (take n new) ≡ bits old = bits-take new n inside ∙ ap (λ (b : List Bool). take (8 * n) b) is ∙ take_at (bits old) (spelled r) (8 * n) (length-bits old) in
    let beyond : bits (drop n new) ≡ spelled r = bits-drop new n ∙ ap (λ (b : List Bool). drop (8 * n) b) is ∙ drop_at (bits old) (spelled r) (8 * n) (length-bits old) in
    let same : take n new ≡ old = bits_same (take n new) old (all_small (take n new) (All-take (λ b. b < 256) n new hnew)) (all_small old hold) front in (
      drop n new,
      record { reading = r; reads = reads; small = All-drop (λ b. b < 256) n new hnew; bits_are = beyond },
      sym (take-append-drop n new) ∙ ap (λ (z : List ℕ). z ++ drop n new) same,
    )

pub appended_ok : {T E : Type 0} (res : Result T E) (e : EntryValue) (old new : List ℕ) → All (λ b. b < 256) old → All (λ b. b < 256) new → OnOk res ((r : Reading) × Spells e r × (bits new ≡ bits old ++ spelled r)) → OnOk res ((added : List ℕ) × IsEncoded e added × (new ≡ old ++ added))
appended_ok (Ok x) e old new hold hnew (r, reads, is) = appended e old new r hold hnew reads is
appended_ok (Err x) e old new hold hnew h = tt
