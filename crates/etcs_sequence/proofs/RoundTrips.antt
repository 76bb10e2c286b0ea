-- An item that is read from bytes that spell one.
use Rattle.std.proofs.Common.{◌≡◌, ℕ, ◌+◌, ◌*◌, ◌≤◌, Bool, List, [], ◌++◌, length, take, drop, sym, ap, subst, ◌∙◌, arith, Ok}
use Rattle.std.proofs.lemmas.List.{take-append-drop, take_all}
use Rattle.etcs_bits.specs.Bits.{bits}
use Rattle.etcs_bits.proofs.Positions.{length-bits}
use Rattle.etcs_bits.proofs.Owned.{bits-take}
use Rattle.etcs_vars.specs.Reading.{Reading, spelled, InLanguage, NoneYet, readings_of}
use Rattle.etcs_vars.specs.declared.feed.Fed.TheVariants.{Done}
use Rattle.etcs_sequence.specs.Firsts.{IsFirst}
use Rattle.etcs_sequence.specs.Progress.{Progress, finished, Feeds}

-- values with one spelling are one, and no spelling begins another
abbrev pub OneSpelling : {V W : Type 0} → (W → Reading → Type 0) → (V → W) → (V → Type 0) → Type 0
OneSpelling {V} Reads value IsValue = (u v : V) (a b : Reading) (beyond : List Bool) → IsValue u → IsValue v → Reads (value u) a → Reads (value v) b → spelled b ≡ spelled a ++ beyond → (u ≡ v) × (beyond ≡ [])

same_value : {V : Type 0} (u v : V) → ◌≡◌ {A = Progress V} (finished u) (finished v) → u ≡ v
same_value u v e = cc

module _ {V W : Type 0} (Reads : W → Reading → Type 0) (value : V → W) (IsValue : V → Type 0) (bytes : List ℕ) (u : V) (n : ℕ) where
  -- what a reader has read that was fed them
  pub fed_first : (least : ℕ) (s : Progress V) → Feeds Reads value IsValue least [] (bits bytes) (Ok (Done n)) s → s ≡ finished u → IsFirst Reads value IsValue bytes u n
  fed_first least s (v, at, is, le, (inside, r, reads, e)) whole =
      let same = same_value v u (sym at ∙ whole) in
      let less : n ≤ length bytes = omega (arith, le, length-bits bytes) in
      let count : 0 + 8 * n ≡ 8 * n = omega arith in
      (subst IsValue same is, less, r, subst (λ (w : V). Reads (value w) r) same reads, e ∙ ap (λ (k : ℕ). take k (bits bytes)) count ∙ sym (bits-take bytes n less))

  -- its bytes are a front
  pub first_in : IsFirst Reads value IsValue bytes u n → InLanguage (readings_of Reads) (take (8 * n) (bits bytes))
  first_in (is, less, r, reads, e) = (r, (value u, reads), e ∙ bits-take bytes n less)

  module _ (v : V) (r : Reading) (is : IsValue v) (reads : Reads (value v) r) (all : spelled r ≡ bits bytes) where
    -- bytes that spell a value begin with it
    pub one_first : OneSpelling Reads value IsValue → IsFirst Reads value IsValue bytes u n → u ≡ v
    one_first one (is', less, q, reads', e) =
        let whole : spelled r ≡ spelled q ++ drop (8 * n) (bits bytes) = all ∙ sym (take-append-drop (8 * n) (bits bytes)) ∙ ap (λ (x : List Bool). x ++ drop (8 * n) (bits bytes)) (sym (e ∙ bits-take bytes n less)) in
        (one u v q r (drop (8 * n) (bits bytes)) is' is reads' reads whole).0

-- and do begin with one
pub some_there : {W : Type 0} (Reads : W → Reading → Type 0) (w : W) (r : Reading) (b : List Bool) → Reads w r → spelled r ≡ b → NoneYet (readings_of Reads) b → ⊥
some_there Reads w r b reads e none = none (length b) (omega arith) (r, (w, reads), e ∙ sym (take_all (length b) b (omega arith)))
