-- Lemmas about specs/BitLaws.antt.
use Rattle.std.proofs.Common.{◌≡◌, ℕ, zero, suc, ◌+◌, ◌-◌, ◌/◌, ◌^◌, ◌<◌, ◌≤◌, Bool, true, false, List, [], ◌∷◌, ◌++◌, length, replicate, refl, sym, ap, ◌∙◌, arith, length-append}
use Rattle.std.specs.Prelude.{if◌then◌else◌}
use Rattle.std.proofs.lemmas.List.{length-replicate}
use Rattle.etcs_bits.specs.Bits.{num}
use Rattle.etcs_vars.specs.declared.var.Var.{Var}
use Rattle.etcs_vars.specs.Vars.{width}
use Rattle.etcs_vars.specs.Reading.{Sent, Reading, spelled, kept, Viable}
use Rattle.etcs_vars.specs.Walking.{Residual}
use Rattle.etcs_vars.proofs.Apart.{Agree, AllFit}
use Rattle.etcs_vars.proofs.Walk.{Regular}
use Rattle.etcs_reader.specs.Rests.{Starts, Goes, BeginsWith}
use Rattle.etcs_sequence.specs.BitLaws.{BitsLeft}

-- ---- Their numbers.

pub bits_append : (v : Var) (a b : List Bool) → kept v (a ++ b) ≡ kept v a ++ kept v b
bits_append v [] b = refl
bits_append v (x ∷ a) b = ap (λ (t : Reading). (v, if x then 1 else 0) ∷ t) (bits_append v a b)

pub bits_agree : (v : Var) (a b : List Bool) → length a ≡ length b → Agree (kept v a) (kept v b)
bits_agree v [] [] e = tt
bits_agree v [] (y ∷ b) e = absurd cc
bits_agree v (x ∷ a) [] e = absurd cc
bits_agree v (x ∷ a) (y ∷ b) e = (refl, λ _. bits_agree v a b (let k : length a ≡ length b = cc in k))

pub bits_fit : (v : Var) (a : List Bool) → width v ≡ 1 → AllFit (kept v a)
bits_fit v [] w = tt
bits_fit v (true ∷ a) w = (rw w (omega arith), bits_fit v a w)
bits_fit v (false ∷ a) w = (rw w (omega arith), bits_fit v a w)

-- they spell themselves
pub bits_spelled : (v : Var) (b : List Bool) → width v ≡ 1 → spelled (kept v b) ≡ b
unfolding num
bits_spelled v [] w = refl
bits_spelled v (true ∷ b) w = rw (w, bits_spelled v b w) refl
bits_spelled v (false ∷ b) w = rw (w, bits_spelled v b w) refl

bit_of : (n : ℕ) → n < 2 → (b : Bool) × ((if b then 1 else 0) ≡ n)
bit_of zero h = (false, refl)
bit_of (suc zero) h = (true, refl)
bit_of (suc (suc n)) h = absurd (omega arith)

bit_below : (b : Bool) → (if b then 1 else 0) < 2
bit_below true = omega arith
bit_below false = omega arith

-- the bits after the first ones
bits_cut : (v : Var) (t f : List Bool) (q : Reading) → length t ≤ length f → kept v t ++ q ≡ kept v f → (g : List Bool) × (length t + length g ≡ length f) × (q ≡ kept v g)
bits_cut v [] f q le e = (f, omega arith, e)
bits_cut v (x ∷ t) [] q le e = absurd (omega arith)
bits_cut v (x ∷ t) (y ∷ f) q le e =
    let tails : kept v t ++ q ≡ kept v f = cc in
    let r = bits_cut v t f q (omega arith) tails in
    (r.0, (let n = r.1 in omega (arith, n)), r.2)

-- ---- What is left of them.

module _ (v : Var) (one : width v ≡ 1) where
  pub bits_regular : (n : ℕ) → Regular (BitsLeft v n)
  bits_regular n = record {
    agree = λ a b (f, l, e) (g, m, h). rw (e, h) (bits_agree v f g (l ∙ sym m));
    fit = λ a (f, l, e). rw e (bits_fit v f one);
  }

  pub bits_begin : (n : ℕ) → 0 < n → BeginsWith (BitsLeft v n) v
  bits_begin n some r ([], l, e) = absurd (omega (arith, l, some))
  bits_begin n some r (b ∷ f, l, e) = (if b then 1 else 0, kept v f, e)

  pub some_bits : (n : ℕ) → Goes (BitsLeft v n)
  some_bits n = (kept v (replicate n false), (replicate n false, length-replicate n false, refl))

  -- each bit continues
  pub bits_start : (n rest number : ℕ) → 0 < n → rest < width v → number < 2 ^ (width v - rest) → Starts (BitsLeft v n) v rest number
  bits_start n rest number pos lt fits =
      let none : rest ≡ 0 = omega (arith, lt, one) in
      let small : number < 2 = (let t : number < 2 ^ (1 - 0) = rw (one, none) at fits in omega (arith, t)) in
      let (b, is) = bit_of number small in
      let f = replicate (n - 1) false in
      let len : length (b ∷ f) ≡ n = (let l = length-replicate (n - 1) false in omega (arith, l, pos)) in
      let all : ◌≡◌ {A = Reading} ((v, number) ∷ kept v f) (kept v (b ∷ f)) = ap (λ (k : ℕ). (v, k) ∷ kept v f) (sym is) in
      (number, kept v f, (b ∷ f, len, all), rw none (omega arith))

  -- and nothing else does
  pub bits_number : (n number : ℕ) → Starts (BitsLeft v n) v 0 number → number < 2
  bits_number n number (m, r, ([], l, e), q) = absurd cc
  bits_number n number (m, r, (b ∷ f, l, e), q) =
      let h : ◌≡◌ {A = Sent} (v, m) (v, if b then 1 else 0) = cc in
      let g : m ≡ (if b then 1 else 0) = ap (λ (u : Sent). u.1) h in
      let one_is : m / 2 ^ 0 ≡ m = omega arith in
      omega (arith, g, q, one_is, bit_below b)

  pub bits_after : (n : ℕ) (t : List Bool) → length t ≤ n → Residual (BitsLeft v n) (kept v t) (BitsLeft v (n - length t))
  bits_after n t le = record {
    to = λ q (f, l, e). (let r = bits_cut v t f q (omega (arith, l, le)) e in (r.0, (let m = r.1 in omega (arith, m, l)), r.2));
    from = λ q (g, l, e). (t ++ g, omega (arith, length-append t g, l, le), ap (λ (x : Reading). kept v t ++ x) e ∙ sym (bits_append v t g));
  }

  -- bits that are left are a front of them
  pub bits_viable : (n : ℕ) (t : List Bool) → length t ≤ n → Viable (BitsLeft v n) t
  bits_viable n t le =
      let c = replicate (n - length t) false in
      let len : length (t ++ c) ≡ n = (let l = length-replicate (n - length t) false in omega (arith, l, length-append t c, le)) in
      (kept v (t ++ c), c, (t ++ c, len, refl), bits_spelled v (t ++ c) one)
