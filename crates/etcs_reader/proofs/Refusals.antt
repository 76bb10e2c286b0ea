-- What a refused bit says of the variable that comes next.
use Rattle.std.proofs.Common.{◌≡◌, ℕ, ◌+◌, ◌-◌, ◌*◌, ◌^◌, ◌<◌, ◌≤◌, Bool, List, ◌++◌, length, take, drop, Some, sym, ap, subst, ◌∙◌, arith, append_assoc, take-add}
use Rattle.std.specs.Prelude.{Option}
use Rattle.std.proofs.Math.Seq.{take-append-add}
use Rattle.std.proofs.Math.Pow.{pow_mono}
use Rattle.etcs_bits.specs.Bits.{num}
use Rattle.etcs_vars.specs.declared.var.Var.{Var}
use Rattle.etcs_vars.specs.Vars.{width}
use Rattle.etcs_vars.specs.Walking.{Residual}
use Rattle.etcs_vars.specs.Reading.{Reading, spelled, Viable}
use Rattle.etcs_vars.proofs.Walk.{Regular}
use Rattle.etcs_vars.proofs.Stepping.{next_number, parts_fit}
use Rattle.etcs_reader.specs.Rests.{Starts, BeginsWith}
use Rattle.etcs_reader.specs.Readers.{RefusesAt}
use Rattle.etcs_reader.proofs.Lifts.{lift_viable, starts_viable}

-- no number of it that continues begins with its bits that are there and the refused one
pub none_starts : {R : Type 0} (left : R → Reading → Type 0) → ((s : R) → Regular (left s)) → (next : R → Option Var) → ((s : R) (x : Var) → next s ≡ Some x → BeginsWith (left s) x) → (follows : R → Reading → R → Type 0) → ((s t : R) (p : Reading) → follows s p t → Residual (left s) p (left t))
    → (s : R) (b xs : List Bool) (n : ℕ) (x : Var) (t : R) (b' : List Bool) → RefusesAt R left next follows s b xs n x t b' → (bits : ℕ) → num (length b' + 1) bits ≡ b' ++ take 1 (drop n xs) → Starts (left t) x (width x - (length b' + 1)) bits → ⊥
none_starts {R} left regular next begins_with follows residual s b xs n x t b' h bits e starts =
    let short : length b' + 1 ≤ width x = omega (arith, h.short) in
    let v : Viable (left t) (num (length b' + 1) bits) = starts_viable (left t) (regular t) x (begins_with t x h.here) (length b' + 1) bits short starts in
    let p = h.passed in
    let w : Viable (left s) (spelled p.whole ++ (b' ++ take 1 (drop n xs))) = lift_viable (left s) p.whole (left t) (residual s t p.whole p.follows) (b' ++ take 1 (drop n xs)) (subst (Viable (left t)) e v) in
    let cut : spelled p.whole ++ (b' ++ take 1 (drop n xs)) ≡ take (length b + n + 1) (b ++ xs) =
    sym (append_assoc (spelled p.whole) b' (take 1 (drop n xs)))
    ∙ ap (λ (u : List Bool). u ++ take 1 (drop n xs)) p.bits
    ∙ append_assoc b (take n xs) (take 1 (drop n xs))
    ∙ ap (λ (u : List Bool). b ++ u) (sym (take-add n 1 xs))
    ∙ sym (take-append-add b xs (n + 1))
    ∙ (let more : length b + (n + 1) ≡ length b + n + 1 = omega arith in ap (λ (k : ℕ). take k (b ++ xs)) more) in
    h.refuses.blocked (subst (Viable (left s)) cut w)

-- the bits of a variable with the refused one
pub with_bit : (taken part last : ℕ) (b xs : List Bool) (n : ℕ) → last < 2 ^ 1 → b ≡ num taken part → num 1 last ≡ take 1 (drop n xs) → num (taken + 1) (part * 2 + last) ≡ b ++ take 1 (drop n xs)
with_bit taken part last b xs n small is e = next_number taken 1 part last small ∙ ap (λ (t : List Bool). num taken part ++ t) e ∙ ap (λ (t : List Bool). t ++ take 1 (drop n xs)) (sym is)

-- it has so many bits
pub with_bit_fits : (taken part last w : ℕ) → part < 2 ^ taken → last < 2 ^ 1 → taken + 1 ≤ w → w ≤ 64 → (part * 2 + last < 2 ^ (taken + 1)) × (part * 2 + last < 2 ^ 64)
with_bit_fits taken part last w p l le most =
    let small : part * 2 + last < 2 ^ (taken + 1) = parts_fit taken 1 part last p l in
    let grown : 2 ^ (taken + 1) ≤ 2 ^ 64 = (let k : taken + 1 ≤ 64 = omega (arith, le, most) in pow_mono k) in
    (small, omega (arith, small, grown))

-- the bits up to the refused one are those of whole variables and of the next one
pub bits_are : (p : Reading) (b xs : List Bool) (n k : ℕ) (c : List Bool) → spelled p ++ b ≡ take n xs → c ≡ b ++ take 1 (drop n xs) → k ≡ n → spelled p ++ c ≡ take (k + 1) xs
bits_are p b xs n k c e f is =
    ap (λ (t : List Bool). spelled p ++ t) f
    ∙ sym (append_assoc (spelled p) b (take 1 (drop n xs)))
    ∙ ap (λ (t : List Bool). t ++ take 1 (drop n xs)) e
    ∙ sym (take-add n 1 xs)
    ∙ ap (λ (j : ℕ). take (j + 1) xs) (sym is)
