-- Variables joined into one number.
use Rattle.std.proofs.Common.{◌≡◌, ℕ, ◌+◌, ◌*◌, ◌%◌, ◌^◌, ◌<◌, ◌≤◌, Bool, List, [], ◌∷◌, ◌++◌, length, take, get_or, refl, sym, ap, ◌∙◌, arith, append-nil, length-append}
use Rattle.std.proofs.lemmas.List.{take_more}
use Rattle.std.proofs.lemmas.Nat.{pow_pos}
use Rattle.std.proofs.Math.Pow.{pow_mono}
use Rattle.etcs_bits.specs.Bits.{num}
use Rattle.etcs_bits.proofs.Numbers.{length-num}
use Rattle.etcs_vars.specs.declared.var.Var.TheVariants.{Q_UPDOWN}
use Rattle.etcs_vars.specs.Vars.{width}
use Rattle.etcs_vars.specs.Reading.{Sent, Reading, spelled}
use Rattle.etcs_vars.proofs.Prefixes.{width-le}
use Rattle.etcs_vars.proofs.Stepping.{parts_fit, next_number}
use Rattle.etcs_vars.specs.laws.Spellings.{spelled-append}
use Rattle.etcs_vars.specs.Joins.{Joins}

-- the variable at a place
abbrev pub at_place : Reading → ℕ → Sent
at_place sent i = get_or sent i (Q_UPDOWN, 0)

one_spelled : (p : Sent) → spelled (p ∷ []) ≡ num (width p.0) p.1
one_spelled p = append-nil (num (width p.0) p.1)

pub join_first : (sent : Reading) (wide number : ℕ) → 0 < length sent → wide ≡ width (at_place sent 0).0 → number < 2 ^ wide → num wide number ≡ num wide (at_place sent 0).1 → Joins sent 1 wide number
join_first [] wide number pos w fits bits = absurd (omega (arith, pos))
join_first (p ∷ sent) wide number pos w fits bits =
    let one : spelled (p ∷ []) ≡ num wide p.1 = one_spelled p ∙ ap (λ (k : ℕ). num k p.1) (sym w) in
    record {
      some = omega arith;
      most = omega arith;
      width_is = sym (ap length one ∙ length-num wide p.1);
      word = (let m = width-le p.0 in omega (arith, m, w));
      bits_are = bits ∙ sym one;
      fits = fits;
    }

pub join_next : (sent : Reading) (count wide number more low : ℕ) → Joins sent count wide number → count < length sent → more ≡ width (at_place sent count).0 → wide + more ≤ 64 → low < 2 ^ more → num more low ≡ num more (at_place sent count).1 → Joins sent (count + 1) (wide + more) (number * 2 ^ more + low)
join_next sent count wide number more low j lt m word below bits =
    let p = at_place sent count in
    let all : take (count + 1) sent ≡ take count sent ++ p ∷ [] = take_more sent count (Q_UPDOWN, 0) lt in
    let one : spelled (p ∷ []) ≡ num more p.1 = one_spelled p ∙ ap (λ (k : ℕ). num k p.1) (sym m) in
    let whole : spelled (take (count + 1) sent) ≡ spelled (take count sent) ++ num more p.1 = ap spelled all ∙ spelled-append (take count sent) (p ∷ []) ∙ ap (λ (t : List Bool). spelled (take count sent) ++ t) one in
    let is = j.width_is in
    let most = j.most in
    record {
      some = omega arith;
      most = omega (arith, lt);
      width_is = ap (λ (k : ℕ). k + more) is ∙ sym (ap length whole ∙ length-append (spelled (take count sent)) (num more p.1) ∙ ap (λ (k : ℕ). length (spelled (take count sent)) + k) (length-num more p.1));
      word = word;
      bits_are =
          next_number wide more number low below
          ∙ ap (λ (t : List Bool). num wide number ++ t) bits
          ∙ ap (λ (t : List Bool). t ++ num more p.1) j.bits_are
          ∙ sym whole;
      fits = parts_fit wide more number low j.fits below;
    }

-- in a word nothing of it is lost
pub join_word : (wide more number n : ℕ) → number < 2 ^ wide → wide + more ≤ 57 → number * 2 ^ more % 18446744073709551616 + n % (1 * 2 ^ more % 18446744073709551616) ≡ number * 2 ^ more + n % 2 ^ more
join_word wide more number n fits word =
    let pos : 0 < 2 ^ more = pow_pos more in
    let high : number * 2 ^ more + 0 < 2 ^ (wide + more) = parts_fit wide more number 0 fits pos in
    let most : 2 ^ (wide + more) ≤ 2 ^ 57 = pow_mono word in
    let few : 2 ^ more ≤ 2 ^ 57 = (let le : more ≤ 57 = omega (arith, word) in pow_mono le) in
    let a : number * 2 ^ more % 18446744073709551616 ≡ number * 2 ^ more = (let k = number * 2 ^ more in let below : k < 18446744073709551616 = omega (arith, high, most) in omega (arith, below)) in
    let b : 1 * 2 ^ more % 18446744073709551616 ≡ 2 ^ more = (let k = 2 ^ more in let below : k < 18446744073709551616 = omega (arith, few) in omega (arith, below)) in
    rw (a, b) refl
