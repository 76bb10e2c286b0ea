-- Bits of the variable that comes next, and of several whole ones.
use Rattle.std.proofs.Common.{◌≡◌, ℕ, ◌+◌, ◌-◌, ◌*◌, ◌/◌, ◌^◌, ◌<◌, ◌≤◌, Bool, List, [], ◌∷◌, ◌++◌, length, take, drop, Some, None, refl, sym, ap, subst, ◌∙◌, arith, append_assoc}
use Rattle.std.specs.Prelude.{Option, IfSome, IsNone}
use Rattle.std.proofs.lemmas.List.{append-nil, length-append, take-append-drop, take-take}
use Rattle.std.proofs.Math.Seq.{take-append-add}
use Rattle.std.proofs.Math.Nat.{div-eq_of_lt}
use Rattle.etcs_bits.specs.Bits.{num, part}
use Rattle.etcs_bits.proofs.Numbers.{length-num}
use Rattle.etcs_vars.specs.declared.var.Var.{Var}
use Rattle.etcs_vars.specs.Vars.{width}
use Rattle.etcs_vars.specs.Walking.{Residual, Refuses}
use Rattle.etcs_vars.specs.Reading.{Reading, spelled, Viable, Owner}
use Rattle.etcs_vars.proofs.Prefixes.{take-num, width_pos}
use Rattle.etcs_vars.proofs.Walk.{Regular}
use Rattle.etcs_vars.proofs.Outcomes.{viable_front, refuses_longer}
use Rattle.etcs_vars.proofs.Stepping.{next_number, quotient_below, parts_fit}
use Rattle.etcs_reader.specs.Rests.{Starts, Goes, BeginsWith, Ended, LeapsBy}
use Rattle.etcs_reader.specs.Readers.{Unfinished, Passed}
use Rattle.etcs_reader.proofs.Lifts.{starts_viable, starts_owner, starts_blocked}

-- ---- Several bits of one variable.

-- the first k of count bits more
pub front_is : (number taken count k bits : ℕ) → bits < 2 ^ count → k ≤ count → take (taken + k) (num taken number ++ num count bits) ≡ num (taken + k) (number * 2 ^ k + bits / 2 ^ (count - k))
front_is number taken count k bits fits le =
    let whole : k + (count - k) ≡ count = omega arith in
    let l = length-num taken number in
    let high : bits / 2 ^ (count - k) < 2 ^ k = quotient_below bits k (count - k) (rw whole fits) in
    ap (λ (j : ℕ). take (j + k) (num taken number ++ num count bits)) (sym l)
    ∙ take-append-add (num taken number) (num count bits) k
    ∙ ap (λ (t : List Bool). num taken number ++ t) (rw whole at (take-num k (count - k) bits))
    ∙ sym (next_number taken k number (bits / 2 ^ (count - k)) high)

pub high_fits : (number taken count k bits : ℕ) → number < 2 ^ taken → bits < 2 ^ count → k ≤ count → number * 2 ^ k + bits / 2 ^ (count - k) < 2 ^ (taken + k)
high_fits number taken count k bits n fits le =
    let whole : k + (count - k) ≡ count = omega arith in
    parts_fit taken k number (bits / 2 ^ (count - k)) n (quotient_below bits k (count - k) (rw whole fits))

-- none of them yet
pub no_more : (number bits count : ℕ) → bits < 2 ^ count → number ≡ number * 2 ^ 0 + bits / 2 ^ (count - 0)
no_more number bits count small =
    let all : count - 0 ≡ count = omega arith in
    let none : bits / 2 ^ (count - 0) ≡ 0 = ap (λ (k : ℕ). bits / 2 ^ k) all ∙ div-eq_of_lt small in
    omega (arith, none)

pub none_more : (L : Reading → Type 0) (x : Var) (number taken bits count : ℕ) → bits < 2 ^ count → Starts L x (width x - taken) number → Starts L x (width x - (taken + 0)) (number * 2 ^ 0 + bits / 2 ^ (count - 0))
none_more L x number taken bits count small (n, r, l, e) =
    let rest : width x - (taken + 0) ≡ width x - taken = omega arith in
    (n, r, l, ap (λ (k : ℕ). n / 2 ^ k) rest ∙ e ∙ no_more number bits count small)

-- bit k of those more is the first that is refused
pub refuses_at : (L : Reading → Type 0) → Regular L → (x : Var) → BeginsWith L x → (number taken count bits k : ℕ)
    → taken + count ≤ width x → number < 2 ^ taken → bits < 2 ^ count → k < count
    → Starts L x (width x - (taken + k)) (number * 2 ^ k + bits / 2 ^ (count - k))
    → (Starts L x (width x - (taken + (k + 1))) (number * 2 ^ (k + 1) + bits / 2 ^ (count - (k + 1))) → ⊥)
    → Refuses L (num taken number ++ num count bits) (taken + k) x
refuses_at L regular x o number taken count bits k within small fits less before none = record {
  within = omega (arith, less, length-append (num taken number) (num count bits), length-num taken number, length-num count bits);
  owned = rw (front_is number taken count k bits fits (omega (arith, less))) (starts_owner L regular x o (taken + k) (number * 2 ^ k + bits / 2 ^ (count - k)) (omega (arith, within, less)) before);
  blocked = λ v.
      let more : taken + k + 1 ≡ taken + (k + 1) = omega arith in
      let front = ap (λ (n : ℕ). take n (num taken number ++ num count bits)) more ∙ front_is number taken count (k + 1) bits fits (omega (arith, less)) in
      starts_blocked L regular x o (taken + (k + 1)) (number * 2 ^ (k + 1) + bits / 2 ^ (count - (k + 1))) (omega (arith, within, less)) (high_fits number taken count (k + 1) bits small fits (omega (arith, less))) none (subst (Viable L) front v);
}

-- no variable has begun
pub unfinished_none : (L : Reading → Type 0) → Regular L → (next : Option Var) → ((x : Var) → next ≡ Some x → BeginsWith L x) → Goes L → Unfinished L next 0 0
unfinished_none L regular next begins (r, l) = record {
  fits = omega arith;
  goes = (r, l);
  inside = λ x e.
      let (n, r', f) = begins x e r l in
      let l' : L ((x, n) ∷ r') = rw f at l in
      let small : n < 2 ^ width x = (regular.fit ((x, n) ∷ r') l').0 in
      let all : width x - 0 ≡ width x = omega arith in
      (width_pos x, (n, r', l', ap (λ (k : ℕ). n / 2 ^ k) all ∙ div-eq_of_lt small));
  ended = λ _. refl;
}

-- some bits more of the same
pub unfinished_more : (L : Reading → Type 0) (next : Option Var) (x : Var) → next ≡ Some x → (number taken count bits : ℕ) → number < 2 ^ taken → bits < 2 ^ count → taken + count < width x → Starts L x (width x - (taken + count)) (number * 2 ^ count + bits) → Unfinished L next (number * 2 ^ count + bits) (taken + count)
unfinished_more L next x e number taken count bits n b short starts = record {
  fits = parts_fit taken count number bits n b;
  goes = ((x, starts.0) ∷ starts.1, starts.2);
  inside = λ y f. (let same : x ≡ y = (let g : ◌≡◌ {A = Option Var} (Some x) (Some y) = sym e ∙ f in cc) in rw (← same) (short, starts));
  ended = λ f. absurd (let g : ◌≡◌ {A = Option Var} (Some x) None = sym e ∙ f in cc);
}

pub unfinished_leap : (L : Reading → Type 0) → Regular L → (next : Option Var) → ((x : Var) → next ≡ Some x → BeginsWith L x) → (number taken : ℕ) → number < 2 ^ taken → taken ≤ 0 → Goes L → Unfinished L next number taken
unfinished_leap L regular next begins number taken fits le goes =
    let none : taken ≡ 0 = omega arith in
    let small : number < 2 ^ 0 = rw none at fits in
    let zero : number ≡ 0 = omega (arith, small) in
    rw (none, zero) (unfinished_none L regular next begins goes)

-- ---- What was passed of one variable, or of several together.

pub passed_none : (Follows : Reading → Type 0) → Follows [] → (part xs : List Bool) → Passed Follows (part ++ take 0 xs) part
passed_none Follows f part xs = record { whole = []; follows = f; bits = sym (append-nil part) }

pub passed_more : (Follows : Reading → Type 0) → Follows [] → (number taken count bits : ℕ) (b : List Bool) → bits < 2 ^ count → num count bits ≡ b → Passed Follows (num taken number ++ b) (num (taken + count) (number * 2 ^ count + bits))
passed_more Follows f number taken count bits b small e = record { whole = []; follows = f; bits = next_number taken count number bits small ∙ ap (λ (t : List Bool). num taken number ++ t) e }

-- the first k of count bits of it
pub passed_front : (Follows : Reading → Type 0) → Follows [] → (number taken count bits k : ℕ) (xs : List Bool) → bits < 2 ^ count → k ≤ count → num count bits ≡ take count xs → Passed Follows (num taken number ++ take k xs) (num (taken + k) (number * 2 ^ k + bits / 2 ^ (count - k)))
passed_front Follows f number taken count bits k xs small le e =
    let whole : k + (count - k) ≡ count = omega arith in
    let high : bits / 2 ^ (count - k) < 2 ^ k = quotient_below bits k (count - k) (rw whole small) in
    let front : num k (bits / 2 ^ (count - k)) ≡ take k xs = sym (rw whole at (take-num k (count - k) bits)) ∙ ap (take k) e ∙ take-take k count xs le in
    passed_more Follows f number taken k (bits / 2 ^ (count - k)) (take k xs) high front

-- the last bits of it
pub passed_whole : (Follows : Reading → Type 0) (x : Var) (number taken count bits : ℕ) (b : List Bool) → Follows ((x, number * 2 ^ count + bits) ∷ []) → bits < 2 ^ count → num count bits ≡ b → taken + count ≡ width x → Passed Follows (num taken number ++ b) (num 0 0)
unfolding num
passed_whole Follows x number taken count bits b f small e whole = record {
  whole = (x, number * 2 ^ count + bits) ∷ [];
  follows = f;
  bits = append-nil (num (width x) (number * 2 ^ count + bits) ++ []) ∙ append-nil (num (width x) (number * 2 ^ count + bits)) ∙ ap (λ (w : ℕ). num w (number * 2 ^ count + bits)) (sym whole) ∙ next_number taken count number bits small ∙ ap (λ (t : List Bool). num taken number ++ t) e;
}

-- whole variables that are taken together, where none has begun
pub passed_leap : (F Left : Reading → Type 0) (number taken : ℕ) (xs : List Bool) (at n : ℕ) → taken ≤ 0 → LeapsBy Left F xs at n → Passed F (num taken number ++ part at n xs) (num taken number)
unfolding num
passed_leap F Left number taken xs at n le l =
    let none : taken ≡ 0 = omega arith in record {
      whole = l.whole;
      follows = l.follows;
      bits = rw none (append-nil (spelled l.whole) ∙ l.bits);
    }

-- the next variable at once, where none has begun
pub passed_one : (F : Reading → Type 0) (x : Var) (n number taken : ℕ) (b : List Bool) → taken ≤ 0 → F ((x, n) ∷ []) → num (width x) n ≡ b → Passed F (num taken number ++ b) (num taken number)
unfolding num
passed_one F x n number taken b le f e =
    let none : taken ≡ 0 = omega arith in record {
      whole = (x, n) ∷ [];
      follows = f;
      bits = rw none (append-nil (num (width x) n ++ []) ∙ append-nil (num (width x) n) ∙ e);
    }

pub goes_after : (L R : Reading → Type 0) (x : Var) (number rest : ℕ) → rest ≡ 0 → Residual L ((x, number) ∷ []) R → Starts L x rest number → Goes R
goes_after L R x number rest none residual (n, r, l, e) =
    let one : n / 2 ^ rest ≡ n = ap (λ j. n / 2 ^ j) none ∙ omega arith in
    let same : n ≡ number = sym one ∙ e in
    (r, residual.to r (rw same at l))

-- refused within a part of the new bits, refused within all of them
pub refuses_front : (L : Reading → Type 0) (number taken count bits : ℕ) (xs : List Bool) (k : ℕ) (x : Var) → num count bits ≡ take count xs → Refuses L (num taken number ++ num count bits) (taken + k) x → Refuses L (num taken number ++ xs) (length (num taken number) + k) x
refuses_front L number taken count bits xs k x e r =
    let l = refuses_longer L (num taken number ++ num count bits) (drop count xs) (taken + k) x r in
    let same : (num taken number ++ num count bits) ++ drop count xs ≡ num taken number ++ xs =
    append_assoc (num taken number) (num count bits) (drop count xs) ∙ ap (λ (t : List Bool). num taken number ++ (t ++ drop count xs)) e ∙ ap (λ (t : List Bool). num taken number ++ t) (take-append-drop count xs) in
    rw (length-num taken number) (rw same at l)

-- a bit more continues where a whole number does
pub starts_with : (L : Reading → Type 0) → Regular L → (x : Var) → BeginsWith L x → (number taken count bits rest : ℕ) (xs : List Bool) → Starts L x rest (number * 2 ^ count + bits) → bits < 2 ^ count → num count bits ≡ take count xs → taken + count ≤ width x → rest ≡ width x - (taken + count) → 0 < count → Viable L (num taken number ++ take 1 xs)
starts_with L regular x o number taken count bits rest xs s small e within rest_is some =
    let v : Viable L (num (taken + count) (number * 2 ^ count + bits)) = starts_viable L regular x o (taken + count) (number * 2 ^ count + bits) within (rw rest_is at s) in
    let whole : num (taken + count) (number * 2 ^ count + bits) ≡ num taken number ++ take count xs = next_number taken count number bits small ∙ ap (λ (t : List Bool). num taken number ++ t) e in
    let v1 = viable_front L (taken + 1) (num taken number ++ take count xs) (subst (Viable L) whole v) in
    let cut : take (taken + 1) (num taken number ++ take count xs) ≡ num taken number ++ take 1 xs =
    ap (λ (j : ℕ). take (j + 1) (num taken number ++ take count xs)) (sym (length-num taken number)) ∙ take-append-add (num taken number) (take count xs) 1 ∙ ap (λ (t : List Bool). num taken number ++ t) (take-take 1 count xs some) in
    subst (Viable L) cut v1

-- the same of a whole variable of which no bit was there
pub starts_one : (L : Reading → Type 0) → Regular L → (x : Var) → BeginsWith L x → (number taken n : ℕ) (xs : List Bool) → taken ≤ 0 → Starts L x 0 n → num (width x) n ≡ take (width x) xs → Viable L (num taken number ++ take 1 xs)
unfolding num
starts_one L regular x o number taken n xs le s e =
    let none : taken ≡ 0 = omega arith in
    let same : n ≡ 0 * 2 ^ width x + n = omega arith in
    let small : n < 2 ^ width x = (let (m, r, l, f) = s in let one : m ≡ n = sym (let h : m / 2 ^ 0 ≡ m = omega arith in h) ∙ f in rw one at (regular.fit ((x, m) ∷ r) l).0) in
    let rest : 0 ≡ width x - (0 + width x) = omega arith in
    rw none (starts_with L regular x o 0 0 (width x) n 0 xs (rw same at s) small e (omega arith) rest (width_pos x))

pub viable_none : (L : Reading → Type 0) (number taken : ℕ) (xs : List Bool) → taken ≤ 0 → Viable L (take 1 xs) → Viable L (num taken number ++ take 1 xs)
unfolding num
viable_none L number taken xs le v = let none : taken ≡ 0 = omega arith in rw none v

-- what a reader says about the variable that comes next
pub unfinished_owner : (L : Reading → Type 0) → Regular L → (next : Option Var) → ((x : Var) → next ≡ Some x → BeginsWith L x) → (number taken : ℕ) → Unfinished L next number taken → (x : Var) → next ≡ Some x → Owner L (num taken number) x
unfinished_owner L regular next begins number taken u x e = let (lt, s) = u.inside x e in starts_owner L regular x (begins x e) taken number lt s

-- the same of an option
pub unfinished_next : (L : Reading → Type 0) → Regular L → (next : Option Var) → ((x : Var) → next ≡ Some x → BeginsWith L x) → (number taken : ℕ) → Unfinished L next number taken → (found : Option Var) → found ≡ next → IfSome found (Owner L (num taken number))
unfinished_next L regular next begins number taken u (Some x) e = unfinished_owner L regular next begins number taken u x (sym e)
unfinished_next L regular next begins number taken u None e = tt

-- of which not all bits are there
pub unfinished_short : (L : Reading → Type 0) (next : Option Var) (number taken : ℕ) → Unfinished L next number taken → (found : Option Var) → found ≡ next → IfSome found (λ x. length (num taken number) < width x)
unfinished_short L next number taken u (Some x) e = let (lt, s) = u.inside x (sym e) in rw length-num lt
unfinished_short L next number taken u None e = tt

pub none_is : (found : Option Var) → IsNone found → found ≡ None
none_is None h = refl
none_is (Some x) h = absurd cc

pub unfinished_ended : (L : Reading → Type 0) (next : Option Var) → (next ≡ None → Ended L) → (number taken : ℕ) → Unfinished L next number taken → next ≡ None → (num taken number ≡ []) × L []
unfolding num
unfinished_ended L next ends number taken u e = (rw (u.ended e) refl, (let none : u.goes.0 ≡ [] = ends e u.goes.0 u.goes.1 in rw none at u.goes.1))
