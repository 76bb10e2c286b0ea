-- What holds of what is left of a language holds of all its bits.
use Rattle.std.proofs.Common.{◌≡◌, ℕ, ◌+◌, ◌-◌, ◌/◌, ◌^◌, ◌<◌, ◌≤◌, Bool, true, List, ◌∷◌, ◌++◌, length, take, drop, refl, sym, ap, ◌∙◌, arith, append_assoc, ltb}
use Rattle.std.proofs.lemmas.Bool.{lt-ltb}
use Rattle.std.proofs.lemmas.List.{take-append-drop, length-append, length-take, take_at}
use Rattle.etcs_bits.specs.Bits.{num}
use Rattle.etcs_bits.proofs.Numbers.{length-num, num_same}
use Rattle.etcs_vars.specs.declared.var.Var.{Var}
use Rattle.etcs_vars.specs.Vars.{width}
use Rattle.etcs_vars.specs.Walking.{Residual}
use Rattle.etcs_vars.specs.Reading.{Reading, spelled, holder, Viable, Owner}
use Rattle.etcs_vars.proofs.Apart.{cut}
use Rattle.etcs_vars.proofs.Prefixes.{take-num}
use Rattle.etcs_vars.proofs.Walk.{Regular, begins_with}
use Rattle.etcs_vars.specs.laws.Spellings.{spelled-append}
use Rattle.etcs_vars.proofs.Stepping.{quotient_below}
use Rattle.etcs_vars.proofs.Sent.{length-sent, holder-append}
use Rattle.etcs_reader.specs.Rests.{Starts, Goes, BeginsWith}

-- ---- After p a language continues as R.

pub lift_viable : (L : Reading → Type 0) (p : Reading) (R : Reading → Type 0) → Residual L p R → (t : List Bool) → Viable R t → Viable L (spelled p ++ t)
lift_viable L p R residual t (q, c, l, e) = (p ++ q, c, residual.from q l, spelled-append p q ∙ ap (λ (u : List Bool). spelled p ++ u) e ∙ sym (append_assoc (spelled p) t c))

module _ (L : Reading → Type 0) (regular : Regular L) (p : Reading) (R : Reading → Type 0) (residual : Residual L p R) (some : Goes R) where
  -- a reading whose bits begin as p's do begins with p
  front : (r : Reading) (d : List Bool) → L r → spelled r ≡ spelled p ++ d → (q : Reading) × (r ≡ p ++ q) × R q × (spelled q ≡ d)
  front r d l e =
      let l0 = residual.from some.0 some.1 in
      let b = begins_with r p some.0 d (regular.agree r (p ++ some.0) l l0) (regular.fit r l) (regular.fit (p ++ some.0) l0) e in
      (b.0, b.1, residual.to b.0 (rw b.1 at l), b.2)

  pub lift_blocked : (t : List Bool) → (Viable R t → ⊥) → Viable L (spelled p ++ t) → ⊥
  lift_blocked t none (r, c, l, e) = let q = front r (t ++ c) l (e ∙ append_assoc (spelled p) t c) in none (q.0, c, q.2, q.3)

  pub lift_owner : (t : List Bool) (x : Var) → Owner R t x → Owner L (spelled p ++ t) x
  lift_owner t x o = record {
    viable = lift_viable L p R residual t o.viable;
    open_end = λ (r, l, e). (let q = front r t l e in o.open_end (q.0, q.2, q.3));
    holds = λ r c l e.
        let q = front r (t ++ c) l (e ∙ append_assoc (spelled p) t c) in
        ap (λ (u : Reading). holder u (length (spelled p ++ t))) q.1 ∙ ap (holder (p ++ q.0)) (length-append (spelled p) t) ∙ holder-append p q.0 (length t) ∙ o.holds q.0 c q.2 q.3;
  }

-- lists that begin alike begin with the shorter one
pub shorter : (a b t c : List Bool) → length t ≤ length a → a ++ b ≡ t ++ c → (d : List Bool) × (a ≡ t ++ d) × (d ++ b ≡ c)
shorter a b t c le e =
    let u = take (length t) a in
    let d = drop (length t) a in
    let whole : a ≡ u ++ d = sym (take-append-drop (length t) a) in
    let both : u ++ (d ++ b) ≡ t ++ c = sym (append_assoc u d b) ∙ ap (λ (x : List Bool). x ++ b) (sym whole) ∙ e in
    let parts = cut u t (d ++ b) c (length-take (length t) a ∙ (omega arith)) both in
    (d, whole ∙ ap (λ (x : List Bool). x ++ d) parts.0, parts.1)

-- ---- One variable, of whose number some bits are there.

module _ (R : Reading → Type 0) (regular : Regular R) (x : Var) (o : BeginsWith R x) where
  first_bits : (taken n : ℕ) → taken ≤ width x → take taken (num (width x) n) ≡ num taken (n / 2 ^ (width x - taken))
  first_bits taken n le = let whole : taken + (width x - taken) ≡ width x = omega arith in rw whole at (take-num taken (width x - taken) n)

  pub starts_viable : (taken bits : ℕ) → taken ≤ width x → Starts R x (width x - taken) bits → Viable R (num taken bits)
  starts_viable taken bits le (n, r, l, e) =
      let whole : num (width x) n ≡ num taken bits ++ drop taken (num (width x) n) =
      sym (take-append-drop taken (num (width x) n)) ∙ ap (λ (u : List Bool). u ++ drop taken (num (width x) n)) (first_bits taken n le ∙ ap (num taken) e) in
      ((x, n) ∷ r, drop taken (num (width x) n) ++ spelled r, l, ap (λ (u : List Bool). u ++ spelled r) whole ∙ append_assoc (num taken bits) (drop taken (num (width x) n)) (spelled r))

  pub starts_owner : (taken bits : ℕ) → taken < width x → Starts R x (width x - taken) bits → Owner R (num taken bits) x
  starts_owner taken bits lt s = record {
    viable = starts_viable taken bits (omega arith) s;
    open_end = λ (r, l, e).
        (let (n, r', f) = o r l in
        let len : length (spelled r) ≡ width x + length (spelled r') = ap (λ (q : Reading). length (spelled q)) f ∙ length-sent x n r' in
        omega (arith, lt, len, ap length e, length-num taken bits));
    holds = λ r c l e.
        let (n, r', f) = o r l in
        let t : ltb (length (num taken bits)) (width x) ≡ true = lt-ltb _ _ (omega (arith, lt, length-num taken bits)) in
        rw (f, t) refl;
  }

  pub number_fits : (n : ℕ) (r : Reading) → R ((x, n) ∷ r) → n < 2 ^ width x
  number_fits n r l = (regular.fit ((x, n) ∷ r) l).0

  -- with no number that continues none begins so
  pub starts_blocked : (taken bits : ℕ) → taken ≤ width x → bits < 2 ^ taken → (Starts R x (width x - taken) bits → ⊥) → Viable R (num taken bits) → ⊥
  starts_blocked taken bits le fits none (r, c, l, e) =
      let (n, r', f) = o r l in
      let l' : R ((x, n) ∷ r') = rw f at l in
      let small = number_fits n r' l' in
      let both : num (width x) n ++ spelled r' ≡ num taken bits ++ c = sym (ap spelled f) ∙ e in
      let d = shorter (num (width x) n) (spelled r') (num taken bits) c (omega (arith, le, length-num (width x) n, length-num taken bits)) both in
      let top : take taken (num (width x) n) ≡ num taken bits = ap (take taken) d.1 ∙ take_at (num taken bits) d.0 taken (length-num taken bits) in
      let whole : taken + (width x - taken) ≡ width x = omega arith in
      let below : n / 2 ^ (width x - taken) < 2 ^ taken = quotient_below n taken (width x - taken) (rw whole small) in
      none (n, r', l', num_same taken (n / 2 ^ (width x - taken)) bits below fits (sym (first_bits taken n le) ∙ top))
