-- Sums of this many numbers by doubling.
use Rattle.std.proofs.Common.{◌≡◌, ℕ, ◌+◌, ◌*◌, ◌/◌, ◌%◌, ◌≤◌, zero, suc, zero-add, length, refl, sym, subst, arith}
use Rattle.std.specs.Prelude.{◌↔◌}
use Rattle.etcs_rows.specs.declared.length_set.LengthSet.{LengthSet}
use Rattle.etcs_rows.specs.Sets.{In}
use Rattle.etcs_rows.specs.Sums.{Plus, SumOf}
use Rattle.etcs_rows.proofs.SetLemmas.{SumsOf, in_small}

pub times_one : (s : LengthSet) → length s.words ≡ 128 → SumsOf 1 (In s) s
times_one s len = record {
  are = λ m. (
    λ h. ((m, 0, h, refl, omega arith), in_small s m len h),
    λ ((j, k, h, none, e), small). (let same : j ≡ m = omega (arith, none, e) in rw same at h),
  );
}

-- the sums of a + b numbers are those of a sum of a and one of b
sum_split : (a b : ℕ) (A : ℕ → Type 0) (m : ℕ) → SumOf (a + b) A m → Plus (SumOf a A) (SumOf b A) m
sum_split zero b A m h = let t : SumOf b A m = rw zero-add at h in (0, m, refl, t, omega arith)
sum_split (suc a) b A m h =
    let step : suc a + b ≡ suc (a + b) = omega arith in
    let t : SumOf (suc (a + b)) A m = rw step at h in
    let rest = sum_split a b A t.1 t.3 in
    let e = t.4 in let f = rest.4 in (t.0 + rest.0, rest.1, (t.0, rest.0, t.2, rest.2, refl), rest.3, omega (arith, e, f))

sum_join : (a b : ℕ) (A : ℕ → Type 0) (m : ℕ) → Plus (SumOf a A) (SumOf b A) m → SumOf (a + b) A m
sum_join zero b A m (j, k, none, h, e) = let same : k ≡ m = omega (arith, none, e) in rw zero-add (rw same at h)
sum_join (suc a) b A m (j, k, (x, y, first, some, f), h, e) =
    let step : suc a + b ≡ suc (a + b) = omega arith in
    let t : SumOf (suc (a + b)) A m = (x, y + k, first, sum_join a b A (y + k) (y, k, some, h, refl), omega (arith, e, f)) in rw step t

pub times_plus : (a b n : ℕ) (A : ℕ → Type 0) (s t next : LengthSet) → a + b ≡ n → SumsOf a A s → SumsOf b A t → ((m : ℕ) → In next m ↔ (Plus (In s) (In t) m × (m ≤ 8191))) → SumsOf n A next
times_plus a b n A s t next same hs ht all = record {
  are = λ m. (
    λ x.
        let z = (all m).0 x in
        let p = z.0 in
        let t = sum_join a b A m (p.0, p.1, ((hs.are p.0).0 p.2).0, ((ht.are p.1).0 p.3).0, p.4) in (subst (λ (k : ℕ). SumOf k A m) same t, z.1),
    λ (h, small).
        let p = sum_split a b A m (subst (λ (k : ℕ). SumOf k A m) (sym same) h) in
        let e = p.4 in (all m).1 ((p.0, p.1, (hs.are p.0).1 (p.2, omega (arith, e, small)), (ht.are p.1).1 (p.3, omega (arith, e, small)), e), small),
  );
}

-- sums holds the sums of some numbers, power those of a step, and the step is to come left times more
pub record Doubling (left count : ℕ) (A : ℕ → Type 0) (sums power : LengthSet) : Type 0 where
  pub added : ℕ
  pub step : ℕ
  pub rest : added + left * step ≡ count
  pub sums-are : SumsOf added A sums
  pub power-is : SumsOf step A power

pub doubling_none : (count : ℕ) (a sums : LengthSet) → length a.words ≡ 128 → SumsOf 0 (In a) sums → Doubling count count (In a) sums a
doubling_none count a sums len none = record { added = 0; step = 1; rest = omega arith; sums-are = none; power-is = times_one a len }

pub doubling_odd : (left count : ℕ) (A : ℕ → Type 0) (sums power next : LengthSet) → left % 2 ≡ 1 → Doubling left count A sums power → ((m : ℕ) → In next m ↔ (Plus (In sums) (In power) m × (m ≤ 8191))) → Doubling (left / 2 * 2) count A next power
doubling_odd left count A sums power next odd h all =
    let one : left ≡ left / 2 * 2 + 1 = omega arith in
    let rest : h.added + (left / 2 * 2 + 1) * h.step ≡ count = subst (λ (n : ℕ). h.added + n * h.step ≡ count) one h.rest in record {
      added = h.added + h.step;
      step = h.step;
      rest = omega (arith, rest);
      sums-are = times_plus h.added h.step (h.added + h.step) A sums power next refl h.sums-are h.power-is all;
      power-is = h.power-is;
    }

pub doubling_even : (left count : ℕ) (A : ℕ → Type 0) (sums power : LengthSet) → (left % 2 ≡ 1 → ⊥) → Doubling left count A sums power → Doubling (left / 2 * 2) count A sums power
doubling_even left count A sums power even h =
    let none : left ≡ left / 2 * 2 = omega (arith, even) in subst (λ (n : ℕ). Doubling n count A sums power) none h

pub doubling_more : (half count : ℕ) (A : ℕ → Type 0) (sums power next : LengthSet) → Doubling (half * 2) count A sums power → ((m : ℕ) → In next m ↔ (Plus (In power) (In power) m × (m ≤ 8191))) → Doubling half count A sums next
doubling_more half count A sums power next h all =
    let rest = h.rest in record {
      added = h.added;
      step = h.step + h.step;
      rest = omega (arith, rest);
      sums-are = h.sums-are;
      power-is = times_plus h.step h.step (h.step + h.step) A power power next refl h.power-is h.power-is all;
    }

pub doubling_one : (count : ℕ) (A : ℕ → Type 0) (left : ℕ) (sums power next : LengthSet) → left ≡ 1 → Doubling left count A sums power → ((m : ℕ) → In next m ↔ (Plus (In sums) (In power) m × (m ≤ 8191))) → SumsOf count A next
doubling_one count A left sums power next one h all =
    let rest : h.added + 1 * h.step ≡ count = subst (λ (n : ℕ). h.added + n * h.step ≡ count) one h.rest in
    times_plus h.added h.step count A sums power next (omega (arith, rest)) h.sums-are h.power-is all
