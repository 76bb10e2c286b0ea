-- Which numbers of a row of a known number of bits continue, and what is left after one.
use Rattle.std.proofs.Common.{◌≡◌, ℕ, true, ◌+◌, ◌-◌, ◌*◌, ◌/◌, ◌%◌, ◌^◌, ◌<◌, ◌≤◌, [], ◌∷◌, length, Some, None, refl, sym, ap, subst, ◌∙◌, arith}
use Rattle.std.specs.Prelude.{◌↔◌, IsTrue}
use Rattle.std.proofs.lemmas.Nat.{pow_pos, div-mul-add, shr_split, mod_below}
use Rattle.etcs_vars.specs.declared.var.Var.{Var}
use Rattle.etcs_vars.specs.Vars.{width, admits}
use Rattle.etcs_vars.specs.Walking.{Residual}
use Rattle.etcs_vars.specs.Reading.{Reading, spelled}
use Rattle.etcs_vars.proofs.Prefixes.{admits_parts}
use Rattle.etcs_vars.proofs.Sent.{length-sent}
use Rattle.etcs_tables.specs.Layouts.{Layout, whole, one, guarded, counted, looks, Reads, ReadsIn}
use Rattle.etcs_rows.specs.Places.{first_variable, after_any, after_number, onto}
use Rattle.etcs_rows.specs.Lengths.{FirstWithin, FitsWithin}
use Rattle.etcs_rows.proofs.Following.{follows}
use Rattle.etcs_rows.proofs.RowWalkLemmas.{may_from, may_only}
use Rattle.etcs_rows.proofs.WholeWalks.{after_one, one_looks}
use Rattle.etcs_reader.specs.Rests.{Starts, Goes}
use Rattle.etcs_rows.specs.laws.RestLaws.{head_of}

-- ---- Numbers that begin with these bits.

high_of : (n b x : ℕ) → x * 2 ^ b ≤ n → n ≤ x * 2 ^ b + (2 ^ b - 1) → n / 2 ^ b ≡ x
high_of n b x l h =
    let pos = pow_pos b in
    let r = n - x * 2 ^ b in
    let is : x * 2 ^ b + r ≡ n = omega (arith, l) in
    let small : r < 2 ^ b = omega (arith, l, h, pos) in
    ap (λ k. k / 2 ^ b) (sym is) ∙ div-mul-add x (2 ^ b) r small

within_of : (n b x : ℕ) → n / 2 ^ b ≡ x → (x * 2 ^ b ≤ n) × (n ≤ x * 2 ^ b + (2 ^ b - 1))
within_of n b x e =
    let split : x * 2 ^ b + n % 2 ^ b ≡ n = ap (λ k. k * 2 ^ b + n % 2 ^ b) (sym e) ∙ shr_split n b in
    let low = mod_below n (2 ^ b) (pow_pos b) in
    let pos = pow_pos b in
    (omega (arith, split, low, pos), omega (arith, split, low, pos))

one_tested : (v : Var) (rest : Layout) (len b x : ℕ) → IsTrue (looks None (one v rest)) → FirstWithin v rest (x * 2 ^ b) (x * 2 ^ b + (2 ^ b - 1)) len ↔ Starts (ReadsIn (one v rest) len) v b x
one_tested v rest len b x look = (
  λ (n, j, l, h, ok, is, e). (let m = may_from v rest len n look (j, ok, is, e) in (n, m.0, m.1, high_of n b x l h)),
  λ (n, r, l, e).
      (let m = may_only v rest len n look (r, l) in
      let w = within_of n b x e in
      (n, m.0, w.0, w.1, m.1, m.2, m.3)),
)

pub row_tested : (row : Layout) (v : Var) (len b x : ℕ) → first_variable row ≡ Some v → IsTrue (looks None row) → len ≤ 8191 → FitsWithin row (x * 2 ^ b) (x * 2 ^ b + (2 ^ b - 1)) len ↔ Starts (ReadsIn row len) v b x
row_tested whole v len b x f look short = absurd cc
row_tested (one w rest) v len b x f look short =
    let same : w ≡ v = cc in
    let t = one_tested w rest len b x look in
    (λ h. subst (λ u. Starts (ReadsIn (one w rest) len) u b x) same (t.0 h.0), λ s. (t.1 (subst (λ u. Starts (ReadsIn (one w rest) len) u b x) (sym same) s), short))
row_tested (guarded g group rest) v len b x f look short = absurd cc
row_tested (counted group rest) v len b x f look short = absurd cc

-- some number continues
pub row_reaches : (row : Layout) (v : Var) (len : ℕ) → first_variable row ≡ Some v → IsTrue (looks None row) → len ≤ 8191 → Goes (ReadsIn row len) → FitsWithin row 0 (2 ^ width v - 1) len
unfolding Reads
row_reaches whole v len f look short g = absurd cc
row_reaches (one w rest) v len f look short (r, ((n, r', ok, is, reads), l)) =
    let same : w ≡ v = cc in
    let all : ReadsIn (one w rest) len ((w, n) ∷ r') = ((n, r', ok, refl, reads), ap (λ (t : Reading). length (spelled t)) (sym is) ∙ l) in
    let m = may_only w rest len n look (r', all) in
    let fits : n < 2 ^ width v = subst (λ u. n < 2 ^ width u) same (admits_parts w n m.1).1 in
    ((n, m.0, omega arith, omega (arith, fits), m.1, m.2, m.3), short)
row_reaches (guarded h group rest) v len f look short g = absurd cc
row_reaches (counted group rest) v len f look short g = absurd cc

-- ---- After a number.

one_admitted : (v : Var) (rest : Layout) (n : ℕ) (q : Reading) → Reads (one v rest) [] ((v, n) ∷ q) → IsTrue (admits v n)
unfolding Reads
one_admitted v rest n q (m, q', ok, is, reads) = let h = head_of v n m q q' is in rw h.0 at ok

-- a number that continues is admitted, and there is room for it
pub row_admits : (row : Layout) (v : Var) (len number : ℕ) → first_variable row ≡ Some v → Starts (ReadsIn row len) v 0 number → (width v ≤ len) × IsTrue (admits v number)
row_admits whole v len number f s = absurd cc
row_admits (one w rest) v len number f (n, r, l, e) =
    let same : w ≡ v = cc in
    let whole_is : n ≡ number = (let one_is : n / 2 ^ 0 ≡ n = omega arith in sym one_is ∙ e) in
    let l' : ReadsIn (one w rest) len ((w, number) ∷ r) = rw whole_is at (subst (λ (u : Var). ReadsIn (one w rest) len ((u, n) ∷ r)) (sym same) l) in
    let wide : width w ≤ len = omega (arith, l'.1, length-sent w number r) in
    (subst (λ u. width u ≤ len) same wide, subst (λ u. IsTrue (admits u number)) same (one_admitted w rest number r l'.0))
row_admits (guarded g group rest) v len number f s = absurd cc
row_admits (counted group rest) v len number f s = absurd cc

-- what is left after an admitted number for which there is room
pub row_after : (row new : Layout) (v : Var) (len number : ℕ) → first_variable row ≡ Some v → IsTrue (looks None row) → after_any row number ≡ Some new → IsTrue (admits v number) → width v ≤ len → (after_number row number ≡ Some new) × Residual (ReadsIn row len) ((v, number) ∷ []) (ReadsIn new (len - width v))
row_after whole new v len number f look a ok wide = absurd cc
row_after (one w rest) new v len number f look a admitted wide =
    let same : w ≡ v = cc in
    let is : onto number rest whole ≡ new = cc in
    let ok : IsTrue (admits w number) = subst (λ (u : Var). IsTrue (admits u number)) (sym same) admitted in
    let back = λ (m : ℕ) (q : Reading) (h : ReadsIn (one w rest) len ((v, m) ∷ q)). subst (λ (u : Var). ReadsIn (one w rest) len ((u, m) ∷ q)) (sym same) h in (
      rw (let yes : admits w number ≡ true = ok in yes) (ap (λ (x : Layout). Some x) is),
      record {
        to = λ q h.
            let h' : ReadsIn (one w rest) len ((w, number) ∷ q) = back number q h in
            let b = (follows w rest number look ok q).0 h'.0 in
            (subst (λ (x : Layout). Reads x [] q) is b, (let t = ap width same in omega (arith, h'.1, length-sent w number q, t)));
        from = λ q h.
            let b = (follows w rest number look ok q).1 (subst (λ (x : Layout). Reads x [] q) (sym is) h.0) in
            let all : ReadsIn (one w rest) len ((w, number) ∷ q) = (b, (let t = ap width same in let u = h.1 in omega (arith, u, wide, length-sent w number q, t))) in
            subst (λ (u : Var). ReadsIn (one w rest) len ((u, number) ∷ q)) same all;
      },
    )
row_after (guarded g group rest) new v len number f look a ok wide = absurd cc
row_after (counted group rest) new v len number f look a ok wide = absurd cc

-- the same by what is left
pub row_step : (row new : Layout) (v : Var) (len number : ℕ) → first_variable row ≡ Some v → IsTrue (looks None row) → after_number row number ≡ Some new → width v ≤ len → Residual (ReadsIn row len) ((v, number) ∷ []) (ReadsIn new (len - width v)) × IsTrue (looks None new)
row_step whole new v len number f look a wide = absurd cc
row_step (one w rest) new v len number f look a wide =
    let same : w ≡ v = cc in
    let is = after_one w rest new number a in
    let b = row_after (one w rest) new v len number f look (ap (λ (x : Layout). Some x) is.1) (subst (λ (u : Var). IsTrue (admits u number)) same is.0) wide in
    (b.1, one_looks w rest new number look a)
row_step (guarded g group rest) new v len number f look a wide = absurd cc
row_step (counted group rest) new v len number f look a wide = absurd cc
