-- Words that take in the sums of a number of each of two sets.
use Rattle.std.proofs.Common.{◌≡◌, ℕ, ◌+◌, ◌-◌, ◌*◌, ◌/◌, ◌%◌, ◌^◌, ◌<◌, ◌≤◌, List, length, get_or, true, false, refl, sym, ap, ◌∙◌, arith, max, inl, inr}
use Rattle.std.specs.Prelude.{◌↔◌, ◌⊎◌}
use Rattle.std.specs.Int.{bit_at}
use Rattle.std.proofs.lemmas.Bool.{cases_lt}
use Rattle.std.proofs.lemmas.Nat.Bits.{bit_at_or, bit_at-lt, bit_at_above}
use Rattle.etcs_rows.specs.Sets.{Has, Adds, TakesIn, raised_word}
use Rattle.etcs_rows.specs.Sums.{Plus}
use Rattle.etcs_rows.proofs.Shifts.{member_at, member_small, raised_member, raised_under}
use Rattle.etcs_rows.proofs.SetLemmas.{zeroes, no_zeroes, one_is, is_one, max_one}

-- words that took in raised words hold the sums with one number more
pub adds_one : (ws old new : List ℕ) (by : ℕ) → length old ≡ 128 → length new ≡ 128 → ((k : ℕ) → get_or ws k 0 < 2 ^ 64) → TakesIn by ws 0 128 old new → Adds (λ j. j ≡ by) ws old new
adds_one ws old new by len-old len-new fit taken = record {
  are = λ m.
      let j = m % 64 in
      let x = bit_at (get_or old (m / 64) 0) j in
      let y = bit_at (raised_word by ws (m / 64)) j in
      let at : m ≤ 8191 → bit_at (get_or new (m / 64) 0) j ≡ max x y = λ small. ap (λ w. bit_at w j) (taken.within (m / 64) (omega arith) (omega arith)) ∙ bit_at_or (get_or old (m / 64) 0) (raised_word by ws (m / 64)) j in
      let hx = bit_at-lt (get_or old (m / 64) 0) j in
      let hy = bit_at-lt (raised_word by ws (m / 64)) j in (
        λ h.
            let small = member_small new m len-new h in
            elim (max_one x y hx hy (sym (at small) ∙ one_is _ h)) [
              | inl has ↦ inl (is_one _ has)
              | inr has ↦ elim (cases_lt m by) [
                | inl under ↦ absurd (let t : true ≡ false = sym (is_one y has) ∙ raised_under ws by m fit under in cc)
                | inr over ↦
                    let e : (m - by) + by ≡ m = omega arith in
                    let f : by + (m - by) ≡ m = omega arith in inr ((by, m - by, refl, sym (raised_member ws by m (m - by) fit e) ∙ is_one y has, f), small)
              ]
            ],
        λ h. elim h [
          | inl has ↦
              let small = member_small old m len-old has in
              let one = one_is _ has in is_one _ (at small ∙ (let t : max x y ≡ 1 = omega (arith, one) in t))
          | inr ((i, k, same, has, e), small) ↦
              let f : k + by ≡ m = omega (arith, same, e) in
              let one = one_is y (raised_member ws by m k fit f ∙ has) in is_one _ (at small ∙ (let t : max x y ≡ 1 = omega (arith, one) in t))
        ],
      );
}

-- no numbers add nothing
pub adds_none : (A : ℕ → Type 0) (ws old : List ℕ) → ((j : ℕ) → A j → ⊥) → Adds A ws old old
adds_none A ws old none = record { are = λ m. (λ h. inl h, λ h. elim h [ inl has ↦ has | inr ((j, k, a, b, e), small) ↦ absurd (none j a) ]) }

-- one addition after another
pub adds_more : (A B C : ℕ → Type 0) (ws old some new : List ℕ) → ((j : ℕ) → C j ↔ (A j ⊎ B j)) → Adds A ws old some → Adds B ws some new → Adds C ws old new
adds_more A B C ws old some new parts first second = record {
  are = λ m. (
    λ h. elim ((second.are m).0 h) [
      | inl x ↦ elim ((first.are m).0 x) [
        | inl y ↦ inl y
        | inr ((j, k, a, has, e), small) ↦ inr ((j, k, (parts j).1 (inl a), has, e), small)
      ]
      | inr ((j, k, b, has, e), small) ↦ inr ((j, k, (parts j).1 (inr b), has, e), small)
    ],
    λ h. elim h [
      | inl y ↦ (second.are m).1 (inl ((first.are m).1 (inl y)))
      | inr ((j, k, c, has, e), small) ↦ elim ((parts j).0 c) [
        | inl a ↦ (second.are m).1 (inl ((first.are m).1 (inr ((j, k, a, has, e), small))))
        | inr b ↦ (second.are m).1 (inr ((j, k, b, has, e), small))
      ]
    ],
  );
}

pub adds_same : (A B : ℕ → Type 0) (ws old new : List ℕ) → ((j : ℕ) → B j ↔ A j) → Adds A ws old new → Adds B ws old new
adds_same A B ws old new same adds = record {
  are = λ m. (
    λ h. elim ((adds.are m).0 h) [ inl y ↦ inl y | inr ((j, k, a, has, e), small) ↦ inr ((j, k, (same j).1 a, has, e), small) ],
    λ h. (adds.are m).1 (elim h [ inl y ↦ inl y | inr ((j, k, b, has, e), small) ↦ inr ((j, k, (same j).0 b, has, e), small) ]),
  );
}

-- the numbers below the end of a word, and those of the word
pub word_parts : (ws : List ℕ) (i : ℕ) → get_or ws i 0 < 2 ^ 64 → (j : ℕ) → (Has ws j × (j < (i + 1) * 64)) ↔ ((Has ws j × (j < i * 64)) ⊎ ((k : ℕ) × (bit_at (get_or ws i 0) k ≡ 1) × (i * 64 + k ≡ j)))
word_parts ws i fit j = (
  λ (has, small). elim (cases_lt j (i * 64)) [
    | inl under ↦ inl (has, under)
    | inr over ↦
        let e : j ≡ i * 64 + j % 64 = omega (arith, small) in inr (j % 64, one_is _ (sym (member_at ws j i (j % 64) e (omega arith)) ∙ has), sym e)
  ],
  λ h. elim h [
    | inl (has, under) ↦ (has, omega (arith, under))
    | inr (k, one, e) ↦ elim (cases_lt k 64) [
      | inl inside ↦ (member_at ws j i k (sym e) inside ∙ is_one _ one, omega (arith, e, inside))
      | inr past ↦ absurd (let t : 1 ≡ 0 = sym one ∙ bit_at_above (get_or ws i 0) 64 k fit past in omega (arith, t))
    ]
  ],
)

-- past the last word these are all
pub all_words : (ws : List ℕ) (i : ℕ) → length ws ≡ 128 → 128 ≤ i → (j : ℕ) → Has ws j ↔ (Has ws j × (j < i * 64))
all_words ws i len last j = (λ has. (let small = member_small ws j len has in (has, omega (arith, last, small))), λ (has, under). has)

-- what was added to nothing
pub adds_to_none : (A : ℕ → Type 0) (ws new : List ℕ) → Adds A ws (zeroes 128) new → (m : ℕ) → Has new m ↔ (Plus A (Has ws) m × (m ≤ 8191))
adds_to_none A ws new adds m = (λ h. elim ((adds.are m).0 h) [ inl none ↦ absurd (no_zeroes 128 m none) | inr sum ↦ sum ], λ sum. (adds.are m).1 (inr sum))

pub shift_holds : (ws new : List ℕ) (by : ℕ) → Adds (λ j. j ≡ by) ws (zeroes 128) new → (m : ℕ) → Has new m ↔ ((k : ℕ) × Has ws k × (k + by ≡ m) × (m ≤ 8191))
shift_holds ws new by adds m =
    let are = adds_to_none (λ j. j ≡ by) ws new adds m in (
      λ h. (let x = are.0 h in let p = x.0 in let same = p.2 in let e = p.4 in (p.1, p.3, omega (arith, same, e), x.1)),
      λ (k, has, e, small). are.1 ((by, k, refl, has, omega (arith, e)), small),
    )

-- it makes no difference which comes first
pub sums_turned : (A B : ℕ → Type 0) (sums : List ℕ) → ((m : ℕ) → Has sums m ↔ (Plus A B m × (m ≤ 8191))) → (m : ℕ) → Has sums m ↔ (Plus B A m × (m ≤ 8191))
sums_turned A B sums are m = (
  λ h. (let x = (are m).0 h in let p = x.0 in let e = p.4 in ((p.1, p.0, p.3, p.2, omega (arith, e)), x.1)),
  λ ((j, k, b, a, e), small). (are m).1 ((k, j, a, b, omega (arith, e)), small),
)
