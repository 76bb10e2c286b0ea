-- Lists of bits compared part by part.
use Rattle.std.proofs.Common.{◌≡◌, ℕ, ◌+◌, ◌^◌, ◌<◌, ◌++◌, nat_eq, Bool, List, take, sym, ap, ◌∙◌}
use Rattle.std.proofs.Math.Seq.{take-add}
use Rattle.std.specs.Bool.{Decides}
use Rattle.std.specs.Cmp.{unsigned_Decides}
use Rattle.etcs_bits.specs.Bits.{num, part}
use Rattle.etcs_bits.proofs.Numbers.{num_same}

-- what is the same up to a place and in the part after it is the same up to the part's end
pub same_more : (xs ys : List Bool) (done count : ℕ) → take done xs ≡ take done ys → part done count xs ≡ part done count ys → take (done + count) xs ≡ take (done + count) ys
same_more xs ys done count front beyond =
    take-add done count xs
    ∙ ap (λ (l : List Bool). l ++ part done count xs) front
    ∙ ap (λ (l : List Bool). take done ys ++ l) beyond
    ∙ sym (take-add done count ys)

-- numbers are equal exactly where their bits are
pub same_numbers : (count m n : ℕ) (p q : List Bool) → m < 2 ^ count → n < 2 ^ count → num count m ≡ p → num count n ≡ q → Decides (nat_eq m n) (p ≡ q)
same_numbers count m n p q small little first second =
    let numbers : Decides (nat_eq m n) (m ≡ n) = unsigned_Decides m n in (
      λ yes. sym first ∙ ap (num count) (numbers.0 yes) ∙ second,
      λ same. numbers.1 (num_same count m n small little (first ∙ same ∙ sym second)),
    )
