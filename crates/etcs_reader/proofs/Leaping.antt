-- What was taken at once, and what is taken after it.
use Rattle.std.proofs.Common.{◌≡◌, ℕ, ◌+◌, Bool, List, [], ◌++◌, None, sym, ap, subst, ◌∙◌, append_assoc, arith}
use Rattle.std.specs.Prelude.{Option}
use Rattle.etcs_bits.specs.Bits.{part}
use Rattle.etcs_bits.proofs.Lists.{part-add}
use Rattle.etcs_vars.specs.Reading.{Reading, spelled, Viable}
use Rattle.etcs_vars.specs.Walking.{Residual}
use Rattle.etcs_vars.specs.laws.Spellings.{spelled-append}
use Rattle.etcs_reader.specs.declared.feeder.Stop.{Stop}
use Rattle.etcs_reader.specs.Rests.{LeapsBy}
use Rattle.etcs_reader.specs.Feeders.{FeederValue, all_of}

-- a reader that has taken nothing
pub all_by : {R : Type 0} (v : FeederValue R) (r : R) → v.rest ≡ r → v.part ≡ [] → v.count ≡ 0 → v.stop ≡ None → v ≡ all_of r
all_by {R} v r rest part count stop =
    ap (λ (x : R). record v { rest = x }) rest
    ∙ ap (λ (b : List Bool). record v { rest = r; part = b }) part
    ∙ ap (λ (n : ℕ). record v { rest = r; part = []; count = n }) count
    ∙ ap (λ (o : Option Stop). record { rest = r; part = []; count = 0; stop = o }) stop

-- bits of a piece, and more of them
pub leaps_both : (M L F G K : Reading → Type 0) (xs : List Bool) (at n there k : ℕ) → there ≡ at + n → ((p q : Reading) → F p → G q → K (p ++ q)) → LeapsBy M F xs at n → LeapsBy L G xs there k → LeapsBy L K xs at (n + k)
leaps_both M L F G K xs at n there k e both a c =
    let b : LeapsBy L G xs (at + n) k = subst (λ i. LeapsBy L G xs i k) e c in
    let some = a.some in
    let inside = b.inside in
    record {
      some = omega (arith, some);
      inside = omega (arith, inside);
      goes = b.goes;
      whole = a.whole ++ b.whole;
      follows = both a.whole b.whole a.follows b.follows;
      bits =
          spelled-append a.whole b.whole
          ∙ ap (λ (l : List Bool). l ++ spelled b.whole) a.bits
          ∙ ap (λ (l : List Bool). part at n xs ++ l) b.bits
          ∙ sym (part-add at n k xs);
    }

-- what was left begins with the first of the bits, if what is left then does with the next one
pub leapt_viable : (Old New : Reading → Type 0) (xs : List Bool) (at n : ℕ) (p : Reading) → Residual Old p New → spelled p ≡ part at n xs → Viable New (part (at + n) 1 xs) → Viable Old (part at 1 xs)
leapt_viable Old New xs at n p residual is (q, c, l, e) =
    let last = part (at + 1) n xs in
    let size : n + 1 ≡ 1 + n = omega arith in
    let cut : part at n xs ++ part (at + n) 1 xs ≡ part at 1 xs ++ last = sym (part-add at n 1 xs) ∙ ap (λ (m : ℕ). part at m xs) size ∙ part-add at 1 n xs in (
      p ++ q,
      last ++ c,
      residual.from q l,
      spelled-append p q
          ∙ ap (λ (b : List Bool). b ++ spelled q) is
          ∙ ap (λ (b : List Bool). part at n xs ++ b) e
          ∙ sym (append_assoc (part at n xs) (part (at + n) 1 xs) c)
          ∙ ap (λ (b : List Bool). b ++ c) cut
          ∙ append_assoc (part at 1 xs) last c,
    )
