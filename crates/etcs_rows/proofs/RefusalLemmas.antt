-- What holds of what is left holds of the whole, and of the same readings.
use Rattle.std.proofs.Common.{◌≡◌, ℕ, ◌+◌, ◌-◌, ◌<◌, ◌≤◌, Bool, List, [], ◌∷◌, ◌++◌, length, take, None, Some, refl, sym, ap, subst, ◌∙◌, arith}
use Rattle.std.specs.Prelude.{Option}
use Rattle.std.proofs.lemmas.List.{length-append, length-take, take_all}
use Rattle.etcs_bits.specs.Bits.{num, number_at}
use Rattle.etcs_bits.proofs.Numbers.{length-num}
use Rattle.etcs_vars.specs.declared.var.Var.{Var}
use Rattle.etcs_vars.specs.Vars.{width}
use Rattle.etcs_vars.specs.Walking.{Residual, Refuses}
use Rattle.etcs_vars.specs.Reading.{Reading, spelled, Viable}
use Rattle.etcs_vars.proofs.Languages.{Same}
use Rattle.etcs_vars.proofs.Outcomes.{none_refused, viable_front}
use Rattle.etcs_vars.proofs.Walk.{Regular}
use Rattle.etcs_reader.specs.Readers.{Takes}
use Rattle.etcs_reader.specs.declared.block.Block.{Block}
use Rattle.etcs_reader.specs.Blocks.{NoneOf, IsBelow, IsAbove, Blocks}
use Rattle.etcs_rows.specs.declared.here.Here.{Here}
use Rattle.etcs_rows.specs.declared.refusal.Refusal.{Refusal}
use Rattle.etcs_rows.specs.Causes.{Exactly}
use Rattle.etcs_rows.specs.Refusals.{Reasons, Explains, FindsRefusal}
use Rattle.etcs_rows.proofs.SameReadings.{refuses_along}

-- after whole variables exactly these numbers may come
pub exact_there : (L : Reading → Type 0) (p : Reading) (R : Reading → Type 0) → Residual L p R → (x : Var) (here : Here) → Exactly R x here → Exactly (λ q. L (p ++ q)) x here
exact_there L p R d x here exact =
    record {
      passes = λ n (r, l). exact.passes n (r, d.to ((x, n) ∷ r) l);
      continues = λ n h. (let (r, l) = exact.continues n h in (r, d.from ((x, n) ∷ r) l));
    }

exact_same : (L M : Reading → Type 0) → Same L M → (p : Reading) (x : Var) (here : Here) → Exactly (λ q. L (p ++ q)) x here → Exactly (λ q. M (p ++ q)) x here
exact_same L M same p x here exact =
    record {
      passes = λ n (r, m). exact.passes n (r, (same (p ++ (x, n) ∷ r)).1 m);
      continues = λ n h. (let (r, l) = exact.continues n h in (r, (same (p ++ (x, n) ∷ r)).0 l));
    }

-- ---- Of the same numbers.

module _ (P Q : ℕ → Type 0) (to : (n : ℕ) → P n → Q n) (from : (n : ℕ) → Q n → P n) (rest bits : ℕ) where
  none_same : NoneOf P rest bits → NoneOf Q rest bits
  none_same none n e q = none n e (from n q)

  below_same : (o : Option ℕ) → IsBelow P rest bits o → IsBelow Q rest bits o
  below_same None h = λ n q lt. h n (from n q) lt
  below_same (Some m) (p, lt, all) = (to m p, lt, λ n q less. all n (from n q) less)

  above_same : (o : Option ℕ) → IsAbove P rest bits o → IsAbove Q rest bits o
  above_same None h = λ n q lt. h n (from n q) lt
  above_same (Some m) (p, lt, all) = (to m p, lt, λ n q less. all n (from n q) less)

-- of the block of numbers
pub blocks_same : (P Q : ℕ → Type 0) → ((n : ℕ) → P n → Q n) → ((n : ℕ) → Q n → P n) → (x : Var) (b : Block) → Blocks P x b → Blocks Q x b
blocks_same P Q to from x b h =
    record {
      some = h.some;
      short = h.short;
      fits = h.fits;
      none = none_same P Q to from (width x - b.count) b.bits h.none;
      below = below_same P Q to from (width x - b.count) b.bits b.below h.below;
      above = above_same P Q to from (width x - b.count) b.bits b.above h.above;
    }

-- ---- Of the same readings.

pub explains_same : (L M : Reading → Type 0) → Same L M → (b : List Bool) (r : Refusal) → Explains L b r → Explains M b r
explains_same L M same b r h =
    record {
      before = h.before;
      bits = h.bits;
      number = h.number;
      here = exact_same L M same h.before r.var r.here h.here;
      reasons = h.reasons;
    }

-- ---- Where the variable begins.

pub begins_at : (p : Reading) (count bits bit : ℕ) (xs : List Bool) → spelled p ++ num count bits ≡ take (bit + 1) xs → bit < length xs → (count ≤ bit + 1) × (bit + 1 - count ≡ length (spelled p))
begins_at p count bits bit xs e within =
    let sum : length (spelled p) + count ≡ length (take (bit + 1) xs) = omega (arith, sym (length-append (spelled p) (num count bits)), length-num count bits, ap (λ (t : List Bool). length t) e) in
    let all = length-take (bit + 1) xs in
    (omega (arith, sum, all, within), omega (arith, sum, all, within))

-- ---- Of the whole, by what is left and the block.

pub explained : (L : Reading → Type 0) (p : Reading) (R : Reading → Type 0) → Residual L p R → (x : Var) (here : Here) → Exactly R x here → (xs : List Bool) (bit count bits : ℕ) → spelled p ++ num count bits ≡ take (bit + 1) xs → bit < length xs
    → (r : Refusal) → r.bit ≡ bit → r.var ≡ x → r.bits ≡ bits → r.count ≡ count → r.here ≡ here → r.number ≡ number_at (bit + 1 - count) (width x) xs → Reasons r → Explains L xs r
explained L p R d x here exact xs bit count bits e within r bit_is var_is bits_are count_is here_is number reasons =
    let at = (begins_at p count bits bit xs e within).1 in
    record {
      before = p;
      bits = rw (bit_is, bits_are, count_is) e;
      number = rw var_is (number ∙ ap (λ (k : ℕ). number_at k (width x) xs) at);
      here = rw (var_is, here_is) (exact_there L p R d x here exact);
      reasons = reasons;
    }

-- ---- Where no bit is refused.

pub takes_unrefused : {R : Type 0} (left : R → Reading → Type 0) → ((s : R) → Regular (left s)) → (next : R → Option Var) (follows : R → Reading → R → Type 0) (s t : R) (xs part : List Bool) (n : ℕ) → Takes R left next follows s [] xs n t part → (i : ℕ) (x : Var) → Refuses (left s) xs i x → ⊥
takes_unrefused left regular next follows s t xs part n h i x r = at (next t) refl where
  at : (o : Option Var) → next t ≡ o → ⊥
  at None is = none_refused (left s) (regular s) xs i x r n h.within (h.done is)
  at (Some y) is =
      let (all, owner) = h.more y is in
      let v : Viable (left s) xs = subst (Viable (left s)) (ap (λ (k : ℕ). take k xs) all ∙ take_all (length xs) xs (omega arith)) owner.viable in
      r.blocked (viable_front (left s) (i + 1) xs v)

-- ---- Of the same readings.

pub finds_same : (L M : Reading → Type 0) → Same L M → (b : List Bool) (o : Option Refusal) → FindsRefusal L b o → FindsRefusal M b o
finds_same L M same b None h = λ i x r. h i x (refuses_along M L (λ q. ((same q).1, (same q).0)) b i x r)
finds_same L M same b (Some r) (refuses, explains) = (refuses_along L M same b r.bit r.var refuses, explains_same L M same b r explains)
