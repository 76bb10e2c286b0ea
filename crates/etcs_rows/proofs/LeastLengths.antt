-- A number of bits that a row takes.
use Rattle.std.proofs.Common.{◌≡◌, ℕ, ◌+◌, ◌^◌, ◌<◌, Option, Some, None, refl, arith}
use Rattle.std.specs.Prelude.{IsTrue, true, false, IfSome}
use Rattle.std.specs.Option.{SomeIff}
use Rattle.etcs_vars.specs.declared.var.Var.{Var}
use Rattle.etcs_vars.specs.Vars.{width, admits}
use Rattle.etcs_tables.specs.declared.item.Guard.{Guard}
use Rattle.etcs_tables.specs.Layouts.{Layout, whole, one, guarded, counted, passes}
use Rattle.etcs_rows.specs.Lengths.{LengthsBy}

pub least_whole : (row : Layout) (n : ℕ) → row ≡ whole → LengthsBy row n 0
unfolding LengthsBy
least_whole row n e = rw e refl

pub least_one : (row rest : Layout) (v : Var) (n k j w : ℕ) (o : Option ℕ) → row ≡ one v rest → IsTrue (admits v k) → LengthsBy rest k j → w ≡ width v → SomeIff o (j + w < 2 ^ 64) (j + w) → IfSome o (λ m. LengthsBy row n m)
unfolding LengthsBy
least_one row rest v n k j w None e a l wide is = tt
least_one row rest v n k j w (Some m) e a l wide is = rw e (k, j, a, l, omega (arith, wide, is.1))

pub least_passed : (row : Layout) (g : Guard) (group rest : Layout) (n i j : ℕ) (o : Option ℕ) → row ≡ guarded g group rest → passes g.test n ≡ true → LengthsBy group n i → LengthsBy rest n j → SomeIff o (j + i < 2 ^ 64) (j + i) → IfSome o (λ m. LengthsBy row n m)
unfolding LengthsBy
least_passed row g group rest n i j None e pass a b is = tt
least_passed row g group rest n i j (Some m) e pass a b is = rw (e, pass) (i, j, a, b, omega (arith, is.1))

pub least_not_passed : (row : Layout) (g : Guard) (group rest : Layout) (n m : ℕ) → row ≡ guarded g group rest → passes g.test n ≡ false → LengthsBy rest n m → LengthsBy row n m
unfolding LengthsBy
least_not_passed row g group rest n m e pass l = rw (e, pass) l

-- a group that occurs no time
pub least_counted : (row group rest : Layout) (n : ℕ) (o : Option ℕ) → row ≡ counted group rest → n ≡ 0 → IfSome o (λ m. LengthsBy rest n m) → IfSome o (λ m. LengthsBy row n m)
unfolding LengthsBy
least_counted row group rest n None e none l = tt
least_counted row group rest n (Some m) e none l = rw (e, none) (0, m, refl, rw none at l, omega arith)
