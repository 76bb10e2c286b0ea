-- What holds of every row of a list of rows holds of each that is found in it.
use Rattle.std.proofs.Common.{◌≡◌, ℕ, ◌==◌, Bool, true, false, List, [], ◌∷◌, Some, refl}
use Rattle.std.specs.Prelude.{if◌then◌else◌}
use Rattle.std.specs.List.{list_all}
use Rattle.std.proofs.lemmas.Bool.{and_parts, eqb-true}
use Rattle.etcs_tables.specs.Layouts.{Layout}
use Rattle.etcs_tables.specs.Rows.{found}

-- a test that every number with its row passes
pub of_each : (test : ℕ → Layout → Bool) (rows : List (ℕ × Layout)) (n : ℕ) (row : Layout) → list_all (λ p. test p.0 p.1) rows ≡ true → found rows n ≡ Some row → test n row ≡ true
of_each test [] n row all is = absurd cc
of_each test ((m, here) ∷ rows) n row all is =
    let both = and_parts (test m here) (list_all (λ p. test p.0 p.1) rows) all in
    by_number (n == m) refl both.0 (λ later. of_each test rows n row both.1 later) is
  where
    by_number : (b : Bool) → (n == m) ≡ b → test m here ≡ true → (found rows n ≡ Some row → test n row ≡ true) → (if b then Some here else found rows n) ≡ Some row → test n row ≡ true
    by_number true same passes later first =
        let number : n ≡ m = eqb-true n m same in
        let its : here ≡ row = cc in
        rw (number, ← its) passes
    by_number false other passes later first = later first
