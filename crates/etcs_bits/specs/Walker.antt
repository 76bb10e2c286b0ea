-- What a walker over bytes holds: the bytes, and a place that moves.
use Rattle.std.specs.Prelude.{ℕ, List}

-- the bytes, and how many of their bits a walker has passed
pub record WalkerValue : Type 0 where
  pub bytes : List ℕ
  pub place : ℕ
