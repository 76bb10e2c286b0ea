-- What a run has reported so far.
use Rattle.std.specs.Prelude.{ℕ, List, Option}
use Rattle.etcs_telegram.specs.Telegrams.{TelegramContent}

-- what was reported: how many items; and of a balise group how many of them clash with those before, and what is held
-- at the eight positions
pub record Reported : Type 0 where
  pub count : ℕ
  pub clashes : ℕ
  pub held : List (Option TelegramContent)
