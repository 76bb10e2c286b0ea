-- The view of a telegram in bytes that aren't copied (SUBSET-026, chapters 7 and 8).
use Rattle.std.specs.Prelude.{◌≡◌, ℕ, ◌+◌, Bool, List, length}
use Rattle.etcs_bits.specs.Bits.{bits}
use Rattle.etcs_vars.specs.declared.var.Var.{Var}
use Rattle.etcs_vars.specs.Walking.{Refuses}
use Rattle.etcs_vars.specs.Reading.{Reading, spelled}
use Rattle.etcs_telegram.specs.declared.size.Size.{Size}
use Rattle.etcs_telegram.specs.Telegrams.{HeaderValue, TelegramValue, TelegramLanguage, ReadsAs, closed_reading}

-- what a view stands for: its bytes and its size
pub record ViewValue : Type 0 where
  pub bytes : List ℕ
  pub size : Size

-- the view's bytes spell the telegram t, of the view's size
abbrev pub Sees : ViewValue → TelegramValue → Type 0
Sees v t = (r : Reading) × ReadsAs v.size t r × (spelled r ≡ bits v.bytes)

-- the bits b spell a telegram of this header and this many packets, before whose FILL are end bits
pub record ViewIn (size : Size) (b : List Bool) (header : HeaderValue) (packets end : ℕ) : Type 0 where
  pub telegram : TelegramValue
  pub reading : Reading
  pub reads : ReadsAs size telegram reading
  pub bits : spelled reading ≡ b
  pub header_is : telegram.header ≡ header
  pub packets_are : length telegram.packets ≡ packets
  pub end_is : 50 + length (spelled (closed_reading telegram.packets)) ≡ end

-- of the same bits one alone is the first with which no telegram of a size continues, and one variable holds it
abbrev pub OneRefusal : Type 0
OneRefusal = (size : Size) (b : List Bool) (i j : ℕ) (x y : Var) → Refuses (TelegramLanguage size) b i x → Refuses (TelegramLanguage size) b j y → (i ≡ j) × (x ≡ y)
