-- A telegram's one reading, and its bytes (SUBSET-026, chapters 7 and 8).
use Rattle.std.specs.Prelude.{◌≡◌, ℕ, false, List, ◌++◌, take, replicate}
use Rattle.etcs_bits.specs.Bits.{bits}
use Rattle.etcs_vars.specs.declared.var.Var.TheVariants.{FILL, PAD}
use Rattle.etcs_vars.specs.Reading.{Reading, spelled, kept}
use Rattle.etcs_telegram.specs.Telegrams.{TelegramContent, TelegramValue, TelegramReads, telegram_value, header_reading, closed_reading, pad_bits, container_bytes}

-- the telegram as it is sent: header, packets, packet 255, FILL and PAD, of these two one variable for each bit
abbrev pub telegram_reading : TelegramValue → Reading
telegram_reading t = header_reading t.header ++ closed_reading t.packets ++ kept FILL t.fill ++ kept PAD (replicate (pad_bits t.size) false)

-- the first bytes of out, as many as the telegram's size has, are the telegram's spelling
abbrev pub Writes : TelegramContent → List ℕ → Type 0
Writes t out = (r : Reading) × TelegramReads (telegram_value t) r × (bits (take (container_bytes t.size) out) ≡ spelled r)
