-- The definitions, computed on whole telegrams.
use Rattle.std.proofs.Common.{◌≡◌, ℕ, ◌+◌, Bool, true, false, List, [], ◌∷◌, ◌++◌, length, refl}
use Rattle.std.specs.Prelude.{replicate}
use Rattle.std.proofs.lemmas.List.Elements.{All-nil}
use Rattle.etcs_bits.specs.Bits.{num, bits}
use Rattle.etcs_vars.specs.declared.var.Var.TheVariants.{NID_PACKET, FILL, PAD}
use Rattle.etcs_vars.specs.Reading.{Reading, spelled, kept}
use Rattle.etcs_reader.specs.Rests.{Goes}
use Rattle.etcs_telegram.specs.declared.size.Size.{Size}
use Rattle.etcs_telegram.specs.declared.size.Size.TheVariants.{Short, Long}
use Rattle.etcs_telegram.specs.Telegrams.{HeaderValue, TelegramValue, TelegramReads, TelegramLanguage, header_reading, header_of, user_bits, pad_bits}

abbrev plain_header : HeaderValue
plain_header = record { m_version = 32; n_pig = 0; n_total = 0; m_dup = 0; m_mcount = 255; nid_c = 1; nid_bg = 1; q_link = true }

abbrev plain : Size → List Bool → TelegramValue
plain size fill = record { size = size; header = plain_header; packets = []; fill = fill }

abbrev plain_reading : Size → List Bool → Reading
plain_reading size fill = header_reading plain_header ++ (NID_PACKET, 255) ∷ kept FILL fill ++ kept PAD (replicate (pad_bits size) false)

abbrev first_bytes : List ℕ
first_bytes = 0xA0 ∷ 0 ∷ 0x7F ∷ 0x80 ∷ 0x20 ∷ 0 ∷ []

-- a FILL of 149 ones, a zero and two ones
abbrev with_zero : List Bool
with_zero = replicate 149 true ++ false ∷ true ∷ true ∷ []

plain_reads : (size : Size) (fill : List Bool) → 58 + length fill ≡ user_bits size → TelegramReads (plain size fill) (plain_reading size fill)
unfolding num
plain_reads size fill e = record { header_admitted = (refl, (refl, (refl, (refl, (refl, (refl, (refl, (refl, (refl, (refl, tt)))))))))); packets_hold = All-nil _; reading_is = refl; user_bits_is = e }

pub short_reads : TelegramReads (plain Short (replicate 152 true)) (plain_reading Short (replicate 152 true))
short_reads = plain_reads Short (replicate 152 true) refl

pub short_bits : spelled (plain_reading Short (replicate 152 true)) ≡ bits (first_bytes ++ (replicate 20 255 ++ 0xC0 ∷ []))
unfolding num bits
short_bits = refl

pub with_zero_bits : spelled (plain_reading Short with_zero) ≡ bits (first_bytes ++ (replicate 19 255 ++ 0xFE ∷ 0xC0 ∷ []))
unfolding num bits
with_zero_bits = refl

pub long_reads : TelegramReads (plain Long (replicate 772 true)) (plain_reading Long (replicate 772 true))
long_reads = plain_reads Long (replicate 772 true) refl

pub long_bits : spelled (plain_reading Long (replicate 772 true)) ≡ bits (first_bytes ++ (replicate 97 255 ++ 0xFC ∷ []))
unfolding num bits
long_bits = refl

pub plain_header_of : header_of (1 ∷ 32 ∷ 0 ∷ 0 ∷ 0 ∷ 0 ∷ 255 ∷ 1 ∷ 1 ∷ 1 ∷ []) ≡ plain_header
plain_header_of = refl

-- some telegram has each size
pub some_telegram : (size : Size) → Goes (TelegramLanguage size)
some_telegram Short = (plain_reading Short (replicate 152 true), (plain Short (replicate 152 true), (refl, short_reads)))
some_telegram Long = (plain_reading Long (replicate 772 true), (plain Long (replicate 772 true), (refl, long_reads)))
