-- The table is held against the definition at each of the 256 characters, by computing.
use Rattle.std.proofs.Common.{◌≡◌, ℕ, ◌<◌, map, unwrap_or, get_or, refl, ap, ◌∙◌, arith}
use Rattle.std.proofs.lemmas.List.FromFn.{get_or-map-range_with_len}
use Rattle.std.specs.List.{range_with_len}
use Rattle.hex.specs.Hex.{hex_digit_value}
use Rattle.etcs_runs.specs.declared.hexadecimal.TheConstants.{DIGITS}
use Rattle.etcs_runs.proofs.hexadecimal.digit.Goals as goal

abbrev value : ℕ → ℕ
value character = unwrap_or (hex_digit_value character) 256

table_is : DIGITS ≡ map value (range_with_len 0 256)
table_is = refl

read : (character : ℕ) → character < 256 → get_or DIGITS character 0 ≡ value character
read character h =
    ap (λ t. get_or t character 0) table_is ∙ get_or-map-range_with_len value 0 256 character character 0 h (omega arith)

pub returns : goal.returns
returns c = rw c.from.ensures (read c.args.character (omega arith))
