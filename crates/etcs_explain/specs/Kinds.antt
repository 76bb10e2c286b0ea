-- Of which kind an item is, by the bytes that are there of it and after it.
use Rattle.std.specs.Prelude.{◌≡◌, ℕ, Bool, true, false, not, ◌||◌, ◌&&◌, ◌==◌, List, [], ◌∷◌, length, nat_le, slice_index, Option, None, Some, if◌then◌else◌}
use Rattle.etcs_text.specs.declared.entry.Kind.{Kind}
use Rattle.etcs_text.specs.declared.entry.Kind.TheVariants.{Long, Short, Radio, Train}
use Rattle.etcs_reasons.specs.BitDigits.{are_bits}

-- telegrams begin with this byte: A0 or A1 (Q_UPDOWN is 1, and M_VERSION 32 or 33)
abbrev pub begins_telegram : ℕ → Bool
begins_telegram b = (b == 160) || (b == 161)

-- the telegram is a short one: there are at most 27 bytes, or another one follows its 27, and there aren't 104
abbrev pub is_short : List ℕ → Bool
is_short bytes = nat_le (length bytes) 27 || (begins_telegram (slice_index bytes 27) && not (length bytes == 104))

-- the kind of the item that the bytes begin
abbrev pub guessed : List ℕ → Kind
guessed [] = Radio
guessed (b ∷ bytes) =
    if begins_telegram b then (if is_short (b ∷ bytes) then Short else Long)
    else if nat_le 129 b && nat_le b 159 then Train else Radio

-- the kind that is asked for, or the guessed one
abbrev pub kind_of : Option Kind → List ℕ → Kind
kind_of (Some kind) bytes = kind
kind_of None bytes = guessed bytes

-- the digits of these bytes are the bits of a telegram of the kind, or of any
abbrev pub say_bits : Option Kind → List ℕ → Bool
say_bits (Some kind) bytes = are_bits kind bytes
say_bits None bytes = are_bits Long bytes || are_bits Short bytes

-- the kind is the one that is asked for, if one is
abbrev pub IsAsked : Option Kind → Kind → Type 0
IsAsked (Some asked) kind = kind ≡ asked
IsAsked None kind = Unit {0}
