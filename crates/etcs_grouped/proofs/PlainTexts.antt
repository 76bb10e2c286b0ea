-- Lemmas about specs/PlainTexts.antt.
use Rattle.std.proofs.Common.{◌≡◌, ℕ, ◌<◌, true, nat_lt, nat_le, List, refl, arith}
use Rattle.std.specs.Prelude.{All, get_or}
use Rattle.std.proofs.lemmas.Bool.{lt-ltb, le-leb}
use Rattle.std.proofs.lemmas.Grind.{get_or_default_zero}
use Rattle.etcs_vars.specs.declared.var.Var.TheVariants.{X_TEXT}
use Rattle.etcs_bodies.specs.laws.Takes.{number_ok}
use Rattle.etcs_bodies.specs.Formats.{number, Is}

-- ---- The text: L_TEXT, and this many bytes.

-- X_TEXT admits every byte
byte_ok : (n : ℕ) → n < 256 → Is (number X_TEXT) n
byte_ok n h =
    let in_width : nat_lt n 256 ≡ true = lt-ltb n 256 h in
    let from_zero : nat_le 0 n ≡ true = le-leb 0 n (omega arith) in
    let to_most : nat_le n 255 ≡ true = le-leb n 255 (omega arith) in
    number_ok X_TEXT n (rw (in_width, from_zero, to_most) refl)

pub bytes_ok : (bytes : List ℕ) → ((i : ℕ) → get_or bytes i 0 < 256) → All (Is (number X_TEXT)) bytes
bytes_ok bytes h = λ k d lt. rw (get_or_default_zero bytes k d lt) (byte_ok (get_or bytes k 0) (h k))
