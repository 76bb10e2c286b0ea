-- Texts put over bytes.
use Rattle.std.proofs.Common.{◌≡◌, ℕ, Bool, true, false, refl, ◌+◌, ◌≤◌, ◌==◌, List, [], ◌∷◌, ◌++◌, length, take, sym, ap, ◌∙◌, arith, append_assoc, length-append}
use Rattle.std.specs.Fmt.{digits}
use Rattle.std.proofs.lemmas.Bool.{eqb-true}
use Rattle.std.proofs.lemmas.List.{length-take-le, take_at, take-take, take-append-le}
use Rattle.std.proofs.Math.Seq.{take-append-add}
use Rattle.etcs_vars.specs.declared.var.Var.{Var}
use Rattle.etcs_vars.specs.declared.var.Var.TheVariants.{Q_UPDOWN}
use Rattle.etcs_vars.specs.Reading.{Reading, Sent}
use Rattle.etcs_vars.specs.Vars.{name}
use Rattle.json.specs.Print.{escape_byte}
use Rattle.serde_json.specs.Written.{comma_if}
use Rattle.etcs_packet_text.specs.JsonParts.{pair_front}
use Rattle.etcs_packet_text.specs.PairSinks.{Listed, with_item, with_pairs}
use Rattle.etcs_packet_text.specs.Show.{bits_line}
use Rattle.etcs_packet_text.specs.Trees.{pair_tree}

-- ---- A front.

-- the first of some bytes put after a text
pub front_put : (at len : ℕ) (old new bytes rest : List ℕ) → at ≤ length old → len ≤ length bytes → new ≡ bytes → take (at + len) (take at old ++ (new ++ rest)) ≡ take at old ++ take len bytes
front_put at len old new bytes rest inside few e =
    let size : length (take at old) ≡ at = length-take-le at old inside in
    ap (λ (k : ℕ). take (k + len) (take at old ++ (new ++ rest))) (sym size)
    ∙ take-append-add (take at old) (new ++ rest) len
    ∙ ap (λ (t : List ℕ). take at old ++ take len (t ++ rest)) e
    ∙ ap (λ (t : List ℕ). take at old ++ t) (take-append-le len bytes rest few)

-- ---- A padded front.

pub name_short : (v : Var) → length (name v) ≤ 21
name_short Q_UPDOWN = omega arith
name_short v = omega arith

pub front_first : (name more bytes : List ℕ) → length name ≤ 21 → bytes ≡ take 32 (32 ∷ 32 ∷ ((name ++ 32 ∷ []) ++ more)) → take (length name + 3) bytes ≡ 32 ∷ 32 ∷ (name ++ 32 ∷ [])
front_first name more bytes short e =
    let front = 32 ∷ 32 ∷ (name ++ 32 ∷ []) in
    let size = length-append name (32 ∷ []) in
    ap (take (length name + 3)) e
    ∙ take-take (length name + 3) 32 (front ++ more) (omega (arith, short))
    ∙ take_at front more (length name + 3) (omega (arith, size))

-- ---- A front of a pair.

pair_long : (v : Var) → length (pair_front v) ≡ length (name v) + 4
unfolding escape_byte
pair_long Q_UPDOWN = refl
pair_long v = refl

pub later_long : (later : Bool) (v : Var) → later ≡ true → length (comma_if later ++ pair_front v) ≡ length (name v) + 5
later_long true v e = omega (arith, pair_long v)
later_long false v e = absurd cc

pub first_long : (later : Bool) (v : Var) → later ≡ false → length (comma_if later ++ pair_front v) ≡ length (name v) + 4
first_long true v e = absurd cc
first_long false v e = pair_long v

pub pair_first : (later : Bool) (v : Var) (more bytes : List ℕ) (k : ℕ) → bytes ≡ comma_if later ++ (pair_front v ++ more) → length (comma_if later ++ pair_front v) ≡ k → take k bytes ≡ comma_if later ++ pair_front v
pair_first later v more bytes k e long =
    ap (take k) (e ∙ sym (append_assoc (comma_if later) (pair_front v) more)) ∙ take_at (comma_if later ++ pair_front v) more k long

-- ---- A list of pairs.

pairs_more : (s : Listed) (x : Sent) (r : Reading) → (with_pairs s (x ∷ r)).1 ≡ true
pairs_more s x [] = refl
pairs_more s x (y ∷ r) = pairs_more (with_item s (pair_tree x)) y r

pairs_listed : (s : Listed) (r : Reading) → (length r == 0) ≡ false → (with_pairs s r).1 ≡ true
pairs_listed s [] h = absurd cc
pairs_listed s (x ∷ r) h = pairs_more s x r

-- a list to which pairs were appended has one
pub pairs_are : (s : Listed) (r : Reading) (text : List ℕ) → (length r == 0) ≡ false → text ≡ (with_pairs s r).0 → (text, true) ≡ with_pairs s r
pairs_are s r text h e = λ i. (e i, sym (pairs_listed s r h) i)

-- ---- Bits under a name.

no_bits : (text : List ℕ) → 32 ∷ 32 ∷ (text ++ 32 ∷ []) ++ 48 ∷ 10 ∷ [] ≡ bits_line text []
unfolding digits
no_bits text = simp append_assoc

pub none_line : (text : List ℕ) (bs : List Bool) → (length bs == 0) ≡ true → 32 ∷ 32 ∷ (text ++ 32 ∷ []) ++ 48 ∷ 10 ∷ [] ≡ bits_line text bs
none_line text [] h = no_bits text
none_line text (b ∷ bs) h = absurd (omega (arith, eqb-true (length (b ∷ bs)) 0 h))
