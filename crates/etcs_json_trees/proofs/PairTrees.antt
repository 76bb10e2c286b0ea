-- The text of pairs is that of their trees.
use Rattle.std.proofs.Common.{◌≡◌, ℕ, Bool, true, false, List, [], ◌∷◌, ◌++◌, map, refl, sym, ap, ◌∙◌, append_assoc}
use Rattle.json.specs.Print.{escape, escape_byte, quoted}
use Rattle.serde_json.specs.View.{items_of}
use Rattle.serde_json.specs.Written.{comma_if, compact_text, items_text}
use Rattle.etcs_vars.specs.declared.var.Var.{Var}
use Rattle.etcs_vars.specs.declared.var.Var.TheVariants.{NID_RADIO, Q_UPDOWN}
use Rattle.etcs_vars.specs.Vars.{name}
use Rattle.etcs_vars.specs.Reading.{Sent, Reading}
use Rattle.etcs_bodies.specs.Taking.{named_as, in_hexadecimal}
use Rattle.etcs_packet_text.specs.Show.{hex_digits}
use Rattle.etcs_packet_text.specs.Trees.{number_tree, pair_tree, pairs_tree}
use Rattle.etcs_packet_text.proofs.PlainTexts.{plain_hex, quoted_plain}
use Rattle.etcs_json_trees.specs.PairTexts.{hex_text, number_text, name_front, pair_text, listed_text, pairs_text}

-- ---- One pair.

name_plain : (v : Var) → escape (name v) ≡ name v
unfolding escape_byte
name_plain Q_UPDOWN = refl
name_plain v = refl

front_quoted : (text rest : List ℕ) → escape text ≡ text → name_front text ++ rest ≡ 91 ∷ (quoted text ++ 44 ∷ rest)
front_quoted text rest e = ap (λ (z : List ℕ). 91 ∷ 34 ∷ z) (append_assoc text (34 ∷ 44 ∷ []) rest) ∙ ap (λ (z : List ℕ). 91 ∷ z) (sym (quoted_plain text (44 ∷ rest) e))

hex_is : (n : ℕ) → hex_text n ≡ hex_digits 16 n
unfolding hex_text
hex_is n = refl

radio_text : (text digits : List ℕ) → text ≡ digits → escape digits ≡ digits → 34 ∷ (text ++ 34 ∷ []) ≡ quoted digits
radio_text text digits same e = ap (λ (z : List ℕ). 34 ∷ (z ++ 34 ∷ [])) (same ∙ sym e)

number_is : (v : Var) (n : ℕ) → number_text (in_hexadecimal v) n ≡ compact_text (number_tree v n)
unfolding in_hexadecimal
number_is NID_RADIO n = radio_text (hex_text n) (hex_digits 16 n) (hex_is n) (plain_hex 16 n)
number_is v n = refl

pub pair_is : (x : Sent) → pair_text (named_as x) ≡ compact_text (pair_tree x)
pair_is x =
    front_quoted (name x.0) (number_text (in_hexadecimal x.0) x.1 ++ 93 ∷ []) (name_plain x.0)
    ∙ ap (λ (z : List ℕ). 91 ∷ (quoted (name x.0) ++ 44 ∷ (z ++ 93 ∷ []))) (number_is x.0 x.1)

-- ---- A list of them.

listed_items : (later : Bool) (r : Reading) → listed_text later (map named_as r) ++ 93 ∷ [] ≡ items_text later (items_of (map pair_tree r))
listed_items later [] = refl
listed_items later (x ∷ r) =
    let one = pair_text (named_as x) in
    let more = listed_text true (map named_as r) in
    append_assoc (comma_if later) (one ++ more) (93 ∷ [])
    ∙ ap (λ (z : List ℕ). comma_if later ++ z) (append_assoc one more (93 ∷ []))
    ∙ ap (λ (z : List ℕ). comma_if later ++ (z ++ (more ++ 93 ∷ []))) (pair_is x)
    ∙ ap (λ (z : List ℕ). comma_if later ++ (compact_text (pair_tree x) ++ z)) (listed_items true r)

-- a list of pairs in its brackets
pub pairs_are : (r : Reading) → 91 ∷ (pairs_text (map named_as r) ++ 93 ∷ []) ≡ compact_text (pairs_tree r)
pairs_are r = ap (λ (z : List ℕ). 91 ∷ z) (listed_items false r)
