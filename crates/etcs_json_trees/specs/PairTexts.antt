-- Pairs of a name and a number: how they are written in a text of JSON, and which pairs a text is.
use Rattle.std.specs.Prelude.{◌≡◌, ℕ, zero, suc, ◌+◌, ◌^◌, ◌<◌, ◌==◌, ◌&&◌, ◌⊎◌, Bool, true, false, List, [], ◌∷◌, ◌++◌, length, take, drop, Option, Some, None, bytes_eq, nat_lt, if◌then◌else◌, decimal}
use Rattle.std.specs.Str.Parse.{digits_value}
use Rattle.serde_json.specs.Written.{comma_if}
use Rattle.etcs_vars.specs.declared.var.Var.{Var}
use Rattle.etcs_vars.specs.Vars.{width}
use Rattle.etcs_bodies.specs.Taking.{Named, named_as}
use Rattle.etcs_packet_text.specs.Show.{hex_digits}

-- ---- What is written.

-- a number as sixteen hexadecimal digits
unfoldable pub hex_text : ℕ → List ℕ
hex_text n = hex_digits 16 n

-- a number in decimal, or as sixteen hexadecimal digits in quotes
abbrev pub number_text : Bool → ℕ → List ℕ
number_text false n = decimal n
number_text true n = 34 ∷ (hex_text n ++ 34 ∷ [])

-- what is in a pair before the number
abbrev pub name_front : List ℕ → List ℕ
name_front name = 91 ∷ 34 ∷ (name ++ 34 ∷ 44 ∷ [])

-- a pair of a name and a number
abbrev pub pair_text : Named → List ℕ
pair_text p = name_front p.0.0 ++ (number_text p.0.1 p.1 ++ 93 ∷ [])

-- pairs one after another, with commas between them, and one before the first if later is true
abbrev pub listed_text : Bool → List Named → List ℕ
listed_text later [] = []
listed_text later (p ∷ ps) = comma_if later ++ (pair_text p ++ listed_text true ps)

-- names with their numbers as `json_line` writes them: a list without its brackets
abbrev pub pairs_text : List Named → List ℕ
pairs_text ps = listed_text false ps

-- ---- What is read.

-- the numbers that are read are below this: decimal ones have at most nineteen digits
abbrev pub limit : Bool → ℕ
limit false = 10 ^ 19
limit true = 2 ^ 64

-- the text doesn't begin with a decimal digit
abbrev pub NoDigit : List ℕ → Type 0
NoDigit t = (d : ℕ) (s : List ℕ) → d < 10 → t ≡ (48 + d) ∷ s → ⊥

-- what comes before the first byte c
abbrev pub before : ℕ → List ℕ → List ℕ
before c [] = []
before c (x ∷ t) = if x == c then [] else x ∷ before c t

-- the text begins with a quotation mark
abbrev pub is_quoted : List ℕ → Bool
is_quoted [] = false
is_quoted (c ∷ t) = c == 34

-- the number that a text is, in either form
abbrev pub number_in : List ℕ → ℕ
number_in t = if is_quoted t then digits_value 16 (take 16 (drop 1 t)) else digits_value 10 t

-- the name up to a quotation mark, and the number up to a bracket
abbrev pub pair_in : List ℕ → Named
pair_in t =
    let name = before 34 (drop 2 t) in
    let number = before 93 (drop (length (name_front name)) t) in
    ((name, is_quoted number), number_in number)

-- the pair and what is after it, if the text begins with a comma and the pair
abbrev pub taken_as : Named → List ℕ → Option (Named × List ℕ)
taken_as p t =
    let front = 44 ∷ pair_text p in
    if bytes_eq front (take (length front) t) && nat_lt p.1 (limit p.0.1) then Some (p, drop (length front) t) else None

-- the pair with which a text begins after a comma, and what is after it; a pair is looked for in 64 bytes
unfoldable pub first_pair : List ℕ → Option (Named × List ℕ)
first_pair t = if nat_lt 64 (length t) then taken_as (pair_in (drop 1 t)) t else None

-- how a list of pairs ends: the text that doesn't begin with a comma and a pair, in a name that no variable has
abbrev pub stuck : List ℕ → Named
stuck t = ((0 ∷ t, false), 0)

-- a pair and those after it; if there is none, the end with this text
abbrev pub with_more : Option (Named × List ℕ) → List ℕ → (List ℕ → List Named) → List Named
with_more None t more = stuck t ∷ []
with_more (Some x) t more = x.0 ∷ more x.1

-- the pairs with which a text begins, at most k, each after a comma, and the end with the text after them
abbrev pub named_from : ℕ → List ℕ → List Named
named_from zero t = stuck t ∷ []
named_from (suc k) t = with_more (first_pair t) t (λ s. named_from k s)

-- all of them
unfoldable pub named_left : List ℕ → List Named
named_left t = named_from (length t) t

-- the pairs of a list of which those before this byte were taken, and the end with the text after the list
abbrev pub pairs_left : ℕ → List ℕ → List Named
pairs_left after t = named_left (after ∷ t)

-- a text begins with a list of pairs: what is before the first of them and the rest; a bracket counts as a comma
abbrev pub IsOpened : List ℕ → ℕ → List ℕ → Type 0
IsOpened text after left = ((after ≡ 93) × (text ≡ 91 ∷ 93 ∷ left)) ⊎ ((after ≡ 44) × (text ≡ 91 ∷ left))

-- the text doesn't begin with a comma and a pair of the variable v, or has no 64 bytes after the comma
abbrev pub Lacks : Var → List ℕ → Type 0
Lacks v t = (n : ℕ) (s : List ℕ) → n < 2 ^ width v → 64 < length t → t ≡ 44 ∷ (pair_text (named_as (v, n)) ++ s) → ⊥
