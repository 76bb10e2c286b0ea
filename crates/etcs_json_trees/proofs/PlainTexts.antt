-- What is written of a tree of whole numbers and of plain text: it is read as the tree, and holds no control characters.
use Rattle.std.proofs.Common.{◌≡◌, ◌≢◌, ℕ, suc, ◌^◌, ◌<◌, ◌≤◌, Bool, true, false, ◌&&◌, List, [], ◌∷◌, ◌++◌, Some, decimal, IsUtf8, refl, sym, ap, ap₂, ◌∙◌, arith, append-nil, ltb-true, nat_lt, ◌==◌}
use Rattle.std.specs.Prelude.{⊤, not, Option, option_map, option_and_then, All, max}
use Rattle.std.proofs.lemmas.Bool.{and_parts, and_from, lt-ltb}
use Rattle.std.proofs.lemmas.List.Elements.{All-append, All-cons, All-from_get_or, All-head, All-nil, All-tail, All-weaker}
use Rattle.std.proofs.lemmas.Fmt.{decimal_is_IsNumeral}
use Rattle.std.proofs.lemmas.Str.Parse.{digit_at}
use Rattle.json.specs.Token.{Token}
use Rattle.json.specs.Lex.{tokens}
use Rattle.json.specs.Json as json
use Rattle.json.specs.Print.{escape, escape_byte, quoted}
use Rattle.json.specs.Tree as tree
use Rattle.json.proofs.Printed.Decimals.{IsNumber-decimal}
use Rattle.json.proofs.Printed.Strings.{escape_byte_plain}
use Rattle.json.proofs.Printed.Tokens.{tokens-print}
use Rattle.json.proofs.Printed.Trees.{value-json_tokens, ArePrintable-json_tokens}
use Rattle.json.proofs.Printed.Utf8.{are_ascii, IsUtf8-are_ascii}
use Rattle.serde_json.specs.Data.{Data, null, boolean, number, unsigned, negative, float, string, array, object, Items, no_items, item, Members, no_members, member, put, depth, items_depth, members_depth}
use Rattle.serde_json.specs.Read.{read, of_json, of_items, of_members, max_depth}
use Rattle.serde_json.specs.Written.{outline, items_outline, members_outline, compact_text, items_text, members_text, comma_if}
use Rattle.serde_json.proofs.Numbers.{number_of-decimal}
use Rattle.serde_json.proofs.Texts.{print-outline}

-- ---- Plain trees.

-- a character that is written as it is
abbrev pub is_plain : ℕ → Bool
is_plain c = nat_lt 34 c && nat_lt c 127 && not (c == 92)

abbrev pub are_plain : List ℕ → Bool
are_plain [] = true
are_plain (c ∷ cs) = is_plain c && are_plain cs

-- the members put one after another
abbrev pub put_all : Members → Members → Members
put_all found no_members = found
put_all found (member k d ms) = put_all (put k d found) ms

abbrev mutual
  pub IsPlain : Data → Type 0
  IsPlain null = ⊥
  IsPlain (boolean b) = ⊥
  IsPlain (number (unsigned n)) = n < 2 ^ 64
  IsPlain (number (negative z)) = ⊥
  IsPlain (number (float x)) = ⊥
  IsPlain (string s) = are_plain s ≡ true
  IsPlain (array ds) = ArePlain ds
  IsPlain (object ms) = MembersArePlain ms × (put_all no_members ms ≡ ms)

  pub ArePlain : Items → Type 0
  ArePlain no_items = ⊤
  ArePlain (item d ds) = IsPlain d × ArePlain ds

  pub MembersArePlain : Members → Type 0
  MembersArePlain no_members = ⊤
  MembersArePlain (member k d ms) = (are_plain k ≡ true) × IsPlain d × MembersArePlain ms

-- ---- It is read as the tree.

mutual
  of_outline : (d : Data) → IsPlain d → of_json (outline d) ≡ Some d
  of_outline null h = absurd h
  of_outline (boolean b) h = absurd h
  of_outline (number (unsigned n)) h = ap (option_map number) (number_of-decimal n h)
  of_outline (number (negative z)) h = absurd h
  of_outline (number (float x)) h = absurd h
  of_outline (string s) h = refl
  of_outline (array ds) h = ap (option_map array) (items_of_outline ds h)
  of_outline (object ms) h = ap (option_map object) (members_of_outline ms no_members h.0 ∙ ap Some h.1)

  items_of_outline : (ds : Items) → ArePlain ds → of_items (items_outline ds) ≡ Some ds
  items_of_outline no_items h = refl
  items_of_outline (item d ds) h =
      ap (option_and_then (λ (x : Data). option_map (item x) (of_items (items_outline ds)))) (of_outline d h.0)
      ∙ ap (option_map (item d)) (items_of_outline ds h.1)

  members_of_outline : (ms found : Members) → MembersArePlain ms → of_members (members_outline ms) found ≡ Some (put_all found ms)
  members_of_outline no_members found h = refl
  members_of_outline (member k d ms) found h =
      ap (option_and_then (λ (x : Data). of_members (members_outline ms) (put k x found))) (of_outline d h.1)
      ∙ members_of_outline ms (put k d found) h.2

mutual
  numbers_of_outline : (d : Data) → IsPlain d → tree.HasNumbers (outline d)
  numbers_of_outline null h = absurd h
  numbers_of_outline (boolean b) h = absurd h
  numbers_of_outline (number (unsigned n)) h = IsNumber-decimal n h
  numbers_of_outline (number (negative z)) h = absurd h
  numbers_of_outline (number (float x)) h = absurd h
  numbers_of_outline (string s) h = tt
  numbers_of_outline (array ds) h = items_numbers ds h
  numbers_of_outline (object ms) h = members_numbers ms h.0

  items_numbers : (ds : Items) → ArePlain ds → tree.ItemsHaveNumbers (items_outline ds)
  items_numbers no_items h = tt
  items_numbers (item d ds) h = (numbers_of_outline d h.0, items_numbers ds h.1)

  members_numbers : (ms : Members) → MembersArePlain ms → tree.MembersHaveNumbers (members_outline ms)
  members_numbers no_members h = tt
  members_numbers (member k d ms) h = (numbers_of_outline d h.1, members_numbers ms h.2)

mutual
  depth_of_outline : (d : Data) → tree.depth (outline d) ≡ depth d
  depth_of_outline null = refl
  depth_of_outline (boolean b) = refl
  depth_of_outline (number n) = refl
  depth_of_outline (string s) = refl
  depth_of_outline (array ds) = ap suc (items_depth_of_outline ds)
  depth_of_outline (object ms) = ap suc (members_depth_of_outline ms)

  items_depth_of_outline : (ds : Items) → tree.items_depth (items_outline ds) ≡ items_depth ds
  items_depth_of_outline no_items = refl
  items_depth_of_outline (item d ds) = ap₂ max (depth_of_outline d) (items_depth_of_outline ds)

  members_depth_of_outline : (ms : Members) → tree.members_depth (members_outline ms) ≡ members_depth ms
  members_depth_of_outline no_members = refl
  members_depth_of_outline (member k d ms) = ap₂ max (depth_of_outline d) (members_depth_of_outline ms)

pub read_plain : (d : Data) → IsPlain d → depth d ≤ max_depth → read (compact_text d) ≡ Some d
read_plain d h shallow =
    let written : tokens (compact_text d) ≡ tree.json_tokens (outline d) = ap tokens (sym (print-outline d)) ∙ tokens-print (tree.json_tokens (outline d)) (ArePrintable-json_tokens (outline d) (numbers_of_outline d h)) in
    ap (λ (o : Option (json.Json × List Token)). option_and_then of_json (option_and_then (λ p. json.if_last p.0 p.1) o)) (ap (json.value max_depth) (written ∙ sym (append-nil _)) ∙ value-json_tokens (outline d) max_depth [] (omega (arith, depth_of_outline d, shallow)))
    ∙ of_outline d h

-- ---- It holds no control characters.

abbrev pub IsPrinted : ℕ → Type 0
IsPrinted c = (32 ≤ c) × (c < 127)

printed_plain : (c : ℕ) → is_plain c ≡ true → (IsPrinted c) × (escape_byte c ≡ c ∷ [])
printed_plain c h =
    let p = and_parts (nat_lt 34 c && nat_lt c 127) (not (c == 92)) h in
    let q = and_parts (nat_lt 34 c) (nat_lt c 127) p.0 in
    let low : 34 < c = ltb-true 34 c q.0 in
    ((omega (arith, low), ltb-true c 127 q.1), escape_byte_plain c (λ e. omega (arith, low, e)) (λ e. absurd (let no : is_plain 92 ≡ true = rw e at h in let wrong : false ≡ true = no in cc)) (omega (arith, low)))

printed_escape : (s : List ℕ) → are_plain s ≡ true → All IsPrinted (escape s)
printed_escape [] h = All-nil IsPrinted
printed_escape (c ∷ s) h =
    let p = and_parts (is_plain c) _ h in
    let one = printed_plain c p.0 in
    rw one.1 (All-cons IsPrinted c (escape s) one.0 (printed_escape s p.1))

printed_decimal : (n : ℕ) → n < 2 ^ 64 → All IsPrinted (decimal n)
printed_decimal n h =
    All-from_get_or IsPrinted (decimal n) 0 (λ i l. let d = digit_at _ i (decimal_is_IsNumeral n h).0.1 l in (omega (arith, d.0), omega (arith, d.1)))

printed_quoted : (s : List ℕ) → are_plain s ≡ true → All IsPrinted (quoted s)
printed_quoted s h =
    All-cons IsPrinted 34 (escape s ++ 34 ∷ []) (omega arith, omega arith) (All-append IsPrinted (escape s) (34 ∷ []) (printed_escape s h) (All-cons IsPrinted 34 [] (omega arith, omega arith) (All-nil IsPrinted)))

printed_comma : (later : Bool) → All IsPrinted (comma_if later)
printed_comma true = All-cons IsPrinted 44 [] (omega arith, omega arith) (All-nil IsPrinted)
printed_comma false = All-nil IsPrinted

mutual
  printed : (d : Data) → IsPlain d → All IsPrinted (compact_text d)
  printed null h = absurd h
  printed (boolean b) h = absurd h
  printed (number (unsigned n)) h = printed_decimal n h
  printed (number (negative z)) h = absurd h
  printed (number (float x)) h = absurd h
  printed (string s) h = printed_quoted s h
  printed (array ds) h = All-cons IsPrinted 91 (items_text false ds) (omega arith, omega arith) (printed_items false ds h)
  printed (object ms) h = All-cons IsPrinted 123 (members_text false ms) (omega arith, omega arith) (printed_members false ms h.0)

  printed_items : (later : Bool) (ds : Items) → ArePlain ds → All IsPrinted (items_text later ds)
  printed_items later no_items h = All-cons IsPrinted 93 [] (omega arith, omega arith) (All-nil IsPrinted)
  printed_items later (item d ds) h =
      All-append IsPrinted (comma_if later) (compact_text d ++ items_text true ds) (printed_comma later)
      (All-append IsPrinted (compact_text d) (items_text true ds) (printed d h.0) (printed_items true ds h.1))

  printed_members : (later : Bool) (ms : Members) → MembersArePlain ms → All IsPrinted (members_text later ms)
  printed_members later no_members h = All-cons IsPrinted 125 [] (omega arith, omega arith) (All-nil IsPrinted)
  printed_members later (member k d ms) h =
      All-append IsPrinted (comma_if later) (quoted k ++ 58 ∷ (compact_text d ++ members_text true ms)) (printed_comma later)
      (All-append IsPrinted (quoted k) (58 ∷ (compact_text d ++ members_text true ms)) (printed_quoted k h.0)
      (All-cons IsPrinted 58 (compact_text d ++ members_text true ms) (omega arith, omega arith)
      (All-append IsPrinted (compact_text d) (members_text true ms) (printed d h.1) (printed_members true ms h.2))))

ascii : (text : List ℕ) → All IsPrinted text → are_ascii text ≡ true
ascii [] h = refl
ascii (c ∷ text) h =
    let one = All-head IsPrinted c text h in
    and_from (nat_lt c 128) (are_ascii text) (lt-ltb c 128 (omega (arith, one.1))) (ascii text (All-tail IsPrinted c text h))

pub utf8_plain : (d : Data) → IsPlain d → IsUtf8 (compact_text d)
utf8_plain d h = IsUtf8-are_ascii (compact_text d) (ascii (compact_text d) (printed d h))

-- nor a line's end
pub without_plain : (d : Data) (c : ℕ) → IsPlain d → c < 32 → All (λ b. b ≢ c) (compact_text d)
without_plain d c h low = All-weaker IsPrinted (λ b. b ≢ c) (λ b p e. omega (arith, p.0, e, low)) (compact_text d) (printed d h)
