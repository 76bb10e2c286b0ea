-- The text of an item, part by part, as it is taken.
use Rattle.std.proofs.Common.{◌≡◌, ℕ, ◌+◌, ◌-◌, ◌≤◌, Bool, List, [], ◌∷◌, ◌++◌, length, drop, map, refl, sym, ap, ◌∙◌, append_assoc, arith}
use Rattle.std.specs.Prelude.{codes, decimal, take}
use Rattle.std.proofs.lemmas.List.{drop_at, length-append, take_at}
use Rattle.serde_json.specs.Written.{compact_text}
use Rattle.etcs_vars.specs.Reading.{Reading}
use Rattle.etcs_tables.specs.declared.row.Way.{Way}
use Rattle.etcs_tables.specs.declared.row.Way.TheVariants.{ToTrain}
use Rattle.etcs_packets.specs.PacketValues.{PacketValue}
use Rattle.etcs_telegram.specs.declared.size.Size.{Size}
use Rattle.etcs_telegram.specs.Telegrams.{HeaderValue, header_reading}
use Rattle.etcs_messages.specs.Messages.{typed_message, kept_message}
use Rattle.etcs_packet_text.specs.Show.{bit_digit}
use Rattle.etcs_packet_text.specs.Trees.{packets_tree, pairs_tree}
use Rattle.etcs_text.specs.JsonParts.{kind_member, message_after, message_front, way_member}
use Rattle.etcs_text.specs.Trees.{message_tree, telegram_tree}
use Rattle.etcs_text.proofs.TreeTexts.{kept_text, number_between, telegram_is, typed_text}
use Rattle.etcs_json.specs.Puts.{LeavesAfter}

-- ---- Parts one after another.

-- a part, and what is taken after it
taken : (a b old mid new : List ℕ) → old ≡ a ++ mid → mid ≡ b ++ new → old ≡ (a ++ b) ++ new
taken a b old mid new e f = e ∙ ap (λ (z : List ℕ). a ++ z) f ∙ sym (append_assoc a b new)

-- texts that end alike
pub same_end : (a b c d : List ℕ) → a ++ b ≡ c ++ d → length b ≡ length d → b ≡ d
same_end a b c d e long =
    let fronts : length a ≡ length c = omega (arith, ap (λ (z : List ℕ). length z) e, length-append a b, length-append c d, long) in
    sym (drop_at a b (length a) refl) ∙ ap (drop (length a)) e ∙ drop_at c d (length a) (sym fronts)

-- what is left after a front that a call took
pub passed : (old left new front : List ℕ) (n : ℕ) → left ≡ old → new ≡ drop (length left - n) old → left ≡ front ++ drop (length left - n) left → old ≡ front ++ new
passed old left new front n same is e = sym same ∙ e ∙ ap (λ (z : List ℕ). front ++ z) (ap (drop (length left - n)) same ∙ sym is)

-- how long the front is
pub front_taken_at : (text front : List ℕ) (n : ℕ) → LeavesAfter text front n → (length text - n ≤ length text) × (take (length text - n) text ≡ front)
front_taken_at text front n (rest, long, is) =
    let all : length text ≡ length front + length rest = ap (λ (z : List ℕ). length z) is ∙ length-append front rest in
    let many : length front ≡ length text - n = omega (arith, all, long) in
    (omega arith, ap (take (length text - n)) is ∙ take_at front rest (length text - n) many)

-- ---- A telegram.

pub telegram_taken : (size : Size) (header : HeaderValue) (packets : List PacketValue) (fill : List Bool) (old one two three four five six new : List ℕ)
    → old ≡ codes "{\"fill\":\"" ++ one → one ≡ map bit_digit fill ++ 34 ∷ two → two ≡ codes ",\"header\":" ++ three → three ≡ compact_text (pairs_tree (header_reading header)) ++ four → four ≡ kind_member size ++ five → five ≡ compact_text (packets_tree ToTrain packets) ++ six → six ≡ codes "}" ++ new
    → old ≡ compact_text (telegram_tree (record { size = size; header = header; packets = packets; fill = fill })) ++ new
telegram_taken size header packets fill old one two three four five six new first filled named headed kinded listed last =
    let a = codes "{\"fill\":\"" in
    let x = map bit_digit fill in
    let b = codes "\",\"header\":" in
    let y = compact_text (pairs_tree (header_reading header)) in
    let k = kind_member size in
    let z = compact_text (packets_tree ToTrain packets) in
    let e = codes "}" in
    let from_kind : four ≡ (k ++ (z ++ e)) ++ new = taken k (z ++ e) four five new kinded (taken z e five six new listed last) in
    let from_header : 34 ∷ two ≡ (b ++ (y ++ (k ++ (z ++ e)))) ++ new = taken b (y ++ (k ++ (z ++ e))) (34 ∷ two) three new (ap (λ (w : List ℕ). 34 ∷ w) named) (taken y (k ++ (z ++ e)) three four new headed from_kind) in
    taken a (x ++ (b ++ (y ++ (k ++ (z ++ e))))) old one new first (taken x (b ++ (y ++ (k ++ (z ++ e)))) one (34 ∷ two) new filled from_header)
    ∙ ap (λ (w : List ℕ). w ++ new) (telegram_is size header packets fill)

-- ---- A message.

-- the variables before its number: the list of its own ends where what is left is as long as the name of the header and
-- what follows it
pub front_taken : (body head : Reading) (t ending old one new : List ℕ) → old ≡ t ++ (codes "header\":" ++ one) → old ≡ compact_text (pairs_tree body) ++ 44 ∷ 34 ∷ ending → length ending + 2 ≡ length one + 10 → one ≡ compact_text (pairs_tree head) ++ new → codes "{\"fields\":" ++ old ≡ message_front body head ++ new
front_taken body head t ending old one new first ended long headed =
    let x = compact_text (pairs_tree body) in
    let q : List ℕ = 44 ∷ 34 ∷ [] in
    let h = codes "header\":" in
    let b = codes ",\"header\":" in
    let y = compact_text (pairs_tree head) in
    let many : length (h ++ one) ≡ 8 + length one = length-append h one in
    let ends : ending ≡ h ++ one = same_end (x ++ q) ending t (h ++ one) (append_assoc x q ending ∙ sym ended ∙ first) (omega (arith, long, many)) in
    let begun : old ≡ x ++ (b ++ one) = ended ∙ ap (λ (w : List ℕ). x ++ 44 ∷ 34 ∷ w) ends in
    taken (codes "{\"fields\":") (x ++ (b ++ y)) (codes "{\"fields\":" ++ old) old new refl (taken x (b ++ y) old (b ++ one) new begun (taken b y (b ++ one) one new refl headed))

-- the number, and the names around it
pub between_taken : (way : Way) (nid : ℕ) (old one two new : List ℕ) → old ≡ way_member way ++ one → one ≡ decimal nid ++ 44 ∷ two → two ≡ codes "\"packets\":" ++ new → old ≡ number_between way nid ++ new
between_taken way nid old one two new kinded numbered named =
    taken (way_member way) (decimal nid ++ codes ",\"packets\":") old one new kinded (taken (decimal nid) (codes ",\"packets\":") one (44 ∷ two) new numbered (ap (λ (w : List ℕ). 44 ∷ w) named))

-- its PADDING, and its end
pub padding_taken : (padding : List Bool) (old one two new : List ℕ) → old ≡ codes ",\"padding\":\"" ++ one → one ≡ map bit_digit padding ++ two → two ≡ codes "\"}" ++ new → old ≡ (codes ",\"padding\":\"" ++ (map bit_digit padding ++ codes "\"}")) ++ new
padding_taken padding old one two new named padded last =
    let x = map bit_digit padding in
    let e = codes "\"}" in
    taken (codes ",\"padding\":\"") (x ++ e) old one new named (taken x e one two new padded last)

-- its packets, and what comes after them
pub after_taken : (way : Way) (vs : List PacketValue) (padding : List Bool) (old one new : List ℕ) → old ≡ compact_text (packets_tree way vs) ++ one → one ≡ (codes ",\"padding\":\"" ++ (map bit_digit padding ++ codes "\"}")) ++ new → old ≡ message_after way vs padding ++ new
after_taken way vs padding old one new listed padded = taken (compact_text (packets_tree way vs)) (codes ",\"padding\":\"" ++ (map bit_digit padding ++ codes "\"}")) old one new listed padded

pub typed_taken : (way : Way) (nid : ℕ) (head body : Reading) (vs : List PacketValue) (padding : List Bool) (old one two new : List ℕ) → old ≡ message_front body head ++ one → one ≡ number_between way nid ++ two → two ≡ message_after way vs padding ++ new → old ≡ compact_text (message_tree way (typed_message nid head body vs padding)) ++ new
typed_taken way nid head body vs padding old one two new front between beyond =
    let x = number_between way nid in
    let y = message_after way vs padding in
    taken (message_front body head) (x ++ y) old one new front (taken x y one two new between beyond)
    ∙ ap (λ (w : List ℕ). w ++ new) (typed_text way nid head body vs padding)

pub kept_taken : (way : Way) (nid : ℕ) (b : List Bool) (old one two new : List ℕ) → old ≡ map bit_digit b ++ 34 ∷ one → one ≡ way_member way ++ two → two ≡ decimal nid ++ 125 ∷ new → codes "{\"data\":\"" ++ old ≡ compact_text (message_tree way (kept_message nid b)) ++ new
kept_taken way nid b old one two new digits kinded numbered =
    let a = codes "{\"data\":\"" in
    let x = map bit_digit b in
    let q = codes "\"" in
    let w = way_member way in
    let n = decimal nid in
    let z = codes "}" in
    let from_way : one ≡ (w ++ (n ++ z)) ++ new = taken w (n ++ z) one two new kinded (taken n z two (125 ∷ new) new numbered refl) in
    let from_mark : 34 ∷ one ≡ (q ++ (w ++ (n ++ z))) ++ new = ap (λ (t : List ℕ). 34 ∷ t) from_way in
    taken a (x ++ (q ++ (w ++ (n ++ z)))) (a ++ old) old new refl (taken x (q ++ (w ++ (n ++ z))) old (34 ∷ one) new digits from_mark)
    ∙ ap (λ (t : List ℕ). t ++ new) (kept_text way nid b)
