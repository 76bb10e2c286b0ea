-- The text of trees of items, part by part.
use Rattle.std.proofs.Common.{◌≡◌, ℕ, Bool, false, List, [], ◌∷◌, ◌++◌, fold, map, refl, sym, ap, ◌∙◌, append_assoc}
use Rattle.std.specs.Prelude.{codes, decimal}
use Rattle.json.specs.Print.{escape_byte, quoted}
use Rattle.serde_json.specs.Data.{Data, array}
use Rattle.serde_json.specs.View.{items_of}
use Rattle.serde_json.specs.Written.{compact_text, items_text}
use Rattle.etcs_vars.specs.Reading.{Reading}
use Rattle.etcs_tables.specs.declared.row.Way.{Way}
use Rattle.etcs_tables.specs.declared.row.Way.TheVariants.{ToTrain, ToTrack}
use Rattle.etcs_packets.specs.PacketValues.{PacketValue}
use Rattle.etcs_messages.specs.Messages.{typed_message, kept_message}
use Rattle.etcs_telegram.specs.declared.size.Size.{Size}
use Rattle.etcs_telegram.specs.declared.size.Size.TheVariants.{Short, Long}
use Rattle.etcs_telegram.specs.Telegrams.{HeaderValue, header_reading}
use Rattle.etcs_text.specs.JsonParts.{kind_member, message_after, message_front, telegram_text, way_member}
use Rattle.etcs_packet_text.specs.PairSinks.{Listed, and_packet, with_each}
use Rattle.etcs_packet_text.proofs.PairSinks.{list_text}
use Rattle.etcs_packet_text.proofs.PlainTexts.{quoted_bits}
use Rattle.etcs_packet_text.specs.Show.{bit_digit}
use Rattle.etcs_text.specs.Show.{way_word}
use Rattle.etcs_packet_text.specs.Trees.{packet_tree, packets_tree, pairs_tree}
use Rattle.etcs_text.specs.Trees.{message_tree, telegram_tree}

-- ---- Telegrams.

pub telegram_is : (size : Size) (header : HeaderValue) (packets : List PacketValue) (fill : List Bool) → telegram_text (record { size = size; header = header; packets = packets; fill = fill }) ≡ compact_text (telegram_tree (record { size = size; header = header; packets = packets; fill = fill }))
unfolding escape_byte
telegram_is Short header packets fill =
    ap (λ (z : List ℕ). codes "{\"fill\":" ++ z) (sym (quoted_bits fill (codes ",\"header\":" ++ (compact_text (pairs_tree (header_reading header)) ++ (codes ",\"kind\":\"short\",\"packets\":" ++ (compact_text (packets_tree ToTrain packets) ++ codes "}"))))))
telegram_is Long header packets fill =
    ap (λ (z : List ℕ). codes "{\"fill\":" ++ z) (sym (quoted_bits fill (codes ",\"header\":" ++ (compact_text (pairs_tree (header_reading header)) ++ (codes ",\"kind\":\"long\",\"packets\":" ++ (compact_text (packets_tree ToTrain packets) ++ codes "}"))))))

-- ---- Messages.

regrouped : (x b y rest : List ℕ) → (x ++ (b ++ y)) ++ rest ≡ x ++ (b ++ (y ++ rest))
regrouped x b y rest = append_assoc x (b ++ y) rest ∙ ap (λ (z : List ℕ). x ++ z) (append_assoc b y rest)

-- the kind of messages of a way
way_is : (way : Way) (rest : List ℕ) → way_member way ++ rest ≡ codes ",\"kind\":" ++ (quoted (way_word way) ++ (codes ",\"nid\":" ++ rest))
unfolding escape_byte
way_is ToTrain rest = refl
way_is ToTrack rest = refl

-- the number of a message, and the names around it
abbrev pub number_between : Way → ℕ → List ℕ
number_between way nid = way_member way ++ (decimal nid ++ codes ",\"packets\":")

pub typed_text : (way : Way) (nid : ℕ) (head body : Reading) (vs : List PacketValue) (padding : List Bool) → message_front body head ++ (number_between way nid ++ message_after way vs padding) ≡ compact_text (message_tree way (typed_message nid head body vs padding))
unfolding escape_byte
typed_text way nid head body vs padding =
    let x = compact_text (pairs_tree body) in
    let y = compact_text (pairs_tree head) in
    let p = compact_text (packets_tree way vs) in
    let n = decimal nid in
    let beyond = message_after way vs padding in
    let rest = n ++ (codes ",\"packets\":" ++ beyond) in
    ap (λ (z : List ℕ). codes "{\"fields\":" ++ z) (regrouped x (codes ",\"header\":") y (number_between way nid ++ beyond))
    ∙ ap (λ (z : List ℕ). codes "{\"fields\":" ++ (x ++ (codes ",\"header\":" ++ (y ++ z)))) (regrouped (way_member way) n (codes ",\"packets\":") beyond)
    ∙ ap (λ (z : List ℕ). codes "{\"fields\":" ++ (x ++ (codes ",\"header\":" ++ (y ++ z)))) (way_is way rest)
    ∙ ap (λ (z : List ℕ). codes "{\"fields\":" ++ (x ++ (codes ",\"header\":" ++ (y ++ (codes ",\"kind\":" ++ (quoted (way_word way) ++ (codes ",\"nid\":" ++ (n ++ (codes ",\"packets\":" ++ (p ++ (codes ",\"padding\":" ++ z)))))))))))
    (sym (quoted_bits padding (codes "}")))

pub kept_text : (way : Way) (nid : ℕ) (b : List Bool) → codes "{\"data\":\"" ++ (map bit_digit b ++ (codes "\"" ++ (way_member way ++ (decimal nid ++ codes "}")))) ≡ compact_text (message_tree way (kept_message nid b))
unfolding escape_byte
kept_text way nid b =
    let rest = decimal nid ++ codes "}" in
    ap (λ (z : List ℕ). codes "{\"data\":\"" ++ (map bit_digit b ++ (codes "\"" ++ z))) (way_is way rest)
    ∙ ap (λ (z : List ℕ). codes "{\"data\":" ++ z) (sym (quoted_bits b (codes ",\"kind\":" ++ (quoted (way_word way) ++ (codes ",\"nid\":" ++ rest)))))

-- ---- Items, part by part.

-- a text that was appended, before what follows it
after : (old a one rest new : List ℕ) → one ≡ old ++ a → new ≡ one ++ rest → new ≡ old ++ (a ++ rest)
after old a one rest new e h = h ∙ ap (λ (z : List ℕ). z ++ rest) e ∙ append_assoc old a rest

-- a list with its end, before what follows it
listed : {A : Type 0} (f : A → Data) (old : List ℕ) (s : Listed) (xs : List A) (rest new : List ℕ) → s ≡ with_each f (old ++ 91 ∷ [], false) xs → new ≡ s.0 ++ 93 ∷ rest → new ≡ old ++ (compact_text (array (items_of (map f xs))) ++ rest)
listed f old s xs rest new is e =
    let t = with_each f (old ++ 91 ∷ [], false) xs in
    e
    ∙ ap (λ (z : Listed). z.0 ++ 93 ∷ rest) is
    ∙ sym (append_assoc t.0 (93 ∷ []) rest)
    ∙ ap (λ (z : List ℕ). z ++ rest) (list_text f (old ++ 91 ∷ []) false xs ∙ append_assoc old (91 ∷ []) (items_text false (items_of (map f xs))))
    ∙ append_assoc old (compact_text (array (items_of (map f xs)))) rest

telegram_end : (a x b y k z q r : List ℕ) → (a ++ (x ++ (b ++ (y ++ (k ++ (z ++ q)))))) ++ r ≡ a ++ (x ++ (b ++ (y ++ (k ++ (z ++ (q ++ r))))))
telegram_end a x b y k z q r = simp append_assoc

pub telegram_json : (size : Size) (header : HeaderValue) (vs : List PacketValue) (fill : List Bool) (old one two three four five : List ℕ) (list : Listed) (new : List ℕ) → one ≡ old ++ codes "{\"fill\":\"" → two ≡ one ++ map bit_digit fill → three ≡ two ++ codes "\",\"header\":" → four ≡ three ++ compact_text (pairs_tree (header_reading header)) → five ≡ four ++ kind_member size → list ≡ fold (and_packet ToTrain) (five ++ 91 ∷ [], false) vs → new ≡ list.0 ++ codes "]}\n" → new ≡ old ++ (compact_text (telegram_tree (record { size = size; header = header; packets = vs; fill = fill })) ++ 10 ∷ [])
telegram_json size header vs fill old one two three four five list new e f g h k l m =
    let a = codes "{\"fill\":\"" in
    let x = map bit_digit fill in
    let b = codes "\",\"header\":" in
    let y = compact_text (pairs_tree (header_reading header)) in
    let n = kind_member size in
    let z = compact_text (packets_tree ToTrain vs) in
    let rest = codes "}\n" in
    after old a one (x ++ (b ++ (y ++ (n ++ (z ++ rest))))) new e
    (after one x two (b ++ (y ++ (n ++ (z ++ rest)))) new f
    (after two b three (y ++ (n ++ (z ++ rest))) new g
    (after three y four (n ++ (z ++ rest)) new h
    (after four n five (z ++ rest) new k (listed (packet_tree ToTrain) five list vs rest new l m)))))
    ∙ ap (λ (w : List ℕ). old ++ w) (sym (telegram_end a x b y n z (codes "}") (10 ∷ [])) ∙ ap (λ (w : List ℕ). w ++ 10 ∷ []) (telegram_is size header vs fill))

typed_end : (a x b y n z c d q r : List ℕ) → ((a ++ (x ++ (b ++ y))) ++ (n ++ (z ++ (c ++ (d ++ q))))) ++ r ≡ a ++ (x ++ (b ++ (y ++ (n ++ (z ++ (c ++ (d ++ (q ++ r))))))))
typed_end a x b y n z c d q r = simp append_assoc

kept_end : (a x b w n q r : List ℕ) → (a ++ (x ++ (b ++ (w ++ (n ++ q))))) ++ r ≡ a ++ (x ++ (b ++ (w ++ (n ++ (q ++ r)))))
kept_end a x b w n q r = simp append_assoc

module _ (way : Way) (nid : ℕ) where
  pub typed_json : (head body : Reading) (vs : List PacketValue) (padding : List Bool) (old one two three four five : List ℕ) (list : Listed) (six seven new : List ℕ) → one ≡ old ++ codes "{\"fields\":" → two ≡ one ++ compact_text (pairs_tree body) → three ≡ two ++ codes ",\"header\":" → four ≡ three ++ compact_text (pairs_tree head) → five ≡ four ++ number_between way nid → list ≡ fold (and_packet way) (five ++ 91 ∷ [], false) vs → six ≡ list.0 ++ codes "],\"padding\":\"" → seven ≡ six ++ map bit_digit padding → new ≡ seven ++ codes "\"}\n" → new ≡ old ++ (compact_text (message_tree way (typed_message nid head body vs padding)) ++ 10 ∷ [])
  typed_json head body vs padding old one two three four five list six seven new e f g h k l m o p =
      let a = codes "{\"fields\":" in
      let x = compact_text (pairs_tree body) in
      let b = codes ",\"header\":" in
      let y = compact_text (pairs_tree head) in
      let n = number_between way nid in
      let z = compact_text (packets_tree way vs) in
      let c = codes ",\"padding\":\"" in
      let d = map bit_digit padding in
      let q = codes "\"}" in
      let rest = codes "\"}\n" in
      after old a one (x ++ (b ++ (y ++ (n ++ (z ++ (c ++ (d ++ rest))))))) new e
      (after one x two (b ++ (y ++ (n ++ (z ++ (c ++ (d ++ rest)))))) new f
      (after two b three (y ++ (n ++ (z ++ (c ++ (d ++ rest))))) new g
      (after three y four (n ++ (z ++ (c ++ (d ++ rest)))) new h
      (after four n five (z ++ (c ++ (d ++ rest))) new k
      (listed (packet_tree way) five list vs (c ++ (d ++ rest)) new l
      (after list.0 (93 ∷ c) six (d ++ rest) new m
      (after six d seven rest new o p)))))))
      ∙ ap (λ (w : List ℕ). old ++ w) (sym (typed_end a x b y n z c d q (10 ∷ [])) ∙ ap (λ (w : List ℕ). w ++ 10 ∷ []) (typed_text way nid head body vs padding))

  pub kept_json : (bits : List Bool) (old one two three new : List ℕ) → one ≡ old ++ codes "{\"data\":\"" → two ≡ one ++ map bit_digit bits → three ≡ two ++ codes "\"" → new ≡ three ++ (way_member way ++ (decimal nid ++ codes "}\n")) → new ≡ old ++ (compact_text (message_tree way (kept_message nid bits)) ++ 10 ∷ [])
  kept_json bits old one two three new e f g h =
      let a = codes "{\"data\":\"" in
      let x = map bit_digit bits in
      let b = codes "\"" in
      let w = way_member way in
      let rest = w ++ (decimal nid ++ codes "}\n") in
      after old a one (x ++ (b ++ rest)) new e
      (after one x two (b ++ rest) new f
      (after two b three rest new g h))
      ∙ ap (λ (z : List ℕ). old ++ z) (sym (kept_end a x b w (decimal nid) (codes "}") (10 ∷ [])) ∙ ap (λ (z : List ℕ). z ++ 10 ∷ []) (kept_text way nid bits))
