-- The text of trees of packets, part by part.
use Rattle.std.proofs.Common.{◌≡◌, ℕ, length, take, Bool, false, List, [], ◌∷◌, ◌++◌, map, refl, sym, ap, ◌∙◌, arith, append_assoc, subst, Result, Ok, Err, Some}
use Rattle.std.specs.Prelude.{OnOk, OnErr, codes, decimal}
use Rattle.std.proofs.lemmas.List.{take_all}
use Rattle.json.specs.Print.{escape_byte}
use Rattle.serde_json.specs.Data.{Data, array}
use Rattle.serde_json.specs.View.{items_of}
use Rattle.serde_json.specs.Written.{compact_text, items_text}
use Rattle.etcs_tables.specs.declared.row.Way.{Way}
use Rattle.etcs_tables.specs.declared.row.Way.TheVariants.{ToTrain, ToTrack}
use Rattle.etcs_packets.specs.PacketValues.{PacketValue, marker, typed, kept}
use Rattle.etcs_packets.specs.PacketValues as packet
use Rattle.etcs_packet_text.specs.Fronts.{Begins}
use Rattle.etcs_packet_text.specs.laws.Fronts.{begins_more}
use Rattle.etcs_packet_text.specs.JsonParts.{data_text}
use Rattle.etcs_packet_text.specs.PairSinks.{Listed, with_each}
use Rattle.etcs_packet_text.specs.laws.PairSinks.{each_begins, list_text}
pub use Rattle.etcs_packet_text.specs.laws.PairSinks.{sent_packet}
use Rattle.etcs_packet_text.proofs.PlainTexts.{quoted_bits}
use Rattle.etcs_packet_text.specs.Show.{bit_digit}
use Rattle.etcs_packet_text.specs.Trees.{packet_tree}

-- ---- Lists.

-- a list with its end
pub closed_ok : {A T E : Type 0} (r : Result T E) (f : A → Data) (old new : List ℕ) (s : Listed) (xs : List A) → s ≡ with_each f (old ++ 91 ∷ [], false) xs → OnOk r (new ≡ s.0 ++ 93 ∷ []) → OnOk r (new ≡ old ++ compact_text (array (items_of (map f xs))))
closed_ok (Ok x) f old new s xs is e =
    e
    ∙ ap (λ (z : Listed). z.0 ++ 93 ∷ []) is
    ∙ list_text f (old ++ 91 ∷ []) false xs
    ∙ append_assoc old (91 ∷ []) (items_text false (items_of (map f xs)))
closed_ok (Err x) f old new s xs is e = tt

-- what was there stays, after a bracket and items
pub list_begins : {A : Type 0} (f : A → Data) (old new : List ℕ) (s : Listed) (xs : List A) → s ≡ with_each f (old ++ 91 ∷ [], false) xs → Begins s.0 new → Begins old new
list_begins f old new s xs is h =
    begins_more old (old ++ 91 ∷ []) new (91 ∷ []) refl (each_begins f (old ++ 91 ∷ [], false) xs new (subst (λ (t : Listed). Begins t.0 new) is h))

pub closed_err : {A T E : Type 0} (r : Result T E) (f : A → Data) (old new : List ℕ) (s : Listed) (xs : List A) → s ≡ with_each f (old ++ 91 ∷ [], false) xs → OnErr r (new ≡ s.0) → OnErr r (Begins old new)
closed_err (Ok x) f old new s xs is e = tt
closed_err (Err x) f old new s xs is e = list_begins f old new s xs is (ap (take (length s.0)) e ∙ take_all (length s.0) s.0 (omega arith))

-- ---- Packets.

-- a packet that is kept as bits
pub kept_packet : (way : Way) (v : PacketValue) (bits : List Bool) → Some bits ≡ packet.kept_of v → data_text way v bits ≡ compact_text (packet_tree way v)
unfolding escape_byte
kept_packet way (marker n) bits e = absurd cc
kept_packet way (typed nid dir r) bits e = absurd cc
kept_packet ToTrain (kept nid dir b) bits e =
    let same : bits ≡ b = cc in
    let rest = decimal nid ++ codes "}" in
    ap (λ (z : List Bool). codes "{\"data\":\"" ++ (map bit_digit z ++ ((codes "\",\"dir\":" ++ (decimal dir ++ codes ",\"nid\":")) ++ rest))) same
    ∙ ap (λ (z : List ℕ). codes "{\"data\":\"" ++ (map bit_digit b ++ (codes "\",\"dir\":" ++ z))) (append_assoc (decimal dir) (codes ",\"nid\":") rest)
    ∙ ap (λ (z : List ℕ). codes "{\"data\":" ++ z) (sym (quoted_bits b (codes ",\"dir\":" ++ (decimal dir ++ (codes ",\"nid\":" ++ rest)))))
kept_packet ToTrack (kept nid dir b) bits e =
    let same : bits ≡ b = cc in
    let rest = decimal nid ++ codes "}" in
    ap (λ (z : List Bool). codes "{\"data\":\"" ++ (map bit_digit z ++ (codes "\",\"nid\":" ++ rest))) same
    ∙ ap (λ (z : List ℕ). codes "{\"data\":" ++ z) (sym (quoted_bits b (codes ",\"nid\":" ++ rest)))
