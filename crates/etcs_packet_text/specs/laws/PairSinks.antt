-- Lemmas about specs/PairSinks.antt.
use Rattle.std.proofs.Common.{◌≡◌, ℕ, ◌+◌, Bool, true, false, List, [], ◌∷◌, ◌++◌, length, map, None, Option, Some, refl, sym, ap, ◌∙◌, append_assoc}
use Rattle.std.specs.Prelude.{codes, decimal}
use Rattle.std.proofs.lemmas.List.{take_all}
use Rattle.std.proofs.lemmas.List.Sums.{fold-append}
use Rattle.std.proofs.Common.{arith}
use Rattle.json.specs.Print.{escape_byte}
use Rattle.serde_json.specs.Data.{Data}
use Rattle.serde_json.specs.View.{items_of}
use Rattle.serde_json.specs.Written.{comma_if, compact_text, items_text}
use Rattle.etcs_vars.specs.declared.var.Var.TheVariants.{NID_VBCMK}
use Rattle.etcs_vars.specs.Reading.{Reading, Sent, spelled}
use Rattle.etcs_tables.specs.declared.row.Way.{Way}
use Rattle.etcs_tables.specs.declared.row.Way.TheVariants.{ToTrain, ToTrack}
use Rattle.etcs_tables.specs.Frames.{frame_bits}
use Rattle.etcs_packets.specs.PacketValues.{PacketValue, marker, typed, kept, kept_of}
use Rattle.etcs_packet_text.specs.declared.packet_page.Place.{Place}
use Rattle.etcs_packet_text.specs.Fronts.{Begins}
use Rattle.etcs_packet_text.specs.laws.Fronts.{begins_more}
use Rattle.etcs_packet_text.specs.JsonParts.{fields_front, fields_text, sent_of}
use Rattle.etcs_packet_text.specs.Trees.{packet_tree, pair_tree, pairs_tree}
use Rattle.etcs_packet_text.specs.PairSinks.{Listed, with_item, with_each, with_pairs, and_packet, begun_fields, ended_fields}

-- ---- Its laws.

pub each_begins : {A : Type 0} (f : A → Data) (s : Listed) (xs : List A) (new : List ℕ) → Begins (with_each f s xs).0 new → Begins s.0 new
each_begins f s [] new h = h
each_begins f s (x ∷ xs) new h =
    let t = with_item s (f x) in
    begins_more s.0 t.0 new (comma_if s.1 ++ compact_text (f x)) refl (each_begins f t xs new h)

pub with_pairs_none : (s : Listed) → with_pairs s [] ≡ s
with_pairs_none s = refl

pub with_pairs_both : (s : Listed) (a b : Reading) → with_pairs s (a ++ b) ≡ with_pairs (with_pairs s a) b
with_pairs_both s a b = fold-append (λ (t : Listed) (p : Sent). with_item t (pair_tree p)) s a b

pub with_pairs_begins : (s : Listed) (r : Reading) (t : Listed) → Begins (with_pairs s r).0 t.0 → Begins s.0 t.0
with_pairs_begins s r t h = each_begins pair_tree s r t.0 h

-- ---- Its items, with the end of the list.

pub list_text : {A : Type 0} (f : A → Data) (old : List ℕ) (later : Bool) (xs : List A) → (with_each f (old, later) xs).0 ++ 93 ∷ [] ≡ old ++ items_text later (items_of (map f xs))
list_text f old later [] = refl
list_text f old later (x ∷ xs) =
    list_text f (old ++ (comma_if later ++ compact_text (f x))) true xs
    ∙ append_assoc old (comma_if later ++ compact_text (f x)) (items_text true (items_of (map f xs)))
    ∙ ap (λ (z : List ℕ). old ++ z) (append_assoc (comma_if later) (compact_text (f x)) (items_text true (items_of (map f xs))))

-- ---- Its packets.

-- a packet with fields
pub sent_packet : (way : Way) (v : PacketValue) → None ≡ kept_of v → fields_text way v ≡ compact_text (packet_tree way v)
unfolding escape_byte
sent_packet ToTrain (marker n) h = refl
sent_packet ToTrack (marker n) h = refl
sent_packet ToTrain (typed nid dir r) h =
    let rest = compact_text (pairs_tree r) ++ (codes ",\"nid\":" ++ (decimal nid ++ codes "}")) in
    ap (λ (z : List ℕ). codes "{\"dir\":" ++ z) (append_assoc (decimal dir) (codes ",\"fields\":") rest)
sent_packet ToTrack (typed nid dir r) h = refl
sent_packet way (kept nid dir b) h = absurd cc

-- what is before the pairs, these with the end of their list, and what is after them
regrouped : (old comma front items rest : List ℕ) → ((old ++ (comma ++ (front ++ 91 ∷ []))) ++ items) ++ rest ≡ old ++ (comma ++ (front ++ (91 ∷ items ++ rest)))
regrouped old comma front items rest =
    append_assoc (old ++ (comma ++ (front ++ 91 ∷ []))) items rest
    ∙ append_assoc old (comma ++ (front ++ 91 ∷ [])) (items ++ rest)
    ∙ ap (λ (z : List ℕ). old ++ z) (append_assoc comma (front ++ 91 ∷ []) (items ++ rest) ∙ ap (λ (z : List ℕ). comma ++ z) (append_assoc front (91 ∷ []) (items ++ rest)))

fields_are : (dir : Option ℕ) (nid : ℕ) (s : Listed) (r : Reading) → ended_fields nid (with_pairs (s.0 ++ (comma_if s.1 ++ (fields_front dir ++ 91 ∷ [])), false) r) ≡ (s.0 ++ (comma_if s.1 ++ (fields_front dir ++ (compact_text (pairs_tree r) ++ (codes ",\"nid\":" ++ (decimal nid ++ codes "}"))))), true)
fields_are dir nid s r =
    let old = s.0 ++ (comma_if s.1 ++ (fields_front dir ++ 91 ∷ [])) in
    let rest = codes ",\"nid\":" ++ (decimal nid ++ codes "}") in
    ap (λ (z : List ℕ). (z, true)) (sym (append_assoc (with_pairs (old, false) r).0 (93 ∷ []) rest)
    ∙ ap (λ (z : List ℕ). z ++ rest) (list_text pair_tree old false r)
    ∙ regrouped s.0 (comma_if s.1) (fields_front dir) (items_text false (items_of (map pair_tree r))) rest)

pub same_listed : (s t : Listed) (place : Place) → (place.len ≡ length s.0) × (place.later ≡ s.1) → (place.len ≡ length t.0) × (place.later ≡ t.1) → s.0 ≡ t.0 → s ≡ t
same_listed s t place is same text = let later : s.1 ≡ t.1 = sym is.1 ∙ same.1 in λ i. (text i, later i)

pub pairs_sent : (s : Listed) (r : Reading) → Begins s.0 (with_pairs s r).0
pairs_sent s r = with_pairs_begins s r (with_pairs s r) (take_all (length (with_pairs s r).0) (with_pairs s r).0 (omega arith))

pub fields_typed : (way : Way) (nid dir : ℕ) (s : Listed) (r : Reading) → ended_fields nid (with_pairs (begun_fields way nid (Some dir) (frame_bits way + length (spelled r)) s) r) ≡ and_packet way s (typed nid dir r)
fields_typed way nid dir s r = fields_are (sent_of way (Some dir)) nid s r ∙ ap (λ (z : List ℕ). (s.0 ++ (comma_if s.1 ++ z), true)) (sent_packet way (typed nid dir r) refl)

pub fields_marker : (way : Way) (number count : ℕ) (s : Listed) → ended_fields 0 (with_pairs (begun_fields way 0 None count s) ((NID_VBCMK, number) ∷ [])) ≡ and_packet way s (marker number)
fields_marker ToTrain number count s = fields_are None 0 s ((NID_VBCMK, number) ∷ []) ∙ ap (λ (z : List ℕ). (s.0 ++ (comma_if s.1 ++ z), true)) (sent_packet ToTrain (marker number) refl)
fields_marker ToTrack number count s = fields_are None 0 s ((NID_VBCMK, number) ∷ []) ∙ ap (λ (z : List ℕ). (s.0 ++ (comma_if s.1 ++ z), true)) (sent_packet ToTrack (marker number) refl)
