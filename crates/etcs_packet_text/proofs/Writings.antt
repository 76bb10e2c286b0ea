-- Pages on which packets are written: texts that stay, and packets that follow one another.
use Rattle.std.proofs.Common.{◌≡◌, ℕ, ◌+◌, ◌<◌, ◌≤◌, Bool, true, false, List, [], ◌∷◌, ◌++◌, fold, get_or, length, map, take, None, Option, Some, refl, sym, ap, subst, ◌∙◌, arith}
use Rattle.std.specs.Prelude.{unwrap_or}
use Rattle.std.proofs.lemmas.List.{length-take, map_more, take_all, take-take}
use Rattle.std.proofs.lemmas.List.Sums.{fold-append}
use Rattle.etcs_bits.specs.Bits.{bit}
use Rattle.etcs_vars.specs.declared.var.Var.TheVariants.{NID_VBCMK}
use Rattle.etcs_vars.specs.Reading.{Reading, spelled}
use Rattle.etcs_tables.specs.declared.row.Way.{Way}
use Rattle.etcs_tables.specs.Frames.{frame_bits}
use Rattle.etcs_packets.specs.PacketValues.{PacketValue, marker, typed, kept, nid_of, dir_of, kept_of, variables_of, bits_to}
use Rattle.etcs_packet_text.specs.declared.packet_page.Place.{Place}
use Rattle.etcs_packet_text.specs.Fronts.{Begins}
use Rattle.etcs_packet_text.specs.Writings.{IsWritten, text_before}

-- ---- Texts.

-- a text that begins with another is as long
pub begins_long : (old new : List ℕ) → Begins old new → length old ≤ length new
begins_long old new h = omega (arith, ap length h, length-take (length old) new)

-- what is in the first of it stays
pub front_stays : (n : ℕ) (old new : List ℕ) → n ≤ length old → Begins old new → take n new ≡ take n old
front_stays n old new inside h = sym (take-take n (length old) new inside) ∙ ap (take n) h

-- and so a text with which the first begins
pub begins_then : (a b c : List ℕ) → Begins a b → Begins b c → Begins a c
begins_then a b c h k = front_stays (length a) b c (begins_long a b h) k ∙ h

-- ---- Places.

same_bit : (a b : Bool) → bit a ≡ bit b → a ≡ b
same_bit true true e = refl
same_bit true false e = absurd (omega (arith, e))
same_bit false true e = absurd (omega (arith, e))
same_bit false false e = refl

same_place : (a b : Place) (x y : List ℕ) → text_before a x ≡ text_before b y → (a ≡ b) × (take a.len x ≡ take b.len y)
same_place a b x y e =
    let len : a.len ≡ b.len = cc in
    let bits : bit a.later ≡ bit b.later = cc in
    let later : a.later ≡ b.later = same_bit a.later b.later bits in
    let same : take a.len x ≡ take b.len y = cc in
    (λ i. record { len = len i; later = later i }, same)

-- ---- Packets.

module _ {W : Type 0} (text : W → List ℕ) (ends : W → Place → Type 0) (and_packet : W → PacketValue → W) where
  -- one packet more
  pub one_written : (place : Place) (old new : W) (vs : List PacketValue) (v : PacketValue) → place.len ≤ length (text old) → Begins (text old) (text new) → IsWritten text ends and_packet place old vs → new ≡ and_packet old v → IsWritten text ends and_packet place new (vs ++ v ∷ [])
  one_written place old new vs v inside h s e =
      record {
        first = s.first;
        ended = s.ended;
        same = s.same ∙ sym (front_stays place.len (text old) (text new) inside h);
        is = e ∙ ap (λ (w : W). and_packet w v) s.is ∙ sym (fold-append and_packet s.first vs (v ∷ []));
      }

  -- the page at first
  pub written_on : (place place' : Place) (old new : W) (vs : List PacketValue) → ((page : W) (p : Place) → ends page p → p.len ≡ length (text page)) → ((page other : W) (p : Place) → ends page p → ends other p → text page ≡ text other → page ≡ other) → ends old place → text_before place' (text new) ≡ text_before place (text old) → IsWritten text ends and_packet place' new vs → new ≡ fold and_packet old vs
  written_on place place' old new vs long one at before s =
      let both = same_place place' place (text new) (text old) before in
      let all : take place.len (text old) ≡ text old = take_all place.len (text old) (omega (arith, long old place at)) in
      let first : s.first ≡ old = one s.first old place (subst (λ (p : Place). ends s.first p) both.0 s.ended) at (s.same ∙ both.1 ∙ all) in
      s.is ∙ ap (λ (w : W). fold and_packet w vs) first

  -- packets one after another
  pub packets_more : {P : Type 0} (value : P → PacketValue) (ps : List P) (i : ℕ) (p : P) (old one two : W) → i < length ps → p ≡ get_or ps i p → one ≡ fold and_packet old (map value (take i ps)) → two ≡ and_packet one (value p) → two ≡ fold and_packet old (map value (take (i + 1) ps))
  packets_more value ps i p old one two inside is e h =
      h
      ∙ ap (λ (w : W). and_packet w (value p)) e
      ∙ sym (fold-append and_packet old (map value (take i ps)) (value p ∷ []))
      ∙ ap (λ q. fold and_packet old (map value (take i ps) ++ value q ∷ [])) is
      ∙ ap (fold and_packet old) (sym (map_more value ps i p inside))

-- ---- A packet.

-- one that is kept
kept_value : (v : PacketValue) (bits : List Bool) → Some bits ≡ kept_of v → kept (nid_of v) (unwrap_or (dir_of v) 0) bits ≡ v
kept_value (marker n) bits e = absurd cc
kept_value (typed nid dir r) bits e = absurd cc
kept_value (kept nid dir b) bits e = let same : bits ≡ b = cc in ap (kept nid dir) same

pub kept_steps : {W : Type 0} (and_packet : Way → W → PacketValue → W) (way way' : Way) (v : PacketValue) (bits : List Bool) (nid dir : ℕ) (sent : Option ℕ) (page new : W) → Some bits ≡ kept_of v → way' ≡ way → nid ≡ nid_of v → dir ≡ unwrap_or sent 0 → sent ≡ dir_of v → new ≡ and_packet way' page (kept nid dir bits) → new ≡ and_packet way page v
kept_steps and_packet way way' v bits nid dir sent page new is w n d s h =
    let same : dir ≡ unwrap_or (dir_of v) 0 = d ∙ ap (λ (o : Option ℕ). unwrap_or o 0) s in
    h ∙ (λ i. and_packet (w i) page (kept (n i) (same i) bits)) ∙ ap (and_packet way page) (kept_value v bits is)

module _ {W : Type 0} (way : Way) (begun : Way → ℕ → Option ℕ → ℕ → W → W) (ended : ℕ → W → W) (with_more : W → Reading → W) (and_packet : Way → W → PacketValue → W) where
  -- a typed one is its variables between what is before and after them, and so is packet 0
  abbrev pub OfTyped : Type 0
  OfTyped = (nid dir : ℕ) (page : W) (r : Reading) → ended nid (with_more (begun way nid (Some dir) (frame_bits way + length (spelled r)) page) r) ≡ and_packet way page (typed nid dir r)

  abbrev pub OfMarker : Type 0
  OfMarker = (number count : ℕ) (page : W) → ended 0 (with_more (begun way 0 None count page) ((NID_VBCMK, number) ∷ [])) ≡ and_packet way page (marker number)

  sent_value : OfTyped → OfMarker → (v : PacketValue) (page : W) → None ≡ kept_of v → ended (nid_of v) (with_more (begun way (nid_of v) (dir_of v) (bits_to way v) page) (variables_of v)) ≡ and_packet way page v
  sent_value of_typed of_marker (marker n) page none = of_marker n 14 page
  sent_value of_typed of_marker (typed nid dir r) page none = of_typed nid dir page r
  sent_value of_typed of_marker (kept nid dir b) page none = absurd cc

  -- one that isn't kept, step by step
  pub sent_steps : OfTyped → OfMarker → (v : PacketValue) (page one two three : W) (way' : Way) (nid last bits : ℕ) (dir : Option ℕ) → None ≡ kept_of v → way' ≡ way → nid ≡ nid_of v → dir ≡ dir_of v → bits ≡ bits_to way v → last ≡ nid_of v → one ≡ begun way' nid dir bits page → two ≡ with_more one (variables_of v) → three ≡ ended last two → three ≡ and_packet way page v
  sent_steps of_typed of_marker v page one two three way' nid last bits dir none w n d b l e f g =
      g
      ∙ ap (λ k. ended k two) l
      ∙ ap (ended (nid_of v)) (f ∙ ap (λ p. with_more p (variables_of v)) (e ∙ λ i. begun (w i) (n i) (d i) (b i) page))
      ∙ sent_value of_typed of_marker v page none

  -- one whose bits are there
  pub typed_steps : OfTyped → (nid dir len count : ℕ) (r : Reading) (page one two three : W) (way' : Way) → way' ≡ way → count ≡ frame_bits way + len → length (spelled r) ≡ len → one ≡ begun way' nid (Some dir) count page → two ≡ with_more one r → three ≡ ended nid two → three ≡ and_packet way page (typed nid dir r)
  typed_steps of_typed nid dir len count r page one two three way' w c long e f g =
      let all : count ≡ frame_bits way + length (spelled r) = c ∙ ap (λ n. frame_bits way + n) (sym long) in
      g
      ∙ ap (ended nid) (f ∙ ap (λ p. with_more p r) (e ∙ λ i. begun (w i) nid (Some dir) (all i) page))
      ∙ of_typed nid dir page r
