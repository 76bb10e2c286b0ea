-- Lemmas about specs/Packets.antt.
use Rattle.std.proofs.Common.{◌≡◌, ℕ, ◌≤◌, Bool, true, false, [], ◌∷◌, length, map, Option, Some, None, refl, sym, ap, ◌∙◌, subst}
use Rattle.std.specs.Prelude.{IsTrue, if◌then◌else◌, nat_le}
use Rattle.std.proofs.lemmas.Bool.{leb-true, le-leb}
use Rattle.std.proofs.lemmas.List.{append-nil}
use Rattle.etcs_vars.specs.declared.fault.BuildFault.{BuildFault}
use Rattle.etcs_vars.specs.declared.fault.BuildFault.TheVariants.{TooLong}
use Rattle.etcs_vars.specs.Reading.{Reading, numbers, spelled}
use Rattle.etcs_tables.specs.declared.row.Way.{Way}
use Rattle.etcs_tables.specs.Layouts.{Layout, whole, Reads, ROW_LIMIT}
use Rattle.etcs_tables.specs.Rows.{row_to}
use Rattle.etcs_tables.specs.Frames.{is_direction}
use Rattle.etcs_tables.specs.Typed.{IsFramed}
use Rattle.etcs_bodies.specs.Taking.{named_as, Left, listed, in_bits, named, ahead, Says, is_spent, ◌and_then◌}
use Rattle.etcs_bodies.specs.laws.Takes.{taken}
use Rattle.etcs_bodies.specs.Repeats.{bit_count}
use Rattle.etcs_bodies.specs.laws.Repeats.{bit_count_is}
use Rattle.etcs_bodies.specs.Codecs.{Codes}
use Rattle.etcs_bodies.specs.laws.Choices.{whole_in, whole_out}
use Rattle.etcs_bodies.specs.Packets.{bits_fault, length_fault, packet_to, Whole}

-- ---- The length.

pub length_is : (r : Reading) (bits : ℕ) → bit_count r ≡ bits → length_fault r ≡ bits_fault bits
unfolding length_fault
length_is r bits e = ap bits_fault e

by_test : (b : Bool) → ◌≡◌ {A = Option BuildFault} (if b then None else Some TooLong) None → b ≡ true
by_test true h = refl
by_test false h = absurd cc

pub length_fits : (r : Reading) → length_fault r ≡ None → length (spelled r) ≤ ROW_LIMIT
unfolding length_fault bits_fault
length_fits r h = rw (bit_count_is r) (leb-true (bit_count r) ROW_LIMIT (by_test (nat_le (bit_count r) ROW_LIMIT) h))

pub length_ok : (r : Reading) → length (spelled r) ≤ ROW_LIMIT → length_fault r ≡ None
unfolding length_fault bits_fault
length_ok r h = let short : bit_count r ≤ ROW_LIMIT = rw (bit_count_is r) at h in rw (le-leb (bit_count r) ROW_LIMIT short) refl

-- ---- What is read as a packet.

-- if nothing is left after these variables, they were all
all_said : (r : Reading) (t : Left) → is_spent t ≡ true → Says (ahead r t) r
all_said r (listed []) h = sym (append-nil (numbers r))
all_said r (listed (n ∷ t)) h = absurd cc
all_said r (in_bits []) h = sym (append-nil (spelled r))
all_said r (in_bits (b ∷ t)) h = absurd cc
all_said r (named []) h = sym (append-nil (map named_as r))
all_said r (named (n ∷ t)) h = absurd cc

-- nothing, in the same form
abbrev pub end_of : Left → Left
end_of (listed f) = listed []
end_of (in_bits b) = in_bits []
end_of (named s) = named []

pub end_spent : (s : Left) → is_spent (end_of s) ≡ true
end_spent (listed f) = refl
end_spent (in_bits b) = refl
end_spent (named s) = refl

said : (r : Reading) (s : Left) → Says s r → s ≡ ahead r (end_of s)
said r (listed f) h = ap listed (sym h ∙ sym (append-nil (numbers r)))
said r (in_bits b) h = ap in_bits (sym h ∙ sym (append-nil (spelled r)))
said r (named s) h = ap named (sym h ∙ sym (append-nil (map named_as r)))

by_spent : {P : Type 0} (c : Bool) (p q : P) → ◌≡◌ {A = Option P} (if c then Some p else None) (Some q) → (c ≡ true) × (p ≡ q)
by_spent true p q h = let e : p ≡ q = cc in (refl, e)
by_spent false p q h = absurd cc

by_dir : {P : Type 0} (c : Bool) (o : Option P) (p : P) → ◌≡◌ {A = Option P} (if c then o else None) (Some p) → (c ≡ true) × (o ≡ Some p)
by_dir true o p h = (refl, h)
by_dir false o p h = absurd cc

pub was_whole : {P : Type 0} (way : Way) (from : ℕ → Left → Option (P × Left)) (dir : ℕ) (s : Left) (p : P) → packet_to way from dir s ≡ Some p → Whole way from dir s p
unfolding packet_to
was_whole {P} way from dir s p h =
    let k : P × Left → Option P = λ q. if is_spent q.1 then Some q.0 else None in
    let d = by_dir (is_direction way dir) (from dir s and_then k) p h in
    let a = taken (from dir s) k p d.1 in
    let c = by_spent (is_spent a.0.1) a.0.0 p a.2 in
    record { left = a.0.1; taken = a.1 ∙ ap (λ q. Some (q, a.0.1)) c.1; spent = c.0; dir_ok = d.0 }

pub is_whole : {P : Type 0} (way : Way) (from : ℕ → Left → Option (P × Left)) (dir : ℕ) (s t : Left) (p : P) → IsTrue (is_direction way dir) → from dir s ≡ Some (p, t) → is_spent t ≡ true → packet_to way from dir s ≡ Some p
unfolding packet_to
is_whole way from dir s t p d h e = rw (d, h, e) refl

module _ {B : Type 0} {row : Layout → Layout} {IsBody : B → Type 0} {reading : B → Reading} {from : Left → Option (B × Left)} (codes : Codes row IsBody reading from) where
  pub read_all : (s : Left) (b : B) → IsBody b → Says s (reading b) → from s ≡ Some (b, end_of s)
  read_all s b h all = ap from (said (reading b) s all) ∙ codes.complete b (end_of s) h

  pub body_of : (s t : Left) (b : B) → from s ≡ Some (b, t) → is_spent t ≡ true → IsBody b × Says s (reading b)
  body_of s t b h spent =
      let v = codes.sound b s t h in
      (v.0, subst (λ l. Says l (reading b)) (sym v.1) (all_said (reading b) t spent))

  -- ---- Of the packet of this row.

  module _ (way : Way) (nid : ℕ) (is : row_to way nid ≡ Some (row whole)) where
    pub body_framed : (b : B) (dir : ℕ) → IsBody b → IsTrue (is_direction way dir) → length (spelled (reading b)) ≤ ROW_LIMIT → IsFramed way nid dir (reading b)
    body_framed b dir h d short = (row whole, is, d, whole_in codes b [] h, short)

    pub framed_body : (dir : ℕ) (r : Reading) → IsFramed way nid dir r → (b : B) × IsBody b × (r ≡ reading b) × (length (spelled (reading b)) ≤ ROW_LIMIT)
    framed_body dir r (layout, e, d, reads, short) =
        let two : Some layout ≡ Some (row whole) = sym e ∙ is in
        let one : layout ≡ row whole = cc in
        let o = whole_out codes [] r (subst (λ l. Reads l [] r) one reads) in
        (o.0, o.1, o.2, rw o.2 at short)

    -- a packet's variables are read
    pub framed_read : (dir : ℕ) (s : Left) (r : Reading) → IsFramed way nid dir r → Says s r → (b : B) × (length (spelled (reading b)) ≤ ROW_LIMIT) × (from s ≡ Some (b, end_of s))
    framed_read dir s r h all =
        let o = framed_body dir r h in
        (o.0, o.3, read_all s o.0 o.1 (subst (Says s) o.2 all))
