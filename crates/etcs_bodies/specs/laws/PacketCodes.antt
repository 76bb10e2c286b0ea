-- Lemmas about specs/PacketCodes.antt.
use Rattle.std.proofs.Common.{◌≡◌, ℕ, ◌≤◌, Bool, true, List, [], length, Option, Some, None, refl, sym, ap, ◌∙◌, subst}
use Rattle.std.specs.Prelude.{IsTrue}
use Rattle.std.proofs.lemmas.Bool.{eqb-true}
use Rattle.etcs_vars.specs.declared.var.Var.TheVariants.{Q_DIR}
use Rattle.etcs_vars.specs.declared.fault.BuildFault.{BuildFault}
use Rattle.etcs_vars.specs.Faults.{number_fault}
use Rattle.etcs_vars.specs.Reading.{Reading, numbers, spelled}
use Rattle.etcs_tables.specs.declared.row.Way.{Way}
use Rattle.etcs_tables.specs.declared.row.Way.TheVariants.{ToTrain, ToTrack}
use Rattle.etcs_tables.specs.Frames.{is_direction}
use Rattle.etcs_tables.specs.Layouts.{Layout, whole, ROW_LIMIT}
use Rattle.etcs_tables.specs.Rows.{row_to}
use Rattle.etcs_tables.specs.Typed.{IsTyped, IsFramed}
use Rattle.etcs_bodies.specs.Taking.{Left, listed, in_bits, Says, is_spent}
use Rattle.etcs_bodies.specs.laws.Takes.{taken, admitted, number_ok}
use Rattle.etcs_bodies.specs.Codecs.{Codes}
use Rattle.etcs_bodies.specs.Packets.{packet_to, IsPacketLeft}
use Rattle.etcs_bodies.specs.laws.Packets.{end_of, end_spent, was_whole, is_whole, read_all, body_of, body_framed, framed_read}
use Rattle.etcs_bodies.specs.PacketCodes.{PacketCodes, fitting, directed_from, direction_as, IsDirection, never, Directed}

-- a typed packet's numbers are its variables'
pub typed_left : (way : Way) (nid dir : ℕ) (f : List ℕ) → IsTyped way nid dir f → IsPacketLeft way nid dir (listed f)
typed_left way nid dir f (layout, e, d, (bits, (r, reads, fr, br), short)) =
    let fits : length (spelled r) ≤ ROW_LIMIT = rw (← br) at short in
    (r, (layout, e, d, reads, fits), fr)

module _ {P : Type 0} {way : Way} {nid : ℕ} {direction : P → ℕ} {IsValue : P → Type 0} {reading : P → Reading} {from : ℕ → Left → Option P} (codes : PacketCodes way nid direction IsValue reading from) where
  pub all_typed : (p : P) → IsValue p → IsTyped way nid (direction p) (numbers (reading p))
  all_typed p h = let f = codes.framed p h in (f.0, f.1, f.2, (spelled (reading p), (reading p, f.3, refl, refl), f.4))

  pub all_listed : (dir : ℕ) (f : List ℕ) (p : P) → from dir (listed f) ≡ Some p → IsValue p × (direction p ≡ dir) × (numbers (reading p) ≡ f)
  all_listed dir f p h = codes.sound dir (listed f) p h

  pub all_spelled : (dir : ℕ) (b : List Bool) (p : P) → from dir (in_bits b) ≡ Some p → IsValue p × (direction p ≡ dir) × (spelled (reading p) ≡ b)
  all_spelled dir b p h = codes.sound dir (in_bits b) p h

  pub all_untyped : (dir : ℕ) (f : List ℕ) → from dir (listed f) ≡ None → IsTyped way nid dir f → ⊥
  all_untyped dir f none h = codes.complete dir (listed f) none (typed_left way nid dir f h)

  pub all_unframed : (dir : ℕ) (b : List Bool) → from dir (in_bits b) ≡ None → (r : Reading) → IsFramed way nid dir r → spelled r ≡ b → ⊥
  all_unframed dir b none r h e = codes.complete dir (in_bits b) none (r, h, e)

  pub all_framed : (p : P) → IsValue p → IsFramed way nid (direction p) (reading p) × (numbers (reading p) ≡ numbers (reading p))
  all_framed p h = (codes.framed p h, refl)

  pub all_apart : (p q : P) → IsValue p → IsValue q → direction p ≡ direction q → numbers (reading p) ≡ numbers (reading q) → p ≡ q
  all_apart p q hp hq d f =
      let both : ◌≡◌ {A = Option P} (Some p) (Some q) = sym (codes.back p hp) ∙ ap (λ k. from k (listed (numbers (reading p)))) d ∙ ap (λ g. from (direction q) (listed g)) f ∙ codes.back q hq in
      cc

-- ---- A packet is a direction and a body.

-- a direction that a packet may have is one with which nothing is wrong, and the other way round
pub direction_ok : (way : Way) (dir : ℕ) → IsTrue (is_direction way dir) → IsDirection way dir
direction_ok ToTrain dir h = number_ok Q_DIR dir h
direction_ok ToTrack dir h = eqb-true dir 0 h

pub direction_admitted : (way : Way) (dir : ℕ) → IsDirection way dir → IsTrue (is_direction way dir)
direction_admitted ToTrain dir h = admitted Q_DIR dir h
direction_admitted ToTrack dir h = rw h refl

pub same_direction : (way : Way) (dir : ℕ) → IsTrue (is_direction way dir) → direction_as way dir ≡ dir
same_direction ToTrain dir h = refl
same_direction ToTrack dir h = sym (eqb-true dir 0 h)

was_fitting : {A : Type 0} (fault : Option BuildFault) (a b : A) → fitting fault a ≡ Some b → (fault ≡ None) × (a ≡ b)
was_fitting None a b h = let e : a ≡ b = cc in (refl, e)
was_fitting (Some e) a b h = absurd cc

module _ {B P : Type 0} {row : Layout → Layout} {IsBody : B → Type 0} {body_reading : B → Reading} {from : Left → Option (B × Left)} {too_long : P → Option BuildFault} {direction : P → ℕ} {IsValue : P → Type 0} {reading : P → Reading} {make : ℕ → B → P} (codes : Codes row IsBody body_reading from) (way : Way) (nid : ℕ) (is : row_to way nid ≡ Some (row whole)) (parts : Directed way IsBody body_reading too_long direction IsValue reading make) where
  -- what was read was a body of no fault
  was_read : (dir : ℕ) (s : Left) (p : P) → packet_to way (directed_from from too_long make) dir s ≡ Some p → (b : B) × (t : Left) × (from s ≡ Some (b, t)) × (is_spent t ≡ true) × IsTrue (is_direction way dir) × (too_long (make dir b) ≡ None) × (make dir b ≡ p)
  unfolding directed_from
  was_read dir s p h =
      let w = was_whole way (directed_from from too_long make) dir s p h in
      let a = taken (from s) (λ b. fitting (too_long (make dir b.0)) (make dir b.0, b.1)) (p, w.left) w.taken in
      let f = was_fitting (too_long (make dir a.0.0)) (make dir a.0.0, a.0.1) (p, w.left) a.2 in
      (a.0.0, w.left, a.1 ∙ ap (λ (q : P × Left). Some (a.0.0, q.1)) f.1, w.spent, w.dir_ok, f.0, ap (λ (q : P × Left). q.0) f.1)

  is_read : (dir : ℕ) (s t : Left) (b : B) → IsTrue (is_direction way dir) → length (spelled (body_reading b)) ≤ ROW_LIMIT → from s ≡ Some (b, t) → is_spent t ≡ true → packet_to way (directed_from from too_long make) dir s ≡ Some (make dir b)
  unfolding directed_from
  is_read dir s t b ok short h spent =
      let fits : too_long (make dir b) ≡ None = parts.fits dir b (rw (parts.same dir b) at short) in
      is_whole way (directed_from from too_long make) dir s t (make dir b) ok (rw (h, fits) refl) spent

  value_of : (dir : ℕ) (b : B) (p : P) → make dir b ≡ p → too_long (make dir b) ≡ None → IsBody b → IsTrue (is_direction way dir) → IsValue p × (direction p ≡ dir) × (body_reading b ≡ reading p)
  value_of dir b p e fits h ok = (
    subst IsValue e (parts.so dir b h (direction_ok way dir ok) fits),
    ap direction (sym e) ∙ parts.dir_is dir b ∙ same_direction way dir ok,
    parts.same dir b ∙ ap reading e,
  )

  same_body : (p : P) → body_reading (parts.body p) ≡ reading p
  same_body p = parts.same (direction p) (parts.body p) ∙ ap reading (parts.again p)

  pub packet_codes : PacketCodes way nid direction IsValue reading (packet_to way (directed_from from too_long make))
  packet_codes = record {
    sound = λ dir s p h.
        let (b, t, read, spent, ok, fits, e) = was_read dir s p h in
        let l = body_of codes s t b read spent in
        let v = value_of dir b p e fits l.0 ok in
        (v.0, v.1, subst (Says s) v.2 l.1);
    complete = λ dir s none (r, h, all).
        let o = framed_read codes way nid is dir s r h all in
        let bad : ◌≡◌ {A = Option P} (Some (make dir o.0)) None = sym (is_read dir s (end_of s) o.0 h.2 o.1 o.2 (end_spent s)) ∙ none in
        absurd cc;
    framed = λ p h.
        let k = parts.is p h in
        let short : length (spelled (body_reading (parts.body p))) ≤ ROW_LIMIT = rw (same_body p) k.2 in
        rw (← same_body p) (body_framed codes way nid is (parts.body p) (direction p) k.0 (direction_admitted way (direction p) k.1) short);
    back = λ p h.
        let k = parts.is p h in
        let short : length (spelled (body_reading (parts.body p))) ≤ ROW_LIMIT = rw (same_body p) k.2 in
        let read = is_read (direction p) (listed (numbers (body_reading (parts.body p)))) (listed []) (parts.body p) (direction_admitted way (direction p) k.1) short (read_all codes (listed (numbers (body_reading (parts.body p)))) (parts.body p) k.0 refl) refl in
        (rw (← same_body p) read) ∙ ap Some (parts.again p);
  }

-- ---- A packet to the train that is never too long, made of a direction and a body.

pub never_long : {B P : Type 0} {IsBody : B → Type 0} {body_reading : B → Reading} {direction : P → ℕ} {reading : P → Reading} {make : ℕ → B → P} (body : P → B)
    → ((p : P) → make (direction p) (body p) ≡ p) → ((dir : ℕ) (b : B) → direction (make dir b) ≡ dir) → ((dir : ℕ) (b : B) → body (make dir b) ≡ b)
    → ((dir : ℕ) (b : B) → body_reading b ≡ reading (make dir b))
    → ((p : P) → (number_fault Q_DIR (direction p) ≡ None) × IsBody (body p) → length (spelled (reading p)) ≤ ROW_LIMIT)
    → Directed ToTrain IsBody body_reading never direction (λ p. (number_fault Q_DIR (direction p) ≡ None) × IsBody (body p)) reading make
never_long body again dir_is body_is same short = record {
  body = body;
  again = again;
  dir_is = dir_is;
  same = same;
  is = λ p h. (h.1, h.0, short p h);
  so = λ dir b h ok fits. (rw (dir_is dir b) ok, rw (body_is dir b) h);
  fits = λ dir b short. refl;
}
