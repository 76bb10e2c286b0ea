-- Lemmas about specs/Passing.antt.
use Rattle.std.proofs.Common.{◌≡◌, ℕ, ◌+◌, Bool, List, [], ◌∷◌, ◌++◌, length, Option, Some, None, refl, sym, ap, ◌∙◌}
use Rattle.std.specs.Prelude.{flat_map}
use Rattle.std.proofs.lemmas.Grind.{flat_map-append}
use Rattle.std.proofs.lemmas.List.{append-nil, length-append}
use Rattle.std.proofs.lemmas.List.Elements.{All-append, All-cons, All-nil}
use Rattle.etcs_vars.specs.declared.var.Var.{Var}
use Rattle.etcs_vars.specs.Vars.{width}
use Rattle.etcs_vars.specs.Reading.{Reading}
use Rattle.etcs_bits.specs.Bits.{bit}
use Rattle.etcs_vars.specs.Faults.{number_fault}
use Rattle.etcs_tables.specs.declared.row.Way.{Way}
use Rattle.etcs_tables.specs.Layouts.{Layout, whole}
use Rattle.etcs_tables.specs.Rows.{row_to}
use Rattle.etcs_bodies.specs.Taking.{Left, ahead, next_number, next_flag}
use Rattle.etcs_bodies.specs.Codecs.{Codes, IsBoth, both_reading, IsEntries, list_reading}
use Rattle.etcs_bodies.specs.Repeats.{Stand}
use Rattle.etcs_bodies.specs.laws.Takes.{ahead_both, next_sound, flag_sound, counted_is}
use Rattle.etcs_bodies.specs.Formats.{Format, Is, reading, from, ◌⊗◌}
use Rattle.etcs_bodies.specs.laws.Formats.{IsFormat, codes_of}
use Rattle.etcs_bodies.specs.laws.Packets.{body_framed}
use Rattle.etcs_bodies.specs.Passing.{Went, Passed, PassedRow, Begun}

-- ---- What is taken.

-- a number before what was taken after it
pub number_before : (v : Var) (n : ℕ) (s t u : Left) (r : Reading) → next_number v s ≡ Some (n, t) → t ≡ ahead r u → s ≡ ahead ((v, n) ∷ r) u
number_before v n s t u r h e = (next_sound v n s t h).1 ∙ ap (ahead ((v, n) ∷ [])) e ∙ sym (ahead_both ((v, n) ∷ []) r u)

-- a flag before what was taken after it
pub flag_before : (v : Var) (b : Bool) (s t u : Left) (r : Reading) → width v ≡ 1 → next_flag v s ≡ Some (b, t) → t ≡ ahead r u → s ≡ ahead ((v, bit b) ∷ r) u
flag_before v b s t u r one h e = flag_sound v b s t one h ∙ ap (ahead ((v, bit b) ∷ [])) e ∙ sym (ahead_both ((v, bit b) ∷ []) r u)

-- a number alone
pub number_alone : (v : Var) (n : ℕ) (s t : Left) → next_number v s ≡ Some (n, t) → s ≡ ahead ((v, n) ∷ []) t
number_alone v n s t h = (next_sound v n s t h).1

module _ {S : Type 0} (with : S → Reading → S) (with_both : (o : S) (a b : Reading) → with o (a ++ b) ≡ with (with o a) b) where
  -- variables and then more variables
  pub went_both : (s t u : Left) (o p q : S) (a b : Reading) → Went with s t o p a → Went with t u p q b → Went with s u o q (a ++ b)
  went_both s t u o p q a b x y = record {
    taken = x.taken ∙ ap (ahead a) y.taken ∙ sym (ahead_both a b u);
    sent = y.sent ∙ ap (λ z. with z b) x.sent ∙ sym (with_both o a b);
  }

  -- a value that was taken, and sent on
  pub passed_value : {V : Type 0} {row : Layout → Layout} {IsV : V → Type 0} {reading : V → Reading} {from : Left → Option (V × Left)} → Codes row IsV reading from
      → (s t : Left) (o p : S) (v : V) → from s ≡ Some (v, t) → p ≡ with o (reading v) → Passed IsV reading with s t o p
  passed_value codes s t o p v h e = let x = codes.sound v s t h in (v, x.0, record { taken = x.1; sent = e })

  -- the value of a format
  pub passed_format : {V : Type 0} (f : Format V) → IsFormat f → (s t : Left) (o p : S) (v : V) → from f s ≡ Some (v, t) → p ≡ with o (reading f v) → Passed (Is f) (reading f) with s t o p
  passed_format f ok = passed_value (codes_of f ok)

  -- one format after another
  pub passed_pair : {V W : Type 0} (f : Format V) (g : Format W) (s t u : Left) (o p q : S) → Passed (Is f) (reading f) with s t o p → Passed (Is g) (reading g) with t u p q → Passed (Is (f ⊗ g)) (reading (f ⊗ g)) with s u o q
  passed_pair f g s t u o p q (v, hv, x) (w, hw, y) = ((v, w), (hv, hw), went_both s t u o p q (reading f v) (reading g w) x y)

  -- one value after another
  pub passed_both : {V W : Type 0} (IsV : V → Type 0) (IsW : W → Type 0) (reading : V → Reading) (reading' : W → Reading) (s t u : Left) (o p q : S)
      → Passed IsV reading with s t o p → Passed IsW reading' with t u p q → Passed (IsBoth IsV IsW) (both_reading reading reading') with s u o q
  passed_both IsV IsW reading reading' s t u o p q (v, hv, x) (w, hw, y) = ((v, w), (hv, hw), went_both s t u o p q (reading v) (reading' w) x y)

  -- a list after its count
  pub passed_list : {V : Type 0} (IsV : V → Type 0) (reading : V → Reading) (v : Var) (n : ℕ) (s t u : Left) (o p q : S) (ps : List V)
      → next_number v s ≡ Some (n, t) → p ≡ with o ((v, n) ∷ []) → Stand IsV reading n t ps u → q ≡ with p (flat_map reading ps)
      → Passed (IsEntries v IsV) (list_reading v reading) with s u o q
  passed_list IsV reading v n s t u o p q ps h sent stand e =
      let count = next_sound v n s t h in (
        ps,
        (counted_is v n (length ps) count.0 stand.1, stand.0),
        rw (stand.1) (went_both s t u o p q ((v, n) ∷ []) (flat_map reading ps) (record { taken = count.1; sent = sent }) (record { taken = stand.2; sent = e })),
      )

  -- one value more
  pub stand_more : {V : Type 0} (IsV : V → Type 0) (reading : V → Reading) (n : ℕ) (s t u : Left) (o p q : S) (vs : List V)
      → Stand IsV reading n s vs t → p ≡ with o (flat_map reading vs) → Passed IsV reading with t u p q
      → (ws : List V) × Stand IsV reading (n + 1) s ws u × (q ≡ with o (flat_map reading ws))
  stand_more IsV reading n s t u o p q vs h e (v, hv, x) =
      let all : flat_map reading (vs ++ v ∷ []) ≡ flat_map reading vs ++ reading v = flat_map-append reading vs (v ∷ []) ∙ ap (λ r. flat_map reading vs ++ r) (append-nil (reading v)) in
      let w = went_both s t u o p q (flat_map reading vs) (reading v) (record { taken = h.2; sent = e }) x in
      (vs ++ v ∷ [], (All-append IsV vs (v ∷ []) h.0 (All-cons IsV v [] hv (All-nil IsV)), length-append vs (v ∷ []) ∙ ap (λ k. k + 1) h.1, rw all w.taken), rw all w.sent)

  -- the row of a packet whose body went
  pub passed_row : {B : Type 0} {row : Layout → Layout} {IsBody : B → Type 0} {reading : B → Reading} {from : Left → Option (B × Left)} → Codes row IsBody reading from
      → (way : Way) (nid : ℕ) → row_to way nid ≡ Some (row whole) → (s t : Left) (o p : S) → Passed IsBody reading with s t o p → PassedRow way nid with s t o p
  passed_row {reading = reading} codes way nid is s t o p (b, h, x) = (reading b, λ dir ok short. body_framed codes way nid is b dir h ok short, x)
