-- What a reader of any language of values holds.
use Rattle.std.proofs.Common.{◌≡◌, ℕ, ◌^◌, ◌<◌, Bool, true, List, ◌∷◌, ◌++◌, length, Some, None, refl, sym, ap, subst, ◌∙◌, arith, append_assoc}
use Rattle.std.specs.Prelude.{Option, IfSome, is_some}
use Rattle.etcs_bits.specs.Bits.{num}
use Rattle.etcs_bits.proofs.Numbers.{length-num}
use Rattle.etcs_vars.specs.declared.var.Var.{Var}
use Rattle.etcs_vars.specs.Vars.{width}
use Rattle.etcs_vars.specs.Walking.{Residual}
use Rattle.etcs_vars.specs.Reading.{Reading, spelled, Owner, readings_of}
use Rattle.etcs_vars.proofs.Walk.{begins_with}
use Rattle.etcs_reader.specs.declared.feeder.Stop.{Stop}
use Rattle.etcs_reader.specs.declared.feeder.Stop.TheVariants.{Refused, Memory}
use Rattle.etcs_reader.specs.Feeders.{FeederValue}
use Rattle.etcs_reader.proofs.Passing.{passed_owner}
use Rattle.etcs_sequence.specs.declared.list.PacketList.{PacketList}
use Rattle.etcs_sequence.specs.Progress.{Progress, IsReading}
use Rattle.etcs_sequence.specs.Readables.{Readable}
use Rattle.etcs_sequence.specs.Holdings.{HeldIn, IsHeld}
use Rattle.etcs_sequence.proofs.Feeding.{seen, At, progress, Is, at_of, going_progress, whole_progress}

module _ {R V W P : Type 0} {left : R → Reading → Type 0} {next : R → Option Var} {follows : R → Reading → R → Type 0} {fails : R → Type 0} {far : R → Reading} {holds : R → Reading → Type 0} {Reads : W → Reading → Type 0} {value : V → W} {IsValue : V → Type 0} {size : V → ℕ} {made : R → V} {store : R → PacketList P} {Members : List P → List ℕ → List Bool → Reading → Type 0} {most least : ℕ} (w : Readable R V W P left next follows fails far holds Reads value IsValue size made store Members most least) where
  abbrev L : Reading → Type 0
  L = readings_of Reads

  module _ (v : FeederValue R) (at : At w v) (x : Var) (e : next v.rest ≡ Some x) (own : Owner (left v.rest) v.part x) where
    all_next : (r q : Reading) → r ≡ far v.rest ++ q → L r → (n : ℕ) × (q' : Reading) × (r ≡ far v.rest ++ (x, n) ∷ q')
    all_next r q is l =
        let (n, q', more) = w.begins_with v.rest x e q (at.residual.to q (subst L is l)) in
        (n, q', is ∙ ap (λ (t : Reading). far v.rest ++ t) more)

    -- every reading that begins with the bits begins with the variables so far, and the next one comes after them
    all_begin : (r : Reading) (c : List Bool) → L r → spelled r ≡ seen w v ++ c → (n : ℕ) × (q : Reading) × (r ≡ far v.rest ++ (x, n) ∷ q)
    all_begin r c l s =
        let other = at.residual.from at.goes.0 at.goes.1 in
        let b = begins_with r (far v.rest) at.goes.0 (v.part ++ c) (w.regular.agree r (far v.rest ++ at.goes.0) l other) (w.regular.fit r l) (w.regular.fit (far v.rest ++ at.goes.0) other) (s ∙ append_assoc (spelled (far v.rest)) v.part c) in
        all_next r b.0 b.1 l

    held_in : (Held : Reading → Type 0) → Held (far v.rest) → (part taken : ℕ) → v.part ≡ num taken part → part < 2 ^ taken → length v.part < width x → HeldIn L Held (seen w v) part taken
    held_in Held members part taken same fits short = record {
      far = far v.rest;
      next = x;
      bits = ap (λ (t : List Bool). spelled (far v.rest) ++ t) same;
      fits = fits;
      members = members;
      begins = all_begin;
      owned = passed_owner L w.regular (left v.rest) (λ p. Residual L p (left v.rest)) (λ p h. h) (seen w v) v.part (record { whole = far v.rest; follows = at.residual; bits = refl }) at.goes x own;
      short = omega (arith, short, ap length same, length-num taken part);
    }

  -- by a reader's value
  pub is_held : (v : FeederValue R) (s : Progress V) (found : Option Var) (part taken : ℕ) → Is w v → v.stop ≡ None → progress w v ≡ s
      → is_some found ≡ true → found ≡ next v.rest → IfSome found (Owner (left v.rest) v.part) → IfSome found (λ x. length v.part < width x) → v.part ≡ num taken part → part < 2 ^ taken
      → IsHeld L (Members (store v.rest).packets.items (store v.rest).numbers.items (store v.rest).bits) s part taken
  is_held v s None part taken is none e some f own short same fits = absurd cc
  is_held v s (Some x) part taken is none e some f own short same fits =
      let at = at_of w v none is in
      let k = store v.rest in
      let members = w.members v.rest v.part x (sym f) at.goes at.held short (rw at.counted at at.bytes) in
      let h = held_in v at x (sym f) own (Members k.packets.items k.numbers.items k.bits) members part taken same fits short in
      (seen w v, sym e ∙ going_progress w v none (ap is_some (sym f)), h)

  -- if nothing is held, nothing is being read
  pub none_stops : (v : FeederValue R) (stop : Option Stop) → v.stop ≡ stop → is_some stop ≡ true → IsReading (progress w v) → ⊥
  none_stops v None e h i = absurd cc
  none_stops v (Some (Refused j x)) e h i = rw e at i
  none_stops v (Some Memory) e h i = rw e at i

  pub none_comes : (v : FeederValue R) → v.stop ≡ None → next v.rest ≡ None → IsReading (progress w v) → ⊥
  none_comes v none e i = subst IsReading (whole_progress w v none (ap is_some e)) i
