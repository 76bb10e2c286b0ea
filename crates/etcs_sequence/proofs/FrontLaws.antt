-- What the reader asks of fields with another language after them.
use Rattle.std.proofs.Common.{◌≡◌, ℕ, suc, ◌-◌, ◌^◌, ◌<◌, List, [], ◌∷◌, length, drop, get_or, Some}
use Rattle.std.specs.Prelude.{IsTrue, ◌↔◌}
use Rattle.std.proofs.Math.Seq.{drop-cons}
use Rattle.etcs_vars.specs.declared.var.Var.{Var}
use Rattle.etcs_vars.specs.declared.var.Var.TheVariants.{PAD}
use Rattle.etcs_vars.specs.Vars.{width, ranges, begins}
use Rattle.etcs_vars.specs.Reading.{Reading, Then}
use Rattle.etcs_vars.specs.Walking.{Residual}
use Rattle.etcs_reader.specs.Rests.{Starts, Goes}
use Rattle.etcs_reader.specs.Fields.{ReadsFields, first_of}
use Rattle.etcs_reader.specs.laws.FieldLaws.{fields_regular, fields_begin}
use Rattle.etcs_reader.proofs.FieldLaws.{fields_tested, fields_after, some_fields}
use Rattle.etcs_sequence.specs.laws.ChainLaws.{chain_starts}
use Rattle.etcs_sequence.proofs.ChainLaws.{chain_along}

module _ (Q : Reading → Type 0) where
  -- what comes after numbers that continue also continues
  front_goes : (vs : List Var) (x : Var) (rest bits : ℕ) → Starts (Then (ReadsFields vs) Q) x rest bits → Goes Q
  front_goes vs x rest bits (n, r, (a, b, e, h, k), q) = (b, k)

  pub front_tested : (vs : List Var) (x : Var) (rest bits : ℕ) → first_of vs ≡ Some x → rest < width x → bits < 2 ^ (width x - rest) → Goes (Then (ReadsFields vs) Q) → IsTrue (begins (ranges x) rest bits) ↔ Starts (Then (ReadsFields vs) Q) x rest bits
  front_tested vs x rest bits e lt fits (r, (a, b, f, h, k)) =
      let one = fields_tested vs x rest bits e lt fits in
      let two = chain_starts (ReadsFields vs) (λ _. Q) (λ _ _. (b, k)) x rest bits (fields_begin vs x e) in
      (λ t. two.0 (one.0 t), λ s. one.1 (two.1 s))

  -- after the number of one of them come those after it
  pub front_after : (vs : List Var) (at : ℕ) (x : Var) (number : ℕ) → at < length vs → first_of (drop at vs) ≡ Some x → Starts (Then (ReadsFields (drop at vs)) Q) x 0 number → Residual (Then (ReadsFields (drop at vs)) Q) ((x, number) ∷ []) (Then (ReadsFields (drop (suc at) vs)) Q)
  front_after vs at x number h e s =
      let v = get_or vs at PAD in
      let us = drop (suc at) vs in
      let row : drop at vs ≡ v ∷ us = drop-cons vs at PAD h in
      let first : first_of (v ∷ us) ≡ Some x = rw row at e in
      let s' : Starts (Then (ReadsFields (v ∷ us)) Q) x 0 number = rw row at s in
      let g = front_goes (v ∷ us) x 0 number s' in
      let one = (chain_starts (ReadsFields (v ∷ us)) (λ _. Q) (λ _ _. g) x 0 number (fields_begin (v ∷ us) x first)).1 s' in
      let all : Residual (Then (ReadsFields (v ∷ us)) Q) ((x, number) ∷ []) (Then (ReadsFields us) Q) =
      chain_along (ReadsFields (v ∷ us)) (ReadsFields us) (λ _. Q) (λ _. Q) ((x, number) ∷ []) (fields_regular (v ∷ us)) (fields_after v us x number first one) (some_fields us) (λ a b. (λ k. k, λ k. k)) in
      rw row all
