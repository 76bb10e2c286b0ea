-- What is refused of the first bytes of a piece is refused of all of them.
use Rattle.std.proofs.Common.{◌≡◌, ℕ, ◌+◌, Bool, List, [], ◌++◌, length, take, drop, sym, ap, subst, ◌∙◌, arith}
use Rattle.std.proofs.lemmas.List.{take-append-drop}
use Rattle.etcs_bits.specs.Bits.{bits}
use Rattle.etcs_bits.proofs.ByteBits.{bits-append}
use Rattle.etcs_vars.specs.declared.var.Var.{Var}
use Rattle.etcs_vars.specs.Walking.{Residual, Refuses}
use Rattle.etcs_vars.specs.Reading.{Reading, IsOutcome, refused}
use Rattle.etcs_vars.proofs.Languages.{Same}
use Rattle.etcs_vars.proofs.Outcomes.{none_refused, refuses_longer}
use Rattle.etcs_tables.specs.declared.row.Way.{Way}
use Rattle.etcs_reader.specs.Readers.{Passed}
use Rattle.etcs_reader.proofs.Passing.{passed_refuses}
use Rattle.etcs_messages.specs.Messages.{MessageReads, MessageLanguage}
use Rattle.etcs_messages.proofs.Bytes.{some_message}
use Rattle.etcs_messages.proofs.Spelling.{regular}

module _ (way : Way) (L : Reading → Type 0) (same : Same L (MessageLanguage way)) where
  abbrev AllLeft : Reading → Type 0
  AllLeft p = Residual (MessageLanguage way) p L

  -- no variable was passed
  none_passed : (front : List Bool) → front ≡ [] → Passed AllLeft [] front
  none_passed front none = record { whole = []; follows = record { to = λ q m. (same q).1 m; from = λ q m. (same q).0 m }; bits = none }

  pub refused_in : (piece : List ℕ) (bytes i n count : ℕ) (x : Var) (front : List Bool) → front ≡ [] → count ≡ 0 → i ≡ count + n → Refuses L (front ++ bits (take bytes piece)) (length front + n) x → IsOutcome (MessageReads way) (bits piece) (refused i x)
  refused_in piece bytes i n count x front none start place r =
      let M = MessageLanguage way in
      let (some, l) = some_message way in
      let first = bits (take bytes piece) in
      let beyond = bits (drop bytes piece) in
      let whole : first ++ beyond ≡ bits piece = sym (bits-append (take bytes piece) (drop bytes piece)) ∙ ap bits (take-append-drop bytes piece) in
      let all = passed_refuses M (regular way) L AllLeft (λ p h. h) [] front (none_passed front none) (some, (same some).1 l) first n x r in
      let is : length {A = Bool} [] + n ≡ i = omega (arith, start, place) in
      let longer : Refuses M (first ++ beyond) i x = subst (λ (k : ℕ). Refuses M (first ++ beyond) k x) is (refuses_longer M first beyond (length {A = Bool} [] + n) x all) in
      let m : Refuses M (bits piece) i x = subst (λ (b : List Bool). Refuses M b i x) whole longer in
      ((none_refused M (regular way) (bits piece) i x m, m.within, m.blocked), m.owned)
