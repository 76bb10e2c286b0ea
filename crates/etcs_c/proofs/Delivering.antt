-- A call that writes an encoding keeps its clause: where it was made it is written, else memory ran out.
use Rattle.std.proofs.Common.{ℕ, List, Result, Ok, Err, inl, inr}
use Rattle.std.specs.Prelude.{◌⊎◌, IfOk, MatchResult}
use Rattle.etcs_text.specs.declared.entry.Kind.{Kind}
use Rattle.etcs_text.specs.Encodings.{IsEncoded}
use Rattle.etcs_text.specs.Entries.{EntryValue}
use Rattle.etcs_json.specs.JsonLines.{SaysItem}
use Rattle.etcs_c.specs.declared.answer.EtcsAnswer.{EtcsAnswer}
use Rattle.etcs_c.specs.Writes.{Starves, Writes}
use Rattle.etcs_c.specs.Answers.{SaysLine}

-- what was made is written, of which this holds
pub text_said : {V E : Type 0} (P : List ℕ → Type 0) (items : V → List ℕ) (old new : List ℕ) (s : ℕ) (a : EtcsAnswer) (made : Result V E) → IfOk made (λ v. P (items v)) → MatchResult made (λ v. Writes (items v) old new s a) (λ x. Starves old new s) → ((text : List ℕ) × P text × Writes text old new s a) ⊎ Starves old new s
text_said P items old new s a (Ok v) is writes = inl (items v, is, writes)
text_said P items old new s a (Err x) is starves = inr starves

module _ {V E : Type 0} (items : V → List ℕ) (e : EntryValue) (old new : List ℕ) (s : ℕ) (a : EtcsAnswer) where
  pub line_said : (kind : Kind) (line : List ℕ) → SaysItem kind line e → (made : Result V E) → IfOk made (λ v. IsEncoded e (items v)) → MatchResult made (λ v. Writes (items v) old new s a) (λ x. Starves old new s) → SaysLine kind line old new s a
  line_said kind line says (Ok v) is writes = inl (e, items v, says, is, writes)
  line_said kind line says (Err x) is starves = inr (inr (inr starves))
