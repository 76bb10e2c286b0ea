-- A clause about bits, from one with other parts.
use Rattle.std.proofs.Common.{◌≡◌, ℕ, ◌*◌, Bool, List, refl, sym, ap, ◌∙◌, inl, inr}
use Rattle.etcs_vars.specs.declared.var.Var.{Var}
use Rattle.etcs_vars.specs.Reading.{Reading, IsOutcome, done, refused, more}
use Rattle.etcs_text.specs.declared.entry.Kind.{Kind}
use Rattle.etcs_text.specs.Entries.{EntryReads}
use Rattle.etcs_c.specs.declared.answer.EtcsAnswer.{EtcsAnswer}
use Rattle.etcs_c.specs.Answers.{OfBits, SaysBits, SaysNone}
use Rattle.etcs_c.specs.Explained.{SaysRefusal, SaysUnrefused}

module _ {V : Type 0} (Reads : V → Reading → Type 0) (b : List Bool) (s : ℕ) (a : EtcsAnswer) where
  said_as : (W U : V → Type 0) (R Q : ℕ → Var → Type 0) (N M : Type 0) → ((v : V) → W v → U v) → ((i : ℕ) (x : Var) → R i x → Q i x) → (N → M) → OfBits Reads b W R N s a → OfBits Reads b U Q M s a
  said_as W U R Q N M f g h (inl (done e n, o, (taken, is))) = inl (done e n, o, (taken, f e is))
  said_as W U R Q N M f g h (inl (refused i x, o, (bit, var, is))) = inl (refused i x, o, (bit, var, g i x is))
  said_as W U R Q N M f g h (inl (more, o, (status, is))) = inl (more, o, (status, h is))
  said_as W U R Q N M f g h (inr (status, is)) = inr (status, h is)

  -- nothing is written of what begins with no item
  pub unwritten : {A : Type 0} (Whole : V → Type 0) (out : List A) → SaysNone Reads b s a → OfBits Reads b Whole (λ i x. (s ≡ 2) × (out ≡ out)) (out ≡ out) s a
  unwritten Whole out = said_as (λ e. ⊥) Whole (λ i x. s ≡ 2) (λ i x. (s ≡ 2) × (out ≡ out)) (Unit {0}) (out ≡ out) (λ e none. absurd none) (λ i x is. (is, refl)) (λ _. refl)

  -- nor where no bit is refused
  pub unrefused_said : {A : Type 0} (Refused : ℕ → Var → Type 0) (out : A) → SaysUnrefused Reads b s a → SaysRefusal Reads b Refused out out s a
  unrefused_said Refused out = said_as (λ e. (s ≡ 0) × (a.written ≡ 0)) (λ e. (s ≡ 0) × (a.written ≡ 0) × (out ≡ out)) (λ i x. ⊥) Refused (a.written ≡ 0) ((a.written ≡ 0) × (out ≡ out)) (λ e is. (is.0, is.1, refl)) (λ i x none. absurd none) (λ none. (none, refl))

-- of bits of which none is refused
pub none_refused_said : (kind : Kind) (b : List Bool) → ((i : ℕ) (x : Var) → IsOutcome (EntryReads kind) b (refused i x) → ⊥) → (s : ℕ) (a a' : EtcsAnswer) → SaysBits (EntryReads kind) b s a → a'.taken ≡ a.taken → a'.written ≡ 0 → SaysUnrefused (EntryReads kind) b s a'
none_refused_said kind b not s a a' (inl (done v k, o, (taken, zero))) same none = inl (done v k, o, (taken ∙ ap (λ (m : ℕ). 8 * m) (sym same), (zero, none)))
none_refused_said kind b not s a a' (inl (refused i x, o, h)) same none = absurd (not i x o)
none_refused_said kind b not s a a' (inl (more, o, (status, h))) same none = inl (more, o, (status, none))
none_refused_said kind b not s a a' (inr (status, h)) same none = inr (status, none)
