-- A call that writes words or fields keeps its clause: where they were made they are written, else memory ran out.
use Rattle.std.proofs.Common.{◌≡◌, ℕ, ◌<◌, ◌⊎◌, Bool, List, Result, Ok, Err, inl, inr, length, ap, subst, ◌∙◌, arith}
use Rattle.std.specs.Prelude.{IfOk, MatchResult}
use Rattle.etcs_vars.specs.Vars.{width}
use Rattle.etcs_vars.specs.Reading.{Reading}
use Rattle.etcs_bits.specs.Bits.{num}
use Rattle.etcs_bits.proofs.Numbers.{length-num}
use Rattle.etcs_text.specs.declared.entry.Kind.{Kind}
use Rattle.etcs_text.specs.Pairs.{IsUpTo, ItemLanguage}
use Rattle.etcs_text.specs.declared.account.Part.{Part}
use Rattle.etcs_text.specs.declared.account.End.TheVariants as end
use Rattle.etcs_c.specs.declared.answer.EtcsAnswer.{EtcsAnswer}
use Rattle.etcs_c.specs.declared.fields.EtcsField.{EtcsField}
use Rattle.etcs_c.specs.Writes.{Starves, WritesAs}
use Rattle.etcs_c.specs.Explained.{AreBefore, Words}
use Rattle.etcs_c.specs.Fields.{fields_of}

pub words_said : {V E : Type 0} (old new : List ℕ) (s : ℕ) (a : EtcsAnswer) (items : V → List ℕ) (status : ℕ) (made : Result V E) → IfOk made (λ v. 0 < length (items v)) → MatchResult made (λ v. WritesAs status (items v) old new s a) (λ x. Starves old new s) → Words status old new s a
words_said old new s a items status (Ok v) some writes = inl (items v, some, writes)
words_said old new s a items status (Err x) some starves = inr starves

-- exactly these are written
pub exactly_said : {A V E : Type 0} (items : V → List A) (wanted : List A) (status : ℕ) (old new : List A) (s : ℕ) (a : EtcsAnswer) (made : Result V E) → IfOk made (λ v. items v ≡ wanted) → MatchResult made (λ v. WritesAs status (items v) old new s a) (λ x. Starves old new s) → WritesAs status wanted old new s a ⊎ Starves old new s
exactly_said {A} items wanted status old new s a (Ok v) is writes = inl (subst (λ (t : List A). WritesAs status t old new s a) is writes)
exactly_said items wanted status old new s a (Err x) is starves = inr starves

-- what is written has this property
pub some_said : {A V E : Type 0} (items : V → List A) (Q : List A → Type 0) (status : ℕ) (old new : List A) (s : ℕ) (a : EtcsAnswer) (made : Result V E) → IfOk made (λ v. Q (items v)) → MatchResult made (λ v. WritesAs status (items v) old new s a) (λ x. Starves old new s) → ((q : List A) × Q q × WritesAs status q old new s a) ⊎ Starves old new s
some_said items Q status old new s a (Ok v) is writes = inl (items v, is, writes)
some_said items Q status old new s a (Err x) is starves = inr starves

pub before_said : {V E : Type 0} (items : V → List EtcsField) (kind : Kind) (b : List Bool) (i : ℕ) (part : Part) (p sent : Reading) → IsUpTo (ItemLanguage kind) p (end.Refused i part) b → sent ≡ p → (old new : List EtcsField) (s : ℕ) (a : EtcsAnswer) (made : Result V E) → IfOk made (λ v. items v ≡ fields_of sent) → MatchResult made (λ v. WritesAs 2 (items v) old new s a) (λ x. Starves old new s) → ((fs : List EtcsField) × AreBefore kind b i part.var fs × WritesAs 2 fs old new s a) ⊎ Starves old new s
before_said items kind b i part p sent (shows, short) same old new s a (Ok v) is writes =
    let less : length (num part.count part.bits) < width part.var = omega (arith, length-num part.count part.bits, short) in
    inl (items v, (p, num part.count part.bits, shows, less, is ∙ ap fields_of same), writes)
before_said items kind b i part p sent up same old new s a (Err y) is starves = inr starves
