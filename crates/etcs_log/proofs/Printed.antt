-- What a writer of JSON has appended.
use Rattle.std.proofs.Common.{◌≡◌, ℕ, List, [], ◌∷◌, ◌++◌, Result, Ok, Err, OnOk, ap, ◌∙◌}
use Rattle.std.proofs.lemmas.List.{append-nil}
use Rattle.json.specs.Token.{string}
use Rattle.json.specs.Print.{print, print_from, quoted}
use Rattle.json.specs.Written.{Written, Writes}

print_string : (text : List ℕ) → print (string text ∷ []) ≡ quoted text
unfolding print_from
print_string text = append-nil (quoted text)

module _ {E : Type 0} (old new : Written) (text items before : List ℕ) (none : old.tokens ≡ []) (is : old.before ≡ before) (all : items ≡ new.before ++ print new.tokens) where
  pub string_appended : (r : Result (Unit {0}) E) → Writes r old new (string text) → OnOk r (items ≡ before ++ quoted text)
  string_appended (Ok x) w =
      all
      ∙ ap (λ z. new.before ++ print z) (w.ok ∙ ap (λ z. z ++ string text ∷ []) none)
      ∙ ap (λ (z : List ℕ). new.before ++ z) (print_string text)
      ∙ ap (λ (z : List ℕ). z ++ quoted text) (w.room.0 ∙ is)
  string_appended (Err e) w = tt
