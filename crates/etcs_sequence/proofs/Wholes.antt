-- Kept bits, kept one by one.
use Rattle.std.proofs.Common.{◌≡◌, ℕ, suc, ◌-◌, ◌≤◌, Bool, false, List, [], ◌∷◌, ◌++◌, length, take, drop, refl, sym, ap, subst, ◌∙◌, arith, append_assoc, true}
use Rattle.std.specs.Prelude.{if◌then◌else◌}
use Rattle.std.proofs.lemmas.List.{length-append, take-append-drop, length-take, length-drop}
use Rattle.etcs_vars.specs.declared.var.Var.TheVariants.{OTHER_DATA}
use Rattle.etcs_vars.specs.Walking.{Residual}
use Rattle.etcs_vars.specs.Reading.{Reading, Then, spelled, kept}
use Rattle.etcs_vars.proofs.Languages.{Same}
use Rattle.etcs_vars.proofs.Apart.{cut}
use Rattle.etcs_sequence.specs.Contents.{KeptIn}
use Rattle.etcs_bits.specs.Bits.{num}

pub kept_append : (a b : List Bool) → kept OTHER_DATA (a ++ b) ≡ kept OTHER_DATA a ++ kept OTHER_DATA b
kept_append [] b = refl
kept_append (x ∷ a) b = ap (λ (t : Reading). (OTHER_DATA, if x then 1 else 0) ∷ t) (kept_append a b)

kept_length : (a : List Bool) → length (kept OTHER_DATA a) ≡ length a
kept_length [] = refl
kept_length (x ∷ a) = ap suc (kept_length a)

no_more : (Q : Reading → Type 0) (q a b : Reading) (bs : List Bool) → q ≡ a ++ b → length bs ≡ 0 → a ≡ kept OTHER_DATA bs → Q b → Q q
no_more Q q a b [] e l ea h = subst Q (sym (e ∙ ap (λ (x : Reading). x ++ b) ea)) h
no_more Q q a b (x ∷ bs) e l ea h = absurd (omega (arith, l))

-- this many of the bits are there
kept_to : (left : ℕ) (t : List Bool) (Q : Reading → Type 0) (q : Reading) → length t ≤ left → Then (KeptIn left) Q (kept OTHER_DATA t ++ q) → Then (KeptIn (left - length t)) Q q
kept_to left t Q q le (a, b, e, (bs, l, ea), l') =
    let n = length t in
    let front = take n bs in
    let rest = drop n bs in
    let whole : bs ≡ front ++ rest = sym (take-append-drop n bs) in
    let parts : kept OTHER_DATA t ++ q ≡ kept OTHER_DATA front ++ (kept OTHER_DATA rest ++ b) =
    e ∙ ap (λ (x : Reading). x ++ b) (ea ∙ ap (kept OTHER_DATA) whole ∙ kept_append front rest) ∙ append_assoc (kept OTHER_DATA front) (kept OTHER_DATA rest) b in
    let len : length (kept OTHER_DATA t) ≡ length (kept OTHER_DATA front) = kept_length t ∙ (omega (arith, length-take n bs, l, le)) ∙ sym (kept_length front) in
    let both = cut (kept OTHER_DATA t) (kept OTHER_DATA front) q (kept OTHER_DATA rest ++ b) len parts in
    (kept OTHER_DATA rest, b, both.1, (rest, (let d = length-drop n bs in omega (arith, d, l)), refl), l')

pub kept_after : (left : ℕ) (t : List Bool) (Q : Reading → Type 0) → length t ≤ left → Residual (Then (KeptIn left) Q) (kept OTHER_DATA t) (Then (KeptIn (left - length t)) Q)
kept_after left t Q le = record {
  to = λ q h. kept_to left t Q q le h;
  from = λ q (a, b, e, (bs, l, ea), l'). (kept OTHER_DATA (t ++ bs), b, ap (λ (x : Reading). kept OTHER_DATA t ++ x) (e ∙ ap (λ (y : Reading). y ++ b) ea) ∙ sym (append_assoc (kept OTHER_DATA t) (kept OTHER_DATA bs) b) ∙ ap (λ (y : Reading). y ++ b) (sym (kept_append t bs)), (t ++ bs, omega (arith, length-append t bs, l, le), refl), l');
}

-- none are left
pub kept_ends : (Q : Reading → Type 0) → Same (Then (KeptIn 0) Q) Q
kept_ends Q q = (λ (a, b, e, (bs, l, ea), l'). no_more Q q a b bs e l ea l', λ l. ([], q, refl, ([], refl, refl), l))

-- kept bits are spelled as they are
pub spelled_kept : (t : List Bool) → spelled (kept OTHER_DATA t) ≡ t
unfolding num
spelled_kept [] = refl
spelled_kept (true ∷ t) = ap (λ (b : List Bool). true ∷ b) (spelled_kept t)
spelled_kept (false ∷ t) = ap (λ (b : List Bool). false ∷ b) (spelled_kept t)
