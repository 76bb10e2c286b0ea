-- Lemmas about specs/ChainLaws.antt.
use Rattle.std.proofs.Common.{◌≡◌, [], ◌∷◌, ◌++◌, refl, sym, ap, subst, ◌∙◌, append_assoc}
use Rattle.std.specs.Prelude.{◌↔◌}
use Rattle.etcs_vars.specs.Reading.{Reading}
use Rattle.etcs_vars.specs.Walking.{Residual}
use Rattle.etcs_vars.proofs.Apart.{Agree}
use Rattle.etcs_vars.proofs.Walk.{Regular}
use Rattle.etcs_reader.specs.Rests.{Goes}
use Rattle.etcs_sequence.specs.ChainLaws.{Chain}

-- before others, a reading that agrees with one that begins with p begins with p if both do
begins_alike : (p a b c q : Reading) → Agree a (p ++ c) → a ++ b ≡ p ++ q → (a' : Reading) × (a ≡ p ++ a') × (a' ++ b ≡ q)
begins_alike [] a b c q h e = (a, refl, e)
begins_alike (x ∷ p) [] b c q h e = elim h [ ]
begins_alike (x ∷ p) (y ∷ a) b c q h e =
    let head : y ≡ x = cc in
    let tails : a ++ b ≡ p ++ q = cc in
    let r = begins_alike p a b c q (h.1 head) tails in
    (r.0, (let t = r.1 in let u : ◌≡◌ {A = Reading} (y ∷ a) (x ∷ (p ++ r.0)) = cc in u), r.2)

-- after variables of the first
pub chain_along : (P R : Reading → Type 0) (Q S : Reading → Reading → Type 0) (p : Reading) → Regular P → Residual P p R → Goes R → ((a b : Reading) → Q (p ++ a) b ↔ S a b) → Residual (Chain P Q) p (Chain R S)
chain_along P R Q S p regular h (c, some) same = record {
  to = λ q (a, b, e, i, k).
      let s = begins_alike p a b c q (regular.agree a (p ++ c) i (h.from c some)) (sym e) in
      (s.0, b, sym s.2, h.to s.0 (subst P s.1 i), (same s.0 b).0 (subst (λ (t : Reading). Q t b) s.1 k));
  from = λ q (a, b, e, i, k). (p ++ a, b, ap (λ (t : Reading). p ++ t) e ∙ sym (append_assoc p a b), h.from a i, (same a b).1 k);
}

-- after all of it
pub chain_none : (Q : Reading → Reading → Type 0) (r : Reading) → Chain (λ a. a ≡ []) Q r ↔ Q [] r
chain_none Q r = (
  λ (a, b, e, h, k). (let f : b ≡ r = (let g : r ≡ [] ++ b = e ∙ ap (λ (t : Reading). t ++ b) h in sym g) in subst (Q []) f (subst (λ (t : Reading). Q t b) h k)),
  λ k. ([], r, refl, refl, k),
)
