-- Lemmas about specs/ChainLaws.antt.
use Rattle.std.proofs.Common.{◌≡◌, ℕ, List, ◌∷◌, ◌++◌, refl, sym, ap, subst, ◌∙◌, append_assoc}
use Rattle.std.specs.Prelude.{Bool, ◌↔◌}
use Rattle.etcs_vars.specs.declared.var.Var.{Var}
use Rattle.etcs_vars.specs.Reading.{Sent, Reading, spelled, Viable}
use Rattle.etcs_vars.proofs.Apart.{Agree-append, AllFit-append}
use Rattle.etcs_vars.proofs.Walk.{Regular}
use Rattle.etcs_vars.specs.laws.Spellings.{spelled-append}
use Rattle.etcs_reader.specs.Rests.{Starts, Goes, BeginsWith}
use Rattle.etcs_sequence.specs.ChainLaws.{Chain}

module _ (P : Reading → Type 0) (Q : Reading → Reading → Type 0) where
  pub chain_regular : Regular P → ((a : Reading) → P a → Regular (Q a)) → Regular (Chain P Q)
  chain_regular p q = record {
    agree = λ u v (a, b, e, h, k) (c, d, f, i, j). rw (e, f) (Agree-append a c b d (p.agree a c h i) (λ same. (q a h).agree b d k (subst (λ (x : Reading). Q x d) (sym same) j)));
    fit = λ u (a, b, e, h, k). rw e (AllFit-append a b (p.fit a h) ((q a h).fit b k));
  }

  pub chain_begins : (x : Var) → BeginsWith P x → BeginsWith (Chain P Q) x
  chain_begins x p r (a, b, e, h, k) = let s = p a h in (s.0, s.1 ++ b, e ∙ ap (λ (t : Reading). t ++ b) s.2)

  pub chain_first : Goes (Chain P Q) → Goes P
  chain_first (r, (a, b, e, h, k)) = (a, h)

  module _ (some : (a : Reading) → P a → Goes (Q a)) where
    pub chain_goes : Goes P → Goes (Chain P Q)
    chain_goes (a, h) = let q = some a h in (a ++ q.0, (a, q.0, refl, h, q.1))

    -- a number continues in both exactly if it does in the first
    pub chain_starts : (x : Var) (rest bits : ℕ) → BeginsWith P x → Starts P x rest bits ↔ Starts (Chain P Q) x rest bits
    chain_starts x rest bits begins = (
      λ (n, r, h, e). (let q = some ((x, n) ∷ r) h in (n, r ++ q.0, ((x, n) ∷ r, q.0, refl, h, q.1), e)),
      λ (n, r, (a, b, f, h, k), e).
          (let s = begins a h in
          let all : ◌≡◌ {A = Reading} ((x, n) ∷ r) ((x, s.0) ∷ (s.1 ++ b)) = f ∙ ap (λ (t : Reading). t ++ b) s.2 in
          let number : s.0 ≡ n = (let g : ◌≡◌ {A = Sent} (x, n) (x, s.0) = cc in sym (ap (λ (u : Sent). u.1) g)) in
          (n, s.1, subst (λ (m : ℕ). P ((x, m) ∷ s.1)) number (subst P s.2 h), e)),
    )

    pub chain_viable : (t : List Bool) → Viable P t → Viable (Chain P Q) t
    chain_viable t (r, c, h, e) =
        let q = some r h in
        (r ++ q.0, c ++ spelled q.0, (r, q.0, refl, h, q.1), spelled-append r q.0 ∙ ap (λ (u : List Bool). u ++ spelled q.0) e ∙ append_assoc t c (spelled q.0))
