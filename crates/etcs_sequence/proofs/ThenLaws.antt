-- Further lemmas beside specs/laws/ThenLaws.antt.
use Rattle.std.proofs.Common.{◌≡◌, ℕ, [], ◌∷◌, ◌++◌, refl, sym, ap, subst, ◌∙◌}
use Rattle.std.specs.Prelude.{◌↔◌}
use Rattle.etcs_vars.specs.declared.var.Var.{Var}
use Rattle.etcs_vars.specs.Walking.{Residual}
use Rattle.etcs_vars.specs.Reading.{Reading, Then}
use Rattle.etcs_reader.specs.Rests.{Starts, Goes, BeginsWith, Ended}
use Rattle.etcs_rows.specs.laws.RestLaws.{head_of}

-- ---- While a variable of the first comes next.

pub then_goes : (P Q : Reading → Type 0) → Goes (Then P Q) → Goes P × Goes Q
then_goes P Q (r, (u, v, f, hu, hv)) = ((u, hu), (v, hv))

-- a reading of both that begins with x
pub cut_first : (P Q : Reading → Type 0) (x : Var) → BeginsWith P x → (n : ℕ) (q : Reading) → Then P Q ((x, n) ∷ q) → (u : Reading) × (v : Reading) × (q ≡ u ++ v) × P ((x, n) ∷ u) × Q v
cut_first P Q x p n q (u, v, f, hu, hv) =
    let (m, u', g) = p u hu in
    let e : ◌≡◌ {A = Reading} ((x, n) ∷ q) ((x, m) ∷ (u' ++ v)) = f ∙ ap (λ (t : Reading). t ++ v) g in
    let h = head_of x n m q (u' ++ v) e in
    let l : P ((x, m) ∷ u') = subst P g hu in
    (u', v, sym h.1, subst (λ (k : ℕ). P ((x, k) ∷ u')) h.0 l, hv)

pub then_starts : (P Q : Reading → Type 0) (x : Var) → BeginsWith P x → Goes Q → (rest bits : ℕ) → Starts P x rest bits ↔ Starts (Then P Q) x rest bits
then_starts P Q x p goes rest bits = (
  λ (n, r, l, e). (n, r ++ goes.0, ((x, n) ∷ r, goes.0, refl, l, goes.1), e),
  λ (n, r, l, e). (let (u, v, f, hu, hv) = cut_first P Q x p n r l in (n, u, hu, e)),
)

pub then_after : (P Q P' : Reading → Type 0) (x : Var) → BeginsWith P x → (n : ℕ) → Residual P ((x, n) ∷ []) P' → Residual (Then P Q) ((x, n) ∷ []) (Then P' Q)
then_after P Q P' x p n d = record {
  to = λ q l. let (u, v, f, hu, hv) = cut_first P Q x p n q l in (u, v, f, d.to u hu, hv);
  from = λ q (u, v, f, hu, hv). ((x, n) ∷ u, v, ap (λ (t : Reading). (x, n) ∷ t) f, d.from u hu, hv);
}

-- ---- After the first.

pub then_second : (P Q : Reading → Type 0) → Ended P → Goes P → (r : Reading) → Then P Q r ↔ Q r
then_second P Q end goes r =
    let l : P [] = subst P (end goes.0 goes.1) goes.1 in (
      λ (u, v, f, hu, hv). (let same : r ≡ v = f ∙ ap (λ (t : Reading). t ++ v) (end u hu) in subst Q (sym same) hv),
      λ h. ([], r, refl, l, h),
    )
