-- The definitions on a few telegrams.
use Rattle.std.proofs.Common.{refl, sym, subst, ℕ, arith, lit≤, [], ◌∷◌, inl, inr, true}
use Rattle.etcs_telegram.specs.declared.size.Size.TheVariants.{Short}
use Rattle.etcs_telegram.specs.Telegrams.{TelegramContent}
use Rattle.etcs_group.specs.Groups.{Fit}
use Rattle.etcs_group.specs.Orders.{NoneRefused}

-- a telegram of a position, N_TOTAL, M_DUP and M_MCOUNT
abbrev telegram : ℕ → ℕ → ℕ → ℕ → TelegramContent
telegram n_pig n_total m_dup m_mcount = record { size = Short; header = record { m_version = 32; n_pig = n_pig; n_total = n_total; m_dup = m_dup; m_mcount = m_mcount; nid_c = 1; nid_bg = 1; q_link = true }; packets = []; fill = [] }

-- two duplicates go together, the second after the first
pub both : NoneRefused (telegram 1 1 2 255 ∷ telegram 0 1 1 255 ∷ [])
both = (
  (
    record { position = lit≤ tt; first = λ e d. absurd (omega (arith, e)); last = λ e d. absurd (omega (arith, d)) },
    λ u held. elim held [
      | inl none ↦ absurd none
      | inr new ↦ subst (λ (v : TelegramContent). Fit (telegram 1 1 2 255) v) (sym new.1) (record {
        alike = record { country = refl; group = refl; total = refl };
        counters = (λ e. omega (arith, e), λ e. omega (arith, e), inl refl);
        same = λ e. absurd (omega (arith, e));
      })
    ],
  ),
  (
    (
      record { position = lit≤ tt; first = λ e d. omega (arith, d); last = λ e d. omega (arith, e) },
      λ u held. absurd held,
    ),
    tt,
  ),
)

-- a telegram whose counter is 254 joins nothing that holds it
pub not_twice : NoneRefused (telegram 0 0 0 254 ∷ telegram 0 0 0 254 ∷ []) → ⊥
not_twice none = (none.0.1 (telegram 0 0 0 254) (inr (none.1.0, refl))).counters.0 refl

-- 255 agrees with 7 and with 9, which don't agree
pub not_all : NoneRefused (telegram 2 2 0 9 ∷ telegram 1 2 0 7 ∷ telegram 0 2 0 255 ∷ []) → ⊥
not_all none = elim (none.0.1 (telegram 1 2 0 7) (inr (none.1.0, refl))).counters.2 [
  | inl e ↦ omega (arith, e)
  | inr (inl e) ↦ omega (arith, e)
  | inr (inr e) ↦ omega (arith, e)
]
