-- What is found in bits, by the values of items and by their readings alone.
use Rattle.std.proofs.Common.{ℕ, ◌+◌, ◌≤◌, Bool, List, take, refl, sym, subst, ◌∙◌, arith, inl, inr}
use Rattle.std.proofs.lemmas.List.{length-take, take-take}
use Rattle.etcs_vars.specs.declared.var.Var.{Var}
use Rattle.etcs_vars.specs.Reading.{Reading, readings_of, NoneYet, Outcome, IsOutcome, done, refused, more}
use Rattle.etcs_vars.proofs.Languages.{Same, same_back}
use Rattle.etcs_rows.proofs.SameReadings.{owner_along, viable_along}
use Rattle.etcs_text.specs.declared.entry.Kind.{Kind}
use Rattle.etcs_text.specs.Entries.{EntryReads}
use Rattle.etcs_text.specs.Pairs.{ItemLanguage, PairsRead}
use Rattle.etcs_text.proofs.AccountOutcomes.{same_items}
use Rattle.etcs_text.proofs.Fronts.{outcome_front}
use Rattle.etcs_c.specs.declared.answer.EtcsAnswer.{EtcsAnswer}
use Rattle.etcs_c.specs.Answers.{OfBits}

-- ---- Values of which some have the same readings as some others.

module _ {V W : Type 0} (P : V → Reading → Type 0) (Q : W → Reading → Type 0) (same : Same (readings_of P) (readings_of Q)) (b : List Bool) where
  none_along : NoneYet (readings_of P) b → NoneYet (readings_of Q) b
  none_along none k le (r, l, e) = none k le (r, (same r).1 l, e)

  pub more_along : IsOutcome P b more → IsOutcome Q b more
  more_along (none, viable) = (none_along none, viable_along (readings_of P) (readings_of Q) same b viable)

  pub refused_along : (i : ℕ) (x : Var) → IsOutcome P b (refused i x) → IsOutcome Q b (refused i x)
  refused_along i x ((none, lt, blocked), owner) = (
    (none_along none, lt, λ v. blocked (viable_along (readings_of Q) (readings_of P) (same_back (readings_of P) (readings_of Q) same) (take (i + 1) b) v)),
    owner_along (readings_of P) (readings_of Q) same (take i b) x owner,
  )

  -- what is said of both, if nothing is said of the value
  pub bits_along : (A : Type 0) (R : ℕ → Var → Type 0) (N : Type 0) (s : ℕ) (a : EtcsAnswer) → OfBits P b (λ v. A) R N s a → OfBits Q b (λ w. A) R N s a
  bits_along A R N s a (inl (done v k, (le, r, reads, spells), says)) = let (w, l) = (same r).0 (v, reads) in inl (done w k, (le, r, l, spells), says)
  bits_along A R N s a (inl (refused i x, o, says)) = inl (refused i x, refused_along i x o, says)
  bits_along A R N s a (inl (more, o, says)) = inl (more, more_along o, says)
  bits_along A R N s a (inr says) = inr says

-- ---- The items of a kind.

pub pairs_same : (kind : Kind) → Same (readings_of (EntryReads kind)) (readings_of (PairsRead kind))
pairs_same kind r = (λ l. (r, (refl, (same_items kind r).1 l)), λ (p, (is, l)). (same_items kind r).0 (subst (ItemLanguage kind) (sym is) l))

values_same : (kind : Kind) → Same (readings_of (PairsRead kind)) (readings_of (EntryReads kind))
values_same kind = same_back (readings_of (EntryReads kind)) (readings_of (PairsRead kind)) (pairs_same kind)

-- what is found in as many bits as an item may have is found in all of them
pub pairs_front : (kind : Kind) (b : List Bool) (o : Outcome Reading) → IsOutcome (PairsRead kind) (take 8184 b) o → IsOutcome (PairsRead kind) b o
pairs_front kind b (done p k) (le, r, reads, spells) =
    let short : k ≤ 8184 = omega (arith, le, length-take 8184 b) in
    (omega (arith, le, length-take 8184 b), r, reads, spells ∙ take-take k 8184 b short)
pairs_front kind b (refused i x) o = refused_along (EntryReads kind) (PairsRead kind) (pairs_same kind) b i x (outcome_front kind b (refused i x) (refused_along (PairsRead kind) (EntryReads kind) (values_same kind) (take 8184 b) i x o))
pairs_front kind b more o = more_along (EntryReads kind) (PairsRead kind) (pairs_same kind) b (outcome_front kind b more (more_along (PairsRead kind) (EntryReads kind) (values_same kind) (take 8184 b) o))
