-- What is found in as many bits as an item may have is found in all of them.
use Rattle.std.proofs.Common.{◌≡◌, ℕ, ◌+◌, ◌≤◌, Bool, List, [], ◌∷◌, length, take, sym, ap, subst, ◌∙◌, arith, inl, inr}
use Rattle.std.proofs.lemmas.Bool.{cases_lt}
use Rattle.std.proofs.lemmas.List.{append-nil, length-append, length-take, length-take-le, take-take, take_all}
use Rattle.etcs_vars.specs.declared.var.Var.{Var}
use Rattle.etcs_vars.specs.Reading.{Reading, spelled, readings_of, Outcome, IsOutcome, InLanguage, NoneYet, Viable, Owner, done, refused, more}
use Rattle.etcs_vars.specs.Walking.{Refuses}
use Rattle.etcs_vars.proofs.Outcomes.{none_refused}
use Rattle.etcs_text.specs.declared.entry.Kind.{Kind}
use Rattle.etcs_text.specs.Entries.{EntryReads, EntryValue}
use Rattle.etcs_text.proofs.ItemKinds.{kind_regular}
use Rattle.etcs_text.proofs.ItemLengths.{item_length}

abbrev Items : Kind → Reading → Type 0
Items kind = readings_of (EntryReads kind)

-- an item is among them
none_front : (kind : Kind) (b : List Bool) → NoneYet (Items kind) (take 8184 b) → NoneYet (Items kind) b
none_front kind b none k le (r, l, e) =
    let most = (item_length kind l.0 r l.1).1 in
    let short : k ≤ 8184 = omega (arith, most, ap (λ (t : List Bool). length t) e, length-take-le k b le) in
    let inside : k ≤ length (take 8184 b) = omega (arith, le, short, length-take 8184 b) in
    none k inside (r, l, e ∙ sym (take-take k 8184 b short))

-- so no more than they begin an item and hold none
long_none : (kind : Kind) (b : List Bool) → 8184 ≤ length b → NoneYet (Items kind) (take 8184 b) → Viable (Items kind) (take 8184 b) → ⊥
long_none kind b ge none (r, [], l, e) =
    let front = take 8184 b in
    none (length front) (omega arith) (r, l, e ∙ append-nil front ∙ sym (take_all (length front) front (omega arith)))
long_none kind b ge none (r, x ∷ c, l, e) =
    let most = (item_length kind l.0 r l.1).1 in
    let long : length (spelled r) ≡ length (take 8184 b) + length (x ∷ c) = ap (λ (t : List Bool). length t) e ∙ length-append (take 8184 b) (x ∷ c) in
    absurd (omega (arith, most, long, length-take 8184 b, ge))

pub outcome_front : (kind : Kind) (b : List Bool) (o : Outcome EntryValue) → IsOutcome (EntryReads kind) (take 8184 b) o → IsOutcome (EntryReads kind) b o
outcome_front kind b (done e k) (le, r, reads, spells) =
    let short : k ≤ 8184 = omega (arith, le, length-take 8184 b) in
    (omega (arith, le, length-take 8184 b), r, reads, spells ∙ take-take k 8184 b short)
outcome_front kind b (refused i x) ((none, lt, blocked), owner) =
    let short : i + 1 ≤ 8184 = omega (arith, lt, length-take 8184 b) in
    let next : take (i + 1) (take 8184 b) ≡ take (i + 1) b = take-take (i + 1) 8184 b short in
    let front : take i (take 8184 b) ≡ take i b = take-take i 8184 b (omega (arith, short)) in
    ((none_front kind b none, omega (arith, lt, length-take 8184 b), λ v. blocked (rw next v)), subst (λ (t : List Bool). Owner (Items kind) t x) front owner)
outcome_front kind b more (none, viable) =
    elim (cases_lt (length b) 8184) [
      | inl lt ↦ subst (λ (t : List Bool). IsOutcome (EntryReads kind) t more) (take_all 8184 b (omega (arith, lt))) (none, viable)
      | inr ge ↦ absurd (long_none kind b ge none viable)
    ]

-- ---- A refused bit.

-- it is one of as many as an item may have
pub before_end : (kind : Kind) (b : List Bool) → (InLanguage (Items kind) b → ⊥) → Viable (Items kind) b → length b + 1 ≤ 8184
before_end kind b open_end (r, [], l, e) = absurd (open_end (r, l, e ∙ append-nil b))
before_end kind b open_end (r, x ∷ c, l, e) =
    let most = (item_length kind l.0 r l.1).1 in
    let long : length (spelled r) ≡ length b + length (x ∷ c) = ap (λ (t : List Bool). length t) e ∙ length-append b (x ∷ c) in
    omega (arith, most, long)

pub refuses_front : (kind : Kind) (b : List Bool) (i : ℕ) (x : Var) → IsOutcome (EntryReads kind) b (refused i x) → Refuses (Items kind) (take 8184 b) i x
refuses_front kind b i x ((none, lt, blocked), owner) =
    let short : i + 1 ≤ 8184 = omega (arith, before_end kind (take i b) owner.open_end owner.viable, length-take i b, lt) in
    let next : take (i + 1) (take 8184 b) ≡ take (i + 1) b = take-take (i + 1) 8184 b short in
    let front : take i (take 8184 b) ≡ take i b = take-take i 8184 b (omega (arith, short)) in
    record {
      within = omega (arith, lt, short, length-take 8184 b);
      owned = subst (λ (t : List Bool). Owner (Items kind) t x) (sym front) owner;
      blocked = λ v. blocked (rw next at v);
    }

pub outcome_refused : (kind : Kind) (b : List Bool) (i : ℕ) (x : Var) → Refuses (Items kind) (take 8184 b) i x → IsOutcome (EntryReads kind) b (refused i x)
outcome_refused kind b i x r = outcome_front kind b (refused i x) ((none_refused (Items kind) (kind_regular kind) (take 8184 b) i x r, r.within, r.blocked), r.owned)
