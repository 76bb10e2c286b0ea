-- A row has one reading for a list of bits, and no spelling of it begins another.
use Rattle.std.proofs.Common.{◌≡◌, Bool, true, false, List, ◌∷◌, ◌++◌, refl, sym, ap}
use Rattle.std.specs.Prelude.{MatchBool}
use Rattle.etcs_vars.specs.Reading.{Sent, Reading, spelled, Times}
use Rattle.etcs_vars.proofs.Prefixes.{admits_parts}
use Rattle.etcs_vars.proofs.Apart.{Agree, AllFit, Then-agree, Times-agree, Then-fit, Times-fit, apart}
use Rattle.etcs_tables.specs.Layouts.{Layout, whole, one, guarded, counted, Scope, holds, count_before, Reads}

-- by the two cases of a guard
both : (b : Bool) {P Q P' Q' : Type 0} (A : Type 0) → (P → P' → A) → (Q → Q' → A) → MatchBool b P Q → MatchBool b P' Q' → A
both true A f g h k = f h k
both false A f g h k = g h k

either : (b : Bool) {P Q : Type 0} (A : Type 0) → (P → A) → (Q → A) → MatchBool b P Q → A
either true A f g h = f h
either false A f g h = g h

pub Reads-agree : (row : Layout) (s : Scope) (a b : Reading) → Reads row s a → Reads row s b → Agree a b
unfolding Reads
Reads-agree whole s a b ha hb = rw (ha, hb) tt
Reads-agree (one v rest) s a b (n, a', na, ea, ra) (m, b', nb, eb, rb) =
    rw (ea, eb) (refl, λ (e : ◌≡◌ {A = Sent} (v, n) (v, m)). let same : m ≡ n = ap (λ (p : Sent). p.1) (sym e) in let rb' : Reads rest ((v, n) ∷ s) b' = rw same at rb in Reads-agree rest ((v, n) ∷ s) a' b' ra rb')
Reads-agree (guarded g group rest) s a b ha hb =
    both (holds g s) (Agree a b)
    (Then-agree (Reads group s) (Reads rest s) (Reads group s) (Reads rest s) (Reads-agree group s) (Reads-agree rest s) a b)
    (Reads-agree rest s a b)
    ha hb
Reads-agree (counted group rest) s a b ha hb =
    Then-agree (Times (count_before s) (Reads group s)) (Reads rest s) (Times (count_before s) (Reads group s)) (Reads rest s) (Times-agree (count_before s) (Reads group s) (Reads-agree group s)) (Reads-agree rest s) a b ha hb

pub Reads-fit : (row : Layout) (s : Scope) (a : Reading) → Reads row s a → AllFit a
unfolding Reads
Reads-fit whole s a ha = rw ha tt
Reads-fit (one v rest) s a (n, a', na, ea, ra) = rw ea ((admits_parts v n na).1, Reads-fit rest ((v, n) ∷ s) a' ra)
Reads-fit (guarded g group rest) s a ha =
    either (holds g s) (AllFit a) (Then-fit (Reads group s) (Reads rest s) (Reads-fit group s) (Reads-fit rest s) a) (Reads-fit rest s a) ha
Reads-fit (counted group rest) s a ha =
    Then-fit (Times (count_before s) (Reads group s)) (Reads rest s) (Times-fit (count_before s) (Reads group s) (Reads-fit group s)) (Reads-fit rest s) a ha

pub Reads-apart : (row : Layout) (s : Scope) (a b : Reading) (c d : List Bool) → Reads row s a → Reads row s b → spelled a ++ c ≡ spelled b ++ d → (a ≡ b) × (c ≡ d)
Reads-apart row s a b c d ha hb e = apart a b c d (Reads-agree row s a b ha hb) (Reads-fit row s a ha) (Reads-fit row s b hb) e
