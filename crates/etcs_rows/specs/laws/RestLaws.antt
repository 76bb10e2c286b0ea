-- What the reader needs of a row of a known number of bits.
use Rattle.std.proofs.Common.{◌≡◌, ℕ, ◌-◌, [], ◌∷◌, ◌++◌, Some, None, refl, sym, ap, subst}
use Rattle.std.specs.Prelude.{IsTrue}
use Rattle.etcs_vars.specs.declared.var.Var.{Var}
use Rattle.etcs_vars.specs.Vars.{width}
use Rattle.etcs_vars.specs.Reading.{Sent, Reading}
use Rattle.etcs_vars.proofs.Walk.{Regular}
use Rattle.etcs_reader.specs.Rests.{BeginsWith, Ended}
use Rattle.etcs_reader.specs.laws.FieldLaws.{residual_none, residual_along}
use Rattle.etcs_tables.specs.Layouts.{Layout, whole, one, guarded, counted, looks, Reads, ReadsIn}
use Rattle.etcs_rows.specs.Places.{first_variable}
use Rattle.etcs_rows.specs.Walks.{ReadTo, Follows}
use Rattle.etcs_rows.specs.laws.OneReading.{Reads-agree, Reads-fit}

pub regular : (row : Layout) (len : ℕ) → Regular (ReadsIn row len)
regular row len = record { agree = λ a b ha hb. Reads-agree row [] a b ha.0 hb.0; fit = λ a ha. Reads-fit row [] a ha.0 }

pub row_begins_with : (row : Layout) (len : ℕ) (x : Var) → first_variable row ≡ Some x → BeginsWith (ReadsIn row len) x
unfolding Reads
row_begins_with whole len x f r l = absurd cc
row_begins_with (one v rest) len x f r ((n, r', ok, is, reads), l) = let same : v ≡ x = cc in (n, r', rw same at is)
row_begins_with (guarded g group rest) len x f r l = absurd cc
row_begins_with (counted group rest) len x f r l = absurd cc

pub row_ended : (row : Layout) (len : ℕ) → IsTrue (looks None row) → first_variable row ≡ None → Ended (ReadsIn row len)
unfolding Reads
row_ended whole len look f r (reads, l) = reads
row_ended (one v rest) len look f r l = absurd cc
row_ended (guarded g group rest) len look f r l = absurd cc
row_ended (counted group rest) len look f r l = absurd cc

pub head_of : (v : Var) (n m : ℕ) (q q' : Reading) → ◌≡◌ {A = Reading} ((v, n) ∷ q) ((v, m) ∷ q') → (m ≡ n) × (q' ≡ q)
head_of v n m q q' e = (
  (let f : ◌≡◌ {A = Sent} (v, n) (v, m) = cc in sym (ap (λ (u : Sent). u.1) f)),
  (let g : q ≡ q' = cc in sym g),
)

-- ---- After pairs of the row.

pub follows_none : (row : Layout) (len : ℕ) → Follows row len [] row len
follows_none row len = record { residual = residual_none (ReadsIn row len); read = (refl, refl) }

pub read_along : (row : Layout) (len : ℕ) (p : Reading) (mid : Layout) (more : ℕ) (q : Reading) (left : Layout) (bits : ℕ) → ReadTo row len p mid more → ReadTo mid more q left bits → ReadTo row len (p ++ q) left bits
read_along row len [] mid more q left bits (same, count) h = subst (λ (l : Layout). ReadTo l len q left bits) same (subst (λ (n : ℕ). ReadTo mid n q left bits) count h)
read_along row len ((v, n) ∷ p) mid more q left bits (next, first, after, wide, h) k = (next, first, after, wide, read_along next (len - width v) p mid more q left bits h k)

pub follows_along : (row : Layout) (len : ℕ) (p : Reading) (mid : Layout) (more : ℕ) (q : Reading) (left : Layout) (bits : ℕ) → Follows row len p mid more → Follows mid more q left bits → Follows row len (p ++ q) left bits
follows_along row len p mid more q left bits h k = record {
  residual = residual_along (ReadsIn row len) p (ReadsIn mid more) q (ReadsIn left bits) h.residual k.residual;
  read = read_along row len p mid more q left bits h.read k.read;
}
