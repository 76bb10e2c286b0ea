use Rattle.std.proofs.Common.{◌≡◌, ℕ, List, [], ◌∷◌, length, get_or, ap, sym, ◌∙◌, subst, arith}
use Rattle.std.specs.Prelude.{IsTrue}
use Rattle.std.proofs.lemmas.Bool.{both_ways}
use Rattle.std.proofs.lemmas.Bool.Decides.{nat_tests}
use Rattle.etcs_vars.specs.declared.var.Var.TheVariants.{Q_DIR, Q_SRSTOP}
use Rattle.etcs_vars.specs.Vars.{admits}
use Rattle.etcs_vars.specs.Reading.{Reading, numbers}
use Rattle.etcs_tables.specs.declared.row.Way.TheVariants.{ToTrain}
use Rattle.etcs_tables.specs.Layouts.{Layout, Reads}
use Rattle.etcs_tables.specs.Rows.{stop_in_sr}
use Rattle.etcs_tables.specs.Typed.{IsTyped}
use Rattle.etcs_tests.proofs.packetlike_tests.StopInSrPacketlike.from_fields.Goals as goal
use Rattle.etcs_tests.proofs.packetlike_tests.StopInSrPacketlike.from_fields.Goals.{in_default-via-then-fields-lt1, in_default-via-else-fields-lt1+else-fields-lt2, then-not-admits-via-then-not-admits, then-not-admits-via-else-not-admits+then-not-admits-2}

-- the row has one number
one_number : (r : Reading) → Reads stop_in_sr [] r → (n : ℕ) × IsTrue (admits Q_SRSTOP n) × (numbers r ≡ n ∷ [])
unfolding Reads
one_number r (n, rest, ok, is, ends) = (n, ok, ap numbers is ∙ ap (λ (q : Reading). n ∷ numbers q) ends)

typed : (dir : ℕ) (f : List ℕ) → IsTyped ToTrain 137 dir f → IsTrue (admits Q_DIR dir) × ((n : ℕ) × IsTrue (admits Q_SRSTOP n) × (f ≡ n ∷ []))
typed dir f (row, e, d, (b, (r, reads, numbers-are, bits), short)) =
    let same : row ≡ stop_in_sr = cc in
    let x = one_number r (subst (λ (l : Layout). Reads l [] r) same reads) in
    (d, (x.0, x.1, sym numbers-are ∙ x.2))

pub returns-in_default-clause-none : goal.returns-in_default-clause-none
returns-in_default-clause-none c = λ none is.
    let x = (typed c.args.dir c.args.fields.now is).1 in
    let one : length c.args.fields.now ≡ 1 = ap length x.2 in
    elim c.in_default.branch [ in_default-via-then-fields-lt1 w ↦ grind (arith, one) | in_default-via-else-fields-lt1+else-fields-lt2 w ↦ grind (arith, nat_tests, one) ]

pub returns-then-not-admits-clause-none : goal.returns-then-not-admits-clause-none
returns-then-not-admits-clause-none c = λ none is.
    let x = typed c.args.dir c.args.fields.now is in
    elim c.then-not-admits.branch [
      | then-not-admits-via-then-not-admits w ↦ both_ways c.admits.result w.if-not-admits.true (c.admits.ensures ∙ rw c.from.ensures x.0)
      | then-not-admits-via-else-not-admits+then-not-admits-2 w ↦
          let first : get_or c.args.fields.now 0 0 ≡ x.1.0 = ap (λ (l : List ℕ). get_or l 0 0) x.1.2 in
          both_ways w.admits-else-not-admits.result w.if-not-admits-2.true (w.admits-else-not-admits.ensures ∙ rw first x.1.1)
    ]
