-- Lemmas about specs/FlatCodes.antt.
use Rattle.std.proofs.Common.{◌≡◌, ℕ, List, [], ◌∷◌, ◌++◌, map, Option, Some, None, refl, sym, ap, ◌∙◌, arith}
use Rattle.std.specs.Prelude.{IsTrue, IsSome}
use Rattle.std.specs.Option.{option_map}
use Rattle.std.proofs.lemmas.Option.{option_and_then_some}
use Rattle.etcs_vars.specs.declared.var.Var.{Var}
use Rattle.etcs_vars.specs.Faults.{number_fault}
use Rattle.etcs_vars.specs.Vars.{admits}
use Rattle.etcs_vars.specs.Reading.{Reading}
use Rattle.etcs_tables.specs.declared.item.RowItem.{RowItem}
use Rattle.etcs_tables.specs.declared.item.RowItem.TheVariants.{One}
use Rattle.etcs_tables.specs.declared.row.Way.{Way}
use Rattle.etcs_tables.specs.declared.row.Way.TheVariants.{ToTrain}
use Rattle.etcs_tables.specs.Frames.{is_direction}
use Rattle.etcs_tables.specs.Layouts.{Layout, whole, one, guarded, counted, Scope, Reads}
use Rattle.etcs_tables.specs.Rows.{row_to}
use Rattle.etcs_bodies.specs.Taking.{Left, ahead, ◌and_then◌, next_number}
use Rattle.etcs_bodies.specs.laws.Takes.{admitted, number_ok, ahead_none, ahead_both, next_is, next_sound, taken}
use Rattle.etcs_bodies.specs.Codecs.{Codes}
use Rattle.etcs_bodies.specs.laws.Codecs.{carried}
use Rattle.etcs_bodies.specs.Packets.{packet_to, packet_from}
use Rattle.etcs_bodies.specs.PacketCodes.{PacketCodes, directed_from}
use Rattle.etcs_bodies.specs.laws.PacketCodes.{direction_ok, direction_admitted, same_direction, packet_codes}
use Rattle.etcs_flat.specs.Flats.{FlatValue, flat_value, variables, flat_row_to, flat_row, numbers_fault, row_fault, flat_fault_to, flat_fault, pairs, row_reading, flat_reading_to, flat_reading}
use Rattle.etcs_flat.specs.laws.FlatLaws.{none_both, number_fine, fine_number, after_first, pairs-short, row_short, nothing_wrong, nothing_found}
use Rattle.etcs_bodies.specs.Passing.{PassedRow}
use Rattle.etcs_bodies.specs.laws.Passing.{passed_value, passed_row}
use Rattle.etcs_flat.specs.laws.TableLaws.{pairs_in}
use Rattle.etcs_flat.specs.Tables.{table_from, table_pairs}
use Rattle.etcs_flat.specs.FlatCodes.{row_of, AreNumbers, known, Flatly, row_from, flat_from_to, flat_from}

-- ---- The numbers of some variables.

one_more : (v : Var) (vs : List Var) (n : ℕ) (ns : List ℕ) → IsTrue (admits v n) → AreNumbers vs ns → AreNumbers (v ∷ vs) (n ∷ ns)
one_more v vs n ns a h = (omega (arith, h.0), rw (fine_number v n a) h.1)

one_less : (v : Var) (vs : List Var) (n : ℕ) (ns : List ℕ) → AreNumbers (v ∷ vs) (n ∷ ns) → IsTrue (admits v n) × AreNumbers vs ns
one_less v vs n ns h = let both = none_both (number_fault v n) (numbers_fault vs ns) h.1 in (number_fine v n both.0, (omega (arith, h.0), both.1))

complete : (vs : List Var) (ns : List ℕ) (s : Left) → AreNumbers vs ns → table_from (map One vs) (ahead (pairs vs ns) s) ≡ Some (ns, s)
complete [] [] s h = ap (λ (t : Left). Some ([], t)) (ahead_none s)
complete [] (n ∷ ns) s h = absurd (omega (arith, h.0))
complete (v ∷ vs) [] s h = absurd (omega (arith, h.0))
complete (v ∷ vs) (n ∷ ns) s h =
    let k = one_less v vs n ns h in
    rw (ahead_both ((v, n) ∷ []) (pairs vs ns) s, next_is v n (ahead (pairs vs ns) s) (number_ok v n k.0), complete vs ns s k.1) refl

sound : (vs : List Var) (ns : List ℕ) (s t : Left) → table_from (map One vs) s ≡ Some (ns, t) → AreNumbers vs ns × (s ≡ ahead (pairs vs ns) t)
sound [] ns s t e = carried (AreNumbers []) (pairs []) s [] ns s t e ((refl, refl), sym (ahead_none s))
sound (v ∷ vs) ns s t e =
    let a = taken (next_number v s) (λ n. table_from (map One vs) n.1 and_then λ ms. Some (n.0 ∷ ms.0, ms.1)) (ns, t) e in
    let b = taken (table_from (map One vs) a.0.1) (λ ms. Some (a.0.0 ∷ ms.0, ms.1)) (ns, t) a.2 in
    let n = next_sound v a.0.0 s a.0.1 a.1 in
    let more = sound vs b.0.0 a.0.1 b.0.1 b.1 in
    carried (AreNumbers (v ∷ vs)) (pairs (v ∷ vs)) s (a.0.0 ∷ b.0.0) ns b.0.1 t b.2 (
      one_more v vs a.0.0 b.0.0 (admitted v a.0.0 n.0) more.0,
      n.1 ∙ ap (ahead ((v, a.0.0) ∷ [])) more.1 ∙ sym (ahead_both ((v, a.0.0) ∷ []) (pairs vs b.0.0) b.0.1),
    )

into : (vs : List Var) (ns : List ℕ) (rest : Layout) (s : Scope) (x : Reading) → AreNumbers vs ns → ((t : Scope) → Reads rest t x) → Reads (row_of vs rest) s (pairs vs ns ++ x)
unfolding Reads
into [] ns rest s x h k = k s
into (v ∷ vs) [] rest s x h k = absurd (omega (arith, h.0))
into (v ∷ vs) (n ∷ ns) rest s x h k = let l = one_less v vs n ns h in (n, pairs vs ns ++ x, l.0, refl, into vs ns rest ((v, n) ∷ s) x l.1 k)

out : (vs : List Var) (rest : Layout) (s : Scope) (r : Reading) → Reads (row_of vs rest) s r → (ns : List ℕ) × (x : Reading) × (t : Scope) × AreNumbers vs ns × (r ≡ pairs vs ns ++ x) × Reads rest t x
unfolding Reads
out [] rest s r reads = ([], r, s, (refl, refl), refl, reads)
out (v ∷ vs) rest s r (n, r', a, e, reads) =
    let o = out vs rest ((v, n) ∷ s) r' reads in
    (n ∷ o.0, o.1, o.2, one_more v vs n o.0 a o.3, e ∙ ap (λ (q : Reading). (v, n) ∷ q) o.4, o.5)

numbers_codes : (vs : List Var) → Codes (row_of vs) (AreNumbers vs) (pairs vs) (table_from (map One vs))
numbers_codes vs = record { complete = complete vs; sound = sound vs; into = into vs; out = out vs }

-- ---- A packet is a direction and such numbers.

same_layout : (row : Layout) (vs : List Var) → variables row ≡ Some vs → row ≡ row_of vs whole
same_layout whole [] is = refl
same_layout whole (v ∷ vs) is = absurd cc
same_layout (one v rest) vs is =
    let f = after_first v (variables rest) vs is in
    ap (one v) (same_layout rest f.0 f.1) ∙ ap (λ (ws : List Var). row_of ws whole) f.2
same_layout (guarded g group rest) vs is = absurd cc
same_layout (counted group rest) vs is = absurd cc

row_is : (way : Way) (nid : ℕ) (vs : List Var) → flat_row_to way nid ≡ Some vs → row_to way nid ≡ Some (row_of vs whole)
row_is way nid vs is = option_and_then_some variables (row_to way nid) vs is (λ row there its. there ∙ ap Some (same_layout row vs its))

module _ {P : Type 0} (way : Way) (direction : P → ℕ) (body : P → List ℕ) (make : ℕ → List ℕ → P) (flat : Flatly way direction body make) where
  codes_of : (nid : ℕ) (o : Option (List Var)) → flat_row_to way nid ≡ o → IsSome o → PacketCodes way nid direction (λ p. row_fault way o (direction p) (body p) ≡ None) (λ p. row_reading o (body p)) (packet_to way (row_from make o))
  codes_of nid None is there = absurd cc
  codes_of nid (Some vs) is there = packet_codes (numbers_codes vs) way nid (row_is way nid vs is) (record {
    body = body;
    again = flat.again;
    dir_is = flat.dir_is;
    same = λ dir ns. ap (pairs vs) (sym (flat.same dir ns));
    is = λ p h.
        let w = nothing_wrong way (Some vs) (direction p) (body p) h in
        let same : w.0 ≡ vs = (let s = w.1 in cc) in
        let found : AreNumbers w.0 (body p) = (w.2, w.4) in
        let k : AreNumbers vs (body p) = rw same at found in
        (k, direction_ok way (direction p) w.3, omega (arith, pairs-short vs (body p), row_short way nid vs is));
    so = λ dir ns h d fits.
        let admitted = direction_admitted way dir d in
        let there : direction (make dir ns) ≡ dir = flat.dir_is dir ns ∙ same_direction way dir admitted in
        rw (there, flat.same dir ns) (nothing_found way (Some vs) vs dir ns refl h.0 admitted h.1);
    fits = λ dir ns small. refl;
  })

  pub flat_codes_to : (nid : ℕ) → IsSome (flat_row_to way nid) → PacketCodes way nid direction (λ p. flat_fault_to way nid (direction p) (body p) ≡ None) (λ p. flat_reading_to way nid (body p)) (packet_to way (flat_from_to way make nid))
  flat_codes_to nid there = codes_of nid (flat_row_to way nid) refl there

-- to the train
pub flat_codes : (nid : ℕ) → IsSome (flat_row nid) → PacketCodes ToTrain nid (λ (p : FlatValue). p.dir) (λ p. flat_fault nid p.dir p.numbers ≡ None) (λ p. flat_reading nid p.numbers) (packet_from (flat_from nid))
flat_codes nid there = flat_codes_to ToTrain (λ (p : FlatValue). p.dir) (λ p. p.numbers) flat_value (record { again = λ p. refl; dir_is = λ dir ns. refl; same = λ dir ns. refl }) nid there

-- ---- What is taken for the packet's table.

table_is : (o : Option (List Var)) (table : List RowItem) → Some table ≡ option_map (λ vs. map One vs) o → (o ≡ Some (known o)) × (table ≡ map One (known o))
table_is None table e = absurd cc
table_is (Some vs) table e = (refl, cc)

module _ (way : Way) (nid dir : ℕ) (table : List RowItem) (s : Left) (is : Some table ≡ option_map (λ vs. map One vs) (flat_row_to way nid)) where
  pub table_fine : (t : Left) (ns : List ℕ) → IsTrue (is_direction way dir) → table_from table s ≡ Some (ns, t) → flat_fault_to way nid dir ns ≡ None
  table_fine t ns d h =
      let k = table_is (flat_row_to way nid) table is in
      let x = sound (known (flat_row_to way nid)) ns s t (ap (λ (l : List RowItem). table_from l s) (sym k.1) ∙ h) in
      nothing_found way (flat_row_to way nid) (known (flat_row_to way nid)) dir ns k.0 x.0.0 d x.0.1

  pub table_some : {P : Type 0} (make : ℕ → List ℕ → P) (t : Left) (ns : List ℕ) → table_from table s ≡ Some (ns, t) → flat_from_to way make nid dir s ≡ Some (make dir ns, t)
  unfolding directed_from
  table_some make t ns h =
      let k = table_is (flat_row_to way nid) table is in
      let some : table_from (map One (known (flat_row_to way nid))) s ≡ Some (ns, t) = ap (λ (l : List RowItem). table_from l s) (sym k.1) ∙ h in
      rw some refl

  -- the variables of the row that were taken, and sent
  pub table_row : {S : Type 0} (with : S → Reading → S) → ((o : S) (a b : Reading) → with o (a ++ b) ≡ with (with o a) b)
      → (t : Left) (o q : S) (ns : List ℕ) → table_from table s ≡ Some (ns, t) → q ≡ with o (table_pairs table ns) → PassedRow way nid with s t o q
  table_row with both t o q ns h e =
      let k = table_is (flat_row_to way nid) table is in
      let vs = known (flat_row_to way nid) in
      let pairs = ap (λ (l : List RowItem). table_pairs l ns) k.1 ∙ pairs_in vs ns in
      passed_row with both (numbers_codes vs) way nid (row_is way nid vs k.0) s t o q
      (passed_value with both (numbers_codes vs) s t o q ns (ap (λ (l : List RowItem). table_from l s) (sym k.1) ∙ h) (e ∙ ap (with o) pairs))

  pub table_none : {P : Type 0} (make : ℕ → List ℕ → P) → table_from table s ≡ None → flat_from_to way make nid dir s ≡ None
  unfolding directed_from
  table_none make h =
      let k = table_is (flat_row_to way nid) table is in
      let none : table_from (map One (known (flat_row_to way nid))) s ≡ None = ap (λ (l : List RowItem). table_from l s) (sym k.1) ∙ h in
      rw none refl
