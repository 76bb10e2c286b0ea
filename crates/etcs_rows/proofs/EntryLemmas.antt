-- Entries of a static speed profile: what is read of them, and what is left then.
use Rattle.std.proofs.Common.{◌≡◌, ℕ, zero, suc, ◌+◌, ◌-◌, ◌*◌, ◌/◌, ◌%◌, ◌^◌, ◌<◌, ◌≤◌, Bool, true, List, [], ◌∷◌, ◌++◌, length, reverse, Some, None, refl, sym, ap, subst, ◌∙◌, arith, append-nil, append_assoc}
use Rattle.std.specs.Prelude.{IsTrue}
use Rattle.std.proofs.lemmas.List.{map-append, append_cancel_left}
use Rattle.etcs_bits.specs.Bits.{num, part}
use Rattle.etcs_bits.specs.NextBits.{AreNext}
use Rattle.etcs_bits.proofs.Lists.{part-add}
use Rattle.etcs_vars.specs.declared.var.Var.{Var}
use Rattle.etcs_vars.specs.declared.var.Var.TheVariants.{D_STATIC, V_STATIC, Q_FRONT, N_ITER, Q_DIFF, NC_CDDIFF, NC_DIFF, V_DIFF}
use Rattle.etcs_vars.specs.Vars.{width, admits, ranges}
use Rattle.etcs_vars.specs.Walking.{Residual}
use Rattle.etcs_vars.specs.Reading.{Sent, Reading, spelled, numbers}
use Rattle.etcs_vars.specs.laws.Spellings.{spelled-append}
use Rattle.etcs_vars.proofs.LowestBits.{num-low}
use Rattle.etcs_vars.proofs.Prefixes.{admits_parts, inside_below}
use Rattle.etcs_reader.specs.Rests.{Goes}
use Rattle.etcs_tables.specs.Layouts.{Layout, whole, one, guarded, counted, layout, looks, ReadsIn}
use Rattle.etcs_rows.specs.declared.place.Cursor.{Cursor}
use Rattle.etcs_rows.specs.Cursors.{waiting, left_of}
use Rattle.etcs_tables.specs.Rows.{is_zero, is_one_or_two}
use Rattle.etcs_rows.specs.Places.{onto, iterate}
use Rattle.etcs_rows.specs.Walks.{ReadTo}
use Rattle.etcs_rows.specs.Lengths.{LengthsBy}
use Rattle.etcs_rows.specs.Runs.{RunsTo}
use Rattle.etcs_rows.specs.Entries.{differing, speed, category_of, TakenTo, ListIn}
use Rattle.etcs_rows.specs.laws.RestLaws.{read_along}
use Rattle.etcs_rows.proofs.Following.{by_number}
use Rattle.etcs_rows.proofs.LengthLemmas.{lengths_by, lengths-onto}
use Rattle.etcs_rows.proofs.PlaceLemmas.{Open, Open-onto, Open-iterate, Open-waiting, onto-append}
use Rattle.etcs_rows.proofs.WholeWalks.{front, back, one_looks}

-- ---- Variables one after another.

pub taken_along : (row : Layout) (len : ℕ) (xs : List Bool) (at c : ℕ) (f : List ℕ) (mid : Layout) (more d : ℕ) (g : List ℕ) (left : Layout) (bits : ℕ) → TakenTo row len xs at c f mid more → TakenTo mid more xs (at + c) d g left bits → TakenTo row len xs at (c + d) (f ++ g) left bits
taken_along row len xs at c f mid more d g left bits a b = record {
  inside = (let i = b.inside in omega (arith, i));
  run = a.run ++ b.run;
  numbers_are = map-append (λ (s : Sent). s.1) a.run b.run ∙ ap (λ (t : List ℕ). t ++ numbers b.run) a.numbers_are ∙ ap (λ (t : List ℕ). f ++ t) b.numbers_are;
  read = read_along row len a.run mid more b.run left bits a.read b.read;
  spelling = spelled-append a.run b.run ∙ ap (λ (t : List Bool). t ++ spelled b.run) a.spelling ∙ ap (λ (t : List Bool). part at c xs ++ t) b.spelling ∙ sym (part-add at c d xs);
}

-- one variable, in front of what is left after it
pub taken_one : (v : Var) (rest tail : Layout) (n k len more : ℕ) (xs : List Bool) (at : ℕ) → Open tail → IsTrue (admits v k) → at + width v ≤ length xs → width v + more ≡ len → num (width v) k ≡ part at (width v) xs → TakenTo (onto n (one v rest) tail) len xs at (width v) (k ∷ []) (onto k rest tail) more
taken_one v rest tail n k len more xs at free ok within size lies =
    let yes : admits v k ≡ true = ok in
    let after : more ≡ len - width v = omega (arith, size) in
    let room : width v ≤ len = omega (arith, size) in record {
      inside = within;
      run = (v, k) ∷ [];
      numbers_are = refl;
      read = (onto k rest tail, refl, rw yes (ap (λ (x : Layout). Some x) (onto-append k rest tail free)), room, (refl, after));
      spelling = append-nil (num (width v) k) ∙ lies;
    }

-- ---- A speed for some trains.

few : (q : ℕ) → IsTrue (admits Q_DIFF q) → q < 3
few q ok = inside_below (ranges Q_DIFF) 3 q refl (admits_parts Q_DIFF q ok).0

-- what comes after Q_DIFF
abbrev Categories : Layout
Categories = guarded (is_zero Q_DIFF) (one NC_CDDIFF whole) (guarded (is_one_or_two Q_DIFF) (one NC_DIFF whole) (one V_DIFF whole))

-- with the category in this variable
differing_with : (v : Var) (q c d n : ℕ) (tail : Layout) (more : ℕ) (xs : List Bool) (at : ℕ) → width v ≡ 4 → onto q Categories tail ≡ one v (one V_DIFF tail) → Open tail → IsTrue (admits Q_DIFF q) → IsTrue (admits v c) → IsTrue (admits V_DIFF d) → at + 13 ≤ length xs
    → num 2 q ≡ part at 2 xs → num 4 c ≡ part (at + 2) 4 xs → num 7 d ≡ part (at + 6) 7 xs → TakenTo (onto n differing tail) (13 + more) xs at 13 (q ∷ c ∷ d ∷ []) tail more
differing_with v q c d n tail more xs at wide opened free aq ac ad within lq lc ld =
    let i : at + 2 ≤ length xs = omega (arith, within) in
    let j : at + 2 + width v ≤ length xs = omega (arith, within, wide) in
    let k : at + 6 + 7 ≤ length xs = omega (arith, within) in
    let size : width v + (7 + more) ≡ 11 + more = omega (arith, wide) in
    let lies : num (width v) c ≡ part (at + 2) (width v) xs = subst (λ w. num w c ≡ part (at + 2) w xs) (sym wide) lc in
    let first : TakenTo (onto n differing tail) (13 + more) xs at 2 (q ∷ []) (onto q Categories tail) (11 + more) = taken_one Q_DIFF Categories tail n q (13 + more) (11 + more) xs at free aq i (omega arith) lq in
    let second : TakenTo (one v (one V_DIFF tail)) (11 + more) xs (at + 2) (width v) (c ∷ []) (one V_DIFF tail) (7 + more) = taken_one v whole (one V_DIFF tail) 0 c (11 + more) (7 + more) xs (at + 2) tt ac j size lies in
    let third : TakenTo (one V_DIFF tail) (7 + more) xs (at + 6) 7 (d ∷ []) tail more = taken_one V_DIFF whole tail 0 d (7 + more) more xs (at + 6) free ad k (omega arith) ld in
    let a : TakenTo (onto n differing tail) (13 + more) xs at 2 (q ∷ []) (one v (one V_DIFF tail)) (11 + more) = subst (λ (l : Layout). TakenTo (onto n differing tail) (13 + more) xs at 2 (q ∷ []) l (11 + more)) opened first in
    let b : TakenTo (one v (one V_DIFF tail)) (11 + more) xs (at + 2) 4 (c ∷ []) (one V_DIFF tail) (7 + more) = subst (λ w. TakenTo (one v (one V_DIFF tail)) (11 + more) xs (at + 2) w (c ∷ []) (one V_DIFF tail) (7 + more)) wide second in
    let ab : TakenTo (onto n differing tail) (13 + more) xs at 6 (q ∷ c ∷ []) (one V_DIFF tail) (7 + more) = taken_along (onto n differing tail) (13 + more) xs at 2 (q ∷ []) (one v (one V_DIFF tail)) (11 + more) 4 (c ∷ []) (one V_DIFF tail) (7 + more) a b in
    taken_along (onto n differing tail) (13 + more) xs at 6 (q ∷ c ∷ []) (one V_DIFF tail) (7 + more) 7 (d ∷ []) tail more ab third

differing_from : (q c d n : ℕ) (tail : Layout) (more : ℕ) (xs : List Bool) (at : ℕ) → Open tail → IsTrue (admits Q_DIFF q) → IsTrue (admits (category_of q) c) → IsTrue (admits V_DIFF d) → at + 13 ≤ length xs
    → num 2 q ≡ part at 2 xs → num 4 c ≡ part (at + 2) 4 xs → num 7 d ≡ part (at + 6) 7 xs → TakenTo (onto n differing tail) (13 + more) xs at 13 (q ∷ c ∷ d ∷ []) tail more
differing_from zero c d n tail more xs at free aq ac ad within lq lc ld = differing_with NC_CDDIFF 0 c d n tail more xs at refl refl free aq ac ad within lq lc ld
differing_from (suc zero) c d n tail more xs at free aq ac ad within lq lc ld = differing_with NC_DIFF 1 c d n tail more xs at refl refl free aq ac ad within lq lc ld
differing_from (suc (suc zero)) c d n tail more xs at free aq ac ad within lq lc ld = differing_with NC_DIFF 2 c d n tail more xs at refl refl free aq ac ad within lq lc ld
differing_from (suc (suc (suc q))) c d n tail more xs at free aq ac ad within lq lc ld =
    let p = few (suc (suc (suc q))) aq in absurd (omega (arith, p))

-- a number of a word's bits
lies : (word : ℕ) (xs : List Bool) (at from count k place : ℕ) → AreNext word xs at → from + count ≤ 57 → at + (from + count) ≤ length xs → k ≡ word / 2 ^ (64 - (from + count)) % 2 ^ count → place ≡ at + from → num count k ≡ part place count xs
lies word xs at from count k place next small within is there =
    ap (num count) is ∙ num-low count (word / 2 ^ (64 - (from + count))) ∙ next from count small within ∙ ap (λ i. part i count xs) (sym there)

lies_first : (word : ℕ) (xs : List Bool) (at count k : ℕ) → AreNext word xs at → count ≤ 57 → at + count ≤ length xs → k ≡ word / 2 ^ (64 - count) → num count k ≡ part at count xs
lies_first word xs at count k next small within is =
    let none : 0 + count ≡ count = omega arith in
    let here : at + 0 ≡ at = omega arith in
    let all : num count (word / 2 ^ (64 - (0 + count))) ≡ part (at + 0) count xs = next 0 count (omega (arith, small)) (omega (arith, within)) in
    ap (num count) is ∙ subst (λ j. num count (word / 2 ^ (64 - j)) ≡ part (at + 0) count xs) none all ∙ ap (λ i. part i count xs) here

pub differing_in : (word q c d n : ℕ) (xs : List Bool) (at : ℕ) → AreNext word xs at → at + 13 ≤ length xs → q ≡ word / 2 ^ 62 → c ≡ word / 2 ^ 58 % 2 ^ 4 → d ≡ word / 2 ^ 51 % 2 ^ 7
    → IsTrue (admits Q_DIFF q) → IsTrue (admits (category_of q) c) → IsTrue (admits V_DIFF d) → ListIn differing n xs at 13 (q ∷ c ∷ d ∷ [])
differing_in word q c d n xs at next within iq ic id aq ac ad tail more free =
    differing_from q c d n tail more xs at free aq ac ad within
    (lies_first word xs at 2 q next (omega arith) (omega (arith, within)) iq)
    (lies word xs at 2 4 c (at + 2) next (omega arith) (omega (arith, within)) ic refl)
    (lies word xs at 6 7 d (at + 6) next (omega arith) (omega (arith, within)) id refl)

-- ---- Speeds for some trains, one after another.

-- count of them after a variable whose number is count
abbrev pub All : ℕ → Layout → Layout
All count tail = iterate count (onto count differing) tail

-- what is taken of count of them after the first i
abbrev pub TakenAll : ℕ → ℕ → List Bool → ℕ → List ℕ → Type 0
TakenAll count i xs at f = (tail : Layout) (more : ℕ) → Open tail → TakenTo (iterate count (onto count differing) tail) (13 * count + more) xs at (13 * i) f (iterate (count - i) (onto count differing) tail) (13 * (count - i) + more)

pub all_more : (count i : ℕ) (xs : List Bool) (at place : ℕ) (f g : List ℕ) → i < count → place ≡ at + 13 * i → TakenAll count i xs at f → ListIn differing count xs place 13 g → TakenAll count (i + 1) xs at (f ++ g)
all_more count i xs at place f g below there h k tail more free =
    let F = onto count differing in
    let rest = iterate (count - (i + 1)) F tail in
    let left = 13 * (count - (i + 1)) + more in
    let step : count - i ≡ suc (count - (i + 1)) = omega (arith, below) in
    let next : TakenTo (F rest) (13 + left) xs (at + 13 * i) 13 g rest left = subst (λ p. TakenTo (F rest) (13 + left) xs p 13 g rest left) there (k rest left (Open-iterate (count - (i + 1)) F tail (λ y o. Open-onto count differing y o) free)) in
    let before : TakenTo (iterate count F tail) (13 * count + more) xs at (13 * i) f (F rest) (13 + left) =
    subst (λ b. TakenTo (iterate count F tail) (13 * count + more) xs at (13 * i) f (F rest) b) (omega (arith, below))
    (subst (λ (l : Layout). TakenTo (iterate count F tail) (13 * count + more) xs at (13 * i) f l (13 * (count - i) + more)) (ap (λ j. iterate j F tail) step) (h tail more free)) in
    subst (λ c. TakenTo (iterate count F tail) (13 * count + more) xs at c (f ++ g) rest left) (omega arith) (taken_along _ _ xs at (13 * i) f _ _ 13 g rest left before next)

-- all of them
pub all_whole : (count i : ℕ) (xs : List Bool) (at : ℕ) (f : List ℕ) → i ≡ count → TakenAll count i xs at f → ListIn (counted differing whole) count xs at (13 * count) f
all_whole count i xs at f end h tail more free =
    let F = onto count differing in
    let row = iterate count F tail in
    let len = 13 * count + more in
    let none : count - i ≡ 0 = omega (arith, end) in
    let rest : 13 * (count - i) + more ≡ more = omega (arith, end) in
    let took : 13 * i ≡ 13 * count = omega (arith, end) in
    let a : TakenTo row len xs at (13 * i) f tail (13 * (count - i) + more) = subst (λ j. TakenTo row len xs at (13 * i) f (iterate j F tail) (13 * (count - i) + more)) none (h tail more free) in
    let b : TakenTo row len xs at (13 * i) f tail more = subst (λ m. TakenTo row len xs at (13 * i) f tail m) rest a in
    subst (λ c. TakenTo row len xs at c f tail more) took b

-- ---- A speed with those for some trains.

pub speed_in : (word d v q k n : ℕ) (xs : List Bool) (at : ℕ) (f : List ℕ) → AreNext word xs at → at + 28 ≤ length xs → d ≡ word / 2 ^ 49 → v ≡ word / 2 ^ 42 % 2 ^ 7 → q ≡ word / 2 ^ 41 % 2 ^ 1 → k ≡ word / 2 ^ 36 % 2 ^ 5
    → IsTrue (admits D_STATIC d) → IsTrue (admits V_STATIC v) → IsTrue (admits Q_FRONT q) → IsTrue (admits N_ITER k) → ListIn (counted differing whole) k xs (at + 28) (13 * k) f → ListIn speed n xs at (28 + 13 * k) (d ∷ v ∷ q ∷ k ∷ f)
speed_in word d v q k n xs at f next within id iv iq ik ad av aq ak all tail more free =
    let left = 13 * k + more in
    let len = 28 + 13 * k + more in
    let four = counted differing whole in
    let three = one N_ITER four in
    let two = one Q_FRONT three in
    let after_d = one V_STATIC (one Q_FRONT (one N_ITER (counted differing tail))) in
    let after_v = one Q_FRONT (one N_ITER (counted differing tail)) in
    let after_q = one N_ITER (counted differing tail) in
    let i1 : at + 15 ≤ length xs = omega (arith, within) in
    let i2 : at + 15 + 7 ≤ length xs = omega (arith, within) in
    let i3 : at + 22 + 1 ≤ length xs = omega (arith, within) in
    let i4 : at + 23 + 5 ≤ length xs = omega (arith, within) in
    let s1 : 15 + (13 + left) ≡ len = omega arith in
    let a : TakenTo (onto n speed tail) len xs at 15 (d ∷ []) after_d (13 + left) = taken_one D_STATIC (one V_STATIC two) tail n d len (13 + left) xs at free ad i1 s1 (lies_first word xs at 15 d next (omega arith) i1 id) in
    let b : TakenTo after_d (13 + left) xs (at + 15) 7 (v ∷ []) after_v (6 + left) = taken_one V_STATIC two tail d v (13 + left) (6 + left) xs (at + 15) free av i2 (omega arith) (lies word xs at 15 7 v (at + 15) next (omega arith) (omega (arith, within)) iv refl) in
    let e : TakenTo after_v (6 + left) xs (at + 22) 1 (q ∷ []) after_q (5 + left) = taken_one Q_FRONT three tail v q (6 + left) (5 + left) xs (at + 22) free aq i3 (omega arith) (lies word xs at 22 1 q (at + 22) next (omega arith) (omega (arith, within)) iq refl) in
    let g : TakenTo after_q (5 + left) xs (at + 23) 5 (k ∷ []) (All k tail) left = taken_one N_ITER four tail q k (5 + left) left xs (at + 23) free ak i4 (omega arith) (lies word xs at 23 5 k (at + 23) next (omega arith) (omega (arith, within)) ik refl) in
    let ab : TakenTo (onto n speed tail) len xs at 22 (d ∷ v ∷ []) after_v (6 + left) = taken_along (onto n speed tail) len xs at 15 (d ∷ []) after_d (13 + left) 7 (v ∷ []) after_v (6 + left) a b in
    let abe : TakenTo (onto n speed tail) len xs at 23 (d ∷ v ∷ q ∷ []) after_q (5 + left) = taken_along (onto n speed tail) len xs at 22 (d ∷ v ∷ []) after_v (6 + left) 1 (q ∷ []) after_q (5 + left) ab e in
    let abeg : TakenTo (onto n speed tail) len xs at 28 (d ∷ v ∷ q ∷ k ∷ []) (All k tail) left = taken_along (onto n speed tail) len xs at 23 (d ∷ v ∷ q ∷ []) after_q (5 + left) 5 (k ∷ []) (All k tail) left abe g in
    taken_along (onto n speed tail) len xs at 28 (d ∷ v ∷ q ∷ k ∷ []) (All k tail) left (13 * k) f tail more abeg (all tail more free)

-- ---- What is left.

-- after variables of a row that looks well what is left looks well, and continues the row
pub read_looks : (row left : Layout) (len bits : ℕ) (p : Reading) → IsTrue (looks None row) → ReadTo row len p left bits → IsTrue (looks None left)
read_looks row left len bits [] look (same, much) = subst (λ (x : Layout). IsTrue (looks None x)) (sym same) look
read_looks whole left len bits ((v, n) ∷ p) look (mid, f, a, wide, to) = absurd cc
read_looks (one w rest) left len bits ((v, n) ∷ p) look (mid, f, a, wide, to) = read_looks mid left (len - width v) bits p (one_looks w rest mid n look a) to
read_looks (guarded g group rest) left len bits ((v, n) ∷ p) look (mid, f, a, wide, to) = absurd cc
read_looks (counted group rest) left len bits ((v, n) ∷ p) look (mid, f, a, wide, to) = absurd cc

read_residual : (row left : Layout) (len bits : ℕ) (p : Reading) → IsTrue (looks None row) → ReadTo row len p left bits → Residual (ReadsIn row len) p (ReadsIn left bits)
read_residual row left len bits p look to = record {
  to = λ q h. (let t = front row left len bits p (p ++ q) (spelled q) look to h (spelled-append p q) in subst (λ (x : Reading). ReadsIn left bits x) (sym (append_cancel_left p q t.0 t.1)) t.2);
  from = λ q h. back row left len bits p q look to h;
}

pub taken_run : (row left : Layout) (len bits : ℕ) (xs : List Bool) (at count : ℕ) (f : List ℕ) → IsTrue (looks None row) → TakenTo row len xs at count f left bits → RunsTo row len xs at count f left bits
taken_run row left len bits xs at count f look t = record {
  inside = t.inside;
  run = t.run;
  numbers_are = t.numbers_are;
  follows = record { residual = read_residual row left len bits t.run look t.read; read = t.read };
  spelling = t.spelling;
}

-- something is left in this many bits exactly if it may take as many
pub length_from : (row : Layout) (len : ℕ) → IsTrue (looks None row) → Goes (ReadsIn row len) → LengthsBy row 0 len
length_from row len look (r, is) = (lengths_by row 0 len).1 (r, (by_number row None [] tt look r).0 is.0, is.1)

pub goes_from : (row : Layout) (len : ℕ) → IsTrue (looks None row) → LengthsBy row 0 len → Goes (ReadsIn row len)
goes_from row len look x =
    let t = (lengths_by row 0 len).0 x in
    (t.0, ((by_number row None [] tt look t.0).1 t.1, t.2))

rest_length : (q m : ℕ) → IsTrue (admits Q_DIFF q) → LengthsBy (guarded (is_zero Q_DIFF) (one NC_CDDIFF whole) (guarded (is_one_or_two Q_DIFF) (one NC_DIFF whole) (one V_DIFF whole))) q m → m ≡ 11
unfolding LengthsBy
rest_length zero m ok (a, b, (k, j, o, z, e), (k', j', o', z', e'), is) =
    let x : 4 + j ≡ a = e in
    let y : 7 + j' ≡ b = e' in
    omega (arith, z, x, z', y, is)
rest_length (suc zero) m ok (a, b, (k, j, o, z, e), (k', j', o', z', e'), is) =
    let x : 4 + j ≡ a = e in
    let y : 7 + j' ≡ b = e' in
    omega (arith, z, x, z', y, is)
rest_length (suc (suc zero)) m ok (a, b, (k, j, o, z, e), (k', j', o', z', e'), is) =
    let x : 4 + j ≡ a = e in
    let y : 7 + j' ≡ b = e' in
    omega (arith, z, x, z', y, is)
rest_length (suc (suc (suc q))) m ok x = let p = few (suc (suc (suc q))) ok in absurd (omega (arith, p))

differing_length : (n m : ℕ) → LengthsBy differing n m → m ≡ 13
unfolding LengthsBy
differing_length n m (q, j, ok, x, e) = let t = rest_length q j ok x in let w : 2 + j ≡ m = e in omega (arith, t, w)

-- what may be left before a speed for some trains may be left after it
pub differing_left : (n len : ℕ) (tail : Layout) → Open tail → LengthsBy (onto n differing tail) 0 len → LengthsBy tail 0 (len - 13)
differing_left n len tail free x =
    let parts = (lengths-onto differing tail n free len).0 x in
    let t = differing_length n parts.0 parts.2 in
    subst (λ k. LengthsBy tail 0 k) (let e = parts.4 in omega (arith, t, e)) parts.3

-- ---- At a place.

-- numbers that were put after others one after another
pub three_pushed : (old a b new : List ℕ) (x y z : ℕ) → a ≡ old ++ x ∷ [] → b ≡ a ++ y ∷ [] → new ≡ b ++ z ∷ [] → new ≡ old ++ x ∷ y ∷ z ∷ []
three_pushed old a b new x y z ea eb e =
    let two : b ≡ old ++ x ∷ y ∷ [] = eb ∙ ap (λ (t : List ℕ). t ++ y ∷ []) ea ∙ append_assoc old (x ∷ []) (y ∷ []) in
    e ∙ ap (λ (t : List ℕ). t ++ z ∷ []) two ∙ append_assoc old (x ∷ y ∷ []) (z ∷ [])

pub four_pushed : (old a b c new : List ℕ) (x y z u : ℕ) → old ≡ [] → a ≡ old ++ x ∷ [] → b ≡ a ++ y ∷ [] → c ≡ b ++ z ∷ [] → new ≡ c ++ u ∷ [] → new ≡ x ∷ y ∷ z ∷ u ∷ []
four_pushed old a b c new x y z u none ea eb ec e =
    let three : c ≡ x ∷ y ∷ z ∷ [] = three_pushed old a b c x y z ea eb ec ∙ ap (λ (t : List ℕ). t ++ x ∷ y ∷ z ∷ []) none in
    e ∙ ap (λ (t : List ℕ). t ++ u ∷ []) three

-- a place after what was taken looks well
pub taken_looks : (row left new : Layout) (len bits : ℕ) (xs : List Bool) (at count : ℕ) (f : List ℕ) → IsTrue (looks None row) → TakenTo row len xs at count f left bits → new ≡ left → IsTrue (looks None new)
taken_looks row left new len bits xs at count f look t is = subst (λ (x : Layout). IsTrue (looks None x)) (sym is) (read_looks row left len bits t.run look t.read)

-- the same of a place whose row and what is left of it are known as others
pub place_run : (row same left new : Layout) (len bits : ℕ) (xs : List Bool) (at count : ℕ) (f : List ℕ) → IsTrue (looks None row) → TakenTo row len xs at count f left bits → row ≡ same → new ≡ left → RunsTo same len xs at count f new bits
place_run row same left new len bits xs at count f look t is left_is =
    subst (λ (x : Layout). RunsTo x len xs at count f new bits) is (subst (λ (x : Layout). RunsTo row len xs at count f x bits) (sym left_is) (taken_run row left len bits xs at count f look t))

pub place_goes : (row same left new : Layout) (len bits : ℕ) → IsTrue (looks None row) → IsTrue (looks None new) → row ≡ same → new ≡ left → (LengthsBy row 0 len → LengthsBy left 0 bits) → Goes (ReadsIn same len) → Goes (ReadsIn new bits)
place_goes row same left new len bits look new_look is left_is lengths goes =
    let before : Goes (ReadsIn row len) = subst (λ (x : Layout). Goes (ReadsIn x len)) (sym is) goes in
    goes_from new bits new_look (subst (λ (x : Layout). LengthsBy x 0 bits) (sym left_is) (lengths (length_from row len look before)))

-- what is taken of all of the current list leaves what the groups that wait leave
pub list_taken : (c : Cursor) (row : Layout) (len n : ℕ) (xs : List Bool) (at : ℕ) (f : List ℕ) → layout c.items.now ≡ row → n ≤ len → ((k : ℕ) → ListIn row k xs at n f) → TakenTo (left_of c) len xs at n f (waiting (reverse c.pending.items)) (len - n)
list_taken c row len n xs at f is within all =
    let tail = waiting (reverse c.pending.items) in
    let t = all c.before tail (len - n) (Open-waiting (reverse c.pending.items)) in
    let size : n + (len - n) ≡ len = omega (arith, within) in
    subst (λ (x : Layout). TakenTo (onto c.before x tail) len xs at n f tail (len - n)) (sym is) (subst (λ m. TakenTo (onto c.before row tail) m xs at n f tail (len - n)) size t)

pub list_left : (c : Cursor) (len : ℕ) → layout c.items.now ≡ differing → LengthsBy (left_of c) 0 len → LengthsBy (waiting (reverse c.pending.items)) 0 (len - 13)
list_left c len is x =
    let tail = waiting (reverse c.pending.items) in
    differing_left c.before len tail (Open-waiting (reverse c.pending.items)) (subst (λ (y : Layout). LengthsBy (onto c.before y tail) 0 len) is x)
