-- What is left of a row, as a sum whose parts are added one after another.
use Rattle.std.proofs.Common.{◌≡◌, ℕ, ◌+◌, ◌-◌, ◌*◌, ◌<◌, ◌≤◌, min, List, [], ◌∷◌, ◌++◌, length, reverse, Bool, Option, Some, None, refl, sym, ◌∙◌, subst, arith, inl, inr}
use Rattle.std.specs.Prelude.{◌↔◌, ◌⊎◌, IsTrue, IfSome}
use Rattle.std.proofs.lemmas.Bool.{cases_lt}
use Rattle.etcs_vars.specs.declared.var.Var.{Var}
use Rattle.etcs_vars.specs.Vars.{width, admits}
use Rattle.etcs_tables.specs.declared.item.RowItem.{RowItem}
use Rattle.etcs_tables.specs.declared.item.RowItem.TheVariants.{One}
use Rattle.etcs_rows.specs.declared.place.Pending.{Pending}
use Rattle.etcs_rows.specs.declared.place.Cursor.{Cursor}
use Rattle.etcs_rows.specs.declared.progression.Progression.{Progression}
use Rattle.etcs_rows.specs.declared.total.Total.{Total}
use Rattle.etcs_tables.specs.Layouts.{Layout, whole, layout}
use Rattle.etcs_rows.specs.Places.{onto, append}
use Rattle.etcs_rows.specs.Cursors.{waiting, left_of, WaitsNest, KnowsTail}
use Rattle.etcs_rows.specs.Lengths.{LengthsBy, front, beyond, GroupsWithin, FirstWithin, FitsWithin}
use Rattle.etcs_rows.specs.Progressions.{InProgression, IsProgression, AtMost}
use Rattle.etcs_rows.specs.Totals.{InTotal, AreTotal}
use Rattle.etcs_rows.specs.Sums.{Plus, SumOf}
use Rattle.etcs_rows.specs.Waiting.{Agains, Tails, Onward}
use Rattle.etcs_rows.specs.declared.head.Looked.{Looked}
use Rattle.etcs_rows.specs.Heads.{AfterLooked}
use Rattle.etcs_rows.proofs.CursorLemmas.{reverse-push}
use Rattle.etcs_rows.proofs.PlaceLemmas.{Open-onto, Open-waiting}
use Rattle.etcs_rows.proofs.LengthLemmas.{SameSet, set_along, set_back, set_self, Plus-same, lengths-onto, lengths-append, lengths-iterate}
use Rattle.etcs_rows.proofs.SumLemmas.{lengths-parts, first_and_tail, no_items}
use Rattle.etcs_rows.proofs.RowSums.{Plus-assoc, zero-Plus, Plus-zero, whole_sum, first_sum}
use Rattle.etcs_rows.proofs.TotalLemmas.{total_first}
use Rattle.etcs_rows.proofs.StepSums.{plus_are}

-- ---- Sums.

-- two sums of two, added crosswise
cross : (G A I T : ℕ → Type 0) → SameSet (Plus G (Plus I (Plus A T))) (Plus (Plus G A) (Plus I T))
cross G A I T m = (
  λ (g, x, pg, (i, y, pi, (a, t, pa, pt, e), f), h). (g + a, i + t, (g, a, pg, pa, refl), (i, t, pi, pt, refl), (let k : g + a + (i + t) ≡ m = omega (arith, e, f, h) in k)),
  λ (x, y, (g, a, pg, pa, e), (i, t, pi, pt, f), h). (g, i + (a + t), pg, (i, a + t, pi, (a, t, pa, pt, refl), refl), (let k : g + (i + (a + t)) ≡ m = omega (arith, e, f, h) in k)),
)

-- what waits goes in front
pub waiting_first : (A R T : ℕ → Type 0) → SameSet (Plus A (Plus R T)) (Plus R (Plus A T))
waiting_first A R T m = (
  λ (a, x, pa, (r, t, pr, pt, e), f). (r, a + t, pr, (a, t, pa, pt, refl), (let k : r + (a + t) ≡ m = omega (arith, e, f) in k)),
  λ (r, x, pr, (a, t, pa, pt, e), f). (a, r + t, pa, (r, t, pr, pt, refl), (let k : a + (r + t) ≡ m = omega (arith, e, f) in k)),
)

-- two parts that change places with two others
pub exchanged : (N O S M X : ℕ → Type 0) → SameSet (Plus N O) (Plus S M) → SameSet (Plus N (Plus O X)) (Plus S (Plus M X))
exchanged N O S M X same =
    set_along (Plus N (Plus O X)) (Plus (Plus N O) X) (Plus S (Plus M X)) (set_back (Plus (Plus N O) X) (Plus N (Plus O X)) (Plus-assoc N O X))
    (set_along (Plus (Plus N O) X) (Plus (Plus S M) X) (Plus S (Plus M X)) (Plus-same (Plus N O) X (Plus S M) X same (set_self X)) (Plus-assoc S M X))

-- ---- Answers.

pub answer_same : (r : Option Bool) (P Q : Type 0) → (P ↔ Q) → IfSome r (λ b. IsTrue b ↔ P) → IfSome r (λ b. IsTrue b ↔ Q)
answer_same None P Q same h = tt
answer_same (Some b) P Q same h = (λ x. same.0 (h.0 x), λ y. h.1 (same.1 y))

-- a part by another name, in front of what follows groups
pub chosen : (S A G : ℕ → Type 0) (items : List RowItem) (row : Layout) (ps : List Pending) → SameSet A G → layout items ≡ beyond row
    → SameSet (Plus S (Plus A (Onward items ps))) (Plus S (Plus G (Plus (LengthsBy (beyond row) 0) (Tails (reverse ps)))))
chosen S A G items row ps same is =
    let X = Onward items ps in
    subst (λ (x : Layout). SameSet (Plus S (Plus A X)) (Plus S (Plus G (Plus (LengthsBy x 0) (Tails (reverse ps)))))) is
    (Plus-same S (Plus A X) S (Plus G X) (set_self S) (Plus-same A X G X same (set_self X)))

-- no number of a total is below its first one
pub past_first : (t : Total) (B : ℕ → Type 0) (m : ℕ) → Plus (InTotal t) B m → t.steps.first ≤ m
past_first t B m (j, k, a, b, e) = let l = total_first t j a in omega (arith, l, e)

-- ---- One variable after the other.

pub onward_end : (items : List RowItem) (ps : List Pending) → layout items ≡ whole → SameSet (Tails (reverse ps)) (Onward items ps)
onward_end items ps e =
    let T = Tails (reverse ps) in
    set_along T (Plus (λ m. m ≡ 0) T) (Onward items ps) (zero-Plus T) (Plus-same (λ m. m ≡ 0) T (LengthsBy (layout items) 0) T (whole_sum (layout items) 0 e) (set_self T))

-- nothing is left
pub onward_none : (A S M : ℕ → Type 0) (items : List RowItem) (ps : List Pending) → length items ≡ 0 → length ps ≡ 0 → SameSet A (Plus S M) → SameSet A (Plus S (Plus M (Onward items ps)))
onward_none A S M items [] none e h =
    let Z : ℕ → Type 0 = λ m. m ≡ 0 in let X = Onward items [] in
    set_along A (Plus S M) (Plus S (Plus M X)) h
    (Plus-same S M S (Plus M X) (set_self S)
    (set_along M (Plus M Z) (Plus M X) (Plus-zero M) (Plus-same M Z M X (set_self M) (onward_end items [] (no_items items none)))))
onward_none A S M items (p ∷ ps) none e h = absurd (omega (arith, e))

-- nothing waits
pub tails_none : (S : ℕ → Type 0) (ps : List Pending) → length ps ≡ 0 → SameSet S (Plus S (Tails (reverse ps)))
tails_none S [] e = Plus-zero S
tails_none S (p ∷ ps) e = absurd (omega (arith, e))

-- a part that is moved into the sum
pub moved : (A S W R T L : ℕ → Type 0) → SameSet A (Plus S W) → SameSet (Plus W R) L → SameSet (Plus A (Plus R T)) (Plus S (Plus L T))
moved A S W R T L hs same =
    set_along (Plus A (Plus R T)) (Plus (Plus S W) (Plus R T)) (Plus S (Plus L T)) (Plus-same A (Plus R T) (Plus S W) (Plus R T) hs (set_self (Plus R T)))
    (set_along (Plus (Plus S W) (Plus R T)) (Plus S (Plus W (Plus R T))) (Plus S (Plus L T)) (Plus-assoc S W (Plus R T))
    (Plus-same S (Plus W (Plus R T)) S (Plus L T) (set_self S)
    (set_along (Plus W (Plus R T)) (Plus (Plus W R) T) (Plus L T) (set_back (Plus (Plus W R) T) (Plus W (Plus R T)) (Plus-assoc W R T)) (Plus-same (Plus W R) T L T same (set_self T)))))

-- the variables in front
pub led : (S A : ℕ → Type 0) (wide : Progression) (items : List RowItem) (looked : Option Looked) (ps : List Pending) (width : ℕ) → IsProgression wide (λ k. k ≡ width) → SameSet A (Plus S (InProgression wide)) → SameSet (LengthsBy (layout items) 0) (Plus (λ k. k ≡ width) (AfterLooked looked))
    → SameSet (Plus A (Plus (AfterLooked looked) (Tails (reverse ps)))) (Plus S (Onward items ps))
led S A wide items looked ps width hw hs same =
    let W : ℕ → Type 0 = λ k. k ≡ width in let R = AfterLooked looked in let L = LengthsBy (layout items) 0 in
    let has : SameSet A (Plus S W) = set_along A (Plus S (InProgression wide)) (Plus S W) hs (Plus-same S (InProgression wide) S W (set_self S) hw) in
    moved A S W R (Tails (reverse ps)) L has (set_back L (Plus W R) same)

-- the same with a part of two parts
pub moved_two : (A S W G B T L : ℕ → Type 0) → SameSet A (Plus S W) → SameSet (Plus W (Plus G B)) L → SameSet (Plus A (Plus G (Plus B T))) (Plus S (Plus L T))
moved_two A S W G B T L hs same =
    set_along (Plus A (Plus G (Plus B T))) (Plus A (Plus (Plus G B) T)) (Plus S (Plus L T))
    (Plus-same A (Plus G (Plus B T)) A (Plus (Plus G B) T) (set_self A) (set_back (Plus (Plus G B) T) (Plus G (Plus B T)) (Plus-assoc G B T)))
    (moved A S W (Plus G B) T L hs same)

-- after the innermost group that waits
pub leave_sum : (g : Progression) (p : Pending) (outer ps : List Pending) (items : List RowItem) → ps ≡ outer ++ p ∷ [] → IsProgression g (LengthsBy (front (layout p.items.now)) p.before) → layout items ≡ beyond (layout p.items.now)
    → SameSet (Plus (InProgression g) (Onward items outer)) (Tails (reverse ps))
leave_sum g p outer ps items e hg is =
    let row = layout p.items.now in let n = p.before in let T = Tails (reverse outer) in
    let F = LengthsBy (front row) n in let B = LengthsBy (beyond row) 0 in
    rw (e, reverse-push, is) (set_along (Plus (InProgression g) (Plus B T)) (Plus F (Plus B T)) (Plus (LengthsBy row n) T)
    (Plus-same (InProgression g) (Plus B T) F (Plus B T) hg (set_self (Plus B T)))
    (set_along (Plus F (Plus B T)) (Plus (Plus F B) T) (Plus (LengthsBy row n) T) (set_back (Plus (Plus F B) T) (Plus F (Plus B T)) (Plus-assoc F B T))
    (Plus-same (Plus F B) T (LengthsBy row n) T (set_back (LengthsBy row n) (Plus F B) (lengths-parts row n)) (set_self T))))

-- and where nothing is after it
pub leave_empty : (p : Pending) (outer ps : List Pending) → ps ≡ outer ++ p ∷ [] → layout p.items.now ≡ whole → SameSet (Tails (reverse outer)) (Tails (reverse ps))
leave_empty p outer ps e none =
    let T = Tails (reverse outer) in
    rw (e, reverse-push) (set_along T (Plus (λ m. m ≡ 0) T) (Plus (LengthsBy (layout p.items.now) p.before) T) (zero-Plus T) (Plus-same (λ m. m ≡ 0) T (LengthsBy (layout p.items.now) p.before) T (whole_sum (layout p.items.now) p.before none) (set_self T)))

-- ---- Numbers one after another.

-- a part that is in another
pub part_along : (S X A B : ℕ → Type 0) → ((m : ℕ) → A m → B m) → (m : ℕ) → Plus S (Plus A X) m → Plus S (Plus B X) m
part_along S X A B f m (i, y, s, (j, k, a, x, e), t) = (i, y, s, (j, k, f j a, x, e), t)

pub part_same : (S X A B : ℕ → Type 0) → SameSet A B → SameSet (Plus S (Plus A X)) (Plus S (Plus B X))
part_same S X A B same m = (part_along S X A B (λ k. (same k).0) m, part_along S X B A (λ k. (same k).1) m)

-- a part that is one of two
pub part_either : (S X A B : ℕ → Type 0) (m : ℕ) → (Plus S (Plus A X) m ⊎ Plus S (Plus B X) m) ↔ Plus S (Plus (λ k. A k ⊎ B k) X) m
part_either S X A B m = (
  λ h. elim h [
    | inl x ↦ part_along S X A (λ k. A k ⊎ B k) (λ k a. inl a) m x
    | inr x ↦ part_along S X B (λ k. A k ⊎ B k) (λ k a. inr a) m x
  ],
  λ (i, y, s, (j, k, h, x, e), t). elim h [
    | inl a ↦ inl (i, y, s, (j, k, a, x, e), t)
    | inr a ↦ inr (i, y, s, (j, k, a, x, e), t)
  ],
)

pub part_more : (S X A B C : ℕ → Type 0) → ((m : ℕ) → (A m ⊎ B m) ↔ C m) → (m : ℕ) → (Plus S (Plus A X) m ⊎ Plus S (Plus B X) m) ↔ Plus S (Plus C X) m
part_more S X A B C same m = (
  λ y. part_along S X (λ k. A k ⊎ B k) C (λ k. (same k).0) m ((part_either S X A B m).0 y),
  λ y. (part_either S X A B m).1 (part_along S X C (λ k. A k ⊎ B k) (λ k. (same k).1) m y),
)

-- the sets of the family F at the admitted numbers from low to below next
pub record SetsTo (v : Var) (F : ℕ → ℕ → Type 0) (low next m : ℕ) : Type 0 where
  pub number : ℕ
  pub above : low ≤ number
  pub below : number < next
  pub admitted : IsTrue (admits v number)
  pub is : F number m

pub sets_none : (v : Var) (F : ℕ → ℕ → Type 0) (low m : ℕ) → SetsTo v F low low m → ⊥
sets_none v F low m h = absurd (omega (arith, h.above, h.below))

sets_longer : (v : Var) (F : ℕ → ℕ → Type 0) (low n m : ℕ) → SetsTo v F low n m → SetsTo v F low (n + 1) m
sets_longer v F low n m h = record { number = h.number; above = h.above; below = omega (arith, h.below); admitted = h.admitted; is = h.is }

-- one more number
pub sets_more : (v : Var) (F : ℕ → ℕ → Type 0) (G : ℕ → Type 0) (low n m : ℕ) → low ≤ n → IsTrue (admits v n) → SameSet G (F n) → (SetsTo v F low n m ⊎ G m) ↔ SetsTo v F low (n + 1) m
sets_more v F G low n m l ok same = (
  λ x. elim x [
    | inl h ↦ sets_longer v F low n m h
    | inr h ↦ record { number = n; above = l; below = omega arith; admitted = ok; is = (same m).0 h }
  ],
  λ h. elim (cases_lt h.number n) [
    | inl under ↦ inl (record { number = h.number; above = h.above; below = under; admitted = h.admitted; is = h.is })
    | inr over ↦ (let at : h.number ≡ n = omega (arith, h.below, over) in inr ((same m).1 (subst (λ i. F i m) at h.is)))
  ],
)

-- a number that isn't admitted
pub sets_skip : (v : Var) (F : ℕ → ℕ → Type 0) (low n m : ℕ) → (IsTrue (admits v n) → ⊥) → SetsTo v F low n m ↔ SetsTo v F low (n + 1) m
sets_skip v F low n m not = (
  sets_longer v F low n m,
  λ h. elim (cases_lt h.number n) [
    | inl under ↦ record { number = h.number; above = h.above; below = under; admitted = h.admitted; is = h.is }
    | inr over ↦ absurd (let at : h.number ≡ n = omega (arith, h.below, over) in not (subst (λ i. IsTrue (admits v i)) at h.admitted))
  ],
)

pub sets_in : (v : Var) (rest : Layout) (low high next m : ℕ) → ((n : ℕ) → low ≤ n → n < next → n ≤ high) → SetsTo v (λ n. LengthsBy (front rest) n) low next m → GroupsWithin v rest low high m
sets_in v rest low high next m within h = (h.number, h.above, within h.number h.above h.below, h.admitted, h.is)

-- all of them
pub sets_all : (v : Var) (rest : Layout) (low high next m : ℕ) → ((n : ℕ) → low ≤ n → n < next → n ≤ high) → ((n : ℕ) → low ≤ n → n ≤ high → IsTrue (admits v n) → n < next) → SetsTo v (λ n. LengthsBy (front rest) n) low next m ↔ GroupsWithin v rest low high m
sets_all v rest low high next m within all = (
  sets_in v rest low high next m within,
  λ (n, l, u, ok, f). record { number = n; above = l; below = all n l u ok; admitted = ok; is = f },
)

-- a number alone that isn't admitted
pub groups_not : (v : Var) (rest : Layout) (S X : ℕ → Type 0) (low high : ℕ) → low ≡ high → (IsTrue (admits v low) → ⊥) → (m : ℕ) → Plus S (Plus (GroupsWithin v rest low high) X) m → ⊥
groups_not v rest S X low high e not m (i, y, s, (j, k, (n, l, u, a, f), x, d), t) = let same : n ≡ low = omega (arith, l, u, e) in not (subst (λ i. IsTrue (admits v i)) same a)

-- the numbers of the steps below the next index
pub record StepsTo (more : Progression) (next m : ℕ) : Type 0 where
  pub index : ℕ
  pub below : index < next
  pub is : more.first + index * more.step ≡ m

pub steps_none : (more : Progression) (m : ℕ) → StepsTo more 0 m → ⊥
steps_none more m h = absurd (omega (arith, h.below))

-- one more of them, as the code adds it
pub steps_more : (more single : Progression) (A S X : ℕ → Type 0) (k x m : ℕ) → more.first + k * more.step ≡ x → IsProgression single (λ j. j ≡ x) → SameSet A (Plus S (InProgression single))
    → (Plus S (Plus (StepsTo more k) X) m ⊎ Plus A X m) ↔ Plus S (Plus (StepsTo more (k + 1)) X) m
steps_more more single A S X k x m at is hs =
    let N : ℕ → Type 0 = λ j. j ≡ x in
    let one : SameSet (Plus A X) (Plus S (Plus N X)) =
    set_along (Plus A X) (Plus (Plus S N) X) (Plus S (Plus N X))
    (Plus-same A X (Plus S N) X (set_along A (Plus S (InProgression single)) (Plus S N) hs (Plus-same S (InProgression single) S N (set_self S) is)) (set_self X))
    (Plus-assoc S N X) in
    let both : SameSet (λ j. StepsTo more k j ⊎ N j) (StepsTo more (k + 1)) = λ j. (
      λ y. elim y [
        | inl h ↦ record { index = h.index; below = omega (arith, h.below); is = h.is }
        | inr e ↦ record { index = k; below = omega arith; is = at ∙ sym e }
      ],
      λ h. elim (cases_lt h.index k) [
        | inl under ↦ inl (record { index = h.index; below = under; is = h.is })
        | inr over ↦ inr (let same : h.index ≡ k = omega (arith, h.below, over) in sym h.is ∙ subst (λ i. more.first + i * more.step ≡ x) (sym same) at)
      ],
    ) in (
      λ y. (part_same S X (λ j. StepsTo more k j ⊎ N j) (StepsTo more (k + 1)) both m).0
          ((part_either S X (StepsTo more k) N m).0 (elim y [ inl h ↦ inl h | inr a ↦ inr ((one m).0 a) ])),
      λ y. elim ((part_either S X (StepsTo more k) N m).1 ((part_same S X (λ j. StepsTo more k j ⊎ N j) (StepsTo more (k + 1)) both m).1 y)) [
        | inl h ↦ inl h
        | inr a ↦ inr ((one m).1 a)
      ],
    )

pub steps_in : (more : Progression) (next m : ℕ) → next ≤ more.count + 1 → StepsTo more next m → InProgression more m
unfolding InProgression
steps_in more next m l h = (h.index, omega (arith, h.below, l), h.is)

-- all of them
pub steps_all : (more : Progression) (next : ℕ) → next ≡ more.count + 1 → SameSet (StepsTo more next) (InProgression more)
unfolding InProgression
steps_all more next e m = (
  λ h. (h.index, (let t : h.index ≤ more.count = omega (arith, h.below, e) in t), h.is),
  λ (k, l, is). record { index = k; below = omega (arith, l, e); is = is },
)

-- ---- All that is left.

-- the groups that wait, and what is after them
waiting_split : (ps : List Pending) → SameSet (LengthsBy (waiting ps) 0) (Plus (Agains ps) (Tails ps))
waiting_split [] = set_along (LengthsBy whole 0) (λ m. m ≡ 0) (Plus (λ m. m ≡ 0) (λ m. m ≡ 0)) (set_back (λ m. m ≡ 0) (LengthsBy whole 0) (whole_sum whole 0 refl)) (zero-Plus (λ m. m ≡ 0))
waiting_split (p ∷ ps) =
    let n = p.before in let group = layout p.group.now in let items = layout p.items.now in
    let G = SumOf p.times (LengthsBy group n) in let I = LengthsBy items n in let A = Agains ps in let T = Tails ps in
    let W = LengthsBy (waiting ps) 0 in
    let X = onto n items (waiting ps) in
    set_along (LengthsBy (waiting (p ∷ ps)) 0) (Plus G (LengthsBy X 0)) (Plus (Plus G A) (Plus I T)) (lengths-iterate p.times n group X (Open-onto n items (waiting ps) (Open-waiting ps)))
    (set_along (Plus G (LengthsBy X 0)) (Plus G (Plus I (Plus A T))) (Plus (Plus G A) (Plus I T))
    (Plus-same G (LengthsBy X 0) G (Plus I (Plus A T)) (set_self G)
    (set_along (LengthsBy X 0) (Plus I W) (Plus I (Plus A T)) (lengths-onto items (waiting ps) n (Open-waiting ps)) (Plus-same I W I (Plus A T) (set_self I) (waiting_split ps))))
    (cross G A I T))

-- what is left, where the groups that wait come first
pub reaches_sum : (c : Cursor) (again g : Progression) (items : List RowItem) → IsProgression again (Agains (reverse c.pending.items)) → IsProgression g (LengthsBy (front (layout c.items.now)) c.before) → layout items ≡ beyond (layout c.items.now)
    → SameSet (Plus (InProgression again) (Plus (InProgression g) (Onward items c.pending.items))) (LengthsBy (left_of c) 0)
reaches_sum c again g items ha hg is =
    let row = layout c.items.now in let n = c.before in let ps = reverse c.pending.items in
    let A = Agains ps in let T = Tails ps in let F = LengthsBy (front row) n in let B = LengthsBy (beyond row) 0 in let L = LengthsBy row n in let W = LengthsBy (waiting ps) 0 in
    rw is (set_along (Plus (InProgression again) (Plus (InProgression g) (Plus B T))) (Plus A (Plus L T)) (LengthsBy (left_of c) 0)
    (Plus-same (InProgression again) (Plus (InProgression g) (Plus B T)) A (Plus L T) ha
    (set_along (Plus (InProgression g) (Plus B T)) (Plus (Plus (InProgression g) B) T) (Plus L T) (set_back (Plus (Plus (InProgression g) B) T) (Plus (InProgression g) (Plus B T)) (Plus-assoc (InProgression g) B T))
    (Plus-same (Plus (InProgression g) B) T L T (set_along (Plus (InProgression g) B) (Plus F B) L (Plus-same (InProgression g) B F B hg (set_self B)) (set_back L (Plus F B) (lengths-parts row n))) (set_self T))))
    (set_along (Plus A (Plus L T)) (Plus L (Plus A T)) (LengthsBy (left_of c) 0) (waiting_first A L T)
    (set_along (Plus L (Plus A T)) (Plus L W) (LengthsBy (left_of c) 0) (Plus-same L (Plus A T) L W (set_self L) (set_back W (Plus A T) (waiting_split ps)))
    (set_back (LengthsBy (left_of c) 0) (Plus L W) (lengths-onto row (waiting ps) n (Open-waiting ps))))))

-- numbers that are near enough to the greatest
pub meets_sum : (A Y L : ℕ → Type 0) (t : Total) (low high most : ℕ) → AreTotal t (Plus A (AtMost (high - low))) → SameSet (Plus A Y) L → low ≤ high → high ≡ min most 8191
    → Plus (InTotal t) Y high ↔ ((m : ℕ) × L m × (m ≤ 8191) × (low ≤ m) × (m ≤ most))
meets_sum A Y L t low high most ht same le is = (
  λ (x, y, pt, py, e).
      let (a, k, pa, pk, f) = (ht x).0 pt in let near : k ≤ high - low = pk in
      (a + y, (same (a + y)).0 (a, y, pa, py, refl), (let g : a + y ≤ 8191 = omega (arith, e, f, is) in g), (let g : low ≤ a + y = omega (arith, e, f, near, le) in g), (let g : a + y ≤ most = omega (arith, e, f, is) in g)),
  λ (m, l, small, above, below).
      let (a, y, pa, py, e) = (same m).1 l in
      let k = high - m in
      let near : k ≤ high - low = omega (arith, above) in
      (a + k, y, (ht (a + k)).1 (a, k, pa, near, refl), py, (let g : a + k + y ≡ high = omega (arith, e, is, small, below) in g)),
)

-- the same, where a variable comes next
pub fits_sum : (c : Cursor) (v : Var) (rest : List RowItem) (low high m : ℕ) (again : Progression) (S : ℕ → Type 0) → c.items.now ≡ One v ∷ rest → IsProgression again (Agains (reverse c.pending.items)) → SameSet S (Plus (InProgression again) (λ k. k ≡ width v)) → m ≤ 8191
    → Plus S (Plus (GroupsWithin v (layout rest) low high) (Plus (LengthsBy (beyond (layout rest)) 0) (Tails (reverse c.pending.items)))) m ↔ FitsWithin (left_of c) low high m
fits_sum c v rest low high m again S e ha hs small =
    let ps = reverse c.pending.items in let row = layout rest in
    let A = Agains ps in let T = Tails ps in let G = GroupsWithin v row low high in let B = LengthsBy (beyond row) 0 in let L = FirstWithin v row low high in let W = LengthsBy (waiting ps) 0 in
    let all : SameSet (Plus S (Plus G (Plus B T))) (FirstWithin v (append row (waiting ps)) low high) =
    set_along (Plus S (Plus G (Plus B T))) (Plus (InProgression again) (Plus L T)) (FirstWithin v (append row (waiting ps)) low high)
    (moved_two S (InProgression again) (λ k. k ≡ width v) G B T L hs (first_sum v row low high))
    (set_along (Plus (InProgression again) (Plus L T)) (Plus A (Plus L T)) (FirstWithin v (append row (waiting ps)) low high) (Plus-same (InProgression again) (Plus L T) A (Plus L T) ha (set_self (Plus L T)))
    (set_along (Plus A (Plus L T)) (Plus L (Plus A T)) (FirstWithin v (append row (waiting ps)) low high) (waiting_first A L T)
    (set_along (Plus L (Plus A T)) (Plus L W) (FirstWithin v (append row (waiting ps)) low high) (Plus-same L (Plus A T) L W (set_self L) (set_back W (Plus A T) (waiting_split ps)))
    (set_back (FirstWithin v (append row (waiting ps)) low high) (Plus L W) (first_and_tail v row (waiting ps) low high (Open-waiting ps)))))) in
    rw e (λ x. ((all m).0 x, small), λ (x, l). (all m).1 x)

-- ---- One number, and all that may be left after it.

-- the groups that wait, by the innermost of them and the rest
pub waiting_last : (p : Pending) (ps : List Pending) → SameSet (Plus (SumOf p.times (LengthsBy (layout p.group.now) p.before)) (Plus (LengthsBy (layout p.items.now) p.before) (LengthsBy (waiting ps) 0))) (LengthsBy (waiting (p ∷ ps)) 0)
waiting_last p ps =
    let n = p.before in let group = layout p.group.now in let items = layout p.items.now in
    let G = SumOf p.times (LengthsBy group n) in let I = LengthsBy items n in let W = LengthsBy (waiting ps) 0 in
    let X = onto n items (waiting ps) in
    set_along (Plus G (Plus I W)) (Plus G (LengthsBy X 0)) (LengthsBy (waiting (p ∷ ps)) 0)
    (Plus-same G (Plus I W) G (LengthsBy X 0) (set_self G) (set_back (LengthsBy X 0) (Plus I W) (lengths-onto items (waiting ps) n (Open-waiting ps))))
    (set_back (LengthsBy (waiting (p ∷ ps)) 0) (Plus G (LengthsBy X 0)) (lengths-iterate p.times n group X (Open-onto n items (waiting ps) (Open-waiting ps))))

pub waits_none : (s : Progression) (ps : List Pending) → length ps ≡ 0 → IsProgression s (λ m. m ≡ 0) → IsProgression s (LengthsBy (waiting (reverse ps)) 0)
waits_none s [] e h = set_along (InProgression s) (λ m. m ≡ 0) (LengthsBy whole 0) h (whole_sum whole 0 refl)
waits_none s (p ∷ ps) e h = absurd (omega (arith, e))

known_tail : (p : Pending) (outer ps : List Pending) → ps ≡ outer ++ p ∷ [] → WaitsNest (reverse ps) → KnowsTail p (reverse outer)
known_tail p outer ps e waits = let h : WaitsNest (p ∷ reverse outer) = rw (e, reverse-push) at waits in h.3

pub waits_known : (r : Option Progression) (again tail : Progression) (p : Pending) (outer ps : List Pending) → ps ≡ outer ++ p ∷ [] → WaitsNest (reverse ps) → p.tail ≡ Some tail → IsProgression again (SumOf p.times (LengthsBy (layout p.group.now) p.before))
    → IfSome r (λ s. IsProgression s (Plus (InProgression again) (InProgression tail))) → IfSome r (λ s. IsProgression s (LengthsBy (waiting (reverse ps)) 0))
waits_known r again tail p outer ps e waits is ha h =
    let T = Plus (LengthsBy (layout p.items.now) p.before) (LengthsBy (waiting (reverse outer)) 0) in
    let ht : IsProgression tail T = subst (λ (o : Option Progression). IfSome o (λ s. IsProgression s T)) is (known_tail p outer ps e waits) in
    rw (e, reverse-push) (plus_are r again tail (SumOf p.times (LengthsBy (layout p.group.now) p.before)) T (LengthsBy (waiting (p ∷ reverse outer)) 0) ha ht (waiting_last p (reverse outer)) h)

pub fits_number : (c : Cursor) (v : Var) (rest : List RowItem) (n m : ℕ) (left : Progression) → c.items.now ≡ One v ∷ rest → IsProgression left (Plus (LengthsBy (layout rest) n) (LengthsBy (waiting (reverse c.pending.items)) 0))
    → (IsTrue (admits v n) × ((j : ℕ) × InProgression left j × (width v + j ≡ m)) × (m ≤ 8191)) ↔ FitsWithin (left_of c) n n m
fits_number c v rest n m left e h =
    let tail = waiting (reverse c.pending.items) in
    let all : SameSet (InProgression left) (LengthsBy (append (layout rest) tail) n) =
    set_along (InProgression left) (Plus (LengthsBy (layout rest) n) (LengthsBy tail 0)) (LengthsBy (append (layout rest) tail) n) h
    (set_back (LengthsBy (append (layout rest) tail) n) (Plus (LengthsBy (layout rest) n) (LengthsBy tail 0)) (lengths-append (layout rest) tail n (Open-waiting (reverse c.pending.items)))) in
    rw e (
      λ (ok, (j, i, f), small). ((n, j, (let t : n ≤ n = omega arith in t), (let t : n ≤ n = omega arith in t), ok, (all j).0 i, f), small),
      λ ((k, j, l, u, ok, x, f), small).
          let same : k ≡ n = omega (arith, l, u) in
          (subst (λ i. IsTrue (admits v i)) same ok, (j, (all j).1 (subst (λ i. LengthsBy (append (layout rest) tail) i j) same x), f), small),
    )
