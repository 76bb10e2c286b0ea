use Rattle.std.proofs.Common.{Some, None, ◌≡◌, ℕ, ◌+◌, ◌-◌, ◌/◌, ◌^◌, ◌≤◌, length, reverse, IsTrue, false, ◌∙◌, arith, sym}
use Rattle.std.proofs.lemmas.Bool.{both_ways}
use Rattle.etcs_vars.specs.Vars.{admits}
use Rattle.etcs_tables.specs.Layouts.{layout}
use Rattle.etcs_rows.specs.Lengths.{LengthsBy, front, beyond, GroupsWithin}
use Rattle.etcs_rows.specs.Progressions.{InProgression}
use Rattle.etcs_rows.specs.Totals.{InTotal, InAdded}
use Rattle.etcs_rows.specs.Sums.{Plus}
use Rattle.etcs_rows.specs.Waiting.{Tails, Onward}
use Rattle.etcs_rows.specs.Heads.{AfterLooked}
use Rattle.etcs_rows.proofs.LengthLemmas.{set_along, set_back, set_self, Plus-same}
use Rattle.etcs_rows.proofs.SumLemmas.{no_items, most_admits}
use Rattle.etcs_rows.proofs.RowSums.{Plus-assoc, zero-Plus}
use Rattle.etcs_rows.proofs.StepLemmas.{is_zero}
use Rattle.etcs_rows.proofs.FitLemmas.{leave_empty, chosen, exchanged, past_first, onward_none, led, leave_sum, tails_none, part_along, part_same, part_more, SetsTo, sets_none, sets_more, sets_skip, sets_in, sets_all, groups_not, StepsTo, steps_none, steps_more, steps_in, steps_all}
use Rattle.etcs_rows.proofs.TakerLemmas.{took_same, took_more, took_last}
use Rattle.etcs_rows.proofs.fitting.+fitting.Goals as goal
use Rattle.etcs_rows.proofs.fitting.+fitting.Goals.{choose_each-then-admits+in_ok-groups+in_ok-spread+else-branch, choose_each-else-admits}

pub onward-returns-then-is_past : goal.onward-returns-then-is_past
onward-returns-then-is_past g t c =
    let T = Tails (reverse c.args.waiting.now) in let R = AfterLooked c.in_ok-width.looked in
    let all = led (InTotal c.args.sum) (InTotal c.in_ok-sum.sum) c.single.result c.args.items.now c.in_ok-width.looked c.args.waiting.now c.in_ok-width.width c.single.ensures c.in_ok-sum.ensures c.in_ok-width.ensures.sum in
    g.T.Taker.laws.past c.args.out.now c.in_ok-sum.sum.steps.first (Plus (InTotal c.args.sum) (Onward c.args.items.now c.args.waiting.now)) (c.is_past.ensures c.if-is_past.true) (λ m x. past_first c.in_ok-sum.sum (Plus R T) m ((all m).1 x))

pub onward-returns-in-None : goal.onward-returns-in-None
onward-returns-in-None g t c =
    let S = InTotal c.in_ok-sum.sum in let T = Tails (reverse c.args.waiting.now) in let Z : ℕ → Type 0 = λ m. m ≡ 0 in
    took_same g.T.Taker.laws _ _ c.leave.result (Plus S T) (Plus (InTotal c.args.sum) (Onward c.args.items.now c.args.waiting.now))
    (set_along (Plus S T) (Plus S (Plus Z T)) (Plus (InTotal c.args.sum) (Onward c.args.items.now c.args.waiting.now)) (Plus-same S T S (Plus Z T) (set_self S) (zero-Plus T))
    (led (InTotal c.args.sum) S c.single.result c.args.items.now None c.args.waiting.now c.in_ok-width.width c.single.ensures c.in_ok-sum.ensures (rw c.in-None.is at c.in_ok-width.ensures.sum))) c.leave.ensures

pub onward-returns-in-Some : goal.onward-returns-in-Some
onward-returns-in-Some g t c =
    let S = InTotal c.in_ok-sum.sum in let T = Tails (reverse c.args.waiting.now) in let row = layout c.in-Some.field-0.rest.now in
    let G = GroupsWithin c.in-Some.field-0.var row 0 18446744073709551615 in let B = LengthsBy (beyond row) 0 in
    took_same g.T.Taker.laws _ _ c.choose.result (Plus S (Plus G (Plus B T))) (Plus (InTotal c.args.sum) (Onward c.args.items.now c.args.waiting.now))
    (set_along (Plus S (Plus G (Plus B T))) (Plus S (Plus (Plus G B) T)) (Plus (InTotal c.args.sum) (Onward c.args.items.now c.args.waiting.now))
    (Plus-same S (Plus G (Plus B T)) S (Plus (Plus G B) T) (set_self S) (set_back (Plus (Plus G B) T) (Plus G (Plus B T)) (Plus-assoc G B T)))
    (led (InTotal c.args.sum) S c.single.result c.args.items.now (Some c.in-Some.field-0) c.args.waiting.now c.in_ok-width.width c.single.ensures c.in_ok-sum.ensures (rw c.in-Some.is at c.in_ok-width.ensures.sum))) c.choose.ensures

pub leave-returns-in-None : goal.leave-returns-in-None
leave-returns-in-None g t c =
    let S = InTotal c.args.sum in
    took_same g.T.Taker.laws _ _ c.take.result S (Plus S (Tails (reverse c.args.waiting.now))) (tails_none S c.args.waiting.now c.in-None.ensures.cases) c.take.ensures

pub leave-returns-then-is_empty : goal.leave-returns-then-is_empty
leave-returns-then-is_empty g t c =
    let S = InTotal c.args.sum in let p = c.in-Some.pending.now in let outer = c.in-Some.outer.now in
    let none : length p.items.now ≡ 0 = is_zero (length p.items.now) (sym c.is_empty.ensures ∙ c.if-is_empty.true) in
    let T = Tails (reverse outer) in let all = Tails (reverse c.args.waiting.now) in
    took_same g.T.Taker.laws _ _ c.leave.result (Plus S T) (Plus S all)
    (Plus-same S T S all (set_self S) (leave_empty p outer c.args.waiting.now c.in-Some.ensures.cases.0 (no_items p.items.now none))) c.leave.ensures

pub leave-returns-in_ok-groups-in-Some : goal.leave-returns-in_ok-groups-in-Some
leave-returns-in_ok-groups-in-Some g t c =
    let S = InTotal c.args.sum in let steps = c.in_ok-groups-in-Some.groups in
    let items = c.after_groups.result.now in let outer = c.in-Some.outer.now in
    let more = Plus (InProgression steps) (Onward items outer) in let T = Tails (reverse c.args.waiting.now) in
    took_same g.T.Taker.laws _ _ c.spread.result (Plus S more) (Plus S T)
    (Plus-same S more S T (set_self S) (leave_sum steps c.in-Some.pending.now outer c.args.waiting.now items c.in-Some.ensures.cases.0 c.in_ok-groups-in-Some.ensures c.after_groups.ensures.beyond)) c.spread.ensures

pub spread-returns-then-is_empty-2 : goal.spread-returns-then-is_empty-2
spread-returns-then-is_empty-2 g t c =
    let items = c.args.items.now in let ps = c.args.waiting.now in let all = InTotal c.in-Some.all in
    let S = InTotal c.args.sum in let M = InProgression c.args.more in
    took_same g.T.Taker.laws _ _ c.take.result all (Plus S (Plus M (Onward items ps)))
    (onward_none all S M items ps (is_zero (length items) (sym c.is_empty.ensures ∙ c.if-is_empty.true)) (is_zero (length ps) (sym c.is_empty-then-is_empty.ensures ∙ c.if-is_empty-2.true)) c.in-Some.ensures) c.take.ensures

pub spread-returns-after-is_empty : goal.spread-returns-after-is_empty
spread-returns-after-is_empty g t c =
    let S = InTotal c.args.sum in let M = InProgression c.args.more in let X = Onward c.args.items.now c.args.waiting.now in let all = InTotal c.in-Some.all in
    took_same g.T.Taker.laws _ _ c.onward.result (Plus all X) (Plus S (Plus M X))
    (set_along (Plus all X) (Plus (Plus S M) X) (Plus S (Plus M X)) (Plus-same all X (Plus S M) X c.in-Some.ensures (set_self X)) (Plus-assoc S M X)) c.onward.ensures

pub spread-returns-then-more-sum : goal.spread-returns-then-more-sum
spread-returns-then-more-sum g t c =
    let S = InTotal c.args.sum in let M = InProgression c.args.more in let X = Onward c.args.items.now c.args.waiting.now in
    let N = InTotal c.with_steps.result in let O = InProgression c.args.sum.steps in
    took_same g.T.Taker.laws _ _ c.spread_each.result (Plus N (Plus O X)) (Plus S (Plus M X)) (exchanged N O S M X c.with_steps.ensures) c.spread_each.ensures

pub spread_each-loop-index-init : goal.spread_each-loop-index-init
spread_each-loop-index-init g t c =
    let S = InTotal c.args.sum in let X = Onward c.args.items.now c.args.waiting.now in
    record { took = g.T.Taker.laws.none c.args.out.now (Plus S (Plus (StepsTo c.args.more 0) X)) (λ m (i, y, s, (j, k, h, x, e), f). steps_none c.args.more j h) }

pub spread_each-loop-index-preserved : goal.spread_each-loop-index-preserved
spread_each-loop-index-preserved g t c =
    let S = InTotal c.args.sum in let X = Onward c.args.items.now c.args.waiting.now in let k = c.loop-index.index in
    record {
      took = took_more g.T.Taker.laws _ _ _ c.in_ok-onward.field-0 (Plus S (Plus (StepsTo c.args.more k) X)) (Plus (InTotal c.in_ok-plus.field-0) X) (Plus S (Plus (StepsTo c.args.more (k + 1)) X)) c.if-branch.false c.loop-index.invariant.took c.in_ok-onward.ensures
          (λ m. steps_more c.args.more c.single-one.result (InTotal c.in_ok-plus.field-0) S X k c.in_ok-at.field-0 m c.in_ok-at.ensures c.single-one.ensures c.in_ok-plus.ensures);
    }

pub spread_each-returns-then-branch : goal.spread_each-returns-then-branch
spread_each-returns-then-branch g t c =
    let S = InTotal c.args.sum in let X = Onward c.args.items.now c.args.waiting.now in let k = c.loop-index.index in
    let within : k + 1 ≤ c.args.more.count + 1 = omega arith in
    took_last g.T.Taker.laws _ _ _ c.in_ok-onward.field-0 (Plus S (Plus (StepsTo c.args.more k) X)) (Plus (InTotal c.in_ok-plus.field-0) X) (Plus S (Plus (InProgression c.args.more) X)) c.if-branch.true c.loop-index.invariant.took c.in_ok-onward.ensures
    (λ m y. part_along S X (StepsTo c.args.more (k + 1)) (InProgression c.args.more) (λ j h. steps_in c.args.more (k + 1) j within h) m
    ((steps_more c.args.more c.single-one.result (InTotal c.in_ok-plus.field-0) S X k c.in_ok-at.field-0 m c.in_ok-at.ensures c.single-one.ensures c.in_ok-plus.ensures).0 y))

pub spread_each-returns : goal.spread_each-returns
spread_each-returns g t c =
    let S = InTotal c.args.sum in let X = Onward c.args.items.now c.args.waiting.now in let k = c.loop-index.index in
    let all : k ≡ c.args.more.count + 1 = omega (arith, c.loop-index.auto.index-end) in
    g.T.Taker.laws.same _ _ false (Plus S (Plus (StepsTo c.args.more k) X)) (Plus S (Plus (InProgression c.args.more) X)) (part_same S X (StepsTo c.args.more k) (InProgression c.args.more) (steps_all c.args.more k all)) c.loop-index.invariant.took

pub choose_each-loop-number-init : goal.choose_each-loop-number-init
choose_each-loop-number-init g t c =
    let F = λ (n : ℕ). LengthsBy (front (layout c.args.rest.now)) n in
    let S = InTotal c.args.sum in let X = Onward c.after_groups-beyond.result.now c.args.waiting.now in let low = c.args.low in
    record {
      took = g.T.Taker.laws.none c.args.out.now (Plus S (Plus (SetsTo c.args.var F low low) X)) (λ m (i, y, s, (j, k, h, x, e), f). sets_none c.args.var F low j h);
      within = λ k l h. omega arith;
    }

pub choose_each-loop-number-preserved : goal.choose_each-loop-number-preserved
choose_each-loop-number-preserved g t c =
    let F = λ (n : ℕ). LengthsBy (front (layout c.args.rest.now)) n in let n = c.loop-number.number in let inv = c.loop-number.invariant in
    let S = InTotal c.args.sum in let X = Onward c.after_groups-beyond.result.now c.args.waiting.now in let low = c.args.low in
    let A = Plus S (Plus (SetsTo c.args.var F low n) X) in let C = Plus S (Plus (SetsTo c.args.var F low (n + 1)) X) in
    record {
      took = elim c.if-admits.branch [
        | choose_each-then-admits+in_ok-groups+in_ok-spread+else-branch w ↦
            let G = InProgression w.in_ok-groups.groups in
            let ok : IsTrue (admits c.args.var n) = sym c.admits.ensures ∙ w.if-admits.true in
            rw w.out-is
            (took_more g.T.Taker.laws _ _ _ w.in_ok-spread.field-0 A (Plus S (Plus G X)) C w.if-branch.false inv.took w.in_ok-spread.ensures
            (part_more S X (SetsTo c.args.var F low n) G (SetsTo c.args.var F low (n + 1)) (λ m. sets_more c.args.var F G low n m (omega arith) ok w.in_ok-groups.ensures)))
        | choose_each-else-admits w ↦
            rw w.out-is
            (g.T.Taker.laws.same _ _ false A C (part_same S X (SetsTo c.args.var F low n) (SetsTo c.args.var F low (n + 1)) (λ m. sets_skip c.args.var F low n m (λ ok. both_ways c.admits.result w.if-admits.false (c.admits.ensures ∙ ok)))) inv.took)
      ];
      within = λ k l h. omega arith;
    }

pub choose_each-returns-then-branch : goal.choose_each-returns-then-branch
choose_each-returns-then-branch g t c =
    let rest = layout c.args.rest.now in let n = c.loop-number.number in let low = c.args.low in let v = c.args.var in
    let F = λ (n : ℕ). LengthsBy (front rest) n in let S = InTotal c.args.sum in
    let items = c.after_groups-beyond.result.now in let X = Onward items c.args.waiting.now in let G = InProgression c.in_ok-groups.groups in let W = GroupsWithin v rest low c.args.high in
    let ok : IsTrue (admits v n) = sym c.admits.ensures ∙ c.if-admits.true in
    took_last g.T.Taker.laws _ _ _ c.in_ok-spread.field-0 (Plus S (Plus (SetsTo v F low n) X)) (Plus S (Plus G X)) (Plus S (Plus W (Plus (LengthsBy (beyond rest) 0) (Tails (reverse c.args.waiting.now))))) c.if-branch.true c.loop-number.invariant.took c.in_ok-spread.ensures
    (λ m y. (chosen S W W items rest c.args.waiting.now (set_self W) c.after_groups-beyond.ensures.beyond m).0
    (part_along S X (SetsTo v F low (n + 1)) W (λ j. sets_in v rest low c.args.high (n + 1) j (λ k l h. omega arith)) m
    ((part_more S X (SetsTo v F low n) G (SetsTo v F low (n + 1)) (λ j. sets_more v F G low n j (omega arith) ok c.in_ok-groups.ensures) m).0 y)))

pub choose_each-returns : goal.choose_each-returns
choose_each-returns g t c =
    let rest = layout c.args.rest.now in let v = c.args.var in let low = c.args.low in let next = c.loop-number.number in
    let F = λ (n : ℕ). LengthsBy (front rest) n in let S = InTotal c.args.sum in
    let items = c.after_groups-beyond.result.now in let X = Onward items c.args.waiting.now in let W = GroupsWithin v rest low c.args.high in
    g.T.Taker.laws.same _ _ false (Plus S (Plus (SetsTo v F low next) X)) (Plus S (Plus W (Plus (LengthsBy (beyond rest) 0) (Tails (reverse c.args.waiting.now)))))
    (chosen S (SetsTo v F low next) W items rest c.args.waiting.now
    (λ m. sets_all v rest low c.args.high next m c.loop-number.invariant.within
    (λ n l u a. let most : n ≤ 18446744073709551615 / 2 ^ (64 - c.width.result) = rw c.width.ensures (most_admits v n a) in omega (arith, most, c.in_ok-end.ensures)))
    c.after_groups-beyond.ensures.beyond) c.loop-number.invariant.took

pub choose-returns-then-not-admits : goal.choose-returns-then-not-admits
choose-returns-then-not-admits g t c =
    let rest = layout c.args.rest.now in let S = InTotal c.args.sum in let W = GroupsWithin c.args.var rest c.args.low c.args.high in let Y = Plus (LengthsBy (beyond rest) 0) (Tails (reverse c.args.waiting.now)) in
    g.T.Taker.laws.none c.args.out.now (Plus S (Plus W Y)) (groups_not c.args.var rest S Y c.args.low c.args.high c.if-low-high.true (λ ok. let is = c.admits.ensures ∙ ok in let not = c.if-not-admits.true in absurd cc))

pub choose-returns-in-Some-Steps : goal.choose-returns-in-Some-Steps
choose-returns-in-Some-Steps g t c =
    let rest = layout c.args.rest.now in let S = InTotal c.args.sum in let W = GroupsWithin c.args.var rest c.args.low c.args.high in let items = c.after_groups-beyond.result.now in
    let A = InProgression c.in-Some-Steps.all in
    took_same g.T.Taker.laws _ _ c.spread-in-Some-Steps.result (Plus S (Plus A (Onward items c.args.waiting.now))) (Plus S (Plus W (Plus (LengthsBy (beyond rest) 0) (Tails (reverse c.args.waiting.now)))))
    (chosen S A W items rest c.args.waiting.now (rw c.in-Some-Steps.field-0-is at c.in-Some-Steps.ensures) c.after_groups-beyond.ensures.beyond) (rw c.in-Some-Steps.field-0-is at c.spread-in-Some-Steps.ensures)

pub choose-returns-in_ok-with-in-Some : goal.choose-returns-in_ok-with-in-Some
choose-returns-in_ok-with-in-Some g t c =
    let rest = layout c.args.rest.now in let S = InTotal c.args.sum in let W = GroupsWithin c.args.var rest c.args.low c.args.high in let items = c.after_groups-beyond.result.now in
    let A = InAdded c.in-Some.more in let X = Onward items c.args.waiting.now in let sum = InTotal c.in_ok-with-in-Some.field-0 in
    let C = Plus S (Plus W (Plus (LengthsBy (beyond rest) 0) (Tails (reverse c.args.waiting.now)))) in
    took_same g.T.Taker.laws _ _ c.onward.result (Plus sum X) C
    (set_along (Plus sum X) (Plus (Plus S A) X) C (Plus-same sum X (Plus S A) X c.in_ok-with-in-Some.ensures (set_self X))
    (set_along (Plus (Plus S A) X) (Plus S (Plus A X)) C (Plus-assoc S A X)
    (chosen S A W items rest c.args.waiting.now c.in-Some.ensures c.after_groups-beyond.ensures.beyond))) c.onward.ensures
