use Rattle.std.proofs.Common.{◌+◌, ◌<◌, arith}
use Rattle.std.specs.Prelude.{◌⊎◌}
use Rattle.etcs_rows.specs.Progressions.{InProgression, TimesWithin}
use Rattle.etcs_rows.specs.Sums.{Plus}
use Rattle.etcs_rows.proofs.NearLemmas.{near_none, near_or, near_same, TimesTo, times_to_none, times_to_more, times_to_all}
use Rattle.etcs_rows.proofs.total.times_around.Goals as goal

pub loop-count-init : goal.loop-count-init
loop-count-init c =
    let t = c.args.times in let S = InProgression c.args.sum in
    record { next_to = near_none (Plus S (TimesTo t.group t.first t.first)) c.args.number c.none-near.result (times_to_none t.group S t.first) c.none-near.ensures.below c.none-near.ensures.above; within = λ n l u. omega (arith, l, u) }

pub loop-count-preserved : goal.loop-count-preserved
loop-count-preserved c =
    let t = c.args.times in let S = InProgression c.args.sum in let n = c.loop-count.count in let l = c.loop-count in
    let P = Plus S (TimesTo t.group t.first n) in let Q = InProgression c.in_ok-all.all in
    record {
      next_to = near_same (λ m. P m ⊎ Q m) (Plus S (TimesTo t.group t.first (n + 1))) c.args.number c.or-near.result
          (λ m. times_to_more t.group c.in_ok-times.field-0 c.args.sum c.in_ok-all.all t.first n m (omega arith) c.in_ok-times.ensures c.in_ok-all.ensures)
          (near_or P Q c.args.number l.near c.in_ok-around.field-0 c.or-near.result l.invariant.next_to c.in_ok-around.ensures c.or-near.ensures.below c.or-near.ensures.above);
      within = λ k u v. omega (arith, u, v, c.in_ok-end.ensures);
    }

pub returns : goal.returns
returns c =
    let t = c.args.times in let S = InProgression c.args.sum in let l = c.loop-count in
    let end : t.last < l.count = omega (arith, c.in_ok-end.ensures) in
    near_same (Plus S (TimesTo t.group t.first l.count)) (Plus S (TimesWithin t.group t.first t.last)) c.args.number l.near (times_to_all t.group S t.first t.last l.count l.invariant.within end) l.invariant.next_to
