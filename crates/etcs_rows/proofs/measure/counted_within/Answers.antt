use Rattle.std.proofs.Common.{ℕ, ◌+◌, ◌-◌, ◌/◌, ◌^◌, ◌≤◌, sym, ◌∙◌, arith}
use Rattle.std.proofs.lemmas.Bool.{both_ways}
use Rattle.etcs_rows.specs.Sets.{In}
use Rattle.etcs_rows.specs.Sums.{SumOf}
use Rattle.etcs_rows.proofs.SumLemmas.{GroupsTo, groups_more, groups_same, groups_all, power_more, most_admits}
use Rattle.etcs_rows.proofs.measure.counted_within.Goals as goal
use Rattle.etcs_rows.proofs.measure.counted_within.Goals.{then-admits, else-admits}

pub loop-number-preserved : goal.loop-number-preserved
loop-number-preserved c =
    let A = In c.args.group.now in let F = λ (n : ℕ). SumOf n A in let n = c.loop-number.number in let inv = c.loop-number.invariant in
    record {
      groups = elim c.if-admits.branch [
        | then-admits w ↦
            rw w.all-is (groups_more c.args.var F c.args.low n c.loop-number.all c.loop-number.power w.join-all.result inv.groups (omega arith) (sym c.admits.ensures ∙ w.if-admits.true) inv.power.are w.join-all.ensures)
        | else-admits w ↦
            rw w.all-is (groups_same c.args.var F c.args.low n c.loop-number.all inv.groups (λ h. both_ways c.admits.result w.if-admits.false (c.admits.ensures ∙ h)))
      ];
      power = power_more n A c.loop-number.power c.plus-power.result inv.power c.plus-power.ensures;
      within = λ k l h. omega arith;
    }

pub returns : goal.returns
returns c =
    let F = λ (n : ℕ). SumOf n (In c.args.group.now) in
    groups_all c.args.var F c.args.low c.args.high c.loop-number.number c.loop-number.all c.loop-number.invariant.groups c.loop-number.invariant.within
    (λ n l u a. let most : n ≤ 18446744073709551615 / 2 ^ (64 - c.width.result) = rw c.width.ensures (most_admits c.args.var n a) in omega (arith, most))

pub returns-after-admits : goal.returns-after-admits
returns-after-admits c =
    let F = λ (n : ℕ). SumOf n (In c.args.group.now) in let n = c.loop-number.number in let inv = c.loop-number.invariant in
    let all : GroupsTo c.args.var F c.args.low (n + 1) c.if-admits.all = elim c.if-admits.branch [
      | then-admits w ↦
          rw w.all-is (groups_more c.args.var F c.args.low n c.loop-number.all c.loop-number.power w.join-all.result inv.groups (omega arith) (sym c.admits.ensures ∙ w.if-admits.true) inv.power.are w.join-all.ensures)
      | else-admits w ↦
          rw w.all-is (groups_same c.args.var F c.args.low n c.loop-number.all inv.groups (λ h. both_ways c.admits.result w.if-admits.false (c.admits.ensures ∙ h)))
    ] in
    groups_all c.args.var F c.args.low c.args.high (n + 1) c.if-admits.all all (λ k l h. omega arith)
    (λ k l u a. let most : k ≤ 18446744073709551615 / 2 ^ (64 - c.width.result) = rw c.width.ensures (most_admits c.args.var k a) in omega (arith, most))
