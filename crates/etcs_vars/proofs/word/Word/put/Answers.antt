use Rattle.std.proofs.Common.{◌+◌, ◌-◌, ◌*◌, ◌/◌, ◌%◌, ◌^◌, ◌<◌, Bool, List, ◌++◌, ap, ◌∙◌, arith, rules}
use Rattle.etcs_bits.specs.Bits.{num}
use Rattle.etcs_vars.proofs.Words.{joined_fits, within_bits, within_zeros, over_bits, over_zeros}
use Rattle.etcs_vars.proofs.word.Word.put.Goals as goal

pub overflow_add-word : goal.overflow_add-word
overflow_add-word c =
    let s = c.self.inside in
    let fits : s.held + c.args.number * 2 ^ (64 - c.args.width) % 2 ^ 64 / 2 ^ s.count < 2 ^ 64 = joined_fits s.held s.count c.args.width c.args.number c.self.invariant.few (omega arith) c.self.invariant.zeros in
    search rules

pub invariant_of-self : goal.invariant_of-self
invariant_of-self c =
    let s = c.self.inside in
    record { few = c.if-count-lt64.true; zeros = within_zeros s.held s.count c.args.width c.args.number c.if-count-lt64.true c.requires.width c.self.invariant.zeros }

pub returns-then-count-lt64-clause-none : goal.returns-then-count-lt64-clause-none
returns-then-count-lt64-clause-none c = λ _.
    let s = c.self.inside in
    within_bits s.held s.count c.args.width c.args.number c.if-count-lt64.true c.requires.width (omega arith) c.self.invariant.zeros ∙ ap (λ (b : List Bool). b ++ num c.args.width c.args.number) c.self.view_is

pub invariant_of-self-2 : goal.invariant_of-self-2
invariant_of-self-2 c =
    let s = c.self.inside in
    let few = c.self.invariant.few in
    record {
      few = omega (arith, few, c.requires.width);
      zeros = over_zeros s.count c.args.width c.args.number few c.requires.width (omega (arith, c.if-count-lt64.false));
    }

pub returns-clause-full : goal.returns-clause-full
returns-clause-full c =
    let s = c.self.inside in
    over_bits s.held s.count c.args.width c.args.number c.self.invariant.few c.requires.width (omega (arith, c.if-count-lt64.false)) (omega arith) c.self.invariant.zeros ∙ ap (λ (b : List Bool). b ++ num c.args.width c.args.number) c.self.view_is
