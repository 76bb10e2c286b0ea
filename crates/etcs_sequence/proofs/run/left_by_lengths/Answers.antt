use Rattle.std.proofs.Common.{◌+◌, ◌-◌, ◌≤◌, length, arith}
use Rattle.etcs_bits.specs.Bits.{bits}
use Rattle.etcs_sequence.specs.AtOnce.{ClosesAt}
use Rattle.etcs_sequence.proofs.RunLemmas.{closes_within}
use Rattle.etcs_sequence.proofs.run.left_by_lengths.Goals as goal

pub overflow_sub-result : goal.overflow_sub-result
overflow_sub-result c =
    let a = c.args in
    let l = c.loop-len in
    let old = l.invariant in
    let xs = bits a.piece.now in
    let place = a.at + (a.room - l.left) in
    let inside : place + l.left ≤ length xs = omega (arith, old.most, c.requires.inside) in
    let last : ClosesAt a.carrier l.left xs place = c.closes.ensures xs place old.word inside c.loop-len-test.false in
    closes_within a.carrier l.left place c.closing_bits.result xs last c.closing_bits.ensures
