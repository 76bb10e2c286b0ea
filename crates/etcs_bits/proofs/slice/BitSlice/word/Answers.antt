use Rattle.std.proofs.Common.{◌≡◌, ◌+◌, ◌-◌, ◌≤◌, length, sym, arith}
use Rattle.etcs_bits.specs.NextBits.{BeginsWith}
use Rattle.etcs_bits.proofs.Views.{length-view}
use Rattle.etcs_bits.proofs.NextWords.{full_word, padded_word}
use Rattle.etcs_bits.proofs.slice.BitSlice.word.Goals as goal
use Rattle.etcs_bits.proofs.slice.BitSlice.word.Goals.{in-Some, in-None}

pub returns-then-left-ge64 : goal.returns-then-left-ge64
returns-then-left-ge64 c =
    let s = c.self.inside in
    let seen = c.args.self.now in
    let word = c.match-nine_bytes.word in
    let size = length-view s.bytes.now seen s.offset s.len (sym c.self.view_is) c.self.invariant.1 in
    let b : BeginsWith word seen c.args.from = elim c.match-nine_bytes.branch [
      | in-Some w ↦ rw w.word-is w.in-Some.ensures
      | in-None w ↦ rw w.word-is w.word_at_end-word.ensures
    ] in
    let inside : c.args.from + 64 ≤ length seen = omega (arith, size, c.if-left-ge64.true) in
    full_word word seen c.args.from inside (b 64 (omega arith) inside)

pub returns : goal.returns
returns c =
    let s = c.self.inside in
    let seen = c.args.self.now in
    let word = c.match-nine_bytes.word in
    let left = s.len - c.args.from in
    let size = length-view s.bytes.now seen s.offset s.len (sym c.self.view_is) c.self.invariant.1 in
    let b : BeginsWith word seen c.args.from = elim c.match-nine_bytes.branch [
      | in-Some w ↦ rw w.word-is w.in-Some.ensures
      | in-None w ↦ rw w.word-is w.word_at_end-word.ensures
    ] in
    let all : c.args.from + left ≡ length seen = omega (arith, size, c.requires) in
    let small : left ≤ 64 = omega (arith, c.if-left-ge64.false) in
    padded_word word seen c.args.from left all small (b left small (omega (arith, all)))
