use Rattle.std.proofs.Common.{◌≡◌, ◌-◌, ◌*◌, ◌≤◌, ◌<◌, length, take, sym, ap, ◌∙◌, arith}
use Rattle.std.proofs.lemmas.List.{length-take}
use Rattle.etcs_bits.specs.Bits.{bits}
use Rattle.etcs_bits.proofs.Owned.{length-owned, Packed}
use Rattle.etcs_bits.proofs.Positions.{length-bits}
use Rattle.etcs_bits.proofs.NextWords.{filled_none, filled_more, filled_last, filled_packed, filled_whole}
use Rattle.etcs_bits.proofs.many.Many.fill.Goals as goal
use Rattle.etcs_bits.proofs.many.Many.fill.Goals.{then-left-gt0, else-left-gt0}

pub loop-left-init : goal.loop-left-init
loop-left-init c =
    let v = c.self.inside.bytes in
    let none = length-owned v.items c.args.self.now c.self.inside.len c.self.view_is c.self.invariant.0 in
    let zero : c.self.inside.len ≡ 0 = omega (arith, none, ap length c.requires) in
    let empty : length c.reserve.new.self.items ≡ 0 = omega (arith, ap length c.in_ok-reserve.ensures.items, zero, c.self.invariant) in
    record {
      within = omega arith;
      room = omega (arith, c.in_ok-reserve.ensures.ok);
      none = zero;
      filled = filled_none c.reserve.new.self.items c.args.slice.now c.len-len.result empty;
    }

pub push_bytes-requires-clause-room : goal.push_bytes-requires-clause-room
push_bytes-requires-clause-room c =
    let v = c.loop-left.self-inside.bytes in
    let i = c.loop-left.invariant in
    let seen = c.args.slice.now in
    omega (arith, i.within, i.room, v.ok.0, length-bits v.items, ap length i.filled, length-take (c.len-len.result - c.loop-left.left) seen, c.len-len.ensures, c.loop-left-test.true)

pub loop-left-preserved : goal.loop-left-preserved
loop-left-preserved c =
    let v = c.loop-left.self-inside.bytes in
    let i = c.loop-left.invariant in
    let seen = c.args.slice.now in
    let from = c.len-len.result - c.loop-left.left in
    record {
      within = omega (arith, i.within);
      room = omega (arith, i.room, c.push_bytes.ensures.capacity);
      none = i.none;
      filled =
          filled_more seen (bits v.items) (bits c.push_bytes.new.bytes.items) from c.word.result (omega (arith, i.within, c.len-len.ensures, c.loop-left-test.true)) i.filled c.word.ensures c.push_bytes.ensures.bits
          ∙ ap (λ k. take k seen) (omega (arith, i.within, c.loop-left-test.true));
    }

pub push_bytes-requires-then-left-gt0-clause-room : goal.push_bytes-requires-then-left-gt0-clause-room
push_bytes-requires-then-left-gt0-clause-room c =
    let v = c.loop-left.self-inside.bytes in
    let i = c.loop-left.invariant in
    let seen = c.args.slice.now in
    omega (arith, i.within, i.room, v.ok.0, length-bits v.items, ap length i.filled, length-take (c.len-len.result - c.loop-left.left) seen, c.len-len.ensures)

pub invariant_of-self-2 : goal.invariant_of-self-2
invariant_of-self-2 c =
    let v = c.loop-left.self-inside.bytes in
    let i = c.loop-left.invariant in
    let seen = c.args.slice.now in
    let len = c.len-len.result in
    let left = c.loop-left.left in
    let size : length seen ≡ len = sym c.len-len.ensures in
    let short : left < 64 = omega (arith, c.loop-left-test.false) in
    let items = c.if-left-gt0.self-inside.bytes.items in
    let both : Packed items len × (take len (bits items) ≡ seen) = elim c.if-left-gt0.branch [
      | then-left-gt0 w ↦
          (let k = w.div_ceil-then-left-gt0.result in
          let enough : left ≤ 8 * k = omega (arith, w.div_ceil-then-left-gt0.ensures) in
          let most : k ≤ 8 = omega (arith, w.div_ceil-then-left-gt0.ensures, short) in
          let close : 8 * k - left < 8 = omega (arith, w.div_ceil-then-left-gt0.ensures) in
          rw w.self-inside-is (filled_packed w.push_bytes-then-left-gt0.new.bytes.items seen len (8 * k - left) size close (filled_last seen (bits v.items) (bits w.push_bytes-then-left-gt0.new.bytes.items) (len - left) left k w.word-then-left-gt0.result (omega (arith, i.within, size)) enough most i.filled w.word-then-left-gt0.ensures w.push_bytes-then-left-gt0.ensures.bits)))
      | else-left-gt0 w ↦ rw w.self-inside-is (filled_whole v.items seen len left size (omega (arith, w.if-left-gt0.false)) i.filled)
    ] in
    (both.0.inside, both.0.short)

pub returns-clause-ok : goal.returns-clause-ok
returns-clause-ok c =
    let v = c.loop-left.self-inside.bytes in
    let i = c.loop-left.invariant in
    let seen = c.args.slice.now in
    let len = c.len-len.result in
    let left = c.loop-left.left in
    let size : length seen ≡ len = sym c.len-len.ensures in
    let short : left < 64 = omega (arith, c.loop-left-test.false) in
    let items = c.if-left-gt0.self-inside.bytes.items in
    let both : Packed items len × (take len (bits items) ≡ seen) = elim c.if-left-gt0.branch [
      | then-left-gt0 w ↦
          (let k = w.div_ceil-then-left-gt0.result in
          let enough : left ≤ 8 * k = omega (arith, w.div_ceil-then-left-gt0.ensures) in
          let most : k ≤ 8 = omega (arith, w.div_ceil-then-left-gt0.ensures, short) in
          let close : 8 * k - left < 8 = omega (arith, w.div_ceil-then-left-gt0.ensures) in
          rw w.self-inside-is (filled_packed w.push_bytes-then-left-gt0.new.bytes.items seen len (8 * k - left) size close (filled_last seen (bits v.items) (bits w.push_bytes-then-left-gt0.new.bytes.items) (len - left) left k w.word-then-left-gt0.result (omega (arith, i.within, size)) enough most i.filled w.word-then-left-gt0.ensures w.push_bytes-then-left-gt0.ensures.bits)))
      | else-left-gt0 w ↦ rw w.self-inside-is (filled_whole v.items seen len left size (omega (arith, w.if-left-gt0.false)) i.filled)
    ] in
    both.1
