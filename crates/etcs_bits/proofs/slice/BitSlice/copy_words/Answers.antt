use Rattle.std.proofs.Common.{◌-◌, ◌*◌, length, drop, sym, ap, ◌∙◌, arith}
use Rattle.std.proofs.lemmas.List.{length-take, length-drop}
use Rattle.etcs_bits.specs.Bits.{bits, replaced}
use Rattle.etcs_bits.proofs.Positions.{length-bits}
use Rattle.etcs_bits.proofs.Views.{view_part, length-view}
use Rattle.etcs_bits.proofs.slice.BitSlice.copy_words.Goals as goal

pub slice_bounds-copy_words-count : goal.slice_bounds-copy_words-count
slice_bounds-copy_words-count c =
    let s = c.self.inside in
    let size = length-view s.bytes.now c.args.self.now s.offset s.len (sym c.self.view_is) c.self.invariant.1 in
    omega (arith, size, c.self.invariant, length-bits s.bytes.now)

pub slice_bounds-copy_words-start : goal.slice_bounds-copy_words-start
slice_bounds-copy_words-start c =
    let s = c.self.inside in
    let size = length-view s.bytes.now c.args.self.now s.offset s.len (sym c.self.view_is) c.self.invariant.1 in
    omega (arith, size, c.self.invariant, length-bits s.bytes.now)

pub copy_words-requires-clause-inside : goal.copy_words-requires-clause-inside
copy_words-requires-clause-inside c =
    let s = c.self.inside in
    let at = c.byte_of-at.result.0 in
    let size = length-view s.bytes.now c.args.self.now s.offset s.len (sym c.self.view_is) c.self.invariant.1 in
    omega (arith, size, c.self.invariant, length-bits s.bytes.now, length-take (length s.bytes.now - at) (drop at s.bytes.now), length-drop at s.bytes.now)

pub returns : goal.returns
returns c =
    let s = c.self.inside in
    let at = c.byte_of-at.result in
    let size = length-view s.bytes.now c.args.self.now s.offset s.len (sym c.self.view_is) c.self.invariant.1 in
    let same = view_part s.bytes.now c.args.self.now s.offset s.len c.args.from (64 * c.args.words) at.0 at.1 (sym c.self.view_is) (omega (arith, size)) (omega arith) in
    c.copy_words.ensures ∙ ap (λ l. replaced 0 l (bits c.args.to.now)) same
