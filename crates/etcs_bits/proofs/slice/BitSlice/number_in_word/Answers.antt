use Rattle.std.proofs.Common.{◌≡◌, sym, subst, arith}
use Rattle.std.specs.Prelude.{Some, IfSome}
use Rattle.etcs_bits.proofs.Views.{length-view, number_view}
use Rattle.etcs_bits.proofs.slice.BitSlice.number_in_word.Goals as goal

pub returns : goal.returns
returns c =
    let s = c.self.inside in
    let size = length-view s.bytes.now c.args.self.now s.offset s.len (sym c.self.view_is) c.self.invariant.1 in
    let same = number_view s.bytes.now c.args.self.now s.offset s.len c.args.from c.args.width c.in_ok-start.start (sym c.self.view_is) c.self.invariant.1 (omega (arith, size)) c.in_ok-start.ensures.1 in
    subst (λ x. IfSome c.peek_word.result (λ n. x ≡ Some n)) same c.peek_word.ensures
