use Rattle.std.proofs.Common.{◌≡◌, ◌+◌, ◌≤◌, Some, length, sym, ◌∙◌, arith}
use Rattle.etcs_bits.specs.Bits.{bits, number_at}
use Rattle.etcs_bits.proofs.Positions.{length-bits}
use Rattle.etcs_bits.proofs.Views.{number_bits}
use Rattle.etcs_vars.specs.Vars.{width}
use Rattle.etcs_rows.proofs.row_run.RowRun.next.Goals as goal

pub overflow_mul-piece : goal.overflow_mul-piece
overflow_mul-piece c = omega (arith, c.requires.small, length-bits c.args.piece.now)

pub overflow_sub-piece : goal.overflow_sub-piece
overflow_sub-piece c = omega (arith, c.requires.inside, length-bits c.args.piece.now)

pub returns-clause-next : goal.returns-clause-next
returns-clause-next c =
    let xs = bits c.args.piece.now in
    let v = c.in_ok-var.var in
    let inside : c.args.at + width v ≤ length xs = omega (arith, c.requires.inside, c.if-width-piece.false, c.width-width.ensures, length-bits c.args.piece.now) in
    let is : number_at c.args.at (width v) xs ≡ Some c.in_ok-number.number = rw c.width-width.ensures at (sym c.peek.ensures ∙ c.in_ok-number.was) in
    record {
      next = sym c.var.ensures ∙ c.in_ok-var.was;
      room = omega (arith, c.if-width-self.false, c.width-width.ensures);
      inside = inside;
      admitted = sym c.admits.ensures ∙ c.if-not-admits.false;
      bits = number_bits c.args.at (width v) c.in_ok-number.number xs inside is;
    }
