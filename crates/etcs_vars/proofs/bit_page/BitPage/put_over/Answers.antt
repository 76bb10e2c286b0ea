use Rattle.etcs_bits.specs.Bits.{num, bits}
use Rattle.etcs_bits.proofs.Numbers.{length-num}
use Rattle.etcs_vars.proofs.BitPages as page
use Rattle.etcs_vars.proofs.bit_page.BitPage.put_over.Goals as goal

pub returns : goal.returns
returns c =
    let s = c.self.inside in
    let x = num c.args.width c.args.number in
    page.put_over (bits s.bytes) (bits c.write.new.bytes) c.args.self.now x s.len c.args.at c.args.width c.self.view_is c.requires.inside (length-num c.args.width c.args.number) c.write.ensures
