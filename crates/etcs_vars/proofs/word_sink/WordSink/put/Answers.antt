use Rattle.std.proofs.Common.{◌+◌, ◌<◌, length, refl, sym, ap, ◌∙◌, arith, length-append}
use Rattle.etcs_bits.specs.Bits.{num}
use Rattle.etcs_vars.specs.WordSinks.{with_word}
use Rattle.etcs_vars.proofs.WordSinks.{bits_within, number_over}
use Rattle.etcs_vars.proofs.word_sink.WordSink.put.Goals as goal

pub returns-in-Some : goal.returns-in-Some
returns-in-Some c = c.push.ensures ∙ number_over c.args.self.now (num c.args.width c.args.number) c.put.new.self c.in-Some.word c.put.ensures.before c.put.ensures.after c.in-Some.ensures.full

pub returns-in_default : goal.returns-in_default
returns-in_default c =
    let s = c.args.self.now in
    let b = num c.args.width c.args.number in
    let is = c.in_default.ensures.none refl in
    let few : length s.word + length b < 64 = (let after = c.put.ensures.after in omega (arith, ap length is, length-append s.word b, after)) in
    ap (with_word s) is ∙ sym (bits_within s b few)
