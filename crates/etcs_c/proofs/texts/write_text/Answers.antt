use Rattle.std.proofs.Common.{◌*◌, ℕ, ap, inl, sym}
use Rattle.etcs_bits.specs.Bits.{bits}
use Rattle.etcs_vars.specs.Reading.{done}
use Rattle.etcs_text.specs.Entries.{EntryReads, entry_value}
use Rattle.etcs_c.specs.Answers.{IsText}
use Rattle.etcs_c.proofs.Delivering.{text_said}
use Rattle.etcs_c.proofs.Saying.{unwritten}
use Rattle.etcs_c.proofs.texts.write_text.Goals as goal

pub returns-in-Ok : goal.returns-in-Ok
returns-in-Ok c =
    let d = c.deliver in
    let e = entry_value c.in-Ok.entry in
    inl (done e (8 * c.in-Ok.taken), c.in-Ok.ensures, (ap (λ (n : ℕ). 8 * n) (sym d.ensures.taken), text_said (IsText c.args.wanted e) (λ v. v.items) c.args.out.now d.new.out d.result d.new.answer c.text_of.result c.text_of.ensures d.ensures.writes))

pub returns-in-Err : goal.returns-in-Err
returns-in-Err c = unwritten (EntryReads c.args.kind) (bits c.args.bytes.now) c.in-Err.status c.item_of.new.answer _ c.args.out.now c.in-Err.ensures
