use Rattle.std.proofs.Common.{◌≡◌, ◌∙◌, refl, sym, ap, arith}
use Rattle.std.specs.Prelude.{Err}
use Rattle.etcs_reader.specs.declared.feeder.Stop.TheVariants.{Refused}
use Rattle.etcs_text.proofs.Accounting.{taken_whole, taken_open, taken_refused}
use Rattle.etcs_text.proofs.account.end_of.Goals as goal

pub returns-in-None : goal.returns-in-None
returns-in-None g c start xs feeds =
    let R = g.R.Rest in
    let v = c.args.feeder.now in
    let (stop, count, takes) = rw c.in-Ok.is at feeds in
    let gone = (rw c.in-None.is at (c.var.ensures.ended stop)) refl in
    taken_whole R.left g.met.R.Rest.regular R.follows g.met.R.Rest.residual start xs v _ takes.passed takes.within (omega (arith, count)) gone.0 gone.1

pub returns-in-Some : goal.returns-in-Some
returns-in-Some g c start xs feeds =
    let R = g.R.Rest in
    let v = c.args.feeder.now in
    let (stop, count, takes) = rw c.in-Ok.is at feeds in
    let own = rw c.in-Some.is at (c.var.ensures.holds stop) in
    let short = rw c.in-Some.is at (c.var.ensures.short stop) in
    let next = sym c.var.ensures.next ∙ c.in-Some.is in
    let all = takes.more _ next in
    taken_open R.left g.met.R.Rest.regular R.follows g.met.R.Rest.residual start xs v _ takes.passed all.0 (omega (arith, count)) _ (g.met.R.Rest.begins_with v.rest _ next) own short c.unfinished-bits.result.1 c.unfinished-bits.result.0 c.unfinished-bits.ensures.bits

pub returns-in-Err-Refused : goal.returns-in-Err-Refused
returns-in-Err-Refused g c start xs feeds =
    let R = g.R.Rest in
    let v = c.args.feeder.now in
    let w = c.in-Err-Refused in
    let field : w.field-0 ≡ Refused w.bit w.var = rw w.is at w.field-0-is in
    let fed : c.args.fed ≡ Err (Refused w.bit w.var) = w.is ∙ ap Err field in
    let (stop, count, n, place, h) = rw fed at feeds in
    taken_refused R.left g.met.R.Rest.regular R.follows g.met.R.Rest.residual start xs v n _ _ (g.met.R.Rest.begins_with v.rest w.var h.here) h.passed h.goes _ (omega arith) h.refuses h.short (omega (arith, place)) (omega (arith, count, place)) c.unfinished-bits.result.1 c.unfinished-bits.result.0 c.unfinished-bits.ensures.bits
