use Rattle.std.proofs.Common.{◌*◌, ℕ, ap, inl, subst, sym}
use Rattle.std.specs.Prelude.{IfOk}
use Rattle.etcs_bits.specs.Bits.{bits}
use Rattle.etcs_vars.specs.Reading.{Reading, done}
use Rattle.etcs_text.specs.Pairs.{PairsRead, ItemLanguage}
use Rattle.etcs_c.specs.FieldPlaces.{ArePlaces}
use Rattle.etcs_c.proofs.Refusals.{some_said}
use Rattle.etcs_c.proofs.Saying.{unwritten}
use Rattle.etcs_c.proofs.places.write_places.Goals as goal

pub places_in-places-requires : goal.places_in-places-requires
places_in-places-requires c =
    let o = rw c.in-Ok.is at c.variables_of.ensures in
    subst (λ (r : Reading). ItemLanguage c.args.kind r) (sym c.as_slice.ensures.value) o.2.1

pub returns-in-Ok : goal.returns-in-Ok
returns-in-Ok c =
    let w = c.variables_of in
    let d = c.deliver in
    let vars = c.in-Ok.account.fields.items in
    let o = rw c.in-Ok.is at w.ensures in
    let made = subst (λ (r : Reading). IfOk c.places_in-places.result (λ v. ArePlaces c.args.kind r v.items)) c.as_slice.ensures.value c.places_in-places.ensures in
    inl (done vars (8 * w.new.answer.taken), o, (ap (λ (n : ℕ). 8 * n) (sym d.ensures.taken), some_said (λ v. v.items) (ArePlaces c.args.kind vars) 0 c.args.out.now d.new.out d.result d.new.answer c.places_in-places.result made d.ensures.writes))

pub returns-in-Err : goal.returns-in-Err
returns-in-Err c = unwritten (PairsRead c.args.kind) (bits c.args.bytes.now) c.in-Err.status c.variables_of.new.answer _ c.args.out.now c.in-Err.ensures
