use Rattle.std.proofs.Common.{◌≡◌, ℕ, ◌+◌, [], ◌∷◌, Some, sym, ap, subst, ◌∙◌}
use Rattle.std.specs.Prelude.{Option, is_some, if◌then◌else◌}
use Rattle.etcs_bits.specs.Bits.{number_at}
use Rattle.etcs_bits.specs.SliceWalker.{SliceWalk}
use Rattle.etcs_vars.specs.Vars.{width}
use Rattle.etcs_sequence.specs.Fronts.{FrontAt}
use Rattle.etcs_messages.proofs.FrontsAtOnce.{front_one}
use Rattle.etcs_messages.proofs.whole.take_number.Goals as goal

pub returns-clause-front : goal.returns-clause-front
returns-clause-front c =
    let w = c.args.walker.now in
    let v = c.args.var in
    let n = c.in_ok-number.number in
    let found : number_at w.place (width v) w.bits ≡ Some n = ap (λ k. number_at w.place k w.bits) (sym c.width.ensures) ∙ sym c.take.ensures.number ∙ c.in_ok-number.was in
    let moved : c.take.new.self.place ≡ w.place + width v = ap (λ (x : SliceWalk). x.place) c.take.ensures.moved ∙ ap (λ (r : Option ℕ). if is_some r then w.place + c.width.result else w.place) c.in_ok-number.was ∙ ap (λ k. w.place + k) c.width.ensures in
    (n, c.push.ensures.items, subst (λ k. FrontAt (v ∷ []) w.bits w.place (n ∷ []) k) (sym moved) (front_one v w.bits w.place n found (sym c.admits.ensures ∙ c.if-not-admits.false)))
