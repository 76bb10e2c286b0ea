-- What the reader asks of packets with bits after them that fill their room.
use Rattle.std.proofs.Common.{◌≡◌, ℕ, ◌+◌, ◌-◌, ◌/◌, ◌^◌, Bool, List, [], ◌∷◌, ◌++◌, length, Some, sym, subst, ◌∙◌, arith}
use Rattle.std.specs.Prelude.{◌↔◌}
use Rattle.etcs_vars.specs.declared.var.Var.{Var}
use Rattle.etcs_vars.specs.Reading.{Reading, spelled, Viable}
use Rattle.etcs_vars.specs.Walking.{Residual}
use Rattle.etcs_vars.proofs.Languages.{Same}
use Rattle.etcs_sequence.specs.laws.RunSteps.{both_length}
use Rattle.etcs_reader.specs.Rests.{Starts, Goes}
use Rattle.etcs_sequence.specs.declared.state.PacketsState.{PacketsState}
use Rattle.etcs_sequence.specs.Lefts.{next_of, left_of, ahead, Moved}
use Rattle.etcs_sequence.specs.laws.LeftLaws.{left_regular, left_begins}
use Rattle.etcs_sequence.specs.ChainLaws.{Chain}
use Rattle.etcs_sequence.specs.laws.ChainLaws.{chain_goes, chain_starts, chain_viable}
use Rattle.etcs_sequence.proofs.ChainLaws.{chain_along}

-- after a number something is left
pub moved_left : (l l' : PacketsState) (x : Var) (number : ℕ) → Starts (left_of l.carrier l.room l.stage) x 0 number → Moved l.carrier l.room l.stage ((x, number) ∷ []) l'.carrier l'.room l'.stage → Goes (left_of l'.carrier l'.room l'.stage)
moved_left l l' x number (n, r, h, e) m =
    let whole : n ≡ number = (let one : n / 2 ^ 0 ≡ n = omega arith in sym one ∙ e) in
    let P : ℕ → Type 0 = λ k. left_of l.carrier l.room l.stage ((x, k) ∷ r) in
    (r, m.residual.to r (subst P whole h))

-- this many bits follow packets
module _ (Left : ℕ → Reading → Type 0) where
  abbrev By : ℕ → Reading → Reading → Type 0
  By room p r = Left (room - length (spelled p)) r

  abbrev Following : PacketsState → Reading → Type 0
  Following l r = Chain (left_of l.carrier l.room l.stage) (By (ahead l.carrier l.room l.stage)) r

  -- packets leave so much less to them
  less_left : (room room' : ℕ) (p a : Reading) → room ≡ length (spelled p) + room' → Same (By room (p ++ a)) (By room' a)
  less_left room room' p a e r =
      let left : room - length (spelled (p ++ a)) ≡ room' - length (spelled a) = omega (arith, both_length p a, e) in
      (λ f. subst (λ n. Left n r) left f, λ f. subst (λ n. Left n r) (sym left) f)

  pub filled_after : (l l' : PacketsState) (p : Reading) → Moved l.carrier l.room l.stage p l'.carrier l'.room l'.stage → Goes (left_of l'.carrier l'.room l'.stage) → Residual (Following l) p (Following l')
  filled_after l l' p m g =
      let P : Reading → Type 0 = left_of l.carrier l.room l.stage in
      let R : Reading → Type 0 = left_of l'.carrier l'.room l'.stage in
      let room = ahead l.carrier l.room l.stage in
      let room' = ahead l'.carrier l'.room l'.stage in
      chain_along P R (By room) (By room') p (left_regular l.carrier l.room l.stage) m.residual g (λ a b. less_left room room' p a m.ahead_is b)

  module _ (some : (n : ℕ) → Goes (Left n)) (l : PacketsState) where
    -- they can follow all of them
    some_beyond : (a : Reading) → left_of l.carrier l.room l.stage a → Goes (By (ahead l.carrier l.room l.stage) a)
    some_beyond a h = some (ahead l.carrier l.room l.stage - length (spelled a))

    pub filled_starts : (x : Var) (rest bits : ℕ) → next_of l.stage ≡ Some x → Starts (left_of l.carrier l.room l.stage) x rest bits ↔ Starts (Following l) x rest bits
    filled_starts x rest bits e = chain_starts (left_of l.carrier l.room l.stage) (By (ahead l.carrier l.room l.stage)) some_beyond x rest bits (left_begins l.carrier l.room l.stage l.stands x e)

    pub filled_viable : (t : List Bool) → Viable (left_of l.carrier l.room l.stage) t → Viable (Following l) t
    filled_viable t v = chain_viable (left_of l.carrier l.room l.stage) (By (ahead l.carrier l.room l.stage)) some_beyond t v

    pub filled_goes : Goes (left_of l.carrier l.room l.stage) → Goes (Following l)
    filled_goes g = chain_goes (left_of l.carrier l.room l.stage) (By (ahead l.carrier l.room l.stage)) some_beyond g
