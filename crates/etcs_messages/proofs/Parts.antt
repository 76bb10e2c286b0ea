-- What one pass leaves of a message.
use Rattle.std.proofs.Common.{◌≡◌, ℕ, ◌+◌, ◌-◌, ◌*◌, ◌<◌, ◌≤◌, Bool, List, [], subst, arith}
use Rattle.etcs_vars.proofs.Languages.{Same}
use Rattle.etcs_tables.specs.declared.row.Way.{Way}
use Rattle.etcs_reader.specs.Rests.{LeapsBy}
use Rattle.etcs_sequence.specs.AtOnce.{Holds}
use Rattle.etcs_messages.specs.Messages.{MessageLanguage}
use Rattle.etcs_messages.specs.Lefts.{MessageState, Left, HoldsIn, Follows, Leaps}
use Rattle.etcs_messages.specs.laws.RestLaws.{follows_along}
use Rattle.etcs_messages.specs.Readers.{IsMessagePart}
use Rattle.etcs_reader.proofs.Leaping.{leaps_both}

pub message_part : {S : Type 0} (way : Way) (holds : S → Holds) (xs : List Bool) (start m t : MessageState S) (front end left : ℕ) → start.way ≡ way → Same (Left start) (MessageLanguage way) → HoldsIn holds start [] → front ≤ end → end ≤ 8 * 1023 → m.left.room ≡ end - front → left < end - front
    → LeapsBy (Left m) (λ p. Follows holds start p m) xs 0 front → Leaps holds m t xs front (m.left.room - left) → IsMessagePart holds way xs t (end - left)
message_part way holds xs start m t front end left own lang held order most room some first next =
    let both = leaps_both (Left m) (Left t) (λ p. Follows holds start p m) (λ p. Follows holds m p t) (λ p. Follows holds start p t) xs 0 front front (m.left.room - left) (omega arith) (follows_along holds start m t) first next in
    let all : front + (m.left.room - left) ≡ end - left = omega (arith, order, room, some) in
    (omega (arith, most), start, lang, (own, held), subst (λ n. LeapsBy (Left t) (λ p. Follows holds start p t) xs 0 n) all both)
