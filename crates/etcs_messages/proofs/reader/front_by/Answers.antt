use Rattle.std.proofs.Common.{◌≡◌, ℕ, length, sym, ap, subst, ◌∙◌}
use Rattle.std.specs.Prelude.{take, drop}
use Rattle.etcs_messages.specs.Kinds.{IsHeadNumbers, IsOwnNumbers}
use Rattle.etcs_tables.specs.Headers.{head_row}
use Rattle.etcs_messages.proofs.Fronts.{table_long}
use Rattle.etcs_messages.proofs.reader.front_by.Given.{Over}
use Rattle.etcs_messages.proofs.reader.front_by.Goals as goal
use Rattle.etcs_messages.proofs.reader.front_by.Goals.{After-head_row-row}

-- how many variables the header has
long : (g : Over) (c : After-head_row-row g) → length c.head_row-row.result.items.now ≡ length (head_row g.H.Packet.AnyPacket.WAY)
long g c = table_long g.H.Packet.AnyPacket.WAY c.head_row-row.result.items.now (rw c.WAY.ensures at c.head_row-row.ensures)

pub split_at-requires : goal.split_at-requires
split_at-requires g c = rw (long g (goal.at.split_at-requires g c).After-head_row-row) c.requires.there

pub of_numbers-requires : goal.of_numbers-requires
of_numbers-requires g c =
    subst (IsHeadNumbers g.H.Packet.AnyPacket.WAY) (sym (c.split_at.ensures.front ∙ ap (λ (n : ℕ). take n c.args.front.now) (long g (goal.at.of_numbers-requires g c).After-head_row-row))) c.requires.head

pub of_numbers-requires-2 : goal.of_numbers-requires-2
of_numbers-requires-2 g c =
    subst (IsOwnNumbers g.H.Packet.AnyPacket.WAY c.args.nid) (sym (c.split_at.ensures.back ∙ ap (λ (n : ℕ). drop n c.args.front.now) (long g (goal.at.of_numbers-requires-2 g c).After-head_row-row))) c.requires.own

pub returns-clause-head : goal.returns-clause-head
returns-clause-head g c =
    c.of_numbers.ensures ∙ ap g.H.Head.head.made (c.split_at.ensures.front ∙ ap (λ (n : ℕ). take n c.args.front.now) (long g (goal.at.returns-clause-head g c).After-head_row-row))

pub returns-clause-own : goal.returns-clause-own
returns-clause-own g c =
    c.of_numbers-2.ensures ∙ ap (g.B.Own.own.made c.args.nid) (c.split_at.ensures.back ∙ ap (λ (n : ℕ). drop n c.args.front.now) (long g (goal.at.returns-clause-own g c).After-head_row-row))
