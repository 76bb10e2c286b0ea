use Rattle.std.proofs.Common.{◌++◌, List, ℕ, flat_map, sym, ap, ◌∙◌, map-id}
use Rattle.std.proofs.lemmas.Iterator.{YieldsList-from_chars}
use Rattle.std.proofs.lemmas.Iterator.Consumers.{YieldsList-end}
use Rattle.etcs_log.specs.Visible.{visible, visible_char}
use Rattle.etcs_log.proofs.strings.append_visible.Goals as goal

pub returns : goal.returns
unfolding visible
returns c =
    let end = YieldsList-end (YieldsList-from_chars c.args.text.now c.utf8.text cc) c.loop-character.yielded _ c.loop-character.yielded_by _ _ c.in-None.is c.next.ensures.steps in
    c.loop-character.invariant ∙ ap (λ (z : List ℕ). c.args.out.now.items ++ flat_map visible_char z) (sym (map-id c.loop-character.yielded) ∙ end.0)
