use Rattle.std.proofs.Common.{refl}
use Rattle.etcs_text.proofs.Written.{long_none}
use Rattle.etcs_blank.specs.Blanks.{blank_reading}
use Rattle.etcs_blank.proofs.items.blank.Goals as goal

pub returns-clause-ok : goal.returns-clause-ok
returns-clause-ok c = (λ item. long_none c.args.kind (blank_reading c.args.kind c.args.nids.now) (λ whole. rw c.if-branch.false at c.in_ok-push_item.ensures) item, refl)
