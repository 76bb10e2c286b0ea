use Rattle.std.proofs.Common.{List, ℕ, Option, Some, ap, inr, refl, subst}
use Rattle.etcs_telegram.specs.Telegrams.{TelegramContent}
use Rattle.etcs_group.specs.declared.passages.Passage.{Passage}
use Rattle.etcs_group.specs.declared.passages.Passages.{Passages}
use Rattle.etcs_group.specs.Passages.{EndsWith, GoesOn, IsNext, PassageOf}
use Rattle.etcs_group.proofs.Passing.{passed_more}
use Rattle.etcs_group.proofs.passages.Passages.add.Goals as goal

pub returns-clause-ok : goal.returns-clause-ok
returns-clause-ok c =
    let s = c.in-Some.ensures.some in
    let f = c.in_ok-finish.ensures.ok in (
      f.0,
      inr (
        s.2,
        (c.in_ok-next.next, subst (λ (t : TelegramContent). PassageOf c.args.line c.args.front.now t c.in_ok-next.next) s.0 c.in_ok-next.ensures.ok, refl),
        subst (λ (p : Option Passage). EndsWith p f.0) (ap (λ (p : Passages). p.passage) s.1) f.1,
      ),
      f.2,
    )

pub returns-clause-passed : goal.returns-clause-passed
returns-clause-passed c = passed_more c.args.line c.args.front.now c.args.telegram c.args.self.now.passage (Some c.in_ok-next.next) c.args.out.now.items c.finish.new.out.items (returns-clause-ok c)
