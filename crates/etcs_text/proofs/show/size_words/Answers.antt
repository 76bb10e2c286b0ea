use Rattle.std.proofs.Common.{rules}
use Rattle.std.specs.Fmt.{digits}
use Rattle.etcs_text.proofs.show.size_words.Goals as goal

pub returns-in-Short : goal.returns-in-Short
unfolding digits
returns-in-Short c = search rules

pub returns-in-Long : goal.returns-in-Long
unfolding digits
returns-in-Long c = search rules
