use Rattle.etcs_stream.proofs.OneItems.{one_end, one_whole, one_front}
use Rattle.etcs_stream.proofs.OneGroups.{one_last}
use Rattle.etcs_stream.proofs.OneTexts.{one_text}
use Rattle.etcs_stream.proofs.laws.one_run.Goals as goal

pub returns : goal.returns
returns c = record { end = one_end; whole = one_whole; front = one_front; text = one_text; last = λ held text text' group h k. one_last held group text text' h k }
