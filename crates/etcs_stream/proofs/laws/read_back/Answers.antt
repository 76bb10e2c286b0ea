use Rattle.etcs_stream.proofs.ReadingBack.{read_back}
use Rattle.etcs_stream.proofs.laws.read_back.Goals as goal

pub returns : goal.returns
returns c = read_back
