use Rattle.std.proofs.Common.{sym, ap}
use Rattle.etcs_stream.specs.Lines.{most_characters}
use Rattle.etcs_stream.proofs.hex_lines.HexLinesLineHandler.most.Goals as goal

pub returns-clause-value : goal.returns-clause-value
returns-clause-value c = sym (ap most_characters c.args.self.now.form)
