use Rattle.etcs_stream.proofs.runs.run_lines.Goals as goal

pub returns : goal.returns
returns g c = rw c.new.ensures.job at c.run_engine.ensures.ran
