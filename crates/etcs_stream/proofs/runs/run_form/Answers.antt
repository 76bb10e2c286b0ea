use Rattle.etcs_stream.proofs.runs.run_form.Goals as goal

pub returns-in-Hex : goal.returns-in-Hex
returns-in-Hex g c = rw c.new.ensures.job at c.run_lines.ensures

pub returns-in-Bin : goal.returns-in-Bin
returns-in-Bin g c = rw c.new-engine.ensures.job at c.run_engine-ended.ensures.ran

pub returns-in-Json : goal.returns-in-Json
returns-in-Json g c = rw c.new-in-Json.ensures.job at c.run_lines-in-Json.ensures
