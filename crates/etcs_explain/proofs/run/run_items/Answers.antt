use Rattle.etcs_explain.proofs.run.run_items.Goals as goal

pub run_engine-ended-requires-clause-fresh : goal.run_engine-ended-requires-clause-fresh
run_engine-ended-requires-clause-fresh g c = c.new-items.ensures.bytes c.in-Bin.is
