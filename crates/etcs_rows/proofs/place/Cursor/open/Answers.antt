use Rattle.etcs_rows.proofs.place.Cursor.open.Goals as goal

pub enter_guarded-settled-requires-clause-here : goal.enter_guarded-settled-requires-clause-here
enter_guarded-settled-requires-clause-here c = c.in-When.ensures.0

pub enter_counted-settled-requires-clause-here : goal.enter_counted-settled-requires-clause-here
enter_counted-settled-requires-clause-here c = c.in-Many.ensures.0
