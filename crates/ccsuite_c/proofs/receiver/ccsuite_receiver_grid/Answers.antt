use Rattle.ccsuite_c.proofs.receiver.ccsuite_receiver_grid.Goals as goal

pub returns-in-Some-clause-grid : goal.returns-in-Some-clause-grid
returns-in-Some-clause-grid c = λ r frames is stands. c.grid-code.ensures.grid r frames (cc (c.deref.ensures, c.in-Some.ensures.taken)) stands
