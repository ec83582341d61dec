use Rattle.ccsuite_c.proofs.receiver.ccsuite_receiver_cell.Goals as goal

pub returns-in-Some-clause-cell : goal.returns-in-Some-clause-cell
returns-in-Some-clause-cell c = λ r frames is stands. c.cell-code.ensures.cell r frames (cc (c.deref.ensures, c.in-Some.ensures.taken)) stands
