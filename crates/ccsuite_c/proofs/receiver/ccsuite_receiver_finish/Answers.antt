use Rattle.ccsuite_c.proofs.receiver.ccsuite_receiver_finish.Goals as goal

pub returns-in-Some-clause-end : goal.returns-in-Some-clause-end
returns-in-Some-clause-end c = λ r bytes is had. c.finish-code.ensures.end r bytes (cc (c.deref.ensures, c.in-Some.ensures.taken)) had

pub returns-in-Some-clause-file : goal.returns-in-Some-clause-file
returns-in-Some-clause-file c = λ r bytes frames is had file.
    c.finish-code.ensures.file r bytes frames (cc (c.deref.ensures, c.in-Some.ensures.taken)) had file
