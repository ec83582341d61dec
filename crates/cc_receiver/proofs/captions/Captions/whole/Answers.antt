use Rattle.cc_receiver.proofs.captions.Captions.whole.Goals as goal

pub returns-then-not-is_of-clause-frame : goal.returns-then-not-is_of-clause-frame
returns-then-not-is_of-clause-frame c = λ caught keeps took.
    let (frame, is, says) = c.in-Some.ensures.packet in
    (frame, is, c.anew.ensures.frame caught frame keeps is.sections says took)

pub returns-clause-frame : goal.returns-clause-frame
returns-clause-frame c = λ caught keeps took.
    let (frame, is, says) = c.in-Some.ensures.packet in
    (frame, is, c.again.ensures.frame caught frame keeps is.sections says took)
