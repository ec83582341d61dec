use Rattle.std.proofs.Common.{◌≡◌, subst}
use Rattle.caption_streams.specs.Receivings.{reception_of}
use Rattle.caption_streams.specs.Receptions.{HasFed}
use Rattle.ccsuite_c.proofs.receiver.finish.Goals as goal

pub returns-in-Some-clause-end : goal.returns-in-Some-clause-end
returns-in-Some-clause-end c = λ r bytes is had.
    let same : reception_of r ≡ c.reception.result.now = cc (c.reception.ensures, c.in-Some.ensures) in
    c.finish_behind.ensures.end bytes (subst (HasFed bytes) same had)

pub returns-in-Some-clause-file : goal.returns-in-Some-clause-file
returns-in-Some-clause-file c = λ r bytes frames is had file.
    let same : reception_of r ≡ c.reception.result.now = cc (c.reception.ensures, c.in-Some.ensures) in
    c.finish_behind.ensures.file bytes frames (subst (HasFed bytes) same had) file
