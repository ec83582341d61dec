use Rattle.std.proofs.Common.{rules}
use Rattle.cc_receiver.proofs.services.Served.reset.Goals as goal

pub returns-clause-served : goal.returns-clause-served
returns-clause-served c = λ before earlier last served. record { heard = search rules; leads = c.reset.ensures.leads earlier last served.leads }
