use Rattle.std.proofs.Common.{◌∙◌, ap, length}
use Rattle.services_files.specs.Meaning.{served_after, start}
use Rattle.cc_receiver.proofs.ServedLemmas.{received_events}
use Rattle.cc_receiver.proofs.receiver.Receiver.held.Goals as goal

pub returns-clause-received : goal.returns-clause-received
returns-clause-received c bytes frames had are =
    let served = received_events frames bytes c.args.self.now had are in
    c.held.ensures.held served.earlier served.last served.leads ∙ ap (λ events. length (served_after start events).core.held) (served.all c.args.service)
