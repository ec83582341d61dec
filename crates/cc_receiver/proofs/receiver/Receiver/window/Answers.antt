use Rattle.std.proofs.Common.{◌≡◌, None, ap, subst}
use Rattle.std.specs.Prelude.{MatchOption}
use Rattle.services_files.specs.Meaning.{Served, served_after, start}
use Rattle.dtvcc_windows.specs.Objects.{window_of}
use Rattle.cc_receiver.proofs.ServedLemmas.{received_events}
use Rattle.cc_receiver.proofs.receiver.Receiver.window.Goals as goal

pub returns-clause-received : goal.returns-clause-received
returns-clause-received c bytes frames had are =
    let served = received_events frames bytes c.args.self.now had are in
    subst (λ (s : Served). MatchOption c.window.result (s.core.screen.windows c.args.id ≡ None) (λ window. window_of window.now ≡ s.core.screen.windows c.args.id))
    (ap (served_after start) (served.all c.args.service)) (c.window.ensures.window served.earlier served.last served.leads)
