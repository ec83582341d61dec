use Rattle.std.proofs.Common.{◌∙◌, ap, sym}
use Rattle.services_files.specs.Meaning.{served_after, start}
use Rattle.services_files.specs.Screens.{ScreenState}
use Rattle.services_files.specs.Shown.{grids}
use Rattle.cc_receiver.proofs.ServedLemmas.{received_events}
use Rattle.cc_receiver.proofs.receiver.Receiver.is_used.Goals as goal

pub returns : goal.returns
returns c bytes frames had are unused id =
    let served = received_events frames bytes c.args.self.now had are in
    ap (λ (s : ScreenState). grids s id)
    (ap (λ events. (served_after start events).core.screen) (sym (served.all c.args.service)) ∙ c.is_used.ensures served.earlier served.last served.leads unused)
