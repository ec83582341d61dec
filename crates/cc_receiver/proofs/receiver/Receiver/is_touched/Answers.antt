use Rattle.std.proofs.Common.{◌∙◌, ap}
use Rattle.services_files.specs.Meaning.{served_after, start}
use Rattle.services_files.specs.Shown.{grids}
use Rattle.services_files.specs.Events.{frame_events, service_events}
use Rattle.services_files.specs.CarriedChannel.{file_triplets}
use Rattle.services_files.proofs.EventLemmas.{events_more}
use Rattle.cc_receiver.proofs.ServedLemmas.{received_last}
use Rattle.cc_receiver.proofs.receiver.Receiver.is_touched.Goals as goal

pub returns : goal.returns
returns c bytes earlier last had are untouched service id is =
    ap (λ events. grids (served_after start events).core.screen id) (events_more service earlier last)
    ∙ c.is_touched.ensures (λ service. service_events service earlier) (λ service. frame_events service (file_triplets earlier) last)
    (received_last earlier last bytes c.args.self.now had are) untouched service is id
