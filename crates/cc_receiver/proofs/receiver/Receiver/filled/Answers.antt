use Rattle.services_files.specs.Events.{frame_events, service_events}
use Rattle.services_files.specs.CarriedChannel.{file_triplets}
use Rattle.cc_receiver.proofs.ServedLemmas.{received_last}
use Rattle.cc_receiver.proofs.receiver.Receiver.filled.Goals as goal

pub returns : goal.returns
returns c bytes earlier last had are =
    c.filled.ensures (λ service. service_events service earlier) (λ service. frame_events service (file_triplets earlier) last)
    (received_last earlier last bytes c.args.self.now had are)
