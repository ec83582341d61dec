use Rattle.std.proofs.Common.{◌++◌, ◌∷◌, [], subst, sym}
use Rattle.std.specs.Prelude.{None, Some}
use Rattle.cc_verifier.specs.WindowTurns.{AreAllInTurn}
use Rattle.cc_receiver.specs.Receivers.{displayed_grid}
use Rattle.cc_receiver.specs.ReceivedServices.{received_windows}
use Rattle.words_files.specs.Received.{received_grids}
use Rattle.cc_verifier.proofs.FindingLemmas.{clean_services, screen_first, service_first, tried_screens}
use Rattle.cc_receiver.proofs.FedFrames.{frames_shown}
use Rattle.cc_verifier.proofs.ScreenLemmas.{channels_before, channels_found, channels_know, leave_idle, services_before, services_found, services_know}
use Rattle.cc_verifier.proofs.verifier.Verifier.find_on_screens.Goals as goal

pub returns-in-Some-clause-finds : goal.returns-in-Some-clause-finds
returns-in-Some-clause-finds c bytes earlier last had are at on tried =
    let list = c.args.self.now.list in
    let receiver = c.args.self.now.receiver in
    let own = c.cues-cues.result.now in
    let same = c.cues-cues.ensures.cues in
    let shows = frames_shown bytes (earlier ++ last ∷ []) c.args.self.now.receiver had are in
    screen_first list earlier last c.in-Some.channel tried
    (channels_found list.cues own c.args.frame _ (displayed_grid receiver) (received_grids (earlier ++ last ∷ [])) (Some c.in-Some.channel) same at shows
    (c.in-Some.ensures.first (received_grids earlier)
    (channels_before list.cues own c.args.frame _ (received_grids earlier) c.args.self.now.channels same at on.knows.channels)
    (leave_idle c.is_idle-is_idle.result (received_grids earlier) (displayed_grid receiver) (c.is_idle-is_idle.ensures.still bytes earlier last had are))))

pub find-requires-2-clause-turn : goal.find-requires-2-clause-turn
find-requires-2-clause-turn c = subst AreAllInTurn (sym c.cues-cues.ensures.cues) c.requires.ready.turn

pub returns-in-Some-find-clause-finds : goal.returns-in-Some-find-clause-finds
returns-in-Some-find-clause-finds c bytes earlier last had are at on tried =
    let list = c.args.self.now.list in
    let receiver = c.args.self.now.receiver in
    let own = c.cues-cues.result.now in
    let same = c.cues-cues.ensures.cues in
    let shows = frames_shown bytes (earlier ++ last ∷ []) c.args.self.now.receiver had are in
    service_first list earlier last c.in-Some-find.service
    (tried_screens list earlier last tried
    (channels_found list.cues own c.args.frame _ (displayed_grid receiver) (received_grids (earlier ++ last ∷ [])) None same at shows
    (c.in_default.ensures.first (received_grids earlier)
    (channels_before list.cues own c.args.frame _ (received_grids earlier) c.args.self.now.channels same at on.knows.channels)
    (leave_idle c.is_idle-is_idle.result (received_grids earlier) (displayed_grid receiver) (c.is_idle-is_idle.ensures.still bytes earlier last had are)))))
    (services_found list.cues own c.args.frame _ (received_windows (earlier ++ last ∷ [])) (Some c.in-Some-find.service) same at
    (c.in-Some-find.ensures.first bytes earlier last had are
    (services_before list.cues own c.args.frame _ (received_windows earlier) c.args.self.now.services same at on.knows.services)))

pub returns-in-None-clause-finds : goal.returns-in-None-clause-finds
returns-in-None-clause-finds c bytes earlier last had are at on tried =
    let list = c.args.self.now.list in
    let receiver = c.args.self.now.receiver in
    let own = c.cues-cues.result.now in
    let same = c.cues-cues.ensures.cues in
    let shows = frames_shown bytes (earlier ++ last ∷ []) c.args.self.now.receiver had are in
    let channels = channels_before list.cues own c.args.frame _ (received_grids earlier) c.args.self.now.channels same at on.knows.channels in
    let services = services_before list.cues own c.args.frame _ (received_windows earlier) c.args.self.now.services same at on.knows.services in
    let leaves = leave_idle c.is_idle-is_idle.result (received_grids earlier) (displayed_grid receiver) (c.is_idle-is_idle.ensures.still bytes earlier last had are) in (
      clean_services list earlier last
          (tried_screens list earlier last tried
          (channels_found list.cues own c.args.frame _ (displayed_grid receiver) (received_grids (earlier ++ last ∷ [])) None same at shows
          (c.in_default.ensures.first (received_grids earlier) channels leaves)))
          (services_found list.cues own c.args.frame _ (received_windows (earlier ++ last ∷ [])) None same at (c.in-None.ensures.first bytes earlier last had are services)),
      record {
        channels = channels_know list.cues own c.args.frame _ (displayed_grid receiver) (received_grids (earlier ++ last ∷ [])) c.find.new.self same at shows
            (c.find.ensures.knows (received_grids earlier) channels leaves c.in_default.is);
        services = services_know list.cues own c.args.frame _ (received_windows (earlier ++ last ∷ [])) c.find-2.new.self same at
            (c.find-2.ensures.knows bytes earlier last had are services c.in-None.is);
      },
    )
