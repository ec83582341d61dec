use Rattle.std.proofs.Common.{List, [], refl, subst, sym}
use Rattle.cc_receiver.specs.ReceivedServices.{received_windows}
use Rattle.cue_types.specs.declared.cue.Cue.{Cue}
use Rattle.cc_verifier.specs.Channels.{AreReady, AreTimedAll, KnowAll}
use Rattle.cc_verifier.specs.Services.{KnowServices, StandAt}
use Rattle.cc_verifier.proofs.WindowTurnLemmas.{ruled_in_turn}
use Rattle.words_files.proofs.FramesOfLemmas.{file_frames}
use Rattle.words_files.specs.Received.{received_grids}
use Rattle.cc_receiver.specs.CaptionChannel.{caption_channel}
use Rattle.cc_verifier.proofs.FindingLemmas.{clean_none}
use Rattle.cc_verifier.proofs.KeptLemmas.{ruled_timed}
use Rattle.cc_receiver.proofs.FedFrames.{nothing_is_file}
use Rattle.cc_verifier.proofs.verifier.Verifier.new.Goals as goal

pub new-requires : goal.new-requires
new-requires c = subst AreTimedAll (sym c.cues.ensures.cues) (ruled_timed c.args.list c.requires)

pub returns-clause-verified : goal.returns-clause-verified
returns-clause-verified c = record {
  received = c.in_ok-new.ensures;
  frames = [];
  frames_are = file_frames caption_channel [] [] nothing_is_file;
  found = clean_none c.args.list;
  goes_on = λ nothing. record {
    counter = refl;
    ready = record {
      turn = ruled_in_turn c.args.list c.cues.ensures.formed c.requires;
      channels = subst (λ (cs : List Cue). AreReady cs 0 c.in_ok-channels.channels) c.cues.ensures.cues c.in_ok-channels.ensures.ready;
      services = subst (λ (cs : List Cue). StandAt cs 0 c.new-services.result) c.cues-2.ensures.cues c.new-services.ensures.at;
    };
    knows = record {
      channels = subst (λ (cs : List Cue). KnowAll cs 0 (received_grids []) c.in_ok-channels.channels) c.cues.ensures.cues (c.in_ok-channels.ensures.knows (received_grids []));
      services = subst (λ (cs : List Cue). KnowServices cs 0 (received_windows []) c.new-services.result) c.cues-2.ensures.cues (c.new-services.ensures.knows (received_windows []));
    };
  };
}
