use Rattle.std.proofs.Common.{refl, arith, [], sym}
use Rattle.std.proofs.lemmas.Bool.{true≢false}
use Rattle.dtvcc_screen.specs.Meaning.{start}
use Rattle.words_files.proofs.FramesOfLemmas.{file_frames}
use Rattle.services_files.specs.CaptionChannel.{caption_channel}
use Rattle.cc_receiver.proofs.FedFrames.{nothing_is_file}
use Rattle.cc_conceal.proofs.HeardLemmas.{no_last}
use Rattle.cc_conceal.proofs.concealer.Concealer.new.Goals as goal

pub returns : goal.returns
returns c =
    let count = c.in_ok-new-4.ensures.count in
    let none = file_frames caption_channel [] [] nothing_is_file in
    record {
      received = c.in_ok-new.ensures;
      frames = [];
      frames_are = none;
      conceals = record {
        acted = record {
          counter = refl;
          behind = record {
            first = c.in_ok-new-2.ensures;
            second = c.in_ok-new-3.ensures;
            apart = λ yes. absurd (true≢false (sym yes));
            beside = λ no. record {
              earlier = λ service. [];
              last = λ service. [];
              has = c.in_ok-new-4.ensures.led;
              leads = λ service. (start.clock, refl);
              before = λ others newest none. absurd (no_last others newest none);
            };
          };
          together = λ no. refl;
          ticks = omega (arith, count);
          number = refl;
          missing = refl;
          small = omega arith;
          goes_on = λ on earlier last none. absurd (no_last earlier last none);
        };
        bytes = [];
        received = c.in_ok-new.ensures;
        frames_are = none;
      };
    }
