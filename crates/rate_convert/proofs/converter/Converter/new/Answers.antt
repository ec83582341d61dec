use Rattle.std.proofs.Common.{[]}
use Rattle.words_files.proofs.FramesOfLemmas.{file_frames}
use Rattle.services_files.specs.CaptionChannel.{caption_channel}
use Rattle.cc_receiver.proofs.FedFrames.{nothing_is_file}
use Rattle.rate_convert.proofs.ConverterLemmas.{halved_stands}
use Rattle.rate_convert.proofs.converter.Converter.new.Goals as goal

pub returns : goal.returns
returns c = record {
  received = c.in_ok-new.ensures;
  frames = [];
  frames_are = file_frames caption_channel [] [] nothing_is_file;
  stands = halved_stands [] _ c.in_ok-new-2.ensures;
}
