use Rattle.words_files.proofs.EndingLemmas.{file_closed}
use Rattle.services_files.specs.CaptionChannel.{caption_channel}
use Rattle.services_files.proofs.ChannelFiles.{caught_channel, channel_caught}
use Rattle.services_files.proofs.laws.whole_files_are_caught.Goals as goal

pub returns-clause-caught : goal.returns-clause-caught
returns-clause-caught c = λ frames bytes is. (channel_caught frames bytes is).0

pub returns-clause-unrefused : goal.returns-clause-unrefused
returns-clause-unrefused c = λ frames bytes is. ((channel_caught frames bytes is).1, file_closed caption_channel frames bytes is)

pub returns-clause-file : goal.returns-clause-file
returns-clause-file c = caught_channel
