use Rattle.words_files.specs.Verdicts.{layers_of}
use Rattle.words_files.proofs.AlikeLemmas.{begins-alike, reason-alike}
use Rattle.services_files.specs.CaptionChannel.{caption_channel}
use Rattle.services_files.specs.Services.{services_say}
use Rattle.services_files.proofs.ChannelFiles.{file_said, said_file}
use Rattle.services_files.proofs.ReasonLemmas.{channel_said, said_channel}
use Rattle.services_files.proofs.laws.services_say_what_the_channel_is.Goals as goal

pub returns-clause-whole : goal.returns-clause-whole
returns-clause-whole c = said_file

pub returns-clause-file : goal.returns-clause-file
returns-clause-file c = file_said

pub returns-clause-begins : goal.returns-clause-begins
returns-clause-begins c = λ bytes.
    (begins-alike (layers_of services_say) caption_channel channel_said bytes, begins-alike caption_channel (layers_of services_say) said_channel bytes)

pub returns-clause-reason : goal.returns-clause-reason
returns-clause-reason c = λ before high low reason. (
  reason-alike (layers_of services_say) caption_channel channel_said before high low reason,
  reason-alike caption_channel (layers_of services_say) said_channel before high low reason,
)
