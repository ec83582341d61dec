use Rattle.std.proofs.Common.{inl, inr}
use Rattle.words_files.proofs.EndingLemmas.{cut_short_has_no_offence, file_has_no_offence}
use Rattle.services_files.specs.CaptionChannel.{caption_channel}
use Rattle.services_files.proofs.ChannelFiles.{each_channel, offence_is_once}
use Rattle.services_files.proofs.laws.every_input_is_whole_or_cut_short_or_offends.Goals as goal

pub returns-clause-each : goal.returns-clause-each
returns-clause-each c = each_channel

pub returns-clause-file : goal.returns-clause-file
returns-clause-file c = λ frames bytes refused file malformed. elim malformed [
  | inl offence ↦ file_has_no_offence caption_channel frames bytes refused file offence
  | inr cut ↦ cut.no_file frames file
]

pub returns-clause-cut_short : goal.returns-clause-cut_short
returns-clause-cut_short c = cut_short_has_no_offence caption_channel

pub returns-clause-one : goal.returns-clause-one
returns-clause-one c = offence_is_once
