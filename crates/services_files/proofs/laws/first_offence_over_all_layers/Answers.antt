use Rattle.services_files.proofs.ChannelFiles.{offence_is_refused, open_cut_short, refused_offence, unoffending_unrefused, unrefused_unoffending}
use Rattle.services_files.proofs.laws.first_offence_over_all_layers.Goals as goal

pub returns-clause-refused : goal.returns-clause-refused
returns-clause-refused c = refused_offence

pub returns-clause-offends : goal.returns-clause-offends
returns-clause-offends c = offence_is_refused

pub returns-clause-unrefused : goal.returns-clause-unrefused
returns-clause-unrefused c = unrefused_unoffending

pub returns-clause-unoffending : goal.returns-clause-unoffending
returns-clause-unoffending c = unoffending_unrefused

pub returns-clause-cut_short : goal.returns-clause-cut_short
returns-clause-cut_short c = open_cut_short
