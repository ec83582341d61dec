use Rattle.cc_receiver.proofs.ReceivedLemmas.{shown_received}
use Rattle.cc_receiver.proofs.SeenLemmas.{windows_received}
use Rattle.cc_receiver.proofs.TakenLemmas.{frames_count}
use Rattle.cc_receiver.proofs.laws.receiver_equals_meaning.Goals as goal

pub returns-clause-count : goal.returns-clause-count
returns-clause-count c = λ bytes frames receiver had are. frames_count frames bytes receiver had are

pub returns-clause-shown : goal.returns-clause-shown
returns-clause-shown c = λ bytes frames receiver chan had are. shown_received frames bytes receiver chan had are

pub returns-clause-windows : goal.returns-clause-windows
returns-clause-windows c = λ bytes frames receiver service id had are numbered. windows_received frames bytes receiver service id had are numbered
