use Rattle.channel_packets.proofs.LawLemmas.{header_for-number, header_for-size, written-are, written-reads_back}
use Rattle.channel_packets.proofs.laws.written_is_read_back.Goals as goal

pub returns-clause-packet : goal.returns-clause-packet
returns-clause-packet c = written-are

pub returns-clause-read : goal.returns-clause-read
returns-clause-read c = λ number bytes rest packets some few are.
    let back = written-reads_back number bytes packets rest some few are in (back.others, back.first, back.behind)

pub returns-clause-number : goal.returns-clause-number
returns-clause-number c = header_for-number

pub returns-clause-size : goal.returns-clause-size
returns-clause-size c = header_for-size
