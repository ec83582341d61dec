use Rattle.service_blocks.proofs.ChannelLemmas.{heard-append, heard_joined, heard_pieces}
use Rattle.service_blocks.proofs.laws.triplets_are_read_piece_by_piece.Goals as goal

pub returns-clause-read : goal.returns-clause-read
returns-clause-read c = λ before triplets. (heard_pieces before triplets, heard_joined before triplets)

pub returns-clause-says : goal.returns-clause-says
returns-clause-says c = heard-append
