use Rattle.dtvcc_codes.proofs.SpellingLemmas.{spelled_is_finished, spelled_one_way}
use Rattle.dtvcc_codes.proofs.laws.no_spelling_begins_another.Goals as goal

pub returns-clause-command : goal.returns-clause-command
returns-clause-command c = spelled_one_way

pub returns-clause-unfinished : goal.returns-clause-unfinished
returns-clause-unfinished c = spelled_is_finished
