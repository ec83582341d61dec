use Rattle.dtvcc_codes.proofs.SpellableLemmas.{spelled_is_spellable}
use Rattle.dtvcc_codes.proofs.WrittenLemmas.{spellable_is_spelled}
use Rattle.dtvcc_codes.proofs.laws.spellable_commands_are_spelled.Goals as goal

pub returns : goal.returns
returns c = λ command. (spellable_is_spelled command, λ spelled. spelled_is_spellable command spelled.bytes spelled.are_bytes spelled.spells)
