use Rattle.dtvcc_codes.proofs.CutLemmas.{spelling_completes}
use Rattle.dtvcc_codes.proofs.WrittenLemmas.{written_spells}
use Rattle.dtvcc_codes.proofs.writing.write_command.Goals as goal

pub returns-clause-spells : goal.returns-clause-spells
returns-clause-spells c = written_spells c.args.command.now c.bytes_of.result.items c.requires.spellable c.requires.unskipped c.bytes_of.ensures

pub returns-clause-completes : goal.returns-clause-completes
returns-clause-completes c =
    (spelling_completes c.args.command.now c.bytes_of.result.items (written_spells c.args.command.now c.bytes_of.result.items c.requires.spellable c.requires.unskipped c.bytes_of.ensures)).completions_are

pub returns-clause-closed : goal.returns-clause-closed
returns-clause-closed c =
    (spelling_completes c.args.command.now c.bytes_of.result.items (written_spells c.args.command.now c.bytes_of.result.items c.requires.spellable c.requires.unskipped c.bytes_of.ensures)).ends
