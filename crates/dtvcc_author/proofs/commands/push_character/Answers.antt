use Rattle.std.proofs.Common.{◌≡◌, ◌∷◌, [], arith, Some}
use Rattle.dtvcc_codes.specs.Writing.{bytes_of_command}
use Rattle.dtvcc_codes.specs.declared.commands.Command.TheVariants as command
use Rattle.dtvcc_author.proofs.AsciiUnits.{ascii_written}
use Rattle.dtvcc_author.proofs.commands.push_character.Goals as goal

pub returns-in-32-to-126 : goal.returns-in-32-to-126
returns-in-32-to-126 c =
    let is : bytes_of_command (command.Put (Some c.args.ch)) ≡ c.args.ch ∷ [] = ascii_written c.args.ch (omega arith) (omega arith) in
    rw is c.push_byte.ensures
