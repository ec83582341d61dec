-- What is written of commands spells them.
use Rattle.std.proofs.Common.{◌≡◌, ℕ, List, [], ◌∷◌, refl, sym, subst}
use Rattle.std.specs.Prelude.{All, map}
use Rattle.std.proofs.lemmas.List.Elements.{All-head, All-tail}
use Rattle.dtvcc_codes.specs.declared.commands.Command.{Command}
use Rattle.dtvcc_codes.specs.Writing.{bytes_of_command}
use Rattle.dtvcc_codes.proofs.WrittenLemmas.{written_spells}
use Rattle.dtvcc_author.specs.CueUnits.{AreSpelled, IsWritable}

-- what is written of each
written_spelled : (commands : List Command) → All IsWritable commands → AreSpelled commands (map bytes_of_command commands)
written_spelled [] writable = tt
written_spelled (command ∷ commands) writable =
    let first = All-head IsWritable command commands writable in
    (written_spells command (bytes_of_command command) first.spellable first.unskipped refl, written_spelled commands (All-tail IsWritable command commands writable))

pub units_spelled : (commands : List Command) (units : List (List ℕ)) → All IsWritable commands → units ≡ map bytes_of_command commands → AreSpelled commands units
units_spelled commands units writable is = subst (λ (us : List (List ℕ)). AreSpelled commands us) (sym is) (written_spelled commands writable)
