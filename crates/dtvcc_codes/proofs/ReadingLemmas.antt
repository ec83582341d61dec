-- What a whole spelling says, by its first byte.
use Rattle.std.proofs.Common.{◌≡◌, ◌≢◌, ℕ, ◌-◌, ◌≤◌, ◌==◌, true, false, List, [], ◌∷◌, length, get_or, take, drop, ◌∙◌, ap, arith}
use Rattle.std.proofs.lemmas.Bool.Decides.{nat_tests}
use Rattle.std.proofs.lemmas.List.{take_all}
use Rattle.dtvcc_codes.specs.declared.commands.Command.{Command}
use Rattle.dtvcc_codes.specs.CodeTables.{base_codes}
use Rattle.dtvcc_codes.specs.Reading.{extended_command, said_at, spelled_command}

-- a list without its first element
rest_is : (code : ℕ) (rest : List ℕ) → take (length (code ∷ rest) - 1) rest ≡ rest
rest_is code rest = take_all (length (code ∷ rest) - 1) rest (omega arith)

-- after EXT1
pub command_of-extended : (bytes : List ℕ) (command : Command) → 1 ≤ length bytes → get_or bytes 0 0 ≡ 16
    → command ≡ extended_command (take (length bytes - 1) (drop 1 bytes)) → command ≡ spelled_command bytes
unfolding spelled_command
command_of-extended [] command some first says = absurd (omega arith)
command_of-extended (code ∷ rest) command some is says =
    let test : (code == 16) ≡ true = grind (arith, nat_tests) in
    rw test (says ∙ ap (λ bytes. extended_command bytes) (rest_is code rest))

-- without it
pub command_of-base : (bytes : List ℕ) (command : Command) → 1 ≤ length bytes → get_or bytes 0 0 ≢ 16
    → command ≡ said_at base_codes (get_or bytes 0 0) (take (length bytes - 1) (drop 1 bytes)) → command ≡ spelled_command bytes
unfolding spelled_command
command_of-base [] command some other says = absurd (omega arith)
command_of-base (code ∷ rest) command some other says =
    let test : (code == 16) ≡ false = grind (arith, nat_tests) in
    rw test (says ∙ ap (λ bytes. said_at base_codes code bytes) (rest_is code rest))
