use Rattle.std.proofs.Common.{arith, length, map, string_bytes}
use Rattle.std.proofs.lemmas.Bool.{ltb-false, ltb-true}
use Rattle.std.proofs.lemmas.List.{length-map}
use Rattle.ccsuite_cli.proofs.CommandLemmas.{long_side, short_side}
use Rattle.ccsuite_cli.proofs.command.side_of.Goals as goal
use Rattle.ccsuite_cli.proofs.command.side_of.Goals.{in_default-via-then-words-lt2, in_default-via-else-words-lt2+else-words-lt3+else-words-lt4}

pub returns-in_default : goal.returns-in_default
returns-in_default c =
    let size = length-map c.args.words.now string_bytes in
    elim c.in_default.branch [
      | in_default-via-then-words-lt2 w ↦
          let few = ltb-true (length c.args.words.now) 2 w.if-words-lt2-1.true in short_side (map string_bytes c.args.words.now) (omega (arith, size, few))
      | in_default-via-else-words-lt2+else-words-lt3+else-words-lt4 w ↦
          let many = ltb-false (length c.args.words.now) 4 w.if-words-lt4-1.false in long_side (map string_bytes c.args.words.now) (omega (arith, size, many))
    ]
