use Rattle.std.proofs.Common.{◌≡◌, rules}
use Rattle.line21_codes.specs.declared.pairs.Pair.{Pair}
use Rattle.line21_codes.specs.Channels.{numbered_field}
use Rattle.line21_codes.specs.Writing.{pair_of_code}
use Rattle.line21_codes.proofs.CodeLemmas.{written_is_read}
use Rattle.line21_codes.proofs.writing.write_code.Goals as goal

pub returns-clause-code : goal.returns-clause-code
unfolding pair_of_code
returns-clause-code c =
    let pair : Pair = record { a = c.parity.result; b = c.parity-2.result } in
    let is : pair ≡ pair_of_code (numbered_field c.args.second_field) c.args.code = search rules in
    written_is_read (numbered_field c.args.second_field) c.args.code pair is c.requires
