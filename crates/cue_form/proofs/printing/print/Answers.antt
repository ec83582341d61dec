use Rattle.std.proofs.Common.{◌≡◌, rules, arith}
use Rattle.std.proofs.lemmas.Grind.{common_steps}
use Rattle.cue_form.specs.Printing.{in_order, list_bytes}
use Rattle.cue_types.specs.declared.head.Version.TheVariants as version
use Rattle.cue_form.proofs.PrintedFacts.{records_of-bytes}
use Rattle.cue_form.proofs.printing.print.Goals as goal

-- the bytes are the list's, and these are read back as its records
pub returns-in-Ok-clause-records : goal.returns-in-Ok-clause-records
returns-in-Ok-clause-records c =
    let is : c.in-Ok.bytes.items ≡ list_bytes c.args.list.now = first_of (search rules, grind (arith, common_steps)) in
    rw is (records_of-bytes version.Two (in_order c.args.list.now))
