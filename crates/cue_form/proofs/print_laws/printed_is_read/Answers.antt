use Rattle.cue_form.proofs.InOrder.{same_share}
use Rattle.cue_form.proofs.PrintedFacts.{read_list-list_bytes}
use Rattle.cue_form.proofs.print_laws.printed_is_read.Goals as goal

pub returns : goal.returns
returns c = record { list = read_list-list_bytes; shares = same_share }
