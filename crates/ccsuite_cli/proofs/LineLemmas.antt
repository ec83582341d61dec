-- The line of a status, or a front of it.
use Rattle.std.proofs.Common.{inl, inr, ℕ, List, Option}
use Rattle.cc_base.specs.Streams.{PutCause, Puts}
use Rattle.cc_base.specs.declared.streams.Put.{Put}
use Rattle.cc_base.specs.declared.streams.Put.TheVariants as put
use Rattle.ccsuite_cli.specs.StatusLine.{PutsLine, status_line}
use Rattle.command_base.specs.declared.status.Status.{Status}

-- what a put of it did, by its answer
pub line_put : (old new : Option (List ℕ)) (before now : ℕ) (r : Put) (answer : Status) → Puts old new r (status_line answer) → PutCause before now r
    → PutsLine old new before now answer
line_put old new before now put.Done answer puts same = inl (puts, same)
line_put old new before now put.Failed answer puts rose = inr (puts, rose.1)
