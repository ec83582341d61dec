use Rattle.std.proofs.Common.{ℕ, List, subst, sym}
use Rattle.cc_base.specs.Streams.{Puts}
use Rattle.reported_runs.proofs.LineLemmas.{other_line}
use Rattle.reported_runs.proofs.line.put_line.Goals as goal

pub returns-in-Usage-clause-bytes : goal.returns-in-Usage-clause-bytes
returns-in-Usage-clause-bytes g c = rw c.in-Usage.is c.put.ensures.bytes

pub returns-in-WriteFault-clause-bytes : goal.returns-in-WriteFault-clause-bytes
returns-in-WriteFault-clause-bytes g c = rw c.in-WriteFault.is c.put-in-WriteFault.ensures.bytes

pub returns-in_default-clause-bytes : goal.returns-in_default-clause-bytes
returns-in_default-clause-bytes g c =
    subst (λ (line : List ℕ). Puts (g.O.Sink.written c.args.out.now) (g.O.Sink.written c.put_status.new.err) c.put_status.result line)
    (sym (other_line c.args.status c.in_default.not-Usage c.in_default.not-WriteFault)) c.put_status.ensures.bytes
