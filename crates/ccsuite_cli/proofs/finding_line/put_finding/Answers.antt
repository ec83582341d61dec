use Rattle.ccsuite_cli.proofs.finding_line.put_finding.Goals as goal

pub returns-in-CounterJump-clause-bytes : goal.returns-in-CounterJump-clause-bytes
returns-in-CounterJump-clause-bytes g c = rw c.in-CounterJump.is c.put_seen.ensures.bytes

pub returns-in-WrongCount-clause-bytes : goal.returns-in-WrongCount-clause-bytes
returns-in-WrongCount-clause-bytes g c = rw c.in-WrongCount.is c.put_seen-in-WrongCount.ensures.bytes

pub returns-in-WrongRate-clause-bytes : goal.returns-in-WrongRate-clause-bytes
returns-in-WrongRate-clause-bytes g c =
    let put = rw (c.from.ensures, c.code.ensures, c.from-in-WrongRate.ensures, c.code-in-WrongRate.ensures) at c.put_seen-in-WrongRate.ensures.bytes in
    rw c.in-WrongRate.is put

pub returns-in-BufferFull-clause-bytes : goal.returns-in-BufferFull-clause-bytes
returns-in-BufferFull-clause-bytes g c = rw c.in-BufferFull.is c.put_service.ensures.bytes

pub returns-in-GridDiffers-clause-bytes : goal.returns-in-GridDiffers-clause-bytes
returns-in-GridDiffers-clause-bytes g c = rw c.in-GridDiffers.is c.put_grid.ensures.bytes

pub returns-in-TwoPairs-clause-bytes : goal.returns-in-TwoPairs-clause-bytes
returns-in-TwoPairs-clause-bytes g c = rw c.in-TwoPairs.is c.put_seen-in-TwoPairs.ensures.bytes

pub returns-in-EightBits-clause-bytes : goal.returns-in-EightBits-clause-bytes
returns-in-EightBits-clause-bytes g c = rw c.in-EightBits.is c.put_plain.ensures.bytes
