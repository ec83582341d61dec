use Rattle.ccsuite_cli.proofs.misfit_line.put_misfit.Goals as goal

pub returns-in-Rate-clause-bytes : goal.returns-in-Rate-clause-bytes
returns-in-Rate-clause-bytes g c = rw c.in-Rate.is (rw c.from.ensures at c.put_number.ensures.bytes)

pub returns-in-Count-clause-bytes : goal.returns-in-Count-clause-bytes
returns-in-Count-clause-bytes g c = rw c.in-Count.is c.put_number-in-Count.ensures.bytes

pub returns-in-One-clause-bytes : goal.returns-in-One-clause-bytes
returns-in-One-clause-bytes g c = rw c.in-One.is c.put_number-in-One.ensures.bytes

pub returns-in-Two-clause-bytes : goal.returns-in-Two-clause-bytes
returns-in-Two-clause-bytes g c = rw c.in-Two.is c.put_number-in-Two.ensures.bytes

pub returns-in-Many-clause-bytes : goal.returns-in-Many-clause-bytes
returns-in-Many-clause-bytes g c = rw c.in-Many.is c.put_number-in-Many.ensures.bytes

pub returns-in-Changed-clause-bytes : goal.returns-in-Changed-clause-bytes
returns-in-Changed-clause-bytes g c = rw c.in-Changed.is c.put_changed.ensures.bytes
