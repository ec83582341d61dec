use Rattle.ccsuite_cli.proofs.misfit_line.put_changed.Goals as goal

pub returns-in-Chan-clause-bytes : goal.returns-in-Chan-clause-bytes
returns-in-Chan-clause-bytes g c = rw c.in-Chan.is c.put_channel.ensures.bytes

pub returns-in-Service-clause-bytes : goal.returns-in-Service-clause-bytes
returns-in-Service-clause-bytes g c = rw c.in-Service.is c.put_service.ensures.bytes
