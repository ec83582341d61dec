use Rattle.ccsuite_cli.proofs.status_line.put_status.Goals as goal

pub returns-in-Usage-clause-bytes : goal.returns-in-Usage-clause-bytes
returns-in-Usage-clause-bytes g c = rw c.in-Usage.is c.put_pieces-in-Usage.ensures.bytes

pub returns-in-ReadFault-clause-bytes : goal.returns-in-ReadFault-clause-bytes
returns-in-ReadFault-clause-bytes g c = rw c.in-ReadFault.is c.put_pieces-in-ReadFault.ensures.bytes

pub returns-in-WriteFault-clause-bytes : goal.returns-in-WriteFault-clause-bytes
returns-in-WriteFault-clause-bytes g c = rw c.in-WriteFault.is c.put_pieces-in-WriteFault.ensures.bytes

pub returns-in-Memory-clause-bytes : goal.returns-in-Memory-clause-bytes
returns-in-Memory-clause-bytes g c = rw c.in-Memory.is c.put_pieces-in-Memory.ensures.bytes

pub returns-in-NoRoom-clause-bytes : goal.returns-in-NoRoom-clause-bytes
returns-in-NoRoom-clause-bytes g c = rw c.in-NoRoom.is c.put_numbered.ensures.bytes

pub returns-in-NoRoomBeside-clause-bytes : goal.returns-in-NoRoomBeside-clause-bytes
returns-in-NoRoomBeside-clause-bytes g c = rw c.in-NoRoomBeside.is c.put_numbered-in-NoRoomBeside.ensures.bytes

pub returns-in-NoXdsRoom-clause-bytes : goal.returns-in-NoXdsRoom-clause-bytes
returns-in-NoXdsRoom-clause-bytes g c = rw c.in-NoXdsRoom.is c.put_numbered-in-NoXdsRoom.ensures.bytes
