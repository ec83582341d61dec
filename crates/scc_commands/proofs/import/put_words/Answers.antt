use Rattle.scc_commands.proofs.import.put_words.Goals as goal

pub put_frames-requires : goal.put_frames-requires
put_frames-requires g c = rw c.as_slice.ensures c.requires

pub returns-clause-bytes : goal.returns-clause-bytes
returns-clause-bytes g c = rw c.as_slice.ensures at c.put_frames.ensures.bytes
