use Rattle.ccsuite_cli.proofs.misfit_line.put_channel.Goals as goal

pub returns-clause-bytes : goal.returns-clause-bytes
returns-clause-bytes g c =
    rw (
      c.as_bytes.ensures.value,
      c.format.ensures.text,
      c.as_bytes-2.ensures.value,
      c.name.ensures,
      c.as_bytes-3.ensures.value,
      c.name-2.ensures,
    ) at c.put_pieces.ensures.bytes
