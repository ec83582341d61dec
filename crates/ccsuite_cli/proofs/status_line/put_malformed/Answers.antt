use Rattle.ccsuite_cli.proofs.status_line.put_malformed.Goals as goal

pub returns-in-Byte-clause-bytes : goal.returns-in-Byte-clause-bytes
returns-in-Byte-clause-bytes g c =
    let put = rw (c.as_bytes.ensures.value, c.format.ensures.text, c.as_bytes-name.ensures.value, c.name.ensures) at c.put_pieces.ensures.bytes in
    rw c.in-Byte.is put

pub returns-in-Field-clause-bytes : goal.returns-in-Field-clause-bytes
returns-in-Field-clause-bytes g c =
    let put = rw (
      c.as_bytes-in-Field.ensures.value,
      c.format-in-Field.ensures.text,
      c.as_bytes-in-Field-2.ensures.value,
      c.format-in-Field-2.ensures.text,
      c.as_bytes-name.ensures.value,
      c.name.ensures,
    ) at c.put_pieces-in-Field.ensures.bytes in
    rw c.in-Field.is put
