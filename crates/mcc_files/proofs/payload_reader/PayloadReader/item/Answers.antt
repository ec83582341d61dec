use Rattle.mcc_files.proofs.FittingLemmas.{letter_few}
use Rattle.mcc_files.proofs.payload_reader.PayloadReader.item.Goals as goal

pub fitting-bytes-requires-in-Some-letter_bytes : goal.fitting-bytes-requires-in-Some-letter_bytes
fitting-bytes-requires-in-Some-letter_bytes c = letter_few c.args.byte c.in-Some-letter_bytes.brought.now c.in-Some-letter_bytes.ensures
