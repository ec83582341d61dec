use Rattle.std.proofs.Common.{◌≡◌, ◌∙◌, arith, rules}
use Rattle.anc_words.specs.Writing.{packet_bytes}
use Rattle.cdp_packets.specs.Written.{cc_data_section, written_packet}
use Rattle.words_files.specs.CarriedWords.{caption_flags}
use Rattle.words_files.proofs.CarriedWordsLemmas.{section_words}
use Rattle.words_files.proofs.carried.write_triplets.Goals as goal

pub returns : goal.returns
returns c =
    let written : c.write_packet.new.out.items ≡ packet_bytes 0x61 0x01 (written_packet c.args.rate caption_flags c.args.counter (cc_data_section c.args.triplets.now)) = search rules in
    written ∙ section_words c.args.rate c.args.counter c.args.triplets.now (omega arith)
