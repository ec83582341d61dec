-- Between crates: the program's answer stands on none of these definitions.
-- What a receiver is after a whole packet of captions that it read in one pass.
use Rattle.std.specs.Prelude.{◌≡◌, ℕ, ◌+◌, ◌<◌, ◌++◌, List, None, take}
use Rattle.anc_words.specs.Packets.{AncillaryPacket}
use Rattle.anc_words.specs.WordsFiles.{IsWordsFile}
use Rattle.services_files.specs.Catching.{refusal_of}
use Rattle.services_files.specs.Services.{services_say}
use Rattle.cc_receiver.specs.declared.receiver.Receiver.{Receiver}
use Rattle.cc_receiver.specs.declared.receiver.Ended.TheVariants as ended
use Rattle.cc_receiver.specs.Receivers.{HasReceived, frame_count}
use Rattle.cc_receiver.specs.Receiving.{EndsBy}

-- it was fed the bytes before and this many of these, which end with that packet, and no packet ends before it
pub record ReadsWhole (before bytes : List ℕ) (size : ℕ) (old new : Receiver) : Type 0 where
  pub received : HasReceived (before ++ take size bytes) new
  pub unrefused : refusal_of services_say (before ++ take size bytes) ≡ None
  pub ends : EndsBy ended.Caption (before ++ take size bytes)
  pub first : (packets : List AncillaryPacket) (fewer : ℕ) → 0 < fewer → fewer < size → IsWordsFile packets (before ++ take fewer bytes) → ⊥
  pub counts : frame_count new ≡ frame_count old + 1
