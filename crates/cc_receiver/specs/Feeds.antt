-- Believed: the library's answers stand on these definitions.
-- What a receiver makes of the next bytes after those that it was fed: it reads a front of them, or refuses a word.
use Rattle.std.specs.Prelude.{◌≡◌, ℕ, ◌+◌, ◌<◌, ◌≤◌, ◌++◌, List, length, take, Result, Ok, Err}
use Rattle.cc_base.specs.declared.refusal.Refusal.{Refusal}
use Rattle.anc_words.specs.Packets.{AncillaryPacket}
use Rattle.anc_words.specs.WordsFiles.{IsWordsFile}
use Rattle.services_files.specs.Offences.{FirstOffendingWord, IsUnoffending}
use Rattle.services_files.specs.CaptionChannel.{caption_channel}
use Rattle.cc_receiver.specs.declared.receiver.Ended.{Ended}
use Rattle.cc_receiver.specs.declared.receiver.Ended.TheVariants as ended
use Rattle.cc_receiver.specs.declared.receiver.Fed.{Fed}
use Rattle.cc_receiver.specs.declared.receiver.Receiver.{Receiver}
use Rattle.cc_receiver.specs.Receivers.{HasReceived, frame_count}
use Rattle.cc_receiver.specs.Receiving.{EndsBy}

-- one more frame was counted where a packet of captions ended, and none elsewhere
abbrev pub Counts : ℕ → ℕ → Ended → Type 0
Counts before now ended.Caption = now ≡ before + 1
Counts before now _ = now ≡ before

-- it was fed a front of the bytes, of which no word offends: they end with a packet as it says, no packet ends sooner, and the
-- frames are counted
pub record HasFed (before bytes : List ℕ) (old new : Receiver) (fed : Fed) : Type 0 where
  pub received : HasReceived (before ++ take fed.used bytes) new
  pub unoffending : IsUnoffending caption_channel (before ++ take fed.used bytes)
  pub ends : 0 < fed.used → EndsBy fed.ended (before ++ take fed.used bytes)
  pub first : (packets : List AncillaryPacket) (fewer : ℕ) → 0 < fewer → fewer < fed.used → IsWordsFile packets (before ++ take fewer bytes) → ⊥
  pub counts : Counts (frame_count old) (frame_count new) fed.ended

-- it was fed all of the bytes, of which this word is the first that offends; no packet ends in them before it, and it counts the frames
-- that it counted
pub record HasRefused (before bytes : List ℕ) (old new : Receiver) (refusal : Refusal) : Type 0 where
  pub received : HasReceived (before ++ bytes) new
  pub offence : FirstOffendingWord caption_channel (before ++ bytes) refusal
  pub first : (packets : List AncillaryPacket) (n : ℕ) → 0 < n → length before + n ≤ length offence.before → IsWordsFile packets (before ++ take n bytes) → ⊥
  pub stays : frame_count new ≡ frame_count old

-- the one or the other
abbrev pub Feeds : List ℕ → List ℕ → Receiver → Receiver → Result Fed Refusal → Type 0
Feeds before bytes old new (Ok fed) = HasFed before bytes old new fed
Feeds before bytes old new (Err refusal) = HasRefused before bytes old new refusal
