-- Between crates: the program's answer stands on none of these definitions.
-- An import on its way: what was read of the file, which words were heard, and what was made of the packets.
use Rattle.std.specs.Prelude.{◌≡◌, ◌≤◌, ◌<◌, ◌+◌, ◌*◌, ◌⊎◌, ℕ, List, [], ◌∷◌, ◌++◌, length, take, Option, IfSome, Result, Ok, Err}
use Rattle.anc_words.specs.Writing.{packet_bytes}
use Rattle.cc_base.specs.Rate.{triplets_in_frame}
use Rattle.std.specs.Io.KnownBytes.{Appends, Consumes}
use Rattle.cc_base.specs.Streams.{Puts, Rose}
use Rattle.cc_base.specs.declared.limit_of.LimitOf.{LimitOf}
use Rattle.cc_base.specs.declared.limit_of.LimitOf.TheVariants as limit
use Rattle.cc_base.specs.declared.rate.Rate.{Rate}
use Rattle.cc_base.specs.declared.refusal.Refusal.{Refusal}
use Rattle.cc_base.specs.declared.streams.Put.TheVariants as put
use Rattle.command_base.specs.Ends.{Ends, IsSteady}
use Rattle.words_reading.specs.Receivers.{HasReceived, frame_count}
use Rattle.cdp_packets.specs.Packets.{Frame}
use Rattle.mcc_files.specs.Lines.{HaveNoLf}
use Rattle.mcc_files.specs.MccFiles.{TimedPackets}
use Rattle.mcc_files.specs.Readers.{HasRead, HasWholeBytes, back_in, item_in, packet_in, state_of}
use Rattle.mcc_files.specs.Reading.{State, at_first, run}
use Rattle.mcc_files.specs.declared.phase.Phase.TheVariants as phase
use Rattle.mcc_files.specs.declared.reader.MccReader.{MccReader}
use Rattle.mcc_files.specs.Payloads.{Payload}
use Rattle.mcc_words.specs.Close.{words_as_they_came}
use Rattle.mcc_words.specs.Makers.{BeginsCaptions, HasMade}
use Rattle.mcc_words.specs.MccWords.{AreMccWords}
use Rattle.mcc_words.specs.Raised.{IsRaised}
use Rattle.mcc_words.specs.declared.maker.MccWords.{MccWords}
use Rattle.mcc_words.specs.declared.missing.MissingFrames.{MissingFrames}
use Rattle.scc_files.specs.Offences.{EndsLine}
use Rattle.services_files.specs.CaptionChannel.{caption_channel}
use Rattle.text_output.specs.Gathered.{IsGathered}
use Rattle.words_files.specs.Offences.{FirstOffendingWord, IsFileUnder, IsUnoffending}
use Rattle.words_reading.specs.Causes.{Cause, IsAnyhow, IsWholeInput, words_limit, HasNoOffence, PassesLimit}
use Rattle.words_reading.specs.Judging.{SaysFront}
use Rattle.words_reading.specs.Reading.{Stops}
use Rattle.words_reading.specs.declared.judge.Stop.{Stop}
use Rattle.words_reading.specs.declared.judge.Stop.TheVariants as stopped
use Rattle.mcc_commands.specs.ImportMcc.{HaltsImport, SaysImport}
use Rattle.mcc_commands.specs.Imported.{AreEndedLines, AreWithinImport, IsMccImport, PassesAtPacket, PassesWith, SaysLines, frames_put, most_imported_frames}
use Rattle.mcc_commands.specs.Offences.{IsMccCutShort, ItemWordOffends, NoWordOffends, IsWithoutOffence}
use Rattle.mcc_commands.specs.Words.{state_words, words_with}
use Rattle.mcc_commands.specs.declared.hearing.Hearer.{Hearer}
use Rattle.mcc_commands.specs.declared.importing.Importing.{Importing}
use Rattle.mcc_commands.specs.declared.made.Made.{Made}
use Rattle.mcc_commands.specs.declared.import_stop.MccStop.{MccStop}
use Rattle.mcc_commands.specs.declared.import_stop.MccStop.TheVariants as stop

-- the number of bytes of a frame without captions
abbrev pub frame_size : Rate → ℕ
frame_size rate = 40 + 6 * triplets_in_frame rate

-- these are the words of packets, within the limits, that were made
pub record IsMade (placed : TimedPackets) (words : List ℕ) (made : Made) : Type 0 where
  pub has : HasMade placed words made.words
  pub frames_are : made.frames ≡ frames_put placed
  pub bytes_are : made.bytes ≡ length words

-- this many frames and bytes more were counted, or a limit is passed with them
abbrev pub Counts : Made → ℕ → ℕ → Made → Result (Unit {0}) LimitOf → Type 0
Counts old frames bytes new (Ok done) = (new.frames ≡ old.frames + frames) × (new.bytes ≡ old.bytes + bytes) × (new.words ≡ old.words)
Counts old frames bytes new (Err limit.Bytes) = words_limit < old.bytes + bytes
Counts old frames bytes new (Err limit.Frames) = (most_imported_frames < old.frames + frames) × (old.bytes + bytes ≤ words_limit)
Counts old frames bytes new (Err _) = ⊥

-- a limit is passed with a packet
pub record PassesBy (which : LimitOf) (placed : TimedPackets) (last : ℕ × Payload) : Type 0 where
  pub longer : List ℕ
  pub are : AreMccWords (placed ++ last ∷ []) longer
  pub passes : PassesWith which (frames_put (placed ++ last ∷ [])) longer

-- the words of a packet more were added, or a put of them failed, or a limit is passed with it
abbrev pub AddsPacket : TimedPackets → List ℕ → ℕ × Payload → Option (List ℕ) → Option (List ℕ) → List ℕ → Made → Result (Unit {0}) (Stop MccStop) → Type 0
AddsPacket placed words last start then after made (Ok done) =
    (more : List ℕ) × IsMade (placed ++ last ∷ []) (words ++ more) made × IsGathered start then after (words ++ more)
AddsPacket placed words last start then after made (Err stopped.WriteFault) =
    (more : List ℕ) × AreWithinImport (placed ++ last ∷ []) (words ++ more) × Puts start then put.Failed (words ++ more)
AddsPacket placed words last start then after made (Err (stopped.Own (stop.Passes which))) = PassesBy which placed last × IsGathered start then after words
AddsPacket placed words last start then after made (Err _) = ⊥

-- a packet of captions with these user bytes was begun at a frame after packets of which these words were made, and before it these frames
-- are missing
pub record HasBegun (placed : TimedPackets) (words : List ℕ) (frame : ℕ) (user : List ℕ) (missing : MissingFrames) (made : Made) : Type 0 where
  pub before : MccWords
  pub has : HasMade placed words before
  pub frames_are : made.frames ≡ frames_put placed
  pub bytes_are : made.bytes ≡ length words
  pub begins : BeginsCaptions before frame user made.words missing

-- these are the words of the packet of captions with these user bytes that was begun: the words of the packet with its counter raised
abbrev pub AreBegunWords : MccWords → List ℕ → List ℕ → Type 0
AreBegunWords maker user bytes = IfSome maker.before (λ now. (raised : List ℕ) × IsRaised now.raised user raised × (bytes ≡ packet_bytes 0x61 0x01 raised))

-- a hearer heard these words, of which none offends
pub record HasHeard (words : List ℕ) (hearer : Hearer) : Type 0 where
  pub received : HasReceived words hearer.receiver
  pub unoffending : IsUnoffending caption_channel words
  pub few : frame_count hearer.receiver ≤ length words
  pub counted : hearer.heard ≡ length words

-- it heard some
pub record SomeHeard (hearer : Hearer) : Type 0 where
  pub words : List ℕ
  pub heard : HasHeard words hearer

-- it heard more, or one of them offends
abbrev pub HearsMore : List ℕ → List ℕ → Hearer → Result (Unit {0}) Refusal → Type 0
HearsMore before words new (Ok done) = HasHeard (before ++ words) new
HearsMore before words new (Err refusal) = FirstOffendingWord caption_channel (before ++ words) refusal

-- the lines that ended, and the open one
pub record HasLines (bytes : List ℕ) (placed : TimedPackets) : Type 0 where
  pub lines : List ℕ
  pub rest : List ℕ
  pub spelled : bytes ≡ lines ++ rest
  pub ended : AreEndedLines placed lines
  pub open_line : HaveNoLf rest

-- the words of packets are a words file
pub record AreFile (placed : TimedPackets) : Type 0 where
  pub frames : List Frame
  pub under : IsFileUnder caption_channel frames (words_as_they_came placed)

-- these bytes were taken, in which nothing offends, and these words were made of the packets of the lines that ended
pub record HasImported (bytes words : List ℕ) (importing : Importing) : Type 0 where
  pub placed : TimedPackets
  pub read : HasRead bytes placed importing.reader
  pub lines : HasLines bytes placed
  pub no_word : NoWordOffends bytes
  pub heard : HasHeard (state_words (state_of importing.reader placed)) importing.hearer
  pub file : AreFile placed
  pub made : IsMade placed words importing.made
  pub place_is : importing.place ≡ length bytes

-- more bytes may follow within the limit
pub record MayTake (importing : Importing) (more : ℕ) : Type 0 where
  pub bytes : List ℕ
  pub words : List ℕ
  pub had : HasImported bytes words importing
  pub within : length bytes + more ≤ words_limit

-- and the words of what was taken are gathered
pub record MayTakeAll (now : Option (List ℕ)) (held : List ℕ) (importing : Importing) (more : ℕ) : Type 0 where
  pub may : MayTake importing more
  pub start : Option (List ℕ)
  pub way : IsGathered start now held may.words

-- the bytes of the item that ends with a byte, as far as a payload can continue with them, and how many bytes before it the item begins
abbrev pub step_item : MccReader → ℕ → List ℕ
step_item reader byte = item_in (state_of reader []).phase (state_of reader []).payload byte

abbrev pub step_back : MccReader → ℕ
step_back reader = back_in (state_of reader []).phase (state_of reader []).payload

-- the words of the item that ends with a byte were heard, or one of them offends
abbrev pub JudgesItem : List ℕ → TimedPackets → ℕ → Importing → Importing → Result (Unit {0}) MccStop → Type 0
JudgesItem bytes placed byte old new (Ok done) =
    (new.reader ≡ old.reader) × (new.made ≡ old.made) × (new.place ≡ old.place) × HasHeard (words_with (state_of old.reader placed) (step_item old.reader byte)) new.hearer
JudgesItem bytes placed byte old new (Err why) = (refusal : Refusal) × (why ≡ stop.Offends refusal) × ItemWordOffends (bytes ++ byte ∷ []) refusal

-- the whole input ends too soon
abbrev pub EndsInput : Refusal → Option (List ℕ) → Cause
EndsInput refusal left judged unjudged = IsWholeInput left judged unjudged × IsMccCutShort judged refusal

-- the bytes judged end with a line: by its line end, or by the end of the whole input
abbrev pub HasEndedLine : Option (List ℕ) → Cause
HasEndedLine left judged unjudged = EndsLine judged ⊎ IsWholeInput left judged unjudged

-- where a limit is passed with a packet, its line has ended: within the bytes by its line end, or with the whole input
abbrev pub HaltsBehind : MccStop → List ℕ → Type 0
HaltsBehind (stop.Offends refusal) judged = Unit {0}
HaltsBehind (stop.Passes which) judged = EndsLine judged

abbrev pub HaltsWhere : Option (List ℕ) → MccStop → Cause
HaltsWhere left (stop.Offends refusal) = IsAnyhow
HaltsWhere left (stop.Passes which) = HasEndedLine left

-- why a run stopped with these bytes, of which these are the words
abbrev pub HaltsSo : Option (List ℕ) → Option (List ℕ) → List ℕ → List ℕ → List ℕ → Stop MccStop → Type 0
HaltsSo start then after judged words stopped.WriteFault = SaysLines judged words × Puts start then put.Failed words
HaltsSo start then after judged words (stopped.Own why) =
    HaltsImport why judged words × HaltsBehind why judged × IsGathered start then after words
HaltsSo start then after judged words _ = ⊥

-- a run stopped within bytes
pub record HasHalted (start then : Option (List ℕ)) (after bytes : List ℕ) (why : Stop MccStop) : Type 0 where
  pub judged : List ℕ
  pub unjudged : List ℕ
  pub words : List ℕ
  pub spelled : bytes ≡ judged ++ unjudged
  pub cause : HaltsSo start then after judged words why

-- bytes were taken, or the run stopped within them
abbrev pub TakesBytes : Option (List ℕ) → Option (List ℕ) → List ℕ → List ℕ → Importing → Result (Unit {0}) (Stop MccStop) → Type 0
TakesBytes start then after bytes importing (Ok done) = (words : List ℕ) × HasImported bytes words importing × IsGathered start then after words
TakesBytes start then after bytes importing (Err why) = HasHalted start then after bytes why

-- the bytes ended
abbrev pub EndsFile : Option (List ℕ) → Option (List ℕ) → List ℕ → List ℕ → Result (Unit {0}) (Stop MccStop) → Type 0
EndsFile start then after bytes (Ok done) = (words : List ℕ) × IsMccImport bytes words × IsGathered start then after words
EndsFile start then after bytes (Err stopped.WriteFault) = (words : List ℕ) × IsMccImport bytes words × Puts start then put.Failed words
EndsFile start then after bytes (Err (stopped.Refused refusal)) = (words : List ℕ) × SaysLines bytes words × IsMccCutShort bytes refusal × IsGathered start then after words
EndsFile start then after bytes (Err (stopped.Own (stop.Passes which))) = (words : List ℕ) × PassesAtPacket which bytes words × IsGathered start then after words
EndsFile start then after bytes (Err _) = ⊥

-- a run judged bytes, within the limit, and took more after them; words that are said of them were gathered, and it ended for this cause
pub record Holds (Says : List ℕ → List ℕ → Type 0) (Why : Cause) (old new : Ends) (held : List ℕ) : Type 0 where
  pub judged : List ℕ
  pub unjudged : List ℕ
  pub words : List ℕ
  pub taken : Consumes old.left new.left (judged ++ unjudged)
  pub within : length judged ≤ words_limit
  pub says : Says judged words
  pub cause : Why judged unjudged
  pub way : IsGathered old.written new.written held words

-- an input was read to its end, or the run stopped before, and these words are held
abbrev pub ReadsFile : Ends → Ends → List ℕ → Result (Unit {0}) (Stop MccStop) → Type 0
ReadsFile old new held (Ok done) = IsSteady old new × Holds IsMccImport (IsWholeInput old.left) old new held
ReadsFile old new held (Err stopped.ReadFault) =
    Rose old.read_faults new.read_faults × (new.write_faults ≡ old.write_faults) × Stops SaysLines (HasNoOffence IsWithoutOffence) put.Done old new
ReadsFile old new held (Err stopped.WriteFault) =
    (new.read_faults ≡ old.read_faults) × Rose old.write_faults new.write_faults × Stops (SaysFront SaysImport HaltsImport) IsAnyhow put.Failed old new
ReadsFile old new held (Err stopped.Limit) = IsSteady old new × Holds SaysLines (PassesLimit IsWithoutOffence) old new held
ReadsFile old new held (Err (stopped.Refused refusal)) = IsSteady old new × Holds SaysLines (EndsInput refusal old.left) old new held
ReadsFile old new held (Err (stopped.Own why)) = IsSteady old new × Holds (HaltsImport why) (HaltsWhere old.left why) old new held

-- what was held was put, unless a put failed before; or a put of it fails
abbrev pub PutsHeld : Option (List ℕ) → ℕ → Option (List ℕ) → ℕ → List ℕ → Result (Unit {0}) (Stop MccStop) → Result (Unit {0}) (Stop MccStop) → Type 0
PutsHeld now before then after held read (Err stopped.WriteFault) = (before ≤ after) × Rose before after × Puts now then put.Failed held
PutsHeld now before then after held read result = (result ≡ read) × (after ≡ before) × Appends now then held

abbrev pub PutsRest : Option (List ℕ) → ℕ → Option (List ℕ) → ℕ → List ℕ → Result (Unit {0}) (Stop MccStop) → Result (Unit {0}) (Stop MccStop) → Type 0
PutsRest now before then after held (Err stopped.ReadFault) result = (result ≡ Err stopped.ReadFault) × (then ≡ now) × (after ≡ before)
PutsRest now before then after held (Err stopped.WriteFault) result = (result ≡ Err stopped.WriteFault) × (then ≡ now) × (after ≡ before)
PutsRest now before then after held read result = PutsHeld now before then after held read result

-- a packet's line has ended after these packets' lines, and the words with it were heard
pub record HasEnded (placed : TimedPackets) (reader : MccReader) (hearer : Hearer) : Type 0 where
  pub file : AreFile placed
  pub heard : HasHeard (words_as_they_came (placed ++ packet_in reader ∷ [])) hearer

-- one has
pub record SomeEnded (reader : MccReader) : Type 0 where
  pub placed : TimedPackets
  pub hearer : Hearer
  pub ended : HasEnded placed reader hearer

-- nothing changed but the words that were made, and the room
pub record KeepsAllElse (old new : Importing) : Type 0 where
  pub reader : new.reader ≡ old.reader
  pub hearer : new.hearer ≡ old.hearer
  pub place : new.place ≡ old.place

-- a reader took a line after bytes, and it is a packet's
pub record ReadsLine (before : List ℕ) (placed : TimedPackets) (line : List ℕ) (reader : MccReader) : Type 0 where
  pub front : List ℕ
  pub spelled : line ≡ front ++ 10 ∷ []
  pub open_lines : HasLines (before ++ front) placed
  pub read : HasRead (before ++ line) (placed ++ packet_in reader ∷ []) reader
  pub whole : HasWholeBytes reader
  pub start : reader.phase ≡ phase.Start
  pub lines : HasLines (before ++ line) (placed ++ packet_in reader ∷ [])

-- so long is the first line of bytes
pub record IsFirstLine (before : List ℕ) (placed : TimedPackets) (bytes : List ℕ) (count : ℕ) (reader : MccReader) : Type 0 where
  pub within : count ≤ length bytes
  pub some : 0 < count
  pub line : ReadsLine before placed (take count bytes) reader

-- such a line may be taken
pub record MayTakeLine (importing : Importing) (line : List ℕ) : Type 0 where
  pub may : MayTake importing (length line)
  pub start : importing.reader.phase ≡ phase.Start
  pub reads : ReadsLine may.bytes may.had.placed line importing.ahead

-- a word of what a reader reads of a line offends, which begins at a place, after this many bytes of words
pub record LineOffends (reader : MccReader) (line : List ℕ) (place heard : ℕ) (word : Refusal) : Type 0 where
  pub before : List ℕ
  pub placed : TimedPackets
  pub to : State
  pub read : HasRead before placed reader
  pub goes : run at_first (before ++ line) ≡ Ok to
  pub unoffending : IsUnoffending caption_channel (state_words (state_of reader placed))
  pub offends : FirstOffendingWord caption_channel (state_words to) word
  pub few : length (state_words to) < 4294967295
  pub heard_is : heard ≡ length (state_words (state_of reader placed))
  pub place_is : place ≡ length before
  pub within : length (before ++ line) ≤ words_limit

-- the next bytes were taken, this many, or the run stopped within those that follow
abbrev pub TakesNext : Option (List ℕ) → Option (List ℕ) → List ℕ → List ℕ → List ℕ → Importing → Result ℕ (Stop MccStop) → Type 0
TakesNext start then after before bytes importing (Ok count) = TakesBytes start then after (before ++ take count bytes) importing (Ok tt)
TakesNext start then after before bytes importing (Err why) = HasHalted start then after (before ++ bytes) why
