-- Believed: the program's answer stands on these definitions.
-- What commands make of words, frame by frame.
use Rattle.std.specs.Prelude.{◌≡◌, ◌<◌, ◌≤◌, ◌⊎◌, ℕ, List, ◌++◌, length, take}
use Rattle.cc_base.specs.declared.limit_of.LimitOf.TheVariants as limit
use Rattle.cdp_packets.specs.Packets.{Frame}
use Rattle.command_base.specs.declared.status.Place.TheVariants.{Byte}
use Rattle.command_base.specs.declared.status.Status.{Status}
use Rattle.command_base.specs.declared.status.Status.TheVariants as status
use Rattle.cc_receiver.specs.CaptionChannel.{caption_channel}
use Rattle.words_files.specs.Offences.{FirstOffendingWord, IsCutShort, IsFileUnder, IsUnoffending}
use Rattle.words_reading.specs.Causes.{words_limit}

-- the input is a words file, of whose frames this holds
abbrev pub OfFile : (List Frame → Type 0) → List ℕ → Type 0
OfFile Holds input = (frames : List Frame) × IsFileUnder caption_channel frames input × Holds frames

-- a file ends well: Ok is answered, and of its frames and the text this holds
abbrev pub EndsWell : (List Frame → List ℕ → Type 0) → Status → List ℕ → List ℕ → Type 0
EndsWell Holds status.Ok input text = OfFile (λ frames. Holds frames text) input
EndsWell Holds _ input text = ⊥

-- as much of the words as the limit admits
abbrev pub admitted : List ℕ → List ℕ
admitted input = take words_limit input

-- words are refused so: a word offends that the limit admits, or they are cut short; or they pass the limit, and none offends before it
abbrev pub AreRefused : List ℕ → Status → Type 0
AreRefused input (status.Malformed (Byte place) why) =
    FirstOffendingWord caption_channel (admitted input) (record { place = place; why = why })
    ⊎ ((length input ≤ words_limit) × IsCutShort caption_channel input (record { place = place; why = why }))
AreRefused input (status.Limit limit.Bytes) = (words_limit < length input) × IsUnoffending caption_channel (admitted input)
AreRefused input _ = ⊥

-- the words begin with some, within the limit, at whose end the run stops for this
abbrev pub StopsWithin : (List ℕ → List ℕ → Type 0) → List ℕ → List ℕ → Type 0
StopsWithin Halts input text =
    (judged rest : List ℕ) × (input ≡ judged ++ rest) × (length judged ≤ words_limit) × Halts judged text

-- words end so: a file comes to its end, or they are refused, and what stands for all before is put, or a run stops at a frame for a reason of
-- its own
abbrev pub EndsWords : (Status → List ℕ → List ℕ → Type 0) → (List ℕ → List ℕ → Type 0) → (Status → List ℕ → List ℕ → Type 0)
    → List ℕ → Status → List ℕ → Type 0
EndsWords AtEnd Says Halts input answer text =
    ((length input ≤ words_limit) × AtEnd answer input text)
    ⊎ (AreRefused input answer × Says (admitted input) text)
    ⊎ StopsWithin (Halts answer) input text

-- what a command makes of words, frame by frame
abbrev pub WordsVerdict : (Status → List ℕ → List ℕ → Type 0) → (List ℕ → List ℕ → Type 0) → (Status → List ℕ → List ℕ → Type 0)
    → List ℕ → Status → List ℕ → Type 0
WordsVerdict AtEnd Says Halts input status.ReadFault text =
    (length input ≤ words_limit) × IsUnoffending caption_channel input × Says input text
WordsVerdict AtEnd Says Halts input status.WriteFault text =
    StopsWithin Says input text
    ⊎ ((answer : Status) × StopsWithin (Halts answer) input text)
    ⊎ ((length input ≤ words_limit) × AtEnd status.Ok input text)
WordsVerdict AtEnd Says Halts input answer text = EndsWords AtEnd Says Halts input answer text

-- nothing in the words is a reason to stop
abbrev pub NeverHalts : Status → List ℕ → List ℕ → Type 0
NeverHalts answer judged text = ⊥
