-- Believed in part: the program's answer stands on some of these definitions.
-- Causes for which a reading of words ends: of the bytes judged, and of those taken after them and not judged.
use Rattle.std.specs.Prelude.{◌≡◌, ◌<◌, ◌⊎◌, ℕ, List, [], length, Option, IfSome}
use Rattle.cc_base.specs.declared.refusal.Refusal.{Refusal}
use Rattle.cdp_packets.specs.Packets.{Frame}
use Rattle.words_files.specs.Offences.{FirstOffendingWord, IsCutShort, IsFileUnder}
use Rattle.cc_receiver.specs.CaptionChannel.{caption_channel}

-- the most bytes of a words file
abbrev pub words_limit : ℕ
words_limit = 2147483647

-- what may hold where a run stops: of the bytes judged, and of those taken after them and not judged
abbrev pub Cause : Type 1
Cause = List ℕ → List ℕ → Type 0

-- the bytes judged are all that the input had, and it was read to its end
abbrev pub IsWholeInput : Option (List ℕ) → Cause
IsWholeInput left judged unjudged = IfSome left (λ bytes. bytes ≡ judged) × (unjudged ≡ [])

-- the whole input is a words file
abbrev pub IsWholeFile : Option (List ℕ) → Cause
IsWholeFile left judged unjudged = IsWholeInput left judged unjudged × ((frames : List Frame) × IsFileUnder caption_channel frames judged)

-- nothing offends in the bytes taken, as this says
abbrev pub HasNoOffence : (List ℕ → Type 0) → Cause
HasNoOffence Unoffending judged unjudged = (unjudged ≡ []) × Unoffending judged

-- there is a byte past the limit, and nothing within it offends, as this says
abbrev pub PassesLimit : (List ℕ → Type 0) → Cause
PassesLimit Unoffending judged unjudged = (length judged ≡ words_limit) × (0 < length unjudged) × Unoffending judged

-- a word offends, or the whole input is cut short
abbrev pub IsRefusedWith : Refusal → Option (List ℕ) → Cause
IsRefusedWith refusal left judged unjudged =
    FirstOffendingWord caption_channel judged refusal ⊎ (IsWholeInput left judged unjudged × IsCutShort caption_channel judged refusal)

-- nothing more is said
abbrev pub IsAnyhow : Cause
IsAnyhow judged unjudged = Unit {0}
