-- Believed in part: the program's answer stands on some of these definitions.
-- Packets of captions that stand at one frame or in consecutive ones, so that no frame is missing between them.
use Rattle.std.specs.Prelude.{◌≡◌, ℕ, ◌+◌, ◌≤◌, ◌<◌, ◌⊎◌, true, false, List, [], ◌∷◌, ◌++◌, Option, Some, None, ⊤}
use Rattle.std.specs.List.{All}
use Rattle.mcc_files.specs.MccFiles.{TimedPackets}
use Rattle.mcc_files.specs.PayloadWords.{payload_words}
use Rattle.mcc_words.specs.MccWords.{carries_captions}

-- the frame is that after the packet of captions before, at the latest
abbrev pub IsClose : Option ℕ → ℕ → Type 0
IsClose None frame = ⊤
IsClose (Some last) frame = frame ≤ last + 1

-- the packets of captions are close, after one at this frame
abbrev pub AreClose : Option ℕ → TimedPackets → Type 0
AreClose last [] = ⊤
AreClose last (placed ∷ more) =
    ((carries_captions placed.1 ≡ true) × IsClose last placed.0 × AreClose (Some placed.0) more) ⊎ ((carries_captions placed.1 ≡ false) × AreClose last more)

-- the user bytes of packets are bytes
abbrev pub HaveBytes : TimedPackets → Type 0
HaveBytes [] = ⊤
HaveBytes (placed ∷ more) = All (λ byte. byte < 256) placed.1.user × HaveBytes more

-- the words of packets as they came
abbrev pub words_as_they_came : TimedPackets → List ℕ
words_as_they_came [] = []
words_as_they_came (placed ∷ more) = payload_words placed.1 ++ words_as_they_came more
