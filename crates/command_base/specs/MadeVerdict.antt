-- Believed: the program's answer stands on these definitions.
-- Two shapes of what commands make of bytes: of an input that is judged as a whole, and of one beside a side file.
use Rattle.std.specs.Prelude.{◌≡◌, ◌≤◌, ◌⊎◌, ℕ, List, [], length}
use Rattle.cc_base.specs.Streams.{whole_limit}
use Rattle.command_base.specs.declared.status.Status.{Status}
use Rattle.command_base.specs.declared.status.Status.TheVariants as status

-- the output of an accepted input, of which this holds too
abbrev pub MakesOutput : {A : Type 0} → (List ℕ → A → Type 0) → (A → List ℕ) → (A → Type 0) → List ℕ → List ℕ → Type 0
MakesOutput {A} IsAccepted output IsSound input text = (made : A) × IsAccepted input made × (text ≡ output made) × IsSound made

-- what a command makes of an input that it judges as a whole: the output of an accepted one is put; of one that is refused nothing is, and
-- nothing before it is read to its end
abbrev pub MadeVerdict : {A : Type 0} → (List ℕ → A → Type 0) → (A → List ℕ) → (A → Type 0) → (List ℕ → Status → Type 0)
    → List ℕ → Status → List ℕ → Type 0
MadeVerdict IsAccepted output IsSound Refused input status.Ok text = MakesOutput IsAccepted output IsSound input text
MadeVerdict IsAccepted output IsSound Refused input status.WriteFault text = MakesOutput IsAccepted output IsSound input text
MadeVerdict IsAccepted output IsSound Refused input status.ReadFault text = (length input ≤ whole_limit) × (text ≡ [])
MadeVerdict IsAccepted output IsSound Refused input answer text = Refused input answer × (text ≡ [])

-- what a command makes of an input beside a side file: that is refused, and nothing is put; or it is this value, beside which the command
-- makes this of the input
abbrev pub BesideVerdict : {A : Type 0} → (List ℕ → A → Type 0) → (List ℕ → Status → Type 0) → (A → List ℕ → Status → List ℕ → Type 0)
    → List ℕ → List ℕ → Status → List ℕ → Type 0
BesideVerdict {A} Is Refused Makes aside input answer text =
    (Refused aside answer × (text ≡ [])) ⊎ ((value : A) × Is aside value × Makes value input answer text)
