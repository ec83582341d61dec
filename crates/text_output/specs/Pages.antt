-- Between crates: the program's answer stands on none of these definitions.
-- A text that is written piece by piece: gathered on its way to a sink, or left off where a put failed.
use Rattle.std.specs.Prelude.{ℕ, List, ◌++◌, Option}
use Rattle.cc_base.specs.Streams.{PutCause, Puts}
use Rattle.cc_base.specs.declared.streams.Put.{Put}
use Rattle.cc_base.specs.declared.streams.Put.TheVariants as put
use Rattle.text_output.specs.declared.gathered.Gathered.{Gathered}
use Rattle.text_output.specs.Gathered.{Gathers, GathersText, answer_of, held_of}

-- what is gathered, with the bytes that the sink has written, where it tells them, and the count of its faults
pub record Page : Type 0 where
  pub text : Gathered
  pub written : Option (List ℕ)
  pub faults : ℕ

abbrev pub page : Gathered → Option (List ℕ) → ℕ → Page
page text written faults = record { text = text; written = written; faults = faults }

-- from what the sink had written, and the count of its faults, a text was written: it was gathered, or a front of it was put and
-- the count rose
pub record HasWrittenText (start : Option (List ℕ)) (faults : ℕ) (all : List ℕ) (now : Page) : Type 0 where
  pub bytes : GathersText start now.written (held_of now.text) all (answer_of now.text)
  pub cause : PutCause faults now.faults (answer_of now.text)

-- after whatever was written a text more was
abbrev pub Writes : Page → Page → List ℕ → Type 0
Writes old new text = (start : Option (List ℕ)) (faults : ℕ) (before : List ℕ)
    → HasWrittenText start faults before old → HasWrittenText start faults (before ++ text) new

-- a text was written to a sink that tells what was written, and the count of its faults
abbrev pub Adds : {O : Type 0} → (O → Option (List ℕ)) → (O → ℕ) → Gathered → O → Gathered → O → List ℕ → Type 0
Adds written faults old out_old new out_new text = Writes (page old (written out_old) (faults out_old)) (page new (written out_new) (faults out_new)) text

-- a piece was added, or a put failed with a front of what was held and of the piece
abbrev pub PutsPiece : Option (List ℕ) → Option (List ℕ) → List ℕ → List ℕ → Put → List ℕ → Type 0
PutsPiece old new before after put.Done piece = Gathers old new before after put.Done piece
PutsPiece old new before after put.Failed piece = Puts old new put.Failed (before ++ piece)

-- some text was written
abbrev pub WritesSome : Page → Page → Type 0
WritesSome old new = (text : List ℕ) × Writes old new text

-- of whatever was written all was put, or a front of it where a put failed, for which the count rose
abbrev pub Finishes : Page → Option (List ℕ) → ℕ → Put → Type 0
Finishes old written faults answer = (start : Option (List ℕ)) (before : ℕ) (all : List ℕ)
    → HasWrittenText start before all old → Puts start written answer all × PutCause before faults answer
