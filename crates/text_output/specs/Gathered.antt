-- Between crates: the program's answer stands on none of these definitions.
-- A text that is gathered before it is put: what is held, and what adding a piece does.
use Rattle.std.specs.Prelude.{◌≡◌, ◌++◌, ℕ, List, [], Option}
use Rattle.std.specs.Io.KnownBytes.{Appends}
use Rattle.cc_base.specs.Streams.{Puts}
use Rattle.cc_base.specs.declared.streams.Put.{Put}
use Rattle.cc_base.specs.declared.streams.Put.TheVariants as put
use Rattle.text_output.specs.declared.gathered.Gathered.{Gathered}

-- the bytes that are held
abbrev pub held_of : Gathered → List ℕ
held_of g = g.held.items

-- what the puts of the text that is being written answered
abbrev pub answer_of : Gathered → Put
answer_of g = g.answer

-- a piece was added: a front of what was held and of the piece is put, and the rest is held
abbrev pub Gathers : Option (List ℕ) → Option (List ℕ) → List ℕ → List ℕ → Put → List ℕ → Type 0
Gathers old new before after put.Done piece = (sent : List ℕ) × Appends old new sent × (before ++ piece ≡ sent ++ after)
Gathers old new before after put.Failed piece = Puts old new put.Failed before

-- what was held is put, and nothing is held any more
abbrev pub Flushes : Option (List ℕ) → Option (List ℕ) → List ℕ → List ℕ → Put → Type 0
Flushes old new before after put.Done = Appends old new before × (after ≡ [])
Flushes old new before after put.Failed = Puts old new put.Failed before

-- a text was gathered: a front of it was put, and the rest is held
pub record IsGathered (old new : Option (List ℕ)) (held all : List ℕ) : Type 0 where
  pub sent : List ℕ
  pub appended : Appends old new sent
  pub whole : sent ++ held ≡ all

-- a text was gathered, or a put of it failed
abbrev pub GathersText : Option (List ℕ) → Option (List ℕ) → List ℕ → List ℕ → Put → Type 0
GathersText old new held all put.Done = IsGathered old new held all
GathersText old new held all put.Failed = Puts old new put.Failed all
