-- Where the units of cues are placed, there is a slot from the LOAD of each cue on and before its SHOW.
use Rattle.std.proofs.Common.{◌≡◌, ℕ, suc, ◌<◌, ◌≤◌, true, List, [], ◌∷◌, ◌++◌, map, refl, subst, arith}
use Rattle.std.specs.List.{AllByRecursion, flat_map}
use Rattle.line21_codes.specs.declared.codes.Code.{Code}
use Rattle.line21_codes.specs.declared.codes.Control.TheVariants.{Cr, Enm, Rcl, Rdc, Ru}
use Rattle.cue_lists.specs.Rules.Lane.{is_line21}
use Rattle.cue_lists.specs.declared.cue.Cue.{Cue}
use Rattle.cue_lists.specs.declared.cue.Kind.{Kind}
use Rattle.cue_lists.specs.declared.cue.Kind.TheVariants as kind
use Rattle.frame_scheduler.specs.Channels.{field_of_kind}
use Rattle.frame_scheduler.specs.CueCodes.{opening_codes}
use Rattle.frame_scheduler.specs.CueUnits.{unit_of}
use Rattle.frame_scheduler.specs.FirstChannel.{first_channel}
use Rattle.frame_scheduler.specs.RunCodes.{run_codes}
use Rattle.frame_scheduler.specs.Event.{Event}
use Rattle.frame_scheduler.specs.Unit.{Unit}
use Rattle.frame_scheduler.specs.FieldChunk.{FieldChunk}
use Rattle.frame_scheduler.specs.ChannelLane.{field_cue_chunks}
use Rattle.line21_shown.proofs.SuffixLemmas.{AreChunks, ArePlacedFrom}

-- a unit has a slot within its time
abbrev pub HasTime : FieldChunk → Type 0
HasTime chunk = chunk.load < chunk.until

-- so has each that is placed
pub all_have_time : (events : List Event) (a : ℕ) (chunks : List FieldChunk) (slots : List ℕ) → ArePlacedFrom events a chunks slots
    → AllByRecursion HasTime chunks
all_have_time events a [] slots placed = tt
all_have_time events a (chunk ∷ chunks) [] placed = absurd placed
all_have_time events a (chunk ∷ chunks) (slot ∷ slots) placed =
    let loaded : chunk.load ≤ slot = placed.1 in
    let ended : slot < chunk.until = placed.2 in
    (omega arith, all_have_time events (suc slot) chunks slots placed.4)

-- a line 21 cue has a first code
first_code : (k : Kind) (codes : List Code) → is_line21 k ≡ true → (first : Code) × (rest : List Code) × (opening_codes k ++ codes ≡ first ∷ rest)
first_code (kind.Pop channel) codes line21 = (first_channel Rcl, first_channel Enm ∷ codes, refl)
first_code (kind.Paint channel) codes line21 = (first_channel Rdc, codes, refl)
first_code (kind.Roll channel rows) codes line21 = (first_channel (Ru rows), first_channel Cr ∷ codes, refl)
first_code (kind.Win window) codes line21 = cc

-- so it has a first unit, which has the cue's time
cue_loaded : (number : ℕ) (cue : Cue) (rest : List FieldChunk) → is_line21 cue.kind ≡ true → AllByRecursion HasTime (field_cue_chunks number cue ++ rest)
    → cue.load < cue.show
cue_loaded number cue rest line21 all =
    let w = first_code cue.kind (flat_map run_codes cue.runs) line21 in
    let chunk_of : Unit → FieldChunk = λ (unit : Unit). record { unit = unit; load = cue.load; until = cue.show; cue = number } in
    (subst (λ (codes : List Code). AllByRecursion HasTime (map chunk_of (map (unit_of (field_of_kind cue.kind)) codes) ++ rest)) w.2 all).0

-- what holds of all holds of those after some
all_behind : (front rest : List FieldChunk) → AllByRecursion HasTime (front ++ rest) → AllByRecursion HasTime rest
all_behind [] rest all = all
all_behind (chunk ∷ front) rest all = all_behind front rest all.1

-- each of the cues of placed units has a slot before its SHOW
pub cues_loaded : (cues : List Cue) (chunks : List FieldChunk) → AllByRecursion (λ (cue : Cue). is_line21 cue.kind ≡ true) cues → AreChunks cues chunks
    → AllByRecursion HasTime chunks → AllByRecursion (λ (cue : Cue). cue.load < cue.show) cues
cues_loaded [] chunks line21 are all = tt
cues_loaded (cue ∷ later) chunks line21 are all =
    let here : AllByRecursion HasTime (field_cue_chunks are.0 cue ++ are.1) = subst (AllByRecursion HasTime) are.2 all in (
      cue_loaded are.0 cue are.1 line21.0 here,
      cues_loaded later are.1 line21.1 are.3 (all_behind (field_cue_chunks are.0 cue) are.1 here),
    )
