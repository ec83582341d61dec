-- What a row of an authored grid has, by the newest cue whose SHOW has come.
use Rattle.std.proofs.Common.{◌≡◌, ℕ, ◌+◌, ◌-◌, ◌<◌, ◌≤◌, true, false, if◌then◌else◌, List, [], ◌∷◌, refl, sym, ap, ◌∙◌, arith, suc, zero, length, subst, get_or, inl, inr}
use Rattle.std.specs.Prelude.{◌&&◌, ◌⊎◌, nat_le, nat_lt, Option, Some, None, slice_get}
use Rattle.std.proofs.lemmas.Option.{slice_get_read}
use Rattle.line21_codes.specs.declared.channels.Chan.{Chan}
use Rattle.cue_types.specs.Channels.{cues_on}
use Rattle.cue_types.specs.Line21Cues.{base_row, continues}
use Rattle.cue_types.specs.declared.cue.Cue.{Cue}
use Rattle.cue_types.specs.declared.cue.Kind.{Kind}
use Rattle.cue_types.specs.declared.cue.Kind.TheVariants as kind
use Rattle.cue_lists.specs.AuthoredGrid.{authored_grid, blank, cells_of, cells_of_cue, chain_of, chain_rows, shown_from, shown_of_newest}
use Rattle.cue_types.specs.Hide.{hide_is}
use Rattle.cc_verifier.specs.ChannelCursors.{StandsAtFrame}
use Rattle.cc_verifier.specs.ChannelNewest.{IsLastOn, IsNewest, newest}
use Rattle.cc_verifier.specs.ChannelTimes.{AreCuesTimed}
use Rattle.cc_verifier.specs.declared.channel_cursor.ChannelCursor.{ChannelCursor}
use Rattle.cc_verifier.proofs.ChannelCursorLemmas.{shown_is}

-- an authored grid is what the newest cue shows
pub authored_is : (cues : List Cue) (frame : ℕ) (cursor : ChannelCursor) → AreCuesTimed 0 (cues_on cursor.channel cues) → StandsAtFrame cues frame cursor
    → authored_grid cursor.channel cues frame ≡ shown_of_newest frame (newest cursor.channel cues cursor.next)
authored_is cues frame cursor timed stands = ap (shown_of_newest frame) (shown_is cues frame cursor timed stands)

-- nothing, where no SHOW has come, or where the newest cue is hidden
pub nothing_yet : (frame : ℕ) (cues : List Cue) → cues ≡ [] → shown_of_newest frame cues ≡ blank
nothing_yet frame cues none = ap (shown_of_newest frame) none

pub is_hidden : (frame : ℕ) (cues : List Cue) (cue : Cue) (earlier : List Cue) → cues ≡ cue ∷ earlier → hide_is cue.hide (λ hide. nat_le hide frame) ≡ true
    → shown_of_newest frame cues ≡ blank
is_hidden frame cues cue earlier are past =
    ap (shown_of_newest frame) are ∙ ap (λ b. if b then blank else shown_from cue.kind cue earlier) past

-- else what that cue shows
pub is_up : (frame : ℕ) (cues : List Cue) (cue : Cue) (earlier : List Cue) → cues ≡ cue ∷ earlier → hide_is cue.hide (λ hide. nat_le hide frame) ≡ false
    → shown_of_newest frame cues ≡ shown_from cue.kind cue earlier
is_up frame cues cue earlier are up =
    ap (shown_of_newest frame) are ∙ ap (λ b. if b then blank else shown_from cue.kind cue earlier) up

-- a row among the rows of a chain, and one that isn't
pub row_in : (rows base : ℕ) (chain : List Cue) (row column : ℕ) → row ≤ base → base - row < rows
    → chain_rows rows base chain row column ≡ cells_of_cue (slice_get chain (base - row)) base column
row_in rows base chain row column le lt =
    let first : nat_le row base ≡ true = grind arith in
    let second : nat_lt base (row + rows) ≡ true = let h : base < row + rows = omega arith in grind arith in
    ap (λ b. if b && nat_lt base (row + rows) then cells_of_cue (slice_get chain (base - row)) base column else None) first
    ∙ ap (λ b. if true && b then cells_of_cue (slice_get chain (base - row)) base column else None) second

pub row_above : (rows base : ℕ) (chain : List Cue) (row column : ℕ) → row ≤ base → rows ≤ base - row
    → chain_rows rows base chain row column ≡ None
row_above rows base chain row column le far =
    let first : nat_le row base ≡ true = grind arith in
    let second : nat_lt base (row + rows) ≡ false = let h : row + rows ≤ base = omega arith in grind arith in
    ap (λ b. if b && nat_lt base (row + rows) then cells_of_cue (slice_get chain (base - row)) base column else None) first
    ∙ ap (λ b. if true && b then cells_of_cue (slice_get chain (base - row)) base column else None) second

pub row_below : (rows base : ℕ) (chain : List Cue) (row column : ℕ) → base < row → chain_rows rows base chain row column ≡ None
row_below rows base chain row column lt =
    let first : nat_le row base ≡ false = grind arith in
    ap (λ b. if b && nat_lt base (row + rows) then cells_of_cue (slice_get chain (base - row)) base column else None) first

-- a chain's first place is its last cue, and the others are the places of the chain that it continues, if it does
pub chain_first : (cue : Cue) (earlier : List Cue) → slice_get (chain_of cue earlier) 0 ≡ Some cue
chain_first cue [] = refl
chain_first cue (former ∷ earlier) = refl

pub chain_alone : (cue : Cue) (earlier : List Cue) (places : ℕ) → earlier ≡ [] → 0 < places → slice_get (chain_of cue earlier) places ≡ None
chain_alone cue earlier zero none some = absurd (omega arith)
chain_alone cue earlier (suc places) none some = ap (λ (cs : List Cue). slice_get (chain_of cue cs) (suc places)) none

pub chain_broken : (cue former : Cue) (earlier before : List Cue) (places : ℕ) → earlier ≡ former ∷ before → continues cue former ≡ false → 0 < places
    → slice_get (chain_of cue earlier) places ≡ None
chain_broken cue former earlier before zero are broken some = absurd (omega arith)
chain_broken cue former earlier before (suc places) are broken some =
    ap (λ (cs : List Cue). slice_get (chain_of cue cs) (suc places)) are
    ∙ ap (λ b. slice_get (if b then chain_of former before else []) places) broken

pub chain_goes_on : (cue former : Cue) (earlier before : List Cue) (places : ℕ) → earlier ≡ former ∷ before → continues cue former ≡ true → 0 < places
    → slice_get (chain_of cue earlier) places ≡ slice_get (chain_of former before) (places - 1)
chain_goes_on cue former earlier before zero are on some = absurd (omega arith)
chain_goes_on cue former earlier before (suc places) are on some =
    let e : suc places - 1 ≡ places = omega arith in
    rw e
    (ap (λ (cs : List Cue). slice_get (chain_of cue cs) (suc places)) are
    ∙ ap (λ b. slice_get (if b then chain_of former before else []) places) on)

-- a number below the count of cues is the number of one
pub cue_is : (cues : List Cue) (number : ℕ) → number < length cues → (cue : Cue) × (slice_get cues number ≡ Some cue)
cue_is [] number within = absurd (omega arith)
cue_is (cue ∷ cues) zero within = (cue, refl)
cue_is (cue ∷ cues) (suc number) within = let h : number < length cues = omega arith in cue_is cues number h

-- the newest cue by its number, where there is one
pub last_is : (channel : Chan) (cues : List Cue) (count : ℕ) (last : Option ℕ) (number : ℕ) → IsLastOn channel cues count last → last ≡ Some number
    → IsNewest channel cues count number
last_is channel cues count last number is some = subst (IsLastOn channel cues count) some is

pub none_last : (channel : Chan) (cues : List Cue) (count : ℕ) (last : Option ℕ) → IsLastOn channel cues count last → last ≡ None
    → newest channel cues count ≡ []
none_last channel cues count last is none = subst (IsLastOn channel cues count) none is

-- the newest cue whose SHOW has come, and what it shows at a frame
pub record Up (cues : List Cue) (frame : ℕ) (cursor : ChannelCursor) (number : ℕ) (cue : Cue) : Type 0 where
  pub is : slice_get cues number ≡ Some cue
  pub hidden : hide_is cue.hide (λ hide. nat_le hide frame) ≡ true → authored_grid cursor.channel cues frame ≡ blank
  pub shown : hide_is cue.hide (λ hide. nat_le hide frame) ≡ false
      → authored_grid cursor.channel cues frame ≡ shown_from cue.kind cue (newest cursor.channel cues number)

pub up_of : (cues : List Cue) (frame : ℕ) (cursor : ChannelCursor) (number : ℕ) (cue : Cue) → AreCuesTimed 0 (cues_on cursor.channel cues)
    → StandsAtFrame cues frame cursor → cursor.last ≡ Some number → cue ≡ get_or cues number cue → Up cues frame cursor number cue
up_of cues frame cursor number cue timed stands last read =
    let channel = cursor.channel in
    let newest_is = last_is channel cues cursor.next cursor.last number stands.passed.last last in
    let h = newest_is.before in
    let k = stands.passed.within in
    let within : number < length cues = omega arith in
    let is = slice_get_read cues (length cues) number cue refl within read in
    let same : newest_is.cue ≡ cue = let e = newest_is.is in cc in
    let are : newest channel cues cursor.next ≡ cue ∷ newest channel cues number =
    newest_is.are ∙ ap (λ (x : Cue). x ∷ newest channel cues number) same in
    record {
      is = is;
      hidden = λ past. authored_is cues frame cursor timed stands ∙ is_hidden frame _ cue _ are past;
      shown = λ up. authored_is cues frame cursor timed stands ∙ is_up frame _ cue _ are up;
    }

-- what a pop-on or paint-on cue shows in a row
pub shown_whole : (k : Kind) (cue : Cue) (earlier : List Cue) (row column : ℕ)
    → ((own : Chan) × (k ≡ kind.Pop own)) ⊎ ((own : Chan) × (k ≡ kind.Paint own))
    → shown_from k cue earlier row column ≡ cells_of cue.runs row column
shown_whole k cue earlier row column (inl (own, is)) = ap (λ (x : Kind). shown_from x cue earlier row column) is
shown_whole k cue earlier row column (inr (own, is)) = ap (λ (x : Kind). shown_from x cue earlier row column) is

-- and a roll-up cue
pub shown_roll : (k : Kind) (cue : Cue) (earlier : List Cue) (own : Chan) (rows base row column : ℕ) → k ≡ kind.Roll own rows → base ≡ base_row cue.runs
    → shown_from k cue earlier row column ≡ chain_rows rows base (chain_of cue earlier) row column
shown_roll k cue earlier own rows base row column is at =
    ap (λ (x : Kind). shown_from x cue earlier row column) is
    ∙ sym (ap (λ (b : ℕ). chain_rows rows b (chain_of cue earlier) row column) at)
