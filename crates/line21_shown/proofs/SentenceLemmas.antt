-- The sentences on the authored grid of a channel.
use Rattle.std.proofs.Common.{◌≡◌, ℕ, ◌+◌, ◌-◌, ◌<◌, ◌≤◌, ◌&&◌, ◌||◌, nat_le, nat_lt, Bool, true, false, List, [], ◌∷◌, ◌++◌, Option, Some, None, All, refl, sym, ap, ◌∙◌, subst, arith, reverse, append-nil, length}
use Rattle.std.specs.Prelude.{IfSome, IsSome, if◌then◌else◌, slice_get}
use Rattle.std.specs.List.{AllByRecursion, Contains, list_any}
use Rattle.std.proofs.lemmas.Bool.Decides.{nat_tests}
use Rattle.std.proofs.lemmas.List.{reverse-append, reverse-reverse}
use Rattle.std.proofs.lemmas.List.Elements.{All-contains, All-contains_itself, All-from_recursion, All-head, All-tail, All-weaker, Contains-append_right, recursion_from_All}
use Rattle.line21_codes.specs.declared.channels.Chan.{Chan}
use Rattle.cue_lists.specs.Cadences.{slot_step}
use Rattle.cue_lists.specs.AuthoredGrid.{Picture, authored_grid, blank, cell_in, cells_of, cells_of_cue, chain_of, chain_rows, shown_by, shown_from, shown_of_newest}
use Rattle.cue_lists.specs.Hide.{hide_is}
use Rattle.cue_lists.specs.Cues.{IsCueFormed, IsOfKind}
use Rattle.cue_lists.specs.Line21Cues.{base_row}
use Rattle.cue_lists.specs.Listing.{IsFormed, Listing}
use Rattle.cue_lists.specs.Rules.{IsRuled}
use Rattle.cue_lists.proofs.RulesSaid.{lanes_ruled}
use Rattle.cue_lists.specs.Rules.Cells.{covers, have_shared_cell, share_cell}
use Rattle.cue_lists.specs.Rules.Lane.{is_line21, is_roll}
use Rattle.cue_lists.specs.declared.cue.Cue.{Cue}
use Rattle.cue_lists.specs.declared.cue.Kind.{Kind}
use Rattle.cue_lists.specs.declared.cue.Kind.TheVariants as kind
use Rattle.cue_lists.specs.declared.cue.Run.{Run}
use Rattle.frame_scheduler.specs.Channels.{cues_on, is_on}
use Rattle.cue_lists.specs.Rules.Sentences.{AreInSequence, IsSound}
use Rattle.cue_lists.proofs.ChannelCues.{cues_on_are_on, cues_on_formed, hides_unless_roll, line21_on}
use Rattle.cue_lists.proofs.ChannelRules.{in_sequence_sound}
use Rattle.line21_shown.specs.Sentences.{AuthoredGridIsSaid, HasCells, HasRows, IsUp}
use Rattle.line21_shown.proofs.ChainLemmas.{chain_at}
use Rattle.line21_shown.proofs.CueWritingLemmas.{apart_in_cells}
use Rattle.line21_shown.proofs.HeadLemmas.{rest_in_sequence}
use Rattle.line21_shown.proofs.ScreenLemmas.{all_later, newest_first, newest_first-reverse, not_shown_yet}
use Rattle.line21_shown.proofs.SequenceLemmas.{authored_is}

-- neither of two tests passes where not one of them does
neither : (a b : Bool) → (a || b) ≡ false → (a ≡ false) × (b ≡ false)
neither true b none = cc
neither false b none = (refl, none)

-- no run of a list shares a cell with a run
none_shares : (run : Run) (runs : List Run) → list_any (share_cell run) runs ≡ false → AllByRecursion (λ other. share_cell run other ≡ false) runs
none_shares run [] none = tt
none_shares run (other ∷ runs) none =
    let both = neither (share_cell run other) (list_any (share_cell run) runs) none in
    (both.0, none_shares run runs both.1)

-- a run that covers a place shows there, among runs that share no cell
abbrev ShowsAt : List Run → ℕ → ℕ → Run → Type 0
ShowsAt runs row column run = covers run row column ≡ true → cells_of runs row column ≡ cell_in run.pen run column

shows_behind : (first : Run) (rest runs : List Run) (row column : ℕ) → AllByRecursion (λ other. share_cell first other ≡ false) runs
    → AllByRecursion (ShowsAt rest row column) runs → AllByRecursion (ShowsAt (first ∷ rest) row column) runs
shows_behind first rest [] row column apart shows = tt
shows_behind first rest (run ∷ runs) row column apart shows =
    (λ covered. by_first covered (covers first row column) refl, shows_behind first rest runs row column apart.1 shows.1)
  where
    by_first : covers run row column ≡ true → (b : Bool) → covers first row column ≡ b
        → (if b then cell_in first.pen first column else cells_of rest row column) ≡ cell_in run.pen run column
    by_first covered true both = absurd (apart_in_cells first run row column apart.0 both covered)
    by_first covered false alone = shows.0 covered

each_shows : (runs : List Run) (row column : ℕ) → have_shared_cell runs ≡ false → AllByRecursion (ShowsAt runs row column) runs
each_shows [] row column apart = tt
each_shows (run ∷ runs) row column apart =
    let both = neither (list_any (share_cell run) runs) (have_shared_cell runs) apart in
    (λ covered. rw covered refl, shows_behind run runs runs row column (none_shares run runs both.0) (each_shows runs row column both.1))

-- where no run covers a place, none shows
none_shows : (runs : List Run) (row column : ℕ) → All (λ run. covers run row column ≡ false) runs → cells_of runs row column ≡ None
none_shows [] row column none = refl
none_shows (run ∷ runs) row column none =
    rw (All-head (λ (x : Run). covers x row column ≡ false) run runs none)
    (none_shows runs row column (All-tail (λ (x : Run). covers x row column ≡ false) run runs none))

-- the cells of runs that share none are theirs alone
has_cells : (runs : List Run) → have_shared_cell runs ≡ false → HasCells runs (cells_of runs)
has_cells runs apart = record {
  each = λ run row column among covered.
      All-contains (ShowsAt runs row column) runs run (All-from_recursion (ShowsAt runs row column) runs (each_shows runs row column apart)) among covered;
  none = λ row column none. none_shows runs row column none;
}

-- the rows of a chain are its cues' rows
has_rows : (rows base : ℕ) (chain : List Cue) → rows ≤ base → HasRows rows base chain (chain_rows rows base chain)
has_rows rows base chain room = record {
  each = λ j cue column below at.
      let inside : (nat_le (base - j) base && nat_lt base (base - j + rows)) ≡ true = grind (arith, nat_tests) in
      let back : base - (base - j) ≡ j = omega arith in
      chain_at rows base chain (base - j) column true inside ∙ ap (λ k. cells_of_cue (slice_get chain k) base column) back
      ∙ ap (λ o. cells_of_cue o base column) at;
  none = λ row column none. by_window row column none (nat_le row base && nat_lt base (row + rows)) refl;
}
  where
    by_window : (row column : ℕ) → ((j : ℕ) (cue : Cue) → j < rows → slice_get chain j ≡ Some cue → row ≡ base - j → ⊥)
        → (b : Bool) → (nat_le row base && nat_lt base (row + rows)) ≡ b → chain_rows rows base chain row column ≡ None
    by_window row column none false outside = chain_at rows base chain row column false outside
    by_window row column none true inside =
        chain_at rows base chain row column true inside ∙ by_cue (slice_get chain (base - row)) refl
      where
        by_cue : (o : Option Cue) → slice_get chain (base - row) ≡ o → cells_of_cue (slice_get chain (base - row)) base column ≡ None
        by_cue None is = ap (λ o. cells_of_cue o base column) is
        by_cue (Some cue) is =
            let up : row ≤ base = grind (arith, nat_tests) in
            let reach : base < row + rows = grind (arith, nat_tests) in
            absurd (none (base - row) cue (omega arith) is (omega arith))

-- a HIDE that hasn't come
not_past : (hide : Option ℕ) (f : ℕ) → IfSome hide (λ h. f < h) → hide_is hide (λ hide. nat_le hide f) ≡ false
not_past None f later = refl
not_past (Some h) f later = grind (arith, nat_tests)

-- a cue that is up is the newest whose SHOW has come, where those after it aren't shown yet
newest_is : (f : ℕ) (cue : Cue) (later earlier : List Cue) → cue.show ≤ f → AllByRecursion (λ (next : Cue). f < next.show) later
    → shown_by f (newest_first later (cue ∷ earlier)) ≡ cue ∷ earlier
newest_is f cue later earlier shown behind =
    let test : nat_le cue.show f ≡ true = grind (arith, nat_tests) in
    not_shown_yet f later (cue ∷ earlier) behind ∙ rw test refl

-- after a cue that isn't hidden yet, no cue is shown
behind_hidden : (step frames f : ℕ) (cue : Cue) (later : List Cue) → AreInSequence step frames (cue ∷ later) → IsSome cue.hide → IfSome cue.hide (λ h. f < h)
    → AllByRecursion (λ (next : Cue). f < next.show) later
behind_hidden step frames f cue [] sequence some up = tt
behind_hidden step frames f cue (next ∷ later) sequence some up =
    all_later step frames f next later sequence.2 (next_later cue.hide some up sequence.1.shown)
  where
    next_later : (hide : Option ℕ) → IsSome hide → IfSome hide (λ h. f < h) → IfSome hide (λ h. h ≤ next.show) → f < next.show
    next_later None some up shown = cc
    next_later (Some h) some up shown = omega arith

-- so a pop-on or paint-on cue that is up is the newest whose SHOW has come
abbrev IsNewest : ℕ → List Cue → Cue → Type 0
IsNewest f back cue = is_roll cue.kind ≡ false → IsUp f cue → (earlier : List Cue) × (shown_by f back ≡ cue ∷ earlier)

each_newest : (step frames f : ℕ) (cues earlier : List Cue) → AllByRecursion IsCueFormed cues → AreInSequence step frames cues → AllByRecursion (IsNewest f (newest_first cues earlier)) cues
each_newest step frames f [] earlier formed sequence = tt
each_newest step frames f (cue ∷ later) earlier formed sequence = (
  λ plain up. (earlier, newest_is f cue later earlier up.0 (behind_hidden step frames f cue later sequence (hides_unless_roll cue formed.0 plain) up.1)),
  each_newest step frames f later (cue ∷ earlier) formed.1 (rest_in_sequence step frames cue later sequence),
)

-- a pop-on or paint-on cue shows its cells
plain_picture : (k : Kind) (cue : Cue) (earlier : List Cue) → is_line21 k ≡ true → is_roll k ≡ false → shown_from k cue earlier ≡ cells_of cue.runs
plain_picture (kind.Pop channel) cue earlier line21 plain = refl
plain_picture (kind.Paint channel) cue earlier line21 plain = refl
plain_picture (kind.Roll channel rows) cue earlier line21 plain = cc
plain_picture (kind.Win window) cue earlier line21 plain = cc

-- where no cue is up, nothing shows
nothing_shows : (f : ℕ) (back : List Cue) → AllByRecursion (λ (cue : Cue). IsUp f cue → ⊥) back → shown_of_newest f (shown_by f back) ≡ blank
nothing_shows f [] none = refl
nothing_shows f (cue ∷ earlier) none = by_show (nat_le cue.show f) refl (nothing_shows f earlier none.1)
  where
    by_hide : cue.show ≤ f → (hide : Option ℕ) → cue.hide ≡ hide → (if hide_is cue.hide (λ hide. nat_le hide f) then blank else shown_from cue.kind cue earlier) ≡ blank
    by_hide shown None is = absurd (none.0 (shown, subst (λ o. IfSome o (λ h. f < h)) (sym is) tt))
    by_hide shown (Some h) is = past (nat_le h f) refl
      where
        past : (b : Bool) → nat_le h f ≡ b → (if hide_is cue.hide (λ hide. nat_le hide f) then blank else shown_from cue.kind cue earlier) ≡ blank
        past true test = rw (is, test) refl
        past false test = let later : f < h = grind (arith, nat_tests) in absurd (none.0 (shown, subst (λ o. IfSome o (λ x. f < x)) (sym is) later))

    by_show : (b : Bool) → nat_le cue.show f ≡ b → shown_of_newest f (shown_by f earlier) ≡ blank
        → shown_of_newest f (if b then cue ∷ earlier else shown_by f earlier) ≡ blank
    by_show true test rest = by_hide (grind (arith, nat_tests)) cue.hide refl
    by_show false test rest = rest

-- what holds of each cue holds in the order from the newest one on
all_newest_first : (P : Cue → Type 0) (cues earlier : List Cue) → AllByRecursion P cues → AllByRecursion P earlier → AllByRecursion P (newest_first cues earlier)
all_newest_first P [] earlier all before = before
all_newest_first P (cue ∷ later) earlier all before = all_newest_first P later (cue ∷ earlier) all.1 (all.0, before)

-- what is contained in all
all_of_contained : (P : Cue → Type 0) (cues : List Cue) → ((cue : Cue) → Contains cues cue → P cue) → All P cues
all_of_contained P cues each = All-weaker (Contains cues) P each cues (All-contains_itself cues)

module _ (list : Listing) (formed : IsFormed list) (ruled : IsRuled list) (channel : Chan) (f : ℕ) where
  abbrev cues : List Cue
  cues = cues_on channel list.cues

  sequence : AreInSequence (slot_step list.rate) list.frames cues
  sequence = (lanes_ruled list ruled).channels channel

  all_formed : AllByRecursion IsCueFormed cues
  all_formed = recursion_from_All IsCueFormed cues (cues_on_formed channel list.cues formed.cues)

  -- the grid of a newest cue that is up
  of_newest : (cue : Cue) (earlier : List Cue) → shown_by f (newest_first cues []) ≡ cue ∷ earlier → IfSome cue.hide (λ h. f < h)
      → authored_grid channel list.cues f ≡ shown_from cue.kind cue earlier
  of_newest cue earlier newest up =
      sym (authored_is channel list.cues f) ∙ ap (shown_of_newest f) newest
      ∙ ap (λ b. if b then blank else shown_from cue.kind cue earlier) (not_past cue.hide f up)

  captioned : (cue : Cue) → Contains cues cue → is_roll cue.kind ≡ false → IsUp f cue → HasCells cue.runs (authored_grid channel list.cues f)
  captioned cue among plain up =
      let newest = All-contains (IsNewest f (newest_first cues [])) cues cue
      (All-from_recursion (IsNewest f (newest_first cues [])) cues (each_newest (slot_step list.rate) list.frames f cues [] all_formed sequence)) among plain up in
      let sound : IsSound (slot_step list.rate) list.frames cue =
      All-contains (IsSound (slot_step list.rate) list.frames) cues cue (All-from_recursion (IsSound (slot_step list.rate) list.frames) cues (in_sequence_sound (slot_step list.rate) list.frames cues sequence)) among in
      let line21 : is_line21 cue.kind ≡ true =
      line21_on channel cue.kind (All-contains (λ (x : Cue). is_on channel x.kind ≡ true) cues cue (cues_on_are_on channel list.cues) among) in
      subst (HasCells cue.runs)
      (sym (of_newest cue newest.0 newest.1 up.1 ∙ plain_picture cue.kind cue newest.0 line21 plain))
      (has_cells cue.runs sound.apart)

  -- a split of the cues from the newest on
  split_newest : (earlier later : List Cue) (cue : Cue) → cues ≡ reverse earlier ++ cue ∷ later → newest_first cues [] ≡ newest_first later (cue ∷ earlier)
  split_newest earlier later cue split =
      newest_first-reverse cues [] ∙ append-nil (reverse cues) ∙ ap reverse split ∙ reverse-append (reverse earlier) (cue ∷ later)
      ∙ ap (λ (x : List Cue). reverse (cue ∷ later) ++ x) (reverse-reverse earlier) ∙ sym (newest_first-reverse (cue ∷ later) earlier)

  rolled : (earlier later : List Cue) (cue : Cue) (own : Chan) (rows : ℕ) → cues ≡ reverse earlier ++ cue ∷ later → cue.kind ≡ kind.Roll own rows
      → IsUp f cue → All (λ next. f < next.show) later → HasRows rows (base_row cue.runs) (chain_of cue earlier) (authored_grid channel list.cues f)
  rolled earlier later cue own rows split is up behind =
      let newest : shown_by f (newest_first cues []) ≡ cue ∷ earlier =
      ap (shown_by f) (split_newest earlier later cue split)
      ∙ newest_is f cue later earlier up.0 (recursion_from_All (λ (next : Cue). f < next.show) later behind) in
      let among : Contains cues cue = subst (λ (x : List Cue). Contains x cue) (sym split) (Contains-append_right (reverse earlier) (cue ∷ later) cue (0, omega arith, refl)) in
      let own_formed : IsCueFormed cue = All-contains IsCueFormed cues cue (cues_on_formed channel list.cues formed.cues) among in
      let of_kind : IsOfKind (kind.Roll own rows) cue.hide cue.runs = subst (λ k. IsOfKind k cue.hide cue.runs) is own_formed.kind in
      subst (HasRows rows (base_row cue.runs) (chain_of cue earlier))
      (sym (of_newest cue earlier newest up.1 ∙ ap (λ k. shown_from k cue earlier) is))
      (has_rows rows (base_row cue.runs) (chain_of cue earlier) (has_room cue.runs own_formed.some of_kind.1.room))
    where
      has_room : (rs : List Run) → 1 ≤ length rs → All (λ run. rows ≤ run.row) rs → rows ≤ base_row rs
      has_room [] some room = absurd (omega arith)
      has_room (run ∷ rs) some room = All-head (λ (x : Run). rows ≤ x.row) run rs room

  nothing : ((cue : Cue) → Contains cues cue → IsUp f cue → ⊥) → (row column : ℕ) → authored_grid channel list.cues f row column ≡ None
  nothing none row column =
      ap (λ (picture : Picture). picture row column)
      (sym (authored_is channel list.cues f)
      ∙ nothing_shows f (newest_first cues [])
      (all_newest_first (λ (cue : Cue). IsUp f cue → ⊥) cues []
      (recursion_from_All (λ (cue : Cue). IsUp f cue → ⊥) cues (all_of_contained (λ (cue : Cue). IsUp f cue → ⊥) cues none)) tt))

-- the authored grid says just this
pub authored_said : AuthoredGridIsSaid
authored_said list formed ruled channel f =
    record {
      captioned = captioned list formed ruled channel f;
      rolled = rolled list formed ruled channel f;
      nothing = nothing list formed ruled channel f;
    }
