-- A channel is shown again from the SHOW of a cue on where each cue of which something is seen with it was loaded after a loss: of a roll-up
-- cue this many of its chain as it has rows (CTA-608-E; 47 CFR 79.101).
use Rattle.std.proofs.Common.{◌≡◌, ℕ, zero, suc, ◌+◌, ◌-◌, ◌<◌, ◌≤◌, ◌⊎◌, ◌&&◌, ◌==◌, inl, inr, Bool, true, false, if◌then◌else◌, List, [], ◌∷◌, ◌++◌, Option, Some, None, reverse, take, refl, sym, ap, ◌∙◌, subst, arith, append-nil, append_assoc}
use Rattle.std.specs.Prelude.{IsSome, is_none}
use Rattle.std.specs.List.{AllByRecursion}
use Rattle.std.proofs.lemmas.List.{reverse-append, reverse-reverse}
use Rattle.line21_codes.specs.declared.channels.Chan.{Chan}
use Rattle.line21_codes.specs.declared.channels.FieldNumber.{FieldNumber}
use Rattle.line21_codes.specs.Reading.{code_of}
use Rattle.cue_lists.specs.AuthoredGrid.{IsSettledFor, chain_of, chain_rows, shown_by, shown_from, shown_of_newest}
use Rattle.cue_lists.specs.Cues.{IsOfKind}
use Rattle.cue_lists.specs.Line21Cues.{base_row, continues, same_roll}
use Rattle.cue_lists.specs.Rules.Lane.{is_pop}
use Rattle.cue_lists.specs.Rules.Sentences.{IsContinued}
use Rattle.cue_lists.specs.declared.cue.Cue.{Cue}
use Rattle.cue_lists.specs.declared.cue.Kind.{Kind}
use Rattle.cue_lists.specs.declared.cue.Kind.TheVariants.{Paint, Pop, Roll, Win}
use Rattle.cue_lists.proofs.ChannelKept.{continued_continues}
use Rattle.line21_screen.specs.Channels.{ChannelState}
use Rattle.line21_screen.specs.Meaning.{after}
use Rattle.lanes.specs.Timeline.{Timeline, slot}
use Rattle.line21_shown.specs.Reading.{acts, IsCaptioned, IsForFirst}
use Rattle.line21_shown.proofs.HeadLemmas.{Continues, first_sound, rest_in_sequence}
use Rattle.line21_shown.proofs.OnScreenLemmas.{not_continued}
use Rattle.line21_shown.proofs.RollWritingLemmas.{IsRolling}
use Rattle.line21_shown.proofs.ScreenLemmas.{AreBehind, IsRollingFor, IsShown, is_shown, newest_first, newest_first-reverse}
use Rattle.line21_shown.proofs.SequenceLemmas.{after_it, begin_behind, cues_shown}
use Rattle.lost.specs.ChannelLoss.{rows_of, seen_with}
use Rattle.lost.proofs.FoundLemmas.{IsFound}
use Rattle.lost.proofs.HeardLemmas.{heard, heard_read, pairs_from}
use Rattle.lost.proofs.ResyncLemmas.{Resumes, chain_begins, rolled_up, shown_again}
use Rattle.lost.proofs.RowLemmas.{HasRows, rows_next, rows_whole}
use Rattle.lost.proofs.WrittenLemmas.{IsRolledUp, written_alone, written_continues}

-- a cue that doesn't continue the one before it has that hidden, and one that continues it hasn't
hidden_before : (cue former : Cue) (earlier later : List Cue) → AreBehind (former ∷ earlier) (cue ∷ later) → continues cue former ≡ false → IsSome former.hide
hidden_before cue former earlier later link anew = by_hide former.hide refl
  where
    by_hide : (o : Option ℕ) → former.hide ≡ o → IsSome former.hide
    by_hide (Some h) some = subst IsSome (sym some) refl
    by_hide None none = let wrong : true ≡ false = sym (continued_continues former cue (link.continued none) none) ∙ anew in cc

unhidden_before : (cue former : Cue) → continues cue former ≡ true → former.hide ≡ None
unhidden_before cue former onward = by_hide former.hide refl
  where
    by_hide : (o : Option ℕ) → former.hide ≡ o → former.hide ≡ None
    by_hide None none = none
    by_hide (Some h) some = let wrong : true ≡ false = sym onward ∙ not_continued cue former h some in cc

-- the chain of a cue that continues the one before it
chain_on : (cue former : Cue) (earlier : List Cue) → continues cue former ≡ true → chain_of cue (former ∷ earlier) ≡ cue ∷ chain_of former earlier
chain_on cue former earlier onward = ap (λ b. cue ∷ (if b then chain_of former earlier else [])) onward

-- cues after those before them, which stand newest first
one_before : (former : Cue) (earlier rest : List Cue) → reverse earlier ++ former ∷ rest ≡ reverse (former ∷ earlier) ++ rest
one_before former earlier rest =
    sym (append_assoc (reverse earlier) (former ∷ []) rest) ∙ ap (λ (l : List Cue). l ++ rest) (sym (reverse-append (former ∷ []) earlier))

newest_first-append : (front rest earlier : List Cue) → newest_first (front ++ rest) earlier ≡ newest_first rest (newest_first front earlier)
newest_first-append [] rest earlier = refl
newest_first-append (cue ∷ front) rest earlier = newest_first-append front rest (cue ∷ earlier)

pub newest_back : (earlier : List Cue) → newest_first (reverse earlier) [] ≡ earlier
newest_back earlier = newest_first-reverse (reverse earlier) [] ∙ append-nil (reverse (reverse earlier)) ∙ reverse-reverse earlier

-- what holds of all holds of the last of them
pub all_behind : (P : Cue → Type 0) (front rest : List Cue) → AllByRecursion P (front ++ rest) → AllByRecursion P rest
all_behind P [] rest all = all
all_behind P (cue ∷ front) rest all = all_behind P front rest all.1

-- a cue that was loaded since, begins anew, and is shown by the SHOW of another one
record HasAnew (from : ℕ) (all : List Cue) (cue : Cue) : Type 0 where
  first : Cue
  earlier : List Cue
  later : List Cue
  stands : reverse earlier ++ first ∷ later ≡ all
  loaded : from ≤ first.load
  resumes : Resumes earlier
  shown : first.show ≤ cue.show

module _ (in_field : FieldNumber) (t : Timeline) (captioned : IsCaptioned t) (firsts : (n : ℕ) → IsForFirst (code_of (slot t n))) (frames : ℕ) (all : List Cue)
    (found_at : (cue : Cue) (earlier later : List Cue) → reverse earlier ++ cue ∷ later ≡ all → IsFound in_field t frames cue later earlier) (from : ℕ) where
  abbrev IsLoaded : Cue → Type 0
  IsLoaded cue = from ≤ cue.load

  abbrev Chained : ℕ → ℕ → Cue → List Cue → List Cue → Type 0
  Chained count rows cue earlier later = HasAnew from all cue ⊎ IsRolledUp in_field (heard (slot t) from) count rows cue earlier later

  -- one row more
  row_more : (count rows : ℕ) (channel : Chan) (cue former : Cue) (earlier later : List Cue) → IsFound in_field t frames cue later (former ∷ earlier)
      → cue.kind ≡ Roll channel rows → continues cue former ≡ true → Chained count rows former earlier (cue ∷ later)
      → Chained (suc count) rows cue (former ∷ earlier) later
  row_more count rows channel cue former earlier later found kind onward (inl anew) =
      let behind : former.show ≤ cue.load = found.link.loaded in
      let own : cue.load < cue.show = (first_sound 1 frames cue later found.sequence).loaded in
      let shown = anew.shown in
      inl (record {
        first = anew.first;
        earlier = anew.earlier;
        later = anew.later;
        stands = anew.stands;
        loaded = anew.loaded;
        resumes = anew.resumes;
        shown = omega arith;
      })
  row_more count rows channel cue former earlier later found kind onward (inr up) =
      let none : former.hide ≡ None = unhidden_before cue former onward in
      let continued : IsContinued former cue = found.link.continued none in
      let behind : former.show ≤ cue.load = found.link.loaded in
      let sound = first_sound 1 frames cue later found.sequence in
      let shown : cue.load < cue.show = sound.loaded in
      let before : former.show ≤ cue.show = omega arith in
      let plain : is_pop cue.kind ≡ false = ap is_pop kind in
      let of_kind : IsOfKind (Roll channel rows) cue.hide cue.runs = subst (λ (k : Kind). IsOfKind k cue.hide cue.runs) kind found.captions.0.formed.kind in
      let on : Continues in_field up.own former.show None (cue ∷ later) = subst (λ (o : Option ℕ). Continues in_field up.own former.show o (cue ∷ later)) none up.on in
      let has : HasRows count rows (base_row cue.runs) (chain_of former earlier) (acts up.own former.show) =
      subst (λ (b : ℕ). HasRows count rows b (chain_of former earlier) (acts up.own former.show)) (sym continued.base) up.rows_are in
      inr (record {
        own = up.own;
        same = up.same;
        on = written_continues in_field up.own frames former.show cue later plain found.captions.0.formed found.sequence on before;
        rows_are = subst (λ (chain : List Cue). HasRows (suc count) rows (base_row cue.runs) chain (acts up.own cue.show)) (sym (chain_on cue former earlier onward))
            (subst (HasRows (suc count) rows (base_row cue.runs) (cue ∷ chain_of former earlier))
            (sym (written_alone in_field up.own frames former.show cue later plain found.captions.0.formed found.sequence on before))
            (rows_next channel rows cue (chain_of former earlier) (acts up.own former.show) kind of_kind.1 of_kind.2 found.captions.0.formed.some sound.apart count has));
      })

  -- a roll-up cue after a former one
  row_behind : (n rows : ℕ) (channel : Chan) (cue former : Cue) (earlier later : List Cue) → reverse (former ∷ earlier) ++ cue ∷ later ≡ all
      → cue.kind ≡ Roll channel rows → (b : Bool) → continues cue former ≡ b
      → ((m : ℕ) → former.kind ≡ Roll channel rows → AllByRecursion IsLoaded (take (suc m) (chain_of former earlier)) → Chained (suc m) rows former earlier (cue ∷ later))
      → AllByRecursion IsLoaded (take (suc n) (chain_of cue (former ∷ earlier))) → Chained (suc n) rows cue (former ∷ earlier) later
  row_behind n rows channel cue former earlier later stands kind false test before loaded =
      inl (record {
        first = cue;
        earlier = former ∷ earlier;
        later = later;
        stands = stands;
        loaded = loaded.0;
        resumes = hidden_before cue former earlier later (found_at cue (former ∷ earlier) later stands).link test;
        shown = omega arith;
      })
  row_behind zero rows channel cue former earlier later stands kind true test before loaded =
      inr (rolled_up in_field t captioned firsts frames cue later (former ∷ earlier) (found_at cue (former ∷ earlier) later stands) from loaded.0 channel rows kind
      (unhidden_before cue former test))
  row_behind (suc n) rows channel cue former earlier later stands kind true test before loaded =
      let found = found_at cue (former ∷ earlier) later stands in
      let continued : IsContinued former cue = found.link.continued (unhidden_before cue former test) in
      let rest : AllByRecursion IsLoaded (take (suc (suc n)) (cue ∷ chain_of former earlier)) =
      subst (λ (chain : List Cue). AllByRecursion IsLoaded (take (suc (suc n)) chain)) (chain_on cue former earlier test) loaded in
      row_more (suc n) rows channel cue former earlier later found kind test (before n (sym continued.kind ∙ kind) rest.1)

  -- so each roll-up cue of whose chain this many were loaded since shows this many rows, or one of them begins anew
  rows_back : (n rows : ℕ) (channel : Chan) (cue : Cue) (earlier later : List Cue) → reverse earlier ++ cue ∷ later ≡ all → cue.kind ≡ Roll channel rows
      → AllByRecursion IsLoaded (take (suc n) (chain_of cue earlier)) → Chained (suc n) rows cue earlier later
  rows_back n rows channel cue [] later stands kind loaded =
      inl (record { first = cue; earlier = []; later = later; stands = stands; loaded = loaded.0; resumes = tt; shown = omega arith })
  rows_back n rows channel cue (former ∷ earlier) later stands kind loaded =
      row_behind n rows channel cue former earlier later stands kind (continues cue former) refl
      (λ m former_kind rest. rows_back m rows channel former earlier (cue ∷ later) (one_before former earlier (cue ∷ later) ∙ stands) former_kind rest)
      loaded

  -- what is shown after a cue is what all of them show
  all_newest : (cue : Cue) (earlier later : List Cue) → reverse earlier ++ cue ∷ later ≡ all → newest_first later (cue ∷ earlier) ≡ newest_first all []
  all_newest cue earlier later stands =
      sym (newest_first-append (reverse earlier) (cue ∷ later) [] ∙ ap (newest_first (cue ∷ later)) (newest_back earlier))
      ∙ ap (λ (l : List Cue). newest_first l []) stands

  anew_shown : (cue : Cue) → HasAnew from all cue → (f k : ℕ) → from + k ≡ suc f → cue.show ≤ f → AllByRecursion (IsSettledFor f) all
      → (after in_field (pairs_from (slot t) from k)).first.displayed ≡ shown_of_newest f (shown_by f (newest_first all []))
  anew_shown cue anew f k is above settled =
      let shown = anew.shown in
      let rest : AllByRecursion (IsSettledFor f) (anew.first ∷ anew.later) =
      all_behind (IsSettledFor f) (reverse anew.earlier) (anew.first ∷ anew.later) (subst (AllByRecursion (IsSettledFor f)) (sym anew.stands) settled) in
      shown_again in_field t captioned firsts frames anew.first anew.later anew.earlier (found_at anew.first anew.earlier anew.later anew.stands) from anew.loaded
      anew.resumes f k is (omega arith) rest.1
      ∙ ap (λ (back : List Cue). shown_of_newest f (shown_by f back)) (all_newest anew.first anew.earlier anew.later anew.stands)

  rolled_shown : (rows : ℕ) (channel : Chan) (cue : Cue) (earlier later : List Cue) → reverse earlier ++ cue ∷ later ≡ all → cue.kind ≡ Roll channel rows
      → IsRolledUp in_field (heard (slot t) from) rows rows cue earlier later → (f k : ℕ) → from + k ≡ suc f → cue.show ≤ f → AllByRecursion (IsSettledFor f) all
      → (after in_field (pairs_from (slot t) from k)).first.displayed ≡ shown_of_newest f (shown_by f (newest_first all []))
  rolled_shown rows channel cue earlier later stands kind up f k is above settled =
      let found = found_at cue earlier later stands in
      let base : ℕ = base_row cue.runs in
      let s : ChannelState = acts up.own cue.show in
      let rolling : IsRolling rows base (chain_rows rows base (chain_of cue earlier)) s = rows_whole rows rows base (chain_of cue earlier) s up.rows_are (omega arith) in
      let shown : IsShown up.own cue.show cue.show cue.hide (shown_from cue.kind cue earlier) (cue ∷ earlier) =
      is_shown up.own cue.show cue earlier (omega arith) (first_sound 1 frames cue later found.sequence).hidden
      (rolling.displayed ∙ sym (ap (λ (own : Kind). shown_from own cue earlier) kind))
      (subst (λ (own : Kind). IsRollingFor own base (shown_from own cue earlier) s) (sym kind) rolling) in
      let rest : AllByRecursion (IsSettledFor f) (cue ∷ later) =
      all_behind (IsSettledFor f) (reverse earlier) (cue ∷ later) (subst (AllByRecursion (IsSettledFor f)) (sym stands) settled) in
      ap (λ x. x.first.displayed) (heard_read in_field (slot t) from firsts k (suc f) is)
      ∙ ap (λ (x : ChannelState). x.displayed) (sym (up.same (suc f)))
      ∙ cues_shown in_field up.own frames cue.show cue.show cue.hide (shown_from cue.kind cue earlier) later (cue ∷ earlier) found.captions.1
      (rest_in_sequence 1 frames cue later found.sequence) (begin_behind frames cue later found.sequence) (after_it frames cue later earlier found.sequence)
      up.on shown (omega arith) f above rest.1
      ∙ ap (λ (back : List Cue). shown_of_newest f (shown_by f back)) (all_newest cue earlier later stands)

  -- a cue that is no roll-up cue continues none
  alone : (cue : Cue) (earlier later : List Cue) → reverse earlier ++ cue ∷ later ≡ all → ((former : Cue) → continues cue former ≡ false) → from ≤ cue.load
      → HasAnew from all cue
  alone cue [] later stands anew loaded =
      record { first = cue; earlier = []; later = later; stands = stands; loaded = loaded; resumes = tt; shown = omega arith }
  alone cue (former ∷ earlier) later stands anew loaded = record {
    first = cue;
    earlier = former ∷ earlier;
    later = later;
    stands = stands;
    loaded = loaded;
    resumes = hidden_before cue former earlier later (found_at cue (former ∷ earlier) later stands).link (anew former);
    shown = omega arith;
  }

  -- from its SHOW on
  pub back_shown : (cue : Cue) (earlier later : List Cue) → reverse earlier ++ cue ∷ later ≡ all → AllByRecursion IsLoaded (seen_with cue earlier)
      → (f k : ℕ) → from + k ≡ suc f → cue.show ≤ f → AllByRecursion (IsSettledFor f) all
      → (after in_field (pairs_from (slot t) from k)).first.displayed ≡ shown_of_newest f (shown_by f (newest_first all []))
  back_shown cue earlier later stands loaded f k is above settled = by_kind cue.kind refl
    where
      itself : (own : Kind) → cue.kind ≡ own → rows_of own ≡ 1 → from ≤ cue.load
      itself own kind one =
          let w = chain_begins cue earlier in
          let all_loaded : AllByRecursion IsLoaded (take 1 (cue ∷ w.0)) =
          subst (λ (chain : List Cue). AllByRecursion IsLoaded (take 1 chain)) w.1
          (subst (λ (n : ℕ). AllByRecursion IsLoaded (take n (chain_of cue earlier))) (ap rows_of kind ∙ one) loaded) in
          all_loaded.0

      never : (own : Kind) → cue.kind ≡ own → ((other : Kind) → same_roll own other ≡ false) → (former : Cue) → continues cue former ≡ false
      never own kind other former =
          ap (λ (k : Kind). same_roll k former.kind && is_none former.hide && (base_row cue.runs == base_row former.runs)) kind
          ∙ ap (λ b. b && is_none former.hide && (base_row cue.runs == base_row former.runs)) (other former.kind)

      by_kind : (own : Kind) → cue.kind ≡ own → (after in_field (pairs_from (slot t) from k)).first.displayed ≡ shown_of_newest f (shown_by f (newest_first all []))
      by_kind (Pop channel) kind =
          anew_shown cue (alone cue earlier later stands (never (Pop channel) kind (λ other. refl)) (itself (Pop channel) kind refl)) f k is above settled
      by_kind (Paint channel) kind =
          anew_shown cue (alone cue earlier later stands (never (Paint channel) kind (λ other. refl)) (itself (Paint channel) kind refl)) f k is above settled
      by_kind (Win window) kind =
          anew_shown cue (alone cue earlier later stands (never (Win window) kind (λ other. refl)) (itself (Win window) kind refl)) f k is above settled
      by_kind (Roll channel rows) kind =
          let own : IsOfKind (Roll channel rows) cue.hide cue.runs =
          subst (λ (x : Kind). IsOfKind x cue.hide cue.runs) kind (found_at cue earlier later stands).captions.0.formed.kind in
          let number = own.1.number in
          let count : rows ≡ suc (rows - 1) = omega arith in
          by_rows (rows_back (rows - 1) rows channel cue earlier later stands kind
          (subst (λ (n : ℕ). AllByRecursion IsLoaded (take n (chain_of cue earlier))) (ap rows_of kind ∙ count) loaded))
        where
          by_rows : Chained (suc (rows - 1)) rows cue earlier later
              → (after in_field (pairs_from (slot t) from k)).first.displayed ≡ shown_of_newest f (shown_by f (newest_first all []))
          by_rows (inl anew) = anew_shown cue anew f k is above settled
          by_rows (inr up) =
              let own : IsOfKind (Roll channel rows) cue.hide cue.runs =
              subst (λ (x : Kind). IsOfKind x cue.hide cue.runs) kind (found_at cue earlier later stands).captions.0.formed.kind in
              let number = own.1.number in
              let count : suc (rows - 1) ≡ rows = omega arith in
              rolled_shown rows channel cue earlier later stands kind
              (subst (λ (n : ℕ). IsRolledUp in_field (heard (slot t) from) n rows cue earlier later) count up) f k is above settled
