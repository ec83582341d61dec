-- The last code of a cue is one of its text, and none that cues begin with (CTA-608-E: RCL, RDC, RU2 to RU4): so the first pair of a cue
-- never follows one that equals it.
use Rattle.std.proofs.Common.{◌≡◌, ℕ, suc, ◌<◌, ◌≤◌, Bool, true, false, List, [], ◌∷◌, ◌++◌, Option, Some, None, All, length, refl, sym, ap, ◌∙◌, subst, arith}
use Rattle.std.specs.Prelude.{⊤, ◌==◌}
use Rattle.std.specs.List.{flat_map}
use Rattle.std.proofs.lemmas.Bool.Decides.{nat_tests}
use Rattle.std.proofs.lemmas.List.Elements.{All-head}
use Rattle.line21_codes.specs.declared.codes.Code.{Code}
use Rattle.line21_codes.specs.declared.codes.Code.TheVariants.{Control}
use Rattle.line21_codes.specs.declared.codes.Control.{Control as ControlCode}
use Rattle.line21_codes.specs.declared.codes.Control.TheVariants.{Cr, Rcl, Rdc, Ru}
use Rattle.line21_codes.specs.Reading.{code_of}
use Rattle.cue_lists.specs.Cues.{IsCueFormed, IsOfKind}
use Rattle.cue_lists.specs.Line21Cues.{IsLine21Run}
use Rattle.cue_lists.specs.Rules.Lane.{is_line21, is_pop}
use Rattle.cue_lists.specs.declared.cue.Cue.{Cue}
use Rattle.cue_lists.specs.declared.cue.Kind.{Kind}
use Rattle.cue_lists.specs.declared.cue.Kind.TheVariants as kind
use Rattle.cue_lists.specs.declared.cue.Run.{Run}
use Rattle.line21_author.specs.CueCodes.{cue_codes, opening_codes}
use Rattle.line21_author.specs.FirstChannel.{first_channel}
use Rattle.line21_author.specs.RunCodes.{run_codes}
use Rattle.line21_author.specs.declared.event.Event.{Event}
use Rattle.line21_author.specs.declared.unit.Unit.{Unit}
use Rattle.lanes.specs.declared.chunk.FieldChunk.{FieldChunk}
use Rattle.lanes.specs.LaneTimeline.{stands}
use Rattle.line21_shown.proofs.BlindLemmas.{AreWriting, IsWriting, runs_writing, text, special_is, extended_is, preamble, tab, mid_row}
use Rattle.line21_shown.proofs.LoadingLemmas.{chunk_codes}
use Rattle.line21_shown.proofs.RollWritingLemmas.{run_begins}
use Rattle.line21_shown.proofs.SuffixLemmas.{ArePlacedFrom}
use Rattle.lost.proofs.BegunLemmas.{opening_of}

-- the code begins cues
abbrev pub IsOpeningControl : ControlCode → Type 0
IsOpeningControl Rcl = ⊤
IsOpeningControl Rdc = ⊤
IsOpeningControl (Ru rows) = ⊤
IsOpeningControl _ = ⊥

abbrev pub IsOpening : Code → Type 0
IsOpening (Control second control) = IsOpeningControl control
IsOpening _ = ⊥

pub opening_is : (k : Kind) → is_line21 k ≡ true → IsOpening (opening_of k)
opening_is (kind.Pop channel) line21 = tt
opening_is (kind.Paint channel) line21 = tt
opening_is (kind.Roll channel rows) line21 = tt
opening_is (kind.Win window) line21 = cc

writing_none : (code : Code) → IsWriting code → IsOpening code → ⊥
writing_none code (text first second) is = is
writing_none code (special_is byte) is = is
writing_none code (extended_is set byte) is = is
writing_none code (preamble row col style) is = is
writing_none code (tab columns) is = is
writing_none code (mid_row colour underline) is = is

-- the last of the codes doesn't
abbrev pub Closes : List Code → Type 0
Closes [] = ⊤
Closes (code ∷ []) = IsOpening code → ⊥
Closes (code ∷ (next ∷ codes)) = Closes (next ∷ codes)

writing_closes : (codes : List Code) → AreWriting codes → Closes codes
writing_closes [] writing = tt
writing_closes (code ∷ []) writing = writing_none code writing.0
writing_closes (code ∷ (next ∷ codes)) writing = writing_closes (next ∷ codes) writing.1

-- two codes or more, of which the last one closes
pub record IsLong (codes : List Code) : Type 0 where
  pub one : Code
  pub two : Code
  pub more : List Code
  pub is : codes ≡ one ∷ two ∷ more
  pub closes : Closes codes

-- the codes of runs are some
some_codes : (runs : List Run) → All IsLine21Run runs → 1 ≤ length runs → (code : Code) × (codes : List Code) × (flat_map run_codes runs ≡ code ∷ codes)
some_codes [] formed some = absurd (omega arith)
some_codes (run ∷ runs) formed some =
    let b = run_begins run.pen run (All-head IsLine21Run run runs formed).pen in
    (_, b.rest ++ flat_map run_codes runs, ap (λ (codes : List Code). codes ++ flat_map run_codes runs) b.is)

-- the codes of a cue that isn't pop-on
plain_long : (k : Kind) (runs : List Run) → is_pop k ≡ false → is_line21 k ≡ true → All IsLine21Run runs → 1 ≤ length runs
    → IsLong (opening_codes k ++ flat_map run_codes runs)
plain_long (kind.Pop channel) runs plain line21 formed some = cc
plain_long (kind.Win window) runs plain line21 formed some = cc
plain_long (kind.Paint channel) runs plain line21 formed some =
    let w = some_codes runs formed some in
    let all : Closes (w.0 ∷ w.1) = writing_closes (w.0 ∷ w.1) (subst AreWriting w.2 (runs_writing runs)) in
    record {
      one = first_channel Rdc;
      two = w.0;
      more = w.1;
      is = ap (λ (codes : List Code). first_channel Rdc ∷ codes) w.2;
      closes = subst (λ (codes : List Code). Closes (first_channel Rdc ∷ codes)) (sym w.2) all;
    }
plain_long (kind.Roll channel rows) runs plain line21 formed some =
    let w = some_codes runs formed some in
    let all : Closes (w.0 ∷ w.1) = writing_closes (w.0 ∷ w.1) (subst AreWriting w.2 (runs_writing runs)) in
    record {
      one = first_channel (Ru rows);
      two = first_channel Cr;
      more = flat_map run_codes runs;
      is = refl;
      closes = subst (λ (codes : List Code). Closes (first_channel (Ru rows) ∷ first_channel Cr ∷ codes)) (sym w.2) all;
    }

lines_of : (k : Kind) (hide : Option ℕ) (runs : List Run) → is_pop k ≡ false → is_line21 k ≡ true → IsOfKind k hide runs → All IsLine21Run runs
lines_of (kind.Pop channel) hide runs plain line21 formed = cc
lines_of (kind.Win window) hide runs plain line21 formed = cc
lines_of (kind.Paint channel) hide runs plain line21 formed = formed.2
lines_of (kind.Roll channel rows) hide runs plain line21 formed = formed.2

pub cue_long : (cue : Cue) → is_pop cue.kind ≡ false → is_line21 cue.kind ≡ true → IsCueFormed cue → IsLong (cue_codes cue)
cue_long cue plain line21 formed = plain_long cue.kind cue.runs plain line21 (lines_of cue.kind cue.hide cue.runs plain line21 formed.kind) formed.some

-- what stands last of units whose last code closes is none that opens
pub last_closes : (events : List Event) (a : ℕ) (chunks : List FieldChunk) (fs : List ℕ) (n : ℕ) (u : Unit) → Closes (chunk_codes chunks)
    → ArePlacedFrom events a chunks fs → stands chunks fs n ≡ Some u → ((m : ℕ) → n < m → stands chunks fs m ≡ None) → IsOpening (code_of u.pair) → ⊥
last_closes events a [] fs n u closes placed there none opens = cc
last_closes events a (chunk ∷ chunks) [] n u closes placed there none opens = absurd placed
last_closes events a (chunk ∷ []) (f ∷ fs) n u closes placed there none opens = at (n == f) refl
  where
    at : (b : Bool) → (n == f) ≡ b → ⊥
    at true test =
        let same : Some chunk.unit ≡ Some u = sym (rw test refl) ∙ there in
        let it : chunk.unit ≡ u = cc in
        closes (subst (λ (v : Unit). IsOpening (code_of v.pair)) (sym it) opens)
    at false test = let wrong : None ≡ Some u = sym (rw test refl) ∙ there in cc
last_closes events a (chunk ∷ (next ∷ chunks)) (f ∷ []) n u closes placed there none opens = absurd placed.4
last_closes events a (chunk ∷ (next ∷ chunks)) (f ∷ (g ∷ fs)) n u closes placed there none opens =
    at (n == f) refl (λ is only. last_closes events (suc f) (next ∷ chunks) (g ∷ fs) n u closes placed.4 is only opens)
  where
    behind : suc f ≤ g
    behind = placed.4.0

    at : (b : Bool) → (n == f) ≡ b
        → (stands (next ∷ chunks) (g ∷ fs) n ≡ Some u → ((m : ℕ) → n < m → stands (next ∷ chunks) (g ∷ fs) m ≡ None) → ⊥) → ⊥
    at true test rest =
        let here : n ≡ f = grind (arith, nat_tests) in
        let other : (g == f) ≡ false = grind (arith, nat_tests) in
        let own : (g == g) ≡ true = grind (arith, nat_tests) in
        let wrong : Some next.unit ≡ None = sym (rw (other, own) refl) ∙ none g (omega arith) in cc
    at false test rest =
        rest (sym (rw test refl) ∙ there)
        (λ m above. by_test m above (m == f) refl)
      where
        by_test : (m : ℕ) → n < m → (b : Bool) → (m == f) ≡ b → stands (next ∷ chunks) (g ∷ fs) m ≡ None
        by_test m above true is =
            let here : m ≡ f = grind (arith, nat_tests) in
            let wrong : Some chunk.unit ≡ None = sym (rw is refl) ∙ none m above in cc
        by_test m above false is = sym (rw is refl) ∙ none m above
