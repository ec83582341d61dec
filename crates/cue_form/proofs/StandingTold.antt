-- The test of where a record may stand is passed exactly where it may.
use Rattle.std.proofs.Common.{◌≡◌, ◌≢◌, ◌&&◌, not, true, is_none, is_some, List, [], ◌∷◌, ◌++◌, Option, Some, None, refl, ap, subst}
use Rattle.std.specs.Prelude.{Decides, IfSome, IsSome, IsSomeAnd}
use Rattle.std.proofs.lemmas.Bool.Decides.{Decides-and, Decides-not}
use Rattle.cue_form.specs.Begun.{Begun, awaits_run, no_runs}
use Rattle.cue_form.specs.FieldForms.{MayStand}
use Rattle.cue_form.specs.Form.{awaits_attributes, awaits_colours, is_bare_window, is_second, is_window, last_is_plain, may_stand}
use Rattle.cue_types.specs.declared.cue.Cue.{Cue}
use Rattle.cue_types.specs.declared.cue.Kind.{Kind}
use Rattle.cue_types.specs.declared.cue.Kind.TheVariants as kind
use Rattle.cue_types.specs.declared.cue.Run.{Run}
use Rattle.cue_types.specs.declared.cue.WinCue.{WinCue}
use Rattle.cue_types.specs.declared.head.Head.{Head}
use Rattle.cue_types.specs.declared.head.Version.{Version}
use Rattle.cue_types.specs.declared.head.Version.TheVariants as version
use Rattle.cue_form.specs.declared.record_kind.RecordKind.{RecordKind}
use Rattle.cue_form.specs.declared.record_kind.RecordKind.TheVariants as record_kind

-- what is there, and what isn't
none_told : {A : Type 0} (o : Option A) → Decides (is_none o) (o ≡ None)
none_told None = (λ is. refl, λ is. refl)
none_told (Some x) = (λ is. cc, λ is. cc)

-- a list of version 2
second_told : (head : Option Head) → Decides (is_second head) (IsSomeAnd head (λ h. h.version ≡ version.Two))
second_told None = (λ is. cc, λ is. absurd is)
second_told (Some head) = (λ is. by_version head.version refl is, λ is. rw is refl)
  where
    by_version : (v : Version) → head.version ≡ v → is_second (Some head) ≡ true → head.version ≡ version.Two
    by_version version.One same is = let q = rw same at is in cc
    by_version version.Two same is = same

-- no runs
pub no_runs_told : (runs : List Run) → Decides (no_runs runs) (runs ≡ [])
no_runs_told [] = (λ is. refl, λ is. refl)
no_runs_told (run ∷ runs) = (λ is. cc, λ is. cc)

-- a window, and one without attributes of its own
window_told : (k : Kind) → Decides (is_window k) ((window : WinCue) × (k ≡ kind.Win window))
window_told (kind.Win window) = (λ is. (window, refl), λ is. refl)
window_told (kind.Pop channel) = (λ is. cc, λ is. let q = is.1 in cc)
window_told (kind.Paint channel) = (λ is. cc, λ is. let q = is.1 in cc)
window_told (kind.Roll channel rows) = (λ is. cc, λ is. let q = is.1 in cc)

bare_told : (k : Kind) → Decides (is_bare_window k) ((window : WinCue) × (k ≡ kind.Win window) × (window.attr ≡ None))
bare_told (kind.Win window) = (
  λ is. (window, refl, (none_told window.attr).0 is),
  λ is.
      let same : is.0 ≡ window = let q = is.1 in cc in
      (none_told window.attr).1 (subst (λ (w : WinCue). w.attr ≡ None) same is.2),
)
bare_told (kind.Pop channel) = (λ is. cc, λ is. let q = is.1 in cc)
bare_told (kind.Paint channel) = (λ is. cc, λ is. let q = is.1 in cc)
bare_told (kind.Roll channel rows) = (λ is. cc, λ is. let q = is.1 in cc)

attributes_told : (last : Option Cue)
    → Decides (awaits_attributes last)
    (IsSomeAnd last (λ cue. (cue.runs ≡ []) × ((window : WinCue) × (cue.kind ≡ kind.Win window) × (window.attr ≡ None))))
attributes_told None = (λ is. cc, λ is. absurd is)
attributes_told (Some cue) =
    Decides-and {P = cue.runs ≡ []} {Q = (window : WinCue) × (cue.kind ≡ kind.Win window) × (window.attr ≡ None)}
    (no_runs cue.runs) (is_bare_window cue.kind) (no_runs_told cue.runs) (bare_told cue.kind)

-- the last of the runs has no colours of its own
abbrev EndsPlain : List Run → Type 0
EndsPlain runs = (front : List Run) × (run : Run) × (runs ≡ front ++ run ∷ []) × (run.colors ≡ None)

none_last : (front : List Run) (run : Run) → [] ≡ front ++ run ∷ [] → ⊥
none_last [] run is = cc
none_last (first ∷ front) run is = cc

one_last : (last : Run) (front : List Run) (run : Run) → last ∷ [] ≡ front ++ run ∷ [] → run.colors ≡ None → last.colors ≡ None
one_last last [] run is none = let same : run ≡ last = cc in subst (λ (r : Run). r.colors ≡ None) same none
one_last last (first ∷ front) run is none = let rest : [] ≡ front ++ run ∷ [] = cc in absurd (none_last front run rest)

plain_told : (runs : List Run) → Decides (last_is_plain runs) (EndsPlain runs)
plain_told [] = (λ is. cc, λ is. absurd (none_last is.0 is.1 is.2))
plain_told (run ∷ []) = (
  λ is. ([], run, refl, (none_told run.colors).0 is),
  λ is. (none_told run.colors).1 (one_last run is.0 is.1 is.2 is.3),
)
plain_told (run ∷ (next ∷ runs)) = (
  λ is.
      let rest = (plain_told (next ∷ runs)).0 is in
      (run ∷ rest.0, rest.1, ap (λ (rs : List Run). run ∷ rs) rest.2, rest.3),
  λ is. (plain_told (next ∷ runs)).1 (shorter is.0 is.1 is.2 is.3),
)
  where
    shorter : (front : List Run) (last : Run) → run ∷ (next ∷ runs) ≡ front ++ last ∷ [] → last.colors ≡ None → EndsPlain (next ∷ runs)
    shorter [] last is none = cc
    shorter (first ∷ front) last is none = let rest : next ∷ runs ≡ front ++ last ∷ [] = cc in (front, last, rest, none)

colours_told : (last : Option Cue)
    → Decides (awaits_colours last)
    (IsSomeAnd last (λ cue. ((window : WinCue) × (cue.kind ≡ kind.Win window))
    × ((runs : List Run) × (run : Run) × (cue.runs ≡ runs ++ run ∷ []) × (run.colors ≡ None))))
colours_told None = (λ is. cc, λ is. absurd is)
colours_told (Some cue) =
    Decides-and {P = (window : WinCue) × (cue.kind ≡ kind.Win window)} {Q = EndsPlain cue.runs}
    (is_window cue.kind) (last_is_plain cue.runs) (window_told cue.kind) (plain_told cue.runs)

-- a last cue without a run
pub awaits_told : (last : Option Cue) → Decides (awaits_run last) (IsSomeAnd last (λ cue. cue.runs ≡ []))
awaits_told None = (λ is. cc, λ is. absurd is)
awaits_told (Some cue) = no_runs_told cue.runs

full_told : (last : Option Cue) → Decides (not (awaits_run last)) (IfSome last (λ cue. cue.runs ≢ []))
full_told None = (λ is. tt, λ is. refl)
full_told (Some cue) = Decides-not {P = cue.runs ≡ []} (no_runs cue.runs) (no_runs_told cue.runs)

opening_told : (b : Begun) → Decides (is_some b.head && not (awaits_run b.last)) (IsSome b.head × IfSome b.last (λ cue. cue.runs ≢ []))
opening_told b =
    Decides-and {P = IsSome b.head} {Q = IfSome b.last (λ cue. cue.runs ≢ [])} (is_some b.head) (not (awaits_run b.last))
    (λ is. is, λ is. is) (full_told b.last)

pub may_told : (b : Begun) (k : RecordKind) → Decides (may_stand b k) (MayStand b k)
may_told b record_kind.Ccsuite = none_told b.head
may_told b record_kind.Share =
    Decides-and {P = IsSome b.head} {Q = b.last ≡ None} (is_some b.head) (is_none b.last) (λ is. is, λ is. is) (none_told b.last)
may_told b record_kind.Attr = Decides-and (is_second b.head) (awaits_attributes b.last) (second_told b.head) (attributes_told b.last)
may_told b record_kind.Run = (λ is. is, λ is. is)
may_told b record_kind.Colour = Decides-and (is_second b.head) (awaits_colours b.last) (second_told b.head) (colours_told b.last)
may_told b record_kind.Pop = opening_told b
may_told b record_kind.Paint = opening_told b
may_told b record_kind.Roll = opening_told b
may_told b record_kind.Win = opening_told b
