-- The first fault is one: records that have it are read up to it, and no further.
use Rattle.std.proofs.Common.{◌≡◌, ℕ, ◌+◌, ◌≤◌, true, List, [], ◌∷◌, ◌++◌, map, length, Option, Some, None, Result, Ok, Err, arith, refl, sym, ap, ◌∙◌, length-append, subst, inl, inr}
use Rattle.std.specs.List.{flat_map}
use Rattle.std.proofs.lemmas.Grind.{flat_map-append}
use Rattle.std.proofs.lemmas.List.{append-nil}
use Rattle.std.proofs.lemmas.List.Elements.{All-cons, All-nil, All-pop}
use Rattle.cue_form.specs.Begun.{AreOfVersion, Begun, IsBegun, IsPlain, awaits_run, nothing}
use Rattle.cue_form.specs.FirstFault.{IsFirstFault}
use Rattle.cue_form.specs.Reading.{list_ended, next, read_from, spelled_list}
use Rattle.cue_form.specs.Records.{Record}
use Rattle.cue_form.specs.Spelling.{begun_records, cue_records, head_record, share_record}
use Rattle.cue_types.specs.declared.cue.Cue.{Cue}
use Rattle.cue_form.specs.declared.fault.CueFault.{CueFault}
use Rattle.cue_types.specs.declared.head.Head.{Head}
use Rattle.cue_types.specs.declared.head.Version.{Version}
use Rattle.cue_types.specs.declared.head.Version.TheVariants as version
use Rattle.cue_types.specs.declared.list.Share.{Share}
use Rattle.cue_form.specs.declared.offence.Offence.{Offence}
use Rattle.cue_form.proofs.Complete.{LeadsTo, begun_of, cue_read, cues_read, front_read, leads_nowhere, leads_on}
use Rattle.cue_form.proofs.Goodness.{offence_of}
use Rattle.cue_form.proofs.Judged.{next_judged}
use Rattle.cue_form.proofs.Offended.{offends_back}
use Rattle.cue_form.proofs.StandingTold.{awaits_told}

-- the cues of a version before the last one, and that one
version_split : (v : Version) (earlier : List Cue) (cue : Cue) → AreOfVersion v (earlier ++ cue ∷ []) → AreOfVersion v earlier × AreOfVersion v (cue ∷ [])
version_split version.One earlier cue are =
    let (others, own) = All-pop IsPlain (earlier ++ cue ∷ []) earlier (Some cue) refl are in
    (others, All-cons IsPlain cue [] own (All-nil IsPlain))
version_split version.Two earlier cue are = (tt, tt)

-- the records of a begun list lead to it
parts_read_back : (head : Option Head) (shares : List Share) (earlier : List Cue) (last : Option Cue) → IsBegun (begun_of head shares earlier last)
    → LeadsTo nothing (begun_records (begun_of head shares earlier last)) (begun_of head shares earlier last)
parts_read_back None shares earlier last begun = subst (λ (c : Begun). LeadsTo nothing (begun_records c) c) (sym begun.head) (leads_nowhere nothing)
parts_read_back (Some head) shares earlier None begun =
    let at = begun.head in
    rw (begun.last, append-nil) (front_read head shares at.rate at.some at.frames at.shares)
parts_read_back (Some head) shares earlier (Some cue) begun =
    let at = begun.head in
    let few : length earlier + 1 ≤ 20000 = rw length-append at begun.few in
    let (others, own) = version_split head.version earlier cue at.version in
    let start = begun_of (Some head) shares [] None in
    let front = front_read head shares at.rate at.some at.frames at.shares in
    let cues = cues_read head shares [] None earlier refl begun.earlier others (omega arith) in
    let mid = begun_of (Some head) shares cues.earlier cues.last in
    let last = cue_read head shares cues.earlier cues.last cue begun.last own cues.full (rw cues.all (omega arith)) in
    let there : LeadsTo mid (cue_records cue) (begun_of (Some head) shares earlier (Some cue)) =
    subst (λ (es : List Cue). LeadsTo mid (cue_records cue) (begun_of (Some head) shares es (Some cue))) cues.all last in
    let whole = leads_on nothing start (begun_of (Some head) shares earlier (Some cue)) (head_record head ∷ map share_record shares) (flat_map cue_records earlier ++ cue_records cue)
    front (leads_on start mid (begun_of (Some head) shares earlier (Some cue)) (flat_map cue_records earlier) (cue_records cue) cues.leads there) in
    let records : flat_map cue_records (earlier ++ cue ∷ []) ≡ flat_map cue_records earlier ++ cue_records cue = rw (flat_map-append cue_records earlier (cue ∷ []), append-nil (cue_records cue)) refl in
    rw records whole

read_back : (b : Begun) → IsBegun b → LeadsTo nothing (begun_records b) b
read_back b begun = parts_read_back b.head b.shares b.earlier b.last begun

-- what was refused
refused_from : (result : Result Begun Offence) (offence : Offence) → offence_of result ≡ Some offence → result ≡ Err offence
refused_from (Ok b) offence is = cc
refused_from (Err other) offence is = cc

-- a list without a head, or with a cue without a run, ends too early
lacking : (b : Begun) (head : Option Head) (number : ℕ) → awaits_run b.last ≡ true → list_ended b head number ≡ list_ended b None number
lacking b None number awaits = refl
lacking b (Some head) number awaits = rw awaits refl

-- the records before, and what is read after them
after_begun : (rest : List Record) (b : Begun) → IsBegun b
    → spelled_list (begun_records b ++ rest) ≡ read_from b (length (begun_records b) + 1) rest
after_begun rest b begins =
    let count : 1 + length (begun_records b) ≡ length (begun_records b) + 1 = omega arith in
    (read_back b begins).read 1 rest ∙ ap (λ (n : ℕ). read_from b n rest) count

-- records that have a first fault are answered with it
pub first_fault_read : (rs : List Record) (f : CueFault) → IsFirstFault rs f → spelled_list rs ≡ Err f
first_fault_read rs f (inl stops) =
    let b = stops.begun in
    let read = after_begun (stops.offender ∷ stops.after) b stops.begins in
    let stopped = next_judged b stops.offender ∙ offends_back b stops.offender stops.begins stops.offence stops.offends in
    let refused = refused_from (next b stops.offender) stops.offence stopped in
    ap spelled_list stops.split ∙ (read ∙ rw (refused, stops.place) refl)
first_fault_read rs f (inr early) =
    let b = early.begun in
    let count : length (begun_records b) ≡ length rs = ap length (sym early.are) in
    let whole : spelled_list rs ≡ read_from b (length rs + 1) [] =
    ap spelled_list (early.are ∙ sym (append-nil (begun_records b))) ∙ after_begun [] b early.begins
    ∙ ap (λ (n : ℕ). read_from b (n + 1) []) count in
    elim early.lacks [
      | inl none ↦ whole ∙ rw (none, early.place) refl
      | inr awaits ↦ whole ∙ (lacking b b.head (length rs + 1) ((awaits_told b.last).1 awaits) ∙ rw early.place refl)
    ]
