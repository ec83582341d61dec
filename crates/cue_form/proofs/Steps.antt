-- From record to record: what a begun list keeps.
use Rattle.std.proofs.Common.{◌≡◌, ◌≢◌, ℕ, ◌+◌, ◌≤◌, ◌==◌, ◌&&◌, ◌||◌, not, nat_lt, nat_le, if◌then◌else◌, is_some, is_none, Bool, List, [], ◌∷◌, ◌++◌, true, false, length, All, Option, Some, None, option_to_list, Ok, arith, refl, sym, ap, ◌∙◌, subst, length-append, ltb-true, leb-true, eqb-true, eq-eqb}
use Rattle.std.specs.Prelude.{MatchOption}
use Rattle.std.specs.List.{list_any}
use Rattle.std.proofs.lemmas.List.Sums.{sum_by_push}
use Rattle.std.proofs.lemmas.List.{append-nil}
use Rattle.std.proofs.lemmas.List.Elements.{All-cons, All-head, All-nil, All-pop, All-push, All-tail}
use Rattle.std.proofs.lemmas.List.Quantifiers.{all_pairs_push}
use Rattle.cc_base.specs.declared.rate.Rate.{Rate}
use Rattle.dtvcc_codes.specs.declared.pens.PenColors.{PenColors}
use Rattle.dtvcc_codes.specs.declared.windows.WinAttr.{WinAttr}
use Rattle.dtvcc_codes.specs.Spellable.{IsPenColors}
use Rattle.cue_form.specs.Begun.{AreOfVersion, Begun, IsBegun, IsCueBegun, IsHeaded, IsPlain, awaits_run, cue_with_attributes, cue_with_colours, cue_with_run, cues_of, kind_with_attributes, no_runs, nothing, with_cue}
use Rattle.cue_types.specs.Coloured.{coloured}
use Rattle.cue_types.specs.Cues.{IsCueFormed, IsOfKind}
use Rattle.cue_types.specs.Line21Cues.{IsLine21Run, IsRolled, base_row}
use Rattle.cue_types.specs.Listing.{IsFormed, IsListRate, most_frames}
use Rattle.cue_types.specs.Shares.{AreShares, IsShare, share_room, shares_taken}
use Rattle.cue_types.specs.Windows.{AreWindowAttributes, IsWindowRun}
use Rattle.cue_form.specs.Form.{awaits_attributes, awaits_colours, is_second, is_window, last_is_plain, may_stand, record_kind_of, suits_row}
use Rattle.cue_form.specs.Judgements.{room_at, room_judgement, standing_judgement}
use Rattle.cue_form.specs.Reading.{adds, attributes_of, colours_of, cue_of, head_of, next, opens, run_of, share_record_of}
use Rattle.cue_form.specs.Records.{Record, field}
use Rattle.cue_types.specs.declared.cue.Cue.{Cue}
use Rattle.cue_types.specs.declared.cue.Kind.{Kind}
use Rattle.cue_types.specs.declared.cue.Kind.TheVariants as kind
use Rattle.cue_types.specs.declared.cue.Run.{Run}
use Rattle.cue_types.specs.declared.head.Head.{Head}
use Rattle.cue_types.specs.declared.head.Version.{Version}
use Rattle.cue_types.specs.declared.head.Version.TheVariants as version
use Rattle.cue_types.specs.declared.list.Share.{Share}
use Rattle.cue_form.specs.declared.record_kind.RecordKind.{RecordKind}
use Rattle.cue_form.specs.declared.record_kind.RecordKind.TheVariants as record_kind
use Rattle.cue_form.proofs.Goodness.{passed_on}
use Rattle.cue_form.proofs.Passing.{both_of, not_of, with_part, with_value}
use Rattle.cue_form.proofs.RecordFacts.{CuePassed, IsRunOf, attributes_passed, colours_passed, cue_passed, head_passed, opens_cue, run_passed, share_passed}

-- a list without a record
pub IsBegun-nothing : IsBegun nothing
IsBegun-nothing = record {
  head = refl;
  earlier = λ k d h. absurd (omega arith);
  last = refl;
  few = omega arith;
}

-- a cue with a run
some_runs : (runs : List Run) → no_runs runs ≡ false → 1 ≤ length runs
some_runs [] e = cc
some_runs (run ∷ runs) e = omega arith

IsCueFormed-begun : (cue : Cue) → IsCueBegun cue → no_runs cue.runs ≡ false → IsCueFormed cue
IsCueFormed-begun cue begun e = record { load = begun.load; show = begun.show; hide = begun.hide; some = some_runs cue.runs e; kind = begun.kind }

-- all cues of a list whose last has a run
formed_with_last : (earlier : List Cue) (last : Option Cue) → All IsCueFormed earlier → MatchOption last (earlier ≡ []) IsCueBegun → awaits_run last ≡ false → All IsCueFormed (earlier ++ option_to_list last)
formed_with_last earlier None formed begun e = rw append-nil formed
formed_with_last earlier (Some cue) formed begun e = All-push IsCueFormed earlier cue formed (IsCueFormed-begun cue begun e)

all_formed : (b : Begun) → IsBegun b → awaits_run b.last ≡ false → All IsCueFormed (cues_of b)
all_formed b begun e = formed_with_last b.earlier b.last begun.earlier begun.last e

-- what the head of a begun list has
pub headed : (b : Begun) (head : Head) → IsBegun b → b.head ≡ Some head → IsHeaded b head
headed b head begun is = subst (λ (h : Option Head). MatchOption h (b ≡ nothing) (IsHeaded b)) is begun.head

-- a begun list that has a head, and a run in its last cue, is a cue list
pub IsFormed-list_ended : (b : Begun) (head : Head) → IsBegun b → b.head ≡ Some head → awaits_run b.last ≡ false
    → IsFormed (record { rate = head.rate; frames = head.frames; shares = b.shares; cues = cues_of b })
IsFormed-list_ended b head begun is full =
    let at = headed b head begun is in
    record { rate = at.rate; some = at.some; frames = at.frames; shares = at.shares; few = begun.few; cues = all_formed b begun full }

-- a head stays, where the shares do and the cues are of its version
kept_head : (b more : Begun) (head : Option Head) → b.shares ≡ more.shares → is_some head ≡ true
    → ((h : Head) → head ≡ Some h → AreOfVersion h.version (cues_of b) → AreOfVersion h.version (cues_of more)) → MatchOption head (b ≡ nothing) (IsHeaded b) → MatchOption head (more ≡ nothing) (IsHeaded more)
kept_head b more None same some of_version begun = cc
kept_head b more (Some head) same some of_version begun =
    record {
      rate = begun.rate;
      some = begun.some;
      frames = begun.frames;
      shares = subst (AreShares head.rate) same begun.shares;
      version = of_version head refl begun.version;
    }

-- a list with a cue has a head
headed_by_last : (b : Begun) (head : Option Head) (cue : Cue) → MatchOption head (b ≡ nothing) (IsHeaded b) → b.last ≡ Some cue → is_some head ≡ true
headed_by_last b None cue begun last = let none = ap (λ (b : Begun). b.last) begun in cc
headed_by_last b (Some head) cue begun last = refl

-- one plain cue more is of each version
version_push : (v : Version) (cues : List Cue) (cue : Cue) → IsPlain cue → AreOfVersion v cues → AreOfVersion v (cues ++ cue ∷ [])
version_push version.One cues cue plain are = All-push IsPlain cues cue are plain
version_push version.Two cues cue plain are = tt

-- a last cue that is as plain as the one before
version_last : (v : Version) (earlier : List Cue) (cue more : Cue) → (IsPlain cue → IsPlain more) → AreOfVersion v (earlier ++ cue ∷ []) → AreOfVersion v (earlier ++ more ∷ [])
version_last version.One earlier cue more plain are =
    let (others, own) = All-pop IsPlain (earlier ++ cue ∷ []) earlier (Some cue) refl are in
    All-push IsPlain earlier more others (plain own)
version_last version.Two earlier cue more plain are = tt

-- a list with a cue more
pub IsBegun-with_cue : (b : Begun) (cue : Cue) → IsBegun b → is_some b.head ≡ true → awaits_run b.last ≡ false → nat_lt (length (cues_of b)) 20000 ≡ true → IsCueBegun cue → IsPlain cue → IsBegun (with_cue b cue)
IsBegun-with_cue b cue begun has_head full few new plain =
    let room = ltb-true (length (cues_of b)) 20000 few in
    record {
      head = kept_head b (with_cue b cue) b.head refl has_head (λ h is are. version_push h.version (cues_of b) cue plain are) begun.head;
      earlier = all_formed b begun full;
      last = new;
      few = rw length-append (omega arith);
    }

-- one run more on the row of the others
IsRolled-push : (rows : ℕ) (runs : List Run) (run : Run) → IsRolled rows runs → (nat_le rows run.row && (if no_runs runs then true else run.row == base_row runs)) ≡ true → IsRolled rows (runs ++ run ∷ [])
IsRolled-push rows [] run rolled suits =
    let room = leb-true rows run.row (both_of (nat_le rows run.row) true suits).0 in
    record { number = rolled.number; one_row = All-cons (λ q. q.row ≡ run.row) run [] refl (All-nil _); room = All-cons (λ q. rows ≤ q.row) run [] room (All-nil _) }
IsRolled-push rows (first ∷ runs) run rolled suits =
    let (fits, same) = both_of (nat_le rows run.row) (run.row == first.row) suits in
    record {
      number = rolled.number;
      one_row = All-push (λ q. q.row ≡ first.row) (first ∷ runs) run rolled.one_row (eqb-true run.row first.row same);
      room = All-push (λ q. rows ≤ q.row) (first ∷ runs) run rolled.room (leb-true rows run.row fits);
    }

-- one run more of a cue of its kind
IsOfKind-push : (k : Kind) (hide : Option ℕ) (runs : List Run) (run : Run) → IsOfKind k hide runs → IsRunOf k run → suits_row k runs run.row ≡ true → IsOfKind k hide (runs ++ run ∷ [])
IsOfKind-push (kind.Pop channel) hide runs run begun formed suits = (begun.0, begun.1, All-push IsLine21Run runs run begun.2 formed)
IsOfKind-push (kind.Paint channel) hide runs run begun formed suits = (begun.0, begun.1, All-push IsLine21Run runs run begun.2 formed)
IsOfKind-push (kind.Roll channel rows) hide runs run begun formed suits = (begun.0, IsRolled-push rows runs run begun.1 suits, All-push IsLine21Run runs run begun.2 formed)
IsOfKind-push (kind.Win window) hide runs run begun formed suits = (begun.0, begun.1, All-push (IsWindowRun window) runs run begun.2 formed)

-- a list with another last cue
IsBegun-with_last : (b : Begun) (cue more : Cue) → IsBegun b → b.last ≡ Some cue → IsCueBegun more
    → ((h : Head) → b.head ≡ Some h → AreOfVersion h.version (b.earlier ++ cue ∷ []) → AreOfVersion h.version (b.earlier ++ more ∷ []))
    → IsBegun (record b { last = Some more })
IsBegun-with_last b cue more begun last new of_version =
    let few : length (b.earlier ++ cue ∷ []) ≤ 20000 = rw last at begun.few in
    record {
      head = kept_head b (record b { last = Some more }) b.head refl (headed_by_last b b.head cue begun.head last)
          (λ h is are. of_version h is (rw last at are)) begun.head;
      earlier = begun.earlier;
      last = new;
      few = rw length-append (rw length-append at few);
    }

-- a list with a run more
pub IsBegun-with_run : (b : Begun) (cue : Cue) (run : Run) → IsBegun b → b.last ≡ Some cue → IsRunOf cue.kind run → suits_row cue.kind cue.runs run.row ≡ true → run.colors ≡ None
    → IsBegun (record b { last = Some (cue_with_run cue run) })
IsBegun-with_run b cue run begun last formed suits plain =
    let open_cue : IsCueBegun cue = rw last at begun.last in
    IsBegun-with_last b cue (cue_with_run cue run) begun last
    (record { load = open_cue.load; show = open_cue.show; hide = open_cue.hide; kind = IsOfKind-push cue.kind cue.hide cue.runs run open_cue.kind formed suits })
    (λ h is are. version_last h.version b.earlier cue (cue_with_run cue run)
    (λ own. record { kind = own.kind; runs = All-push (λ (r : Run). r.colors ≡ None) cue.runs run own.runs plain }) are)

-- in version 2 any cues may stand
second_of : (head : Option Head) (h : Head) → is_second head ≡ true → head ≡ Some h → (cues : List Cue) → AreOfVersion h.version cues
second_of None h second is cues = cc
second_of (Some head) h second is cues = let same : head ≡ h = cc in subst (λ (x : Head). AreOfVersion x.version cues) same (by_version head.version second)
  where
    is_two : Version → Bool
    is_two version.One = false
    is_two version.Two = true

    by_version : (v : Version) → is_second (Some (record head { version = v })) ≡ true → AreOfVersion v cues
    by_version version.One e = cc
    by_version version.Two e = tt

-- attributes of a window's own
IsOfKind-attributes : (k : Kind) (hide : Option ℕ) (runs : List Run) (attributes : WinAttr) → IsOfKind k hide runs → AreWindowAttributes attributes
    → IsOfKind (kind_with_attributes attributes k) hide runs
IsOfKind-attributes (kind.Pop channel) hide runs attributes begun formed = begun
IsOfKind-attributes (kind.Paint channel) hide runs attributes begun formed = begun
IsOfKind-attributes (kind.Roll channel rows) hide runs attributes begun formed = begun
IsOfKind-attributes (kind.Win window) hide runs attributes begun formed =
    let w = begun.0 in (
      record {
        service = w.service;
        id = w.id;
        delay = w.delay;
        anchor = w.anchor;
        av = w.av;
        ah = w.ah;
        rows = w.rows;
        cols = w.cols;
        priority = w.priority;
        ws = w.ws;
        ps = w.ps;
        attr = formed;
      },
      begun.1,
      λ i d within. let run = begun.2 i d within in
          record { row = run.row; col = run.col; pen = run.pen; some = run.some; fits = run.fits; coded = run.coded; colors = run.colors },
    )

-- colours of the last run's own
coloured_all : (P : Run → Type 0) (colours : PenColors) (runs : List Run) → ((run : Run) → P run → P (record run { colors = Some colours })) → All P runs → All P (coloured colours runs)
coloured_all P colours [] each all = all
coloured_all P colours (run ∷ []) each all =
    All-cons P (record run { colors = Some colours }) [] (each run (All-head P run [] all)) (All-nil P)
coloured_all P colours (run ∷ (next ∷ runs)) each all =
    All-cons P run (coloured colours (next ∷ runs)) (All-head P run (next ∷ runs) all) (coloured_all P colours (next ∷ runs) each (All-tail P run (next ∷ runs) all))

IsOfKind-colours : (k : Kind) (hide : Option ℕ) (runs : List Run) (colours : PenColors) → is_window k ≡ true → IsOfKind k hide runs → IsPenColors colours
    → IsOfKind k hide (coloured colours runs)
IsOfKind-colours (kind.Pop channel) hide runs colours window begun formed = cc
IsOfKind-colours (kind.Paint channel) hide runs colours window begun formed = cc
IsOfKind-colours (kind.Roll channel rows) hide runs colours window begun formed = cc
IsOfKind-colours (kind.Win w) hide runs colours window begun formed = (
  begun.0,
  begun.1,
  coloured_all (IsWindowRun w) colours runs
      (λ run own. record { row = own.row; col = own.col; pen = own.pen; some = own.some; fits = own.fits; coded = own.coded; colors = formed }) begun.2,
)

-- a list with a share more
neither : (a b : Bool) → (a || b) ≡ false → (a ≡ false) × (b ≡ false)
neither true b e = cc
neither false b e = (refl, e)

none_of : (shares : List Share) (service : ℕ) → list_any (λ (former : Share). former.service == service) shares ≡ false → All (λ (former : Share). former.service ≢ service) shares
none_of [] service none = All-nil (λ (former : Share). former.service ≢ service)
none_of (share ∷ shares) service none =
    let (here, rest) = neither (share.service == service) (list_any (λ (former : Share). former.service == service) shares) none in
    All-cons (λ (former : Share). former.service ≢ service) share shares (λ same. let q = eq-eqb share.service service same in cc) (none_of shares service rest)

pub AreShares-push : (r : Rate) (shares : List Share) (share : Share) → AreShares r shares → IsShare share
    → list_any (λ (former : Share). former.service == share.service) shares ≡ false → shares_taken shares + (share.bytes + 1) ≤ share_room r → AreShares r (shares ++ share ∷ [])
AreShares-push r shares share are formed other fits =
    record {
      each = All-push IsShare shares share are.each formed;
      once = all_pairs_push (λ (a b : Share). a.service ≢ b.service) shares share are.once (none_of shares share.service other);
      fits = let taken : shares_taken (shares ++ share ∷ []) ≡ shares_taken shares + (share.bytes + 1) = sum_by_push (λ (s : Share). s.bytes + 1) shares share in omega arith;
    }

room_of_head : (b : Begun) (head : Head) → b.head ≡ Some head → room_at b.head ≡ share_room head.rate
room_of_head b head is = rw is refl

-- a list without cues is of each version
no_cues : (v : Version) → AreOfVersion v []
no_cues version.One = All-nil IsPlain
no_cues version.Two = tt

IsBegun-with_share : (b : Begun) (head : Head) (share : Share) → IsBegun b → b.head ≡ Some head → is_none b.last ≡ true → IsShare share
    → list_any (λ (former : Share). former.service == share.service) b.shares ≡ false → shares_taken b.shares + (share.bytes + 1) ≤ share_room head.rate
    → IsBegun (record b { shares = b.shares ++ share ∷ [] })
IsBegun-with_share b head share begun is none formed other fits =
    let at = headed b head begun is in
    record {
      head = subst (λ (h : Option Head). let more : Begun = record b { shares = b.shares ++ share ∷ [] } in MatchOption h (more ≡ nothing) (IsHeaded more)) (sym is) (record {
        rate = at.rate;
        some = at.some;
        frames = at.frames;
        shares = AreShares-push head.rate b.shares share at.shares formed other fits;
        version = at.version;
      });
      earlier = begun.earlier;
      last = begun.last;
      few = begun.few;
    }

-- the head comes first
pub nothing_before : (b : Begun) (head : Option Head) → is_none head ≡ true → MatchOption head (b ≡ nothing) (IsHeaded b) → b ≡ nothing
nothing_before b None none begun = begun
nothing_before b (Some head) none begun = cc

AreShares-nil : (r : Rate) → AreShares r []
AreShares-nil r = record { each = λ k d h. absurd (omega arith); once = λ i j d h k. absurd (omega arith); fits = omega arith }

IsBegun-with_head : (b : Begun) (head : Head) → IsBegun b → b ≡ nothing → IsListRate head.rate → 1 ≤ head.frames → head.frames ≤ most_frames → IsBegun (record b { head = Some head })
IsBegun-with_head b head begun none rate some frames =
    subst (λ (c : Begun). IsBegun (record c { head = Some head })) (sym none) (record {
      head = record { rate = rate; some = some; frames = frames; shares = AreShares-nil head.rate; version = no_cues head.version };
      earlier = λ k d h. absurd (omega arith);
      last = refl;
      few = omega arith;
    })

-- what a cue's record passed: there is room for its cue
pub opens_passed : (P : Type 0) (b more : Begun) (k : RecordKind) (r : Record) → opens_cue k ≡ true → opens b k r ≡ Ok more
    → ((cue : Cue) → nat_lt (length (cues_of b)) 20000 ≡ true → CuePassed k r cue → with_cue b cue ≡ more → P) → P
opens_passed P b more k r opening taken rest =
    let (few, went_on) = passed_on (room_judgement b) b _ more taken in
    with_part P (cue_of k r) (λ error failed. let q = rw failed at went_on in cc) (λ cue is.
    let t2 = rw is at went_on in
    rest cue few (cue_passed k r cue opening is) cc)

-- a cue more leaves a begun list
IsBegun-opens : (b more : Begun) (k : RecordKind) (r : Record) → IsBegun b → opens_cue k ≡ true → (is_some b.head && not (awaits_run b.last)) ≡ true → opens b k r ≡ Ok more → IsBegun more
IsBegun-opens b more k r begun opening may taken =
    let (has_head, full) = both_of (is_some b.head) (not (awaits_run b.last)) may in
    opens_passed _ b more k r opening taken (λ cue few at same. rw (← same) (IsBegun-with_cue b cue begun has_head (not_of (awaits_run b.last) full) few at.begun at.plain))

-- the last cue, where there is one that passes a test
pub last_passes : (P : Type 0) (last : Option Cue) (test : Option Cue → Bool) → test None ≡ false → test last ≡ true → ((cue : Cue) → last ≡ Some cue → P) → P
last_passes P None test none passes rest = absurd (let q = sym none ∙ passes in cc)
last_passes P (Some cue) test none passes rest = rest cue refl

-- a record of a kind more leaves a begun list
IsBegun-adds : (b more : Begun) (k : RecordKind) (r : Record) → IsBegun b → may_stand b k ≡ true → adds b k r ≡ Ok more → IsBegun more
IsBegun-adds b more record_kind.Ccsuite r begun may taken =
    with_part _ (head_of r) (λ error failed. let q = rw failed at taken in cc) (λ head is_head.
    let t1 = rw is_head at taken in
    let same : record b { head = Some head } ≡ more = cc in
    let at = head_passed r head is_head in
    rw (← same) (IsBegun-with_head b head begun (nothing_before b b.head may begun.head) at.rate at.some at.frames))
IsBegun-adds b more record_kind.Share r begun may taken =
    let (has_head, none) = both_of (is_some b.head) (is_none b.last) may in
    with_value _ b.head (λ no. let q = rw no at has_head in cc) (λ head is.
    with_part _ (share_record_of (room_at b.head) b.shares r) (λ error failed. let q = rw failed at taken in cc) (λ share is_share.
    let t1 = rw is_share at taken in
    let same : record b { shares = b.shares ++ share ∷ [] } ≡ more = cc in
    let at = share_passed (room_at b.head) b.shares r share is_share in
    rw (← same) (IsBegun-with_share b head share begun is none at.formed at.other (rw (room_of_head b head is) at at.fits))))
IsBegun-adds b more record_kind.Pop r begun may taken = IsBegun-opens b more record_kind.Pop r begun refl may taken
IsBegun-adds b more record_kind.Paint r begun may taken = IsBegun-opens b more record_kind.Paint r begun refl may taken
IsBegun-adds b more record_kind.Roll r begun may taken = IsBegun-opens b more record_kind.Roll r begun refl may taken
IsBegun-adds b more record_kind.Win r begun may taken = IsBegun-opens b more record_kind.Win r begun refl may taken
IsBegun-adds b more record_kind.Attr r begun may taken =
    let (second, awaits) = both_of (is_second b.head) (awaits_attributes b.last) may in
    last_passes _ b.last awaits_attributes refl awaits (λ cue last.
    with_part _ (attributes_of r) (λ error failed. let q = rw failed at taken in cc) (λ attributes is.
    let t1 = rw (is, last) at taken in
    let same : record b { last = Some (cue_with_attributes attributes cue) } ≡ more = cc in
    let at = attributes_passed r attributes is in
    let open_cue : IsCueBegun cue = rw last at begun.last in
    rw (← same) (IsBegun-with_last b cue (cue_with_attributes attributes cue) begun last
    (record { load = open_cue.load; show = open_cue.show; hide = open_cue.hide; kind = IsOfKind-attributes cue.kind cue.hide cue.runs attributes open_cue.kind at.formed })
    (λ h is are. second_of b.head h second is _))))
IsBegun-adds b more record_kind.Run r begun may taken =
    with_value _ b.last (λ none. let q = rw none at taken in cc) (λ cue last.
    let t1 = rw last at taken in
    with_part _ (run_of cue.kind cue.runs r) (λ error failed. let q = rw failed at t1 in cc) (λ run is_run.
    let t2 = rw is_run at t1 in
    let same : record b { last = Some (cue_with_run cue run) } ≡ more = cc in
    let open_cue : IsCueBegun cue = rw last at begun.last in
    let at = run_passed cue.kind cue.hide cue.runs r run open_cue.kind is_run in
    rw (← same) (IsBegun-with_run b cue run begun last at.formed at.suits at.plain)))
IsBegun-adds b more record_kind.Colour r begun may taken =
    let (second, awaits) = both_of (is_second b.head) (awaits_colours b.last) may in
    last_passes _ b.last awaits_colours refl awaits (λ cue last.
    with_part _ (colours_of r) (λ error failed. let q = rw failed at taken in cc) (λ colours is.
    let t1 = rw (is, last) at taken in
    let same : record b { last = Some (cue_with_colours colours cue) } ≡ more = cc in
    let at = colours_passed r colours is in
    let open_cue : IsCueBegun cue = rw last at begun.last in
    let (window, plain) = both_of (is_window cue.kind) (last_is_plain cue.runs) (rw last at awaits) in
    rw (← same) (IsBegun-with_last b cue (cue_with_colours colours cue) begun last
    (record { load = open_cue.load; show = open_cue.show; hide = open_cue.hide; kind = IsOfKind-colours cue.kind cue.hide cue.runs colours window open_cue.kind at.formed })
    (λ h is are. second_of b.head h second is _))))

-- what the next record passed: its kind may stand here
pub next_passed : (P : Type 0) (b more : Begun) (r : Record) → next b r ≡ Ok more
    → ((k : RecordKind) → record_kind_of (field r 0) ≡ Some k → may_stand b k ≡ true → adds b k r ≡ Ok more → P) → P
next_passed P b more r taken rest =
    with_value P (record_kind_of (field r 0)) (λ failed. let q = rw failed at taken in cc) (λ k is_kind.
    let (may, added) = passed_on (standing_judgement b k) b (λ b. adds b k r) more (rw is_kind at taken) in
    rest k is_kind may added)

-- a record more leaves a begun list
pub IsBegun-next : (b more : Begun) (r : Record) → IsBegun b → next b r ≡ Ok more → IsBegun more
IsBegun-next b more r begun taken = next_passed _ b more r taken (λ k is_kind may added. IsBegun-adds b more k r begun may added)
