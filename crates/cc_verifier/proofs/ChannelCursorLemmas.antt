-- What a cursor that stands at a frame tells: the cues whose SHOW has come, and whether the frame is settled.
use Rattle.std.proofs.Common.{◌≡◌, ℕ, ◌<◌, ◌≤◌, Bool, true, false, cond, List, [], ◌∷◌, ◌++◌, length, take, drop, reverse, refl, sym, ap, ◌∙◌, subst, arith, get_or, append_assoc, suc, zero}
use Rattle.std.specs.Prelude.{Option, Some, None, IfSome, slice_get, nat_le, nat_lt, ◌||◌, if◌then◌else◌}
use Rattle.std.specs.List.{All, Contains}
use Rattle.std.proofs.lemmas.List.{append-nil, reverse-append, take-append-drop}
use Rattle.std.proofs.lemmas.List.Elements.{filter-append, All-append, All-cons, All-contains, All-nil, Contains-append_right}
use Rattle.std.proofs.lemmas.Option.{slice_get_past, slice_get_read}
use Rattle.std.proofs.lemmas.Bool.{ltb-false, ltb-true}
use Rattle.line21_codes.specs.declared.channels.Chan.{Chan}
use Rattle.cue_types.specs.Channels.{cues_on, is_on}
use Rattle.cue_types.specs.Lane.{is_pop}
use Rattle.cue_types.specs.declared.cue.Cue.{Cue}
use Rattle.cue_lists.specs.AuthoredGrid.{IsSettled, IsSettledFor, shown_by}
use Rattle.cc_verifier.specs.ChannelCursors.{HasCome, IsToCome, StandsAtFrame}
use Rattle.cc_verifier.specs.ChannelNewest.{newest}
use Rattle.cc_verifier.specs.ChannelTimes.{AreCuesTimed}
use Rattle.cc_verifier.specs.declared.channel_cursor.ChannelCursor.{ChannelCursor}

-- the SHOW has come
not_come : (frame : ℕ) (cue : Cue) → frame < cue.show → nat_le cue.show frame ≡ false
not_come frame cue later = grind arith

has_come : (frame : ℕ) (cue : Cue) → cue.show ≤ frame → nat_le cue.show frame ≡ true
has_come frame cue come = grind arith

-- later cues are passed over
skip_one : (frame : ℕ) (cue : Cue) (earlier : List Cue) → frame < cue.show → shown_by frame (cue ∷ earlier) ≡ shown_by frame earlier
skip_one frame cue earlier later =
    ap (λ b. if b then cue ∷ earlier else shown_by frame earlier) (not_come frame cue later)

reverse_front : (cue : Cue) (later earlier : List Cue) → reverse (cue ∷ later) ++ earlier ≡ reverse later ++ (cue ∷ earlier)
reverse_front cue later earlier =
    ap (λ xs. xs ++ earlier) (reverse-append (cue ∷ []) later) ∙ append_assoc (reverse later) (cue ∷ []) earlier

pub skip_later : (frame from : ℕ) (later earlier : List Cue) → frame ≤ from → AreCuesTimed from later
    → shown_by frame (reverse later ++ earlier) ≡ shown_by frame earlier
skip_later frame from [] earlier le timed = refl
skip_later frame from (cue ∷ later) earlier le timed =
    let loaded : from ≤ cue.load = timed.0 in
    let shown : cue.load < cue.show = timed.1 in
    let after : frame < cue.show = omega arith in
    ap (shown_by frame) (reverse_front cue later earlier)
    ∙ skip_later frame cue.show later (cue ∷ earlier) (omega arith) timed.2
    ∙ skip_one frame cue earlier after

-- cues that have come are shown
pub come_shown : (frame : ℕ) (earlier : List Cue) → HasCome frame earlier → shown_by frame earlier ≡ earlier
come_shown frame [] come = refl
come_shown frame (cue ∷ earlier) come =
    ap (λ b. if b then cue ∷ earlier else shown_by frame earlier) (has_come frame cue come.0)

-- they have come at a later frame too
pub come_later : (former frame : ℕ) (earlier : List Cue) → former ≤ frame → HasCome former earlier → HasCome frame earlier
come_later former frame [] le come = tt
come_later former frame (cue ∷ earlier) le come =
    let now : cue.show ≤ former = come.0 in
    (omega arith, come_later former frame earlier le come.1)

-- times after some cues
pub record TimedFrom (cues : List Cue) : Type 0 where
  pub from : ℕ
  pub timed : AreCuesTimed from cues

timed_behind : (from : ℕ) (front cues : List Cue) → AreCuesTimed from (front ++ cues) → TimedFrom cues
timed_behind from [] cues timed = record { from = from; timed = timed }
timed_behind from (cue ∷ front) cues timed = timed_behind cue.show front cues timed.2

-- the cues on a channel are those among the first cues, and those after
split_on : (channel : Chan) (cues : List Cue) (n : ℕ) → cues_on channel cues ≡ cues_on channel (take n cues) ++ cues_on channel (drop n cues)
split_on channel cues n =
    ap (cues_on channel) (sym (take-append-drop n cues)) ∙ filter-append (λ (c : Cue). is_on channel c.kind) (take n cues) (drop n cues)

timed_rest : (channel : Chan) (cues : List Cue) (n : ℕ) → AreCuesTimed 0 (cues_on channel cues) → TimedFrom (cues_on channel (drop n cues))
timed_rest channel cues n timed =
    timed_behind 0 (cues_on channel (take n cues)) (cues_on channel (drop n cues)) (subst (AreCuesTimed 0) (split_on channel cues n) timed)

-- the next cue is the first of the rest
next_of : (n : ℕ) (cues : List Cue) → slice_get cues n ≡ slice_get (drop n cues) 0
next_of zero cues = refl
next_of (suc n) [] = refl
next_of (suc n) (cue ∷ cues) = next_of n cues

first_on : (channel : Chan) (cue : Cue) (later : List Cue) → is_on channel cue.kind ≡ true → cues_on channel (cue ∷ later) ≡ cue ∷ cues_on channel later
first_on channel cue later on = ap (λ b. cond b (cue ∷ cues_on channel later) (cues_on channel later)) on

-- none of the rest has come
rest_to_come : (channel : Chan) (frame : ℕ) (rest earlier : List Cue) → TimedFrom (cues_on channel rest)
    → IfSome (slice_get rest 0) (IsToCome channel frame)
    → shown_by frame (reverse (cues_on channel rest) ++ earlier) ≡ shown_by frame earlier
rest_to_come channel frame [] earlier timed next = refl
rest_to_come channel frame (cue ∷ later) earlier timed next =
    let on = first_on channel cue later next.on in
    let times = subst (AreCuesTimed timed.from) on timed.timed in
    let after : frame < cue.show = next.later in
    ap (λ (xs : List Cue). shown_by frame (reverse xs ++ earlier)) on
    ∙ ap (shown_by frame) (reverse_front cue (cues_on channel later) earlier)
    ∙ skip_later frame cue.show (cues_on channel later) (cue ∷ earlier) (omega arith) times.2
    ∙ skip_one frame cue earlier after

-- the cues whose SHOW has come are those before the cursor
pub shown_is : (cues : List Cue) (frame : ℕ) (cursor : ChannelCursor) → AreCuesTimed 0 (cues_on cursor.channel cues) → StandsAtFrame cues frame cursor
    → shown_by frame (reverse (cues_on cursor.channel cues)) ≡ newest cursor.channel cues cursor.next
shown_is cues frame cursor timed stands =
    let channel = cursor.channel in
    let n = cursor.next in
    let rest = cues_on channel (drop n cues) in
    let next = subst (λ (o : Option Cue). IfSome o (IsToCome channel frame)) (next_of n cues) stands.next in
    ap (λ (xs : List Cue). shown_by frame (reverse xs)) (split_on channel cues n)
    ∙ ap (shown_by frame) (reverse-append (cues_on channel (take n cues)) rest)
    ∙ rest_to_come channel frame (drop n cues) (newest channel cues n) (timed_rest channel cues n timed) next
    ∙ come_shown frame (newest channel cues n) stands.passed.come

-- cues that have come are settled
settled_back : (frame : ℕ) (cues earlier : List Cue) → HasCome frame (reverse cues ++ earlier) → All (IsSettledFor frame) cues × HasCome frame earlier
settled_back frame [] earlier come = (All-nil (IsSettledFor frame), come)
settled_back frame (cue ∷ cues) earlier come =
    let rest = settled_back frame cues (cue ∷ earlier) (subst (HasCome frame) (reverse_front cue cues earlier) come) in
    let now : cue.show ≤ frame = rest.1.0 in
    (All-cons (IsSettledFor frame) cue cues (λ written load. now) rest.0, rest.1.1)

-- and so are cues that load later
settled_later : (frame from : ℕ) (cues : List Cue) → frame < from → AreCuesTimed from cues → All (IsSettledFor frame) cues
settled_later frame from [] lt timed = All-nil (IsSettledFor frame)
settled_later frame from (cue ∷ cues) lt timed =
    let loaded : from ≤ cue.load = timed.0 in
    let shown : cue.load < cue.show = timed.1 in
    All-cons (IsSettledFor frame) cue cues (λ written (load : cue.load ≤ frame). omega arith)
    (settled_later frame cue.show cues (omega arith) timed.2)

-- what decides whether a frame is settled
abbrev pub settles : ℕ → Option Cue → Bool
settles frame None = true
settles frame (Some cue) = is_pop cue.kind || nat_lt frame cue.load

settled_one : (frame : ℕ) (cue : Cue) (pop before : Bool) → is_pop cue.kind ≡ pop → nat_lt frame cue.load ≡ before → (pop || before) ≡ true → IsSettledFor frame cue
settled_one frame cue true before is lt holds = λ written load. cc
settled_one frame cue false true is lt holds = λ written (load : cue.load ≤ frame). let h : frame < cue.load = ltb-true frame cue.load lt in omega arith
settled_one frame cue false false is lt holds = cc

unsettled_one : (frame : ℕ) (cue : Cue) (pop before : Bool) → is_pop cue.kind ≡ pop → nat_lt frame cue.load ≡ before → (pop || before) ≡ false
    → frame < cue.show → IsSettledFor frame cue → ⊥
unsettled_one frame cue true before is lt holds later settled = cc
unsettled_one frame cue false true is lt holds later settled = cc
unsettled_one frame cue false false is lt holds later settled =
    let load : cue.load ≤ frame = ltb-false frame cue.load lt in
    let shown : cue.show ≤ frame = settled is load in
    omega arith

settled_rest : (channel : Chan) (frame : ℕ) (rest : List Cue) → TimedFrom (cues_on channel rest)
    → IfSome (slice_get rest 0) (IsToCome channel frame) → settles frame (slice_get rest 0) ≡ true
    → All (IsSettledFor frame) (cues_on channel rest)
settled_rest channel frame [] timed next holds = All-nil (IsSettledFor frame)
settled_rest channel frame (cue ∷ later) timed next holds =
    let on = first_on channel cue later next.on in
    let times = subst (AreCuesTimed timed.from) on timed.timed in
    let after : frame < cue.show = next.later in
    subst (All (IsSettledFor frame)) (sym on)
    (All-cons (IsSettledFor frame) cue (cues_on channel later)
    (settled_one frame cue (is_pop cue.kind) (nat_lt frame cue.load) refl refl holds)
    (settled_later frame cue.show (cues_on channel later) after times.2))

contains_head : (cue : Cue) (later : List Cue) → Contains (cue ∷ later) cue
contains_head cue later = let some : 0 < length (cue ∷ later) = omega arith in (0, some, refl)

unsettled_rest : (channel : Chan) (frame : ℕ) (front rest : List Cue)
    → IfSome (slice_get rest 0) (IsToCome channel frame) → settles frame (slice_get rest 0) ≡ false
    → All (IsSettledFor frame) (front ++ cues_on channel rest) → ⊥
unsettled_rest channel frame front [] next holds all = cc
unsettled_rest channel frame front (cue ∷ later) next holds all =
    let on = first_on channel cue later next.on in
    let all' = subst (λ (xs : List Cue). All (IsSettledFor frame) (front ++ xs)) on all in
    unsettled_one frame cue (is_pop cue.kind) (nat_lt frame cue.load) refl refl holds next.later
    (All-contains (IsSettledFor frame) (front ++ cue ∷ cues_on channel later) cue all'
    (Contains-append_right front (cue ∷ cues_on channel later) cue (contains_head cue (cues_on channel later))))

pub is_settled_at : (cues : List Cue) (frame : ℕ) (cursor : ChannelCursor) → AreCuesTimed 0 (cues_on cursor.channel cues) → StandsAtFrame cues frame cursor
    → settles frame (slice_get cues cursor.next) ≡ true → IsSettled cursor.channel cues frame
is_settled_at cues frame cursor timed stands holds =
    let channel = cursor.channel in
    let n = cursor.next in
    let next = subst (λ (o : Option Cue). IfSome o (IsToCome channel frame)) (next_of n cues) stands.next in
    let holds' = ap (settles frame) (sym (next_of n cues)) ∙ holds in
    let front = settled_back frame (cues_on channel (take n cues)) []
    (subst (HasCome frame) (sym (append-nil (newest channel cues n))) stands.passed.come) in
    subst (All (IsSettledFor frame)) (sym (split_on channel cues n))
    (All-append (IsSettledFor frame) (cues_on channel (take n cues)) (cues_on channel (drop n cues)) front.0
    (settled_rest channel frame (drop n cues) (timed_rest channel cues n timed) next holds'))

pub is_unsettled_at : (cues : List Cue) (frame : ℕ) (cursor : ChannelCursor) → StandsAtFrame cues frame cursor
    → settles frame (slice_get cues cursor.next) ≡ false → IsSettled cursor.channel cues frame → ⊥
is_unsettled_at cues frame cursor stands holds settled =
    let channel = cursor.channel in
    let n = cursor.next in
    let next = subst (λ (o : Option Cue). IfSome o (IsToCome channel frame)) (next_of n cues) stands.next in
    let holds' = ap (settles frame) (sym (next_of n cues)) ∙ holds in
    unsettled_rest channel frame (cues_on channel (take n cues)) (drop n cues) next holds'
    (subst (All (IsSettledFor frame)) (split_on channel cues n) settled)

-- the next cue decides
pub settles_next : (cues : List Cue) (n frame : ℕ) (cue : Cue) → true ≡ nat_lt n (length cues) → cue ≡ get_or cues n cue
    → settles frame (slice_get cues n) ≡ (is_pop cue.kind || nat_lt frame cue.load)
settles_next cues n frame cue within read =
    ap (settles frame) (slice_get_read cues (length cues) n cue refl (ltb-true n (length cues) (sym within)) read)

pub settles_last : (cues : List Cue) (n frame : ℕ) → false ≡ nat_lt n (length cues) → settles frame (slice_get cues n) ≡ true
settles_last cues n frame past = ap (settles frame) (slice_get_past cues n (ltb-false n (length cues) (sym past)))
