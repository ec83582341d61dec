-- What lines tell, one after another: the time code rate, the last frame, and the packets.
use Rattle.std.proofs.Common.{◌≡◌, ℕ, List, [], ◌∷◌, ◌++◌, append_assoc, append-nil, Option, Some, None, Ok, refl, ap, sym, ◌∙◌, subst, unwrap_or}
use Rattle.time_codes.specs.declared.counting.Counting.{Counting}
use Rattle.mcc_files.specs.Lines.{Line, attribute, nothing, packet, rate}
use Rattle.mcc_files.specs.MccFiles.{Say, SayCounted, SayPackets, TimedPackets, frame_after}

pub record Told : Type 0 where
  pub count : Option Counting
  pub last : Option ℕ
  pub placed : TimedPackets

abbrev pub told_nothing : Told
told_nothing = record { count = None; last = None; placed = [] }

-- what a line tells after others
abbrev pub Tells : Told → Line → Told → Type 0
Tells t nothing u = u ≡ t
Tells t attribute u = (t.last ≡ None) × (u ≡ t)
Tells t (rate count) u = (t.last ≡ None) × (t.count ≡ None) × (u ≡ record t { count = Some count })
Tells t (packet time payload) u =
    (count : Counting) × (frame : ℕ) × (t.count ≡ Some count) × (frame_after count (unwrap_or t.last 0) time ≡ Ok frame)
    × (u ≡ record t { last = Some frame; placed = t.placed ++ (frame, payload) ∷ [] })

abbrev pub TellAll : Told → List Line → Told → Type 0
TellAll t [] u = t ≡ u
TellAll t (line ∷ lines) u = (next : Told) × Tells t line next × TellAll next lines u

-- one line more
pub tell_more : (lines : List Line) (t u : Told) (line : Line) (w : Told) → TellAll t lines u → Tells u line w → TellAll t (lines ++ line ∷ []) w
tell_more [] t u line w same tells = (w, subst (λ (x : Told). Tells x line w) (sym same) tells, refl)
tell_more (first ∷ lines) t u line w (next, tells, more) tells' = (next, tells, tell_more lines next u line w more tells')

-- what is said is told
pub record TellPlaced (t : Told) (lines : List Line) (placed : TimedPackets) : Type 0 where
  pub to : Told
  pub tell : TellAll t lines to
  pub all : to.placed ≡ placed

pub packets_told : (lines : List Line) (count : Counting) (last : ℕ) (rest before : TimedPackets) → SayPackets count last lines rest
    → TellPlaced (record { count = Some count; last = Some last; placed = before }) lines (before ++ rest)
packets_told [] count last rest before say =
    record { to = record { count = Some count; last = Some last; placed = before }; tell = refl; all = sym (append-nil before) ∙ ap (λ r. before ++ r) (sym say) }
packets_told (nothing ∷ lines) count last rest before say =
    let t = packets_told lines count last rest before say in
    record { to = t.to; tell = (record { count = Some count; last = Some last; placed = before }, refl, t.tell); all = t.all }
packets_told (attribute ∷ lines) count last rest before say = absurd say
packets_told (rate other ∷ lines) count last rest before say = absurd say
packets_told (packet time payload ∷ lines) count last rest before (frame, rest', framed, say, spelled) =
    let t = packets_told lines count frame rest' (before ++ (frame, payload) ∷ []) say in
    record {
      to = t.to;
      tell = (record { count = Some count; last = Some frame; placed = before ++ (frame, payload) ∷ [] }, (count, frame, refl, framed, refl), t.tell);
      all = t.all ∙ (append_assoc before ((frame, payload) ∷ []) rest' ∙ ap (λ r. before ++ r) (sym spelled));
    }

pub counted_told : (lines : List Line) (count : Counting) (rest : TimedPackets) → SayCounted count lines rest
    → TellPlaced (record { count = Some count; last = None; placed = [] }) lines rest
counted_told [] count rest say = record { to = record { count = Some count; last = None; placed = [] }; tell = refl; all = sym say }
counted_told (nothing ∷ lines) count rest say =
    let t = counted_told lines count rest say in
    record { to = t.to; tell = (record { count = Some count; last = None; placed = [] }, refl, t.tell); all = t.all }
counted_told (attribute ∷ lines) count rest say =
    let t = counted_told lines count rest say in
    record { to = t.to; tell = (record { count = Some count; last = None; placed = [] }, (refl, refl), t.tell); all = t.all }
counted_told (rate other ∷ lines) count rest say = absurd say
counted_told (packet time payload ∷ lines) count rest (frame, rest', framed, say, spelled) =
    let t = packets_told lines count frame rest' ((frame, payload) ∷ []) say in
    record {
      to = t.to;
      tell = (record { count = Some count; last = Some frame; placed = (frame, payload) ∷ [] }, (count, frame, refl, framed, refl), t.tell);
      all = t.all ∙ sym spelled;
    }

pub say_told : (lines : List Line) (rest : TimedPackets) → Say lines rest → TellPlaced told_nothing lines rest
say_told [] rest say = record { to = told_nothing; tell = refl; all = sym say }
say_told (nothing ∷ lines) rest say = let t = say_told lines rest say in record { to = t.to; tell = (told_nothing, refl, t.tell); all = t.all }
say_told (attribute ∷ lines) rest say = let t = say_told lines rest say in record { to = t.to; tell = (told_nothing, (refl, refl), t.tell); all = t.all }
say_told (rate count ∷ lines) rest say =
    let t = counted_told lines count rest say in
    record { to = t.to; tell = (record { count = Some count; last = None; placed = [] }, (refl, refl, refl), t.tell); all = t.all }
say_told (packet time payload ∷ lines) rest say = absurd say

-- what is told is said
pub record SaidPackets (lines : List Line) (count : Counting) (last : ℕ) (before : TimedPackets) (to : Told) : Type 0 where
  pub rest : TimedPackets
  pub say : SayPackets count last lines rest
  pub all : to.placed ≡ before ++ rest

pub none_is_some : {A : Type 0} (x : A) → ◌≡◌ {A = Option A} None (Some x) → ⊥
none_is_some x is = cc

pub some_same : {A : Type 0} (x y : A) → Some x ≡ Some y → x ≡ y
some_same x y is = cc

pub told_packets : (lines : List Line) (count : Counting) (last : ℕ) (before : TimedPackets) (to : Told)
    → TellAll (record { count = Some count; last = Some last; placed = before }) lines to → SaidPackets lines count last before to
told_packets [] count last before to tell = record { rest = []; say = refl; all = ap (λ x. x.placed) (sym tell) ∙ sym (append-nil before) }
told_packets (nothing ∷ lines) count last before to (next, same, tell) =
    let s = told_packets lines count last before to (subst (λ (x : Told). TellAll x lines to) same tell) in
    record { rest = s.rest; say = s.say; all = s.all }
told_packets (attribute ∷ lines) count last before to (next, (some, same), tell) = absurd (none_is_some last (sym some))
told_packets (rate other ∷ lines) count last before to (next, (some, none, same), tell) = absurd (none_is_some last (sym some))
told_packets (packet time payload ∷ lines) count last before to (next, (count', frame, count_is, framed, same), tell) =
    let framed' : frame_after count last time ≡ Ok frame = subst (λ (c : Counting). frame_after c last time ≡ Ok frame) (sym (some_same count count' count_is)) framed in
    let s = told_packets lines count frame (before ++ (frame, payload) ∷ []) to (subst (λ (x : Told). TellAll x lines to) same tell) in
    record {
      rest = (frame, payload) ∷ s.rest;
      say = (frame, s.rest, framed', s.say, refl);
      all = s.all ∙ append_assoc before ((frame, payload) ∷ []) s.rest;
    }

pub told_counted : (lines : List Line) (count : Counting) (to : Told) → TellAll (record { count = Some count; last = None; placed = [] }) lines to → SayCounted count lines to.placed
told_counted [] count to tell = ap (λ x. x.placed) (sym tell)
told_counted (nothing ∷ lines) count to (next, same, tell) = told_counted lines count to (subst (λ (x : Told). TellAll x lines to) same tell)
told_counted (attribute ∷ lines) count to (next, (none, same), tell) = told_counted lines count to (subst (λ (x : Told). TellAll x lines to) same tell)
told_counted (rate other ∷ lines) count to (next, (last, some, same), tell) = absurd (none_is_some count (sym some))
told_counted (packet time payload ∷ lines) count to (next, (count', frame, count_is, framed, same), tell) =
    let framed' : frame_after count 0 time ≡ Ok frame = subst (λ (c : Counting). frame_after c 0 time ≡ Ok frame) (sym (some_same count count' count_is)) framed in
    let s = told_packets lines count frame ((frame, payload) ∷ []) to (subst (λ (x : Told). TellAll x lines to) same tell) in
    (frame, s.rest, framed', s.say, s.all)

pub told_say : (lines : List Line) (to : Told) → TellAll told_nothing lines to → Say lines to.placed
told_say [] to tell = ap (λ x. x.placed) (sym tell)
told_say (nothing ∷ lines) to (next, same, tell) = told_say lines to (subst (λ (x : Told). TellAll x lines to) same tell)
told_say (attribute ∷ lines) to (next, (none, same), tell) = told_say lines to (subst (λ (x : Told). TellAll x lines to) same tell)
told_say (rate count ∷ lines) to (next, (last, none, same), tell) = told_counted lines count to (subst (λ (x : Told). TellAll x lines to) same tell)
told_say (packet time payload ∷ lines) to (next, (count, frame, some, framed, same), tell) = absurd (none_is_some count some)
