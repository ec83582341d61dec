-- Between crates: the program's answer stands on none of these definitions.
-- Rule DelayCovers: while a service waits for a delay of one cue to end, it gets no event of another cue.
use Rattle.std.specs.Prelude.{ℕ, ◌==◌, ◌&&◌, ◌||◌, nat_lt, Bool, false, List, [], ◌∷◌, Option, Some, None}
use Rattle.std.specs.List.{list_any}
use Rattle.cc_base.specs.declared.rate.Rate.{Rate}
use Rattle.cue_types.specs.declared.cue.Cue.{Cue}
use Rattle.cue_types.specs.declared.cue.Kind.{Kind}
use Rattle.cue_types.specs.declared.cue.Kind.TheVariants as kind
use Rattle.cue_lists.specs.Rules.Alternatives.{Alternative, with_earlier}
use Rattle.cue_lists.specs.Rules.Delay.{delay_start, event_frames}
use Rattle.cue_lists.specs.Rules.Former.{nearest_number}

-- two window cues of one service
abbrev pub same_service : Kind → Kind → Bool
same_service (kind.Win a) (kind.Win b) = a.service == b.service
same_service (kind.Win a) (kind.Pop c) = false
same_service (kind.Win a) (kind.Paint c) = false
same_service (kind.Win a) (kind.Roll c n) = false
same_service (kind.Pop c) b = false
same_service (kind.Paint c) b = false
same_service (kind.Roll c n) b = false

-- the same delay start
abbrev pub same_start : Option ℕ → Option ℕ → Bool
same_start None b = false
same_start (Some a) None = false
same_start (Some a) (Some b) = a == b

-- one of the frames lies strictly between the delay start and the SHOW
abbrev pub delay_has : Option ℕ → ℕ → List ℕ → Bool
delay_has None show frames = false
delay_has (Some start) show frames = list_any (λ frame. nat_lt start frame && nat_lt frame show) frames

-- two cues of one service have the same delay start; or an event frame of one lies in the delay of the other
abbrev pub delays_cross : Rate → Cue → Cue → Bool
delays_cross rate cue other =
    same_service cue.kind other.kind
    && (same_start (delay_start rate cue) (delay_start rate other)
    || delay_has (delay_start rate cue) cue.show (event_frames rate other)
    || delay_has (delay_start rate other) other.show (event_frames rate cue))

-- the way to break the rule
abbrev pub delay_covers : Rate → Cue → List Cue → List Alternative
delay_covers rate cue earlier = with_earlier (nearest_number (delays_cross rate cue) earlier) ∷ []
