-- A live builder continues: with a longer list, and to its next frame.
use Rattle.std.proofs.Common.{◌≡◌, ◌∙◌, ◌+◌, ◌-◌, ◌<◌, ◌≤◌, ◌++◌, [], ◌∷◌, length, ap, sym, refl, subst, ℕ, List, add-one, arith, append-nil}
use Rattle.std.specs.Prelude.{Option, Some, None, IfNone, IfSome, MatchOption, Ok}
use Rattle.cc_base.specs.declared.rate.Rate.{Rate}
use Rattle.std.proofs.lemmas.List.Elements.{All-cons, All-nil}
use Rattle.cue_lists.specs.Cues.{IsCueFormed}
use Rattle.cue_lists.specs.Listing.{IsFormed, Listing, most_cues}
use Rattle.cue_types.proofs.FormedLemmas.{formed_push}
use Rattle.live_frames.specs.LeftOut.{list_with}
use Rattle.cue_lists.specs.Rules.{IsRuled}
use Rattle.cue_lists.specs.declared.cue.Cue.{Cue}
use Rattle.frame_carrier.specs.Carrying.{IsAt, channel_packet, channel_packet_of, column_bytes, frame_bytes, packet_count, packets_before}
use Rattle.frame_carrier.specs.declared.carrier.Carrier.{Carrier}
use Rattle.frame_carrier.specs.Columns.{Columns}
use Rattle.frame_carrier.specs.Frames.{GivesFrom, PlanAnswer, frames_left}
use Rattle.frame_carrier.specs.Planned.{IsListPlaced, Placement, columns_of}
use Rattle.frame_carrier.specs.FrameBytes.{FrameBytes}
use Rattle.frame_carrier.specs.Plan.{Plan}
use Rattle.live_frames.specs.LaneFronts.{AreLoadedFrom}
use Rattle.live_frames.specs.Longer.{IsPlacedLonger, longer}
use Rattle.live_frames.proofs.ColumnFronts.{frame_front_kept, packets_same, word_front_kept, words_parts}
use Rattle.live_frames.specs.Lives.{IsUnderWay}

-- what planning a list gave, and skipping the frames that were given already
pub record Planned (list : Listing) (frame : ℕ) (plan : Plan) : Type 0 where
  pub placed : Placement
  pub placement : IsListPlaced list placed
  pub gives : GivesFrom (columns_of list placed) frame plan
  pub left : frame + frames_left plan ≡ list.frames

taken_longer : (words : List ℕ) (former own : Listing) (more : List Cue) (old plan : Plan) (carrier : Carrier) (frame : ℕ) → IsFormed (longer former former.frames more)
    → IsRuled (longer former former.frames more) → IsUnderWay words former own old carrier frame → AreLoadedFrom frame more
    → Planned (longer former former.frames more) frame plan
    → IsUnderWay words (longer former former.frames more) (longer former former.frames more) plan carrier frame
taken_longer words former own more old plan carrier frame formed ruled has loaded planned =
    let before = columns_of former has.placed in
    let after = columns_of (longer former former.frames more) planned.placed in
    let both : IsPlacedLonger former former.frames more has.placed planned.placed frame = record {
      formed = formed;
      ruled = ruled;
      loaded = loaded;
      placement = has.placement;
      longer_placement = planned.placement;
    } in
    record {
      list_is = refl;
      ruled = ruled;
      placed = planned.placed;
      placement = planned.placement;
      gives = planned.gives;
      left = planned.left;
      at = subst (λ (k : ℕ). IsAt former.rate frame k carrier)
          (packets_same former.rate before after frame
          (frame_front_kept former former.frames more has.placed planned.placed frame both)
          frame (omega arith)) has.at;
      words_are = has.words_are
          ∙ word_front_kept former former.frames more has.placed planned.placed frame both frame (omega arith);
    }

-- a longer list that is planned is taken: what was given is given of it
pub taken : (words : List ℕ) (former own list : Listing) (more : List Cue) (old plan : Plan) (carrier : Carrier) (frame : ℕ) → IsFormed list → IsRuled list
    → IsUnderWay words former own old carrier frame → list ≡ longer former former.frames more → AreLoadedFrom frame more → Planned list frame plan
    → IsUnderWay words list list plan carrier frame
taken words former own list more old plan carrier frame formed ruled has is loaded planned =
    subst (λ (l : Listing). IsUnderWay words l l plan carrier frame) (sym is)
    (taken_longer words former own more old plan carrier frame (subst (λ (l : Listing). IsFormed l) is formed) (subst (λ (l : Listing). IsRuled l) is ruled) has loaded
    (subst (λ (l : Listing). Planned l frame plan) is planned))

-- the words of one frame more
pub stepped : (given words : List ℕ) (list own : Listing) (old plan : Plan) (before carrier : Carrier) (frame : ℕ) (pairs : FrameBytes)
    → IsUnderWay given list own old before frame → frames_left plan + 1 ≡ frames_left old
    → ((columns : Columns) (f : ℕ) → GivesFrom columns f old → (pairs ≡ columns f) × GivesFrom columns (f + 1) plan)
    → ((rate : Rate) (f count : ℕ) → IsAt rate f count before → words ≡ frame_bytes rate f pairs (channel_packet count pairs.blocks.items))
    → ((rate : Rate) (f count : ℕ) → IsAt rate f count before → IsAt rate (f + 1) (count + packet_count pairs.blocks.items) carrier)
    → IsUnderWay (given ++ words) list own plan carrier (frame + 1)
stepped given words list own old plan before carrier frame pairs has fewer gives carries moves =
    let columns = columns_of list has.placed in
    let (pairs_are, behind) = gives columns frame has.gives in
    let at = packets_before columns frame in
    let total : frame + frames_left old ≡ list.frames = has.left in
    let packets : at + packet_count pairs.blocks.items ≡ packets_before columns (frame + 1) =
    ap (λ (p : FrameBytes). at + packet_count p.blocks.items) pairs_are ∙ ap (packets_before columns) (sym (add-one frame)) in
    let words_is : words ≡ frame_bytes list.rate frame (columns frame) (channel_packet_of columns frame) =
    carries list.rate frame at has.at ∙ ap (λ (p : FrameBytes). frame_bytes list.rate frame p (channel_packet at p.blocks.items)) pairs_are in
    let here : 0 + frame ≡ frame = omega arith in
    let all : column_bytes list.rate columns 0 (frame + 1)
    ≡ column_bytes list.rate columns 0 frame ++ frame_bytes list.rate frame (columns frame) (channel_packet_of columns frame) =
    words_parts list.rate columns 0 frame 1
    ∙ ap (λ (f : ℕ). column_bytes list.rate columns 0 frame ++ column_bytes list.rate columns f 1) here
    ∙ ap (λ (l : List ℕ). column_bytes list.rate columns 0 frame ++ l)
    (append-nil (frame_bytes list.rate frame (columns frame) (channel_packet_of columns frame))) in
    let said : given ++ words ≡ column_bytes list.rate columns 0 (frame + 1) =
    ap (λ (l : List ℕ). l ++ words) has.words_are
    ∙ ap (λ (l : List ℕ). column_bytes list.rate columns 0 frame ++ l) words_is ∙ sym all in
    record {
      list_is = has.list_is;
      ruled = has.ruled;
      placed = has.placed;
      placement = has.placement;
      gives = behind;
      left = omega arith;
      at = subst (λ (n : ℕ). IsAt list.rate (frame + 1) n carrier) packets (moves list.rate frame at has.at);
      words_are = said;
    }

-- a plan that is skipped frame by frame
pub skip_left : (r : Option FrameBytes) (old new start counter : ℕ) → MatchOption r (old ≡ 0) (λ bytes. new + 1 ≡ old) → IfNone r (new ≡ 0)
    → old ≡ start - counter → new ≡ start - (counter + 1)
skip_left None old new start counter match ends is = omega arith
skip_left (Some bytes) old new start counter match ends is = omega arith

pub skip_gives : (r : Option FrameBytes) (columns : Columns) (counter : ℕ) (old new : Plan)
    → MatchOption r (frames_left old ≡ 0) (λ bytes. frames_left new + 1 ≡ frames_left old) → 0 < frames_left old
    → IfSome r (λ bytes. (bytes ≡ columns counter) × GivesFrom columns (counter + 1) new) → GivesFrom columns (counter + 1) new
skip_gives None columns counter old new match more gives = absurd (omega arith)
skip_gives (Some bytes) columns counter old new match more gives = gives.1

-- what planning and skipping give
pub planned_behind : (list : Listing) (frame : ℕ) (plan skipped : Plan) → PlanAnswer list (Ok plan) → frame ≤ list.frames
    → ((columns : Columns) → GivesFrom columns 0 plan → frame ≤ frames_left plan → GivesFrom columns frame skipped)
    → frames_left skipped ≡ frames_left plan - frame → Planned list frame skipped
planned_behind list frame plan skipped answer within gives left =
    let all : frames_left plan ≡ list.frames = answer.3 in
    record {
      placed = answer.0;
      placement = answer.1;
      gives = gives (columns_of list answer.0) answer.2 (omega arith);
      left = omega arith;
    }

-- a list with one cue more is taken
pub added : (words : List ℕ) (list own next : Listing) (cue : Cue) (old plan skipped : Plan) (carrier : Carrier) (frame : ℕ)
    → IsUnderWay words list own old carrier frame → IsFormed own → IsCueFormed cue → length own.cues < most_cues → next ≡ list_with own cue
    → IsRuled next → frame ≤ cue.load → PlanAnswer next (Ok plan)
    → ((columns : Columns) → GivesFrom columns 0 plan → frame ≤ frames_left plan → GivesFrom columns frame skipped)
    → frames_left skipped ≡ frames_left plan - frame → IsUnderWay words (list_with list cue) next skipped carrier frame
added words list own next cue old plan skipped carrier frame has formed whole few next_is ruled loaded answer gives left =
    let joined : next ≡ list_with list cue = next_is ∙ ap (λ (l : Listing). list_with l cue) has.list_is in
    let same : next.frames ≡ list.frames = ap (λ (l : Listing). l.frames) joined in
    let within : frame ≤ next.frames = omega (arith, has.left) in
    subst (λ (l : Listing). IsUnderWay words l next skipped carrier frame) joined
    (taken words list own next (cue ∷ []) old skipped carrier frame
    (subst (λ (l : Listing). IsFormed l) (sym next_is) (formed_push own cue (own.cues ++ cue ∷ []) formed whole few refl)) ruled has joined
    (All-cons (λ (c : Cue). frame ≤ c.load) cue [] loaded (All-nil (λ (c : Cue). frame ≤ c.load)))
    (planned_behind next frame plan skipped answer within gives left))
