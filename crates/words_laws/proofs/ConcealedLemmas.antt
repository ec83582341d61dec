-- What `conceal` answers the words of frames that came, and what it puts.
use Rattle.std.proofs.Common.{◌≡◌, ◌∙◌, ◌++◌, ◌∷◌, ◌+◌, ◌*◌, ◌<◌, ◌≤◌, ◌⊎◌, ap, arith, inl, inr, length, length-append, refl, subst, ℕ, List, []}
use Rattle.std.specs.Io.KnownBytes.{Appends, Keeps}
use Rattle.std.specs.List.{AllByRecursion}
use Rattle.cdp_packets.specs.Packets.{Frame}
use Rattle.command_base.proofs.ExactLemmas.{exact}
use Rattle.command_base.specs.Counts.{IsSideOf}
use Rattle.command_base.specs.Realises.{PutsSaid, no_side}
use Rattle.command_base.specs.declared.status.Status.TheVariants as status
use Rattle.cue_lists.specs.Listing.{IsFormed, Listing}
use Rattle.cue_lists.specs.declared.lane.Lane.TheVariants.{Service}
use Rattle.cue_list_commands.proofs.RoomLemmas.{frames_roomy}
use Rattle.cue_list_commands.specs.Carried.{AreRoomy}
use Rattle.cue_list_commands.specs.Carrying.{channel_packet_of, frame_bytes}
use Rattle.cue_list_commands.specs.Planned.{Placement, columns_of}
use Rattle.services_files.specs.CaptionChannel.{caption_channel}
use Rattle.words_commands.proofs.VerdictLemmas.{changes_one}
use Rattle.words_commands.specs.ConcealedScreens.{conceal_output, next_concealed}
use Rattle.words_commands.specs.Verdicts.{ChangesVerdict}
use Rattle.words_files.proofs.FramesOfLemmas.{file_frames, frames_of_once}
use Rattle.words_files.specs.Offences.{IsFileUnder}
use Rattle.lost.proofs.WordsLemmas.{came_words}
use Rattle.lost.specs.Delivered.{AreDelivered, delivered_bytes, delivered_packets}
use Rattle.words_laws.proofs.SizeLemmas.{columns_size}
use Rattle.words_laws.specs.SeenAgain.{DeliveredIsConcealed, IsConcealed}

-- frames in order are no more than the frames of their list
few_came : (k n : ℕ) (others : List ℕ) → AreDelivered (k ∷ others) → AllByRecursion (λ (frame : ℕ). frame < n) (k ∷ others) → k + length (k ∷ others) ≤ n
few_came k n [] delivered below = let here : k < n = below.0 in omega arith
few_came k n (l ∷ others) delivered below =
    let next : k < l = delivered.0 in
    let rest : l + length (l ∷ others) ≤ n = few_came l n others delivered.2 below.1 in
    omega arith

all_came : (n : ℕ) (came : List ℕ) → AreDelivered came → AllByRecursion (λ (frame : ℕ). frame < n) came → length came ≤ n
all_came n [] delivered below = omega arith
all_came n (k ∷ others) delivered below = let few = few_came k n others delivered below in omega arith

-- each has at most 190 bytes
delivered_size : (list : Listing) (placed : Placement) (came : List ℕ) → AreRoomy list.rate (columns_of list placed)
    → length (delivered_bytes list placed came) ≤ 190 * length came
delivered_size list placed [] roomy = omega arith
delivered_size list placed (k ∷ came) roomy =
    let own : List ℕ = frame_bytes list.rate k (columns_of list placed k) (channel_packet_of (columns_of list placed) k) in
    let here : length (own ++ []) ≤ 190 * 1 = columns_size list.rate (columns_of list placed) k 1 roomy in
    let alone = length-append own [] in
    let rest = delivered_size list placed came roomy in
    let all = length-append own (delivered_bytes list placed came) in
    omega (arith, here, alone, rest, all)

-- what `conceal` makes of a file with Ok is what is shown of its frames
text_made : (bytes text : List ℕ) (frames : List Frame) → IsFileUnder caption_channel frames bytes → ChangesVerdict next_concealed bytes status.Ok text
    → text ≡ conceal_output frames
text_made bytes text frames file (inl (few, (others, again, is))) =
    is
    ∙ ap conceal_output
    (frames_of_once caption_channel others frames bytes (file_frames caption_channel others bytes again) (file_frames caption_channel frames bytes file))
text_made bytes text frames file (inr (inl refused)) = absurd refused.0
text_made bytes text frames file (inr (inr (judged, rest, spelled, few, halts))) = absurd halts

-- `conceal` has no side file
no_side_read : IsSideOf [] no_side no_side
no_side_read = record { left = refl; faults = λ rose. let none : 1 ≤ 0 = rose in omega (arith, none) }

pub delivered_answered : DeliveredIsConcealed
delivered_answered bytes list placed came old new answer accepted delivered below read answered =
    let formed : IsFormed list = accepted.good.spelled.formed in
    let words : List ℕ = delivered_bytes list placed came in
    let frames : List Frame = delivered_packets list placed came in
    let file : IsFileUnder caption_channel frames words = came_words list placed formed accepted.good.ruled accepted.placement came in
    let most : list.frames ≤ 1000000 = formed.frames in
    let few : length came ≤ list.frames = all_came list.frames came delivered below in
    let size = delivered_size list placed came (frames_roomy list placed formed accepted.good.ruled (λ service. accepted.placement (Service service))) in
    by_answer file
    (exact (λ aside. ChangesVerdict next_concealed) (changes_one next_concealed) [] words status.Ok (conceal_output frames) no_side no_side old new answer
    (λ fault. fault)
    (inl (omega (arith, most, few, size), (frames, file, refl))) no_side_read read answered)
  where
    by_answer : IsFileUnder caption_channel (delivered_packets list placed came) (delivered_bytes list placed came)
        → ((answer ≡ status.Memory) × Keeps old.written new.written)
        ⊎ ((answer ≡ status.Ok) × PutsSaid (λ aside. ChangesVerdict next_concealed) [] (delivered_bytes list placed came) old new status.Ok)
        → IsConcealed (delivered_packets list placed came) old new answer
    by_answer file (inl memory) = inr memory.0
    by_answer file (inr (ok, (text, says, put))) =
        inl (
          ok,
          subst (Appends old.written new.written) (text_made (delivered_bytes list placed came) text (delivered_packets list placed came) file says) put,
        )
