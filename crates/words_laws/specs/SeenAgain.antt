-- Between crates: the program's answer stands on none of these definitions.
-- From the words that `build` puts of a cue list, of which a line loses whole frames, to the screens and the services of a concealing receiver
-- that is fed what arrives, and to what `conceal` answers and puts: what is authored is seen again.
use Rattle.std.specs.Prelude.{◌≡◌, ◌++◌, ◌<◌, ◌⊎◌, ℕ, suc, length, List, [], ◌∷◌, None}
use Rattle.std.specs.Io.KnownBytes.{Appends}
use Rattle.std.specs.List.{AllByRecursion, range_with_len}
use Rattle.cc_receiver.specs.Receivers.{receiver_refusal}
use Rattle.cue_lists.specs.Listing.{Listing}
use Rattle.cue_list_commands.specs.Planned.{Placement}
use Rattle.line21_codes.specs.declared.channels.FieldNumber.{FieldNumber}
use Rattle.cdp_packets.specs.Packets.{Frame}
use Rattle.command_base.specs.Counts.{IsReadOf}
use Rattle.command_base.specs.Ends.{Ends}
use Rattle.command_base.specs.declared.status.Status.{Status}
use Rattle.command_base.specs.declared.status.Status.TheVariants as status
use Rattle.cue_list_commands.specs.Accepted.{IsAccepted}
use Rattle.cue_list_commands.specs.Output.{build_output}
use Rattle.command_base.specs.Realises.{RealisesAlone}
use Rattle.words_commands.specs.ConcealedScreens.{conceal_output, next_concealed}
use Rattle.words_commands.specs.Verdicts.{ChangesVerdict}
use Rattle.lost.specs.Concealer.{Concealer}
use Rattle.lost.specs.Concealers.{HasConcealed, concealed_frames, receiver_of}
use Rattle.lost.specs.Delivered.{AreDelivered, delivered_bytes, delivered_packets}
use Rattle.lost.specs.Recovered.{AreCellsAuthored, AreWindowsAuthored, IsServiceInStep}

-- where all frames of a list arrive, their words are those that `build` puts
abbrev pub AllFramesAreBuilt : Type 0
AllFramesAreBuilt = (list : Listing) (placed : Placement) → delivered_bytes list placed (range_with_len 0 list.frames) ≡ build_output list placed

-- at a frame, the last of those that came, a concealing receiver shows what a list authors on each channel and in each service that is in
-- step there, and nothing on the channels that aren't authored
pub record IsSeenAgain (list : Listing) (came : List ℕ) (frame : ℕ) (receiver : Concealer) : Type 0 where
  pub channels : (in_field : FieldNumber) → AreCellsAuthored receiver list in_field came frame
  pub services : (service : ℕ) → IsServiceInStep list service came frame → AreWindowsAuthored receiver list service frame

-- a concealing receiver that was fed a front of the words of whatever frames of an accepted list came, in whatever pieces, keeps no refusal:
-- no word of them was refused
abbrev pub DeliveredIsUnrefused : Type 0
DeliveredIsUnrefused = (bytes : List ℕ) (list : Listing) (placed : Placement) (came words rest : List ℕ) (receiver : Concealer)
    → IsAccepted bytes list placed → delivered_bytes list placed came ≡ words ++ rest → HasConcealed words receiver
    → receiver_refusal (receiver_of receiver) ≡ None

-- and where the frames came in order, with fewer than 65,536 missing between two, it shows what the list authors at the last one that it counts
abbrev pub BuiltWordsAreSeenAgain : Type 0
BuiltWordsAreSeenAgain = (bytes : List ℕ) (list : Listing) (placed : Placement) (earlier : List ℕ) (frame : ℕ) (later words rest : List ℕ) (receiver : Concealer)
    → IsAccepted bytes list placed → AreDelivered (earlier ++ frame ∷ later) → delivered_bytes list placed (earlier ++ frame ∷ later) ≡ words ++ rest
    → HasConcealed words receiver → concealed_frames receiver ≡ suc (length earlier) → IsSeenAgain list (earlier ++ frame ∷ []) frame receiver

-- the answer was Ok, and what was put is what a concealing receiver shows of frames; or memory was wanting
abbrev pub IsConcealed : List Frame → Ends → Ends → Status → Type 0
IsConcealed frames old new answer = ((answer ≡ status.Ok) × Appends old.written new.written (conceal_output frames)) ⊎ (answer ≡ status.Memory)

-- so `conceal` answers the words of whatever frames of an accepted list came, in order, where no count of faults rose
abbrev pub DeliveredIsConcealed : Type 0
DeliveredIsConcealed = (bytes : List ℕ) (list : Listing) (placed : Placement) (came : List ℕ) (old new : Ends) (answer : Status)
    → IsAccepted bytes list placed → AreDelivered came → AllByRecursion (λ (frame : ℕ). frame < list.frames) came
    → IsReadOf (delivered_bytes list placed came) old new → RealisesAlone (ChangesVerdict next_concealed) old new answer
    → IsConcealed (delivered_packets list placed came) old new answer
