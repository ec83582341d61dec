-- Of its side file and its input `insert` makes one status.
use Rattle.std.proofs.Common.{◌≡◌, ◌∙◌, ◌<◌, ◌++◌, ◌∷◌, ap, append_assoc, inl, inr, refl, subst, sym, ℕ, List, []}
use Rattle.cc_base.specs.declared.limit_of.LimitOf.TheVariants as limit
use Rattle.cdp_packets.specs.Packets.{Frame}
use Rattle.command_base.proofs.OneLemmas.{beside_one}
use Rattle.command_base.specs.Exact.{IsFault, IsOne}
use Rattle.command_base.specs.declared.status.Status.{Status}
use Rattle.command_base.specs.declared.status.Status.TheVariants as status
use Rattle.cue_list_commands.proofs.ListVerdictLemmas.{accepted_not_refused, accepted_once, refused_once}
use Rattle.cue_list_commands.specs.Accepted.{IsRefused}
use Rattle.cue_list_commands.specs.Output.{IsPlacedAs, PlacedList, framing_of}
use Rattle.cue_list_commands.specs.Framing.{Framing}
use Rattle.insert_commands.proofs.CarryLemmas.{carry_so, never_halts, one_reason}
use Rattle.insert_commands.specs.CanCarry.{CanCarry}
use Rattle.insert_commands.specs.InsertSteps.{halt_status}
use Rattle.insert_commands.specs.InsertVerdict.{HaltsInserting, InsertEnd, InsertHalts, InsertVerdict, InsertWords, IsHalt, SaysInserted}
use Rattle.insert_commands.specs.declared.inserting.Halt.{Halt}
use Rattle.insert_commands.specs.declared.inserting.Halt.TheVariants as halt
use Rattle.services_files.specs.CaptionChannel.{caption_channel}
use Rattle.words_files.proofs.FramesOfLemmas.{file_frames}
use Rattle.words_reading.proofs.HaltLemmas.{CountedFile, HaltsAt, counted_once, frames_one}

-- an insertion stops at a frame with which a run ends so
abbrev pub IsHaltFor : Framing → Status → List Frame → Frame → Type 0
IsHaltFor list answer frames last = (why : Halt) × (answer ≡ halt_status why) × IsHalt list why frames last

halts_none : (list : Framing) (answer : Status) (frames behind : List Frame) (last : Frame) → IsHaltFor list answer frames last → CanCarry list ((frames ++ last ∷ []) ++ behind) → ⊥
halts_none list answer frames behind last (why, at, is) can =
    never_halts list ((frames ++ last ∷ []) ++ behind) frames behind last why can (append_assoc frames (last ∷ []) behind) is

halt_one : (list : Framing) (frames : List Frame) (last : Frame) (one other : Status) → IsHaltFor list one frames last → IsHaltFor list other frames last → one ≡ other
halt_one list frames last one other (why, at, is) (also, again, stops) = at ∙ ap halt_status (one_reason list frames last why also is stops) ∙ sym again

halts_so : (list : Framing) (why : Halt) (bytes text : List ℕ) → HaltsInserting list why bytes text → HaltsAt (CanCarry list) (IsHaltFor list (halt_status why)) bytes
halts_so list why bytes text halts =
    record {
      frames = halts.frames;
      last = halts.last;
      are = file_frames caption_channel (halts.frames ++ halts.last ∷ []) bytes halts.is_file;
      fit = carry_so list halts.frames halts.file text halts.inserted halts.rates;
      is = (why, refl, halts.is);
    }

insert_halts : (made : PlacedList) (answer : Status) (bytes text : List ℕ) → InsertHalts made answer bytes text → HaltsAt (CanCarry (framing_of made)) (IsHaltFor (framing_of made) answer) bytes
insert_halts made (status.Differs finding) bytes text halts = halts_so (framing_of made) (halt.Found finding) bytes text halts
insert_halts made (status.Limit limit.Packet) bytes text halts = halts_so (framing_of made) halt.Packet bytes text halts
insert_halts made (status.Limit _) bytes text halts = absurd halts
insert_halts made _ bytes text halts = absurd halts

carries : (list : Framing) (bytes text : List ℕ) → (says : SaysInserted list bytes text) → CanCarry list says.frames
carries list bytes text says = carry_so list says.frames says.frames_are.file text says.inserted says.rates

insert_ends : (made : PlacedList) (answer : Status) (input text : List ℕ) → InsertEnd made answer input text → CountedFile made.list.frames (CanCarry (framing_of made)) answer input
insert_ends made status.Ok input text (says, file, enough, sound) = (says.frames, file, carries (framing_of made) input text says, inl (enough, refl))
insert_ends made (status.Short count) input text (says, file, is, few) =
    (says.frames, file, carries (framing_of made) input text says, inr (subst (λ n. n < made.list.frames) is few, ap status.Short is))
insert_ends made _ input text ends = absurd ends

inserted_one : (made : PlacedList) (input : List ℕ) (one other : Status) (text more : List ℕ) → (IsFault one → ⊥) → (IsFault other → ⊥) → InsertWords made input one text
    → InsertWords made input other more → one ≡ other
inserted_one made =
    frames_one (CanCarry (framing_of made)) (IsHaltFor (framing_of made)) (halts_none (framing_of made)) (halt_one (framing_of made))
    (InsertEnd made) (SaysInserted (framing_of made)) (InsertHalts made)
    (λ answer input text ends. let (frames, file, fit, is) = insert_ends made answer input text ends in (frames, file, fit))
    (λ input one other text more first next.
    counted_once made.list.frames (CanCarry (framing_of made)) input one other (insert_ends made one input text first) (insert_ends made other input more next))
    (λ bytes text says. (says.frames, says.frames_are, carries (framing_of made) bytes text says))
    (insert_halts made)

same_placed : (one other : PlacedList) → one.list ≡ other.list → one.placed ≡ other.placed → one ≡ other
same_placed one other lists placed = rw (lists, placed) refl

one_placed : (aside : List ℕ) (made other : PlacedList) → IsPlacedAs aside made → IsPlacedAs aside other → other ≡ made
one_placed aside made other is at =
    let same = accepted_once aside made.list other.list made.placed other.placed is at in
    same_placed other made (sym same.0) (sym same.1)

pub insert_one : IsOne InsertVerdict
insert_one =
    beside_one IsPlacedAs IsRefused InsertWords (λ aside made answer good refused. accepted_not_refused aside made.list made.placed answer good refused) refused_once
    (λ aside input made other answer text good fine words. subst (λ (m : PlacedList). InsertWords m input answer text) (one_placed aside made other good fine) words)
    inserted_one
