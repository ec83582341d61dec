-- Of an input whose bytes are known: what was judged of it, whether it is a file, is malformed or passes the limit.
use Rattle.std.proofs.Common.{◌≡◌, ◌∙◌, ◌++◌, ap, append_assoc, inl, inr, subst, sym, ℕ, List, IfSome, Option, Some, None}
use Rattle.std.specs.Io.KnownBytes.{Consumes}
use Rattle.cc_base.specs.declared.refusal.Refusal.{Refusal}
use Rattle.cc_base.specs.declared.why.Why.{Why}
use Rattle.cdp_packets.specs.Packets.{Frame}
use Rattle.cc_receiver.proofs.ChannelFiles.{offence_is_once}
use Rattle.cc_receiver.specs.CaptionChannel.{caption_channel}
use Rattle.words_files.proofs.EndingLemmas.{cut_short_has_no_offence, file_has_no_offence}
use Rattle.words_files.proofs.FramesOfLemmas.{file_frames, frames_of_once}
use Rattle.words_files.specs.FramesOf.{AreFramesOf}
use Rattle.words_files.specs.Offences.{IsFileUnder, IsMalformed}

-- what was judged of known bytes, and the rest of them
pub known_judged : (old new : Option (List ℕ)) (bytes judged unjudged : List ℕ) → old ≡ Some bytes → Consumes old new (judged ++ unjudged)
    → (rest : List ℕ) × (bytes ≡ judged ++ (unjudged ++ rest))
known_judged old None bytes judged unjudged known consumed = absurd (subst (λ l. Consumes l None (judged ++ unjudged)) known consumed)
known_judged old (Some rest) bytes judged unjudged known consumed =
    (rest, subst (λ l. Consumes l (Some rest) (judged ++ unjudged)) known consumed ∙ append_assoc judged unjudged rest)

-- what was judged of known bytes that were read to their end is all of them
pub known_whole : (left : Option (List ℕ)) (bytes judged : List ℕ) → left ≡ Some bytes → IfSome left (λ all. all ≡ judged) → bytes ≡ judged
known_whole left bytes judged known whole = subst (λ l. IfSome l (λ all. all ≡ judged)) known whole

-- the frames that a file brings are its frames
pub file_of : (frames : List Frame) (bytes : List ℕ) → AreFramesOf caption_channel frames bytes → (others : List Frame) × IsFileUnder caption_channel others bytes
    → IsFileUnder caption_channel frames bytes
file_of frames bytes are (others, file) =
    subst (λ f. IsFileUnder caption_channel f bytes) (frames_of_once caption_channel others frames bytes (file_frames caption_channel others bytes file) are) file

-- what is malformed is no file
pub malformed_no_file : (bytes : List ℕ) (refusal : Refusal) (frames : List Frame) → IsMalformed caption_channel bytes refusal → IsFileUnder caption_channel frames bytes → ⊥
malformed_no_file bytes refusal frames (inl offence) file = file_has_no_offence caption_channel frames bytes refusal file offence
malformed_no_file bytes refusal frames (inr cut) file = cut.no_file frames file

-- bytes are malformed in one way
pub one_malformed : (bytes : List ℕ) (refusal other : Refusal) → IsMalformed caption_channel bytes refusal → IsMalformed caption_channel bytes other → refusal ≡ other
one_malformed bytes refusal other (inl offence) (inl more) = offence_is_once bytes refusal other offence more
one_malformed bytes refusal other (inl offence) (inr cut) = absurd (cut_short_has_no_offence caption_channel bytes other refusal cut offence)
one_malformed bytes refusal other (inr cut) (inl offence) = absurd (cut_short_has_no_offence caption_channel bytes refusal other cut offence)
one_malformed bytes refusal other (inr cut) (inr more) = same_refusal refusal other (cut.place_is ∙ sym more.place_is) (cut.why_is ∙ sym more.why_is)
  where
    same_refusal : (one other : Refusal) → one.place ≡ other.place → one.why ≡ other.why → one ≡ other
    same_refusal one other place why =
        ap (λ (p : ℕ). record { place = p; why = one.why }) place ∙ ap (λ (w : Why). record { place = other.place; why = w }) why
