-- Pieces of bytes, and of what is taken.
use Rattle.std.proofs.Common.{◌≡◌, ◌∙◌, ◌+◌, ◌-◌, ◌++◌, ◌≤◌, ap, append_assoc, append-nil, arith, drop, inl, inr, length, length-append, min, refl, subst, sym, take, ℕ, List, [], IfSome, Option, Some, None}
use Rattle.std.proofs.KnownBytes.{Consumes-trans}
use Rattle.std.proofs.Math.Seq.{take-add}
use Rattle.std.proofs.lemmas.List.{length-drop, length-take-le, take-append-drop, take-take, take_all}
use Rattle.std.specs.Io.KnownBytes.{Consumes, IsAtEnd}
use Rattle.cc_base.specs.declared.refusal.Refusal.{Refusal}
use Rattle.cc_receiver.proofs.FedFrames.{no_item}
use Rattle.cc_receiver.specs.Services.{services_say}
use Rattle.cc_receiver.specs.CaptionChannel.{caption_channel}
use Rattle.cc_receiver.proofs.ChannelFiles.{offence_is_refused, unoffending_unrefused}
use Rattle.words_files.specs.Catching.{refusal_of}
use Rattle.words_files.specs.Offences.{IsCutShort, IsMalformed, IsUnoffending}
use Rattle.words_files.proofs.OffenceLemmas.{some_or_none}

-- what is left of bytes from a place on
pub rest_is : (at : ℕ) (bytes : List ℕ) → at ≤ length bytes → take (length bytes - at) (drop at bytes) ≡ drop at bytes
rest_is at bytes within = let size = length-drop at bytes in take_all (length bytes - at) (drop at bytes) (omega arith)

pub rest_size : (at : ℕ) (bytes : List ℕ) → at ≤ length bytes → length (take (length bytes - at) (drop at bytes)) ≡ length bytes - at
rest_size at bytes within = ap length (rest_is at bytes within) ∙ length-drop at bytes

-- a front of the bytes up to a place, and then of what is left
pub front_more : (before bytes : List ℕ) (at used : ℕ) → at ≤ length bytes
    → (before ++ take at bytes) ++ take used (take (length bytes - at) (drop at bytes)) ≡ before ++ take (at + used) bytes
front_more before bytes at used within =
    ap (λ rest. (before ++ take at bytes) ++ take used rest) (rest_is at bytes within)
    ∙ append_assoc before (take at bytes) (take used (drop at bytes))
    ∙ ap (λ l. before ++ l) (sym (take-add at used bytes))

-- the front up to a place, and all that is left
pub front_all : (before bytes : List ℕ) (at : ℕ) → at ≤ length bytes → (before ++ take at bytes) ++ take (length bytes - at) (drop at bytes) ≡ before ++ bytes
front_all before bytes at within =
    ap (λ rest. (before ++ take at bytes) ++ rest) (rest_is at bytes within)
    ∙ append_assoc before (take at bytes) (drop at bytes)
    ∙ ap (λ l. before ++ l) (take-append-drop at bytes)

-- a front of bytes after others is no shorter than it
pub front_size : (before bytes : List ℕ) (used : ℕ) → used ≤ length bytes → length (before ++ take used bytes) ≡ length before + used
front_size before bytes used within =
    length-append before (take used bytes) ∙ ap (λ n. length before + n) (length-take-le used bytes within)

-- a front of bytes, and what is after it
pub front_spelled : (before bytes : List ℕ) (used : ℕ) → before ++ bytes ≡ (before ++ take used bytes) ++ drop used bytes
front_spelled before bytes used =
    ap (λ l. before ++ l) (sym (take-append-drop used bytes)) ∙ sym (append_assoc before (take used bytes) (drop used bytes))

-- a piece of a take, and what is left of it
pub record IsPiece (room count : ℕ) (buffer piece rest : List ℕ) : Type 0 where
  pub spelled : take count buffer ≡ piece ++ rest
  pub size : length piece ≡ min count room
  pub rest_size : length rest ≡ count - min count room

pub piece_of : (room count most : ℕ) (buffer : List ℕ) → count ≤ length buffer → most ≡ min count room
    → IsPiece room count buffer (take most buffer) (drop most (take count buffer))
piece_of room count most buffer within is =
    let size = length-take-le count buffer within in
    record {
      spelled = sym (take-append-drop most (take count buffer)) ∙ ap (λ l. l ++ drop most (take count buffer)) (take-take most count buffer (omega arith));
      size = length-take-le most buffer (omega arith) ∙ is;
      rest_size = length-drop most (take count buffer) ∙ omega arith;
    }

-- what was taken with it
pub with_piece : (first left after : Option (List ℕ)) (taken piece rest whole : List ℕ) → Consumes first left taken → Consumes left after whole → whole ≡ piece ++ rest
    → Consumes first after ((taken ++ piece) ++ rest)
with_piece first left after taken piece rest whole consumed next is =
    subst (Consumes first after) (ap (λ l. taken ++ l) is ∙ sym (append_assoc taken piece rest)) (Consumes-trans first left after taken whole consumed next)

-- a piece that is all of a take was taken with it
pub whole_piece : (first left after : Option (List ℕ)) (room count : ℕ) (taken buffer piece rest : List ℕ) → Consumes first left taken → Consumes left after (take count buffer)
    → IsPiece room count buffer piece rest → count ≤ room → Consumes first after (taken ++ piece)
whole_piece first left after room count taken buffer piece rest consumed next is whole =
    let more = is.rest_size in
    let no_rest : rest ≡ [] = no_item rest (omega arith) in
    subst (Consumes first after) (ap (λ l. (taken ++ piece) ++ l) no_rest ∙ append-nil (taken ++ piece))
    (with_piece first left after taken piece rest (take count buffer) consumed next is.spelled)

-- nothing was taken yet
pub nothing_taken : (first : Option (List ℕ)) → Consumes first first []
nothing_taken None = tt
nothing_taken (Some bytes) = refl

-- what was taken up to the end of an input is all that it had
pub all_taken : (first left : Option (List ℕ)) (taken : List ℕ) → Consumes first left taken → IsAtEnd left → IfSome first (λ bytes. bytes ≡ taken)
all_taken None left taken consumed ended = tt
all_taken (Some all) None taken consumed ended = absurd consumed
all_taken (Some all) (Some rest) taken consumed ended = consumed ∙ ap (λ l. taken ++ l) ended ∙ append-nil taken

-- bytes of which no word offends are cut short where they are no file
pub cut_short : (bytes : List ℕ) (refusal : Refusal) → IsUnoffending caption_channel bytes → IsMalformed caption_channel bytes refusal → IsCutShort caption_channel bytes refusal
cut_short bytes refusal unoffending (inl offence) =
    absurd (some_or_none (refusal_of services_say bytes) refusal (offence_is_refused bytes refusal offence) (unoffending_unrefused bytes unoffending))
cut_short bytes refusal unoffending (inr cut) = cut
