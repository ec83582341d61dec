-- Of its side file and its input `verify` makes one status.
use Rattle.std.proofs.Common.{◌≡◌, ◌<◌, ◌++◌, ◌∷◌, ap, append_assoc, inl, inr, refl, subst, sym, ◌∙◌, ℕ, List, []}
use Rattle.cc_verifier.specs.Findings.{AreClean}
use Rattle.cdp_packets.specs.Packets.{Frame}
use Rattle.command_base.proofs.OneLemmas.{beside_one}
use Rattle.command_base.specs.Exact.{IsFault, IsOne}
use Rattle.command_base.specs.declared.status.Status.{Status}
use Rattle.command_base.specs.declared.status.Status.TheVariants as status
use Rattle.cue_list_commands.proofs.ListVerdictLemmas.{good_not_refused, good_once, list_refused_once}
use Rattle.cue_list_commands.specs.Accepted.{IsGoodList, IsRefusedList}
use Rattle.cue_types.specs.Listing.{Listing}
use Rattle.findings.specs.declared.finding.Finding.{Finding}
use Rattle.verify_commands.proofs.FoundLemmas.{found_once}
use Rattle.verify_commands.proofs.VerifyingLemmas.{IsFoundAtFrame}
use Rattle.verify_commands.specs.VerifyVerdict.{FindsNothing, VerifyEnd, VerifyHalts, VerifyVerdict, VerifyWords}
use Rattle.words_reading.proofs.HaltLemmas.{CountedFile, HaltsAt, counted_once, frames_one, halted_at, said_fit}
use Rattle.words_reading.specs.WordsVerdict.{WordsVerdict}

-- this is found at a frame with which a run ends so
abbrev pub IsFoundFor : Listing → Status → List Frame → Frame → Type 0
IsFoundFor list (status.Differs finding) frames last = IsFoundAtFrame list finding frames last
IsFoundFor list _ frames last = ⊥

not_clean : (list : Listing) (answer : Status) (frames behind : List Frame) (last : Frame) → IsFoundFor list answer frames last → AreClean list ((frames ++ last ∷ []) ++ behind) → ⊥
not_clean list (status.Differs finding) frames behind last is clean = clean frames last behind (append_assoc frames (last ∷ []) behind) finding.kind is.1.holds
not_clean list _ frames behind last is clean = is

one_found : (list : Listing) (frames : List Frame) (last : Frame) (one other : Status) → IsFoundFor list one frames last → IsFoundFor list other frames last → one ≡ other
one_found list frames last (status.Differs a) (status.Differs b) is at =
    ap status.Differs (same_finding a b (is.0 ∙ sym at.0) (found_once list frames last a.kind b.kind is.1 at.1))
  where
    same_finding : (x y : Finding) → x.frame ≡ y.frame → x.kind ≡ y.kind → x ≡ y
    same_finding x y frame kinds = rw (frame, kinds) refl
one_found list frames last (status.Differs a) _ is at = absurd at
one_found list frames last _ other is at = absurd is

verify_ends : (list : Listing) (answer : Status) (input text : List ℕ) → VerifyEnd list answer input text → CountedFile list.frames (AreClean list) answer input
verify_ends list status.Ok input text (frames, file, is) = (frames, file, is.0, inl (is.1, refl))
verify_ends list (status.Short count) input text (frames, file, is) =
    (frames, file, is.0, inr (subst (λ n. n < list.frames) is.1 is.2, ap status.Short is.1))
verify_ends list _ input text ends = absurd ends

verify_halts : (list : Listing) (answer : Status) (bytes text : List ℕ) → VerifyHalts list answer bytes text → HaltsAt (AreClean list) (IsFoundFor list answer) bytes
verify_halts list (status.Differs finding) bytes text halts = halted_at (λ frames. []) (AreClean list) (IsFoundAtFrame list finding) bytes text halts
verify_halts list _ bytes text halts = absurd halts

abbrev Words : Listing → List ℕ → Status → List ℕ → Type 0
Words list = WordsVerdict (VerifyEnd list) (FindsNothing list) (VerifyHalts list)

words_of : (list : Listing) (input : List ℕ) (answer : Status) (text : List ℕ) → (IsFault answer → ⊥) → VerifyWords list input answer text → Words list input answer text
words_of list input status.WriteFault text plain words = absurd (plain tt)
words_of list input answer text plain words = words

verified_once : (list : Listing) (input : List ℕ) (one other : Status) (text more : List ℕ) → (IsFault one → ⊥) → (IsFault other → ⊥) → VerifyWords list input one text
    → VerifyWords list input other more → one ≡ other
verified_once list input one other text more plain told first next =
    frames_one (AreClean list) (IsFoundFor list) (not_clean list) (one_found list) (VerifyEnd list) (FindsNothing list) (VerifyHalts list)
    (λ answer input text ends. let (frames, file, fit, is) = verify_ends list answer input text ends in (frames, file, fit))
    (λ input one other text more first next.
    counted_once list.frames (AreClean list) input one other (verify_ends list one input text first) (verify_ends list other input more next))
    (said_fit (λ frames. []) (AreClean list))
    (verify_halts list) input one other text more plain told (words_of list input one text plain first) (words_of list input other more told next)

pub verify_one : IsOne VerifyVerdict
verify_one =
    beside_one IsGoodList IsRefusedList VerifyWords good_not_refused list_refused_once
    (λ aside input list other answer text good fine words. subst (λ (l : Listing). VerifyWords l input answer text) (good_once aside other list fine good) words)
    verified_once
