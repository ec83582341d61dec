-- Of words `decode`, `conceal`, `xds-show` and `show` make one status, and of all words they make one.
use Rattle.std.proofs.Common.{◌≡◌, ◌∙◌, ◌≤◌, ap, arith, inl, inr, length, refl, subst, suc, sym, ℕ, List, []}
use Rattle.std.proofs.lemmas.Bool.{cases_lt}
use Rattle.words_reading.specs.CaptionChannel.{caption_channel}
use Rattle.cdp_packets.specs.Packets.{Frame}
use Rattle.command_base.specs.Exact.{HasVerdict, IsFault, IsOne}
use Rattle.command_base.specs.declared.status.Status.{Status}
use Rattle.command_base.specs.declared.status.Status.TheVariants as status
use Rattle.words_commands.specs.Screens.{counted, show_output, texts_behind}
use Rattle.words_commands.proofs.AnswerLemmas.{ChangesEnd}
use Rattle.words_commands.specs.Verdicts.{ChangesVerdict, IsTextOf, ShowEnd, ShowVerdict}
use Rattle.words_files.specs.FramesOf.{AreFramesOf}
use Rattle.words_files.specs.Offences.{IsFileUnder}
use Rattle.words_reading.proofs.EveryLemmas.{every_words}
use Rattle.words_reading.proofs.HaltLemmas.{CountedFile, counted_once}
use Rattle.words_reading.proofs.OneLemmas.{words_one}
use Rattle.words_reading.specs.WordsVerdict.{NeverHalts}

-- `decode`, `conceal`, `xds-show`
changes_end : (next : List Frame → Frame → List ℕ) (answer : Status) (input text : List ℕ) → ChangesEnd next answer input text
    → (answer ≡ status.Ok) × ((frames : List Frame) × IsFileUnder caption_channel frames input)
changes_end next status.Ok input text (frames, file, is) = (refl, (frames, file))
changes_end next _ input text ends = absurd ends

pub changes_one : (next : List Frame → Frame → List ℕ) → IsOne (λ aside. ChangesVerdict next)
changes_one next aside =
    words_one (ChangesEnd next) (IsTextOf (texts_behind next [])) NeverHalts (λ answer input text ends. (changes_end next answer input text ends).1)
    (λ input one other text more first second. (changes_end next one input text first).0 ∙ sym (changes_end next other input more second).0)
    (λ judged rest one other text more halts ends. halts) (λ judged rest one text more halts says. halts)
    (λ judged rest again left one other text more same halts stops. absurd halts)

-- `show`
abbrev Any : List Frame → Type 0
Any frames = Unit {0}

show_end : (frame : ℕ) (answer : Status) (input text : List ℕ) → ShowEnd frame answer input text → CountedFile (suc frame) Any answer input
show_end frame status.Ok input text (frames, file, is) = let below = is.0 in (frames, file, tt, inl (omega (arith, below), refl))
show_end frame (status.Short count) input text (frames, file, is) =
    let few = subst (λ n. n ≤ frame) is.0 is.1 in (frames, file, tt, inr (omega (arith, few), ap status.Short is.0))
show_end frame _ input text ends = absurd ends

pub show_one : (frame : ℕ) → IsOne (λ aside. ShowVerdict frame)
show_one frame aside =
    words_one (ShowEnd frame) (IsTextOf (show_output frame)) NeverHalts
    (λ answer input text ends. let (frames, file, fit, is) = show_end frame answer input text ends in (frames, file))
    (λ input one other text more first next. counted_once (suc frame) Any input one other (show_end frame one input text first) (show_end frame other input more next))
    (λ judged rest one other text more halts ends. halts) (λ judged rest one text more halts says. halts)
    (λ judged rest again left one other text more same halts stops. absurd halts)

-- of all words they make one
text_said : (text_of : List Frame → List ℕ) (bytes : List ℕ) (frames : List Frame) → AreFramesOf caption_channel frames bytes → (text : List ℕ) × IsTextOf text_of bytes text
text_said text_of bytes frames are = (text_of frames, record { frames = frames; frames_are = are; fit = tt; text_is = refl })

pub every_changes : (next : List Frame → Frame → List ℕ) → HasVerdict (λ aside. ChangesVerdict next)
every_changes next =
    every_words (ChangesEnd next) (IsTextOf (texts_behind next [])) NeverHalts (λ bytes frames are. inl (text_said (texts_behind next []) bytes frames are))
    (λ input text frames file says. (status.Ok, counted next frames, λ fault. fault, (frames, file, refl)))

show_ends : (frame : ℕ) (input : List ℕ) (frames : List Frame) → IsFileUnder caption_channel frames input
    → (answer : Status) × (text : List ℕ) × (IsFault answer → ⊥) × ShowEnd frame answer input text
show_ends frame input frames file = elim (cases_lt frame (length frames)) [
  | inl below ↦ (status.Ok, show_output frame frames, λ fault. fault, (frames, file, (below, refl)))
  | inr few ↦ (status.Short (length frames), [], λ fault. fault, (frames, file, (refl, few, refl)))
]

pub every_show : (frame : ℕ) → HasVerdict (λ aside. ShowVerdict frame)
every_show frame =
    every_words (ShowEnd frame) (IsTextOf (show_output frame)) NeverHalts (λ bytes frames are. inl (text_said (show_output frame) bytes frames are))
    (λ input text frames file says. show_ends frame input frames file)
