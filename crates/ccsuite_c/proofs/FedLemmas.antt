-- What is told of receivers that are made, of verifiers that are fed, and of words that end.
use Rattle.std.proofs.Common.{◌≡◌, ℕ, List, [], inl, inr, refl}
use Rattle.std.specs.Prelude.{Bool, true, false, None, Result, Ok, Err, IfErr, IfOk, IsOk}
use Rattle.caption_streams.specs.Receivings.{last_screens, reception_of}
use Rattle.caption_streams.specs.Receptions.{HasFed}
use Rattle.caption_streams.specs.declared.receiving.Receiving.{Receiving}
use Rattle.caption_streams.specs.declared.fault.FeedFault.{FeedFault}
use Rattle.cc_base.specs.declared.refusal.Refusal.{Refusal}
use Rattle.cc_receiver.specs.declared.receiver.Fed.{Fed}
use Rattle.cdp_packets.specs.Packets.{Frame}
use Rattle.line21_screen.specs.Grid.{empty_grid}
use Rattle.services_files.specs.CaptionChannel.{caption_channel}
use Rattle.words_files.specs.Offences.{IsFileUnder, IsMalformed}
use Rattle.ccsuite_c.specs.Receivers.{BeginsReceiving, EndAnswer, IsOfKind}
use Rattle.ccsuite_c.specs.Told.{TellsEnd, TellsFed}
use Rattle.ccsuite_c.specs.Verifiers.{TellsVerified}
use Rattle.ccsuite_c.specs.declared.told.FedBytes.{FedBytes}

-- what is said of each part of a receiver that was made
pub begins : {E : Type 0} (conceals : Bool) (result : Result Receiving E)
    → IfOk result (λ made. IsOfKind conceals (reception_of made)) → IfOk result (λ made. HasFed [] (reception_of made))
    → IfOk result (λ made. (last_screens made).grids ≡ (λ chan. empty_grid))
    → IfOk result (λ made. (service id : ℕ) → (last_screens made).windows service id ≡ None) → IfOk result (BeginsReceiving conceals)
begins conceals (Ok made) kind fed grids windows = record { kind = kind; fed = fed; grids = grids; windows = windows }
begins conceals (Err error) kind fed grids windows = tt

-- where nothing is found, and where the code isn't 0, the answer tells what a receiver's does
pub tells_none : (answer : Result Fed FeedFault) (found : Bool) (code : ℕ) (told : FedBytes) → found ≡ false → TellsFed answer code told → TellsVerified answer found code told
tells_none answer true code told none tells = absurd (cc)
tells_none (Ok fed) false code told none tells = tells
tells_none (Err fault) false code told none tells = tells

pub tells_other : (answer : Result Fed FeedFault) (found : Bool) (code : ℕ) (told : FedBytes) → (code ≡ 0 → ⊥) → TellsFed answer code told → TellsVerified answer found code told
tells_other (Ok fed) found code told other tells = absurd (other tells.0)
tells_other (Err fault) true code told other tells = tells
tells_other (Err fault) false code told other tells = tells

-- what is told of words that end
pub ends : (bytes : List ℕ) (result : Result (Unit {0}) Refusal) (code : ℕ) (told : FedBytes) → (IsOk result → (frames : List Frame) × IsFileUnder caption_channel frames bytes)
    → IfErr result (λ refused. IsMalformed caption_channel bytes refused) → TellsEnd result code told → EndAnswer bytes code told
ends bytes (Ok done) code told whole malformed tells = inl (tells.0, tells.1, whole refl)
ends bytes (Err refusal) code told whole malformed tells = inr (tells.0, (refusal, malformed, tells.1))

pub ends_well : (result : Result (Unit {0}) Refusal) (code : ℕ) (told : FedBytes) → IsOk result → TellsEnd result code told → code ≡ 0
ends_well (Ok done) code told ok tells = tells.0
ends_well (Err refusal) code told ok tells = absurd (cc)
