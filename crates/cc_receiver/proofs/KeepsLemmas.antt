-- An open packet of captions that ends is a frame.
use Rattle.std.specs.Prelude.{is_some}
use Rattle.std.proofs.Common.{◌≡◌, true, List, ◌∷◌, Option, Some, None, refl, sym, subst, ◌∙◌}
use Rattle.cdp_packets.specs.declared.reader.CdpReader.{CdpReader}
use Rattle.cdp_packets.specs.declared.parts.CdpPart.{CdpPart}
use Rattle.services_files.specs.Catching.{Caught, OpenCaption, ended_with, packet_ended}
use Rattle.cc_receiver.specs.Gatherers.{HasGathered}
use Rattle.cc_receiver.specs.declared.captions.Captions.{Captions}
use Rattle.cc_receiver.specs.declared.frame.Frame.{Frame}
use Rattle.cc_receiver.specs.Catchers.{JudgesParts, Keeps, KeepsOpen, with_frame}
use Rattle.cc_receiver.specs.Channels.{HasTried, frames_parts}
use Rattle.cc_receiver.proofs.JudgingLemmas.{tried_frame}

-- a reader that is open has the open packet's parts
some_open : (o : Option OpenCaption) (reader : Option CdpReader) (frame : Frame) → KeepsOpen o reader frame → is_some reader ≡ true
    → (x : OpenCaption) × (o ≡ Some x) × HasGathered x.parts frame
some_open None None frame kept some = absurd cc
some_open None (Some reader) frame kept some = absurd kept
some_open (Some o) None frame kept some = absurd kept
some_open (Some o) (Some reader) frame kept some = (o, refl, kept.1)

-- an open packet that ends is a frame
pub frame_ends : (caught : Caught) (captions next : Captions) → Keeps caught captions → captions.refused ≡ None → is_some captions.open ≡ true
    → ((parts : List CdpPart) → HasGathered parts captions.gathered → HasTried (frames_parts (parts ∷ caught.frames)) captions.judging
    → Keeps (with_frame parts caught) next) → Keeps (packet_ended caught) next
frame_ends caught captions next keeps fine some acts =
    let unrefused = sym keeps.refused ∙ fine in
    let (o, is, took) = some_open caught.open_caption captions.open captions.gathered (keeps.is_open unrefused) some in
    let judged = subst (λ (x : Option OpenCaption). JudgesParts caught.frames x captions.judging) is (keeps.judges unrefused) in
    subst (λ (x : Option OpenCaption). Keeps (ended_with x caught) next) (sym is) (acts o.parts took (tried_frame caught.frames o.parts captions.judging judged))
