-- What is kept of an open packet of captions after one more of its bytes.
use Rattle.std.proofs.Common.{◌≡◌, ℕ, ◌<◌, ◌%◌, ◌^◌, length, ◌++◌, List, [], ◌∷◌, Option, Some, None, refl, ap, sym, subst, ◌∙◌, append-nil}
use Rattle.cc_base.specs.declared.step.Step.{Step}
use Rattle.cc_base.specs.declared.why.Why.{Why}
use Rattle.cc_base.specs.Feeding.{Handed, Reading, hand, place_by, read_first, refused_at, why_of}
use Rattle.cc_base.specs.Steps.{IsTaken}
use Rattle.cc_base.specs.Syntax.{open_behind}
use Rattle.cc_base.proofs.StepLemmas.{hand-none}
use Rattle.line21_codes.specs.declared.channels.FieldNumber.TheVariants.{One, Two}
use Rattle.cdp_packets.specs.declared.parts.CdpPart.{CdpPart}
use Rattle.cdp_packets.specs.declared.reader.CdpReader.{CdpReader}
use Rattle.cdp_packets.specs.Readers.{HasRead}
use Rattle.cdp_packets.specs.Reading.{cdp_syntax, judge_cdp}
use Rattle.line21_screen.specs.Objects.{Leads}
use Rattle.services_files.specs.Catching.{Caught, OpenCaption, packet_gone_on, taken_in, verdict_behind}
use Rattle.services_files.specs.Services.{services_say}
use Rattle.cc_receiver.specs.declared.captions.Captions.{Captions}
use Rattle.cc_receiver.specs.declared.channel.Channel.{Channel}
use Rattle.cc_receiver.specs.declared.frame.Frame.{Frame}
use Rattle.cc_receiver.specs.Catchers.{JudgesParts, Keeps, KeepsLast, KeepsOpen}
use Rattle.cc_receiver.specs.Channels.{HasTried, frames_parts}
use Rattle.cc_receiver.specs.Gatherers.{HasGathered}
use Rattle.cc_receiver.specs.Hearing.{heard}
use Rattle.cc_receiver.specs.Serving.{ServesFrames, said_triplets}
use Rattle.service_blocks.specs.Channels.{IsHeard}

-- what is handed on of a step, after frames and the parts of the open packet
abbrev pub handed_of : List (List CdpPart) → List CdpPart → Step CdpPart → Handed CdpPart
handed_of frames parts step = hand (verdict_behind services_say frames) parts step

-- a reader of a packet read a byte, and what it made of it was gathered and judged
pub record FeedsByte (byte : ℕ) (answer : Option Why) (reader next : CdpReader) (was now : Frame) (old new : Channel) : Type 0 where
  pub step : Step CdpPart
  pub says : (size : ℕ) (bytes : List ℕ) → HasRead size bytes reader → step ≡ judge_cdp size (open_behind (cdp_syntax size) bytes) byte
  pub leads : (size : ℕ) (bytes : List ℕ) → HasRead size bytes reader → IsTaken step → HasRead size (bytes ++ byte ∷ []) next
  pub why : (frames : List (List CdpPart)) (parts : List CdpPart) → HasTried (frames_parts frames ++ parts) old → answer ≡ (handed_of frames parts step).why
  pub gathered : (frames : List (List CdpPart)) (parts : List CdpPart) → HasTried (frames_parts frames ++ parts) old → HasGathered parts was
      → HasGathered (parts ++ (handed_of frames parts step).parts) now
  pub tried : (frames : List (List CdpPart)) (parts : List CdpPart) → HasTried (frames_parts frames ++ parts) old → answer ≡ None
      → HasTried (frames_parts frames ++ (parts ++ (handed_of frames parts step).parts)) new

-- what is caught after a step
abbrev caught_behind : Caught → OpenCaption → ℕ → Reading CdpPart → Caught
caught_behind caught o byte read =
    packet_gone_on (why_of read.refusal) (record { size = o.size; bytes = o.bytes ++ byte ∷ []; parts = o.parts ++ read.parts }) caught

abbrev read_of : ℕ → Option Why → List CdpPart → Reading CdpPart
read_of place why parts = read_first (refused_at place why) parts (record { parts = []; refusal = None })

read_is : (caught : Caught) (o : OpenCaption) (byte place : ℕ) (why : Option Why) (parts : List CdpPart)
    → caught_behind caught o byte (read_of place why parts) ≡ packet_gone_on why (record { size = o.size; bytes = o.bytes ++ byte ∷ []; parts = o.parts ++ parts }) caught
read_is caught o byte place None parts =
    ap (λ ps. packet_gone_on None (record { size = o.size; bytes = o.bytes ++ byte ∷ []; parts = o.parts ++ ps }) caught) (append-nil parts)
read_is caught o byte place (Some why) parts = refl

-- what is caught after a byte of which this step is made
taken_is : (o : OpenCaption) (caught : Caught) (byte : ℕ) (step : Step CdpPart) → step ≡ judge_cdp o.size (open_behind (cdp_syntax o.size) o.bytes) byte
    → taken_in services_say (Some o) byte caught
    ≡ packet_gone_on (handed_of caught.frames o.parts step).why
    (record { size = o.size; bytes = o.bytes ++ byte ∷ []; parts = o.parts ++ (handed_of caught.frames o.parts step).parts }) caught
taken_is o caught byte step is =
    let read : Step CdpPart → Reading CdpPart = λ step.
    read_of (place_by 1 o.bytes) (handed_of caught.frames o.parts step).why (handed_of caught.frames o.parts step).parts in
    ap (λ s. caught_behind caught o byte (read s)) (sym is)
    ∙ read_is caught o byte (place_by 1 o.bytes) (handed_of caught.frames o.parts step).why (handed_of caught.frames o.parts step).parts

-- what is caught goes on
pub record Goes (caught more : Caught) (answer : Option Why) (next : CdpReader) (now : Frame) (new : Channel) : Type 0 where
  pub refused : more.refused ≡ answer
  pub is_open : more.refused ≡ None → KeepsOpen more.open_caption (Some next) now
  pub judges : more.refused ≡ None → JudgesParts more.frames more.open_caption new
  pub same : more.frames ≡ caught.frames

pub goes : (o : Option OpenCaption) (caught : Caught) (byte : ℕ) (answer : Option Why) (reader next : CdpReader) (was now : Frame) (old new : Channel)
    → KeepsOpen o (Some reader) was → JudgesParts caught.frames o old → FeedsByte byte answer reader next was now old new → caught.refused ≡ None
    → Goes caught (taken_in services_say o byte caught) answer next now new
goes None caught byte answer reader next was now old new kept judged fed none = absurd kept
goes (Some o) caught byte answer reader next was now old new kept judged fed none =
    let handed = handed_of caught.frames o.parts fed.step in
    let more : OpenCaption = record { size = o.size; bytes = o.bytes ++ byte ∷ []; parts = o.parts ++ handed.parts } in
    let why : answer ≡ handed.why = fed.why caught.frames o.parts judged in
    let cases : (w : Option Why) → handed.why ≡ w → Goes caught (packet_gone_on w more caught) w next now new = elim [
      | None ↦ λ fine. record {
        refused = none;
        is_open = λ _. (
          fed.leads o.size o.bytes kept.0 (hand-none (verdict_behind services_say caught.frames) o.parts fed.step fine).0,
          fed.gathered caught.frames o.parts judged kept.1,
        );
        judges = λ _. fed.tried caught.frames o.parts judged (why ∙ fine);
        same = refl;
      }
      | Some w ↦ λ _. record { refused = refl; is_open = λ no. absurd cc; judges = λ no. absurd cc; same = refl }
    ] in
    subst (λ (m : Caught). Goes caught m answer next now new) (sym (taken_is o caught byte fed.step (fed.says o.size o.bytes kept.0)))
    (subst (λ w. Goes caught (packet_gone_on handed.why more caught) w next now new) (sym why) (cases handed.why refl))

-- captions that keep what was caught keep it after a byte
pub kept_going : (caught more : Caught) (captions : Captions) (answer : Option Why) (next : CdpReader) (now : Frame) (new : Channel) → Keeps caught captions
    → Goes caught more answer next now new → Keeps more (record captions { «open» = Some next; gathered = now; judging = new; refused = answer })
kept_going caught more captions answer next now new keeps goes_on = record {
  refused = sym goes_on.refused;
  is_open = goes_on.is_open;
  judges = goes_on.judges;
  last = subst (λ fs. KeepsLast fs captions.last) (sym goes_on.same) keeps.last;
  channel = subst (λ fs. HasTried (frames_parts fs) captions.channel) (sym goes_on.same) keeps.channel;
  first = subst (λ fs. Leads One (heard One fs) captions.first) (sym goes_on.same) keeps.first;
  second = subst (λ fs. Leads Two (heard Two fs) captions.second) (sym goes_on.same) keeps.second;
  services = subst (λ fs. length fs < 2 ^ 32 → IsHeard (said_triplets fs) → ServesFrames fs captions.served) (sym goes_on.same) keeps.services;
  count = keeps.count ∙ sym (ap (λ fs. length fs % 2 ^ 32) goes_on.same);
}
