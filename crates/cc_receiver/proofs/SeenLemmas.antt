-- What is seen of the services of a receiver is what its frames leave.
use Rattle.std.proofs.Common.{◌≡◌, ◌∙◌, ◌+◌, ◌-◌, ◌<◌, ◌≤◌, ◌⊎◌, inl, inr, ℕ, List, ◌++◌, Option, Some, None, length, get_or, refl, ap, sym, arith}
use Rattle.std.specs.Prelude.{slice_get}
use Rattle.std.proofs.lemmas.Option.{slice_get_cases}
use Rattle.cdp_packets.specs.Packets.{Frame}
use Rattle.services_files.specs.Meaning.{Event, served_after, start}
use Rattle.services_files.specs.Screens.{ScreenState}
use Rattle.services_files.specs.Shown.{grids}
use Rattle.dtvcc_services.specs.Numbers.{IsService}
use Rattle.dtvcc_services.specs.declared.members.Member.{Member}
use Rattle.services_files.specs.FramesOf.{AreFramesOf}
use Rattle.services_files.specs.CaptionChannel.{caption_channel}
use Rattle.cc_receiver.specs.declared.receiver.Receiver.{Receiver}
use Rattle.cc_receiver.specs.ReceivedServices.{received_windows}
use Rattle.cc_receiver.specs.Receivers.{HasReceived}
use Rattle.cc_receiver.specs.SeenServices.{seen_of_member, seen_windows}
use Rattle.cc_receiver.proofs.ServedLemmas.{IsServed, received_events}

-- each service has its place
there : (members : List Member) (place : ℕ) → place < length members → slice_get members place ≡ None → ⊥
there members place within none = at (slice_get_cases members place).1
  where
    at : ((x : Member) × (place < length members) × (slice_get members place ≡ Some x) × (get_or members place x ≡ x)) ⊎ ((length members ≤ place) × (slice_get members place ≡ None)) → ⊥
    at (inl (x, below, is, same)) = let both : Some x ≡ None = sym is ∙ none in cc
    at (inr (past, is)) = omega (arith, past, within)

pub windows_received : (frames : List Frame) (bytes : List ℕ) (receiver : Receiver) (service id : ℕ) → HasReceived bytes receiver
    → AreFramesOf caption_channel frames bytes → IsService service → seen_windows receiver service id ≡ received_windows frames service id
windows_received frames bytes receiver service id had are numbered = at (slice_get receiver.captions.served.services.members.items (service - 1)) refl
  where
    served : IsServed frames receiver
    served = received_events frames bytes receiver had are

    at : (o : Option Member) → slice_get receiver.captions.served.services.members.items (service - 1) ≡ o → seen_of_member o id ≡ received_windows frames service id
    at None none =
        let count = receiver.captions.served.services.count in
        absurd (there receiver.captions.served.services.members.items (service - 1) (omega (arith, count, numbered.from, numbered.to)) none)
    at (Some member) some =
        let place : service - 1 + 1 ≡ service = omega (arith, numbered.from) in
        ap (λ (s : ScreenState). grids s id) (served.leads.serves (service - 1) member some).stands.carries.screen
        ∙ ap (λ (events : List Event). grids (served_after start events).core.screen id)
        (ap (λ (n : ℕ). served.earlier n ++ served.last n) place ∙ served.all service)
