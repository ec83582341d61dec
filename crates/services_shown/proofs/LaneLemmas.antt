-- Each service of a list is given the bytes of its lane.
use Rattle.std.proofs.Common.{◌≡◌, ◌∙◌, ℕ, zero, suc, ◌≤◌, ◌==◌, if◌then◌else◌, Bool, true, false, List, [], ◌∷◌, ◌++◌, Option, Some, None, refl, sym, ap, arith, append-nil}
use Rattle.std.specs.List.{flat_map}
use Rattle.std.proofs.lemmas.Bool.{eqb-true}
use Rattle.std.proofs.lemmas.Grind.{flat_map-append}
use Rattle.line21_shown.specs.Listing.{IsFormed, Listing, share_of}
use Rattle.line21_shown.specs.Rules.{IsRuled}
use Rattle.line21_shown.specs.Lane.TheVariants.{Service}
use Rattle.frame_carrier.specs.Planned.{Placement, columns_of, service_bytes, services}
use Rattle.services_shown.specs.PlacedServices.{AreServicesPlaced}
use Rattle.frame_carrier.proofs.ServicesLemmas.{share_is, unshared}
use Rattle.services_shown.specs.ServicesCarried.{Sent}
use Rattle.services_shown.specs.Told.{HighAreUnshared, ServicesAreTold, sent_to}
use Rattle.services_shown.proofs.RoomLemmas.{blocks_sent, has_blocks, sent_of, unshared_silent}
use Rattle.services_shown.proofs.ToldLemmas.{columns_told, told_same}

pub high_unshared : HighAreUnshared
high_unshared l formed ruled service high = unshared l formed ruled service (λ least most. omega (arith, high, most))

-- the bytes of one service in what is sent to one
abbrev one_of : ℕ → ℕ → List ℕ → List ℕ
one_of service other bytes = if other == service then bytes else []

one_sent_to : (service other : ℕ) (bytes : List ℕ) → sent_to service (sent_of other bytes) ≡ one_of service other bytes
one_sent_to service other [] = at (other == service)
  where
    at : (b : Bool) → [] ≡ (let bytes : List ℕ = if b then [] else [] in bytes)
    at true = refl
    at false = refl
one_sent_to service other (byte ∷ bytes) = append-nil (one_of service other (byte ∷ bytes))

module _ (service : ℕ) (own : ℕ → List ℕ) where
  -- and in what is sent to services
  all_sent_to : (ss : List ℕ) → sent_to service (flat_map (λ s. sent_of s (own s)) ss) ≡ flat_map (λ s. one_of service s (own s)) ss
  all_sent_to [] = refl
  all_sent_to (s ∷ ss) =
      flat_map-append (λ (one : Sent). one_of service one.service one.bytes) (sent_of s (own s)) (flat_map (λ s. sent_of s (own s)) ss)
      ∙ ap (λ bytes. bytes ++ sent_to service (flat_map (λ s. sent_of s (own s)) ss)) (one_sent_to service s (own s))
      ∙ ap (λ bytes. one_of service s (own s) ++ bytes) (all_sent_to ss)

  -- nothing where it has nothing
  none_sent_to : own service ≡ [] → (ss : List ℕ) → flat_map (λ s. one_of service s (own s)) ss ≡ []
  none_sent_to nothing [] = refl
  none_sent_to nothing (s ∷ ss) = ap (λ bytes. bytes ++ flat_map (λ s. one_of service s (own s)) ss) (at (s == service) refl) ∙ none_sent_to nothing ss
    where
      at : (b : Bool) → (s == service) ≡ b → (let bytes : List ℕ = if b then own s else [] in bytes) ≡ []
      at true is = let same : s ≡ service = eqb-true s service is in ap own same ∙ nothing
      at false is = refl

-- just its bytes where it is one of the services
low_sent_to : (own : ℕ → List ℕ) (service : ℕ) → 1 ≤ service → service ≤ 6 → flat_map (λ s. one_of service s (own s)) services ≡ own service
low_sent_to own zero least most = absurd (omega arith)
low_sent_to own (suc zero) least most = append-nil (own 1)
low_sent_to own (suc (suc zero)) least most = append-nil (own 2)
low_sent_to own (suc (suc (suc zero))) least most = append-nil (own 3)
low_sent_to own (suc (suc (suc (suc zero)))) least most = append-nil (own 4)
low_sent_to own (suc (suc (suc (suc (suc zero))))) least most = append-nil (own 5)
low_sent_to own (suc (suc (suc (suc (suc (suc zero)))))) least most = append-nil (own 6)
low_sent_to own (suc (suc (suc (suc (suc (suc (suc n))))))) least most = absurd (omega arith)

module _ (l : Listing) (placed : Placement) (formed : IsFormed l) (ruled : IsRuled l) (all : AreServicesPlaced l placed) where
  abbrev own : ℕ → ℕ → List ℕ
  own frame service = service_bytes l service (placed (Service service)) frame

  -- what a service is sent in a frame is what its lane has there
  pub lane_sent : (service frame : ℕ) → sent_to service (has_blocks l placed formed ruled all frame).sent ≡ own frame service
  lane_sent service frame =
      ap (sent_to service) (blocks_sent l placed formed ruled all frame) ∙ all_sent_to service (own frame) services ∙ at (share_of l service) refl
    where
      at : (o : Option ℕ) → share_of l service ≡ o → flat_map (λ s. one_of service s (own frame s)) services ≡ own frame service
      at None none =
          let nothing = (unshared_silent l formed ruled service none).bytes (placed (Service service)) frame in
          none_sent_to service (own frame) nothing services ∙ sym nothing
      at (Some share) some =
          let is = share_is l formed ruled service share some in
          low_sent_to (own frame) service is.0 is.1

pub services_told : ServicesAreTold
services_told l placed formed ruled all service k below =
    columns_told l.rate (columns_of l placed) l.frames (has_blocks l placed formed ruled all) service k below
    ∙ told_same l.rate (λ frame. sent_to service (has_blocks l placed formed ruled all frame).sent) (service_bytes l service (placed (Service service)))
    (lane_sent l placed formed ruled all service) k
