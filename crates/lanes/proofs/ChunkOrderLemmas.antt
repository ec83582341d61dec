-- The units of a service stand in the order of their cues; a service without a share has none.
use Rattle.std.proofs.Common.{◌≡◌, ℕ, suc, ◌==◌, Bool, true, false, cond, List, [], ◌∷◌, ◌++◌, Option, Some, None, map, refl, subst, arith}
use Rattle.std.specs.Prelude.{IsSome, if◌then◌else◌}
use Rattle.std.specs.List.{cons_option}
use Rattle.cc_base.specs.declared.rate.Rate.{Rate}
use Rattle.cue_lists.specs.Channels.{cues_of_service, is_of_service}
use Rattle.cue_lists.specs.Listing.{Listing, share_of}
use Rattle.cue_lists.specs.Rules.{IsRuled}
use Rattle.cue_lists.proofs.RulesSaid.{lanes_ruled}
use Rattle.cue_lists.specs.Rules.Sentences.{AreInService}
use Rattle.cue_lists.specs.declared.cue.Cue.{Cue}
use Rattle.cue_lists.specs.declared.cue.Kind.{Kind}
use Rattle.cue_lists.specs.declared.cue.Kind.TheVariants.{Pop, Paint, Roll, Win}
use Rattle.cue_lists.specs.declared.cue.WinCue.{WinCue}
use Rattle.dtvcc_author.specs.Captions.{caption_of, caption_with, service_captions, window_caption}
use Rattle.dtvcc_author.specs.CueUnits.{window_cue_units}
use Rattle.dtvcc_author.specs.declared.caption.Caption.{Caption}
use Rattle.lanes.specs.LaneRoom.{AreInCueOrder, AreOfCuesFrom}
use Rattle.lanes.specs.ServiceChunks.{chunk_of, chunks_with, service_chunk_cue, service_chunks, service_chunks_from}
use Rattle.lanes.specs.Chunks.{ServiceChunk}
use Rattle.lanes.proofs.CaptionsKept.{eqb_turned}

-- the units stand in the order of their cues, none of which is before the cue of this number
record StartAt (number : ℕ) (chunks : List ServiceChunk) : Type 0 where
  from : AreOfCuesFrom service_chunk_cue number chunks
  order : AreInCueOrder service_chunk_cue chunks

-- the units of a caption before the units of later ones
caption_start : (number : ℕ) (c : Caption) (units : List (List ℕ)) (rest : List ServiceChunk) → StartAt number rest
    → StartAt number (map (chunk_of number c) units ++ rest)
caption_start number c [] rest start = start
caption_start number c (unit ∷ units) rest start =
    let behind = caption_start number c units rest start in
    record { from = (omega arith, behind.from); order = (behind.from, behind.order) }

cue_start : (number : ℕ) (c : Option Caption) (units : List (List ℕ)) (rest : List ServiceChunk) → StartAt number rest → StartAt number (chunks_with number c units ++ rest)
cue_start number None units rest start = start
cue_start number (Some c) units rest start = caption_start number c units rest start

-- units of cues from a later number on
of_later_cues : (number : ℕ) (chunks : List ServiceChunk) → AreOfCuesFrom service_chunk_cue (suc number) chunks → AreOfCuesFrom service_chunk_cue number chunks
of_later_cues number [] from = tt
of_later_cues number (chunk ∷ chunks) from = (omega (arith, from.0), of_later_cues number chunks from.1)

service_start : (rate : Rate) (service number : ℕ) (cues : List Cue) → StartAt number (service_chunks_from rate service number cues)
service_start rate service number [] = record { from = tt; order = tt }
service_start rate service number (cue ∷ cues) =
    let behind = service_start rate service (suc number) cues in
    let later : StartAt number (service_chunks_from rate service (suc number) cues) =
    record { from = of_later_cues number (service_chunks_from rate service (suc number) cues) behind.from; order = behind.order } in
    cue_start number (caption_of rate service cue) (window_cue_units cue) (service_chunks_from rate service (suc number) cues) later

-- the units of a service stand in the order of their cues
pub chunks_in_order : (rate : Rate) (service : ℕ) (cues : List Cue) → AreInCueOrder service_chunk_cue (service_chunks rate service cues)
chunks_in_order rate service cues = (service_start rate service 1 cues).order

-- a service that is sent nothing: none of its cues is a caption's
record IsUnsent (rate : Rate) (service : ℕ) (cues : List Cue) : Type 0 where
  captions : service_captions rate service cues ≡ []
  chunks : (number : ℕ) → service_chunks_from rate service number cues ≡ []

not_some : (o : Option ℕ) → o ≡ None → IsSome o → ⊥
not_some None none some = cc
not_some (Some x) none some = cc

-- no cue is of a service without a share
all_unsent : (l : Listing) (service : ℕ) → share_of l service ≡ None → (cues : List Cue) → AreInService l service (cues_of_service service cues)
    → IsUnsent l.rate service cues
all_unsent l service none [] ruled = record { captions = refl; chunks = λ number. refl }
all_unsent l service none (cue ∷ cues) ruled = at cue.kind refl ruled (all_unsent l service none cues)
  where
    Sent : Option Caption → Type 0
    Sent c = (cons_option c (service_captions l.rate service cues) ≡ [])
        × ((number : ℕ) → chunks_with number c (window_cue_units cue) ++ service_chunks_from l.rate service (suc number) cues ≡ [])

    unsent : IsUnsent l.rate service cues → Sent None
    unsent rest = (rest.captions, λ number. rest.chunks (suc number))

    more : (w : WinCue) (b : Bool) → AreInService l service (cond b (cue ∷ cues_of_service service cues) (cues_of_service service cues))
        → (AreInService l service (cues_of_service service cues) → IsUnsent l.rate service cues)
        → Sent (if b then Some (window_caption l.rate w cue) else None)
    more w true ruled rest = absurd (not_some (share_of l service) none ruled.0.shared)
    more w false ruled rest = unsent (rest ruled)

    kinds : (k : Kind) → AreInService l service (cond (is_of_service service k) (cue ∷ cues_of_service service cues) (cues_of_service service cues))
        → (AreInService l service (cues_of_service service cues) → IsUnsent l.rate service cues)
        → Sent (caption_with l.rate service k cue)
    kinds (Pop channel) ruled rest = unsent (rest ruled)
    kinds (Paint channel) ruled rest = unsent (rest ruled)
    kinds (Roll channel rows) ruled rest = unsent (rest ruled)
    kinds (Win w) ruled rest =
        more w (w.service == service)
        (subst (λ b. AreInService l service (cond b (cue ∷ cues_of_service service cues) (cues_of_service service cues))) (eqb_turned service w.service) ruled)
        rest

    at : (k : Kind) → cue.kind ≡ k → AreInService l service (cond (is_of_service service cue.kind) (cue ∷ cues_of_service service cues) (cues_of_service service cues))
        → (AreInService l service (cues_of_service service cues) → IsUnsent l.rate service cues)
        → IsUnsent l.rate service (cue ∷ cues)
    at k is ruled rest = let all = kinds cue.kind ruled rest in record { captions = all.0; chunks = all.1 }

-- a service without a share has no captions and no units
pub none_sent : (l : Listing) (service : ℕ) → IsRuled l → share_of l service ≡ None
    → (service_captions l.rate service l.cues ≡ []) × (service_chunks l.rate service l.cues ≡ [])
none_sent l service ruled none = let all = all_unsent l service none l.cues ((lanes_ruled l ruled).services service) in (all.captions, all.chunks 1)
