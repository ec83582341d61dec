-- Of every side file and every input `insert` makes something.
use Rattle.std.proofs.Common.{◌≡◌, ◌∙◌, ◌⊎◌, ◌++◌, ◌∷◌, ap, append_assoc, bit_or, false, inl, inr, length, not, refl, subst, true, All, ℕ, List, []}
use Rattle.std.proofs.lemmas.Bool.{cases_Bool, cases_eq, cases_lt}
use Rattle.std.proofs.lemmas.List.Elements.{All-append, All-cons, All-nil}
use Rattle.anc_words.specs.Packets.{AncillaryPacket, IsCaption, user_bytes}
use Rattle.anc_words.specs.WordsFiles.{IsPacketBytes}
use Rattle.cc_base.specs.Rate.{rate_code}
use Rattle.cc_base.specs.declared.limit_of.LimitOf.TheVariants as limit
use Rattle.cc_data.specs.declared.triplet.Triplet.{Triplet}
use Rattle.cdp_packets.specs.Packets.{Frame, IsCdp}
use Rattle.cdp_packets.specs.Written.{cc_data_section}
use Rattle.command_base.specs.declared.status.Status.{Status}
use Rattle.command_base.specs.declared.status.Status.TheVariants as status
use Rattle.cue_list_commands.proofs.EveryLemmas.{placed_judged}
use Rattle.cue_list_commands.proofs.Refusals.{are_refusals}
use Rattle.cue_list_commands.specs.Accepted.{IsRefused}
use Rattle.cue_list_commands.specs.Output.{IsPlacedAs, PlacedList, framing_of}
use Rattle.findings.specs.declared.finding.Finding.{Finding}
use Rattle.findings.specs.declared.finding.Kind45.TheVariants as kind
use Rattle.cue_list_commands.specs.Framing.{Framing}
use Rattle.insert_commands.proofs.SoundLemmas.{insertions_sound}
use Rattle.insert_commands.proofs.StepLemmas.{same_rate}
use Rattle.insert_commands.specs.Captions.{captions_of}
use Rattle.insert_commands.specs.InsertedFile.{AreInserted, BringsFrame}
use Rattle.insert_commands.specs.InsertedFile.AreInserted.{nothing, foreign as copied, caption as replaced}
use Rattle.insert_commands.specs.Soundness.{HaveRate}
use Rattle.packet_inserter.proofs.InsertionLemmas.{split_at_place}
use Rattle.packet_inserter.specs.Insertion.{IsInserted, IsPlace, StandBeforeCaptions, is_captions, is_kept, is_time_code_section, packet_length}
use Rattle.services_files.specs.CaptionChannel.{caption_channel}
use Rattle.words_files.proofs.FramesOfLemmas.{file_frames, frames_of_once}
use Rattle.words_files.specs.CarriedWords.{carried_words}
use Rattle.words_files.specs.FramesOf.{AreFramesOf}
use Rattle.words_files.specs.Offences.{IsFileUnder, IsUnoffending}
use Rattle.command_base.specs.Exact.{IsFault, HasVerdict}
use Rattle.insert_commands.specs.InsertVerdict.{InsertEnd, InsertHalts, InsertVerdict, InsertWords, SaysInserted}
use Rattle.command_base.proofs.JudgedLemmas.{beside_made}
use Rattle.words_reading.proofs.EveryLemmas.{HaltsIn, IsSaid, every_words}
use Rattle.words_reading.proofs.WalkLemmas.{walk}

-- sections have a place for a new one
abbrev Kept : List ℕ → Type 0
Kept section = is_kept section ≡ true

captions_or_kept : (sections : List (List ℕ)) → ((before : List (List ℕ)) × StandBeforeCaptions sections before) ⊎ All Kept sections
captions_or_kept [] = inr (All-nil Kept)
captions_or_kept (section ∷ sections) = elim (cases_Bool (is_captions section)) [
  | inl first ↦ inl ([], record { first = section; behind = sections; cut = refl; is_first = first; none_before = All-nil Kept })
  | inr other ↦ elim (captions_or_kept sections) [
    | inr all ↦ inr (All-cons Kept section sections (ap not other) all)
    | inl (before, stand) ↦ inl (
      section ∷ before,
      record {
        first = stand.first;
        behind = stand.behind;
        cut = ap (λ s. section ∷ s) stand.cut;
        is_first = stand.is_first;
        none_before = All-cons Kept section before (ap not other) stand.none_before;
      },
    )
  ]
]

abbrev TimeCode : List ℕ → Type 0
TimeCode section = is_time_code_section section ≡ true

-- the first section that isn't a time code
record FirstOther (sections before : List (List ℕ)) : Type 0 where
  codes : All TimeCode before
  first : List ℕ
  behind : List (List ℕ)
  cut : sections ≡ before ++ first ∷ behind
  is_first : is_time_code_section first ≡ false

other_or_codes : (sections : List (List ℕ)) → ((before : List (List ℕ)) × FirstOther sections before) ⊎ All TimeCode sections
other_or_codes [] = inr (All-nil TimeCode)
other_or_codes (section ∷ sections) = elim (cases_Bool (is_time_code_section section)) [
  | inr other ↦ inl ([], record { codes = All-nil TimeCode; first = section; behind = sections; cut = refl; is_first = other })
  | inl code ↦ elim (other_or_codes sections) [
    | inr all ↦ inr (All-cons TimeCode section sections code all)
    | inl (before, other) ↦ inl (
      section ∷ before,
      record {
        codes = All-cons TimeCode section before code other.codes;
        first = other.first;
        behind = other.behind;
        cut = ap (λ s. section ∷ s) other.cut;
        is_first = other.is_first;
      },
    )
  ]
]

place_of : (sections : List (List ℕ)) → (before : List (List ℕ)) × IsPlace sections before
place_of sections = elim (captions_or_kept sections) [
  | inl (before, stand) ↦ (before, inl stand)
  | inr all ↦ elim (other_or_codes sections) [
    | inl (before, other) ↦
        (before, inr (inl (record { none = all; time_codes = other.codes; first = other.first; behind = other.behind; cut = other.cut; is_first = other.is_first })))
    | inr codes ↦ (sections, inr (inr (record { time_codes = codes; all = refl })))
  ]
]

-- so captions are inserted in every packet
inserted : (triplets : List Triplet) (old : Frame) → (new : Frame) × IsInserted triplets old new
inserted triplets old =
    let (before, place) = place_of old.sections in
    let split = split_at_place old.sections before place in (
      record { rate = old.rate; flags = bit_or old.flags 0x42; counter = old.counter; sections = before ++ cc_data_section triplets ∷ split.behind },
      record {
        rate = refl;
        flags = refl;
        counter = refl;
        sections = record { before = before; behind = split.behind; place = place; kept = split.kept; new_is = refl };
      },
    )

module _ (made : PlacedList) where
  abbrev framing : Framing
  framing = framing_of made

  abbrev captions : ℕ → List Triplet
  captions = captions_of framing

  -- captions are inserted in a file of frames of the list's rate
  record IsGood (frames : List Frame) (file : List ℕ) : Type 0 where
    text : List ℕ
    are : AreInserted captions frames file text
    rates : HaveRate framing.rate frames

  -- a run stops with bytes
  abbrev Stops : List ℕ → Type 0
  Stops bytes = (answer : Status) × (text : List ℕ) × (IsFault answer → ⊥) × InsertHalts made answer bytes text

  good_none : IsGood [] []
  good_none = record { text = []; are = nothing captions; rates = All-nil (λ (f : Frame). f.rate ≡ framing.rate) }

  good_foreign : (frames : List Frame) (file bytes : List ℕ) (packet : AncillaryPacket) → IsGood frames file → IsPacketBytes packet bytes → (IsCaption packet → ⊥)
      → IsFileUnder caption_channel frames (file ++ bytes) → IsUnoffending caption_channel (file ++ bytes) → IsGood frames (file ++ bytes) ⊎ Stops (file ++ bytes)
  good_foreign frames file bytes packet good is isnt under fine =
      inl (record {
        text = good.text ++ bytes;
        are = copied captions frames file good.text bytes (file ++ bytes) (good.text ++ bytes) good.are (record { packet = packet; is = is; is_foreign = isnt }) refl refl;
        rates = good.rates;
      })

  good_caption : (frames : List Frame) (last : Frame) (file bytes : List ℕ) (packet : AncillaryPacket) → IsGood frames file → IsPacketBytes packet bytes → IsCaption packet
      → IsCdp last (user_bytes packet) → IsFileUnder caption_channel (frames ++ last ∷ []) (file ++ bytes) → IsUnoffending caption_channel (file ++ bytes)
      → IsGood (frames ++ last ∷ []) (file ++ bytes) ⊎ Stops (file ++ bytes)
  good_caption frames last file bytes packet good is is_caption carries under fine = elim (cases_eq (rate_code last.rate) (rate_code framing.rate)) [
    | inr other ↦
        let finding : Finding = record { frame = length frames; kind = kind.WrongRate framing.rate last.rate } in
        inr (
          status.Differs finding,
          good.text,
          λ fault. fault,
          record {
            frames = frames;
            last = last;
            is_file = under;
            file = file;
            packet = bytes;
            spelled = refl;
            brings = record { packet = packet; is = is; is_caption = is_caption; carries = carries };
            inserted = good.are;
            rates = good.rates;
            is = (λ same. other (ap rate_code same), refl);
          },
        )
    | inl rate ↦
        let right = same_rate last.rate framing.rate rate in
        let (new, put) = inserted (captions (length frames)) last in
        let brings : BringsFrame last bytes = record { packet = packet; is = is; is_caption = is_caption; carries = carries } in
        elim (cases_lt 255 (packet_length new)) [
          | inl long ↦
              inr (
                status.Limit limit.Packet,
                good.text,
                λ fault. fault,
                record {
                  frames = frames;
                  last = last;
                  is_file = under;
                  file = file;
                  packet = bytes;
                  spelled = refl;
                  brings = brings;
                  inserted = good.are;
                  rates = good.rates;
                  is = (right, (new, put, long));
                },
              )
          | inr fits ↦
              let Same : Frame → Type 0 = λ f. f.rate ≡ framing.rate in
              inl (record {
                text = good.text ++ carried_words new;
                are = replaced captions frames (frames ++ last ∷ []) last new file good.text bytes (file ++ bytes) (good.text ++ carried_words new) good.are brings put fits
                    refl refl refl;
                rates = All-append Same frames (last ∷ []) good.rates (All-cons Same last [] right (All-nil Same));
              })
        ]
  ]

  -- so of bytes that bring frames a text is said, or a run stops within them
  insert_judges : (bytes : List ℕ) (frames : List Frame) → AreFramesOf caption_channel frames bytes
      → IsSaid (InsertEnd made) (SaysInserted framing) (InsertHalts made) bytes ⊎ HaltsIn (InsertEnd made) (SaysInserted framing) (InsertHalts made) bytes
  insert_judges bytes frames are = elim (walk IsGood Stops good_foreign good_caption frames are.file good_none are.is_file) [
    | inl good ↦ inl (good.text, record { frames = frames; frames_are = are; inserted = good.are; rates = good.rates })
    | inr (judged, rest, is, (answer, text, plain, halts)) ↦
        inr (answer, text, judged, rest ++ are.behind, are.spelled ∙ (ap (λ b. b ++ are.behind) is ∙ append_assoc judged rest are.behind), plain, halts)
  ]

  insert_ends : (aside : List ℕ) → IsPlacedAs aside made → (input text : List ℕ) (frames : List Frame) → IsFileUnder caption_channel frames input → SaysInserted framing input text
      → (answer : Status) × (out : List ℕ) × (IsFault answer → ⊥) × InsertEnd made answer input out
  insert_ends aside accepted input text frames file says =
      let same = frames_of_once caption_channel frames says.frames input (file_frames caption_channel frames input file) says.frames_are in
      let own = subst (λ fs. IsFileUnder caption_channel fs input) same file in
      elim (cases_lt (length says.frames) made.list.frames) [
        | inl few ↦ (status.Short (length says.frames), text, λ fault. fault, (says, own, refl, few))
        | inr enough ↦ (
          status.Ok,
          text,
          λ fault. fault,
          (
            says,
            own,
            enough,
            insertions_sound aside made.list made.placed says.frames says.frames_are.file text accepted says.inserted says.rates enough,
          ),
        )
      ]

insert_made : (aside : List ℕ) (made : PlacedList) → IsPlacedAs aside made → HasVerdict (λ side. InsertWords made)
insert_made aside made accepted =
    every_words (InsertEnd made) (SaysInserted (framing_of made)) (InsertHalts made) (insert_judges made) (insert_ends made aside accepted)

pub every_insert : HasVerdict InsertVerdict
every_insert = beside_made IsPlacedAs IsRefused InsertWords are_refusals insert_made placed_judged
