-- Of all words `convert` makes one status: a frame after fit ones is fit, or has a first misfit.
use Rattle.std.proofs.Common.{◌≡◌, ◌∙◌, ◌+◌, ◌-◌, ◌≤◌, ◌⊎◌, ◌++◌, ◌∷◌, ap, arith, inl, inr, length, refl, subst, sym, All, ℕ, List, [], Some}
use Rattle.std.proofs.lemmas.Bool.{cases_eq, cases_lt}
use Rattle.std.proofs.lemmas.List.Elements.{All-append, All-cons, All-nil}
use Rattle.cc_base.specs.Rate.{rate_code, rate_of}
use Rattle.cc_base.specs.declared.rate.Rate.TheVariants.{F2997}
use Rattle.words_reading.specs.CaptionChannel.{caption_channel}
use Rattle.words_reading.specs.Events.{service_events}
use Rattle.words_reading.specs.Numbers.{IsService}
use Rattle.words_reading.specs.ReceivedServices.{received_windows}
use Rattle.cdp_packets.proofs.PacketLemmas.{rate_of-code}
use Rattle.cdp_packets.specs.PacketTriplets.{packet_triplets}
use Rattle.cdp_packets.specs.Packets.{Frame}
use Rattle.channel_packets.specs.ChannelPackets.{channel_triplets}
use Rattle.command_base.specs.Exact.{HasVerdict, IsFault}
use Rattle.command_base.specs.declared.status.Status.{Status}
use Rattle.command_base.specs.declared.status.Status.TheVariants as status
use Rattle.convert_commands.proofs.VerdictLemmas.{IsUnfit}
use Rattle.convert_commands.specs.ConvertVerdict.{ConvertHalts, ConvertVerdict}
use Rattle.convert_commands.specs.Converting.{AreConverted}
use Rattle.convert_commands.proofs.AnswerLemmas.{ConvertEnd}
use Rattle.findings.specs.First.{IsFirstTried}
use Rattle.findings.specs.declared.finding.Which.TheVariants as which
use Rattle.findings.specs.declared.misfit.MisfitKind.{MisfitKind}
use Rattle.findings.specs.declared.misfit.MisfitKind.TheVariants as misfit
use Rattle.line21_codes.specs.declared.channels.FieldNumber.{FieldNumber}
use Rattle.line21_codes.specs.declared.channels.FieldNumber.TheVariants.{One, Two}
use Rattle.rate_convert.proofs.FitLemmas.{channels_kept, convertible_behind, fit_more, fit_of_none}
use Rattle.rate_convert.proofs.HalverLemmas.{service_misfit}
use Rattle.rate_convert.proofs.SortedLemmas.{count_misfit, many_misfit, one_misfit, rate_misfit, two_misfit}
use Rattle.rate_convert.specs.Conversion.{IsConvertible, conversion, conversion_bytes, of_field}
use Rattle.rate_convert.specs.Differing.{Differ, IsFirstService, LookAlike}
use Rattle.rate_convert.specs.Misfits.{AreFit, Holds, IsFit, rank}
use Rattle.windows_decided.proofs.FirstLemmas.{all_decided, first_or_all}
use Rattle.windows_decided.proofs.SeenLemmas.{windows_decided}
use Rattle.windows_decided.specs.Decided.{Decided}
use Rattle.words_files.specs.FramesOf.{AreFramesOf}
use Rattle.words_reading.proofs.EveryLemmas.{HaltsIn, IsSaid, every_words}
use Rattle.words_reading.proofs.WalkLemmas.{frames_judged}
use Rattle.words_reading.proofs.WordsLemmas.{said_of}
use Rattle.words_reading.specs.FrameTexts.{FramesHalt}

-- of two lists of frames each service is seen alike, or one is the first that isn't
module _ (frames others : List Frame) where
  abbrev Alike : ℕ → Type 0
  Alike service = LookAlike (received_windows frames) (received_windows others) service

  abbrev SameWindow : ℕ → ℕ → Type 0
  SameWindow service id = received_windows others service id ≡ received_windows frames service id

  window_alike : (service id : ℕ) → Decided (SameWindow service id)
  window_alike service = windows_decided (service_events service others) (service_events service frames)

  service_decided : (service : ℕ) → Decided (Alike service)
  service_decided service = all_decided (SameWindow service) (window_alike service) 8

  differ_of : (service : ℕ) → (Alike service → ⊥) → Differ (received_windows frames) (received_windows others) service
  differ_of service other = elim (first_or_all (SameWindow service) (window_alike service) 8) [
    | inl all ↦ absurd (other all)
    | inr (id, small, differs, before) ↦ (id, small, differs)
  ]

  -- services are numbered from 1
  numbered : (service : ℕ) → 1 ≤ service → Alike (service - 1 + 1) → Alike service
  numbered service least alike = let same : service - 1 + 1 ≡ service = omega (arith, least) in subst Alike same alike

  services_decided : ((service : ℕ) → IsService service → Alike service)
      ⊎ ((service : ℕ) × IsFirstService (received_windows frames) (received_windows others) service)
  services_decided = elim (first_or_all (λ n. Alike (n + 1)) (λ n. service_decided (n + 1)) 63) [
    | inl all ↦
        inl (λ service is. let least = is.from in let most = is.to in numbered service least (all (service - 1) (omega (arith, least, most))))
    | inr (n, small, other, before) ↦ inr (
      n + 1,
      record {
        numbered = record { from = omega arith; to = omega (arith, small) };
        differs = differ_of (n + 1) other;
        before = λ sooner least less. numbered sooner least (before (sooner - 1) (omega (arith, least, less)));
      },
    )
  ]

-- a frame can be converted, or has a misfit
module _ (earlier : List Frame) (last : Frame) where
  abbrev Misfits : Type 0
  Misfits = (kind : MisfitKind) × IsFirstTried (Holds earlier last) rank kind

  convertible_or_not : IsConvertible last ⊎ Misfits
  convertible_or_not = by_rate
    where
      few : length (of_field One (packet_triplets last)) ≤ 1 → length (of_field Two (packet_triplets last)) ≤ 1
          → (in_field : FieldNumber) → length (of_field in_field (packet_triplets last)) ≤ 1
      few one two One = one
      few one two Two = two

      by_many : last.rate ≡ F2997 → length (packet_triplets last) ≡ 20 → length (of_field One (packet_triplets last)) ≤ 1 → length (of_field Two (packet_triplets last)) ≤ 1
          → IsConvertible last ⊎ Misfits
      by_many rate count one two = elim (cases_lt 18 (length (channel_triplets (packet_triplets last)))) [
        | inl more ↦ inr (misfit.Many _, many_misfit earlier last _ (record { rate = rate; count = count }) one two more refl)
        | inr most ↦ inl (record { rate = rate; count = count; few = few one two; most = most })
      ]

      by_fields : last.rate ≡ F2997 → length (packet_triplets last) ≡ 20 → IsConvertible last ⊎ Misfits
      by_fields rate count = elim (cases_lt 1 (length (of_field One (packet_triplets last)))) [
        | inl more ↦ inr (misfit.One _, one_misfit earlier last _ (record { rate = rate; count = count }) more refl)
        | inr one ↦ elim (cases_lt 1 (length (of_field Two (packet_triplets last)))) [
          | inl more ↦ inr (misfit.Two _, two_misfit earlier last _ (record { rate = rate; count = count }) one more refl)
          | inr two ↦ by_many rate count one two
        ]
      ]

      by_count : last.rate ≡ F2997 → IsConvertible last ⊎ Misfits
      by_count rate = elim (cases_eq (length (packet_triplets last)) 20) [
        | inr other ↦ inr (misfit.Count _, count_misfit earlier last _ rate (other, refl))
        | inl count ↦ by_fields rate count
      ]

      by_rate : IsConvertible last ⊎ Misfits
      by_rate = elim (cases_eq (rate_code last.rate) (rate_code F2997)) [
        | inr other ↦ inr (misfit.Rate _, rate_misfit earlier last _ ((λ same. other (ap rate_code same)), refl))
        | inl code ↦
            let both : Some last.rate ≡ Some F2997 = sym (rate_of-code last.rate) ∙ ap rate_of code ∙ rate_of-code F2997 in
            by_count (let same : last.rate ≡ F2997 = cc in same)
      ]

  -- and what is seen after it stays as it is, or a service changes
  fit_or_not : AreFit earlier → IsFit earlier last ⊎ Misfits
  fit_or_not fit = elim convertible_or_not [
    | inr misfits ↦ inr misfits
    | inl is ↦
        let all : All IsConvertible (earlier ++ last ∷ []) =
        All-append IsConvertible earlier (last ∷ []) (convertible_behind [] earlier fit) (All-cons IsConvertible last [] is (All-nil IsConvertible)) in
        elim (services_decided (earlier ++ last ∷ []) (conversion (earlier ++ last ∷ []))) [
          | inl alike ↦ inl (record { convertible = is; keeps = record { channels = channels_kept (earlier ++ last ∷ []) all; services = alike } })
          | inr (service, first) ↦ inr (misfit.Changed (which.Service service), service_misfit earlier last service fit is first)
        ]
  ]

  decides : AreFit earlier → AreFit (earlier ++ last ∷ []) ⊎ ((answer : Status) × IsUnfit answer earlier last)
  decides fit = elim (fit_or_not fit) [
    | inl is ↦ inl (fit_more earlier last fit is)
    | inr (kind, first) ↦ inr (status.Misfit (record { frame = length earlier; kind = kind }), (refl, first))
  ]

-- a run that stops at a frame has a misfit there
halts_of : (answer : Status) (judged text : List ℕ) → FramesHalt conversion_bytes AreFit (IsUnfit answer) judged text → (IsFault answer → ⊥) × ConvertHalts answer judged text
halts_of (status.Misfit found) judged text halts = (λ fault. fault, halts)
halts_of _ judged text halts = absurd halts.is

judges : (bytes : List ℕ) (frames : List Frame) → AreFramesOf caption_channel frames bytes
    → IsSaid ConvertEnd AreConverted ConvertHalts bytes ⊎ HaltsIn ConvertEnd AreConverted ConvertHalts bytes
judges bytes frames are = elim (frames_judged AreFit IsUnfit fit_of_none decides conversion_bytes bytes frames are) [
  | inl fit ↦ inl (conversion_bytes frames, record { frames = frames; frames_are = are; fit = fit; text_is = refl })
  | inr (answer, text, judged, rest, is, halts) ↦ let (plain, so) = halts_of answer judged text halts in inr (answer, text, judged, rest, is, plain, so)
]

pub every_convert : HasVerdict (λ aside. ConvertVerdict)
every_convert =
    every_words ConvertEnd AreConverted ConvertHalts judges
    (λ input text frames file says. (status.Ok, text, λ fault. fault, said_of conversion_bytes AreFit frames input text file says))
