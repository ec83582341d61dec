-- The laws of concealed frames.
use Rattle.std.proofs.Common.{◌≡◌, ◌∙◌, Bool, true, if◌then◌else◌, List, [], ◌∷◌, ◌++◌, map, reverse, All, refl, sym, ap, append_assoc}
use Rattle.std.proofs.lemmas.Bool.{and_parts}
use Rattle.std.proofs.lemmas.List.{reverse-append, reverse-reverse}
use Rattle.std.proofs.lemmas.List.Elements.{All-head, All-tail}
use Rattle.line21_codes.specs.declared.pairs.Pair.{Pair}
use Rattle.line21_codes.specs.Channels.{data_channel_of, field_of_channel}
use Rattle.line21_codes.specs.Parity.{has_odd_parity, is_odd}
use Rattle.line21_screen.specs.Fields.{channel}
use Rattle.line21_screen.specs.Meaning.{after}
use Rattle.cdp_packets.specs.Packets.{Frame}
use Rattle.words_files.specs.Received.{received_pairs}
use Rattle.cc_receiver.specs.ReceivedServices.{received_windows}
use Rattle.cc_conceal.specs.Concealed.{concealed, heard_back, heard_of}
use Rattle.cc_conceal.specs.Laws.{GoOn, WholeIsReceived}

-- where no counter jumps all are heard
goes_along : (frames : List Frame) (f : Frame) (earlier : List Frame) → GoOn (f ∷ frames) → heard_back (f ∷ earlier) ≡ f ∷ earlier
    → heard_back (reverse frames ++ f ∷ earlier) ≡ reverse frames ++ f ∷ earlier
goes_along [] f earlier on all = all
goes_along (g ∷ frames) f earlier on all =
    let front : reverse (g ∷ frames) ++ f ∷ earlier ≡ reverse frames ++ g ∷ f ∷ earlier =
    ap (λ (l : List Frame). l ++ f ∷ earlier) (reverse-append (g ∷ []) frames) ∙ append_assoc (reverse frames) (g ∷ []) (f ∷ earlier) in
    let more : heard_back (g ∷ f ∷ earlier) ≡ g ∷ f ∷ earlier =
    ap (λ (b : Bool). g ∷ (if b then heard_back (f ∷ earlier) else [])) on.0 ∙ ap (λ (l : List Frame). g ∷ l) all in
    ap heard_back front ∙ goes_along frames g (f ∷ earlier) on.1 more ∙ sym front

all_heard : (frames : List Frame) → GoOn frames → heard_of frames ≡ frames
all_heard [] on = refl
all_heard (f ∷ frames) on =
    let newest : reverse (f ∷ frames) ≡ reverse frames ++ f ∷ [] = reverse-append (f ∷ []) frames in
    ap reverse (ap heard_back newest ∙ goes_along frames f [] on refl ∙ sym newest) ∙ reverse-reverse (f ∷ frames)

-- pairs of good parity stand for themselves
all_plain : (pairs : List Pair) → All (λ (pair : Pair). has_odd_parity pair ≡ true) pairs → map concealed pairs ≡ pairs
all_plain [] all = refl
all_plain (p ∷ pairs) all =
    let odd = and_parts (is_odd p.a) (is_odd p.b) (All-head (λ (pair : Pair). has_odd_parity pair ≡ true) p pairs all) in
    let a = odd.0 in
    let b = odd.1 in
    let own : concealed p ≡ p = rw (a, b) refl in
    rw own (ap (λ (l : List Pair). p ∷ l) (all_plain pairs (All-tail (λ (pair : Pair). has_odd_parity pair ≡ true) p pairs all)))

pub whole_received : WholeIsReceived
whole_received frames on good = (
  λ chan.
      ap (λ (l : List Frame). (channel (data_channel_of chan) (after (field_of_channel chan) (reverse (map concealed (received_pairs (field_of_channel chan) l))))).displayed) (all_heard frames on)
      ∙ ap (λ (ps : List Pair). (channel (data_channel_of chan) (after (field_of_channel chan) (reverse ps))).displayed) (all_plain (received_pairs (field_of_channel chan) frames) (good (field_of_channel chan))),
  λ service id. ap (λ (l : List Frame). received_windows l service id) (all_heard frames on),
)
