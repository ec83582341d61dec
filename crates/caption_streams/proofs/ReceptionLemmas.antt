-- What receivers of both kinds make of the bytes that they are fed.
use Rattle.std.proofs.Common.{◌≡◌, arith, refl, ℕ, List, [], ◌∷◌}
use Rattle.std.proofs.Math.Path.{fun_ext}
use Rattle.std.specs.Prelude.{Result, Ok, Err}
use Rattle.cc_base.specs.declared.refusal.Refusal.{Refusal}
use Rattle.cc_conceal.specs.Concealers.{ConcealsOn, receiver_of}
use Rattle.cc_conceal.specs.declared.concealer.Concealer.{Concealer}
use Rattle.cc_conceal.proofs.StayLemmas.{grid_now}
use Rattle.cc_receiver.proofs.TakenLemmas.{frames_count}
use Rattle.cc_receiver.specs.Feeds.{Feeds}
use Rattle.cc_receiver.specs.declared.receiver.Fed.{Fed}
use Rattle.cc_receiver.specs.declared.receiver.Receiver.{Receiver}
use Rattle.cdp_packets.specs.Packets.{Frame}
use Rattle.grid_print.proofs.ScreenLemmas.{grids_behind as received_behind, windows_behind as seen_behind}
use Rattle.caption_streams.specs.Receptions.{FeedsOn, ShowsNow, StandsBehind, displayed_in, frame_total, grids_behind, number_behind, windows_behind}
use Rattle.caption_streams.specs.declared.reception.Reception.{Reception}
use Rattle.caption_streams.specs.declared.reception.Reception.TheVariants.{Plain, Concealing}

pub plain_fed : (before bytes : List ℕ) (old new : Receiver) (answer : Result Fed Refusal)
    → Feeds before bytes old new answer → FeedsOn before bytes (Plain old) (Plain new) answer
plain_fed before bytes old new (Ok fed) feeds = record { alike = tt; has = feeds.received; feeds = feeds }
plain_fed before bytes old new (Err refusal) feeds = record { alike = tt; has = feeds.received; feeds = feeds }

pub concealing_fed : (before bytes : List ℕ) (old new : Concealer) (answer : Result Fed Refusal)
    → ConcealsOn before bytes new answer → Feeds before bytes (receiver_of old) (receiver_of new) answer
    → FeedsOn before bytes (Concealing old) (Concealing new) answer
concealing_fed before bytes old new (Ok fed) conceals feeds = record { alike = tt; has = conceals; feeds = feeds }
concealing_fed before bytes old new (Err refusal) conceals feeds = record { alike = tt; has = conceals; feeds = feeds }

-- what it displays is what the frames leave of each channel
pub displayed_behind : (reception : Reception) (frames : List Frame) → StandsBehind frames reception
    → displayed_in reception ≡ grids_behind reception frames
displayed_behind (Plain receiver) frames behind = received_behind frames receiver behind
displayed_behind (Concealing concealer) frames conceals = fun_ext (grid_now frames concealer conceals)

-- and what it shows of the windows
pub shows_behind : (reception : Reception) (frames : List Frame) → StandsBehind frames reception → ShowsNow reception (windows_behind reception frames)
shows_behind (Plain receiver) frames behind = seen_behind frames receiver behind
shows_behind (Concealing concealer) frames conceals = record { frames = frames; conceals = conceals; seen_are = refl }

-- after no frame the number is 0
pub none_yet : (reception : Reception) (frames : List Frame) → StandsBehind frames reception → frame_total reception ≡ 0 → 0 ≡ number_behind reception frames
none_yet (Plain receiver) frames behind none =
    let count = frames_count frames behind.bytes receiver behind.received behind.frames_are in omega arith
none_yet (Concealing concealer) [] conceals none = refl
none_yet (Concealing concealer) (frame ∷ frames) conceals none =
    let count = frames_count (frame ∷ frames) conceals.bytes (receiver_of concealer) conceals.received conceals.frames_are in
    absurd (omega arith)
