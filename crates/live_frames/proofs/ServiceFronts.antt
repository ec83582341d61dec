-- A service's lane below a frame, with further cues that are loaded from the frame on.
use Rattle.std.proofs.Common.{◌≡◌, ◌∙◌, ℕ, suc, ◌+◌, ◌-◌, ◌<◌, ◌≤◌, ◌==◌, ◌&&◌, ◌||◌, not, ltb, cond, Bool, true, false, List, [], ◌∷◌, ◌++◌, refl, sym, ap, subst, arith, append_assoc, length}
use Rattle.std.specs.Prelude.{Option, Some, None, find, if◌then◌else◌, map, option_map}
use Rattle.std.specs.Option.{option_or}
use Rattle.std.specs.List.{AllByRecursion, cons_option, flat_map, list_any, zip}
use Rattle.std.proofs.Math.Path.{fun_ext}
use Rattle.std.proofs.lemmas.Bool.Decides.{nat_tests}
use Rattle.std.proofs.lemmas.List.Elements.{filter_map-append}
use Rattle.std.proofs.lemmas.List.Folds.{find-append, list_any-append}
use Rattle.cc_base.specs.declared.rate.Rate.{Rate}
use Rattle.cue_lists.specs.declared.cue.Cue.{Cue}
use Rattle.cue_lists.specs.declared.cue.Kind.{Kind}
use Rattle.cue_lists.specs.declared.cue.Kind.TheVariants.{Pop, Paint, Roll, Win}
use Rattle.cue_lists.specs.declared.cue.WinCue.{WinCue}
use Rattle.dtvcc_author.specs.Command.{Command}
use Rattle.dtvcc_author.specs.Command.TheVariants.{Dlw, Dsw}
use Rattle.dtvcc_author.specs.Writing.{bytes_of_command}
use Rattle.dtvcc_author.specs.Captions.{caption_of, caption_with, service_captions, window_caption}
use Rattle.dtvcc_author.specs.CueUnits.{window_cue_units}
use Rattle.dtvcc_author.specs.FrameEvents.{delay_commands, delay_end, delayed_at, event_bytes, event_commands, is_delayed_at, is_hidden_at, is_shown_at, names, windows_byte, windows_command}
use Rattle.dtvcc_author.specs.Kept.{AreKept}
use Rattle.dtvcc_author.specs.declared.caption.Caption.{Caption}
use Rattle.lanes.specs.Placing.{IsEarliest}
use Rattle.lanes.specs.Chunks.{ServiceChunk}
use Rattle.lanes.specs.ServiceBytes.{bytes_in, loads_at}
use Rattle.lanes.specs.ServiceChunks.{chunk_of, chunks_with, service_chunks, service_chunks_from, service_cue_chunks}
use Rattle.lanes.specs.ServiceLane.{AreUpTo, IsAllowedInService, chunk_size, used}
use Rattle.lanes.specs.ServiceRoom.{caption_lane, frame_room}
use Rattle.lanes.proofs.ServiceLaneLemmas.{chunks_fit_earlier}
use Rattle.live_frames.specs.Fronts.{below, AreAlikeBelow, AreAllowedFrom, AreInOrder}
use Rattle.live_frames.proofs.FrontsLemmas.{all_append, same_front}

-- what shows the caption is sent from the frame on, and so is what hides it
pub record IsSeenFrom (n : ℕ) (c : Caption) : Type 0 where
  pub starts : n ≤ c.starts
  pub hide : n ≤ c.hide

-- events of a frame before that
module _ (n frame : ℕ) (low : frame < n) (cs ds : List Caption) (later : AllByRecursion (IsSeenFrom n) ds) where
  any_none : (test : Caption → Bool) → ((c : Caption) → IsSeenFrom n c → test c ≡ false) → (es : List Caption) → AllByRecursion (IsSeenFrom n) es
      → list_any test es ≡ false
  any_none test none [] all = refl
  any_none test none (c ∷ es) all = let here : test c ≡ false = none c all.0 in let rest = any_none test none es all.1 in rw here rest

  find_none : (test : Caption → Bool) → ((c : Caption) → IsSeenFrom n c → test c ≡ false) → (es : List Caption) → AllByRecursion (IsSeenFrom n) es
      → find test es ≡ None
  find_none test none [] all = refl
  find_none test none (c ∷ es) all = let here : test c ≡ false = none c all.0 in let rest = find_none test none es all.1 in rw here rest

  or_false : (a b : Bool) → b ≡ false → (a || b) ≡ a
  or_false true b is = refl
  or_false false b is = is

  or_none : (a b : Option Caption) → b ≡ None → option_or a b ≡ a
  or_none None b is = is
  or_none (Some c) b is = refl

  any_same : (test : Caption → Bool) → ((c : Caption) → IsSeenFrom n c → test c ≡ false) → list_any test (cs ++ ds) ≡ list_any test cs
  any_same test none = list_any-append test cs ds ∙ or_false (list_any test cs) (list_any test ds) (any_none test none ds later)

  not_hidden : (c : Caption) → IsSeenFrom n c → is_hidden_at frame c ≡ false
  not_hidden c seen = let late : n ≤ c.hide = seen.hide in grind (arith, nat_tests)

  not_started : (c : Caption) → IsSeenFrom n c → (c.starts == frame) ≡ false
  not_started c seen = let late : n ≤ c.starts = seen.starts in grind (arith, nat_tests)

  and_false : (a b : Bool) → b ≡ false → (a && b) ≡ false
  and_false true b is = is
  and_false false b is = refl

  false_and : (a b : Bool) → a ≡ false → (a && b) ≡ false
  false_and true b is = cc
  false_and false b is = refl

  not_shown : (c : Caption) → IsSeenFrom n c → is_shown_at frame c ≡ false
  not_shown c seen = and_false (c.tenths == 0) (c.starts == frame) (not_started c seen)

  not_delayed : (c : Caption) → IsSeenFrom n c → is_delayed_at frame c ≡ false
  not_delayed c seen = and_false (not (c.tenths == 0)) (c.starts == frame) (not_started c seen)

  names_same : (test : Caption → Bool) → ((c : Caption) → IsSeenFrom n c → test c ≡ false) → names test (cs ++ ds) ≡ names test cs
  names_same test none =
      fun_ext (λ id. any_same (λ c. test c && (c.id == id)) (λ c seen. false_and (test c) (c.id == id) (none c seen)))

  command_same : (command : ℕ → Command) (test : Caption → Bool) → ((c : Caption) → IsSeenFrom n c → test c ≡ false)
      → windows_command command test (cs ++ ds) ≡ windows_command command test cs
  command_same command test none =
      ap (λ (b : Bool). if b then command (windows_byte (names test (cs ++ ds))) ∷ [] else []) (any_same test none)
      ∙ ap (λ (named : ℕ → Bool). if list_any test cs then command (windows_byte named) ∷ [] else []) (names_same test none)

  delayed_same : delayed_at frame (cs ++ ds) ≡ delayed_at frame cs
  delayed_same =
      find-append (is_delayed_at frame) cs ds
      ∙ or_none (find (is_delayed_at frame) cs) (find (is_delayed_at frame) ds) (find_none (is_delayed_at frame) not_delayed ds later)

  commands_same : event_commands frame (cs ++ ds) ≡ event_commands frame cs
  commands_same =
      ap (λ (l : List Command). (l ++ windows_command Dsw (is_shown_at frame) (cs ++ ds)) ++ delay_commands (delayed_at frame (cs ++ ds)))
      (command_same Dlw (is_hidden_at frame) not_hidden)
      ∙ ap (λ (l : List Command). (windows_command Dlw (is_hidden_at frame) cs ++ l) ++ delay_commands (delayed_at frame (cs ++ ds)))
      (command_same Dsw (is_shown_at frame) not_shown)
      ∙ ap (λ (d : Option Caption). (windows_command Dlw (is_hidden_at frame) cs ++ windows_command Dsw (is_shown_at frame) cs) ++ delay_commands d) delayed_same

  pub event_bytes_same : event_bytes frame (cs ++ ds) ≡ event_bytes frame cs
  event_bytes_same = ap (λ (l : List Command). flat_map bytes_of_command l) commands_same

  pub delay_end_same : delay_end (cs ++ ds) frame ≡ delay_end cs frame
  delay_end_same = ap (λ (d : Option Caption). option_map (λ c. c.show) d) delayed_same

-- lanes with the same rooms and delays below a frame allow the same there
allowed_same : (n : ℕ) (room other : ℕ → ℕ) (ends stops : ℕ → Option ℕ) → ((f : ℕ) → f < n → room f ≡ other f) → ((f : ℕ) → f < n → ends f ≡ stops f)
    → (before : List (ServiceChunk × ℕ)) (u : ServiceChunk) (f : ℕ) → f < n → IsAllowedInService room ends before u f → IsAllowedInService other stops before u f
allowed_same n room other ends stops rooms delays before u f low a = record {
  order = a.order;
  loaded = a.loaded;
  ended = a.ended;
  fits = subst (λ (most : ℕ). used f (f + 1) before + chunk_size u ≤ most) (rooms f low) a.fits;
  delayed = λ start end is from to. a.delayed start end (delays start (omega arith) ∙ is) from to;
}

last_up_to : (before : List (ServiceChunk × ℕ)) (u : ServiceChunk) (f g : ℕ) → AreUpTo g (before ++ (u, f) ∷ []) → f ≤ g
last_up_to [] u f g all = all.0
last_up_to (each ∷ before) u f g all = last_up_to before u f g all.1

in_order : (room : ℕ → ℕ) (ends : ℕ → Option ℕ) → AreInOrder (IsAllowedInService room ends)
in_order room ends before u f v g a = last_up_to before u f g a.order

service_alike : (n : ℕ) (room other : ℕ → ℕ) (ends stops : ℕ → Option ℕ) → ((f : ℕ) → f < n → room f ≡ other f) → ((f : ℕ) → f < n → ends f ≡ stops f)
    → AreAlikeBelow n (IsAllowedInService room ends) (IsAllowedInService other stops)
service_alike n room other ends stops rooms delays = record {
  agree = λ before u f low. (
    allowed_same n room other ends stops rooms delays before u f low,
    allowed_same n other room stops ends (λ g less. sym (rooms g less)) (λ g less. sym (delays g less)) before u f low,
  );
  first_in_order = in_order room ends;
  second_in_order = in_order other stops;
  first_fits = chunks_fit_earlier room ends;
  second_fits = chunks_fit_earlier other stops;
}

-- the bytes of the units of a frame
loads_below : (n frame : ℕ) → frame < n → (placed : List (ServiceChunk × ℕ)) → loads_at placed frame ≡ loads_at (below n placed) frame
loads_below n frame low [] = refl
loads_below n frame low (each ∷ placed) = at (ltb each.1 n) refl (loads_below n frame low placed)
  where
    at : (b : Bool) → ltb each.1 n ≡ b → loads_at placed frame ≡ loads_at (below n placed) frame
        → loads_at (each ∷ placed) frame ≡ loads_at (cond b (each ∷ below n placed) (below n placed)) frame
    at true is rest = ap (λ (l : List ℕ). (if each.1 == frame then each.0.unit else []) ++ l) rest
    at false is rest = let test : (each.1 == frame) ≡ false = grind (arith, nat_tests) in rw test rest

-- the units of cues, and of those after them
chunks_append : (rate : Rate) (service number : ℕ) (cues more : List Cue)
    → (next : ℕ) × (service_chunks_from rate service number (cues ++ more)
    ≡ service_chunks_from rate service number cues ++ service_chunks_from rate service next more)
chunks_append rate service number [] more = (number, refl)
chunks_append rate service number (cue ∷ cues) more =
    let rest = chunks_append rate service (suc number) cues more in
    let own = service_cue_chunks rate service number cue in (
      rest.0,
      ap (λ (l : List ServiceChunk). own ++ l) rest.1
          ∙ sym (append_assoc own (service_chunks_from rate service (suc number) cues) (service_chunks_from rate service rest.0 more)),
    )

module _ (rate : Rate) (service n : ℕ) where
  -- the units of cues that are loaded from a frame on may stand from it on alone
  module _ (room : ℕ → ℕ) (ends : ℕ → Option ℕ) where
    units_from : (number : ℕ) (c : Caption) → n ≤ c.load → (units : List (List ℕ))
        → AreAllowedFrom n (IsAllowedInService room ends) (map (chunk_of number c) units)
    units_from number c loaded [] = tt
    units_from number c loaded (unit ∷ units) = ((λ before f a. let from : c.load ≤ f = a.loaded in omega arith), units_from number c loaded units)

    cue_units_from : (number : ℕ) (cue : Cue) → n ≤ cue.load → (k : Kind) (units : List (List ℕ))
        → AreAllowedFrom n (IsAllowedInService room ends) (chunks_with number (caption_with rate service k cue) units)
    cue_units_from number cue loaded (Pop channel) units = tt
    cue_units_from number cue loaded (Paint channel) units = tt
    cue_units_from number cue loaded (Roll channel rows) units = tt
    cue_units_from number cue loaded (Win w) units = at (w.service == service)
      where
        at : (b : Bool) → AreAllowedFrom n (IsAllowedInService room ends) (chunks_with number (if b then Some (window_caption rate w cue) else None) units)
        at true = units_from number (window_caption rate w cue) loaded units
        at false = tt

    chunks_from : (number : ℕ) (more : List Cue) → AllByRecursion (λ (cue : Cue). n ≤ cue.load) more
        → AreAllowedFrom n (IsAllowedInService room ends) (service_chunks_from rate service number more)
    chunks_from number [] loaded = tt
    chunks_from number (cue ∷ more) loaded =
        all_append (λ (u : ServiceChunk). (before : List (ServiceChunk × ℕ)) (f : ℕ) → IsAllowedInService room ends before u f → n ≤ f)
        (service_cue_chunks rate service number cue) (service_chunks_from rate service (suc number) more)
        (cue_units_from number cue loaded.0 cue.kind (window_cue_units cue)) (chunks_from (suc number) more loaded.1)

  -- the captions of such cues
  captions_loaded : (more : List Cue) → AllByRecursion (λ (cue : Cue). n ≤ cue.load) more → AllByRecursion (λ (c : Caption). n ≤ c.load) (service_captions rate service more)
  captions_loaded [] loaded = tt
  captions_loaded (cue ∷ more) loaded = at cue.kind (captions_loaded more loaded.1)
    where
      kept : (b : Bool) (w : WinCue) → AllByRecursion (λ (c : Caption). n ≤ c.load) (service_captions rate service more) → AllByRecursion (λ (c : Caption). n ≤ c.load)
          (cons_option (if b then Some (window_caption rate w cue) else None) (service_captions rate service more))
      kept true w rest = (loaded.0, rest)
      kept false w rest = rest

      at : (k : Kind) → AllByRecursion (λ (c : Caption). n ≤ c.load) (service_captions rate service more)
          → AllByRecursion (λ (c : Caption). n ≤ c.load) (cons_option (caption_with rate service k cue) (service_captions rate service more))
      at (Pop channel) rest = rest
      at (Paint channel) rest = rest
      at (Roll channel rows) rest = rest
      at (Win w) rest = kept (w.service == service) w rest

  seen_from : (frames : ℕ) (cs : List Caption) → AreKept rate frames cs → AllByRecursion (λ (c : Caption). n ≤ c.load) cs → AllByRecursion (IsSeenFrom n) cs
  seen_from frames [] kept loaded = tt
  seen_from frames (c ∷ cs) kept loaded =
      (record { starts = omega (arith, kept.0.loaded, loaded.0); hide = omega (arith, kept.0.loaded, kept.0.after, kept.0.hidden, loaded.0) }, seen_from frames cs kept.2 loaded.1)

  kept_after : (frames : ℕ) (cs ds : List Caption) → AreKept rate frames (cs ++ ds) → AreKept rate frames ds
  kept_after frames [] ds kept = kept
  kept_after frames (c ∷ cs) ds kept = kept_after frames cs ds kept.2

  -- the bytes of a service in a frame before that
  module _ (frames share : ℕ) (cues more : List Cue) (stand moved : List ℕ)
      (loaded : AllByRecursion (λ (cue : Cue). n ≤ cue.load) more)
      (kept : AreKept rate frames (service_captions rate service (cues ++ more)))
      (placed : IsEarliest (caption_lane share (service_captions rate service cues)) (service_chunks rate service cues) stand)
      (longer : IsEarliest (caption_lane share (service_captions rate service (cues ++ more))) (service_chunks rate service (cues ++ more)) moved) where
    cs : List Caption
    cs = service_captions rate service cues

    ds : List Caption
    ds = service_captions rate service more

    number : ℕ
    number = (chunks_append rate service 1 cues more).0

    captions_are : service_captions rate service (cues ++ more) ≡ cs ++ ds
    unfolding cs ds
    captions_are = filter_map-append (caption_of rate service) cues more

    chunks_are : service_chunks rate service (cues ++ more) ≡ service_chunks rate service cues ++ service_chunks_from rate service number more
    unfolding number
    chunks_are = (chunks_append rate service 1 cues more).1

    later : AllByRecursion (IsSeenFrom n) ds
    unfolding ds
    later = seen_from frames ds (kept_after frames cs ds (subst (λ (l : List Caption). AreKept rate frames l) captions_are kept)) (captions_loaded more loaded)

    alike : AreAlikeBelow n (caption_lane share cs) (caption_lane share (cs ++ ds))
    alike =
        service_alike n (frame_room share cs) (frame_room share (cs ++ ds)) (delay_end cs) (delay_end (cs ++ ds))
        (λ f low. sym (ap (λ (l : List ℕ). share - length l) (event_bytes_same n f low cs ds later)))
        (λ f low. sym (delay_end_same n f low cs ds later))

    same_units : below n (zip (service_chunks rate service cues) stand) ≡ below n (zip (service_chunks rate service (cues ++ more)) moved)
    unfolding cs
    same_units =
        let moved_is = subst (λ (l : List ServiceChunk). IsEarliest (caption_lane share (cs ++ ds)) l moved) chunks_are
        (subst (λ (l : List Caption). IsEarliest (caption_lane share l) (service_chunks rate service (cues ++ more)) moved) captions_are longer) in
        subst (λ (l : List ServiceChunk). below n (zip (service_chunks rate service cues) stand) ≡ below n (zip l moved)) (sym chunks_are)
        (same_front n (caption_lane share cs) (caption_lane share (cs ++ ds)) alike (service_chunks rate service cues)
        (service_chunks_from rate service number more) stand moved placed moved_is (chunks_from (frame_room share (cs ++ ds)) (delay_end (cs ++ ds)) number more loaded))

    pub bytes_kept : (frame : ℕ) → frame < n
        → bytes_in (service_captions rate service cues) (zip (service_chunks rate service cues) stand) frame
        ≡ bytes_in (service_captions rate service (cues ++ more)) (zip (service_chunks rate service (cues ++ more)) moved) frame
    unfolding cs
    bytes_kept frame low =
        let events : event_bytes frame cs ≡ event_bytes frame (service_captions rate service (cues ++ more)) =
        sym (ap (λ (l : List Caption). event_bytes frame l) captions_are ∙ event_bytes_same n frame low cs ds later) in
        let units = loads_below n frame low (zip (service_chunks rate service cues) stand)
        ∙ ap (λ (l : List (ServiceChunk × ℕ)). loads_at l frame) same_units
        ∙ sym (loads_below n frame low (zip (service_chunks rate service (cues ++ more)) moved)) in
        ap (λ (l : List ℕ). l ++ loads_at (zip (service_chunks rate service cues) stand) frame) events
        ∙ ap (λ (l : List ℕ). event_bytes frame (service_captions rate service (cues ++ more)) ++ l) units
