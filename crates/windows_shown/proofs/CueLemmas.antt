-- A service's cues, whose units stand where its lane allows: their captions with what loads them, and what they author.
use Rattle.std.proofs.Common.{◌≡◌, ◌∙◌, ℕ, suc, ◌==◌, ◌&&◌, Bool, true, false, if◌then◌else◌, List, [], ◌∷◌, ◌++◌, Option, Some, None, refl, sym, ap, subst}
use Rattle.std.specs.Prelude.{All, IsSome, find, map, nat_le, nat_lt, unwrap_or}
use Rattle.std.specs.List.{AllByRecursion, cons_option}
use Rattle.std.specs.Option.{option_and_then}
use Rattle.std.proofs.lemmas.List.Elements.{All-head, All-tail}
use Rattle.cc_base.specs.declared.rate.Rate.{Rate}
use Rattle.cue_types.specs.declared.cue.Cue.{Cue}
use Rattle.cue_types.specs.declared.cue.Kind.{Kind}
use Rattle.cue_types.specs.declared.cue.Kind.TheVariants.{Pop, Paint, Roll, Win}
use Rattle.cue_types.specs.declared.cue.WinCue.{WinCue}
use Rattle.cue_types.specs.Cues.{IsCueFormed, IsOfKind}
use Rattle.dtvcc_codes.specs.declared.commands.Command.{Command}
use Rattle.dtvcc_codes.specs.declared.windows.Definition.{Definition}
use Rattle.dtvcc_codes.specs.Writing.{bytes_of_command}
use Rattle.dtvcc_windows.specs.Showing.{ShownWindow}
use Rattle.cue_types.specs.Channels.{uses_window}
use Rattle.frame_scheduler.specs.AuthoredServiceGrid.{authored_windows, cue_window, is_before, shows_in}
use Rattle.dtvcc_author.specs.declared.caption.Caption.{Caption}
use Rattle.dtvcc_author.specs.Captions.{caption_with, service_captions, window_caption}
use Rattle.dtvcc_author.specs.CueUnits.{IsWritable}
use Rattle.dtvcc_author.specs.WindowCommands.{commands_with, definition_of, window_commands}
use Rattle.dtvcc_author.proofs.WritableLemmas.{commands_writable}
use Rattle.frame_scheduler.specs.Placing.{IsPlaced}
use Rattle.frame_scheduler.specs.Chunks.{ServiceChunk}
use Rattle.frame_scheduler.specs.ServiceChunks.{chunk_of, chunks_with, service_chunks_from}
use Rattle.frame_scheduler.specs.ServiceRoom.{caption_lane}
use Rattle.frame_scheduler.proofs.CaptionsKept.{eqb_turned}
use Rattle.frame_scheduler.proofs.FrontLemmas.{last_is_first}
use Rattle.frame_scheduler.proofs.PlaceLemmas.{frames_rise}
use Rattle.windows_shown.specs.Loading.{IsLoad, IsLoadedAsAuthored, seen_behind}
use Rattle.windows_shown.proofs.LoadingLemmas.{window_load}
use Rattle.windows_shown.proofs.CueLoadLemmas.{AreTimely, Loads, one_more, shows}

-- units that stand where their lane allows are timely
pub placed_timely : (share : ℕ) (cs : List Caption) (before : List (ServiceChunk × ℕ)) (us : List ServiceChunk) (fs : List ℕ)
    → IsPlaced (caption_lane share cs) before us fs → AreTimely us fs
placed_timely share cs before [] [] placed = tt
placed_timely share cs before [] (f ∷ fs) placed = placed
placed_timely share cs before (u ∷ us) [] placed = placed
placed_timely share cs before (u ∷ us) (f ∷ fs) placed = (
  placed.0.loaded,
  placed.0.ended,
  frames_rise share cs (before ++ (u, f) ∷ []) us fs f (last_is_first before u f) placed.1,
  placed_timely share cs (before ++ (u, f) ∷ []) us fs placed.1,
)

-- one caption more, with its commands
more_commands : (number : ℕ) (c : Caption) (d : Definition) (commands : List Command) (rest : List ServiceChunk) (cs : List Caption) (fs : List ℕ)
    (authored : ℕ → ℕ → Option ShownWindow) (window : Option ShownWindow)
    → d.id ≡ c.id → IsLoad d commands → All IsWritable commands → seen_behind commands ≡ window
    → AreTimely (map (chunk_of number c) (map bytes_of_command commands) ++ rest) fs
    → ((left : List ℕ) → AreTimely rest left → Loads cs rest left authored)
    → Loads (c ∷ cs) (map (chunk_of number c) (map bytes_of_command commands) ++ rest) fs (λ id frame. if shows id frame c then window else authored id frame)
more_commands number c d commands rest cs fs authored window names load writable is timely others =
    subst (λ (all : List Command). All IsWritable all → seen_behind all ≡ window → AreTimely (map (chunk_of number c) (map bytes_of_command all) ++ rest) fs
    → Loads (c ∷ cs) (map (chunk_of number c) (map bytes_of_command all) ++ rest) fs (λ id frame. if shows id frame c then window else authored id frame))
    (sym load.split)
    (λ some seen in_time. one_more number c d load.text rest cs fs authored window names load.hidden load.texts some seen in_time others)
    writable is timely

-- the HIDE of a cue that has one
before_hide : (frame : ℕ) (hide : Option ℕ) → IsSome hide → is_before frame hide ≡ nat_lt frame (unwrap_or hide 0)
before_hide frame None some = cc
before_hide frame (Some h) some = refl

-- the window of a cue that is found first, or not
found_first : (b : Bool) (of : Cue → Option ShownWindow) (cue : Cue) (later : Option Cue)
    → (if b then of cue else option_and_then of later) ≡ option_and_then of (if b then Some cue else later)
found_first true of cue later = refl
found_first false of cue later = refl

module _ (rate : Rate) (service : ℕ) where
  -- the captions of the later cues, wherever their units stand in time
  abbrev Others : ℕ → List Cue → Type 0
  Others number cues = (left : List ℕ) → AreTimely (service_chunks_from rate service number cues) left
      → Loads (service_captions rate service cues) (service_chunks_from rate service number cues) left (λ id frame. authored_windows service cues frame id)

  -- the units of a cue, with this caption and these commands, before the units of later cues
  abbrev units : ℕ → Option Caption → List Command → List Cue → List ServiceChunk
  units number c commands cues = chunks_with number c (map bytes_of_command commands) ++ service_chunks_from rate service (suc number) cues

  -- the captions with a cue's before them, which uses these windows
  abbrev WithCue : ℕ → Cue → List Cue → List ℕ → Option Caption → List Command → (ℕ → Bool) → Type 0
  WithCue number cue cues fs c commands uses =
      Loads (cons_option c (service_captions rate service cues)) (units number c commands cues) fs
      (λ id frame. option_and_then (λ (one : Cue). cue_window one.kind one.runs)
      (if uses id && (nat_le cue.show frame && is_before frame cue.hide) then Some cue else find (shows_in service id frame) cues))

  -- the captions of cues, with what loads them
  pub loads_of : (number : ℕ) (cues : List Cue) (fs : List ℕ) → All IsCueFormed cues → AllByRecursion IsLoadedAsAuthored cues
      → AreTimely (service_chunks_from rate service number cues) fs
      → Loads (service_captions rate service cues) (service_chunks_from rate service number cues) fs (λ id frame. authored_windows service cues frame id)
  loads_of number [] [] formed loaded timely = record {
    loads = [];
    captions_are = refl;
    order = tt;
    from = λ frame low. tt;
    acts = λ frame s. refl;
    seen = λ id frame v sees. sees.none (λ g among. absurd among);
  }
  loads_of number [] (f ∷ fs) formed loaded timely = absurd timely
  loads_of number (cue ∷ cues) fs formed loaded timely =
      at cue.kind refl timely (λ left in_time. loads_of (suc number) cues left (All-tail IsCueFormed cue cues formed) loaded.1 in_time)
    where
      own : IsCueFormed cue
      own = All-head IsCueFormed cue cues formed

      win : (w : WinCue) → cue.kind ≡ Win w → (b : Bool) → (w.service == service) ≡ b
          → AreTimely (units number (if b then Some (window_caption rate w cue) else None) (window_commands w cue.runs) cues) fs → Others (suc number) cues
          → WithCue number cue cues fs (if b then Some (window_caption rate w cue) else None) (window_commands w cue.runs) (λ id. (service == w.service) && (id == w.id))
      win w is false other in_time others =
          let all = others fs in_time in
          record {
            loads = all.loads;
            captions_are = all.captions_are;
            order = all.order;
            from = all.from;
            acts = all.acts;
            seen = λ id frame v sees. all.seen id frame v sees
                ∙ sym (ap (λ (b : Bool). option_and_then (λ (one : Cue). cue_window one.kind one.runs)
                (if (b && (id == w.id)) && (nat_le cue.show frame && is_before frame cue.hide) then Some cue else find (shows_in service id frame) cues))
                (eqb_turned service w.service ∙ other));
          }
      win w is true its in_time others =
          let c : Caption = window_caption rate w cue in
          let writable = subst (λ (k : Kind). All IsWritable (commands_with k cue.runs)) is (commands_writable cue own) in
          let seen = subst (λ (k : Kind). seen_behind (commands_with k cue.runs) ≡ cue_window cue.kind cue.runs) is loaded.0 in
          let hides = (subst (λ (k : Kind). IsOfKind k cue.hide cue.runs) is own.kind).1 in
          let all = more_commands number c (definition_of w) (window_commands w cue.runs) (service_chunks_from rate service (suc number) cues)
          (service_captions rate service cues) fs (λ id frame. authored_windows service cues frame id) (cue_window cue.kind cue.runs) refl
          (window_load w cue.runs) writable seen in_time others in
          record {
            loads = all.loads;
            captions_are = all.captions_are;
            order = all.order;
            from = all.from;
            acts = all.acts;
            seen = λ id frame v sees. all.seen id frame v sees
                ∙ found_first (shows id frame c) (λ (one : Cue). cue_window one.kind one.runs) cue (find (shows_in service id frame) cues)
                ∙ ap (λ (b : Bool). option_and_then (λ (one : Cue). cue_window one.kind one.runs) (if b then Some cue else find (shows_in service id frame) cues))
                (ap (λ (b : Bool). (id == w.id) && (nat_le cue.show frame && b)) (sym (before_hide frame cue.hide hides))
                ∙ sym (ap (λ (b : Bool). (b && (id == w.id)) && (nat_le cue.show frame && is_before frame cue.hide)) (eqb_turned service w.service ∙ its)));
          }

      at : (k : Kind) → cue.kind ≡ k → AreTimely (units number (caption_with rate service k cue) (commands_with k cue.runs) cues) fs → Others (suc number) cues
          → WithCue number cue cues fs (caption_with rate service k cue) (commands_with k cue.runs) (λ id. uses_window service id k)
      at (Pop channel) is in_time others = others fs in_time
      at (Paint channel) is in_time others = others fs in_time
      at (Roll channel rows) is in_time others = others fs in_time
      at (Win w) is in_time others = win w is (w.service == service) refl in_time others
