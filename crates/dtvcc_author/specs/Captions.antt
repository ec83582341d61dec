-- Believed: the program's answer stands on these definitions.
-- The captions of a service: when each is sent, shown and hidden, and in which window (CTA-708-E, caption windows and Delay).
use Rattle.std.specs.Prelude.{ℕ, ◌-◌, ◌==◌, if◌then◌else◌, List, Option, Some, None, unwrap_or}
use Rattle.std.specs.List.{filter_map}
use Rattle.cc_base.specs.declared.rate.Rate.{Rate}
use Rattle.cc_base.specs.Rate.{delay_frames_of}
use Rattle.cue_types.specs.declared.cue.Cue.{Cue}
use Rattle.cue_types.specs.declared.cue.Kind.{Kind}
use Rattle.cue_types.specs.declared.cue.Kind.TheVariants.{Pop, Paint, Roll, Win}
use Rattle.cue_types.specs.declared.cue.WinCue.{WinCue}
use Rattle.dtvcc_author.specs.declared.caption.Caption.{Caption}

-- the caption of a cue in this window: what shows it is sent as many frames before SHOW as its delay lasts. A window cue has a
-- HIDE
abbrev pub window_caption : Rate → WinCue → Cue → Caption
window_caption rate w cue = record {
  id = w.id;
  tenths = w.delay;
  load = cue.load;
  starts = cue.show - delay_frames_of rate w.delay;
  show = cue.show;
  hide = unwrap_or cue.hide 0;
}

-- the caption of a cue of a kind, where it is of the service
abbrev pub caption_with : Rate → ℕ → Kind → Cue → Option Caption
caption_with rate service (Pop channel) cue = None
caption_with rate service (Paint channel) cue = None
caption_with rate service (Roll channel rows) cue = None
caption_with rate service (Win w) cue = if w.service == service then Some (window_caption rate w cue) else None

abbrev pub caption_of : Rate → ℕ → Cue → Option Caption
caption_of rate service cue = caption_with rate service cue.kind cue

-- the captions of a service, in the order of the cues
abbrev pub service_captions : Rate → ℕ → List Cue → List Caption
service_captions rate service cues = filter_map (caption_of rate service) cues
