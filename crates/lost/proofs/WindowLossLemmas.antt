-- A service of a list shows the authored windows again after a loss where each caption that is up was loaded since.
use Rattle.std.proofs.Common.{◌≡◌, ◌∙◌, ℕ, suc, ◌<◌, ◌≤◌, ◌==◌, ◌⊎◌, inl, inr, Bool, true, false, cond, if◌then◌else◌, List, [], ◌∷◌, Option, Some, None, refl, sym, ap, subst, arith}
use Rattle.std.specs.Prelude.{IfSome, unwrap_or}
use Rattle.cc_base.specs.declared.rate.Rate.{Rate}
use Rattle.cue_types.specs.Channels.{cues_of_service, is_of_service}
use Rattle.cue_types.specs.Listing.{Listing}
use Rattle.cue_types.specs.declared.cue.Cue.{Cue}
use Rattle.cue_types.specs.declared.cue.Kind.{Kind}
use Rattle.cue_types.specs.declared.cue.Kind.TheVariants.{Pop, Paint, Roll, Win}
use Rattle.cue_types.specs.declared.cue.WinCue.{WinCue}
use Rattle.dtvcc_screen.specs.Screens.{ScreenState}
use Rattle.dtvcc_screen.specs.Shown.{grids}
use Rattle.dtvcc_author.specs.declared.caption.Caption.{Caption}
use Rattle.dtvcc_author.specs.Captions.{caption_with, service_captions, window_caption}
use Rattle.dtvcc_author.proofs.LatestLemmas.{Has}
use Rattle.lanes.proofs.CaptionsKept.{eqb_turned}
use Rattle.frame_carrier.specs.Planned.{share_in}
use Rattle.std.specs.List.{AllByRecursion, cons_option}
use Rattle.windows_shown.specs.AuthoredShown.{list_lane}
use Rattle.windows_shown.proofs.ShownLemmas.{windows_are_heard}
use Rattle.lost.specs.WindowLoss.{IsServiceBack, ServiceLossIsRecovered}
use Rattle.lost.proofs.ResetLemmas.{reset_hears}

-- a cue is one of the list
abbrev In : Cue → List Cue → Type 0
In cue [] = ⊥
In cue (k ∷ ks) = (cue ≡ k) ⊎ In cue ks

in_all : (P : Cue → Type 0) (cue : Cue) (cues : List Cue) → AllByRecursion P cues → In cue cues → P cue
in_all P cue [] all is = absurd is
in_all P cue (k ∷ ks) all (inl same) = subst P (sym same) all.0
in_all P cue (k ∷ ks) all (inr is) = in_all P cue ks all.1 is

-- the cue of a caption
record IsOfCue (rate : Rate) (service : ℕ) (c : Caption) (cues : List Cue) : Type 0 where
  cue : Cue
  within : In cue (cues_of_service service cues)
  load_is : c.load ≡ cue.load
  hide_is : c.hide ≡ unwrap_or cue.hide 0

cue_of : (rate : Rate) (service : ℕ) (c : Caption) (cues : List Cue) → Has c (service_captions rate service cues) → IsOfCue rate service c cues
cue_of rate service c [] has = absurd has
cue_of rate service c (k ∷ ks) has = at k.kind refl has (λ rest. cue_of rate service c ks rest)
  where
    further : (b : Bool) → IsOfCue rate service c ks → (is_of_service service k.kind ≡ b) → IsOfCue rate service c (k ∷ ks)
    further true is test = record {
      cue = is.cue;
      within = subst (λ b. In is.cue (cond b (k ∷ cues_of_service service ks) (cues_of_service service ks))) (sym test) (inr is.within);
      load_is = is.load_is;
      hide_is = is.hide_is;
    }
    further false is test = record {
      cue = is.cue;
      within = subst (λ b. In is.cue (cond b (k ∷ cues_of_service service ks) (cues_of_service service ks))) (sym test) is.within;
      load_is = is.load_is;
      hide_is = is.hide_is;
    }

    win : (w : WinCue) → k.kind ≡ Win w → (b : Bool) → (w.service == service) ≡ b
        → Has c (cons_option (if b then Some (window_caption rate w k) else None) (service_captions rate service ks))
        → (Has c (service_captions rate service ks) → IsOfCue rate service c ks) → IsOfCue rate service c (k ∷ ks)
    win w is false off has rest = further (is_of_service service k.kind) (rest has) refl
    win w is true on (inr has) rest = further (is_of_service service k.kind) (rest has) refl
    win w is true on (inl same) rest =
        let its : is_of_service service k.kind ≡ true = ap (is_of_service service) is ∙ eqb_turned service w.service ∙ on in
        record {
          cue = k;
          within = subst (λ b. In k (cond b (k ∷ cues_of_service service ks) (cues_of_service service ks))) (sym its) (inl refl);
          load_is = ap (λ (x : Caption). x.load) same;
          hide_is = ap (λ (x : Caption). x.hide) same;
        }

    at : (kind : Kind) → k.kind ≡ kind → Has c (cons_option (caption_with rate service kind k) (service_captions rate service ks))
        → (Has c (service_captions rate service ks) → IsOfCue rate service c ks) → IsOfCue rate service c (k ∷ ks)
    at (Pop channel) is has rest = further (is_of_service service k.kind) (rest has) refl
    at (Paint channel) is has rest = further (is_of_service service k.kind) (rest has) refl
    at (Roll channel rows) is has rest = further (is_of_service service k.kind) (rest has) refl
    at (Win w) is has rest = win w is (w.service == service) refl has rest

-- each caption that is up was loaded after the lost frame
up_loaded : (list : Listing) (service lost frame : ℕ) → IsServiceBack list service frame lost
    → (c : Caption) → Has c (service_captions list.rate service list.cues) → frame < c.hide → suc lost ≤ c.load
up_loaded list service lost frame back c has up =
    let k = cue_of list.rate service c list.cues has in
    by_hide k.cue k.load_is k.cue.hide k.hide_is
    (in_all (λ (cue : Cue). IfSome cue.hide (λ hide. frame < hide → lost < cue.load)) k.cue (cues_of_service service list.cues) back k.within)
  where
    by_hide : (k : Cue) → c.load ≡ k.load → (hide : Option ℕ) → c.hide ≡ unwrap_or hide 0 → IfSome hide (λ h. frame < h → lost < k.load) → suc lost ≤ c.load
    by_hide k load_is None hide_is loaded = absurd (omega arith)
    by_hide k load_is (Some h) hide_is loaded = let low : lost < k.load = loaded (omega arith) in omega arith

pub service_loss_recovered : ServiceLossIsRecovered
service_loss_recovered list service placed formed ruled is clock lost count frame id counts back small =
    ap (λ (s : ScreenState). grids s id) (reset_hears (list_lane list service placed) clock (suc lost) (suc count) frame (omega arith) (omega arith))
    ∙ windows_are_heard list (share_in list service) service (suc lost) placed formed ruled is frame id (omega arith) small
    (up_loaded list service lost frame back)
