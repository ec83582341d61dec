-- `into_loose` takes the box out of a handle that has one. Assumes `Logic`.
use Rattle.std.proofs.Common.{◌≡◌, List, [], ◌∷◌, ◌++◌, refl, sym, ap, ◌∙◌, subst, Some, None}
use Rattle.std.specs.Prelude.{Option, IsSome}
use mir.Raw.{raw as bare}
use mir.Syntax.{Fn}
use mir.Val.{Val, vptr}
use base.Logic.{SProp, emp, ent, id⊢, never, fst∗}
use prog.Wp.{WpFn}
use contract.Monad.{fact, fact_i}
use contract.Running.{tables}
use types.Logic.{sem}
use types.Kit.{‵, raw, ◌⊛◌, ◌$◌, ◌∵◌, !, qed, by, move, drop, use0, split, join, fsplit, fjoin, fpick, suffices, rewrite}
use types.Part.{agg, whole, sub}
use types.Run.{of_opd, fld, stop, no_more, and_then, returns, enter}
use types.ByLocal.{alloc_all, pass_all, free_all, look_at, get, get_in, sets}
use denote.Exit.{yes}
use denote.Laws.{Is, shows}
use denote.Memory.{lone}
use denote.RattleType.{owns}
use denote.RawPtr.{Ptr, block_ptr, null_ptr, in_a_block}
use denote.Signature.{types_at, plain}
use denote.Steps.{nothing, heard, peeks}
use denote.Triple.Entry.{alive}
use denote.Triple.Walked.{Stays, stay_dropped, walk_of}
use Rattle.ccsuite_c.specs.Held.{chunk}
use Rattle.std.proofs.alloc.Calls.{Goes-blank}
use Rattle.std.proofs.raw_atomic.Walks.{proved_at, leaves}
use Rattle.std_alloc.specs.Box.Ownership.{box_owns}
use Rattle.std_heap.specs.contracts.Global.{the_row as Global}
use Rattle.std_heap.proofs.Handle.{heap_val, heap_Tells}
use Rattle.ccsuite_c.proofs.PointerValues.{word, both, pointer_out, loose_in}
use Rattle.ccsuite_c.specs.Held.{held}
use Rattle.ccsuite_c.specs.States.{WasFed}
use Rattle.ccsuite_c.specs.contracts.state.State.{the_row as Row}
use Rattle.ccsuite_c.specs.contracts.pointer.Pointer.{the_row as Pointer}
use Rattle.ccsuite_c.specs.contracts.pointer.Pointer.into_loose.{ended, clauses}
use Rattle.ccsuite_c.specs.contracts.pointer.Pointer.into_loose.Key.{name as #self}
use Rattle.ccsuite_c.proofs.pointer.Pointer.into_loose.Statement.{statement}
use Rattle.ccsuite_c.proofs.pointer.Pointer.into_loose.Code as compiled

known : {A : Type 0} (o : Option A) → IsSome o → (x : A) × (o ≡ Some x)
known (Some x) some = (x, refl)
known None some = cc

pub into_loose_spec : {M : Type 1} → statement M
into_loose_spec 𝓤 𝓛 𝓜 𝓡 wired =
    let H = 𝓛.H in let c = clauses 𝓛 𝓜.mem 𝓡.returns in let fn : Fn = compiled.function in
    let stays : Stays ended.signature.params ended.kept = (stay_dropped (plain (λ _. Pointer)) yes, (stay_dropped (plain (λ _. Global)) yes, tt)) in
    let C = (tables 𝓤 H 𝓜 𝓡 𝓡.env).C in let Λ = (tables 𝓤 H 𝓜 𝓡 𝓡.env).Λ in
    proved_at 𝓛 ended stays c 𝓜 𝓡 (Goes-blank 𝓛 0 (plain (λ _. Pointer)) yes (λ κs x f. tt), (Goes-blank 𝓛 0 (plain (λ _. Global)) yes (λ κs x f. tt), tt)) #self fn (compiled.unfolded 𝓤 H 𝓜 𝓡 wired) (λ z are.
    let Post : Val → SProp 𝓤 = (walk_of 𝓛 ended stays c).post z in let Run : List Val → SProp 𝓤 = λ ws. WpFn 𝓤 H C Λ fn ws Post in let v = z.0.3.0 in let a = z.0.3.1.0 in
    qed 𝓛 ((raw (alive 𝓛 ended.signature z.0.0 z.0.1) ⊛ ‵ (owns (types_at ended.signature.params z.0.0) z.0.3 z.0.4)) ∷ raw (fact 𝓤 (IsSome v.value)) ∷ []) ∵ move ! (1 ∷ []) $ heard ! (IsSome v.value) (λ some.
    let x = (known v.value some).0 in let is : v.value ≡ Some x = (known v.value some).1 in
    split ! $ move ! (1 ∷ []) $ fsplit ! $ pointer_out ! v z.0.4.0 (λ eh. rewrite ! 0 (λ (o : Option Row.Denot). ‵ (held v.at o)) is refl $ fsplit ! $ move ! (1 ∷ []) $ fpick ! (λ fed. drop ! $
    in_a_block ! v.at (λ p. box_owns chunk Row p x) (fst∗ 𝓤 (never 𝓤) (sem 𝓛 (chunk (bare (lone Row.mir)) null_ptr))) (λ b o e. move ! (1 ∷ []) $ fsplit ! $
    peeks ! Global (Is Global) (shows 𝓛 Global) a z.0.4.1.0 (λ seen. let eg = heap_Tells a z.0.4.1.0 seen in rewrite ! 0 (λ (us : List Val). ‵ (Global.own_val a us)) eg refl $
    move ! (1 ∷ []) $ drop ! $ move ! (1 ∷ 0 ∷ []) $
    let ws : List Val = word (block_ptr b o) ∷ heap_val ∷ [] in let ew : z.0.4.0 ≡ word (block_ptr b o) ∷ [] = eh ∙ ap (λ (p : Ptr). word p ∷ []) e in
    suffices ! (Run ws) (subst (λ (us : List Val). ent 𝓤 (Run ws) (Run us)) (sym (λ i. ew i ++ (eg i ++ []))) (id⊢ 𝓤 (Run ws))) $
    enter ! C Λ fn ws Post $ alloc_all ! (λ l. pass_all ! refl ((tt, (tt, tt)), ((tt, ((tt, tt), tt)), tt)) $
    sets ! (of_opd ! (get_in ! (fld ! refl (stop !)) (sub ! 0 refl (whole !)))) refl (tt, tt) $ sets ! (of_opd ! (get ! refl)) refl (tt, tt) $
    sets ! (agg ! (and_then ! (get ! refl) (and_then ! (get ! refl) (no_more !)))) refl (tt, (tt, (((tt, tt), tt), tt))) $
    returns ! (look_at ! 0 refl) $ free_all ! refl $
    loose_in ! b o a x $ use0 𝓛 (raw (fact 𝓤 (WasFed x))) (fact_i 𝓤 (WasFed x) (emp 𝓤) fed) $ use0 𝓛 (raw (fact 𝓤 (v.value ≡ Some x))) (fact_i 𝓤 (v.value ≡ Some x) (emp 𝓤) is) $ join ! $ nothing ! $ nothing ! $ fjoin ! $ nothing ! $ fjoin ! $ move ! (3 ∷ 0 ∷ 2 ∷ 1 ∷ []) $
    by ! (leaves 𝓛 ended stays c z (both (vptr b o)) (record { at = block_ptr b o; alloc = a; value = x }) (tt, (tt, tt)) (tt, (tt, tt))))))))))
