-- `of_loose` keeps the box, and forgets the allocator. Assumes `Logic`.
use Rattle.std.proofs.Common.{◌≡◌, List, [], ◌∷◌, ◌++◌, refl, sym, subst, Some}
use Rattle.std.specs.Prelude.{Option}
use mir.Syntax.{Fn}
use mir.Val.{Val, vptr}
use base.Logic.{SProp, emp, ent, id⊢}
use base.Fml.{ftrue}
use prog.Wp.{WpFn}
use contract.Monad.{fact, fact_i}
use contract.Running.{tables}
use types.Kit.{‵, raw, ◌⊛◌, ◌$◌, ◌∵◌, !, qed, by, move, drop, use0, split, fsplit, fjoin, fpack, suffices}
use types.Part.{agg, whole, sub}
use types.Run.{of_opd, fld, stop, no_more, and_then, returns, enter}
use types.ByLocal.{alloc_all, pass_all, free_all, look_at, get, get_in, sets}
use denote.Exit.{yes}
use denote.RattleType.{owns}
use denote.RawPtr.{block_ptr}
use denote.Signature.{types_at, plain}
use denote.Steps.{nothing, heard}
use denote.Triple.Entry.{alive}
use denote.Triple.Walked.{Stays, stay_dropped, walk_of}
use Rattle.std.proofs.alloc.Calls.{Goes-blank}
use Rattle.std.proofs.raw_atomic.Walks.{proved_at, leaves}
use Rattle.ccsuite_c.proofs.PointerValues.{word, both, Loose, pointer_in, loose_out}
use Rattle.ccsuite_c.specs.States.{WasFed}
use Rattle.ccsuite_c.specs.declared.state.State.{State}
use Rattle.ccsuite_c.specs.contracts.pointer.Pointer.of_loose.{ended, clauses}
use Rattle.ccsuite_c.specs.contracts.pointer.Pointer.of_loose.Key.{name as #self}
use Rattle.ccsuite_c.proofs.pointer.Pointer.of_loose.Statement.{statement}
use Rattle.ccsuite_c.proofs.pointer.Pointer.of_loose.Code as compiled

pub of_loose_spec : {M : Type 1} → statement M
of_loose_spec 𝓤 𝓛 𝓜 𝓡 wired =
    let H = 𝓛.H in let c = clauses 𝓛 𝓜.mem 𝓡.returns in let fn : Fn = compiled.function in
    let stays : Stays ended.signature.params ended.kept = (stay_dropped (plain (λ _. Loose)) yes, tt) in
    let C = (tables 𝓤 H 𝓜 𝓡 𝓡.env).C in let Λ = (tables 𝓤 H 𝓜 𝓡 𝓡.env).Λ in
    proved_at 𝓛 ended stays c 𝓜 𝓡 (Goes-blank 𝓛 0 (plain (λ _. Loose)) yes (λ κs x f. tt), tt) #self fn (compiled.unfolded 𝓤 H 𝓜 𝓡 wired) (λ z are.
    let Post : Val → SProp 𝓤 = (walk_of 𝓛 ended stays c).post z in let Run : List Val → SProp 𝓤 = λ ws. WpFn 𝓤 H C Λ fn ws Post in let v = z.0.3.0 in let kept : Option State = Some v.value in
    qed 𝓛 ((raw (alive 𝓛 ended.signature z.0.0 z.0.1) ⊛ ‵ (owns (types_at ended.signature.params z.0.0) z.0.3 z.0.4)) ∷ raw (fact 𝓤 (WasFed v.value)) ∷ []) ∵ move ! (1 ∷ []) $ heard ! (WasFed v.value) (λ fed. split ! $ move ! (1 ∷ []) $ fsplit ! $
    loose_out ! v z.0.4.0 (λ b o e ws. move ! (1 ∷ []) $ drop ! $
    suffices ! (Run (both (vptr b o) ∷ [])) (subst (λ (us : List Val). ent 𝓤 (Run (both (vptr b o) ∷ [])) (Run us)) (sym (λ i. ws i ++ [])) (id⊢ 𝓤 (Run (both (vptr b o) ∷ [])))) $
    enter ! C Λ fn (both (vptr b o) ∷ []) Post $ alloc_all ! (λ l. pass_all ! refl ((tt, (tt, (((tt, tt), tt), tt))), tt) $
    sets ! (of_opd ! (get_in ! (fld ! refl (stop !)) (sub ! 0 refl (whole !)))) refl (tt, tt) $ sets ! (of_opd ! (get ! refl)) refl (tt, tt) $
    sets ! (agg ! (and_then ! (get ! refl) (no_more !))) refl (tt, (tt, tt)) $
    returns ! (look_at ! 0 refl) $ free_all ! refl $
    nothing ! $ fpack ! (WasFed v.value) (λ fed. ftrue) fed $ move ! (1 ∷ 0 ∷ []) $ fjoin ! $ pointer_in ! (block_ptr b o) kept $ use0 𝓛 (raw (fact 𝓤 (kept ≡ Some v.value))) (fact_i 𝓤 (kept ≡ Some v.value) (emp 𝓤) refl) $ nothing ! $ nothing ! $ fjoin ! $ move ! (3 ∷ 0 ∷ 2 ∷ 1 ∷ []) $
    by ! (leaves 𝓛 ended stays c z (word (block_ptr b o)) (record { at = block_ptr b o; value = kept }) (tt, tt) (tt, tt))))))
