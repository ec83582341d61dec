-- The machine values of a `Pointer`, and of the `Loose` that it is made from. Assumes `Logic`.
use Rattle.std.proofs.Common.{◌≡◌, ℕ, List, [], ◌∷◌, ◌++◌, refl, subst}
use Rattle.std.specs.Prelude.{Option}
use seplogic.Ra.Ura.{Ura}
use mir.Raw.{raw as bare}
use mir.Val.{Val, vptr, vstruct, vcons, vnil, of_list}
use base.Logic.{never, fst∗}
use types.Logic.{Logic, sem}
use types.Kit.{Item, Goal, Seq, Step, step, ‵, ◌$◌, move, drop, fsplit, fjoin, fpick, fpack, feq_i, feq_l}
use denote.RattleType.{RattleType, Valss}
use denote.Builtin.{RawPtr}
use denote.Laws.{Is, shows}
use denote.Memory.{lone}
use denote.RawPtr.{Ptr, block_ptr, null_ptr, ptr_val, in_a_block}
use denote.Steps.{nothing, peeks}
use denote.Struct.Struct.{within}
use denote.Struct.Owning.{shape}
use Rattle.ccsuite_c.specs.Held.{chunk}
use Rattle.std_alloc.specs.Box.Ownership.{box_owns}
use Rattle.std_heap.specs.contracts.Global.{the_row as Global}
use Rattle.std_heap.specs.contracts.GlobalAllocator.TheImpl.{ghosts}
use Rattle.std_heap.proofs.Handle.{heap_val, heap_Tells}
use Rattle.ccsuite_c.specs.Held.{held}
use Rattle.ccsuite_c.specs.contracts.state.State.{the_row as State}
use Rattle.ccsuite_c.specs.contracts.loose.Loose as loose
use Rattle.ccsuite_c.specs.contracts.pointer.Pointer.{the_row as Pointer, the_type}

abbrev pub word : Ptr → Val
word p = vstruct (vcons (ptr_val p) vnil)

abbrev pub both : Val → Val
both v = vstruct (vcons v (vcons heap_val vnil))

abbrev pub Loose : RattleType
Loose = loose.the_row State Global ghosts

module _ {M : Type 1} {𝓤 : Ura M} {𝓛 : Logic 𝓤} {K : Type 0} {Γ : List (Item 𝓤)} {G : Goal 𝓤 𝓛.H} where
  pub pointer_out : K → (d : Pointer.Denot) (vs : List Val) → (vs ≡ word d.at ∷ [] → Seq K 𝓛 (‵ (held d.at d.value) ∷ Γ) G) → Seq K 𝓛 (‵ (Pointer.own_val d vs) ∷ Γ) G
  pointer_out t d vs k =
      fsplit t $ fpick t (λ vss. fsplit t $ feq_l t (λ ev. fsplit t $ feq_l t (λ ep. drop t $ k (subst (λ (ps : List Val). vs ≡ vstruct (of_list (ps ++ [])) ∷ []) ep ev))))

  pub pointer_in : K → (p : Ptr) (x : Option State.Denot) → Step K 𝓛 (‵ (Pointer.own_val (record { at = p; value = x }) (word p ∷ [])) ∷ Γ) G (‵ (held p x) ∷ Γ) G
  pointer_in t p x = step (λ s.
      nothing t $ feq_i t (List Val) (ptr_val p ∷ []) (ptr_val p ∷ []) refl $ fjoin t $ feq_i t (List Val) (word p ∷ []) (word p ∷ []) refl $ fjoin t $
      fpack t (Valss (RawPtr ∷ [])) (within (shape the_type) (p, tt) (word p ∷ [])) (ptr_val p ∷ [], tt) $ fjoin t $ s)

  pub loose_out : K → (d : Loose.Denot) (vs : List Val)
      → ((b o : ℕ) → d.at ≡ block_ptr b o → vs ≡ both (vptr b o) ∷ [] → Seq K 𝓛 (‵ (box_owns chunk State (block_ptr b o) d.value) ∷ Γ) G) → Seq K 𝓛 (‵ (Loose.own_val d vs) ∷ Γ) G
  loose_out t d vs k =
      fsplit t $ fpick t (λ vss. fsplit t $ feq_l t (λ ev. fsplit t $ feq_l t (λ ep. fsplit t $ peeks t Global (Is Global) (shows 𝓛 Global) d.alloc vss.1.0 (λ is. drop t $ drop t $
      in_a_block t d.at (λ p. box_owns chunk State p d.value) (fst∗ 𝓤 (never 𝓤) (sem 𝓛 (chunk (bare (lone State.mir)) null_ptr))) (λ b o e. k b o e
      (subst (λ (p : Ptr). vs ≡ vstruct (of_list (ptr_val p ∷ heap_val ∷ [])) ∷ []) e
      (subst (λ (ws : List Val). vs ≡ vstruct (of_list (ptr_val d.at ∷ (ws ++ []))) ∷ []) (heap_Tells d.alloc vss.1.0 is) (subst (λ (ps : List Val). vs ≡ vstruct (of_list (ps ++ (vss.1.0 ++ []))) ∷ []) ep ev))))))))

  pub loose_in : K → (b o : ℕ) (a : Global.Denot) (x : State.Denot)
      → Step K 𝓛 (‵ (Loose.own_val (record { at = block_ptr b o; alloc = a; value = x }) (both (vptr b o) ∷ [])) ∷ Γ) G (‵ (box_owns chunk State (block_ptr b o) x) ∷ ‵ (Global.own_val a (heap_val ∷ [])) ∷ Γ) G
  loose_in t b o a x = step (λ s. let v : Val = both (vptr b o) in
      nothing t $ move t (2 ∷ 0 ∷ []) $ fjoin t $ feq_i t (List Val) (vptr b o ∷ []) (vptr b o ∷ []) refl $ fjoin t $ feq_i t (List Val) (v ∷ []) (v ∷ []) refl $ fjoin t $
      fpack t (Valss (RawPtr ∷ Global ∷ [])) (within (shape (loose.the_type State Global ghosts)) (block_ptr b o, (a, tt)) (v ∷ [])) (vptr b o ∷ [], (heap_val ∷ [], tt)) $ fjoin t $ s)
