-- The machine values of a handle. Assumes `Logic`.
use Rattle.bites_c.proofs.Walks.{lit<, true, ◌&&◌, T, has_ty, WT, and_tt, ◌≡◌, ℕ, List, [], ◌∷◌, ◌++◌, refl, subst, Ura, Val, vstruct, of_list, Fml, fsep, full_share, ent, never, fst∗, bare, Logic, sem, use1, Item, Goal, Seq, Step, step, ‵, ◌$◌, move, drop, fsplit, fjoin, fpick, feq_i, feq_l, RattleType, RawPtr, Ptr, block_ptr, null_ptr, ptr_val, in_a_block, nothing, layout, handle_tells, Good, ghosts, None, Some}
use mir.Syntax.{ty_ptr}
use base.Logic.{via, guard, guard_i, snd∗}
use contract.Monad.{fact_use}
use types.Kit.{given, learn, fpack}
use denote.RattleType.{Valss}
use denote.Memory.{lone}
use denote.RawPtr.{Testable, lies_at}
use denote.Struct.Field.{RawPtr-field, rows}
use denote.Struct.Struct.{Shape, Struct, within}
use Rattle.std.proofs.GlobalToken.{dealloc_token-Testable}
use Rattle.std.specs.contracts.alloc.Global as heap
use Rattle.std.specs.declared.option.Option.{Option}
use Rattle.bites_c.specs.Holding.{boxed, holds}
use Rattle.bites_c.proofs.Values.{Z, al, both}

-- the fields of a handle, whose name does not matter
abbrev fields : Shape
fields = record { name = []; args = []; types = []; fields = rows (RawPtr-field ∷ heap.the_field ∷ []) }

module _ (R : RattleType) where
  -- what a handle owns that holds a value of this type
  abbrev pub handle_owns : Ptr → Z.Denot → Option R.Denot → List Val → Fml
  handle_owns p a x vs = fsep ((Struct fields).own_val (p, (((tt, tt), tt), tt)) vs) (holds R a p x)

  module _ {M : Type 1} {𝓤 : Ura M} (𝓛 : Logic 𝓤) where
    tested : (a : Z.Denot) (p : Ptr) (m : R.Denot) → ent 𝓤 (sem 𝓛 (boxed R a p m)) (guard 𝓤 (Testable p) (sem 𝓛 (boxed R a p m)))
    tested a p m = let τ = bare (lone R.mir) in fact_use 𝓤 (Testable p) (via 𝓤 _ (snd∗ 𝓤 (sem 𝓛 (lies_at R full_share p m)) (sem 𝓛 (ghosts.dealloc_token a τ p))) (dealloc_token-Testable 𝓛 a τ p)) (guard_i 𝓤 (Testable p) (sem 𝓛 (boxed R a p m)))

  module _ {M : Type 1} {𝓤 : Ura M} {𝓛 : Logic 𝓤} {K : Type 0} {Γ : List (Item 𝓤)} {G : Goal 𝓤 𝓛.H} where
    pub handle_out : K → (p : Ptr) (a : Z.Denot) (x : Option R.Denot) (vs : List Val)
        → ((h : Val) → vs ≡ both (ptr_val p) h ∷ [] → Good (layout Z) h → Seq K 𝓛 (‵ (holds R a p x) ∷ ‵ (Z.own_val a (h ∷ [])) ∷ Γ) G)
        → Seq K 𝓛 (‵ (handle_owns p a x vs) ∷ Γ) G
    handle_out t p a x vs k =
        fsplit t $ fpick t (λ vss. fsplit t $ feq_l t (λ ev. fsplit t $ feq_l t (λ ep. fsplit t $ handle_tells al t a vss.1.0 (λ h ea fits. move t (1 ∷ []) $ drop t $ move t (1 ∷ []) $
        k h
        (subst (λ (ws : List Val). vs ≡ vstruct (of_list (ptr_val p ∷ (ws ++ []))) ∷ []) ea (subst (λ (ps : List Val). vs ≡ vstruct (of_list (ps ++ (vss.1.0 ++ []))) ∷ []) ep ev)) fits))))

    pub handle_in : K → (p : Ptr) (h : Val) (a : Z.Denot) (x : Option R.Denot)
        → Step K 𝓛 (‵ (handle_owns p a x (both (ptr_val p) h ∷ [])) ∷ Γ) G (‵ (holds R a p x) ∷ ‵ (Z.own_val a (h ∷ [])) ∷ Γ) G
    handle_in t p h a x = step (λ s. let v : Val = both (ptr_val p) h in
        nothing t $ move t (2 ∷ 0 ∷ []) $ fjoin t $ feq_i t (List Val) (ptr_val p ∷ []) (ptr_val p ∷ []) refl $ fjoin t $ feq_i t (List Val) (v ∷ []) (v ∷ []) refl $ fjoin t $
        fpack t (Valss (RawPtr ∷ Z ∷ [])) (within fields (p, (((tt, tt), tt), tt)) (v ∷ [])) (ptr_val p ∷ [], (h ∷ [], tt)) $ fjoin t $ s)

    -- a handle holds nothing exactly if its pointer is null
    pub either_out : K → (a : Z.Denot) (p : Ptr) (x : Option R.Denot) → (x ≡ None → p ≡ null_ptr → Seq K 𝓛 Γ G)
        → ((m : R.Denot) (b o : ℕ) → x ≡ Some m → p ≡ block_ptr b o → Testable (block_ptr b o) → Seq K 𝓛 (‵ (boxed R a (block_ptr b o) m) ∷ Γ) G) → Seq K 𝓛 (‵ (holds R a p x) ∷ Γ) G
    either_out t a p None none one = feq_l t (λ e. none refl e)
    either_out t a p (Some m) none one = in_a_block t p (λ q. boxed R a q m) (fst∗ 𝓤 (never 𝓤) (sem 𝓛 (ghosts.dealloc_token a (bare (lone R.mir)) null_ptr))) (λ b o is.
        use1 𝓛 (given (Testable (block_ptr b o)) (‵ (boxed R a (block_ptr b o) m))) (tested 𝓛 a (block_ptr b o) m) $ learn t (λ test. one m b o refl is test))

-- a pointer, and a handle of it, have their types
pub pointer_good : (p : Ptr) → T (has_ty ty_ptr (ptr_val p)) × WT (ptr_val p)
pointer_good null_ptr = (tt, record { fits = lit< tt })
pointer_good (block_ptr b o) = (tt, tt)

pub handle_good : (p : Ptr) (h : Val) → Good (layout Z) h → T (has_ty ty_ptr (ptr_val p) && (has_ty (layout Z) h && true)) × WT (both (ptr_val p) h)
handle_good null_ptr h fits = (and_tt (has_ty (layout Z) h) fits.0, (record { fits = lit< tt }, (fits.1, tt)))
handle_good (block_ptr b o) h fits = (and_tt (has_ty (layout Z) h) fits.0, (tt, (fits.1, tt)))
