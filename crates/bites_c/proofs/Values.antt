-- The machine values of handles, and of a box by its pointer. Assumes `Logic`.
use Rattle.bites_c.proofs.Walks.{◌≡◌, ℕ, List, [], ◌∷◌, ◌++◌, refl, sym, ap, ◌∙◌, subst, true, ◌&&◌, T, Ura, Dict, impl, tnil, dnil, bare, Val, vptr, vstruct, vcons, vnil, of_list, has_ty, WT, full_share, Fml, ftrue, emp, never, fst∗, Logic, sem, Item, Goal, Seq, Step, step, ‵, raw, ◌⊛◌, some, ◌$◌, move, drop, split, join, fsplit, fpick, use0, feq_l, fact, fact_i, RattleType, RawPtr, Ptr, block_ptr, null_ptr, ptr_val, in_a_block, nothing, no, layout, param, arg_laws, Tuple, and_tt, handle_tells, Good, box_out, box_in}
use mir.Syntax.{tcons}
use base.Fml.{flft, Lft}
use Rattle.std.specs.Borrow.{Share}
use types.Kit.{split3, pick, rewrite}
use contract.BorrowLft.{◌⊑◌}
use denote.Steps.{only, heard}
use denote.Param.{arg}
use denote.Param.Laws.{Laws}
use Rattle.std.proofs.alloc.Calls.{Al}
use Rattle.std.proofs.BoxSteps.Form as box
use Rattle.std.specs.contracts.alloc.Global as heap
use Rattle.std.proofs.alloc.Global.TheLaws as heap_laws
use Rattle.std.specs.contracts.impls.GlobalAllocator.TheImpl as allocator
use Rattle.bites_c.specs.Holding.{boxed}

abbrev pub both : Val → Val → Val
both v w = vstruct (vcons v (vcons w vnil))

-- a type as an argument of a call
abbrev pub as_passed : RattleType → RattleType
as_passed X = arg (bare (layout X)) no X

abbrev pub Z : RattleType
Z = as_passed heap.the_row

abbrev pub Z_laws : Laws Z
Z_laws = arg_laws (bare (layout heap.the_row)) no heap.the_row heap_laws.the_row_laws refl

-- the drop of a `Global`, which does nothing
abbrev pub no_drop : Dict
no_drop = impl ("bites_c::Destruct++none::drop" ∷ []) (tcons (layout Z) tnil) dnil

abbrev pub al : Al
al = record { row = Z; laws = Z_laws; g = allocator.ghosts; d = allocator.dict; drops = no_drop }

pub pair_good : (b o : ℕ) (h : Val) → Good (layout Z) h → T (has_ty (layout Z) h && true) × WT (both (vptr b o) h)
pair_good b o h fits = (and_tt (has_ty (layout Z) h) fits.0, (tt, (fits.1, tt)))

-- the token of a lifetime, and that of one that does not end
module _ {M : Type 1} {𝓤 : Ura M} (𝓛 : Logic 𝓤) (κ : Lft) (q : Share) where
  abbrev pub tokens : Item 𝓤
  tokens = ‵ (flft κ q) ⊛ ‵ (flft [] full_share) ⊛ ‵ ftrue

-- a box of this type
module _ (row : RattleType) (L : Laws row) where
  abbrev R : RattleType
  R = param 0 row

  abbrev pub E : box.Bx
  E = record { row = row; laws = L; al = al }

  module _ {M : Type 1} {𝓤 : Ura M} {𝓛 : Logic 𝓤} {K : Type 0} {Γ : List (Item 𝓤)} {G : Goal 𝓤 𝓛.H} where
    -- what holds after a box was taken apart
    pub parts_out : K → (κ : Lft) (q : Share) (a : Z.Denot) (x : R.Denot) (u : Val) (Lasts : Type 0) (F : Lasts → Fml)
        → ((b o : ℕ) (h : Val) → u ≡ both (vptr b o) h → Good (layout Z) h → Seq K 𝓛 (‵ (boxed R a (block_ptr b o) x) ∷ ‵ (Z.own_val a (h ∷ [])) ∷ (‵ (flft κ q) ⊛ ‵ ftrue) ∷ Γ) G)
        → Seq K 𝓛 (some (λ (r : Ptr × Z.Denot). (tokens 𝓛 κ q ⊛ ‵ ((Tuple (RawPtr ∷ Z ∷ [])).own_val r (u ∷ [])))
        ⊛ some (λ (ls : Lasts). ‵ (F ls) ⊛ (raw (fact 𝓤 (r.1 ≡ a)) ⊛ ‵ (boxed R a r.0 x)))) ∷ Γ) G
    parts_out t κ q a x u Lasts F k =
        pick t (λ r. split t $ split t $ split3 t $ move t (1 ∷ []) $ drop t $ join t $ move t (2 ∷ 1 ∷ []) $ pick t (λ _. split3 t $ drop t $ heard t (r.1 ≡ a) (λ same.
        in_a_block t r.0 (λ p. boxed R a p x) (fst∗ 𝓤 (never 𝓤) (sem 𝓛 (allocator.ghosts.dealloc_token a (bare (layout row)) null_ptr))) (λ b o is.
        move t (1 ∷ []) $ fpick t (λ vss. fsplit t $ feq_l t (λ laid. fsplit t $ feq_l t (λ first. fsplit t $
        rewrite t 0 (λ (s : Z.Denot). ‵ (Z.own_val s vss.1.0)) same refl $ handle_tells al t a vss.1.0 (λ h second fits.
        move t (1 ∷ []) $ drop t $ move t (1 ∷ []) $
        k b o h (ap only (laid ∙ (λ i. vstruct (of_list ((first ∙ ap (λ (p : Ptr). ptr_val p ∷ []) is) i ++ (second i ++ []))) ∷ []))) fits))))))))

    -- and after one was put together
    pub whole_out : K → (κ : Lft) (q : Share) (a : Z.Denot) (x : row.Denot) (u : Val) (Lasts : Type 0) (F : Lasts → Fml)
        → ((r : box.D E) → r.value ≡ x → Good (layout (box.B E)) u → Seq K 𝓛 (‵ ((box.B E).own_val r (u ∷ [])) ∷ (‵ (flft κ q) ⊛ ‵ ftrue) ∷ Γ) G)
        → Seq K 𝓛 (some (λ (r : box.D E). (tokens 𝓛 κ q ⊛ ‵ ((box.B E).own_val r (u ∷ [])))
        ⊛ some (λ (ls : Lasts). ‵ (F ls) ⊛ (raw (fact 𝓤 (r.value ≡ x)) ⊛ raw (fact 𝓤 (r.alloc ≡ a))))) ∷ Γ) G
    whole_out t κ q a x u Lasts F k =
        pick t (λ r. split t $ split t $ split3 t $ move t (1 ∷ []) $ drop t $ join t $ move t (2 ∷ 1 ∷ []) $ pick t (λ _. split3 t $ drop t $ heard t (r.value ≡ x) (λ same. drop t $
        box_out E t r (u ∷ []) (λ b o h at laid fits. box_in E t r b o r.value at refl $
        rewrite t 0 (λ (vs : List Val). ‵ ((box.B E).own_val r vs)) (sym laid) refl $
        k r same (subst (Good (layout (box.B E))) (sym (ap only laid)) (pair_good b o h fits))))))

    -- what a call with a type and the allocator for its parameters requires besides its arguments
    pub with_types : K → (κ : Lft) (q : Share) {A B : Item 𝓤}
        → Step K 𝓛 (((tokens 𝓛 κ q ⊛ A) ⊛ raw (fact 𝓤 (κ ⊑ row.lives)) ⊛ raw (fact 𝓤 ([] ⊑ Z.lives)) ⊛ B) ∷ Γ) G (raw (fact 𝓤 (κ ⊑ row.lives)) ∷ ‵ (flft κ q) ∷ A ∷ B ∷ Γ) G
    with_types t κ q = step (λ s.
        move t (3 ∷ []) $ use0 𝓛 (raw (fact 𝓤 ([] ⊑ Z.lives))) (fact_i 𝓤 ([] ⊑ Z.lives) (emp 𝓤) (heap_laws.the_within [])) $ join t $
        move t (1 ∷ 0 ∷ []) $ join t $
        nothing t $ use0 𝓛 (‵ (flft [] full_share)) (𝓛.lfts.lft-nil full_share) $ join t $
        move t (2 ∷ 0 ∷ 3 ∷ []) $ join t $ join t $ join t $ s)
