-- `of` takes the box apart and keeps its pointer.
use Rattle.bites_c.proofs.Walks.{◌≡◌, List, [], ◌∷◌, ◌++◌, refl, sym, subst, Val, vptr, full_share, ent, emp, id⊢, WpFn, ‵, raw, ◌⊛◌, some, later, ◌$◌, ◌∵◌, !, qed, by, move, keep, split, fsplit, fjoin, suffices, use0, use1, await, stop, fld, of_opd, no_more, and_then, returns, enter, alloc_all, pass_all, free_all, look_at, get, get_in, sets, lands_as, agg, sub, whole, fact, fact_i, tables, tables_of, RattleType, owns, RawPtr, Ptr, block_ptr, Slot, plain, types_at, nothing, param, glues, Tuple, Lasts, lasts, triple_of, calls_at, framed, Stays, stay_dropped, walk_of, Goes-blank, proved_at, leaves, box_out, box_in, passed, ghosts, dict, Some, ftrue}
use mir.Syntax.{a_type, dcons, dnil}
use mir.MapTy.{inst_fn}
use base.Fml.{flft}
use contract.BorrowLft.{◌⊑◌}
use denote.Param.{bounded}
use Rattle.std.proofs.BoxSteps.Form as box
use Rattle.std.specs.contracts.boxed.Box.into_raw_with_allocator as callee
use Rattle.std.proofs.boxed.Box.into_raw_with_allocator.Met.{met}
use Rattle.std.specs.contracts.alloc.Global as heap
use Rattle.std.specs.contracts.boxed.Box as boxes
use Rattle.bites_c.proofs.Destruct++none.drop.Code as none
use Rattle.bites_c.specs.Holding.{boxed}
use Rattle.bites_c.proofs.Values.{Z, Z_laws, E, both, pair_good, no_drop, tokens, parts_out, with_types}
use Rattle.bites_c.proofs.Handles.{handle_in}
use Rattle.bites_c.specs.contracts.handle.Handle.of.{ended, clauses}
use Rattle.bites_c.specs.contracts.handle.Handle.of.Key.{name as #self}
use Rattle.bites_c.proofs.handle.Handle.of.Statement.{statement}
use Rattle.bites_c.proofs.handle.Handle.of.Code as code

pub of_spec : {M : Type 1} → statement M
unfolding none.code tables_of
of_spec 𝓤 𝓛 𝓜 𝓡 wired T L freed frees =
    let 𝓣 = tables 𝓤 𝓛.H 𝓜 𝓡 𝓡.env in let En = ended T freed in let c = clauses T freed 𝓛 𝓜.mem 𝓡.returns in
    let R : RattleType = param 0 T in let X = E T L in let taken : Slot 1 = plain (λ _. boxes.the_row R heap.the_row ghosts) in
    let args = bounded (a_type ∷ []) (T, tt) (dcons freed dnil) in let fn = inst_fn args code.function in
    let hs : Stays En.signature.params En.kept = (stay_dropped taken En.kept.0, tt) in
    let W = walk_of 𝓛 En hs c in
    let heap_met = passed 𝓡.env (code.calls-std_heap::GlobalAllocator::allocate 𝓡.env wired) (code.calls-std_heap::GlobalAllocator::deallocate 𝓡.env wired)
    (code.calls-std_heap::GlobalAllocator::grow 𝓡.env wired) (code.calls-std_heap::GlobalAllocator::shrink 𝓡.env wired) _ 𝓤 𝓛 𝓜 𝓡 in
    let nothing_freed = glues "bites_c::Destruct++none::drop" 𝓡.env (code.calls-bites_c::Destruct++none::drop 𝓡.env wired) Z Z_laws _ 𝓤 𝓛 𝓜 𝓡 in
    let k = triple_of 𝓛 (callee.signature T Z ghosts dict no_drop freed) (callee.spec T Z ghosts dict no_drop freed 𝓛 𝓜.mem 𝓡.returns) in
    proved_at 𝓛 En hs c 𝓜 𝓡 (Goes-blank 𝓛 1 taken En.kept.0 (λ κs x f. tt), tt) (#self args) fn (code.unfolded 𝓤 𝓛.H 𝓜 𝓡 wired (T, tt) freed) (λ z are.
    let κs = z.0.0 in let κ = κs.0 in let q = z.0.1.0 in let v = z.0.3.0 in
    qed 𝓛 (((‵ (flft κ q) ⊛ ‵ ftrue) ⊛ ‵ (owns (types_at En.signature.params κs) z.0.3 z.0.4)) ∷ (raw (fact 𝓤 (κ ⊑ T.lives)) ⊛ ‵ ftrue) ∷ []) ∵
    split ! $ move ! (1 ∷ []) $ fsplit ! $ box_out X ! v z.0.4.0 (λ b o h e ws fits. box_in X ! v b o v.value e refl $
    let w : Val = box.word X h b o in
    let y : k.Ghost = (((κ, ([], tt)), (q, (full_share, tt)), tt, (v, tt), (w ∷ [], tt)), tt) in
    fjoin ! $ move ! (2 ∷ []) $ split ! $ move ! (3 ∷ []) $ split ! $ move ! (2 ∷ 0 ∷ 4 ∷ 3 ∷ []) $
    with_types T L ! κ q $ use1 𝓛 (raw (k.pre y)) (id⊢ 𝓤 _) $
    suffices ! (WpFn 𝓤 𝓛.H 𝓣.C 𝓣.Λ fn (w ∷ []) (W.post z))
    (subst (λ (us : List Val). ent 𝓤 (WpFn 𝓤 𝓛.H 𝓣.C 𝓣.Λ fn (w ∷ []) (W.post z)) (WpFn 𝓤 𝓛.H 𝓣.C 𝓣.Λ fn us (W.post z))) (sym (λ i. ws i ++ [])) (id⊢ 𝓤 _)) $
    enter ! 𝓣.C 𝓣.Λ fn (w ∷ []) (W.post z) $ alloc_all ! (λ l. pass_all ! refl (pair_good b o h fits, tt) $
    sets ! (of_opd ! (get ! refl)) refl (pair_good b o h fits) $
    calls_at ! (framed 𝓤 𝓛.H 𝓜 𝓣) k
    (met 𝓤 𝓛 𝓜 𝓡 (code.calls-std_alloc::boxed::Box::into_raw_with_allocator 𝓡.env wired) T Z L Z_laws ghosts dict no_drop freed heap_met nothing_freed frees)
    y (and_then ! (get ! refl) (no_more !)) (λ u.
    use1 𝓛 (later (some (λ (r : Ptr × Z.Denot). (tokens 𝓛 κ q ⊛ ‵ ((Tuple (RawPtr ∷ Z ∷ [])).own_val r (u ∷ [])))
    ⊛ some (λ (ls : Lasts (callee.ended T Z ghosts dict no_drop freed) y.0.0 y.0.3). ‵ (lasts (callee.ended T Z ghosts dict no_drop freed) y.0.0 y.0.3 ls)
    ⊛ (raw (fact 𝓤 (r.1 ≡ v.alloc)) ⊛ ‵ (boxed R v.alloc r.0 v.value)))))) (id⊢ 𝓤 (k.post y u)) $
    await ! tt $ parts_out T L ! κ q v.alloc v.value u _ _ (λ b' o' h' us fits'.
    lands_as ! us refl (pair_good b' o' h' fits') $
    sets ! (of_opd ! (get_in ! (fld ! refl (stop !)) (sub ! 0 refl (whole !)))) refl (tt, tt) $
    sets ! (of_opd ! (get_in ! (fld ! refl (stop !)) (sub ! 1 refl (whole !)))) refl fits' $
    sets ! (agg ! (and_then ! (get ! refl) (and_then ! (get ! refl) (no_more !)))) refl (pair_good b' o' h' fits') $
    handle_in R ! (block_ptr b' o') h' v.alloc (Some v.value) $
    use0 𝓛 (raw (fact 𝓤 (Some v.value ≡ Some v.value))) (fact_i 𝓤 (Some v.value ≡ Some v.value) (emp 𝓤) refl) $ nothing ! $ nothing ! $ fjoin ! $
    returns ! (look_at ! 0 refl) $ free_all ! refl $
    keep ! (3 ∷ 0 ∷ 2 ∷ 1 ∷ []) $
    by ! (leaves 𝓛 En hs c z (both (vptr b' o') h') (record { at = block_ptr b' o'; alloc = v.alloc; held = Some v.value }) (tt, tt) (tt, tt)))))))
