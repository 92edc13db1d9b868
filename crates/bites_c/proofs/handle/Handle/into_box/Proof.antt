-- `into_box` tests the pointer, and makes the box of it.
use Rattle.bites_c.proofs.Walks.{lit<, ◌≡◌, List, [], ◌∷◌, ◌++◌, refl, sym, ap, ◌∙◌, subst, true, ◌&&◌, T, Val, vptr, vcons, vnil, has_ty, WT, full_share, ent, emp, id⊢, WpFn, ‵, raw, ◌⊛◌, some, later, at_ret, ◌$◌, ◌∵◌, !, qed, by, move, keep, split, fsplit, fjoin, feq_i, suffices, use0, use1, await, live, stop, fld, lit, of_opd, bin, no_more, and_then, first, branches, blocks, skips, exec, returns, returns_within, enter, alloc_all, pass_all, free_all, look_at, get, get_in, sets, lands_last, env, agg, sub, whole, fact, fact_i, tables, tables_of, RattleType, param, ftrue, owns, block_ptr, null_ptr, ptr_val, tests_null, Slot, plain, type_at, types_at, nothing, layout, glues, Lasts, lasts, triple_of, calls_at_last, framed, Stays, stay_dropped, walk_of, and_tt, Good, Some-of, none_of, Goes-blank, after, proved_at, leaves, passed, ghosts, dict, None, Some}
use mir.Syntax.{a_type, dcons, dnil}
use mir.MapTy.{inst_fn}
use base.Fml.{flft}
use contract.BorrowLft.{◌⊑◌}
use denote.Param.{bounded}
use Rattle.std.proofs.BoxSteps.Form as box
use Rattle.std.specs.contracts.boxed.Box.from_raw as callee
use Rattle.std.proofs.boxed.Box.from_raw.Met.{met}
use Rattle.bites_c.proofs.Destruct++none.drop.Code as none
use Rattle.bites_c.proofs.Values.{Z, Z_laws, E, both, pair_good, no_drop, tokens, whole_out, with_types}
use Rattle.bites_c.proofs.Handles.{handle_out, either_out}
use Rattle.bites_c.specs.contracts.handle.Handle.{the_row as B}
use Rattle.bites_c.specs.contracts.handle.Handle.into_box.{ended, clauses}
use Rattle.bites_c.specs.contracts.handle.Handle.into_box.Key.{name as #self}
use Rattle.bites_c.proofs.handle.Handle.into_box.Statement.{statement}
use Rattle.bites_c.proofs.handle.Handle.into_box.Code as code

pub into_box_spec : {M : Type 1} → statement M
unfolding none.code tables_of
into_box_spec 𝓤 𝓛 𝓜 𝓡 wired X L freed frees =
    let 𝓣 = tables 𝓤 𝓛.H 𝓜 𝓡 𝓡.env in let En = ended X freed in let c = clauses X freed 𝓛 𝓜.mem 𝓡.returns in
    let R : RattleType = param 0 X in let taken : Slot 1 = plain (λ _. B R) in
    let args = bounded (a_type ∷ []) (X, tt) (dcons freed dnil) in let fn = inst_fn args code.function in
    let Held : RattleType = box.B (E X L) in let Out : RattleType = type_at En.signature.result ([], tt) in
    let hs : Stays En.signature.params En.kept = (stay_dropped taken En.kept.0, tt) in
    let W = walk_of 𝓛 En hs c in
    let heap_met = passed 𝓡.env (code.calls-std_heap::GlobalAllocator::allocate 𝓡.env wired) (code.calls-std_heap::GlobalAllocator::deallocate 𝓡.env wired)
    (code.calls-std_heap::GlobalAllocator::grow 𝓡.env wired) (code.calls-std_heap::GlobalAllocator::shrink 𝓡.env wired) _ 𝓤 𝓛 𝓜 𝓡 in
    let nothing_freed = glues "bites_c::Destruct++none::drop" 𝓡.env (code.calls-bites_c::Destruct++none::drop 𝓡.env wired) Z Z_laws _ 𝓤 𝓛 𝓜 𝓡 in
    let k = triple_of 𝓛 (callee.signature X Z ghosts dict no_drop) (callee.spec X Z ghosts dict no_drop 𝓛 𝓜.mem 𝓡.returns) in
    proved_at 𝓛 En hs c 𝓜 𝓡 (Goes-blank 𝓛 1 taken En.kept.0 (λ κs x f. tt), tt) (#self args) fn (code.unfolded 𝓤 𝓛.H 𝓜 𝓡 wired (X, tt) freed) (λ z are.
    let κs = z.0.0 in let κ = κs.0 in let q = z.0.1.0 in let d = z.0.3.0 in let a = d.alloc in
    qed 𝓛 (((‵ (flft κ q) ⊛ ‵ ftrue) ⊛ ‵ (owns (types_at En.signature.params κs) z.0.3 z.0.4)) ∷ (raw (fact 𝓤 (κ ⊑ X.lives)) ⊛ ‵ ftrue) ∷ []) ∵
    split ! $ move ! (1 ∷ []) $ fsplit ! $ handle_out R ! d.at a d.held z.0.4.0 (λ h ws fits. either_out R ! a d.at d.held
    (λ is at_null.
    let w : Val = both (ptr_val null_ptr) h in
    let typed : T (has_ty (layout Z) h && true) × WT w = (and_tt (has_ty (layout Z) h) fits.0, (record { fits = lit< tt }, (fits.1, tt))) in
    let laid = ws ∙ ap (λ p. both (ptr_val p) h ∷ []) at_null in
    suffices ! (WpFn 𝓤 𝓛.H 𝓣.C 𝓣.Λ fn (w ∷ []) (W.post z))
    (subst (λ (us : List Val). ent 𝓤 (WpFn 𝓤 𝓛.H 𝓣.C 𝓣.Λ fn (w ∷ []) (W.post z)) (WpFn 𝓤 𝓛.H 𝓣.C 𝓣.Λ fn us (W.post z))) (sym (λ i. laid i ++ [])) (id⊢ 𝓤 _)) $
    enter ! 𝓣.C 𝓣.Λ fn (w ∷ []) (W.post z) $ alloc_all ! (λ l. pass_all ! refl (typed, tt) $
    sets ! (of_opd ! (get_in ! (fld ! refl (stop !)) (sub ! 0 refl (whole !)))) refl (tt, record { fits = lit< tt }) $
    sets ! (of_opd ! (get_in ! (fld ! refl (stop !)) (sub ! 1 refl (whole !)))) refl fits $
    sets ! (of_opd ! (get ! refl)) refl (tt, record { fits = lit< tt }) $
    sets ! (bin ! (get ! refl) (lit ! tt) tt) refl (tt, tt) $ first ! $ branches ! (get ! refl)
    (λ _. sets ! (agg ! (and_then ! (lit ! tt) (no_more !))) refl (tt, (record { fits = lit< tt }, tt)) $
    use0 𝓛 (‵ (Out.own_val None (live 0 vnil ∷ []))) (none_of 𝓛 Held) $
    use0 𝓛 (raw (fact 𝓤 (d.held ≡ None))) (fact_i 𝓤 (d.held ≡ None) (emp 𝓤) is) $ nothing ! $ nothing ! $ fjoin ! $
    returns_within ! (W.post z) refl (look_at ! 0 refl) $ free_all ! refl $ keep ! (5 ∷ 0 ∷ 2 ∷ 1 ∷ []) $
    by ! (leaves 𝓛 En hs c z (live 0 vnil) None (tt, tt) (tt, tt)))
    (λ wrong. absurd wrong)))
    (λ m b o is at_block test.
    let w : Val = both (vptr b o) h in let laid = ws ∙ ap (λ p. both (ptr_val p) h ∷ []) at_block in
    let y : k.Ghost = (((κ, ([], tt)), (q, (full_share, tt)), tt, (a, (block_ptr b o, tt)), (h ∷ [], (vptr b o ∷ [], tt))), m) in
    nothing ! $ feq_i ! (List Val) (vptr b o ∷ []) (vptr b o ∷ []) refl $ fjoin ! $ move ! (2 ∷ 0 ∷ []) $ fjoin ! $
    move ! (4 ∷ []) $ split ! $ move ! (5 ∷ []) $ split ! $ move ! (2 ∷ 0 ∷ 4 ∷ 5 ∷ []) $
    with_types X L ! κ q $ use1 𝓛 (raw (k.pre y)) (id⊢ 𝓤 _) $
    suffices ! (WpFn 𝓤 𝓛.H 𝓣.C 𝓣.Λ fn (w ∷ []) (W.post z))
    (subst (λ (us : List Val). ent 𝓤 (WpFn 𝓤 𝓛.H 𝓣.C 𝓣.Λ fn (w ∷ []) (W.post z)) (WpFn 𝓤 𝓛.H 𝓣.C 𝓣.Λ fn us (W.post z))) (sym (λ i. laid i ++ [])) (id⊢ 𝓤 _)) $
    enter ! 𝓣.C 𝓣.Λ fn (w ∷ []) (W.post z) $ alloc_all ! (λ l. pass_all ! refl (pair_good b o h fits, tt) $ let Ev = env fn.locals l in
    sets ! (of_opd ! (get_in ! (fld ! refl (stop !)) (sub ! 0 refl (whole !)))) refl (tt, tt) $
    sets ! (of_opd ! (get_in ! (fld ! refl (stop !)) (sub ! 1 refl (whole !)))) refl fits $
    sets ! (of_opd ! (get ! refl)) refl (tt, tt) $
    sets ! (bin ! (get ! refl) (lit ! tt) (tests_null (block_ptr b o) test)) refl (tt, tt) $ first ! $ branches ! (get ! refl) (λ wrong. absurd wrong) (λ _.
    skips ! $ exec ! 𝓣.C 𝓣.Λ Ev (after 5 fn.body) (at_ret Ev (W.post z)) $ first ! $ blocks ! $
    sets ! (of_opd ! (get ! refl)) refl fits $ sets ! (of_opd ! (get ! refl)) refl (tt, tt) $
    calls_at_last ! (framed 𝓤 𝓛.H 𝓜 𝓣) k
    (met 𝓤 𝓛 𝓜 𝓡 (code.calls-std_alloc::boxed::Box::from_raw 𝓡.env wired) X Z L Z_laws ghosts dict no_drop heap_met nothing_freed)
    y (and_then ! (get ! refl) (and_then ! (get ! refl) (no_more !))) (λ u.
    use1 𝓛 (later (some (λ (r : box.D (E X L)). (tokens 𝓛 κ q ⊛ ‵ (Held.own_val r (u ∷ [])))
    ⊛ some (λ (ls : Lasts (callee.ended X Z ghosts dict no_drop) y.0.0 y.0.3). ‵ (lasts (callee.ended X Z ghosts dict no_drop) y.0.0 y.0.3 ls)
    ⊛ (raw (fact 𝓤 (r.value ≡ m)) ⊛ raw (fact 𝓤 (r.alloc ≡ a))))))) (id⊢ 𝓤 (k.post y u)) $
    await ! tt $ whole_out X L ! κ q a m u _ _ (λ r same typed.
    let good : Good (layout Out) (live 1 (vcons u vnil)) = (and_tt _ typed.0, (record { fits = lit< tt }, (typed.1, tt))) in
    let told = is ∙ ap (λ x. Some x) (sym same) in
    lands_last ! refl typed $ exec ! 𝓣.C 𝓣.Λ Ev (after 6 fn.body) (at_ret Ev (W.post z)) $
    sets ! (of_opd ! (get ! refl)) refl typed $
    sets ! (agg ! (and_then ! (lit ! tt) (and_then ! (get ! refl) (no_more !)))) refl good $
    use1 𝓛 (‵ (Out.own_val (Some r) (live 1 (vcons u vnil) ∷ []))) (Some-of 𝓛 Held r u) $
    use0 𝓛 (raw (fact 𝓤 (d.held ≡ Some r.value))) (fact_i 𝓤 (d.held ≡ Some r.value) (emp 𝓤) told) $ nothing ! $ nothing ! $ fjoin ! $
    returns ! (look_at ! 0 refl) $ free_all ! refl $ keep ! (3 ∷ 0 ∷ 2 ∷ 1 ∷ []) $
    by ! (leaves 𝓛 En hs c z (live 1 (vcons u vnil)) (Some r) (tt, tt) (tt, tt)))))))))
