-- `empty` owns nothing.
use Rattle.bites_c.proofs.Walks.{lit<, ◌≡◌, List, [], ◌∷◌, ◌++◌, refl, sym, subst, true, ◌&&◌, T, Val, has_ty, WT, ent, emp, id⊢, WpFn, ‵, raw, ◌⊛◌, ◌$◌, ◌∵◌, !, qed, by, move, keep, split, fsplit, fjoin, feq_i, suffices, use0, lit, no_more, and_then, returns, enter, alloc_all, pass_all, free_all, look_at, get, sets, agg, fact, fact_i, tables, owns, types_at, plain, Ptr, null_ptr, ptr_val, nothing, layout, param, alive, Slot, Stays, stay_dropped, walk_of, Goes-blank, handle_tells, and_tt, proved_at, leaves, None, Z}
use mir.Syntax.{a_type, dcons, dnil}
use mir.MapTy.{inst_fn}
use denote.Param.{bounded}
use Rattle.bites_c.proofs.Values.{al, both}
use Rattle.bites_c.proofs.Handles.{handle_in}
use Rattle.bites_c.specs.contracts.handle.Handle.empty.{ended, clauses}
use Rattle.bites_c.specs.contracts.handle.Handle.empty.Key.{name as #self}
use Rattle.bites_c.proofs.handle.Handle.empty.Statement.{statement}
use Rattle.bites_c.proofs.handle.Handle.empty.Code as code

pub empty_spec : {M : Type 1} → statement M
empty_spec 𝓤 𝓛 𝓜 𝓡 wired X L freed frees =
    let 𝓣 = tables 𝓤 𝓛.H 𝓜 𝓡 𝓡.env in let En = ended X freed in let c = clauses X freed 𝓛 𝓜.mem 𝓡.returns in let taken : Slot 1 = plain (λ _. Z) in
    let args = bounded (a_type ∷ []) (X, tt) (dcons freed dnil) in let fn = inst_fn args code.function in
    let hs : Stays En.signature.params En.kept = (stay_dropped taken En.kept.0, tt) in let W = walk_of 𝓛 En hs c in
    proved_at 𝓛 En hs c 𝓜 𝓡 (Goes-blank 𝓛 1 taken En.kept.0 (λ κs x f. tt), tt) (#self args) fn (code.unfolded 𝓤 𝓛.H 𝓜 𝓡 wired (X, tt) freed) (λ z are.
    let κs = z.0.0 in let a = z.0.3.0 in
    qed 𝓛 ((raw (alive 𝓛 En.signature κs z.0.1) ⊛ ‵ (owns (types_at En.signature.params κs) z.0.3 z.0.4)) ∷ raw ((c κs z.0.3).requires z.1) ∷ []) ∵
    split ! $ move ! (1 ∷ []) $ fsplit ! $ handle_tells al ! a z.0.4.0 (λ h ws fits.
    let w : Val = both (ptr_val null_ptr) h in let typed : T (has_ty (layout Z) h && true) × WT w = (and_tt (has_ty (layout Z) h) fits.0, (record { fits = lit< tt }, (fits.1, tt))) in
    suffices ! (WpFn 𝓤 𝓛.H 𝓣.C 𝓣.Λ fn (h ∷ []) (W.post z))
    (subst (λ (us : List Val). ent 𝓤 (WpFn 𝓤 𝓛.H 𝓣.C 𝓣.Λ fn (h ∷ []) (W.post z)) (WpFn 𝓤 𝓛.H 𝓣.C 𝓣.Λ fn us (W.post z))) (sym (λ i. ws i ++ [])) (id⊢ 𝓤 _)) $
    enter ! 𝓣.C 𝓣.Λ fn (h ∷ []) (W.post z) $ alloc_all ! (λ l. pass_all ! refl (fits, tt) $
    sets ! (agg ! (and_then ! (lit ! tt) (and_then ! (get ! refl) (no_more !)))) refl typed $
    feq_i ! Ptr null_ptr null_ptr refl $
    handle_in (param 0 X) ! null_ptr h a None $
    use0 𝓛 (raw (fact 𝓤 (None ≡ None))) (fact_i 𝓤 (None ≡ None) (emp 𝓤) refl) $ nothing ! $ nothing ! $ fjoin ! $
    returns ! (look_at ! 0 refl) $ free_all ! refl $ keep ! (4 ∷ 0 ∷ 2 ∷ 1 ∷ []) $
    by ! (leaves 𝓛 En hs c z w (record { at = null_ptr; alloc = a; held = None }) (tt, tt) (tt, tt)))))
