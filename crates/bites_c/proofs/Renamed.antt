-- A handle keeps what it holds under each of its names. Assumes `Logic`.
use Rattle.bites_c.proofs.Walks.{◌≡◌, List, [], ◌∷◌, ◌++◌, refl, sym, subst, Ura, Val, Fml, ent, emp, id⊢, Logic, WpFn, ‵, raw, ◌⊛◌, ◌$◌, ◌∵◌, !, qed, by, move, keep, split, fsplit, fjoin, suffices, use0, of_opd, fld, stop, no_more, and_then, returns, enter, alloc_all, pass_all, free_all, look_at, get, get_in, sets, agg, sub, whole, fact, fact_i, tables, RattleType, owns, types_at, plain, Ptr, ptr_val, nothing, layout, alive, Slot, Stays, stay_dropped, walk_of, Goes-blank, proved_at, leaves}
use lib.Dec.{T}
use mir.Syntax.{Sym, Ty, Fn, Callee, ty_ptr, ty_struct, tcons, tnil, local, value_local, field, place, copy, rv_opd, aggregate, seq, assign, return}
use prog.Model.{Model}
use prog.Wp.{Closed}
use types.Kit.{rewrite}
use contract.Running.{Running}
use denote.Exit.{Kept, Last, left}
use denote.Param.Mute.{blank}
use denote.Triple.Clauses.{Ended, Clauses, closing}
use denote.Triple.Spec.{Meets}
use Rattle.std.specs.contracts.alloc.Global as heap
use Rattle.std.specs.declared.option.Option.{Option}
use Rattle.bites_c.proofs.Values.{Z, both}
use Rattle.bites_c.proofs.Handles.{handle_owns, handle_in, handle_out, handle_good, pointer_good}

-- the code: it copies the pointer and the allocator from a struct of one name into one of another
abbrev struct : Sym → Ty
struct name = ty_struct name (tcons ty_ptr (tcons (layout heap.the_row) tnil))

abbrev renaming : Sym → Sym → Fn
renaming from to = record {
  lifetimes = 0;
  outlives = [];
  ty_params = [];
  givens = 0;
  params = 1;
  locals = local (struct to) value_local ∷ local (struct from) value_local ∷ local ty_ptr value_local ∷ local (layout heap.the_row) value_local ∷ local ty_ptr value_local ∷ [];
  body = seq (assign (place 2 []) (rv_opd (copy (place 1 (field 0 ∷ [])))))
      (seq (assign (place 3 []) (rv_opd (copy (place 1 (field 1 ∷ [])))))
      (seq (assign (place 4 []) (rv_opd (copy (place 2 []))))
      (seq (assign (place 0 []) (aggregate (copy (place 4 []) ∷ copy (place 3 []) ∷ []))) return)));
}

-- the types P and Q own what a handle owns
module _ (R P Q : RattleType) (at : P.Denot → Ptr) (alloc : P.Denot → Z.Denot) (held : P.Denot → Option R.Denot) (make : Ptr → Z.Denot → Option R.Denot → Q.Denot)
    (taken_apart : (d : P.Denot) (vs : List Val) → P.own_val d vs ≡ handle_owns R (at d) (alloc d) (held d) vs)
    (put_together : (p : Ptr) (a : Z.Denot) (x : Option R.Denot) (vs : List Val) → handle_owns R p a x vs ≡ Q.own_val (make p a x) vs)
    (k : Kept) (last : (d : P.Denot) → Last (P.exit k) d) (silent : (d : P.Denot) (f : Last (P.exit k) d) → T (blank (left (P.exit k) d f)))
    (Says : P.Denot → Q.Denot → Type 0) (told : (d : P.Denot) → Says d (make (at d) (alloc d) (held d))) where
  abbrev renames : Ended
  renames = record { signature = record { lifetimes = 0; outlives = []; params = plain (λ _. P) ∷ []; result = plain (λ _. Q) }; kept = (k, tt) }

  module _ {M : Type 1} (𝓤 : Ura M) (𝓛 : Logic 𝓤) (𝓜 : Model 𝓤 𝓛.H) (𝓡 : Running 𝓤 𝓛.H 𝓜) where
    abbrev says : Clauses 𝓤 renames
    says κs a = record { ghost = Unit {0}; requires = λ _. emp 𝓤; ensures = λ _ r _. fact 𝓤 (Says a.0 r) }

    pub renamed : (from to : Sym) (key : Callee) → Closed 𝓤 𝓛.H (tables 𝓤 𝓛.H 𝓜 𝓡 𝓡.env).C (tables 𝓤 𝓛.H 𝓜 𝓡 𝓡.env).Λ key (renaming from to)
        → Meets 𝓛 renames.signature (𝓡.run (𝓡.env key)) (closing 𝓛 renames says)
    renamed from to key closed =
        let 𝓣 = tables 𝓤 𝓛.H 𝓜 𝓡 𝓡.env in let c = says in let fn = renaming from to in let taken : Slot 0 = plain (λ _. P) in
        let hs : Stays renames.signature.params renames.kept = (stay_dropped taken k, tt) in let W = walk_of 𝓛 renames hs c in
        proved_at 𝓛 renames hs c 𝓜 𝓡 (Goes-blank 𝓛 0 taken k (λ κs x f. silent x f), tt) key fn closed (λ z are.
        let κs = z.0.0 in let d = z.0.3.0 in
        qed 𝓛 ((raw (alive 𝓛 renames.signature κs z.0.1) ⊛ ‵ (owns (types_at renames.signature.params κs) z.0.3 z.0.4)) ∷ raw ((c κs z.0.3).requires z.1) ∷ []) ∵
        split ! $ move ! (1 ∷ []) $ fsplit ! $ rewrite ! 0 (λ (F : Fml). ‵ F) (taken_apart d z.0.4.0) refl $ handle_out R ! (at d) (alloc d) (held d) z.0.4.0 (λ h ws fits.
        let w : Val = both (ptr_val (at d)) h in
        suffices ! (WpFn 𝓤 𝓛.H 𝓣.C 𝓣.Λ fn (w ∷ []) (W.post z))
        (subst (λ (us : List Val). ent 𝓤 (WpFn 𝓤 𝓛.H 𝓣.C 𝓣.Λ fn (w ∷ []) (W.post z)) (WpFn 𝓤 𝓛.H 𝓣.C 𝓣.Λ fn us (W.post z))) (sym (λ i. ws i ++ [])) (id⊢ 𝓤 _)) $
        enter ! 𝓣.C 𝓣.Λ fn (w ∷ []) (W.post z) $ alloc_all ! (λ l. pass_all ! refl (handle_good (at d) h fits, tt) $
        sets ! (of_opd ! (get_in ! (fld ! refl (stop !)) (sub ! 0 refl (whole !)))) refl (pointer_good (at d)) $
        sets ! (of_opd ! (get_in ! (fld ! refl (stop !)) (sub ! 1 refl (whole !)))) refl fits $
        sets ! (of_opd ! (get ! refl)) refl (pointer_good (at d)) $
        sets ! (agg ! (and_then ! (get ! refl) (and_then ! (get ! refl) (no_more !)))) refl (handle_good (at d) h fits) $
        handle_in R ! (at d) h (alloc d) (held d) $ rewrite ! 0 (λ (F : Fml). ‵ F) (put_together (at d) (alloc d) (held d) (w ∷ [])) refl $
        let r : Q.Denot = make (at d) (alloc d) (held d) in
        use0 𝓛 (raw (fact 𝓤 (Says d r))) (fact_i 𝓤 (Says d r) (emp 𝓤) (told d)) $ nothing ! $ nothing ! $ fjoin ! $
        returns ! (look_at ! 0 refl) $ free_all ! refl $ keep ! (4 ∷ 0 ∷ 2 ∷ 1 ∷ []) $
        by ! (leaves 𝓛 renames hs c z w r (last d, tt) (tt, tt)))))
