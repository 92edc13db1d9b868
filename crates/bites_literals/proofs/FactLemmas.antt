-- Facts of matches, from those of their parts.
use Rattle.std.proofs.Common.{◌≡◌, ℕ, zero, suc, ◌+◌, ◌*◌, ◌<◌, ◌≤◌, Bool, true, false, ◌||◌, ◌&&◌, List, [], ◌++◌, length, get_or, Option, Some, None, refl, sym, ap, ◌∙◌, subst, ◌⊎◌, inl, inr, arith, eqb-true, length-append, true≢false}
use Rattle.std.specs.Prelude.{IfSome}
use Rattle.std.proofs.lemmas.Bool.{cases_lt, and_parts}
use Rattle.std.proofs.Math.Nat.{mul-le-mul_left}
use Rattle.bites_spec.specs.Look.{Look, Holds, end, holds}
use Rattle.bites_spec.specs.Match.{Chain, IsWithin, Matches}
use Rattle.bites_spec.specs.Tree.{look}
use Rattle.bites_literals.specs.declared.ascii.AsciiSet.{AsciiSet}
use Rattle.bites_literals.specs.declared.facts.Facts.{Facts}
use Rattle.bites_literals.specs.declared.facts.Needed.{Needed}
use Rattle.bites_literals.specs.declared.text.Text.{Text}
use Rattle.bites_literals.specs.Ascii.{Has}
use Rattle.bites_literals.specs.Facts.{AreFacts, AreEmptyFacts, IsMost, EndsAtEnd, HoldsOnly, IsHeld, IsWithoutText, AreFactsOf, IsSum, IsProduct, IsGreatest, IsLater, IsBackBefore, AreTurnsInFront}
use Rattle.std.specs.List.{repeat}
use Rattle.bites_literals.specs.Texts.{EndsWith, FoldsAs, Stands, bytes_of}
use Rattle.bites_literals.specs.Texts as texts
use Rattle.bites_literals.proofs.TextLemmas.{end_longer, end_none, end_together, stand_together, stand_apart, hold_longer, hold_later, hold_front}

-- the third set has what the others have
abbrev pub HasBoth : (a b set : AsciiSet) → Type 0
HasBoth a b set = (byte : ℕ) → Has a byte ⊎ Has b byte → Has set byte

-- no byte stands at once
pub stand_none : (c : Bool) (bytes hay : List ℕ) (i : ℕ) → bytes ≡ [] → Stands c bytes hay i
stand_none c bytes hay i e k h = let none = ap length e in absurd (omega (arith, none))

-- where it is not known that the text is a match
pub exact_nowhere : (M : List ℕ → ℕ → ℕ → Type 0) (f : Facts) → f.exact ≡ false → f.exact ≡ true → (hay : List ℕ) (i : ℕ) → Stands f.front.caseless (bytes_of f.front) hay i → M hay i (i + length (bytes_of f.front))
exact_nowhere M f isnt is = absurd (true≢false (sym is ∙ isnt))

-- where no text is known
pub facts_without_text : (M : List ℕ → ℕ → ℕ → Type 0) (bound : Option ℕ) (at_end : Bool) (set : AsciiSet) (f : Facts) → IsWithoutText bound at_end set f → ((hay : List ℕ) (i j : ℕ) → M hay i j → i ≤ j) →
    IsMost M bound → (at_end ≡ true → EndsAtEnd M) → HoldsOnly M set → AreFactsOf M f
facts_without_text M bound at_end set f is onward most ends ascii = record {
  onward = onward;
  most = subst (IsMost M) (sym is.most) most;
  ends = λ e. ends (sym is.ends ∙ e);
  ascii = subst (HoldsOnly M) (sym is.ascii) ascii;
  front = λ hay i j m. (stand_none f.front.caseless (bytes_of f.front) hay i is.front, omega (arith, ap length is.front, onward hay i j m));
  whole = λ e. absurd (true≢false (sym e ∙ is.whole));
  exact = exact_nowhere M f is.exact;
  back = λ hay i j m. end_none f.back.caseless (bytes_of f.back) hay i j is.back (onward hay i j m);
  needed = subst (IsHeld M) (sym is.needed) tt;
}

-- there is none
pub facts_of_none : (M : List ℕ → ℕ → ℕ → Type 0) → ((hay : List ℕ) (i j : ℕ) → M hay i j → ⊥) → (bound : ℕ) (at_end : Bool) (set : AsciiSet) (f : Facts) → IsWithoutText (Some bound) at_end set f → AreFactsOf M f
facts_of_none M none bound at_end set f is =
    facts_without_text M (Some bound) at_end set f is (λ hay i j m. absurd (none hay i j m)) (λ hay i j m. absurd (none hay i j m)) (λ e hay i j m. absurd (none hay i j m)) (λ hay i j m. absurd (none hay i j m))

-- what holds of more holds of less
facts_of_fewer : (M N : List ℕ → ℕ → ℕ → Type 0) (f : Facts) → f.exact ≡ false → ((hay : List ℕ) (i j : ℕ) → N hay i j → M hay i j) → AreFactsOf M f → AreFactsOf N f
facts_of_fewer M N f exact sub fs = record {
  onward = λ hay i j m. fs.onward hay i j (sub hay i j m);
  most = most f.most fs.most;
  ends = λ e hay i j m. fs.ends e hay i j (sub hay i j m);
  ascii = λ hay i j m. fs.ascii hay i j (sub hay i j m);
  front = λ hay i j m. fs.front hay i j (sub hay i j m);
  whole = λ e hay i j m. fs.whole e hay i j (sub hay i j m);
  exact = exact_nowhere N f exact;
  back = λ hay i j m. fs.back hay i j (sub hay i j m);
  needed = needed f.needed fs.needed;
}
  where
    most : (o : Option ℕ) → IsMost M o → IsMost N o
    most None h = tt
    most (Some n) h = λ hay i j m. h hay i j (sub hay i j m)

    needed : (o : Option Needed) → IsHeld M o → IsHeld N o
    needed None h = tt
    needed (Some n) h = λ hay i j m. h hay i j (sub hay i j m)

at_end : (hay : List ℕ) (i : ℕ) → Holds end hay i → i ≡ length hay
unfolding holds
at_end hay i h = eqb-true i (length hay) h

-- facts of what is empty, for an assertion
pub look_facts : (f : Facts) → AreEmptyFacts f → (l : Look) → AreFacts (look l) (record f { exact = false })
look_facts f fs l = facts_of_fewer (λ hay i j. j ≡ i) (λ hay i j. Matches hay (look l) i j) (record f { exact = false }) refl (λ hay i j m. m.1) record {
  onward = fs.onward;
  most = fs.most;
  ends = fs.ends;
  ascii = fs.ascii;
  front = fs.front;
  whole = fs.whole;
  exact = exact_nowhere (λ hay i j. j ≡ i) (record f { exact = false }) refl;
  back = fs.back;
  needed = fs.needed;
}

-- and for the assertion of the end
pub end_facts : (f : Facts) → AreFacts (look end) f → AreFacts (look end) (record f { ends = true })
end_facts f fs = record {
  onward = fs.onward;
  most = fs.most;
  ends = λ e hay i j m. m.1 ∙ at_end hay i m.0;
  ascii = fs.ascii;
  front = fs.front;
  whole = fs.whole;
  exact = fs.exact;
  back = fs.back;
  needed = fs.needed;
}

-- where it is not known that each match ends at the end
pub ends_nowhere : (M : List ℕ → ℕ → ℕ → Type 0) (ends : Bool) → ends ≡ false → ends ≡ true → EndsAtEnd M
ends_nowhere M ends isnt is = absurd (true≢false (sym is ∙ isnt))

pub at_most : (M : List ℕ → ℕ → ℕ → Type 0) (o : Option ℕ) → IsMost M o → (hay : List ℕ) (i j : ℕ) → M hay i j → IfSome o (λ n. j ≤ i + n)
at_most M None h hay i j m = tt
at_most M (Some n) h hay i j m = h hay i j m

-- one of two texts that are held
pub held_one : (M : List ℕ → ℕ → ℕ → Type 0) (a b r : Option Needed) → (r ≡ a) ⊎ (r ≡ b) → IsHeld M a → IsHeld M b → IsHeld M r
held_one M a b r (inl e) h k = subst (IsHeld M) (sym e) h
held_one M a b r (inr e) h k = subst (IsHeld M) (sym e) k

module _ (M N : List ℕ → ℕ → ℕ → Type 0) (f g : Facts) (fs : AreFactsOf M f) (gs : AreFactsOf N g) where
  -- a match of one and then of the other
  abbrev pub Both : List ℕ → ℕ → ℕ → Type 0
  Both hay i j = (l : ℕ) × M hay i l × N hay l j

  both_onward : (hay : List ℕ) (i j : ℕ) → Both hay i j → i ≤ j
  both_onward hay i j (l, m, n) = omega (arith, fs.onward hay i l m, gs.onward hay l j n)

  both_most : (a b o : Option ℕ) → IsSum a b o → IsMost M a → IsMost N b → IsMost Both o
  both_most a b None is p q = tt
  both_most a b (Some r) (x, y, ex, ey, e) p q =
      λ hay i j (l, m, n). omega (arith, subst (IsMost M) ex p hay i l m, subst (IsMost N) ey q hay l j n, e)

  -- the second ends at the end, or the first does and the second is empty
  abbrev pub BothEnd : Type 0
  BothEnd = (g.ends ≡ true) ⊎ ((f.ends ≡ true) × (g.most ≡ Some 0))

  both_ends : BothEnd → EndsAtEnd Both
  both_ends (inl e) hay i j (l, m, n) = gs.ends e hay l j n
  both_ends (inr (e, none)) hay i j (l, m, n) =
      let no_more : j ≤ l + 0 = subst (IsMost N) none gs.most hay l j n in
      omega (arith, fs.ends e hay i l m, gs.onward hay l j n, no_more)

  both_ascii : (set : AsciiSet) → HasBoth f.ascii g.ascii set → HoldsOnly Both set
  both_ascii set has hay i j (l, m, n) k a b low =
      elim (cases_lt k l) [ inl h ↦ has _ (inl (fs.ascii hay i l m k a h low)) | inr h ↦ has _ (inr (gs.ascii hay l j n k h b low)) ]

  both_held_first : (o : Option Needed) → IsHeld M o → IsHeld Both o
  both_held_first None h = tt
  both_held_first (Some o) h = λ hay i j (l, m, n). hold_longer o.text.caseless (bytes_of o.text) o.before hay i l j (gs.onward hay l j n) (h hay i l m)

  both_held_later : (o r : Option Needed) → IsLater o f.most r → IsHeld N o → IsHeld Both r
  both_held_later o None is h = tt
  both_held_later o (Some r) (x, e, same, is) h =
      let hx = subst (IsHeld N) e h in
      λ hay i j (l, m, n).
      subst (λ (t : Text). texts.Holds t.caseless (bytes_of t) r.before hay i j) (sym same)
      (hold_later x.text.caseless (bytes_of x.text) f.most x.before r.before hay i l j (fs.onward hay i l m) is (at_most M f.most fs.most hay i l m) (hx hay l j n))

  -- what the second begins with
  both_held_behind : (o : Option Needed) → (IfSome o (λ x. (x.text ≡ g.front) × (x.before ≡ f.most))) → IsHeld Both o
  both_held_behind None e = tt
  both_held_behind (Some x) (et, eb) =
      λ hay i j (l, m, n).
      let s = gs.front hay l j n in
      subst (λ (t : Text). texts.Holds t.caseless (bytes_of t) x.before hay i j) (sym et)
      (hold_front g.front.caseless (bytes_of g.front) x.before hay i l j (fs.onward hay i l m) (subst (λ o. IfSome o (λ n. l ≤ i + n)) (sym eb) (at_most M f.most fs.most hay i l m)) s.0 s.1)

  both_front : (hay : List ℕ) (i j : ℕ) → Both hay i j → Stands f.front.caseless (bytes_of f.front) hay i × (i + length (bytes_of f.front) ≤ j)
  both_front hay i j (l, m, n) = let s = fs.front hay i l m in (s.0, omega (arith, s.1, gs.onward hay l j n))

  -- both texts together, where the first is all of its match
  both_fronts : f.whole ≡ true → (bytes : List ℕ) (caseless : Bool) → bytes ≡ bytes_of f.front ++ bytes_of g.front → caseless ≡ (f.front.caseless || g.front.caseless) →
      (hay : List ℕ) (i j : ℕ) → Both hay i j → Stands caseless bytes hay i × (i + length bytes ≤ j)
  both_fronts whole bytes caseless eb ec hay i j (l, m, n) =
      let s = fs.front hay i l m in
      let t = gs.front hay l j n in
      let end : l ≡ i + length (bytes_of f.front) = fs.whole whole hay i l m in
      let long = ap length eb ∙ length-append (bytes_of f.front) (bytes_of g.front) in (
        subst (λ b. Stands b bytes hay i) (sym ec)
            (subst (λ (xs : List ℕ). Stands (f.front.caseless || g.front.caseless) xs hay i) (sym eb)
            (stand_together f.front.caseless g.front.caseless (bytes_of f.front) (bytes_of g.front) hay i s.0 (subst (λ p. Stands g.front.caseless (bytes_of g.front) hay p) end t.0))),
        omega (arith, long, end, t.1),
      )

  both_whole : f.whole ≡ true → g.whole ≡ true → (bytes : List ℕ) → bytes ≡ bytes_of f.front ++ bytes_of g.front → (hay : List ℕ) (i j : ℕ) → Both hay i j → j ≡ i + length bytes
  both_whole whole too bytes eb hay i j (l, m, n) =
      let end : l ≡ i + length (bytes_of f.front) = fs.whole whole hay i l m in
      let more : j ≡ l + length (bytes_of g.front) = gs.whole too hay l j n in
      let long = ap length eb ∙ length-append (bytes_of f.front) (bytes_of g.front) in
      omega (arith, end, more, long)

  -- both texts together are a match, where each is one
  both_exact : f.exact ≡ true → g.exact ≡ true → FoldsAs f.front g.front → (bytes : List ℕ) (caseless : Bool) → bytes ≡ bytes_of f.front ++ bytes_of g.front → caseless ≡ (f.front.caseless || g.front.caseless) →
      (hay : List ℕ) (i : ℕ) → Stands caseless bytes hay i → Both hay i (i + length bytes)
  both_exact first second alike bytes caseless eb ec hay i s =
      let both =
      stand_apart f.front.caseless g.front.caseless (bytes_of f.front) (bytes_of g.front) hay i alike
      (subst (λ b. Stands b (bytes_of f.front ++ bytes_of g.front) hay i) ec (subst (λ (xs : List ℕ). Stands caseless xs hay i) eb s)) in
      let end : i + length (bytes_of f.front) + length (bytes_of g.front) ≡ i + length bytes = omega (arith, ap length eb ∙ length-append (bytes_of f.front) (bytes_of g.front)) in (
        i + length (bytes_of f.front),
        fs.exact first hay i both.0,
        subst (N hay (i + length (bytes_of f.front))) end (gs.exact second hay (i + length (bytes_of f.front)) both.1),
      )

  both_back : (text : Text) → IsBackBefore f g text → (hay : List ℕ) (i j : ℕ) → Both hay i j → EndsWith text.caseless (bytes_of text) hay i j
  both_back text (inl (whole, bytes, caseless)) hay i j (l, m, n) =
      subst (λ b. EndsWith b (bytes_of text) hay i j) (sym caseless)
      (subst (λ (xs : List ℕ). EndsWith (f.back.caseless || g.front.caseless) xs hay i j) (sym bytes)
      (end_together f.back.caseless g.front.caseless (bytes_of f.back) (bytes_of g.front) hay i l j (fs.back hay i l m) (gs.front hay l j n).0 (gs.whole whole hay l j n)))
  both_back text (inr same) hay i j (l, m, n) =
      subst (λ (t : Text). EndsWith t.caseless (bytes_of t) hay i j) (sym same)
      (end_longer g.back.caseless (bytes_of g.back) hay i l j (fs.onward hay i l m) (gs.back hay l j n))

  -- one after the other, where the first is a text and the texts fit together
  pub joined : (r : Facts) → f.whole ≡ true → IsSum f.most g.most r.most → (r.ends ≡ true → BothEnd) → HasBoth f.ascii g.ascii r.ascii → IsBackBefore f g r.back → bytes_of r.front ≡ bytes_of f.front ++ bytes_of g.front →
      r.front.caseless ≡ (f.front.caseless || g.front.caseless) → r.whole ≡ g.whole → (r.exact ≡ true → (f.exact ≡ true) × (g.exact ≡ true) × FoldsAs f.front g.front) → (later : Option Needed) → IsLater g.needed f.most later → (r.needed ≡ f.needed) ⊎ (r.needed ≡ later) → AreFactsOf Both r
  joined r whole most ends ascii back bytes caseless too exact later is needed = record {
    onward = both_onward;
    most = both_most f.most g.most r.most most fs.most gs.most;
    ends = λ e. both_ends (ends e);
    ascii = both_ascii r.ascii ascii;
    front = both_fronts whole (bytes_of r.front) r.front.caseless bytes caseless;
    whole = λ e. both_whole whole (sym too ∙ e) (bytes_of r.front) bytes;
    exact = λ e. let all = exact e in both_exact all.0 all.1 all.2 (bytes_of r.front) r.front.caseless bytes caseless;
    back = both_back r.back back;
    needed = held_one Both f.needed later r.needed needed (both_held_first f.needed fs.needed) (both_held_later g.needed later is gs.needed);
  }

  -- one after the other
  pub behind : (r : Facts) → IsSum f.most g.most r.most → (r.ends ≡ true → BothEnd) → HasBoth f.ascii g.ascii r.ascii → IsBackBefore f g r.back → r.front ≡ f.front → r.whole ≡ false → r.exact ≡ false →
      (later inside front : Option Needed) → IsLater g.needed f.most later → (inside ≡ f.needed) ⊎ (inside ≡ later) → IfSome front (λ x. (x.text ≡ g.front) × (x.before ≡ f.most)) →
      (r.needed ≡ inside) ⊎ (r.needed ≡ front) → AreFactsOf Both r
  behind r most ends ascii back front whole exact later inside first is one starts needed = record {
    onward = both_onward;
    most = both_most f.most g.most r.most most fs.most gs.most;
    ends = λ e. both_ends (ends e);
    ascii = both_ascii r.ascii ascii;
    front = λ hay i j m. subst (λ (t : Text). Stands t.caseless (bytes_of t) hay i × (i + length (bytes_of t) ≤ j)) (sym front) (both_front hay i j m);
    whole = λ e. never (sym whole ∙ e);
    exact = exact_nowhere Both r exact;
    back = both_back r.back back;
    needed = held_one Both inside first r.needed needed
        (held_one Both f.needed later inside one (both_held_first f.needed fs.needed) (both_held_later g.needed later is gs.needed)) (both_held_behind first starts);
  }
    where
      never : false ≡ true → (hay : List ℕ) (i j : ℕ) → Both hay i j → j ≡ i + length (bytes_of r.front)
      never e = cc

-- a match of one or of the other
module _ (M N : List ℕ → ℕ → ℕ → Type 0) (f g : Facts) (fs : AreFactsOf M f) (gs : AreFactsOf N g) where
  abbrev pub Either : List ℕ → ℕ → ℕ → Type 0
  Either hay i j = M hay i j ⊎ N hay i j

  either_onward : (hay : List ℕ) (i j : ℕ) → Either hay i j → i ≤ j
  either_onward hay i j (inl m) = fs.onward hay i j m
  either_onward hay i j (inr n) = gs.onward hay i j n

  either_most : (a b o : Option ℕ) → IsGreatest a b o → IsMost M a → IsMost N b → IsMost Either o
  either_most a b None is p q = tt
  either_most a b (Some r) (x, y, ex, ey, e) p q = λ hay i j m. by hay i j m
    where
      by : (hay : List ℕ) (i j : ℕ) → Either hay i j → j ≤ i + r
      by hay i j (inl m) = omega (arith, subst (IsMost M) ex p hay i j m, e)
      by hay i j (inr n) = omega (arith, subst (IsMost N) ey q hay i j n, e)

  either_ends : (f.ends && g.ends) ≡ true → EndsAtEnd Either
  either_ends e hay i j (inl m) = fs.ends (and_parts f.ends g.ends e).0 hay i j m
  either_ends e hay i j (inr n) = gs.ends (and_parts f.ends g.ends e).1 hay i j n

  either_ascii : (set : AsciiSet) → HasBoth f.ascii g.ascii set → HoldsOnly Either set
  either_ascii set has hay i j (inl m) k a b low = has _ (inl (fs.ascii hay i j m k a b low))
  either_ascii set has hay i j (inr n) k a b low = has _ (inr (gs.ascii hay i j n k a b low))

  pub one_of_both : (bound : Option ℕ) (set : AsciiSet) (r : Facts) → IsGreatest f.most g.most bound → HasBoth f.ascii g.ascii set → IsWithoutText bound (f.ends && g.ends) set r → AreFactsOf Either r
  one_of_both bound set r most ascii is =
      facts_without_text Either bound (f.ends && g.ends) set r is either_onward (either_most f.most g.most bound most fs.most gs.most) either_ends (either_ascii set ascii)

-- turns of one
module _ (M : List ℕ → ℕ → ℕ → Type 0) (f : Facts) (fs : AreFactsOf M f) (min : ℕ) (most : Option ℕ) where
  abbrev pub Repeats : List ℕ → ℕ → ℕ → Type 0
  Repeats hay i j = (n : ℕ) × (min ≤ n) × IsWithin most n × Chain (M hay) n i j

  chain_onward : (hay : List ℕ) (n i j : ℕ) → Chain (M hay) n i j → i ≤ j
  chain_onward hay zero i j e = omega (arith, e)
  chain_onward hay (suc n) i j (l, m, more) = omega (arith, fs.onward hay i l m, chain_onward hay n l j more)

  chain_most : (x : ℕ) → IsMost M (Some x) → (hay : List ℕ) (n i j : ℕ) → Chain (M hay) n i j → j ≤ i + x * n
  chain_most x h hay zero i j e = omega (arith, e)
  chain_most x h hay (suc n) i j (l, m, more) = omega (arith, h hay i l m, chain_most x h hay n l j more)

  chain_ascii : (hay : List ℕ) (n i j : ℕ) → Chain (M hay) n i j → (k : ℕ) → i ≤ k → k < j → get_or hay k 0 < 128 → Has f.ascii (get_or hay k 0)
  chain_ascii hay zero i j same k a b low = absurd (omega (arith, same))
  chain_ascii hay (suc n) i j (l, m, more) k a b low =
      elim (cases_lt k l) [ inl h ↦ fs.ascii hay i l m k a h low | inr h ↦ chain_ascii hay n l j more k h b low ]

  repeats_ascii : (set : AsciiSet) → set ≡ f.ascii → HoldsOnly Repeats set
  repeats_ascii set same = subst (HoldsOnly Repeats) (sym same) (λ hay i j t. chain_ascii hay t.0 i j t.3)

  repeats_most : (o : Option ℕ) → IsProduct f.most most o → IsMost M f.most → IsMost Repeats o
  repeats_most None is p = tt
  repeats_most (Some r) (x, y, ex, ey, e) p = λ hay i j (n, low, high, turns).
      let few : n ≤ y = subst (λ o. IfSome o (λ m. n ≤ m)) ey high in
      omega (arith, chain_most x (subst (IsMost M) ex p) hay n i j turns, mul-le-mul_left x few, e)

  abbrev First : List ℕ → ℕ → ℕ → Type 0
  First hay i j = (l : ℕ) × M hay i l × (l ≤ j)

  first_turn : 0 < min → (hay : List ℕ) (i j : ℕ) → Repeats hay i j → First hay i j
  first_turn some hay i j (zero, low, high, turns) = absurd (omega arith)
  first_turn some hay i j (suc n, low, high, (l, m, more)) = (l, m, chain_onward hay n l j more)

  repeats_held : 0 < min → (o : Option Needed) → IsHeld M o → IsHeld Repeats o
  repeats_held some None h = tt
  repeats_held some (Some o) h = λ hay i j turns.
      let first = first_turn some hay i j turns in
      hold_longer o.text.caseless (bytes_of o.text) o.before hay i first.0 j first.2 (h hay i first.0 first.1)

  -- the last turn
  chain_back : (hay : List ℕ) (n i j : ℕ) → 0 < n → Chain (M hay) n i j → EndsWith f.back.caseless (bytes_of f.back) hay i j
  chain_back hay zero i j some e = absurd (omega arith)
  chain_back hay (suc zero) i j some (l, m, e) = subst (λ p. EndsWith f.back.caseless (bytes_of f.back) hay i p) (sym e) (fs.back hay i l m)
  chain_back hay (suc (suc n)) i j some (l, m, more) =
      end_longer f.back.caseless (bytes_of f.back) hay i l j (fs.onward hay i l m) (chain_back hay (suc n) l j (omega arith) more)

  same : (c : Bool) → (c || c) ≡ c
  same true = refl
  same false = refl

  -- one text more in front of some
  one_more : (k : ℕ) (hay : List ℕ) (i : ℕ) → Stands f.front.caseless (bytes_of f.front) hay i → Stands f.front.caseless (repeat k (bytes_of f.front)) hay (i + length (bytes_of f.front)) →
      Stands f.front.caseless (repeat (suc k) (bytes_of f.front)) hay i
  one_more k hay i s t =
      subst (λ c. Stands c (repeat (suc k) (bytes_of f.front)) hay i) (same f.front.caseless)
      (stand_together f.front.caseless f.front.caseless (bytes_of f.front) (repeat k (bytes_of f.front)) hay i s t)

  -- turns of which each is a text begin with so many of it, and are no more than all of it
  turns_stand : f.whole ≡ true → (hay : List ℕ) (k n i j : ℕ) → k ≤ n → Chain (M hay) n i j → Stands f.front.caseless (repeat k (bytes_of f.front)) hay i
  turns_stand whole hay zero n i j le turns = stand_none f.front.caseless [] hay i refl
  turns_stand whole hay (suc k) zero i j le turns = absurd (omega (arith, le))
  turns_stand whole hay (suc k) (suc n) i j le (l, m, more) =
      one_more k hay i (fs.front hay i l m).0
      (subst (λ p. Stands f.front.caseless (repeat k (bytes_of f.front)) hay p) (fs.whole whole hay i l m) (turns_stand whole hay k n l j (omega (arith, le)) more))

  turns_end : f.whole ≡ true → (hay : List ℕ) (n i j : ℕ) → Chain (M hay) n i j → j ≡ i + length (repeat n (bytes_of f.front))
  turns_end whole hay zero i j same = omega (arith, same)
  turns_end whole hay (suc n) i j (l, m, more) =
      omega (arith, fs.whole whole hay i l m, turns_end whole hay n l j more, length-append (bytes_of f.front) (repeat n (bytes_of f.front)))

  turns_within : f.whole ≡ true → (hay : List ℕ) (k n i j : ℕ) → k ≤ n → Chain (M hay) n i j → i + length (repeat k (bytes_of f.front)) ≤ j
  turns_within whole hay zero n i j le turns = omega (arith, chain_onward hay n i j turns)
  turns_within whole hay (suc k) zero i j le turns = absurd (omega (arith, le))
  turns_within whole hay (suc k) (suc n) i j le (l, m, more) =
      omega (arith, fs.whole whole hay i l m, turns_within whole hay k n l j (omega (arith, le)) more, length-append (bytes_of f.front) (repeat k (bytes_of f.front)))

  -- so many texts are as many turns
  turns_are : f.exact ≡ true → (hay : List ℕ) (k i : ℕ) → Stands f.front.caseless (repeat k (bytes_of f.front)) hay i → Chain (M hay) k i (i + length (repeat k (bytes_of f.front)))
  turns_are exact hay zero i s = omega arith
  turns_are exact hay (suc k) i s =
      let both =
      stand_apart f.front.caseless f.front.caseless (bytes_of f.front) (repeat k (bytes_of f.front)) hay i (inl refl)
      (subst (λ c. Stands c (repeat (suc k) (bytes_of f.front)) hay i) (sym (same f.front.caseless)) s) in
      let end : i + length (bytes_of f.front) + length (repeat k (bytes_of f.front)) ≡ i + length (repeat (suc k) (bytes_of f.front)) =
      omega (arith, length-append (bytes_of f.front) (repeat k (bytes_of f.front))) in
      (i + length (bytes_of f.front), fs.exact exact hay i both.0, subst (Chain (M hay) k (i + length (bytes_of f.front))) end (turns_are exact hay k (i + length (bytes_of f.front)) both.1))

  -- what all turns begin with
  abbrev TurnsBegin : ℕ → List ℕ → ℕ → ℕ → Type 0
  TurnsBegin k hay i j = Stands f.front.caseless (repeat k (bytes_of f.front)) hay i × (i + length (repeat k (bytes_of f.front)) ≤ j)

  turns_begin : (k : ℕ) → 0 < min → k ≤ min → (k ≡ 1) ⊎ (f.whole ≡ true) → (hay : List ℕ) (i j : ℕ) → Repeats hay i j → TurnsBegin k hay i j
  turns_begin k some le (inl one) hay i j t =
      let first = first_turn some hay i j t in
      let s = fs.front hay i first.0 first.1 in
      subst (λ k. TurnsBegin k hay i j) (sym one)
      (one_more 0 hay i s.0 (stand_none f.front.caseless [] hay (i + length (bytes_of f.front)) refl), omega (arith, s.1, first.2, length-append (bytes_of f.front) []))
  turns_begin k some le (inr whole) hay i j (n, low, high, turns) =
      (turns_stand whole hay k n i j (omega (arith, le, low)) turns, turns_within whole hay k n i j (omega (arith, le, low)) turns)

  pub turns : (r : Facts) (k : ℕ) → 0 < min → IsProduct f.most most r.most → r.ends ≡ false → r.ascii ≡ f.ascii → AreTurnsInFront f min k → bytes_of r.front ≡ repeat k (bytes_of f.front) →
      r.front.caseless ≡ f.front.caseless → (r.whole ≡ true → (f.whole ≡ true) × (k ≡ min) × (most ≡ Some min)) → (r.exact ≡ true → (r.whole ≡ true) × (f.exact ≡ true)) → r.back ≡ f.back → r.needed ≡ f.needed → AreFactsOf Repeats r
  turns r k some product ends ascii known bytes caseless whole exact back needed = record {
    onward = λ hay i j t. chain_onward hay t.0 i j t.3;
    most = repeats_most r.most product fs.most;
    ends = ends_nowhere Repeats r.ends ends;
    ascii = repeats_ascii r.ascii ascii;
    front = λ hay i j t.
        let s = turns_begin k some known.within known.known hay i j t in
        subst (λ c. Stands c (bytes_of r.front) hay i × (i + length (bytes_of r.front) ≤ j)) (sym caseless)
        (subst (λ (xs : List ℕ). Stands f.front.caseless xs hay i × (i + length xs ≤ j)) (sym bytes) s);
    whole = λ e hay i j (n, low, high, all).
        let (text, count, exactly) = whole e in
        let few : n ≤ min = subst (λ o. IfSome o (λ m. n ≤ m)) exactly high in
        let same : n ≡ k = omega (arith, low, few, count) in
        subst (λ m. j ≡ i + length (repeat m (bytes_of f.front))) same (turns_end text hay n i j all) ∙ ap (λ xs. i + length xs) (sym bytes);
    exact = λ e hay i s.
        let (text, own) = exact e in
        let (is, count, exactly) = whole text in (
          k,
          omega (arith, count),
          subst (λ o. IfSome o (λ m. k ≤ m)) (sym exactly) (omega (arith, count)),
          subst (Chain (M hay) k i) (ap (λ xs. i + length xs) (sym bytes)) (turns_are own hay k i (subst (λ (xs : List ℕ). Stands f.front.caseless xs hay i) bytes (subst (λ c. Stands c (bytes_of r.front) hay i) caseless s))),
        );
    back = λ hay i j t.
        subst (λ (x : Text). EndsWith x.caseless (bytes_of x) hay i j) (sym back) (chain_back hay t.0 i j (omega (arith, some, t.1)) t.3);
    needed = subst (IsHeld Repeats) (sym needed) (repeats_held some f.needed fs.needed);
  }

  pub some_turns : (bound : Option ℕ) (r : Facts) → IsProduct f.most most bound → IsWithoutText bound false f.ascii r → AreFactsOf Repeats r
  some_turns bound r product is =
      facts_without_text Repeats bound false f.ascii r is (λ hay i j t. chain_onward hay t.0 i j t.3) (repeats_most bound product fs.most) (λ e. absurd (true≢false (sym e))) (repeats_ascii f.ascii refl)
