-- Lines that are skipped.
use Rattle.std.proofs.Common.{◌≡◌, ℕ, zero, suc, ◌+◌, ◌-◌, ◌<◌, ◌≤◌, true, false, cond, List, [], ◌∷◌, ◌++◌, length, take, drop, get_or, Option, Some, None, refl, sym, ap, ◌∙◌, subst, ⊎_elim, arith, add-zero, eqb-true, ne_eqb}
use Rattle.std.proofs.lemmas.Bool.{cases_Bool}
use Rattle.std.proofs.lemmas.List.{take_more, take-take, take-append-drop, drop-take}
use Rattle.std.specs.Prelude.{◌==◌, Bool}
use Rattle.std.specs.Io.KnownBytes.{Consumes, Keeps}
use Rattle.bites_filter.proofs.LineLemmas.{IsSoFar, lines_first}
use Rattle.bites_filter.specs.Lines.{lines_of, line_feeds, put_in_front, AreWhole, AreIdle, IsNothingFor, SkipsLines, DoesEach}

-- ## Whole lines

-- the first of whole lines, and the bytes behind it
pub record FirstLine (xs : List ℕ) : Type 0 where
  pub line : List ℕ
  pub rest : List ℕ
  pub is : xs ≡ line ++ (10 ∷ rest)
  pub lines : lines_of xs ≡ (line ++ 10 ∷ []) ∷ lines_of rest
  pub whole : AreWhole rest

pub first_line : (b : ℕ) (bs : List ℕ) → AreWhole (b ∷ bs) → FirstLine (b ∷ bs)
first_line b [] is = subst (λ c. FirstLine (c ∷ [])) (sym is) (record { line = []; rest = []; is = refl; lines = refl; whole = tt })
first_line b (c ∷ cs) whole = ⊎_elim
    (λ (is : (b == 10) ≡ true). subst (λ d. FirstLine (d ∷ c ∷ cs)) (sym (eqb-true b 10 is)) (record { line = []; rest = c ∷ cs; is = refl; lines = refl; whole = whole }))
    (λ (is : (b == 10) ≡ false).
    let f = first_line c cs whole in
    record { line = b ∷ f.line; rest = f.rest; is = ap (λ l. b ∷ l) f.is; lines = rw is (ap (put_in_front b) f.lines); whole = f.whole })
    (cases_Bool (b == 10))

put_append : (b : ℕ) (l : List ℕ) (ls others all : List (List ℕ)) → all ≡ l ∷ ls → put_in_front b (all ++ others) ≡ put_in_front b all ++ others
put_append b l ls others all is = subst (λ a. put_in_front b (a ++ others) ≡ put_in_front b a ++ others) (sym is) refl

pub lines_append : (xs ys : List ℕ) → AreWhole xs → lines_of (xs ++ ys) ≡ lines_of xs ++ lines_of ys
lines_append [] ys whole = refl
lines_append (b ∷ []) ys is = subst (λ c. lines_of (c ∷ ys) ≡ lines_of (c ∷ []) ++ lines_of ys) (sym is) refl
lines_append (b ∷ c ∷ cs) ys whole = ⊎_elim
    (λ (is : (b == 10) ≡ true). rw is (ap (λ l. (b ∷ []) ∷ l) (lines_append (c ∷ cs) ys whole)))
    (λ (is : (b == 10) ≡ false).
    rw is (ap (put_in_front b) (lines_append (c ∷ cs) ys whole) ∙ put_append b _ _ (lines_of ys) (lines_of (c ∷ cs)) (lines_first c cs)))
    (cases_Bool (b == 10))

put_length : (b : ℕ) (l : List ℕ) (ls all : List (List ℕ)) → all ≡ l ∷ ls → length (put_in_front b all) ≡ length all
put_length b l ls all is = subst (λ a. length (put_in_front b a) ≡ length a) (sym is) refl

pub as_many : (xs : List ℕ) → AreWhole xs → length (lines_of xs) ≡ line_feeds xs
as_many [] whole = refl
as_many (b ∷ []) is = subst (λ c. length (lines_of (c ∷ [])) ≡ line_feeds (c ∷ [])) (sym is) refl
as_many (b ∷ c ∷ cs) whole = ⊎_elim
    (λ (is : (b == 10) ≡ true). rw is (let on = as_many (c ∷ cs) whole in omega (arith, on)))
    (λ (is : (b == 10) ≡ false). rw is (let on = put_length b _ _ (lines_of (c ∷ cs)) (lines_first c cs) ∙ as_many (c ∷ cs) whole in omega (arith, on)))
    (cases_Bool (b == 10))

pub line_feeds_push : (xs : List ℕ) (b : ℕ) → line_feeds (xs ++ b ∷ []) ≡ line_feeds xs + cond (b == 10) 1 0
line_feeds_push [] b = omega arith
line_feeds_push (x ∷ xs) b = let on = line_feeds_push xs b in omega (arith, on)

pub line_feeds_hit : (xs : List ℕ) (i : ℕ) → i < length xs → get_or xs i 0 ≡ 10 → line_feeds (take (i + 1) xs) ≡ line_feeds (take i xs) + 1
line_feeds_hit xs i lt is =
    ap line_feeds (take_more xs i 0 lt) ∙ line_feeds_push (take i xs) (get_or xs i 0) ∙ ap (λ b. line_feeds (take i xs) + cond (b == 10) 1 0) is

pub line_feeds_miss : (xs : List ℕ) (i : ℕ) → i < length xs → (get_or xs i 0 ≡ 10 → ⊥) → line_feeds (take (i + 1) xs) ≡ line_feeds (take i xs)
line_feeds_miss xs i lt not =
    ap line_feeds (take_more xs i 0 lt) ∙ line_feeds_push (take i xs) (get_or xs i 0) ∙ ap (λ b. line_feeds (take i xs) + cond b 1 0) (ne_eqb (get_or xs i 0) 10 not)
    ∙ add-zero (line_feeds (take i xs))

line_feeds_append : (xs ys : List ℕ) → line_feeds (xs ++ ys) ≡ line_feeds xs + line_feeds ys
line_feeds_append [] ys = omega arith
line_feeds_append (x ∷ xs) ys = let on = line_feeds_append xs ys in omega (arith, on)

pub line_feeds_further : (xs : List ℕ) (a n : ℕ) → a + n ≤ length xs → line_feeds (take (a + n) xs) ≡ line_feeds (take a xs) + line_feeds (take n (drop a xs))
line_feeds_further xs a n within =
    let front : take a (take (a + n) xs) ≡ take a xs = take-take a (a + n) xs (omega arith) in
    ap line_feeds (sym (take-append-drop a (take (a + n) xs)) ∙ ap (λ l. l ++ drop a (take (a + n) xs)) front ∙ ap (λ l. take a xs ++ l) (drop-take a n xs))
    ∙ line_feeds_append (take a xs) (take n (drop a xs))

pub line_feeds_few : (xs : List ℕ) → line_feeds xs ≤ length xs
line_feeds_few [] = omega arith
line_feeds_few (x ∷ xs) = let on = line_feeds_few xs in ⊎_elim
    (λ (is : (x == 10) ≡ true). rw is (omega (arith, on)))
    (λ (is : (x == 10) ≡ false). rw is (omega (arith, on)))
    (cases_Bool (x == 10))

-- bytes up to a line feed, with it, are whole lines
whole_to : (xs : List ℕ) (n : ℕ) → n < length xs → get_or xs n 0 ≡ 10 → AreWhole (take (suc n) xs)
whole_to [] n lt is = absurd (omega (arith, lt))
whole_to (x ∷ xs) zero lt is = is
whole_to (x ∷ []) (suc n) lt is = absurd (omega (arith, lt))
whole_to (x ∷ y ∷ ys) (suc n) lt is = whole_to (y ∷ ys) n (omega (arith, lt)) is

pub whole_up_to : (xs : List ℕ) (n : ℕ) → n ≤ length xs → (0 < n → get_or xs (n - 1) 0 ≡ 10) → AreWhole (take n xs)
whole_up_to xs zero within is = tt
whole_up_to xs (suc n) within is = whole_to xs n (omega (arith, within)) (subst (λ k. get_or xs k 0 ≡ 10) (omega arith) (is (omega arith)))

-- ## What is done with each

module _ {S : Type 0} (Does : S → ℕ → List ℕ → List ℕ → Bool → S → Type 0) where
  idle_each : (n : ℕ) (ls rest : List (List ℕ)) (s : S) (text : List ℕ) (more : ℕ) (t : S) → AreIdle Does s ls →
      DoesEach Does (n + length ls) rest s text more t → DoesEach Does n (ls ++ rest) s text more t
  idle_each n [] rest s text more t idle each = subst (λ k. DoesEach Does k rest s text more t) (omega arith) each
  idle_each n (l ∷ ls) rest s text more t (first, idle) each =
      let on = idle_each (n + 1) ls rest s text more t idle (subst (λ k. DoesEach Does k rest s text more t) (omega arith) each) in
      ([], false, s, text, more, first (n + 1), on, refl, omega arith)

  pub so_far_skipped : (first : S) (input old : Option (List ℕ)) (n : ℕ) (s : S) (left now : Option (List ℕ)) (count : ℕ) →
      IsSoFar Does first input old n s left now count → (skipped : ℕ) (rest : Option (List ℕ)) → SkipsLines Does s left skipped rest →
      IsSoFar Does first input old (n + skipped) s rest now count
  so_far_skipped first None old n s left now count so skipped rest skips = tt
  so_far_skipped first (Some xs) old n s None now count so skipped rest skips = absurd so
  so_far_skipped first (Some xs) old n s (Some ys) now count so skipped None skips = absurd skips
  so_far_skipped first (Some xs) old n s (Some ys) now count (written, a, on) skipped (Some zs) (lines, is, (whole, idle), many) = (
    written,
    a,
    λ text more t each.
        on text more t
        (subst (λ ls. DoesEach Does n ls s text more t) (sym (ap lines_of is ∙ lines_append lines zs whole))
        (idle_each n (lines_of lines) (lines_of zs) s text more t idle (subst (λ k. DoesEach Does (n + k) (lines_of zs) s text more t) many each))),
  )

  pub not_tried : (s : S) (known : Option (List ℕ)) → SkipsLines Does s known 0 known
  not_tried s None = tt
  not_tried s (Some xs) = ([], refl, (tt, tt), refl)

  pub none_skipped : (s : S) (old new : Option (List ℕ)) → Keeps old new → SkipsLines Does s old 0 new
  none_skipped s None new kept = tt
  none_skipped s (Some xs) None kept = absurd kept
  none_skipped s (Some xs) (Some ys) same = ([], sym same, (tt, tt), refl)

  pub consumed : (s : S) (old new : Option (List ℕ)) (bytes : List ℕ) (count : ℕ) → Consumes old new bytes → IsNothingFor Does s bytes →
      (AreWhole bytes → count ≡ length (lines_of bytes)) → SkipsLines Does s old count new
  consumed s None new bytes count consumes nothing many = tt
  consumed s (Some xs) None bytes count consumes nothing many = absurd consumes
  consumed s (Some xs) (Some ys) bytes count is nothing many = (bytes, is, nothing, many nothing.0)
