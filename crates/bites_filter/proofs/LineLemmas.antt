-- Work that goes from line to line.
use Rattle.std.proofs.Common.{◌≡◌, ℕ, ◌+◌, ◌<◌, Bool, true, false, cond, List, [], ◌∷◌, ◌++◌, length, Option, Some, None, refl, sym, ap, ◌∙◌, subst, ⊎_elim, arith, append_assoc, add_assoc, add-zero, IfSome}
use Rattle.std.proofs.lemmas.Bool.{cases_Bool}
use Rattle.std.proofs.lemmas.List.{append-nil}
use Rattle.std.specs.Prelude.{◌==◌}
use Rattle.std.specs.Io.BufRead.{take_through, drop_through, DropsThrough}
use Rattle.std.specs.Io.KnownBytes.{Appends}
use Rattle.bites_filter.proofs.Written.{appends_both}
use Rattle.bites_filter.specs.Lines.{lines_of, put_in_front, ReadsLine, DoesEach, AreWritten, WritesLine}

-- putting a byte before the first line puts it before what stands up to the first line feed
in_front : (b : ℕ) (bs : List ℕ) → put_in_front b (lines_of bs) ≡ (b ∷ take_through 10 bs) ∷ lines_of (drop_through 10 bs)
in_front b [] = refl
in_front b (c ∷ cs) =
    let first : lines_of (c ∷ cs) ≡ take_through 10 (c ∷ cs) ∷ lines_of (drop_through 10 (c ∷ cs)) =
    ⊎_elim (λ is. rw is refl) (λ is. rw is (in_front c cs)) (cases_Bool (c == 10)) in
    ap (put_in_front b) first

-- the first line is what stands up to the first line feed, and the others are the lines after it
pub lines_first : (b : ℕ) (bs : List ℕ) → lines_of (b ∷ bs) ≡ take_through 10 (b ∷ bs) ∷ lines_of (drop_through 10 (b ∷ bs))
lines_first b bs = ⊎_elim (λ is. rw is refl) (λ is. rw is (in_front b bs)) (cases_Bool (b == 10))

line_first : (line ys : List ℕ) → 0 < length line → line ≡ take_through 10 ys → lines_of ys ≡ line ∷ lines_of (drop_through 10 ys)
line_first line [] some e = let none : length line ≡ 0 = ap length e in absurd (omega (arith, some, none))
line_first line (b ∷ bs) some e = lines_first b bs ∙ ap (λ l. l ∷ lines_of (drop_through 10 (b ∷ bs))) (sym e)

pub line_read : (left rest : Option (List ℕ)) (line : List ℕ) → 0 < length line → IfSome left (λ ys. line ≡ take_through 10 ys) →
    DropsThrough left rest 10 → ReadsLine left true line rest
line_read None rest line some is drops = tt
line_read (Some ys) None line some is drops = let never : None ≡ Some (drop_through 10 ys) = drops in absurd (cc)
line_read (Some ys) (Some zs) line some is drops =
    let both : Some zs ≡ Some (drop_through 10 ys) = drops in
    let after : drop_through 10 ys ≡ zs = cc in
    line_first line ys some is ∙ ap (λ l. line ∷ lines_of l) after

module _ {S : Type 0} (Does : S → ℕ → List ℕ → List ℕ → Bool → S → Type 0) where
  -- What was written so far is right: together with what the other lines write it is right for all lines.
  abbrev pub IsSoFar : S → Option (List ℕ) → Option (List ℕ) → ℕ → S → Option (List ℕ) → Option (List ℕ) → ℕ → Type 0
  IsSoFar first None old n s left new count = Unit {0}
  IsSoFar first (Some xs) old n s None new count = ⊥
  IsSoFar first (Some xs) old n s (Some ys) new count =
      (written : List ℕ) × Appends old new written
      × ((text : List ℕ) (more : ℕ) (t : S) → DoesEach Does n (lines_of ys) s text more t →
      DoesEach Does 0 (lines_of xs) first (written ++ text) (count + more) t)

  pub so_far_more : (first : S) (input old : Option (List ℕ)) (n : ℕ) (s : S) (left now : Option (List ℕ)) (count : ℕ) →
      IsSoFar first input old n s left now count →
      (line : List ℕ) (rest : Option (List ℕ)) → ReadsLine left true line rest →
      (counts : Bool) (t : S) (new : Option (List ℕ)) → (text : List ℕ) × Does s (n + 1) line text counts t × Appends now new text →
      IsSoFar first input old (n + 1) t rest new (count + cond counts 1 0)
  so_far_more first None old n s left now count so line rest reads counts t new does = tt
  so_far_more first (Some xs) old n s None now count so line rest reads counts t new does = absurd so
  so_far_more first (Some xs) old n s (Some ys) now count so line None reads counts t new does = absurd reads
  so_far_more first (Some xs) old n s (Some ys) now count (written, a, on) line (Some zs) reads counts t new (text, does, appends) = (
    written ++ text,
    appends_both old now new written text a appends,
    λ others more u each.
        rw (append_assoc, add_assoc)
        (on (text ++ others) (cond counts 1 0 + more) u
        (subst (λ ls. DoesEach Does n ls s (text ++ others) (cond counts 1 0 + more) u) (sym reads)
        (text, counts, t, others, more, does, each, refl, refl))),
  )

  pub all_so_far : (first : S) (input old : Option (List ℕ)) (n : ℕ) (s : S) (left now : Option (List ℕ)) (count : ℕ) →
      IsSoFar first input old n s left now count → (line : List ℕ) (rest : Option (List ℕ)) → ReadsLine left false line rest →
      IfSome input (λ bytes. (text : List ℕ) × DoesEach Does 0 (lines_of bytes) first text count s × Appends old now text)
  all_so_far first None old n s left now count so line rest reads = tt
  all_so_far first (Some xs) old n s None now count so line rest reads = absurd so
  all_so_far first (Some xs) old n s (Some ys) now count (written, a, on) line rest reads =
      let each : DoesEach Does 0 (lines_of xs) first (written ++ []) (count + 0) s =
      on [] 0 s (subst (λ ls. DoesEach Does n ls s [] 0 s) (sym reads) (refl, refl, refl)) in (
        written,
        subst (λ w. DoesEach Does 0 (lines_of xs) first w count s) (append-nil written)
            (subst (λ k. DoesEach Does 0 (lines_of xs) first (written ++ []) k s) (add-zero count) each),
        a,
      )

module _ {S X : Type 0} (seen : S → X) (Writes : X → List ℕ → List ℕ → Type 0) where
  each_written : (n : ℕ) (ls : List (List ℕ)) (s : S) (text : List ℕ) (count : ℕ) (t : S) →
      DoesEach (WritesLine seen Writes) n ls s text count t → AreWritten (Writes (seen s)) ls text
  each_written n [] s text count t does = does.0
  each_written n (l ∷ ls) s text count t (first, counts, m, rest, others, (writes, same), does, text_is, count_is) =
      (first, rest, writes, subst (λ x. AreWritten (Writes x) ls rest) same (each_written (n + 1) ls m rest others t does), text_is)

  -- if each line is written in turn, all lines are written
  pub lines_written : (input old new : Option (List ℕ)) (s : S) (count : ℕ) (t : S) →
      IfSome input (λ bytes. (text : List ℕ) × DoesEach (WritesLine seen Writes) 0 (lines_of bytes) s text count t × Appends old new text) →
      IfSome input (λ bytes. (text : List ℕ) × AreWritten (Writes (seen s)) (lines_of bytes) text × Appends old new text)
  lines_written None old new s count t does = tt
  lines_written (Some xs) old new s count t (text, does, appends) = (text, each_written 0 (lines_of xs) s text count t does, appends)
