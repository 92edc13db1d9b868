-- Lines of a buffer in which nothing matches.
use Rattle.std.proofs.Common.{◌≡◌, ℕ, zero, suc, ◌+◌, ◌-◌, ◌≤◌, Bool, true, false, not, List, [], ◌∷◌, ◌++◌, length, take, get_or, Option, Some, None, refl, sym, ap, ◌∙◌, subst, inr, arith, append_assoc, lt-ltb}
use Rattle.std.proofs.lemmas.List.{length-append, length_push, get_or_push, take-append-le, take_all}
use Rattle.std.specs.Prelude.{◌==◌, ◌&&◌}
use Rattle.std.specs.Io.BufRead.{ends_with_byte, strip_last}
use Rattle.bites_spec.specs.Tree.{Tree}
use Rattle.bites_spec.specs.Utf8.{places}
use Rattle.bites_spec.specs.Found.{NoMatch}
use Rattle.bites_bytes.specs.Calls.{NoPartMatches}
use Rattle.bites_filter.specs.Lines.{lines_of, AreWhole, AreIdle, SkipsLines}
use Rattle.bites_filter.proofs.SkipLemmas.{first_line, lines_append}
use Rattle.clients.specs.declared.lines.filter.Filter.{Filter}
use Rattle.clients.specs.Selected.{IsAskedFor, IsAnySelected}
use Rattle.clients.specs.Filtered.{Filters}
use Rattle.clients.proofs.AnyLemmas.{IsNoneSoFar}

ends : (line : List ℕ) → ends_with_byte 10 (line ++ 10 ∷ []) ≡ true
ends line =
    let long : length (line ++ 10 ∷ []) ≡ length line + 1 = length_push line 10 in
    let some = lt-ltb 0 (length (line ++ 10 ∷ [])) (omega (arith, long)) in
    let last : length (line ++ 10 ∷ []) - 1 ≡ length line = omega (arith, long) in
    ap (λ b. b && (get_or (line ++ 10 ∷ []) (length (line ++ 10 ∷ []) - 1) 0 == 10)) some
    ∙ ap (λ i. get_or (line ++ 10 ∷ []) i 0 == 10) last
    ∙ ap (λ x. x == 10) (get_or_push line 10 0 (length line) refl)

strip : (line : List ℕ) → strip_last 10 (line ++ 10 ∷ []) ≡ line
strip line =
    let long : length (line ++ 10 ∷ []) ≡ length line + 1 = length_push line 10 in
    let last : length (line ++ 10 ∷ []) - 1 ≡ length line = omega (arith, long) in
    rw (ends line) (ap (λ k. take k (line ++ 10 ∷ [])) last ∙ take-append-le (length line) line (10 ∷ []) (omega arith) ∙ take_all (length line) line (omega arith))

-- a line without a match is not selected, unless that is asked for
not_asked : (t : Tree) (invert : Bool) (line : List ℕ) → invert ≡ false → NoMatch t line (places line 0) → IsAskedFor t (not invert) (line ++ 10 ∷ [])
not_asked t invert line off none =
    subst (λ v. IsAskedFor t (not v) (line ++ 10 ∷ [])) (sym off)
    (λ has.
    let none_there = subst (λ l. NoMatch t l (places l 0)) (sym (strip line)) none in
    none_there has.0 has.2 has.1 has.3)

module _ (s : Filter) (off : s.invert ≡ false) (hay : List ℕ) (end : ℕ) (none : NoPartMatches s.searcher.tree hay 0 end) where
  idle_from : (n : ℕ) (before xs after : List ℕ) → length xs ≤ n → hay ≡ before ++ (xs ++ after) → length before + length xs ≤ end → AreWhole xs →
      AreIdle Filters s (lines_of xs)
  idle_from n before [] after few is within whole = tt
  idle_from zero before (b ∷ bs) after few is within whole = absurd (omega (arith, few))
  idle_from (suc n) before (b ∷ bs) after few is within whole =
      let f = first_line b bs whole in
      let long : length (b ∷ bs) ≡ length f.line + suc (length f.rest) = ap length f.is ∙ length-append f.line (10 ∷ f.rest) in
      let on : hay ≡ before ++ (f.line ++ (10 ∷ (f.rest ++ after))) =
      is ∙ ap (λ l. before ++ (l ++ after)) f.is ∙ ap (λ l. before ++ l) (append_assoc f.line (10 ∷ f.rest) after) in
      let next : hay ≡ (before ++ (f.line ++ 10 ∷ [])) ++ (f.rest ++ after) =
      on ∙ sym (append_assoc before (f.line ++ 10 ∷ []) (f.rest ++ after) ∙ ap (λ l. before ++ l) (append_assoc f.line (10 ∷ []) (f.rest ++ after))) in
      let front : length (before ++ (f.line ++ 10 ∷ [])) ≡ length before + (length f.line + 1) =
      length-append before (f.line ++ 10 ∷ []) ∙ ap (λ k. length before + k) (length_push f.line 10) in
      let asked = not_asked s.searcher.tree s.invert f.line off (none before f.line (10 ∷ (f.rest ++ after)) on (omega arith) (omega (arith, within, long))) in
      subst (AreIdle Filters s) (sym f.lines)
      (λ k. ((asked, refl), refl), idle_from n (before ++ (f.line ++ 10 ∷ [])) f.rest after (omega (arith, few, long)) next (omega (arith, within, long, front)) f.whole)

  -- whole lines at the front of the haystack that end no later than no part matches
  pub idle_front : (xs after : List ℕ) → hay ≡ xs ++ after → length xs ≤ end → AreWhole xs → AreIdle Filters s (lines_of xs)
  idle_front xs after is within whole = idle_from (length xs) [] xs after (omega arith) is (omega (arith, within)) whole

none_selected : (s : Filter) (ls rest : List (List ℕ)) (any : Bool) → AreIdle Filters s ls → IsAnySelected s.searcher.tree s.invert rest any →
    IsAnySelected s.searcher.tree s.invert (ls ++ rest) any
none_selected s [] rest any idle is = is
none_selected s (l ∷ ls) rest any (first, idle) is = inr ((first 0).0.0, none_selected s ls rest any idle is)

-- none of the lines that are skipped is selected
pub none_skipped : (s : Filter) (input left rest : Option (List ℕ)) (count : ℕ) → IsNoneSoFar s.searcher.tree s.invert input left →
    SkipsLines Filters s left count rest → IsNoneSoFar s.searcher.tree s.invert input rest
none_skipped s None left rest count so skips = tt
none_skipped s (Some xs) None rest count so skips = absurd so
none_skipped s (Some xs) (Some ys) None count so skips = absurd skips
none_skipped s (Some xs) (Some ys) (Some zs) count so (lines, is, (whole, idle), many) =
    λ any selected.
    so any (subst (λ ls. IsAnySelected s.searcher.tree s.invert ls any) (sym (ap lines_of is ∙ lines_append lines zs whole))
    (none_selected s (lines_of lines) (lines_of zs) any idle selected))
