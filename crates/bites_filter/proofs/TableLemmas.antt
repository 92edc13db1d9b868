-- Tables of named patterns, and which of them reads furthest.
use Rattle.std.proofs.Common.{◌≡◌, ℕ, ◌+◌, ◌<◌, ◌≤◌, zero, suc, true, false, inl, inr, List, [], ◌∷◌, ◌++◌, length, All, Some, None, refl, sym, ◌∙◌, subst, arith, ap, get_or, slice_get, slice_set, append_assoc, below_more}
use Rattle.std.proofs.lemmas.List.{append-nil}
use Rattle.std.proofs.lemmas.List.Elements.{All-nil, All-cons}
use Rattle.std.proofs.lemmas.Option.{slice_get_read, slice_get_within}
use Rattle.bites_spec.specs.Match.{Matches}
use Rattle.bites_spec.specs.Full.{IsFullMatch, FindsGroupsFull}
use Rattle.bites_filter.specs.declared.table.Reading.{Reading}
use Rattle.bites_filter.specs.Table.{NamedRegex, IsRule, IsEntry, AreEntries, says_nothing, without_end, IsReach, Reads, IsFurthest, AreReadings, MatchesFull, NoneMatches}

module _ {S : Type 0} (Is : List ℕ → List ℕ → S → Type 0) (lines : List (List ℕ)) where
  -- the entries so far are right, with any that may follow for the lines that are left
  abbrev pub AreSoFar : List S → List (List ℕ) → Type 0
  AreSoFar entries left = (more : List S) → AreEntries Is left more → AreEntries Is lines (entries ++ more)

  pub entry_more : (entries : List S) (all : List (List ℕ)) (line : List ℕ) (left : List (List ℕ)) → all ≡ line ∷ left →
      AreSoFar entries all → says_nothing (without_end line) ≡ false → (e : S) → IsEntry Is (without_end line) e →
      AreSoFar (entries ++ e ∷ []) left
  entry_more entries all line left is so says e entry more are =
      subst (AreEntries Is lines) (sym (append_assoc entries (e ∷ []) more))
      (subst (λ ls. AreSoFar entries ls) is so (e ∷ more) (inr (says, e, more, entry, are, refl)))

  pub line_passed : (entries : List S) (all : List (List ℕ)) (line : List ℕ) (left : List (List ℕ)) → all ≡ line ∷ left →
      AreSoFar entries all → says_nothing (without_end line) ≡ true → AreSoFar entries left
  line_passed entries all line left is so says more are = subst (λ ls. AreSoFar entries ls) is so more (inl (says, are))

  pub no_entry_more : (entries : List S) (all : List (List ℕ)) → all ≡ [] → AreSoFar entries all → AreEntries Is lines entries
  no_entry_more entries all is so =
      subst (AreEntries Is lines) (append-nil entries) (subst (λ ls. AreSoFar entries ls) is so [] refl)

abbrev FindsLongest : NamedRegex → Type 0
FindsLongest r = r.regex.leftmost_longest ≡ true

-- every rule of a table finds the longest match
pub all_longest : (ls : List (List ℕ)) (rules : List NamedRegex) → AreEntries IsRule ls rules → All FindsLongest rules
all_longest [] rules are = subst (All FindsLongest) (sym are) (All-nil FindsLongest)
all_longest (l ∷ ls) rules (inl (says, are)) = all_longest ls rules are
all_longest (l ∷ ls) rules (inr (says, r, rs, entry, are, is)) =
    subst (All FindsLongest) (sym is) (All-cons FindsLongest r rs entry.entry_is.longest (all_longest ls rs are))

module _ (rules : List NamedRegex) (text : List ℕ) (i : ℕ) where
  -- rule k reads to j, or j is i; none of the first n rules reads further, and none before rule k reads as far
  pub record IsBest (n k j : ℕ) : Type 0 where
    pub from : i ≤ j
    pub within : j ≤ length text
    pub greatest : (l : ℕ) → l < n → (e : ℕ) → Reads rules text l i e → e ≤ j
    pub reads : i < j → (k < n) × Reads rules text k i j
    pub first : i < j → (l : ℕ) → l < k → Reads rules text l i j → ⊥

  module _ (n k j : ℕ) (best : IsBest n k j) (r : NamedRegex) (at : slice_get rules n ≡ Some r) (e : ℕ) (reach : IsReach r.regex.tree text i e) where
    more : (m : ℕ) → j ≤ m → e ≤ m → (l : ℕ) → l < n + 1 → (d : ℕ) → Reads rules text l i d → d ≤ m
    more m from_j from_e =
        below_more (λ l. (d : ℕ) → Reads rules text l i d → d ≤ m) n
        (λ l lt d reads. let le : d ≤ j = best.greatest l lt d reads in omega (arith, le, from_j))
        (λ d (q, is, matches).
        let both : Some q ≡ Some r = sym is ∙ at in
        let same : q ≡ r = cc in
        let le : d ≤ e = reach.greatest d (subst (λ x. Matches text x.regex.tree i d) same matches) in omega (arith, le, from_e))

    pub best_kept : e ≤ j → IsBest (n + 1) k j
    best_kept le = record {
      from = best.from;
      within = best.within;
      greatest = more j (omega arith) le;
      reads = λ lt. let so = best.reads lt in (let below : k < n = so.0 in omega (arith, below), so.1);
      first = best.first;
    }

    pub best_taken : j < e → IsBest (n + 1) n e
    best_taken lt = record {
      from = reach.from;
      within = reach.within;
      greatest = more e (omega (arith, lt)) (omega arith);
      reads = λ some. (omega arith, (r, at, reach.matches some));
      first = λ some l before reads. let le : e ≤ j = best.greatest l before e reads in absurd (omega (arith, le, lt));
    }

  pub best_is_furthest : (n k j : ℕ) → length rules ≤ n → IsBest n k j → IsFurthest rules text i k j
  best_is_furthest n k j all best = record {
    from = best.from;
    within = best.within;
    greatest = λ l e (r, at, matches).
        let there : l < length rules = slice_get_within rules l r at in best.greatest l (omega (arith, all, there)) e (r, at, matches);
    reads = λ lt. (best.reads lt).1;
    first = λ lt l reads. let none : l < k → ⊥ = λ before. best.first lt l before reads in grind (arith, none);
  }

-- writing an item where it stands changes nothing
written_back : {S : Type 0} (rows : List S) (n : ℕ) (r : S) → slice_get rows n ≡ Some r → slice_set rows n r ≡ rows
written_back [] n r at = refl
written_back (q ∷ rows) zero r at = let both : Some q ≡ Some r = at in let same : r ≡ q = cc in ap (λ x. x ∷ rows) same
written_back (q ∷ rows) (suc n) r at = ap (λ rs. q ∷ rs) (written_back rows n r at)

-- what a search gives back is put where it stood
pub put_back : {S : Type 0} (before rows : List S) (n : ℕ) (r new : S) → before ≡ rows → n < length rows → r ≡ get_or before n r →
    new ≡ get_or before n r → (slice_get rows n ≡ Some r) × (slice_set before n new ≡ rows)
put_back before rows n r new same within is back =
    let there = rw same at is in
    let at = slice_get_read rows (length rows) n r refl within there in
    let given : new ≡ r = cc in
    (at, ap (λ rs. slice_set rs n new) same ∙ ap (slice_set rows n) given ∙ written_back rows n r at)

module _ (rules : List NamedRegex) (text : List ℕ) where
  -- if two readings are furthest, they are one
  same_reading : (i : ℕ) (t u : Reading) → i < t.end → i < u.end → IsFurthest rules text i t.rule t.end →
      IsFurthest rules text i u.rule u.end → (t.rule ≡ u.rule) × (t.end ≡ u.end)
  same_reading i t u some_t some_u a b =
      let le : t.end ≤ u.end = b.greatest t.rule t.end (a.reads some_t) in
      let ge : u.end ≤ t.end = a.greatest u.rule u.end (b.reads some_u) in
      let ends : t.end ≡ u.end = omega (arith, le, ge) in
      let first : t.rule ≤ u.rule = a.first some_t u.rule (subst (Reads rules text u.rule i) (sym ends) (b.reads some_u)) in
      let second : u.rule ≤ t.rule = b.first some_u t.rule (subst (Reads rules text t.rule i) ends (a.reads some_t)) in
      (omega (arith, first, second), ends)

  pub one_list : (i : ℕ) (ts us : List Reading) (m n : ℕ) → AreReadings rules text i ts m → AreReadings rules text i us n →
      (ts ≡ us) × (m ≡ n)
  one_list i [] [] m n a b = (refl, a.0 ∙ sym b.0)
  one_list i [] (u ∷ us) m n a b =
      let le : u.end ≤ i = a.1 u.rule u.end (b.1.reads b.0) in let lt : i < u.end = b.0 in absurd (omega (arith, le, lt))
  one_list i (t ∷ ts) [] m n a b =
      let le : t.end ≤ i = b.1 t.rule t.end (a.1.reads a.0) in let lt : i < t.end = a.0 in absurd (omega (arith, le, lt))
  one_list i (t ∷ ts) (u ∷ us) m n a b =
      let same = same_reading i t u a.0 b.0 a.1 b.1 in
      let rest = one_list t.end ts us m n a.2 (subst (λ j. AreReadings rules text j us n) (sym same.1) b.2) in
      (rw (same.0, same.1, rest.0) refl, rest.1)

  -- a rule at which nothing is found does not match
  pub none_more : (n : ℕ) (r : NamedRegex) → slice_get rules n ≡ Some r → FindsGroupsFull r.regex text None →
      ((k : ℕ) → k < n → MatchesFull rules text k → ⊥) → (k : ℕ) → k < n + 1 → MatchesFull rules text k → ⊥
  none_more n r at none before =
      below_more (λ k. MatchesFull rules text k → ⊥) n before (λ (q, is, full).
      let both : Some q ≡ Some r = sym is ∙ at in
      let same : q ≡ r = cc in
      none (subst (λ (x : NamedRegex). IsFullMatch x.regex.tree text) same full))

  pub none_matches : (n : ℕ) → length rules ≤ n → ((k : ℕ) → k < n → MatchesFull rules text k → ⊥) → NoneMatches rules text
  none_matches n all none k (r, at, full) = none k (omega (arith, all, slice_get_within rules k r at)) (r, at, full)
