-- What a class of ASCII matches first, and its greedy repetition.
use Rattle.std.proofs.Common.{◌≡◌, ℕ, zero, suc, ◌+◌, ◌-◌, ◌<◌, ◌≤◌, Bool, true, false, not, List, [], ◌∷◌, ◌++◌, map, length, get_or, Option, Some, None, refl, sym, ap, ◌∙◌, subst, ◌⊎◌, inl, inr, arith, true≢false, lt-ltb, ltb-true}
use Rattle.std.specs.Prelude.{◌↔◌, IfSome, nat_lt, ◌&&◌, if◌then◌else◌}
use Rattle.std.proofs.lemmas.Grind.{common_steps}
use Rattle.std.proofs.lemmas.Bool.{and_parts, cases_eq, cases_lt}
use Rattle.std.proofs.lemmas.Option.{same_Some}
use Rattle.bites_spec.specs.Utf8.{piece, character, places}
use Rattle.bites_spec.specs.Range.{Range, in_ranges}
use Rattle.bites_spec.specs.Tree.{Tree, class, repetition}
use Rattle.bites_spec.specs.Match.{Chain, Matches, Takes}
use Rattle.bites_spec.specs.Found.{NoMatch, head_of}
use Rattle.bites_spec.specs.Preference.{ParseTo, here, joined, parses, taken, then_each, up_to}
use Rattle.bites_spec.proofs.utf8.PieceLemmas.{Among-places}
use Rattle.bites_scan.specs.Stops.{IsFirstStop}
use Rattle.bites_literals.specs.Ascii.{Has}
use Rattle.bites_literals.specs.declared.ascii.AsciiSet.{AsciiSet}
use Rattle.bites_literals.specs.Begins.{IsFirstMatch, IsPreferred, NoneBefore}
use Rattle.bites_literals.specs.ByteRun.{IsByteRun, IsByteRunOf, class_or_run}
use Rattle.bites_literals.specs.declared.byte_run.ByteRun.{ByteRun}
use Rattle.bites_literals.proofs.CharacterFacts.{byte_takes, takes_byte}
use Rattle.bites_literals.proofs.PlaceLemmas.{place_at_first}

-- what is known of the ranges is known of the tree
pub of_tree : (t : Tree) (rs : List Range) (repeats : Bool) → t ≡ class_or_run rs repeats → (o : Option ByteRun) → IfSome o (IsByteRun rs repeats) → IfSome o (IsByteRunOf t)
of_tree t rs repeats same None none = tt
of_tree t rs repeats same (Some r) is = (rs, repeats, same, is)

-- the first of a list, also of more
head_more : (xs ys : List ParseTo) (w : ParseTo) → head_of xs ≡ Some w → head_of (xs ++ ys) ≡ Some w
head_more [] ys w e = absurd (cc)
head_more (x ∷ xs) ys w e = e

head_map : (f : ParseTo → ParseTo) (xs : List ParseTo) (w : ParseTo) → head_of xs ≡ Some w → head_of (map f xs) ≡ Some (f w)
head_map f [] w e = absurd (cc)
head_map f (x ∷ xs) w e = ap (λ v. Some (f v)) (same_Some x w e)

-- ## Flags

-- flags that tell of bytes of ASCII what the set tells, and of all others the same
module _ (q : ℕ → Bool) (set : AsciiSet) (has : (c : ℕ) → c < 128 → q c ≡ true → Has set c) (only : (c : ℕ) → c < 128 → Has set c → q c ≡ true)
    (others : Bool) (beyond : (c : ℕ) → 128 ≤ c → q c ≡ others) where
  same : (H : Type 0) (a b : Bool) → a ≡ true ↔ H → (H → b ≡ true) → (b ≡ true → H) → a ≡ b
  same H true b tells to from = sym (to (tells.0 refl))
  same H false true tells to from = tells.1 (from refl)
  same H false false tells to from = refl

  flags_tell : (flags : List Bool) → ((b : ℕ) → b < 128 → get_or flags b false ≡ true ↔ Has set b) → ((b : ℕ) → 128 ≤ b → b < 256 → get_or flags b false ≡ others) →
      (b : ℕ) → b < 256 → get_or flags b false ≡ q b
  flags_tell flags tell rest b within = elim (cases_lt b 128) [
    | inl less ↦ same (Has set b) (get_or flags b false) (q b) (tell b less) (only b less) (has b less)
    | inr from ↦ rest b from within ∙ sym (beyond b from)
  ]

module _ (rs : List Range) (ascii : (c : ℕ) → in_ranges rs c ≡ true → c < 128) (set : AsciiSet)
    (has : (c : ℕ) → c < 128 → in_ranges rs c ≡ true → Has set c) (only : (c : ℕ) → c < 128 → Has set c → in_ranges rs c ≡ true) where
  none_beyond : (c : ℕ) → 128 ≤ c → in_ranges rs c ≡ false
  none_beyond c from = by (in_ranges rs c) refl
    where
      by : (x : Bool) → in_ranges rs c ≡ x → x ≡ false
      by false e = refl
      by true e = absurd (omega (arith, from, ascii c e))

  pub own_flags : (flags : List Bool) → ((b : ℕ) → b < 128 → get_or flags b false ≡ true ↔ Has set b) → ((b : ℕ) → 128 ≤ b → b < 256 → get_or flags b false ≡ false) →
      (b : ℕ) → b < 256 → get_or flags b false ≡ in_ranges rs b
  own_flags = flags_tell (in_ranges rs) set has only false none_beyond

  module _ (rest : AsciiSet) (rest_has : (c : ℕ) → c < 128 → (Has set c → ⊥) → Has rest c) (rest_only : (c : ℕ) → c < 128 → Has rest c → Has set c → ⊥) where
    pub other_flags : (flags : List Bool) → ((b : ℕ) → b < 128 → get_or flags b false ≡ true ↔ Has rest b) → ((b : ℕ) → 128 ≤ b → b < 256 → get_or flags b false ≡ true) →
        (b : ℕ) → b < 256 → get_or flags b false ≡ not (in_ranges rs b)
    other_flags = flags_tell (λ b. not (in_ranges rs b)) rest
        (λ c less out. rest_has c less (λ is. not_both (in_ranges rs c) out (only c less is)))
        (λ c less is. not_other (in_ranges rs c) (λ own. rest_only c less is (has c less own)))
        true (λ c from. ap not (none_beyond c from))
      where
        not_both : (x : Bool) → not x ≡ true → x ≡ true → ⊥
        not_both true out is = absurd (true≢false (sym out))
        not_both false out is = absurd (true≢false (sym is))

        not_other : (x : Bool) → (x ≡ true → ⊥) → not x ≡ true
        not_other false out = refl
        not_other true out = absurd (out refl)

module _ (rs : List Range) (ascii : (c : ℕ) → in_ranges rs c ≡ true → c < 128) (hay : List ℕ) where
  -- at the offsets from one to another stand bytes of the class
  abbrev pub AllOwn : ℕ → ℕ → Type 0
  AllOwn i j = (k : ℕ) → i ≤ k → k < j → (k < length hay) × (in_ranges rs (get_or hay k 0) ≡ true)

  -- ## Matches

  -- so many turns take so many bytes
  turns_own : (n i j : ℕ) → Chain (Takes hay (in_ranges rs)) n i j → (j ≡ i + n) × AllOwn i j
  turns_own zero i j e = (omega (arith, e), λ k from to. absurd (omega (arith, from, to, e)))
  turns_own (suc n) i j (l, takes, rest) =
      let byte = takes_byte (in_ranges rs) ascii hay i l takes in
      let more = turns_own n l j rest in (
        omega (arith, more.0, byte.2),
        λ k from to. elim (cases_eq i k) [
          | inl same ↦ subst (λ k. (k < length hay) × (in_ranges rs (get_or hay k 0) ≡ true)) same (byte.0, byte.1)
          | inr other ↦ more.1 k (omega (arith, byte.2, from, other)) to
        ],
      )

  own_turns : (n i : ℕ) → AllOwn i (i + n) → Chain (Takes hay (in_ranges rs)) n i (i + n)
  own_turns zero i own = omega arith
  own_turns (suc n) i own =
      let byte = own i (omega arith) (omega arith) in
      let same : i + 1 + n ≡ i + suc n = omega arith in (
        i + 1,
        byte_takes (in_ranges rs) ascii hay i byte.0 byte.1,
        subst (Chain (Takes hay (in_ranges rs)) n (i + 1)) same (own_turns n (i + 1) (λ k from to. own k (omega (arith, from)) (omega (arith, to)))),
      )

  pub run_matches : (i j : ℕ) → i < j → AllOwn i j → Matches hay (repetition 1 None true (class rs)) i j
  run_matches i j less own =
      let at : i + (j - i) ≡ j = omega (arith, less) in
      (j - i, omega (arith, less), tt, subst (Chain (Takes hay (in_ranges rs)) (j - i) i) at (own_turns (j - i) i (subst (AllOwn i) (sym at) own)))

  -- ## Parses

  taken_own : (i : ℕ) → i < length hay → in_ranges rs (get_or hay i 0) ≡ true → taken hay (in_ranges rs) i ≡ here (i + 1) ∷ []
  taken_own i within test = let takes = byte_takes (in_ranges rs) ascii hay i within test in grind (arith, common_steps, lt-ltb)

  taken_none : (i : ℕ) → (i < length hay → in_ranges rs (get_or hay i 0) ≡ false) → taken hay (in_ranges rs) i ≡ []
  taken_none i stop = by (nat_lt 0 (piece hay i).len && in_ranges rs (character (piece hay i))) refl
    where
      by : (b : Bool) → (nat_lt 0 (piece hay i).len && in_ranges rs (character (piece hay i))) ≡ b → (if b then here (i + (piece hay i).len) ∷ [] else []) ≡ []
      by false e = refl
      by true e =
          let takes : Takes hay (in_ranges rs) i (i + (piece hay i).len) = grind (arith, common_steps, and_parts, ltb-true) in
          let byte = takes_byte (in_ranges rs) ascii hay i (i + (piece hay i).len) takes in
          absurd (true≢false (sym byte.1 ∙ stop byte.0))

  -- the greedy repetition takes all bytes up to one that is not of the class
  greedy : (n i m : ℕ) → m ≤ n → AllOwn i (i + m) → (i + m < length hay → in_ranges rs (get_or hay (i + m) 0) ≡ false) →
      head_of (up_to n true (taken hay (in_ranges rs)) i) ≡ Some (here (i + m))
  greedy zero i m le own stop = let none : i ≡ i + m = omega (arith, le) in ap (λ k. Some (here k)) none
  greedy (suc n) i zero le own stop =
      let same : i + 0 ≡ i = omega arith in
      let none = taken_none i (subst (λ k. k < length hay → in_ranges rs (get_or hay k 0) ≡ false) same stop) in
      ap (λ ws. head_of (then_each ws (up_to n true (taken hay (in_ranges rs))) ++ here i ∷ [])) none ∙ ap (λ k. Some (here k)) (sym same)
  greedy (suc n) i (suc m) le own stop =
      let byte = own i (omega arith) (omega arith) in
      let same : i + 1 + m ≡ i + suc m = omega arith in
      let rest = up_to n true (taken hay (in_ranges rs)) in
      let later = greedy n (i + 1) m (omega (arith, le)) (λ k from to. own k (omega (arith, from)) (omega (arith, to, same)))
      (subst (λ k. k < length hay → in_ranges rs (get_or hay k 0) ≡ false) (sym same) stop) in
      ap (λ ws. head_of (then_each ws rest ++ here i ∷ [])) (taken_own i byte.0 byte.1)
      ∙ head_more (then_each (here (i + 1) ∷ []) rest) (here i ∷ []) (here (i + suc m))
      (head_more (map (joined (here (i + 1))) (rest (i + 1))) [] (here (i + suc m))
      (head_map (joined (here (i + 1))) (rest (i + 1)) (here (i + 1 + m)) later ∙ ap (λ k. Some (here k)) same))

  abbrev run : Tree
  run = repetition 1 None true (class rs)

  preferred : (i m : ℕ) → AllOwn i (i + suc m) → (i + suc m < length hay → in_ranges rs (get_or hay (i + suc m) 0) ≡ false) →
      head_of (parses hay run i) ≡ Some (here (i + suc m))
  unfolding parses
  preferred i m own stop =
      let byte = own i (omega arith) (omega arith) in
      let last = own (i + m) (omega arith) (omega arith) in
      let same : i + 1 + m ≡ i + suc m = omega arith in
      let rest = up_to (length hay) true (taken hay (in_ranges rs)) in
      let later = greedy (length hay) (i + 1) m (omega (arith, last.0)) (λ k from to. own k (omega (arith, from)) (omega (arith, to, same)))
      (subst (λ k. k < length hay → in_ranges rs (get_or hay k 0) ≡ false) (sym same) stop) in
      ap (λ ws. head_of (then_each ws rest)) (taken_own i byte.0 byte.1)
      ∙ head_more (map (joined (here (i + 1))) (rest (i + 1))) [] (here (i + suc m))
      (head_map (joined (here (i + 1))) (rest (i + 1)) (here (i + 1 + m)) later ∙ ap (λ k. Some (here k)) same)

  pub is_preferred : (i j : ℕ) → i < j → AllOwn i j → (j < length hay → in_ranges rs (get_or hay j 0) ≡ false) → IsPreferred run hay i j
  is_preferred i j less own stop =
      let m : ℕ = j - i - 1 in
      let at : i + suc m ≡ j = omega (arith, less) in
      record {
        plain = refl;
        head = λ w e. ap (λ (v : ParseTo). v.end) (same_Some w _ (sym e ∙ preferred i m (subst (AllOwn i) (sym at) own) (subst (λ k. k < length hay → in_ranges rs (get_or hay k 0) ≡ false) (sym at) stop))) ∙ at;
        greatest = λ l (n, least, most, turns).
            let took = turns_own n i l turns in
            elim (cases_lt j l) [
              | inl longer ↦ let byte = took.1 j (omega (arith, less)) longer in absurd (true≢false (sym byte.1 ∙ stop byte.0))
              | inr le ↦ le
            ];
      }

  -- ## Where a match begins

  -- a match begins with a byte of the class
  pub begins_own : (repeats : Bool) (i j : ℕ) → Matches hay (class_or_run rs repeats) i j → (i < length hay) × (in_ranges rs (get_or hay i 0) ≡ true)
  begins_own false i j takes = let byte = takes_byte (in_ranges rs) ascii hay i j takes in (byte.0, byte.1)
  begins_own true i j (n, least, most, turns) = let took = turns_own n i j turns in took.1 i (omega arith) (omega (arith, took.0, least))

-- the first byte of the class, if there is one
module _ (rs : List Range) (repeats : Bool) (r : ByteRun) (is : IsByteRun rs repeats r) (hay : List ℕ) (bytes : (k : ℕ) → get_or hay k 0 < 256) (start at : ℕ)
    (stop : IsFirstStop (λ byte. not (get_or r.others byte false)) hay start at) where
  own_there : (b : ℕ) → b < 256 → not (get_or r.others b false) ≡ in_ranges rs b
  own_there b lt = ap not (is.others b lt) ∙ twice (in_ranges rs b)
    where
      twice : (x : Bool) → not (not x) ≡ x
      twice x = grind (arith, common_steps)

  pub none_own : (k : ℕ) → start ≤ k → k < at → in_ranges rs (get_or hay k 0) ≡ false
  none_own k from less = sym (own_there (get_or hay k 0) (bytes k)) ∙ stop.passed k from less

  none_before : (i j : ℕ) → start ≤ i → i < at → Matches hay (class_or_run rs repeats) i j → ⊥
  none_before i j from less m = true≢false (sym (begins_own rs is.ascii hay repeats i j m).1 ∙ none_own i from less)

  pub none_at_all : length hay ≤ at → NoMatch (class_or_run rs repeats) hay (places hay start)
  none_at_all over i among j m =
      let byte = begins_own rs is.ascii hay repeats i j m in
      none_before i j (Among-places hay start i among).0 (omega (arith, byte.0, over, stop.within)) m

  module _ (within : at < length hay) where
    here_own : in_ranges rs (get_or hay at 0) ≡ true
    here_own = sym (own_there (get_or hay at 0) (bytes at)) ∙ stop.stopped within

    begins_there : NoneBefore (class_or_run rs repeats) hay start at
    begins_there = record {
      place = place_at_first hay start at stop.onward within (λ continues. omega (arith, is.ascii (get_or hay at 0) here_own, continues.0));
      none_before = λ i among less j m. none_before i j (Among-places hay start i among).0 less m;
    }

    -- the first byte is a match
    first_byte : (more : Bool) → Matches hay (class_or_run rs more) at (at + 1)
    first_byte false = byte_takes (in_ranges rs) is.ascii hay at within here_own
    first_byte true =
        let alone : AllOwn rs is.ascii hay at (at + 1) = λ k from to.
        let same : at ≡ k = omega (arith, from, to) in subst (λ k. (k < length hay) × (in_ranges rs (get_or hay k 0) ≡ true)) same (within, here_own) in
        run_matches rs is.ascii hay at (at + 1) (omega arith) alone

    -- it is the match, unless the class is repeated and the end is asked for
    pub first_once : (with_end : Bool) → (with_end ≡ true → repeats ≡ false) → IsFirstMatch with_end (class_or_run rs repeats) hay start at (at + 1)
    first_once with_end once = record {
      first = begins_there;
      matches = first_byte repeats;
      chosen = λ asked. subst (λ b. ((l : ℕ) → Matches hay (class_or_run rs b) at l → l ≡ at + 1) ⊎ IsPreferred (class_or_run rs b) hay at (at + 1)) (sym (once asked))
          (inl (λ l m. (takes_byte (in_ranges rs) is.ascii hay at l m).2));
    }

    -- as many as stand there are the match
    module _ (own : List Bool) (flags : (b : ℕ) → b < 256 → get_or own b false ≡ in_ranges rs b) (end : ℕ) (last : IsFirstStop (λ byte. not (get_or own byte false)) hay (at + 1) end) where
      all_own : AllOwn rs is.ascii hay at end
      all_own k from to = elim (cases_eq at k) [
        | inl same ↦ subst (λ k. (k < length hay) × (in_ranges rs (get_or hay k 0) ≡ true)) same (within, here_own)
        | inr other ↦ (omega (arith, to, last.within), sym (flags (get_or hay k 0) (bytes k)) ∙ not_false (get_or own (get_or hay k 0) false) (last.passed k (omega (arith, from, other)) to))
      ]
        where
          not_false : (x : Bool) → not x ≡ false → x ≡ true
          not_false x e = grind (arith, common_steps)

      ends_there : end < length hay → in_ranges rs (get_or hay end 0) ≡ false
      ends_there less = sym (flags (get_or hay end 0) (bytes end)) ∙ not_true (get_or own (get_or hay end 0) false) (last.stopped less)
        where
          not_true : (x : Bool) → not x ≡ true → x ≡ false
          not_true x e = grind (arith, common_steps)

      pub first_run : repeats ≡ true → IsFirstMatch true (class_or_run rs repeats) hay start at end
      first_run more = record {
        first = begins_there;
        matches = subst (λ b. Matches hay (class_or_run rs b) at end) (sym more) (run_matches rs is.ascii hay at end (omega (arith, last.onward)) all_own);
        chosen = λ asked. subst (λ b. ((l : ℕ) → Matches hay (class_or_run rs b) at l → l ≡ end) ⊎ IsPreferred (class_or_run rs b) hay at end) (sym more)
            (inr (is_preferred rs is.ascii hay at end (omega (arith, last.onward)) all_own ends_there));
      }
