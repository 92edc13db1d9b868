-- Sets of regexes: their rooms, what is built, and which of them match.
use Rattle.std.proofs.Common.{◌≡◌, ◌↔◌, ℕ, zero, suc, ◌<◌, ◌≤◌, ◌+◌, inl, inr, Bool, true, false, List, [], ◌∷◌, ◌++◌, length, map, take, get_or, Some, option_map, slice_get, slice_set, refl, sym, ◌∙◌, subst, ap, ap₂, arith, add-one, true≢false, below_more}
use Rattle.std.specs.Prelude.{IsTrue}
use Rattle.std.proofs.Math.Seq.{take-suc}
use Rattle.std.proofs.lemmas.List.{length-map, map-append}
use Rattle.std.proofs.lemmas.Option.{same_Some, none-some, slice_get-map, slice_get_within, slice_get-get_or, slice_get_read}
use Rattle.bites_spec.specs.Counts.{Room, fit_of}
use Rattle.bites_spec.specs.Found.{HasMatch}
use Rattle.bites_spec.specs.Regex.{Regex, with_prefilter, with_table}
use Rattle.bites_spec.specs.Settings.{Settings, Accepts}
use Rattle.bites_spec.specs.Set.{HasMatchOf, HasMatchOfAny, AreMatched, AreBuilt, IsBuilt, with_pattern, set_settings, fits_of, fits_for}
use Rattle.bites_spec.specs.Tree.{Tree}
use Rattle.bites_text.specs.declared.error.Error.{Error}
use Rattle.bites_table.proofs.GraphLemmas.{get-last}
use Rattle.bites_bytes.specs.Set.{ArePrepared, Refusal, IsRefused, with_prefilters, without_tables}
use Rattle.bites_bytes.specs.Parts.{IsPrepared}
use Rattle.bites_bytes.specs.Settings.{Refuses}

-- as many rooms as regexes, where each fits
pub fits_len : (rooms : List Room) (regexes : List Regex) → fits_of rooms ≡ fits_for regexes → length rooms ≡ length regexes
fits_len rooms regexes e =
    sym (length-map rooms (λ room. room.fits)) ∙ ap length e ∙ length-map regexes (λ r. fit_of r.program)

-- then the room with a number fits the regex with that number
pub fit_at : (rooms : List Room) (regexes : List Regex) (n : ℕ) (d : Room) (r : Regex) → fits_of rooms ≡ fits_for regexes →
    n < length regexes → r ≡ get_or regexes n r → (get_or rooms n d).fits ≡ fit_of r.program
fit_at rooms regexes n d r e lt is =
    let len = fits_len rooms regexes e in
    let within : n < length rooms = omega (arith, len, lt) in
    let in_rooms : slice_get (fits_of rooms) n ≡ Some (get_or rooms n d).fits =
    slice_get-map (λ room. room.fits) rooms n ∙ ap (option_map (λ (room : Room). room.fits)) (slice_get-get_or rooms n d within) in
    let in_regexes : slice_get (fits_for regexes) n ≡ Some (fit_of r.program) =
    slice_get-map (λ q. fit_of q.program) regexes n
    ∙ ap (option_map (λ (q : Regex). fit_of q.program)) (slice_get_read regexes (length regexes) n r refl lt is) in
    same_Some (get_or rooms n d).fits (fit_of r.program) (sym in_rooms ∙ ap (λ fs. slice_get fs n) e ∙ in_regexes)

fits_bare : (regexes : List Regex) → fits_for (without_tables regexes) ≡ fits_for regexes
fits_bare [] = refl
fits_bare (r ∷ rs) = ap (λ fs. fit_of r.program ∷ fs) (fits_bare rs)

fits_switched : (prefilter : Bool) (regexes : List Regex) → fits_for (with_prefilters prefilter regexes) ≡ fits_for regexes
fits_switched prefilter [] = refl
fits_switched prefilter (r ∷ rs) = ap (λ fs. fit_of r.program ∷ fs) (fits_switched prefilter rs)

-- a room for regexes that are the same but for their tables and their switches fits both
pub fits_prepared : (prefilter : Bool) (before after : List Regex) → without_tables after ≡ without_tables (with_prefilters prefilter before) →
    fits_for after ≡ fits_for before
fits_prepared prefilter before after same =
    sym (fits_bare after) ∙ ap fits_for same ∙ fits_bare (with_prefilters prefilter before) ∙ fits_switched prefilter before

-- a room that fits as before is put where it stood
pub fits_kept : (rooms : List Room) (n : ℕ) (new d : Room) → new.fits ≡ (get_or rooms n d).fits → fits_of (slice_set rooms n new) ≡ fits_of rooms
fits_kept [] n new d same = refl
fits_kept (x ∷ xs) zero new d same = ap (λ f. f ∷ fits_of xs) same
fits_kept (x ∷ xs) (suc n) new d same = ap (λ fs. x.fits ∷ fs) (fits_kept xs n new d same)

get_set_at : (bs : List Bool) (n : ℕ) (b : Bool) → n < length bs → slice_get (slice_set bs n b) n ≡ Some b
get_set_at [] n b lt = absurd (omega (arith, lt))
get_set_at (x ∷ xs) zero b lt = refl
get_set_at (x ∷ xs) (suc n) b lt = get_set_at xs n b (omega (arith, lt))

get_set_before : (bs : List Bool) (n k : ℕ) (b : Bool) → k < n → slice_get (slice_set bs n b) k ≡ slice_get bs k
get_set_before [] n k b lt = refl
get_set_before (x ∷ xs) zero k b lt = absurd (omega (arith, lt))
get_set_before (x ∷ xs) (suc n) zero b lt = refl
get_set_before (x ∷ xs) (suc n) (suc k) b lt = get_set_before xs n k b (omega (arith, lt))

module _ (regexes : List Regex) (hay starts : List ℕ) where
  -- what is found of one regex is found of its number
  pub match_of : (n : ℕ) (r : Regex) (b : Bool) → slice_get regexes n ≡ Some r → (IsTrue b ↔ HasMatch r.tree hay starts) →
      IsTrue b ↔ HasMatchOf regexes hay starts n
  match_of n r b at iff = (
    λ yes. (r, at, iff.0 yes),
    λ (q, at_q, found).
        let same : q ≡ r = same_Some q r (sym at_q ∙ at) in
        iff.1 (subst (λ (x : Regex). HasMatch x.tree hay starts) same found),
  )

  -- the entries so far are right
  abbrev pub AreMatchedTo : ℕ → List Bool → Type 0
  AreMatchedTo n matched = (k : ℕ) → k < n → (slice_get matched k ≡ Some true) ↔ HasMatchOf regexes hay starts k

  -- and with one more
  pub entry_more : (matched : List Bool) (n : ℕ) (b : Bool) → n < length matched → (IsTrue b ↔ HasMatchOf regexes hay starts n) →
      AreMatchedTo n matched → AreMatchedTo (n + 1) (slice_set matched n b)
  entry_more matched n b lt iff all =
      let P : ℕ → Type 0 = λ k. (slice_get (slice_set matched n b) k ≡ Some true) ↔ HasMatchOf regexes hay starts k in
      below_more P n
      (λ k less. subst (λ o. (o ≡ Some true) ↔ HasMatchOf regexes hay starts k) (sym (get_set_before matched n k b less)) (all k less)) (
        λ e. iff.0 (same_Some b true (sym (get_set_at matched n b lt) ∙ e)),
        λ found. get_set_at matched n b lt ∙ ap Some (iff.1 found),
      )

  pub all_matched : (matched : List Bool) (n : ℕ) → length matched ≡ length regexes → length regexes ≤ n → AreMatchedTo n matched →
      AreMatched regexes hay starts matched
  all_matched matched n len all to = record {
    len = len;
    each = λ k. (
      λ e. let within = slice_get_within matched k true e in (to k (omega (arith, within, len, all))).0 e,
      λ found. let within = slice_get_within regexes k found.0 found.1 in (to k (omega (arith, within, all))).1 found,
    );
  }

  -- none of the first n matches
  abbrev pub NoneTo : ℕ → Type 0
  NoneTo n = (k : ℕ) → k < n → HasMatchOf regexes hay starts k → ⊥

  pub none_more : (n : ℕ) (b : Bool) → (IsTrue b ↔ HasMatchOf regexes hay starts n) → b ≡ false → NoneTo n → NoneTo (n + 1)
  none_more n b iff not_found none =
      below_more (λ k. HasMatchOf regexes hay starts k → ⊥) n none
      (λ found. absurd (true≢false (sym (iff.1 found) ∙ not_found)))

  pub none_of_all : (n : ℕ) → length regexes ≤ n → NoneTo n → HasMatchOfAny regexes hay starts → ⊥
  none_of_all n all none (k, found) =
      let within = slice_get_within regexes k found.0 found.1 in none k (omega (arith, within, all)) found

get_mapped : {A B : Type 0} (f : A → B) (xs : List A) (k : ℕ) (y : B) → slice_get (map f xs) k ≡ Some y → (x : A) × (slice_get xs k ≡ Some x) × (f x ≡ y)
get_mapped f [] k y e = absurd (none-some y e)
get_mapped f (x ∷ xs) zero y e = (x, refl, same_Some (f x) y e)
get_mapped f (x ∷ xs) (suc k) y e = get_mapped f xs k y e

get_taken : {A : Type 0} (xs : List A) (n k : ℕ) → k < n → slice_get (take n xs) k ≡ slice_get xs k
get_taken xs zero k lt = absurd (omega (arith, lt))
get_taken [] (suc n) k lt = refl
get_taken (x ∷ xs) (suc n) zero lt = refl
get_taken (x ∷ xs) (suc n) (suc k) lt = get_taken xs n k (omega (arith, lt))

-- one more pattern, and its regex
pub built_more : (s : Settings) (patterns : List (List ℕ)) (p : List ℕ) (regexes : List Regex) (r : Regex) →
    AreBuilt (set_settings patterns s) regexes → IsBuilt (with_pattern s p) r → AreBuilt (set_settings (patterns ++ p ∷ []) s) (regexes ++ r ∷ [])
built_more s patterns p regexes r are is = record {
  patterns = map-append (λ q. q.pattern) regexes (r ∷ []) ∙ ap (λ ps. ps ++ r.pattern ∷ []) are.patterns ∙ ap (λ x. patterns ++ x ∷ []) is.pattern;
  each = λ k q at.
      let own : IsBuilt (with_pattern s r.pattern) r = subst (λ x. IsBuilt (with_pattern s x) r) (sym is.pattern) is in
      elim (get-last regexes r k q at) [
        | inl before ↦ are.each k q before
        | inr same ↦ subst (λ (x : Regex). IsBuilt (with_pattern s x.pattern) x) same own
      ];
}

-- the first n items, and the next one
pub taken_more : {A : Type 0} (xs : List A) (n : ℕ) (x : A) → n < length xs → x ≡ get_or xs n x → take (n + 1) xs ≡ take n xs ++ x ∷ []
taken_more xs n x lt is =
    ap (λ m. take m xs) (add-one n) ∙ take-suc xs n x lt ∙ ap (λ y. take n xs ++ y ∷ []) (sym is)

-- one more regex is prepared, with a table of no bytes if no table may take any
pub prepared_more : (limit left : ℕ) (prefilter : Bool) (before after : List Regex) (r made : Regex) → ArePrepared limit prefilter before after →
    IsPrepared left prefilter r made → (limit ≡ 0 → left ≡ 0) → ArePrepared limit prefilter (before ++ r ∷ []) (after ++ made ∷ [])
prepared_more limit left prefilter before after r made are is none_left =
    let bare : without_tables (with_prefilters prefilter (before ++ r ∷ []))
    ≡ without_tables (with_prefilters prefilter before) ++ with_table false (with_prefilter prefilter r) ∷ [] =
    ap without_tables (map-append (with_prefilter prefilter) before (r ∷ []))
    ∙ map-append (with_table false) (with_prefilters prefilter before) (with_prefilter prefilter r ∷ []) in
    record {
      same =
          map-append (with_table false) after (made ∷ [])
          ∙ ap₂ (λ rs x. rs ++ with_table false x ∷ []) are.same is.same.1
          ∙ sym bare;
      none = λ none.
          let off : is.same.0 ≡ false = sym (ap (λ (x : Regex). x.has_table) is.same.1) ∙ is.none (none_left none) in
          ap₂ (λ rs x. rs ++ x ∷ []) (are.none none) (is.same.1 ∙ ap (λ b. with_prefilter prefilter (with_table b r)) off) ∙ sym bare;
    }

-- the first n patterns, and the next one
pub patterns_more : {A : Type 0} (f : A → List ℕ) (xs : List A) (n : ℕ) (x : A) → n < length xs → x ≡ get_or xs n x →
    map f (take (n + 1) xs) ≡ map f (take n xs) ++ f x ∷ []
patterns_more f xs n x lt is = ap (map f) (taken_more xs n x lt is) ∙ map-append f (take n xs) (x ∷ [])

-- a pattern is refused where those before it are built
pub refused_at : (s : Settings) (patterns : List (List ℕ)) (n : ℕ) (p : List ℕ) (e : Error) (refusal : Refusal) → refusal.index ≡ n →
    refusal.error ≡ e → slice_get patterns n ≡ Some p → ((t : Tree) → Accepts (with_pattern s p) t → ⊥) → Refuses (with_pattern s p) e →
    (regexes : List Regex) → AreBuilt (set_settings (take n patterns) s) regexes → IsRefused (set_settings patterns s) refusal
refused_at s patterns n p e refusal index error at none message regexes are = record {
  pattern = p;
  at = ap (slice_get patterns) index ∙ at;
  none = none;
  message = subst (Refuses (with_pattern s p)) (sym error) message;
  first = λ k q lt at_q.
      let before : k < n = omega (arith, lt, index) in
      let found = get_mapped (λ (r : Regex). r.pattern) regexes k q (ap (λ ps. slice_get ps k) are.patterns ∙ get_taken patterns n k before ∙ at_q) in
      let is = are.each k found.0 found.1 in
      (found.0.tree, subst (λ x. Accepts (with_pattern s x) found.0.tree) found.2 is.accepted);
}
