-- What a tree of one width adds behind what was known before.
use Rattle.std.proofs.Common.{◌≡◌, ◌↔◌, ℕ, ◌+◌, ◌<◌, ◌≤◌, Bool, true, false, List, [], ◌∷◌, ◌++◌, length, get_or, Option, Some, refl, sym, ap, ◌∙◌, subst, ◌⊎◌, inl, inr, ⊎_elim, arith, true≢false}
use Rattle.std.proofs.lemmas.Bool.{cases_lt}
use Rattle.std.proofs.lemmas.Bool.Decides.{nat_tests}
use Rattle.std.proofs.lemmas.List.{append-nil, append_assoc}
use Rattle.bites_spec.specs.Look.{start, end, holds, Holds}
use Rattle.bites_spec.specs.Tree.{Tree, group, look, repetition}
use Rattle.bites_spec.specs.Match.{Mark, Matches, Parse, Takes, Turns, mark}
use Rattle.bites_spec.proofs.parses.EventLemmas.{Matches-Parse, Parse-Matches}
use Rattle.bites_literals.proofs.CharacterFacts.{byte_takes, takes_byte}
use Rattle.bites_literals.proofs.PlaceLemmas.{start_among}
use Rattle.bites_literals.specs.declared.fixed_width.FixedWidth.{FixedWidth}
use Rattle.bites_literals.specs.Begins.{BeginsAtStart, IsFirstMatch}
use Rattle.bites_literals.specs.AllowedBytes.{Fits, MayStand}
use Rattle.bites_literals.specs.FixedWidth.{Adds, IsFixedWidth, IsHere, MayGrow, marks_of}

-- ## One part more

-- what is parsed between two offsets, and with which marks
abbrev pub Parsed : Type 1
Parsed = List ℕ → ℕ → ℕ → List Mark → Type 0

-- one after the other
abbrev pub Then : Parsed → Parsed → Parsed
Then P Q hay i j ms = (l : ℕ) × (first : List Mark) × (rest : List Mark) × P hay i l first × Q hay l j rest × (ms ≡ first ++ rest)

-- nothing
abbrev pub Nothing : Parsed
Nothing hay i j ms = (j ≡ i) × (ms ≡ [])

pub adds_nothing : (f : FixedWidth) → MayGrow f → Adds Nothing f f
adds_nothing f grows = record {
  more = [];
  groups = sym (append-nil _);
  onward = omega arith;
  grows = grows;
  kept = λ k b h. (λ e. e, λ e. e);
  last = λ e. (e, refl);
  parses = λ hay j ms p. (p.0, λ k from to. absurd (omega (arith, from, to)), p.1, λ e. inl e);
  fits = λ hay here ends. (refl, refl);
}

pub adds_as : (P Q : Parsed) (old new : FixedWidth) → ((hay : List ℕ) (i j : ℕ) (ms : List Mark) → P hay i j ms → Q hay i j ms)
    → ((hay : List ℕ) (i j : ℕ) (ms : List Mark) → Q hay i j ms → P hay i j ms) → Adds P old new → Adds Q old new
adds_as P Q old new to from a = record {
  more = a.more;
  groups = a.groups;
  onward = a.onward;
  grows = a.grows;
  kept = a.kept;
  last = a.last;
  parses = λ hay j ms q. a.parses hay j ms (from hay old.len j ms q);
  fits = λ hay here ends. to hay old.len new.len a.more (a.fits hay here ends);
}

module _ (P Q : Parsed) (old mid new : FixedWidth) (a : Adds P old mid) (b : Adds Q mid new) where
  fit_both : (hay : List ℕ) → Fits mid.allowed hay old.len mid.len → Fits new.allowed hay mid.len new.len → Fits new.allowed hay old.len new.len
  fit_both hay front back k from to = elim (cases_lt k mid.len) [
    | inl less ↦ let f = front k from less in (f.0, (b.kept k (get_or hay k 0) less).1 f.1)
    | inr at ↦ back k at to
  ]

  fit_front : (hay : List ℕ) → Fits new.allowed hay old.len new.len → Fits mid.allowed hay old.len mid.len
  fit_front hay all k from to = let f = all k from (omega (arith, to, b.onward)) in (f.0, (b.kept k (get_or hay k 0) to).0 f.1)

  fit_back : (hay : List ℕ) → Fits new.allowed hay old.len new.len → Fits new.allowed hay mid.len new.len
  fit_back hay all k from to = all k (omega (arith, from, a.onward)) to

  pub adds_both : Adds (Then P Q) old new
  adds_both = record {
    more = a.more ++ b.more;
    groups = b.groups ∙ ap (λ ms. ms ++ b.more) a.groups ∙ append_assoc (marks_of old.groups.items) a.more b.more;
    onward = omega (arith, a.onward, b.onward);
    grows = b.grows;
    kept = λ k byte h.
        let first = a.kept k byte h in
        let second = b.kept k byte (omega (arith, h, a.onward)) in
        (λ e. first.0 (second.0 e), λ e. second.1 (first.1 e));
    last = λ e. let first = a.last e in let second = b.last first.0 in (second.0, second.1 ∙ first.1);
    parses = λ hay j ms (l, first, rest, p, q, are).
        let x = a.parses hay l first p in
        let y = b.parses hay j rest (subst (λ l. Q hay l j rest) x.0 q) in
        (y.0, fit_both hay x.1 y.1, are ∙ ap (λ ms. ms ++ rest) x.2 ∙ ap (λ ms. a.more ++ ms) y.2, λ e. ended hay x.3 (y.3 e));
    fits = λ hay here ends.
        let p = a.fits hay (fit_front hay here) (λ e. let l = b.last e in sym l.1 ∙ ends l.0) in
        let q = b.fits hay (fit_back hay here) ends in
        (mid.len, a.more, b.more, p, q, refl);
  }
    where
      ended : (hay : List ℕ) → (mid.ends ≡ true → (old.ends ≡ true) ⊎ (mid.len ≡ length hay)) → (mid.ends ≡ true) ⊎ (new.len ≡ length hay) → (old.ends ≡ true) ⊎ (new.len ≡ length hay)
      ended hay first (inr e) = inr e
      ended hay first (inl e) = ⊎_elim inl (λ here. inr ((b.last e).1 ∙ here)) (first e)

-- what adds the rest behind what was added so far adds the whole
abbrev pub GoesOn : (Rest Whole : Parsed) (old so_far : FixedWidth) → Type 0
GoesOn Rest Whole old so_far = (new : FixedWidth) → Adds Rest so_far new → Adds Whole old new

-- a part more
pub one_more : (Whole P Rest : Parsed) (old so_far next : FixedWidth) → GoesOn (Then P Rest) Whole old so_far → Adds P so_far next → GoesOn Rest Whole old next
one_more Whole P Rest old so_far next goes_on a new b = goes_on new (adds_both P Rest so_far next new a b)

-- ## One byte more

module _ (p : ℕ → Bool) (old new : FixedWidth) (grows : MayGrow old) (room : old.len < 64) (goes_on : old.ends ≡ false)
    (len : new.len ≡ old.len + 1) (ends : new.ends ≡ old.ends) (groups : new.groups ≡ old.groups)
    (stand : (c : ℕ) → p c ≡ true → (c < 128) × MayStand new.allowed old.len c)
    (only : (k b : ℕ) → MayStand new.allowed k b → MayStand old.allowed k b ⊎ ((k ≡ old.len) × (p b ≡ true)))
    (kept : (k b : ℕ) → MayStand old.allowed k b → MayStand new.allowed k b) where
  is_kept : (k b : ℕ) → k < old.len → MayStand new.allowed k b → MayStand old.allowed k b
  is_kept k b lt e = ⊎_elim (λ h. h) (λ same. absurd (omega (arith, lt, same.0))) (only k b e)

  stays_clear : (k b : ℕ) → old.len + 1 ≤ k → MayStand new.allowed k b → ⊥
  stays_clear k b le e = ⊎_elim (λ h. grows.clear k b (omega (arith, le)) h) (λ same. omega (arith, le, same.0)) (only k b e)

  takes_one : (hay : List ℕ) (j : ℕ) → Takes hay p old.len j → (j ≡ old.len + 1) × Fits new.allowed hay old.len (old.len + 1)
  takes_one hay j takes =
      let byte = takes_byte p (λ c e. (stand c e).0) hay old.len j takes in (
        byte.2,
        λ k from to.
            let here : old.len ≡ k = omega (arith, from, to) in
            subst (λ k. (k < length hay) × MayStand new.allowed k (get_or hay k 0)) here (byte.0, (stand (get_or hay old.len 0) byte.1).1),
      )

  fits_one : (hay : List ℕ) → Fits new.allowed hay old.len (old.len + 1) → Takes hay p old.len (old.len + 1)
  fits_one hay here =
      let at = here old.len (omega arith) (omega arith) in
      let test : p (get_or hay old.len 0) ≡ true = ⊎_elim (λ h. absurd (grows.clear old.len (get_or hay old.len 0) (omega arith) h)) (λ same. same.1) (only old.len (get_or hay old.len 0) at.1) in
      byte_takes p (λ c e. (stand c e).0) hay old.len at.0 test

  pub adds_one : Adds (λ hay i j ms. Takes hay p i j × (ms ≡ [])) old new
  adds_one = record {
    more = [];
    groups = ap (λ gs. marks_of gs.items) groups ∙ sym (append-nil _);
    onward = omega (arith, len);
    grows = record { short = omega (arith, room, len); clear = λ k b le e. stays_clear k b (omega (arith, le, len)) e };
    kept = λ k b lt. (is_kept k b lt, kept k b);
    last = λ e. absurd (true≢false (sym e ∙ goes_on));
    parses = λ hay j ms (takes, none).
        let t = takes_one hay j takes in
        (t.0 ∙ sym len, subst (λ l. Fits new.allowed hay old.len l) (sym len) t.1, none, λ e. absurd (true≢false (sym e ∙ ends ∙ goes_on)));
    fits = λ hay here shut. (subst (λ l. Takes hay p old.len l) (sym len) (fits_one hay (subst (λ l. Fits new.allowed hay old.len l) len here)), refl);
  }

-- ## Parts of a tree

-- a group ends behind what its tree adds
pub adds_group : (n : ℕ) (t : Tree) (old mid new : FixedWidth) → Adds (λ hay i j ms. Parse hay t i j ms) old mid → new.allowed ≡ mid.allowed → new.len ≡ mid.len → new.ends ≡ mid.ends
    → marks_of new.groups.items ≡ marks_of mid.groups.items ++ mark n old.len mid.len ∷ []
    → (name : Option (List ℕ)) → Adds (λ hay i j ms. Parse hay (group n name t) i j ms) old new
adds_group n t old mid new a masks len ends groups name = record {
  more = a.more ++ mark n old.len mid.len ∷ [];
  groups = groups ∙ ap (λ ms. ms ++ mark n old.len mid.len ∷ []) a.groups ∙ append_assoc (marks_of old.groups.items) a.more (mark n old.len mid.len ∷ []);
  onward = omega (arith, a.onward, len);
  grows = record {
    short = omega (arith, a.grows.short, len);
    clear = λ k b le e. a.grows.clear k b (omega (arith, le, len)) (subst (λ ms. MayStand ms k b) masks e);
  };
  kept = λ k b lt. subst (λ ms. MayStand ms k b ↔ MayStand old.allowed k b) (sym masks) (a.kept k b lt);
  last = λ e. let l = a.last e in (ends ∙ l.0, len ∙ l.1);
  parses = λ hay j ms (inner, parse, are).
      let x = a.parses hay j inner parse in (
        x.0 ∙ sym len,
        fit hay x.1,
        are ∙ ap (λ ms. ms ++ mark n old.len j ∷ []) x.2 ∙ ap (λ j. a.more ++ mark n old.len j ∷ []) x.0,
        λ e. ⊎_elim inl (λ here. inr (len ∙ here)) (x.3 (sym ends ∙ e)),
      );
  fits = λ hay here shut.
      subst (λ l. Parse hay (group n name t) old.len l (a.more ++ mark n old.len mid.len ∷ [])) (sym len)
      (a.more, a.fits hay (unfit hay here) (λ e. sym len ∙ shut (ends ∙ e)), refl);
}
  where
    fit : (hay : List ℕ) → Fits mid.allowed hay old.len mid.len → Fits new.allowed hay old.len new.len
    fit hay f k from to = let x = f k from (omega (arith, to, len)) in (x.0, subst (λ ms. MayStand ms k (get_or hay k 0)) (sym masks) x.1)

    unfit : (hay : List ℕ) → Fits new.allowed hay old.len new.len → Fits mid.allowed hay old.len mid.len
    unfit hay f k from to = let x = f k from (omega (arith, to, len)) in (x.0, subst (λ ms. MayStand ms k (get_or hay k 0)) masks x.1)

-- so many turns are all that there are
pub adds_turns : (n : ℕ) (greedy : Bool) (t : Tree) (old new : FixedWidth) → Adds (λ hay i j ms. Turns (Parse hay t) n i j ms) old new
    → Adds (λ hay i j ms. Parse hay (repetition n (Some n) greedy t) i j ms) old new
adds_turns n greedy t old new =
    adds_as (λ hay i j ms. Turns (Parse hay t) n i j ms) (λ hay i j ms. Parse hay (repetition n (Some n) greedy t) i j ms) old new
    (λ hay i j ms turns. (n, omega arith, omega arith, turns))
    (λ hay i j ms (m, least, most, turns). let same : m ≡ n = omega (arith, least, most) in subst (λ m. Turns (Parse hay t) m i j ms) same turns)

-- the start of the haystack, before any byte
pub adds_start : (f : FixedWidth) → MayGrow f → f.len ≡ 0 → Adds (λ hay i j ms. Parse hay (look start) i j ms) f f
unfolding holds
adds_start f grows none = record {
  more = [];
  groups = sym (append-nil _);
  onward = omega arith;
  grows = grows;
  kept = λ k b h. (λ e. e, λ e. e);
  last = λ e. (e, refl);
  parses = λ hay j ms p. (p.1, λ k from to. absurd (omega (arith, from, to)), p.2, λ e. inl e);
  fits = λ hay here ends. (subst (λ i. Holds start hay i) (sym none) (grind arith), refl, refl);
}

-- the end of the haystack
pub adds_end : (old new : FixedWidth) → MayGrow old → new.allowed ≡ old.allowed → new.len ≡ old.len → new.ends ≡ true → new.groups ≡ old.groups
    → Adds (λ hay i j ms. Parse hay (look end) i j ms) old new
unfolding holds
adds_end old new grows masks len ends groups = record {
  more = [];
  groups = ap (λ gs. marks_of gs.items) groups ∙ sym (append-nil _);
  onward = omega (arith, len);
  grows = record {
    short = omega (arith, grows.short, len);
    clear = λ k b le e. grows.clear k b (omega (arith, le, len)) (subst (λ ms. MayStand ms k b) masks e);
  };
  kept = λ k b lt. subst (λ ms. MayStand ms k b ↔ MayStand old.allowed k b) (sym masks) (λ e. e, λ e. e);
  last = λ e. (ends, len);
  parses = λ hay j ms p. (p.1 ∙ sym len, λ k from to. absurd (omega (arith, from, to, len)), p.2, λ e. inr (at_end hay p.0));
  fits = λ hay here shut. (subst (λ i. Holds end hay i) len (subst (λ i. Holds end hay i) (sym (shut ends)) (is_end hay)), len, refl);
}
  where
    at_end : (hay : List ℕ) → Holds end hay old.len → new.len ≡ length hay
    at_end hay h = grind (arith, nat_tests)

    is_end : (hay : List ℕ) → Holds end hay (length hay)
    is_end hay = grind (arith, nat_tests)

-- ## The whole tree

-- what was added to nothing is all
pub is_whole : (t : Tree) (old new : FixedWidth) → BeginsAtStart t → old.len ≡ 0 → old.ends ≡ false → old.groups.items ≡ [] → Adds (λ hay i j ms. Parse hay t i j ms) old new → IsFixedWidth t new
is_whole t old new begins len ends groups a = record {
  short = a.grows.short;
  parses = λ hay i j ms parse.
      let from = begins hay i j (Parse-Matches hay t i j ms parse) in
      let x = a.parses hay j ms (subst (λ i. Parse hay t i j ms) (from ∙ sym len) parse) in
      (from, x.0, (subst (λ l. Fits new.allowed hay l new.len) len x.1, λ e. ⊎_elim (λ b. absurd (true≢false (sym b ∙ ends))) (λ here. here) (x.3 e)), x.2 ∙ sym marks);
  matches = λ hay here.
      subst (λ l. Matches hay t l new.len) len
      (Parse-Matches hay t old.len new.len a.more (a.fits hay (subst (λ l. Fits new.allowed hay l new.len) (sym len) here.0) here.1));
}
  where
    marks : marks_of new.groups.items ≡ a.more
    marks = a.groups ∙ ap (λ gs. marks_of gs ++ a.more) groups

-- where the haystack begins with the match, it is the first
pub first_there : (t : Tree) (f : FixedWidth) → IsFixedWidth t f → (hay : List ℕ) → IsHere f hay → IsFirstMatch true t hay 0 0 f.len
first_there t f is hay here = record {
  first = record { place = start_among hay 0 (omega arith); none_before = λ i among less. absurd (omega (arith, less)) };
  matches = is.matches hay here;
  chosen = λ asked. inl (λ l m. let p = Matches-Parse hay t 0 l m in (is.parses hay 0 l p.0 p.1).1);
}

-- elsewhere there is none
pub only_there : (t : Tree) (f : FixedWidth) → IsFixedWidth t f → (hay : List ℕ) (i j : ℕ) → Matches hay t i j → (i ≡ 0) × IsHere f hay
only_there t f is hay i j m = let p = Matches-Parse hay t i j m in let x = is.parses hay i j p.0 p.1 in (x.0, x.2)
