-- The ranges between the canonical ranges of a set.
use Rattle.std.proofs.Common.{◌≡◌, ◌≢◌, ℕ, zero, suc, ◌+◌, ◌-◌, ◌<◌, ◌≤◌, ◌⊎◌, true, not, ◌&&◌, List, [], ◌∷◌, ◌++◌, length, get_or, drop, append_assoc, subst, inl, inr, refl, sym, ap, ◌∙◌, arith, eq-eqb, ne_eqb, le-leb}
use Rattle.std.specs.Prelude.{nat_le, nat_lt, ◌==◌, if◌then◌else◌}
use Rattle.std.proofs.lemmas.Bool.{lt-leb, cases_lt, cases_eq, lt-ltb, le-ltb}
use Rattle.std.proofs.lemmas.List.{at_drop_more, at_drop_all, drop_more}
use Rattle.bites_spec.specs.Range.{Range, in_ranges}
use Rattle.bites_spec.specs.Class.{is_scalar, complement, following, AreCanonical, Lists}
use Rattle.bites_spec.proofs.classes.RangeLemmas.{Within, is_range, none_below, tail_is_canonical, scalar_within, within_scalar, following_within, after_following, in_first}
use Rattle.bites_spec.proofs.classes.ClassLemmas.{StartsFrom, none_before, starts_lower, starts_behind, put_before}
use Rattle.bites_syntax.proofs.Merging.{in_range-within, in_range-above}
use Rattle.bites_syntax.proofs.RangeLists.{starts_anywhere}

-- the scalar value before one, over the surrogates
abbrev pub preceding : ℕ → ℕ
preceding c = if c == 0xE000 then 0xD7FF else c - 1

-- from a number on, the ranges between these
abbrev pub gaps : ℕ → List Range → List Range
gaps low [] = if nat_le low 0x10_FFFF then (low, 0x10_FFFF) ∷ [] else []
gaps low (r ∷ ranges) =
    if nat_lt low r.0 then (low, preceding r.0) ∷ gaps (following r.1) ranges else gaps (following r.1) ranges

-- a scalar value, or the number after the last
abbrev pub IsStart : ℕ → Type 0
IsStart c = Within c ⊎ (c ≡ 0x11_0000)

start_behind : (c : ℕ) → Within c → IsStart (following c)
start_behind c w = elim (cases_eq c 0xD7FF) [
  | inl e ↦ rw (eq-eqb c 0xD7FF e) (inl (inr (omega arith, omega arith)))
  | inr n ↦ rw (ne_eqb c 0xD7FF n) (elim w [
    | inl low ↦ inl (inl (omega (arith, low, n)))
    | inr high ↦ elim (cases_lt c 0x10_FFFF) [
      | inl less ↦ inl (inr (omega (arith, high.0), omega (arith, less)))
      | inr last ↦ inr (omega (arith, high.1, last))
    ]
  ])
]

-- what stands before a scalar value that is not the first
record Precedes (p s : ℕ) : Type 0 where
  scalar : is_scalar p ≡ true
  next : following p ≡ s
  less : p < s
  most : (c : ℕ) → is_scalar c ≡ true → c < s → c ≤ p

precedes_within : (s : ℕ) → Within s → 0 < s → s ≢ 0xE000 → Within (s - 1)
precedes_within s (inl low) some n = inl (omega (arith, low))
precedes_within s (inr high) some n = inr (omega (arith, high.0, n), omega (arith, high.1))

no_surrogate : (s : ℕ) → Within s → 0 < s → s - 1 ≢ 0xD7FF
no_surrogate s (inl low) some = λ e. omega (arith, low, e, some)
no_surrogate s (inr high) some = λ e. omega (arith, high.0, e, some)

precedes_surrogates : (c : ℕ) → Within c → c < 0xE000 → c ≤ 0xD7FF
precedes_surrogates c (inl low) less = omega (arith, low)
precedes_surrogates c (inr high) less = absurd (omega (arith, high.0, less))

precedes : (s : ℕ) → is_scalar s ≡ true → 0 < s → Precedes (preceding s) s
precedes s scalar some = elim (cases_eq s 0xE000) [
  | inl e ↦ rw (eq-eqb s 0xE000 e) record {
    scalar = refl;
    next = sym e;
    less = omega (arith, e);
    most = λ c of_c less. precedes_surrogates c (scalar_within c of_c) (omega (arith, less, e));
  }
  | inr n ↦ rw (ne_eqb s 0xE000 n) record {
    scalar = within_scalar (s - 1) (precedes_within s (scalar_within s scalar) some n);
    next = rw (ne_eqb (s - 1) 0xD7FF (no_surrogate s (scalar_within s scalar) some)) (omega (arith, some));
    less = omega (arith, some);
    most = λ c of_c less. omega (arith, less);
  }
]

record Fills (low : ℕ) (ranges : List Range) (all : List Range) : Type 0 where
  canonical : AreCanonical all
  starts : StartsFrom low all
  same : (c : ℕ) → is_scalar c ≡ true → low ≤ c → in_ranges all c ≡ not (in_ranges ranges c)

start_within : (low s : ℕ) → IsStart low → Within s → low < s → Within low
start_within low s (inl w) ws less = w
start_within low s (inr e) (inl below) less = absurd (omega (arith, e, below, less))
start_within low s (inr e) (inr above) less = absurd (omega (arith, e, above.1, less))

below_last : (c : ℕ) → Within c → c ≤ 0x10_FFFF
below_last c (inl low) = omega (arith, low)
below_last c (inr high) = high.1

fills_rest : (low : ℕ) → IsStart low → Fills low [] (gaps low [])
fills_rest low (inl w) = rw (le-leb low 0x10_FFFF (below_last low w)) record {
  canonical = (within_scalar low w, refl, below_last low w);
  starts = omega arith;
  same = λ c scalar from. in_first (low, 0x10_FFFF) [] c from (below_last c (scalar_within c scalar));
}
fills_rest low (inr e) = rw (lt-leb low 0x10_FFFF (omega (arith, e))) record {
  canonical = tt;
  starts = tt;
  same = λ c scalar from. absurd (omega (arith, below_last c (scalar_within c scalar), from, e));
}

-- from a range on, the gaps after it
beyond_first : (r : Range) (ranges all : List Range) → AreCanonical (r ∷ ranges) → Fills (following r.1) ranges all →
    (c : ℕ) → is_scalar c ≡ true → r.0 ≤ c → in_ranges all c ≡ not (in_ranges (r ∷ ranges) c)
beyond_first r ranges all g f c scalar from = elim (cases_lt r.1 c) [
  | inr within ↦ rw (in_first r ranges c from within) (none_before (following r.1) c all f.canonical f.starts (omega (arith, within, after_following r.1)))
  | inl above ↦ (let next = following_within r.1 c (scalar_within r.1 (is_range r ranges g).1) (scalar_within c scalar) above in
      rw (in_range-above r c from above) (f.same c scalar next.1))
]

fills_gap : (low : ℕ) (r : Range) (ranges all : List Range) → IsStart low → low < r.0 → AreCanonical (r ∷ ranges) → Fills (following r.1) ranges all → Fills low (r ∷ ranges) ((low, preceding r.0) ∷ all)
fills_gap low r ranges all start less g f =
    let is = is_range r ranges g in
    let w = start_within low r.0 start (scalar_within r.0 is.0) less in
    let p = precedes r.0 is.0 (omega (arith, less)) in
    record {
      canonical = put_before (low, preceding r.0) (following r.1) all (within_scalar low w, p.scalar, p.most low (within_scalar low w) less)
          (rw p.next (omega (arith, is.2, after_following r.1))) f.canonical f.starts;
      starts = omega arith;
      same = λ c scalar from. elim (cases_lt c r.0) [
        | inl below ↦ rw (none_below r ranges g c below, in_range-within (low, preceding r.0) c from (p.most c scalar below)) refl
        | inr beyond ↦ rw (in_range-above (low, preceding r.0) c from (omega (arith, p.less, beyond))) (beyond_first r ranges all g f c scalar beyond)
      ];
    }

fills : (low : ℕ) (ranges : List Range) → IsStart low → AreCanonical ranges → StartsFrom low ranges → Fills low ranges (gaps low ranges)
fills low [] start g from = fills_rest low start
fills low (r ∷ ranges) start g from =
    let is = is_range r ranges g in
    let f = fills (following r.1) ranges (start_behind r.1 (scalar_within r.1 is.1)) (tail_is_canonical r ranges g) (starts_behind r ranges g) in
    elim (cases_lt low r.0) [
      | inl less ↦ rw (lt-ltb low r.0 less) (fills_gap low r ranges (gaps (following r.1) ranges) start less g f)
      | inr equal ↦ rw (le-ltb low r.0 equal) record {
        canonical = f.canonical;
        starts = starts_lower low (following r.1) (gaps (following r.1) ranges) (omega (arith, from, is.2, after_following r.1)) f.starts;
        same = λ c scalar above. beyond_first r ranges (gaps (following r.1) ranges) g f c scalar (omega (arith, equal, above));
      }
    ]

-- the gaps between the canonical ranges of a set list all other characters
pub lists_gaps : (ranges : List Range) → AreCanonical ranges → Lists (gaps 0 ranges) (complement (in_ranges ranges))
lists_gaps ranges g =
    let f = fills 0 ranges (inl (inl (omega arith))) g (starts_anywhere ranges) in
    record { canonical = f.canonical; same = λ c scalar. f.same c scalar (omega arith) ∙ sym (ap (λ b. b && not (in_ranges ranges c)) scalar) }

after_surrogates : (p s : ℕ) → Within p → p + 1 ≡ s → s ≢ 0xE000
after_surrogates p s (inl low) next = λ e. omega (arith, low, next, e)
after_surrogates p s (inr high) next = λ e. omega (arith, high.0, next, e)

precedes_once : (p s : ℕ) → is_scalar p ≡ true → following p ≡ s → p ≡ preceding s
precedes_once p s scalar e = elim (cases_eq p 0xD7FF) [
  | inl last ↦ (let next : 0xE000 ≡ s = rw (eq-eqb p 0xD7FF last) at e in rw (eq-eqb s 0xE000 (sym next)) last)
  | inr n ↦ (let next : p + 1 ≡ s = rw (ne_eqb p 0xD7FF n) at e in
      rw (ne_eqb s 0xE000 (after_surrogates p s (scalar_within p scalar) next)) (omega (arith, next)))
]

canonical-drop : (i : ℕ) (ranges : List Range) → AreCanonical ranges → AreCanonical (drop i ranges)
canonical-drop zero ranges g = g
canonical-drop (suc i) [] g = g
canonical-drop (suc i) (r ∷ ranges) g = canonical-drop i ranges (tail_is_canonical r ranges g)

-- a step of the walk over the ranges, where there is a gap before this one
pub gap_before : (done ranges : List Range) (i low p : ℕ) → i < length ranges → low < (get_or ranges i (0, 0)).0 →
    following p ≡ (get_or ranges i (0, 0)).0 → is_scalar p ≡ true → done ++ gaps low (drop i ranges) ≡ gaps 0 ranges →
    (done ++ (low, p) ∷ []) ++ gaps (following (get_or ranges i (0, 0)).1) (drop (i + 1) ranges) ≡ gaps 0 ranges
gap_before done ranges i low p within less next scalar so_far =
    let r : Range = get_or ranges i (0, 0) in
    let step : gaps low (drop i ranges) ≡ (low, p) ∷ gaps (following r.1) (drop (i + 1) ranges) =
    at_drop_more (gaps low) ranges i (0, 0) within ∙ (rw (lt-ltb low r.0 less, ← precedes_once p r.0 scalar next) refl) in
    append_assoc done ((low, p) ∷ []) (gaps (following r.1) (drop (i + 1) ranges)) ∙ ap (λ x. done ++ x) (sym step) ∙ so_far

-- a step where there is none
pub no_gap_before : (done ranges : List Range) (i low : ℕ) → i < length ranges → (get_or ranges i (0, 0)).0 ≤ low →
    done ++ gaps low (drop i ranges) ≡ gaps 0 ranges → done ++ gaps (following (get_or ranges i (0, 0)).1) (drop (i + 1) ranges) ≡ gaps 0 ranges
no_gap_before done ranges i low within no_less so_far =
    let r : Range = get_or ranges i (0, 0) in
    let step : gaps low (drop i ranges) ≡ gaps (following r.1) (drop (i + 1) ranges) =
    at_drop_more (gaps low) ranges i (0, 0) within ∙ (rw (le-ltb low r.0 no_less) refl) in
    ap (λ x. done ++ x) (sym step) ∙ so_far

behind_last : (r : Range) (ranges : List Range) → AreCanonical (r ∷ ranges) → r.1 ≡ 0x10_FFFF → gaps (following r.1) ranges ≡ []
behind_last r [] g last = rw last refl
behind_last r (s ∷ ranges) g last = absurd (omega (arith, g.1, last, after_following r.1, below_last s.0 (scalar_within s.0 (is_range s ranges g.2).0)))

-- after a range up to the last character there is no gap
pub none_behind : (ranges : List Range) (i : ℕ) → AreCanonical ranges → i < length ranges → (get_or ranges i (0, 0)).1 ≡ 0x10_FFFF →
    gaps (following (get_or ranges i (0, 0)).1) (drop (i + 1) ranges) ≡ []
none_behind ranges i g within last =
    behind_last (get_or ranges i (0, 0)) (drop (i + 1) ranges) (rw (drop_more ranges i (0, 0) within) at (canonical-drop i ranges g)) last

-- after the last range there is a gap up to the last character
pub gap_at_end : (done ranges : List Range) (i low : ℕ) → length ranges ≤ i → low ≤ 0x10_FFFF →
    done ++ gaps low (drop i ranges) ≡ gaps 0 ranges → done ++ (low, 0x10_FFFF) ∷ [] ≡ gaps 0 ranges
gap_at_end done ranges i low all within so_far =
    ap (λ x. done ++ x) (sym (at_drop_all (gaps low) ranges i all ∙ (rw (le-leb low 0x10_FFFF within) refl))) ∙ so_far

-- what equals the gaps lists all other characters
pub lists_others : (ranges others : List Range) → AreCanonical ranges → others ≡ gaps 0 ranges → Lists others (complement (in_ranges ranges))
lists_others ranges others g e = subst (λ x. Lists x (complement (in_ranges ranges))) (sym e) (lists_gaps ranges g)

-- below the last character there is one that follows
pub following_below : (c : ℕ) → c < 0x10_FFFF → following c ≤ 0x10_FFFF
following_below c less = elim (cases_eq c 0xD7FF) [
  | inl e ↦ rw (eq-eqb c 0xD7FF e) (omega arith)
  | inr n ↦ rw (ne_eqb c 0xD7FF n) (omega (arith, less))
]
