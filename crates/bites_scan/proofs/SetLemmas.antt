-- Several literals at the offsets of a haystack.
use Rattle.std.proofs.Common.{◌≡◌, ℕ, ◌+◌, ◌^◌, ◌<◌, ◌≤◌, List, length, get_or, sym, ◌∙◌, subst, arith, inl, inr}
use Rattle.std.proofs.lemmas.Bool.{cases_eq}
use Rattle.std.proofs.Math.Nat.{ℕ_set}
use Rattle.std.specs.Int.{bit_at}
use mathlib.Core.Logic.{∥∥₁_elim}
use Rattle.bites_scan.specs.Buckets.{Knows}
use Rattle.bites_scan.specs.declared.fingerprints.Fingerprints.{Fingerprints}
use Rattle.bites_scan.specs.declared.shortlist.Shortlist.{Shortlist}
use Rattle.bites_scan.specs.Known.{AreAsLong, AreKnown}
use Rattle.bites_scan.specs.Literal.{Needle, NeedleOccursAt}
use Rattle.bites_scan.specs.LiteralSet.{SomeOccursAt, StandsUpTo, AreCandidates}
use Rattle.bites_scan.specs.Offsets.{NoneOccurs, NoneFrom, Marks}
use Rattle.bites_scan.specs.Shortlist.{Lists}
use Rattle.bites_scan.proofs.OffsetLemmas.{bit_below}

-- one literal more is known
pub known_more : (literals : List Needle) (n : ℕ) (f g : Fingerprints) (s t : Shortlist) → AreKnown literals n f s
    → ((x : Needle) → Knows f x → Knows g x) → ((x : Needle) (k : ℕ) → Lists s x k → Lists t x k)
    → ((d : Needle) → Knows g (get_or literals n d) × Lists t (get_or literals n d) n) → AreKnown literals (n + 1) g t
known_more literals n f g s t known keeps_f keeps_s this k d lt =
    elim (cases_eq k n) [
      | inl e ↦ let P : ℕ → Type 0 = λ i. Knows g (get_or literals i d) × Lists t (get_or literals i d) i in subst P (sym e) (this d)
      | inr o ↦ let old = known k d (omega arith) in (keeps_f (get_or literals k d) old.0, keeps_s (get_or literals k d) k old.1)
    ]

module _ (literals : List Needle) (haystack : List ℕ) where
  -- one that stands up to an offset occurs
  pub some_stands : (start end : ℕ) → StandsUpTo literals haystack start end → SomeOccursAt literals haystack start
  some_stands start end (len, (k, n, lt, is, (o, e)), at) = (k, n, lt, is, o)

  -- no literal occurs, one after another
  pub none_of_all : (at : ℕ) → ((k : ℕ) (n : Needle) → k < length literals → NeedleOccursAt haystack at (get_or literals k n) → ⊥) → SomeOccursAt literals haystack at → ⊥
  none_of_all at none o = none o.0 o.1 o.2 (subst (NeedleOccursAt haystack at) (sym o.3) o.4)

  -- no literal occurs where the shortest one has no room
  pub none_behind : (least : ℕ) → AreAsLong literals (length literals) least → (from end : ℕ) → length haystack < end + least → NoneOccurs (SomeOccursAt literals haystack) from end → NoneFrom (SomeOccursAt literals haystack) from
  none_behind least long from end past none at a o =
      let here : least ≤ length o.1.bytes = subst (λ (n : Needle). least ≤ length n.bytes) o.3 (long o.0 o.1 o.2) in
      none at a (omega (arith, o.4.room)) o

  -- ---- one bit of a number cleared

  module _ (m n bit : ℕ) (small : m < 2 ^ 64) (kept : (k : ℕ) → k < 64 → (k ≡ bit → ⊥) → bit_at n k ≡ bit_at m k) where
    -- that of a literal that does not occur here
    pub still_candidates : (at : ℕ) → ((d : Needle) → bit < length literals → NeedleOccursAt haystack at (get_or literals bit d) → ⊥) → AreCandidates literals haystack at m → AreCandidates literals haystack at n
    still_candidates at fails candidates k d lt o =
        elim (cases_eq k bit) [
          | inl e ↦ absurd (let P : ℕ → Type 0 = λ i. (i < length literals) × NeedleOccursAt haystack at (get_or literals i d) in let here = subst P e (lt, o) in fails d here.0 here.1)
          | inr other ↦ kept k (bit_below 64 m k small (candidates k d lt o)) other ∙ candidates k d lt o
        ]

  -- ---- what a set keeps

  module _ (items : List Needle) (same : items ≡ literals) (f : Fingerprints) (s : Shortlist) (known : ∥ AreKnown items (length items) f s ∥₁) where
    pub marks_of : (at width mask : ℕ) → ((k : ℕ) → bit_at mask k ≡ 1 → k < width)
        → ((n : Needle) → Knows f n → (k : ℕ) → k < width → NeedleOccursAt haystack (at + k) n → bit_at mask k ≡ 1) → Marks (SomeOccursAt literals haystack) at at (at + width) mask
    marks_of at width mask within covers = record {
      behind = omega arith;
      within = λ k set. (omega arith, omega (arith, within k set));
      covers = λ k _ lt o.
          let P : List Needle → Type 0 = λ l. SomeOccursAt l haystack (at + k) in
          let here = subst P (sym same) o in
          ∥∥₁_elim known (hlevel ℕ_set) (λ all. covers (get_or items here.0 here.1) (all here.0 here.1 here.2).0 k (omega arith) (subst (NeedleOccursAt haystack (at + k)) (sym here.3) here.4));
    }

    pub candidates_of : (at candidates : ℕ) → ((n : Needle) (k : ℕ) → Lists s n k → NeedleOccursAt haystack at n → bit_at candidates k ≡ 1) → AreCandidates literals haystack at candidates
    candidates_of at candidates listed k n lt o =
        let P : List Needle → Type 0 = λ l. (k < length l) × NeedleOccursAt haystack at (get_or l k n) in
        let here = subst P (sym same) (lt, o) in
        ∥∥₁_elim known (hlevel ℕ_set) (λ all. listed (get_or items k n) k (all k n here.0).1 here.1)
