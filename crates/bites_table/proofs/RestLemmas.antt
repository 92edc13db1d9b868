-- Lists from which nothing is found any more.
use Rattle.bites_table.proofs.Library.{append_assoc, list_any, Bool, true, false, ◌≡◌, ℕ, suc, ◌+◌, ◌<◌, ◌≤◌, inl, inr, List, [], ◌∷◌, ◌++◌, length, Some, ap, ◌∙◌, ⊎_elim, arith, option_map, slice_get, slice_index_or, cases_lt, Among, Program, Among-left, or_cases}
use Rattle.bites_table.proofs.Words.{Classes, Table, IsTable, list_at, Outcome, Graph, table_of, AreAfter, LeadsQuietly, LeadsAmong, EndsQuietly, IsCalm, HasOutcome, AllWalkSo, Edge}
use Rattle.bites_table.specs.declared.kind.Kind as code
use Rattle.bites_table.proofs.StayLemmas.{seen-same, looks-same, get-left}

-- a list that leads quietly over each character, with the walk before a byte of each of these kinds
pub is-calm : (p : Program) (k : Classes) (tab : Table) → IsTable p k tab → (n end : ℕ) → ((ch : ℕ) → k.class_of (Some ch) < end) → ((c : ℕ) → c < end → LeadsQuietly tab n c) →
    (kinds after : List code.Kind) → ((c : ℕ) → c < end → (c < length after) × Among kinds (slice_index_or after c Edge)) → AreAfter p k after →
    (seen : List ℕ) (looks : ℕ) → AllWalkSo p (list_at tab n) kinds seen looks → EndsQuietly tab k n seen looks → IsCalm tab k n seen looks
is-calm p k tab is n end below quiet kinds after among are seen looks all ends = record { over = grind arith; seen_is = λ ch. (visits ch).0; looks_is = λ ch. (visits ch).1; ends = ends }
  where
    visits : (ch : ℕ) → let lead = quiet (k.class_of (Some ch)) (below ch) in (lead.transition.seen ≡ seen) × (lead.transition.looks ≡ looks)
    visits ch =
        let c = k.class_of (Some ch) in
        let lead = quiet c (below ch) in
        let own = among c (below ch) in
        let asserts = are (list_at tab n).kind c own.0 in
        (grind (arith, seen-same), grind (arith, looks-same))

pub among-any : {X : Type 0} (E : X → X → Bool) → ((a b : X) → E a b ≡ true → a ≡ b) → (xs : List X) (q : X) → list_any (λ y. E y q) xs ≡ true → Among xs q
among-any E same [] q is = absurd (let wrong : false ≡ true = is in cc)
among-any E same (x ∷ xs) q is = ⊎_elim (λ (e : E x q ≡ true). inl (same x q e)) (λ later. inr (among-any E same xs q later)) (or_cases (E x q) (list_any (λ y. E y q) xs) is)

-- the index of an item
index-of : {X : Type 0} (xs : List X) (x : X) → Among xs x → (i : ℕ) × (i < length xs) × (slice_get xs i ≡ Some x)
index-of [] x is = absurd is
index-of (z ∷ xs) x is =
    ⊎_elim (λ e. (0, omega arith, ap (λ y. Some y) e)) (λ later. let own = index-of xs x later in (suc own.0, let lt = own.1 in omega arith, own.2)) is

-- the list is calm, and leads over the classes before this one to these lists
pub record IsDone (tab : Table) (k : Classes) (end : ℕ) (seen : List ℕ) (looks : ℕ) (lists : List ℕ) (m : ℕ) : Type 0 where
  pub calm : IsCalm tab k m seen looks
  pub closed : (c : ℕ) → c < end → LeadsAmong tab lists m c

-- the first lists are so
abbrev pub AreDone : Table → Classes → ℕ → List ℕ → ℕ → List ℕ → ℕ → Type 0
AreDone tab k end seen looks lists i = (j m : ℕ) → j < i → slice_get lists j ≡ Some m → IsDone tab k end seen looks lists m

module _ (tab : Table) (k : Classes) (end : ℕ) (seen : List ℕ) (looks : ℕ) (lists : List ℕ) (i : ℕ) (done : AreDone tab k end seen looks lists i) where
  -- one more list
  pub done-next : i < length lists → (more new : List ℕ) → new ≡ lists ++ more → (m : ℕ) → slice_get lists i ≡ Some m → IsCalm tab k m seen looks →
      ((c : ℕ) → c < end → LeadsAmong tab new m c) → AreDone tab k end seen looks new (i + 1)
  done-next within more new e m at calm closed j q lt there =
      let before : slice_get lists j ≡ Some q = get-left lists more j q (omega arith) (rw e at there) in
      ⊎_elim (λ (less : j < i). let own = done j q less before in grind (arith, Among-left))
      (λ (le : i ≤ j). let same : j ≡ i = omega arith in let one : q ≡ m = cc in grind arith)
      (cases_lt j i)

  -- all lists
  pub all-done : length lists ≤ i → (m : ℕ) → Among lists m → IsDone tab k end seen looks lists m
  all-done le m is = let at = index-of lists m is in done at.0 m (let lt = at.1 in omega arith) at.2

-- an outcome leads to its next list
pub leads-one : (g : Graph) (n c : ℕ) (o : Outcome) → HasOutcome g n c o → (lists : List ℕ) → Among lists o.next → LeadsAmong (table_of g) lists n c
leads-one g n c o has lists is t known = grind (arith, option_map)

-- one more class
pub leads-next : (tab : Table) (n c : ℕ) (lists more new : List ℕ) → new ≡ lists ++ more → ((d : ℕ) → d < c → LeadsAmong tab lists n d) → LeadsAmong tab new n c →
    (d : ℕ) → d < c + 1 → LeadsAmong tab new n d
leads-next tab n c lists more new e before own d lt = grind (arith, Among-left, cases_lt)

-- what grows twice
pub grows-on : (old lists new a : List ℕ) → lists ≡ old ++ a → (b : List ℕ) → new ≡ lists ++ b → (more : List ℕ) × (new ≡ old ++ more)
grows-on old lists new a first b then = (a ++ b, then ∙ ap (λ l. l ++ b) first ∙ append_assoc old a b)
