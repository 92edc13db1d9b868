-- Laws of what a search of a tree finds, each proved.
use Rattle.std.specs.Prelude.{◌≡◌, ℕ, ◌≤◌, Bool, List, length, Option, Some, option_map, is_some, IsSome}
use Rattle.bites_spec.specs.Utf8.{places, AreStarts}
use Rattle.bites_spec.specs.Walks.{Among, AllApart}
use Rattle.bites_spec.specs.Tree.{Tree}
use Rattle.bites_spec.specs.Measure.{static_captures_len}
use Rattle.bites_spec.specs.Match.{Span, span}
use Rattle.bites_spec.specs.Spans.{LiesFrom}
use Rattle.bites_spec.specs.Built.{IsCompilable}
use Rattle.bites_spec.specs.Found.{Answer, FoundSome, Finds, IsLeastEnd}

-- what is found lies in the haystack, from the start of the search on, and each group within the match
abbrev pub FoundLies : Type 0
FoundLies =
    (t : Tree) (hay : List ℕ) (s : ℕ) (starts : List ℕ) → AreStarts hay s starts → (a : Answer) → FoundSome t hay starts (Some a) →
    LiesFrom (length hay) s (span a.start a.end)
    × ((k : ℕ) (g : Span) → a.group k ≡ Some g → LiesFrom a.end a.start g)

-- what is found from one of the first places is what a search that may begin at all of them finds
abbrev pub StartsFind : Type 0
StartsFind =
    (t : Tree) (hay : List ℕ) (s : ℕ) (starts : List ℕ) → AreStarts hay s starts → (longest : Bool) (a : Answer) →
    Finds longest t hay starts (Some a) → Finds longest t hay (places hay s) (Some a)

-- of two answers from the same starts one is there exactly if the other is, and they begin at the same place
abbrev pub AnswersBeginAlike : Type 0
AnswersBeginAlike =
    (t : Tree) (hay starts : List ℕ) (o p : Option Answer) → FoundSome t hay starts o → FoundSome t hay starts p →
    option_map (λ a. a.start) o ≡ option_map (λ a. a.start) p

-- there is a least end exactly if something is found, and it is at most the end of what is found
abbrev pub LeastEndIsAtMost : Type 0
LeastEndIsAtMost =
    (t : Tree) (hay starts : List ℕ) (o : Option Answer) (e : Option ℕ) → FoundSome t hay starts o → IsLeastEnd t hay starts e →
    (is_some e ≡ is_some o) × ((a : Answer) (j : ℕ) → o ≡ Some a → e ≡ Some j → j ≤ a.end)

-- at least n different groups participated
abbrev pub ParticipateAtLeast : ℕ → (ℕ → Option Span) → Type 0
ParticipateAtLeast n group =
    (ks : List ℕ) × (length ks ≡ n) × AllApart ks × ((k : ℕ) → Among ks k → IsSome (group k))

-- if the form says that at least n groups participate, group 0 counted, at least n do in each answer
abbrev pub StaticLenIsLeast : Type 0
StaticLenIsLeast =
    (t : Tree) → IsCompilable t → (n : ℕ) → static_captures_len t ≡ Some n →
    (hay starts : List ℕ) (a : Answer) → FoundSome t hay starts (Some a) → ParticipateAtLeast n a.group
