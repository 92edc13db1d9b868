-- Values for which a word of this crate is false, each proved: a weaker word, which holds of them, would not do.
use Rattle.std.specs.Prelude.{[], ◌∷◌, codes, Some, None}
use Rattle.bites_spec.specs.Utf8.{places}
use Rattle.bites_spec.specs.Tree.{Tree, char, group, sequence, alternation, trees_of}
use Rattle.bites_spec.specs.Match.{span}
use Rattle.bites_spec.specs.Settings.{by_default}
use Rattle.bites_text.specs.declared.error.Error.TheVariants.{UnclosedGroup, UnopenedGroup}
use Rattle.bites_bytes.specs.Settings.{Refuses}
use Rattle.bites_theorems.specs.Headline.{EndsAsPreferred, EndsLast, AreOfOneParse, AreOfPreferredParse, AreOfLongestParse}
use Rattle.bites_theorems.specs.Promises.{IsNoLater, LiesWithin, StandApart}

-- a group that begins before its match, ends after it, or ends before it begins
abbrev pub WithinRefuses : Type 0
WithinRefuses =
    (LiesWithin (span 1 3) (span 0 2) → ⊥) × (LiesWithin (span 1 3) (span 2 4) → ⊥) × (LiesWithin (span 1 3) (span 3 2) → ⊥)

-- an end that comes later, and one that is missing or there alone
abbrev pub NoLaterRefuses : Type 0
NoLaterRefuses = (IsNoLater (Some 2) (Some 1) → ⊥) × (IsNoLater None (Some 1) → ⊥) × (IsNoLater (Some 1) None → ⊥)

-- an empty span at the end of the one before, two that overlap, and one past the end
abbrev pub ApartRefuses : Type 0
ApartRefuses =
    (StandApart 2 (span 0 1 ∷ span 1 1 ∷ []) → ⊥) × (StandApart 3 (span 0 2 ∷ span 1 3 ∷ []) → ⊥) × (StandApart 1 (span 0 2 ∷ []) → ⊥)

-- `a|ab`
abbrev pub a_or_ab : Tree
a_or_ab = alternation (trees_of (char 97 ∷ sequence (trees_of (char 97 ∷ char 98 ∷ [])) ∷ []))

-- on `ab` the preferred end is 1, and the greatest 2
abbrev pub EndsRefuse : Type 0
EndsRefuse = (EndsAsPreferred a_or_ab (codes "ab") (span 0 2) → ⊥) × (EndsLast a_or_ab (codes "ab") (span 0 1) → ⊥)

-- `(a)|(b)`
abbrev pub a_or_b : Tree
a_or_b = alternation (trees_of (group 1 None (char 97) ∷ group 2 None (char 98) ∷ []))

-- on `ab` no parse has both groups, none begins at 1, and none leaves group 1 out
abbrev pub ParsesRefuse : Type 0
ParsesRefuse =
    (AreOfOneParse a_or_b (codes "ab") (places (codes "ab") 0) (Some 0 ∷ Some 1 ∷ Some 0 ∷ Some 1 ∷ Some 1 ∷ Some 2 ∷ []) → ⊥)
    × (AreOfOneParse a_or_b (codes "ab") (places (codes "ab") 0) (Some 1 ∷ Some 2 ∷ None ∷ None ∷ Some 1 ∷ Some 2 ∷ []) → ⊥)
    × (AreOfOneParse a_or_b (codes "ab") (places (codes "ab") 0) (Some 0 ∷ Some 1 ∷ None ∷ None ∷ None ∷ None ∷ []) → ⊥)

-- on `ab` the groups of `a|ab` are not those of the other parse
abbrev pub ChoiceRefuses : Type 0
ChoiceRefuses =
    (AreOfPreferredParse a_or_ab (codes "ab") (places (codes "ab") 0) (Some 0 ∷ Some 2 ∷ []) → ⊥)
    × (AreOfLongestParse a_or_ab (codes "ab") (places (codes "ab") 0) (Some 0 ∷ Some 1 ∷ []) → ⊥)

-- a pattern that is read is not refused, and an open group is not refused by another message
abbrev pub RefusalsRefuse : Type 0
RefusalsRefuse = (Refuses (by_default (codes "a")) UnclosedGroup → ⊥) × (Refuses (by_default (codes "(")) UnopenedGroup → ⊥)
