-- The groups of a match, and those that an iterator over them has left.
use Rattle.std.specs.Prelude.{◌≡◌, ℕ, ◌-◌, ◌/◌, List, map, take, drop, length, Option, Some, option_map}
use Rattle.std.specs.List.{range_with_len}
use Rattle.bites_spec.specs.Slots.{group_in, participating}
use Rattle.bites_spec.specs.Pieces.{text_at}
use Rattle.bites_spec.specs.Captured.{Captured, Excerpt, AreGroups, excerpt}
use Rattle.bites_bytes.specs.Matched.{excerpt_of}
use Rattle.bites_bytes.specs.declared.bytes.matched.Match.{Match}
use Rattle.bites_bytes.specs.declared.bytes.groups.SubCaptureMatches.{SubCaptureMatches}

-- how many groups there are, group 0 counted; they are those of a match
pub record IsCountOfGroups (c : Captured) (n : ℕ) : Type 0 where
  pub groups : n ≡ length c.regex.names
  pub slots : n ≡ length c.slots / 2
  pub are : AreGroups c.regex c.haystack c.slots

-- the text of the match, and those of the first n groups after group 0 that participate
pub record AreParts (c : Captured) (n : ℕ) (text : List ℕ) (texts : List (List ℕ)) : Type 0 where
  pub whole : Some text ≡ option_map (text_at c.haystack) (group_in c.slots 0)
  pub parts : texts ≡ map (text_at c.haystack) (take n (drop 1 (participating c.slots)))

-- the match of a group, if it participates
abbrev pub excerpt_if : Option Match → Option Excerpt
excerpt_if = option_map excerpt_of

-- the groups from number k on, each if it participates
abbrev pub groups_from : Captured → ℕ → List (Option Excerpt)
groups_from c k = map (λ i. option_map (excerpt c.haystack) (group_in c.slots i)) (range_with_len k (length c.regex.names - k))

-- all groups, each if it participates
abbrev pub groups_of : Captured → List (Option Excerpt)
groups_of c = groups_from c 0

-- the groups that are still to come
abbrev pub sub_captures_left : SubCaptureMatches → List (Option Excerpt)
sub_captures_left s = groups_from s.captures.now s.next
