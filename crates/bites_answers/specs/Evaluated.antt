-- What the definitions give for a pattern and a haystack, as values that compute.
use Rattle.std.specs.Prelude.{◌≡◌, ℕ, zero, suc, Bool, true, false, List, [], ◌∷◌, length, map, take, chars, Option, Some, None, option_map, unwrap_or, is_some, Result, Ok, Err, if◌then◌else◌, nat_lt, nat_le}
use Rattle.std.specs.List.{range_with_len}
use Rattle.bites_spec.specs.Range.{Range}
use Rattle.bites_spec.specs.Class.{Set}
use Rattle.bites_spec.specs.Message.{message_text, too_much_nesting}
use Rattle.bites_spec.specs.Pattern.{Flags}
use Rattle.bites_spec.specs.Group.{changed}
use Rattle.bites_spec.specs.Grammar.{at_front}
use Rattle.bites_spec.specs.Settings.{no_flags}
use Rattle.bites_spec.specs.Escaped.{escaped}
use Rattle.bites_spec.specs.Reader.{Stop, read, inner}
use Rattle.bites_spec.specs.Tree.{Tree, greatest, is_plain, IsPlain, IsReduced}
use Rattle.bites_spec.specs.Measure.{height, groups_left, opened_by, static_captures_len, size_with}
use Rattle.bites_spec.specs.Match.{Span, span, groups}
use Rattle.bites_spec.specs.Preference.{ParseTo, parses}
use Rattle.bites_spec.specs.Found.{head_of, first_ending, IsLeastEnd}
use Rattle.bites_spec.specs.Utf8.{places}
use Rattle.bites_spec.specs.Program.{targets}
use Rattle.bites_spec.specs.Walks.{first_among}
use Rattle.bites_spec.specs.Slots.{group_in, participating}
use Rattle.bites_spec.specs.Spans.{successive}
use Rattle.bites_spec.specs.Pieces.{gaps, gaps_up_to, text_at, limited, replaced}
use Rattle.bites_spec.specs.Regex.{Regex, run_at, slots_at}
use Rattle.bites_spec.specs.Captured.{Captured}
use Rattle.bites_spec.specs.Iteration.{spans_in, captures_in, captured_by}
use Rattle.bites_spec.specs.Replacer.{expanded}
use Rattle.bites_machine.specs.Compiled.{program_of_tree}

-- ## The ranges of a set

-- characters in a row, by the first and the last
abbrev pub Stretch : Type 0
Stretch = ℕ × ℕ

-- the ranges of a set that has all or none of each stretch; one may have begun before, and goes on up to `last` at least
abbrev pub ranges_by : Set → List Stretch → Option ℕ → ℕ → List Range
ranges_by set [] None last = []
ranges_by set [] (Some first) last = (first, last) ∷ []
ranges_by set (s ∷ stretches) None last =
    if set s.0 then ranges_by set stretches (Some s.0) s.1 else ranges_by set stretches None s.1
ranges_by set (s ∷ stretches) (Some first) last =
    if set s.0 then ranges_by set stretches (Some first) s.1 else (first, last) ∷ ranges_by set stretches None s.1

-- the n characters from c on, each a stretch of its own, before others
abbrev pub each_alone : ℕ → ℕ → List Stretch → List Stretch
each_alone zero c stretches = stretches
each_alone (suc n) c stretches = (c, c) ∷ each_alone n (suc c) stretches

-- ## What is asked

-- a pattern, its flags, the nesting limit, whether dropped groups are kept, whether matches are the longest, and the characters
-- past ASCII, parted where a set of the pattern may begin or end
pub record Question : Type 0 where
  pub pattern : List ℕ
  pub flags : Flags
  pub nest_limit : ℕ
  pub keep_dropped_groups : Bool
  pub leftmost_longest : Bool
  pub stretches : List Stretch

-- a pattern under flags, by their letters; it names no character past ASCII
abbrev pub ask : List ℕ → List ℕ → Question
ask pattern letters = record {
  pattern = pattern;
  flags = changed true letters no_flags;
  nest_limit = 50;
  keep_dropped_groups = false;
  leftmost_longest = false;
  stretches = (0x80, 0xD7FF) ∷ (0xE000, 0x10FFFF) ∷ [];
}

-- with this nesting limit
abbrev pub nested : ℕ → Question → Question
nested limit q = record q { nest_limit = limit }

-- with dropped groups kept
abbrev pub keeping : Question → Question
keeping q = record q { keep_dropped_groups = true }

-- for the longest match
abbrev pub longest : Question → Question
longest q = record q { leftmost_longest = true }

-- with these stretches
abbrev pub parted : List Stretch → Question → Question
parted stretches q = record q { stretches = stretches }

-- ## What is read

module _ (q : Question) where
  -- the ranges of a set
  abbrev pub listed : Set → List Range
  listed set = ranges_by set (each_alone 128 0 q.stretches) None 0

  -- what the grammar's function returns
  abbrev pub reading : Result Tree Stop
  reading = read listed q.nest_limit (chars q.pattern) q.flags

  -- the groups that the pattern opens
  abbrev pub opened : List (Option (List ℕ))
  opened = elim (inner listed q.nest_limit (suc (length (chars q.pattern))) 0 (at_front q.flags) [] [] (chars q.pattern)) [ Ok f ↦ opened_by f.behind | Err e ↦ [] ]

  -- the groups of the program
  abbrev pub names_of : Tree → List (Option (List ℕ))
  names_of t = if q.keep_dropped_groups then opened else groups_left t

  -- the regex of the tree
  abbrev pub regex_of : Tree → Regex
  regex_of t = record {
    pattern = q.pattern;
    flags = q.flags;
    tree = t;
    program = program_of_tree (length (names_of t)) t;
    names = names_of t;
    static_captures_len = static_captures_len t;
    keep_dropped_groups = q.keep_dropped_groups;
    leftmost_longest = q.leftmost_longest;
    has_table = false;
    prefilter = false;
  }

  -- what is asked of the regex, if the pattern is read
  abbrev pub of_regex : {A : Type 0} → (Regex → A) → Option A
  of_regex f = elim reading [ Ok t ↦ Some (f (regex_of t)) | Err e ↦ None ]

  -- the message by which reading refuses the pattern
  abbrev pub refusal : Option (List ℕ)
  refusal = elim reading [
    | Ok t ↦ if nat_lt q.nest_limit (height t) then Some (message_text too_much_nesting) else None
    | Err e ↦ Some (message_text e.message)
  ]

-- ## What is found

-- the groups of a match, from group 0 on
abbrev pub Groups : Type 0
Groups = List (Option Span)

-- group 0
abbrev pub whole : Groups → Span
whole [] = span 0 0
whole (g ∷ gs) = unwrap_or g (span 0 0)

module _ (r : Regex) where
  -- the numbers of the groups
  abbrev pub numbers : List ℕ
  numbers = range_with_len 0 (length r.names)

  -- the groups that the slots hold
  abbrev pub groups_in : List (Option ℕ) → Groups
  groups_in slots = map (group_in slots) numbers

  -- the groups of a parse from i
  abbrev pub groups_of : ℕ → ParseTo → Groups
  groups_of i w = map (groups i w.end w.marks) numbers

  -- the first parse, or the first of those with the greatest end
  abbrev pub chosen : List ParseTo → Option ParseTo
  chosen ws = if r.leftmost_longest then first_ending (greatest (map (λ w. w.end) ws)) ws else head_of ws

module _ (r : Regex) (hay : List ℕ) where
  -- what a search from s returns, by the run of the program
  abbrev pub by_run : ℕ → Option Groups
  by_run s = option_map (groups_in r) (slots_at r hay (places hay s))

  -- by the parses at the first place that has one; if the tree isn't plain, by the run
  abbrev pub by_parses : ℕ → Option Groups
  by_parses s =
      if is_plain r.tree then first_among (λ i. option_map (groups_of r i) (chosen r (parses hay r.tree i))) (places hay s)
      else by_run s

  -- all matches, by runs
  abbrev pub all_by_runs : List Groups
  all_by_runs = map (λ c. groups_in r c.slots) (captures_in r hay)

  -- all matches, by parses
  abbrev pub all_by_parses : List Groups
  all_by_parses = successive whole hay by_parses

  -- the first text that the template stands for
  abbrev pub first_expansion : List ℕ → Option (List ℕ)
  first_expansion template = option_map (λ x. expanded (captured_by r hay x) template) (run_at r hay (places hay 0))

  -- the first n matches, all for 0, replaced by texts
  abbrev pub replaced_by : ℕ → (Captured → List ℕ) → List ℕ
  replaced_by n text = replaced hay n (spans_in r hay) (map text (limited n (captures_in r hay)))

  -- the match and the groups that participated, as many as the form of the pattern says
  abbrev pub extracted : Option (List (List ℕ))
  extracted = option_map (λ slots. map (text_at hay) (take (unwrap_or r.static_captures_len 0) (participating slots))) (slots_at r hay (places hay 0))

-- the lesser of two numbers, or the one that is there
abbrev pub lesser : Option ℕ → Option ℕ → Option ℕ
lesser None o = o
lesser (Some m) None = Some m
lesser (Some m) (Some n) = if nat_le m n then Some m else Some n

-- the least of what the elements of a list give
abbrev pub least : {A : Type 0} → (A → Option ℕ) → List A → Option ℕ
least f [] = None
least f (x ∷ xs) = lesser (f x) (least f xs)

-- the least end of a parse, from a place from s on
abbrev pub least_parse_end : Tree → List ℕ → ℕ → Option ℕ
least_parse_end t hay s = least (λ i. least (λ w. Some (w.end)) (parses hay t i)) (places hay s)

-- the least end of a plain tree's parses is that of its matches
abbrev pub LeastParseEndIsLeast : Type 0
LeastParseEndIsLeast = (t : Tree) (hay : List ℕ) (s : ℕ) → IsReduced t → IsPlain t → IsLeastEnd t hay (places hay s) (least_parse_end t hay s)

-- ## Answers

-- the pattern is refused with this text, or read
abbrev pub IsRefused : Question → Option (List ℕ) → Type 0
IsRefused q answer = refusal q ≡ answer

-- the pattern is read as this tree
abbrev pub IsRead : Question → Tree → Type 0
IsRead q t = reading q ≡ Ok t

-- the regex gives this
abbrev pub Gives : {A : Type 0} → Question → (Regex → A) → A → Type 0
Gives q f answer = of_regex q f ≡ Some answer

-- the regex gives this in two ways
abbrev pub GiveBoth : {A : Type 0} → Question → (f g : Regex → A) → A → Type 0
GiveBoth {A} q f g answer = of_regex q {A = A × A} (λ r. (f r, g r)) ≡ Some (answer, answer)

-- how many groups there are, how many participate at least, and their names
abbrev pub HasGroups : Question → ℕ → Option ℕ → List (Option (List ℕ)) → Type 0
HasGroups q len static names =
    of_regex q {A = ℕ × Option ℕ × List (Option (List ℕ))} (λ r. (length r.names, r.static_captures_len, r.names)) ≡ Some (len, static, names)

-- the numbers of states, slots and targets of its program
abbrev pub HasProgram : Question → (states slots edges : ℕ) → Type 0
HasProgram q states slots edges =
    of_regex q {A = ℕ × ℕ × ℕ} (λ r. (length r.program.states, r.program.slots, targets r.program)) ≡ Some (states, slots, edges)

-- the least size limit
abbrev pub HasSize : Question → ℕ → Type 0
HasSize q size = Gives q (λ r. size_with r.names r.tree) size

module _ (q : Question) (hay : List ℕ) where
  -- a search from s finds these groups
  abbrev pub FindsGroups : ℕ → Option Groups → Type 0
  FindsGroups s answer = GiveBoth q (λ r. by_run r hay s) (λ r. by_parses r hay s) answer

  -- a search from s finds a match
  abbrev pub FindsSpan : ℕ → Option Span → Type 0
  FindsSpan s answer = GiveBoth q (λ r. option_map whole (by_run r hay s)) (λ r. option_map whole (by_parses r hay s)) answer

  -- a search from s finds something
  abbrev pub IsFound : ℕ → Bool → Type 0
  IsFound s answer = GiveBoth q (λ r. is_some (by_run r hay s)) (λ r. is_some (by_parses r hay s)) answer

  -- the tree is plain, and this is the least end of a parse from a place from s on
  abbrev pub EndsSoonest : ℕ → Option ℕ → Type 0
  EndsSoonest s answer = of_regex q {A = Bool × Option ℕ} (λ r. (is_plain r.tree, least_parse_end r.tree hay s)) ≡ Some (true, answer)

  -- these are the groups of all matches
  abbrev pub FindsAllGroups : List Groups → Type 0
  FindsAllGroups answer = GiveBoth q (λ r. all_by_runs r hay) (λ r. all_by_parses r hay) answer

  -- these are all matches
  abbrev pub FindsAll : List Span → Type 0
  FindsAll answer = GiveBoth q (λ r. spans_in r hay) (λ r. map whole (all_by_parses r hay)) answer

  -- these are the pieces between all matches
  abbrev pub Splits : List Span → Type 0
  Splits answer = Gives q (λ r. gaps (length hay) (spans_in r hay)) answer

  -- these are at most n pieces
  abbrev pub SplitsUpTo : ℕ → List Span → Type 0
  SplitsUpTo n answer = Gives q (λ r. gaps_up_to n (length hay) (spans_in r hay)) answer

  -- the first n matches, all for 0, are replaced by what a template stands for
  abbrev pub Replaces : ℕ → List ℕ → List ℕ → Type 0
  Replaces n template answer = Gives q (λ r. replaced_by r hay n (λ c. expanded c template)) answer

  -- the first n matches, all for 0, are replaced by a text
  abbrev pub ReplacesBy : ℕ → List ℕ → List ℕ → Type 0
  ReplacesBy n text answer = Gives q (λ r. replaced_by r hay n (λ c. text)) answer

  -- what a template stands for at the first match
  abbrev pub Expands : List ℕ → Option (List ℕ) → Type 0
  Expands template answer = Gives q (λ r. first_expansion r hay template) answer

  -- the first match and its groups
  abbrev pub Extracts : Option (List (List ℕ)) → Type 0
  Extracts answer = Gives q (λ r. extracted r hay) answer

-- the pattern as a text with its special characters escaped
abbrev pub IsEscaped : List ℕ → List ℕ → Type 0
IsEscaped text answer = escaped (chars text) ≡ chars answer
