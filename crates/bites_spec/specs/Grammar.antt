-- The grammar of patterns, as relations between the two ends of a span of the text.
use Rattle.std.specs.Prelude.{◌≡◌, ℕ, ◌+◌, ◌-◌, Bool, true, false, ◌&&◌, ◌||◌, ◌==◌, List, [], ◌∷◌, ◌++◌, codes, Option, option_map, encode_utf8_all, if◌then◌else◌}
use Rattle.bites_spec.specs.Look.{Look, start, end, start_lf, end_lf, start_crlf, end_crlf}
use Rattle.bites_spec.specs.Class as class
use Rattle.bites_spec.specs.Range.{Range}
use Rattle.bites_spec.specs.Class.{Set, single, complement, is_letter, is_lower, Lists}
use Rattle.bites_spec.specs.Tree.{Tree, char, sequence_of, alternation_of, repetition_of}
use Rattle.bites_spec.specs.Tree as tree
use Rattle.bites_spec.specs.Pattern.{Text, Flags, Front, skip, one_of, dot, caret, dollar, bar, question, left_parenthesis, right_parenthesis}
use Rattle.bites_spec.specs.Operator.{ReadsOperator}
use Rattle.bites_spec.specs.Escape.{character, characters, assertion, ReadsEscape}
use Rattle.bites_spec.specs.Bracket.{ReadsBracket}
use Rattle.bites_spec.specs.Group.{Opening, numbered, unnumbered, ReadsOpening, ReadsFlags, changed}

-- the characters that never stand for themselves
abbrev pub is_special : Set
is_special = one_of (codes ")|\\[(?*+{.^$")

-- the two cases of a letter, in order
abbrev pub two_cases : ℕ → List Range
two_cases c =
    let upper = if is_lower c then c - 32 else c in
    (upper, upper) ∷ (upper + 32, upper + 32) ∷ []

-- a character; under `i` a letter in both cases
abbrev pub literal_of : Flags → ℕ → Tree
literal_of flags c = if flags.case_insensitive && is_letter c then tree.class (two_cases c) else char c

-- what the dot stands for: every character under s, else none that ends a line
abbrev pub dot_set : Flags → Set
dot_set flags =
    complement (if flags.dot_matches_new_line then class.none else if flags.crlf then one_of (codes "\n\r") else single 10)

-- what a caret asserts
abbrev pub caret_look : Flags → Look
caret_look flags = if flags.multi_line then (if flags.crlf then start_crlf else start_lf) else start

-- what a dollar asserts
abbrev pub dollar_look : Flags → Look
dollar_look flags = if flags.multi_line then (if flags.crlf then end_crlf else end_lf) else end

-- `ReadsAtom flags t node rest`: from t up to rest stands an item that makes one node and is no group
pub data ReadsAtom (flags : Flags) : Text → Tree → Text → Type 0 where
  literal : (c : ℕ) (t rest : Text) (node : Tree) →
      t ≡ c ∷ rest → is_special c ≡ false → node ≡ literal_of flags c → ReadsAtom flags t node rest
  any : (t rest : Text) (node : Tree) (ranges : List Range) →
      t ≡ dot ∷ rest → Lists ranges (dot_set flags) → node ≡ tree.class ranges → ReadsAtom flags t node rest
  line_start : (t rest : Text) (node : Tree) → t ≡ caret ∷ rest → node ≡ tree.look (caret_look flags) → ReadsAtom flags t node rest
  line_end : (t rest : Text) (node : Tree) → t ≡ dollar ∷ rest → node ≡ tree.look (dollar_look flags) → ReadsAtom flags t node rest
  bracket : (t rest : Text) (node : Tree) (ranges : List Range) →
      ReadsBracket flags t ranges rest → node ≡ tree.class ranges → ReadsAtom flags t node rest
  escaped_character : (c : ℕ) (t rest : Text) (node : Tree) →
      ReadsEscape flags t (character c) rest → node ≡ literal_of flags c → ReadsAtom flags t node rest
  escaped_class : (set : Set) (t rest : Text) (node : Tree) (ranges : List Range) →
      ReadsEscape flags t (characters set) rest → Lists ranges set → node ≡ tree.class ranges → ReadsAtom flags t node rest
  escaped_assertion : (l : Look) (t rest : Text) (node : Tree) →
      ReadsEscape flags t (assertion l) rest → node ≡ tree.look l → ReadsAtom flags t node rest

-- the node of a group with these branches; `before` groups with a number were opened before it
abbrev pub group_of : Opening → ℕ → List Tree → Tree
group_of (numbered name) before branches = tree.group (before + 1) (option_map encode_utf8_all name) (alternation_of branches)
group_of unnumbered before branches = alternation_of branches

-- a sequence ends before the end, a bar or a closing parenthesis
abbrev pub ends_sequence : Text → Bool
ends_sequence [] = true
ends_sequence (c ∷ t) = (c == bar) || (c == right_parenthesis)

mutual
  -- `ReadsChoice front t branches behind rest`: from t up to rest stand sequences with these trees, separated by bars
  pub data ReadsChoice : Front → Text → List Tree → Front → Text → Type 0 where
    one : (front behind : Front) (t rest : Text) (nodes branches : List Tree) →
        ReadsSequence front t [] nodes behind rest → branches ≡ sequence_of nodes ∷ [] → ReadsChoice front t branches behind rest
    several : (front middle behind : Front) (t more rest : Text) (nodes others branches : List Tree) →
        ReadsSequence front t [] nodes middle (bar ∷ more) → ReadsChoice middle more others behind rest →
        branches ≡ sequence_of nodes ∷ others → ReadsChoice front t branches behind rest

  -- `ReadsSequence front t nodes all behind rest`: items, each after a gap, and a last gap; they turn the nodes so far into all
  pub data ReadsSequence : Front → Text → List Tree → List Tree → Front → Text → Type 0 where
    ends : (front behind : Front) (t rest : Text) (nodes all : List Tree) →
        rest ≡ skip front.flags t → ends_sequence rest ≡ true → all ≡ nodes → behind ≡ front →
        ReadsSequence front t nodes all behind rest
    goes_on : (front middle behind : Front) (t next rest : Text) (nodes more all : List Tree) →
        ReadsItem front (skip front.flags t) nodes more middle next → ReadsSequence middle next more all behind rest →
        ReadsSequence front t nodes all behind rest

  -- `ReadsItem front t nodes all behind rest`: from t up to rest stands an item, which turns the nodes so far into all
  pub data ReadsItem : Front → Text → List Tree → List Tree → Front → Text → Type 0 where
    atom : (front behind : Front) (t rest : Text) (nodes all : List Tree) (node : Tree) →
        ReadsAtom front.flags t node rest → all ≡ nodes ++ node ∷ [] → behind ≡ front → ReadsItem front t nodes all behind rest
    operator : (front behind : Front) (t rest : Text) (nodes all before : List Tree) (last : Tree) (min : ℕ) (max : Option ℕ) (greedy : Bool) →
        ReadsOperator front.flags t min max greedy rest → nodes ≡ before ++ last ∷ [] → all ≡ before ++ repetition_of min max greedy last ∷ [] →
        behind ≡ front → ReadsItem front t nodes all behind rest
    directive : (front behind : Front) (t next marks run rest : Text) (c : ℕ) (letters : Text) (nodes all : List Tree) →
        t ≡ left_parenthesis ∷ next → skip front.flags next ≡ question ∷ marks → ReadsFlags marks run (right_parenthesis ∷ rest) →
        run ≡ c ∷ letters → all ≡ nodes → behind ≡ record front { flags = changed true run front.flags } →
        ReadsItem front t nodes all behind rest
    group : (front inner middle behind : Front) (t inside rest : Text) (nodes all branches : List Tree) (opening : Opening) →
        ReadsOpening front t opening inner inside → ReadsChoice inner inside branches middle (right_parenthesis ∷ rest) →
        all ≡ nodes ++ group_of opening front.groups branches ∷ [] → behind ≡ record middle { flags = front.flags } →
        ReadsItem front t nodes all behind rest

-- before the first character
abbrev pub at_front : Flags → Front
at_front flags = record { flags = flags; groups = 0; names = [] }

-- the whole pattern is one choice with this tree
pub record Reading (pattern : Text) (flags : Flags) (t : Tree) : Type 0 where
  pub branches : List Tree
  pub behind : Front
  pub reads : ReadsChoice (at_front flags) pattern branches behind []
  pub is_choice : t ≡ alternation_of branches

-- the pattern is read as this tree
abbrev pub Reads : Text → Flags → Tree → Type 0
Reads = Reading
