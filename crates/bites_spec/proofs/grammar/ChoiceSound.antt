-- Steps of the reader: if its result for what follows a step is as the relations read, so is its result before it.
use Rattle.std.proofs.Common.{◌≡◌, ℕ, zero, suc, ◌+◌, ◌≤◌, true, List, [], ◌∷◌, ◌++◌, refl, ap, ◌∙◌, arith, Ok, Err, Result, append_assoc}
use Rattle.bites_spec.specs.Message.{Message}
use Rattle.bites_spec.specs.Tree.{Tree, sequence_of, repetition_of}
use Rattle.bites_spec.specs.Pattern.{Text, Front, skip, bar, right_parenthesis}
use Rattle.bites_spec.specs.Operator.{ReadsOperator}
use Rattle.bites_spec.specs.OperatorFault.{greatest_number}
use Rattle.bites_spec.specs.Grammar as grammar
use Rattle.bites_spec.specs.Grammar.{ReadsAtom, ReadsItem, ReadsSequence, ReadsChoice}
use Rattle.bites_spec.specs.Measure.{open_in_choice, open_in_sequence, open_in_item, count_in_choice, count_in_sequence, count_in_item}
use Rattle.bites_spec.specs.Fault as fault
use Rattle.bites_spec.specs.Fault.{StuckSequence, StuckChoice}
use Rattle.bites_spec.specs.Reader.{Stop, ReadChoice, Bounds, repeat_last}
use Rattle.bites_spec.proofs.characters.ChoiceParts.{most_of}

-- from t to rest the branch goes on after these nodes, and other branches may follow; what they add is within the limits
pub data Adds (nest_limit depth : ℕ) (front behind : Front) (t rest : Text) (nodes added : List Tree) : Type 0 where
  last_branch : (all : List Tree) (s : ReadsSequence front t nodes all behind rest) → added ≡ sequence_of all ∷ [] →
      depth + open_in_sequence s ≤ nest_limit → count_in_sequence s ≤ greatest_number → Adds nest_limit depth front behind t rest nodes added
  more_branches : (all others : List Tree) (middle : Front) (more : Text) (s : ReadsSequence front t nodes all middle (bar ∷ more))
      (c : ReadsChoice middle more others behind rest) → added ≡ sequence_of all ∷ others →
      depth + open_in_sequence s ≤ nest_limit → count_in_sequence s ≤ greatest_number →
      depth + open_in_choice c ≤ nest_limit → count_in_choice c ≤ greatest_number → Adds nest_limit depth front behind t rest nodes added

-- the branch goes on after these nodes up to a fault, or it ends and a later branch has the fault
pub data Stops (nest_limit depth : ℕ) (front : Front) (t : Text) (nodes : List Tree) (m : Message) (place : Text) : Type 0 where
  in_branch : StuckSequence nest_limit depth front t nodes m place → Stops nest_limit depth front t nodes m place
  in_later_branch : (all : List Tree) (middle : Front) (more : Text) → ReadsSequence front t nodes all middle (bar ∷ more) →
      StuckChoice nest_limit depth middle more m place → Stops nest_limit depth front t nodes m place

-- a choice ends at the end, or in a group at its closing parenthesis
abbrev pub EndsChoice : ℕ → Text → Type 0
EndsChoice zero rest = rest ≡ []
EndsChoice (suc depth) rest = (more : Text) × (rest ≡ right_parenthesis ∷ more)

-- what the reader finds where the choice ends
pub record Finds (nest_limit depth : ℕ) (front : Front) (branches nodes : List Tree) (t : Text) (f : ReadChoice) : Type 0 where
  pub added : List Tree
  pub same : f.branches ≡ branches ++ added
  pub adds : Adds nest_limit depth front f.behind t f.rest nodes added
  pub groups : f.behind.groups ≤ greatest_number
  pub ends : EndsChoice depth f.rest

-- what a result of the reader claims of the relations
abbrev pub Says : ℕ → ℕ → Front → List Tree → List Tree → Text → Result ReadChoice Stop → Type 0
Says nest_limit depth front branches nodes t (Ok f) = Finds nest_limit depth front branches nodes t f
Says nest_limit depth front branches nodes t (Err e) = Stops nest_limit depth front t nodes e.message e.place

-- a choice within the limits
pub record Choice (nest_limit depth : ℕ) (front behind : Front) (t rest : Text) (branches : List Tree) : Type 0 where
  pub reads : ReadsChoice front t branches behind rest
  pub opens : depth + open_in_choice reads ≤ nest_limit
  pub counts : count_in_choice reads ≤ greatest_number

-- what is added from the beginning of a branch is a choice
pub adds_choice : {nest_limit depth : ℕ} {front behind : Front} {t rest : Text} {added : List Tree} →
    Adds nest_limit depth front behind t rest [] added → Choice nest_limit depth front behind t rest added
adds_choice {front = front} {behind = behind} {t = t} {rest = rest} {added = added} (last_branch all s is opens counts) =
    record { reads = grammar.one front behind t rest all added s is; opens = opens; counts = counts }
adds_choice {front = front} {behind = behind} {t = t} {rest = rest} {added = added} (more_branches all others middle more s c is opens counts later_opens later_counts) =
    record {
      reads = grammar.several front middle behind t more rest all others added s c is;
      opens = omega (arith, opens, later_opens);
      counts = omega (arith, counts, later_counts);
    }

-- one item more before the rest
pub adds_item : {nest_limit depth : ℕ} {front middle behind : Front} {t next rest : Text} {nodes more added : List Tree}
    (i : ReadsItem front (skip front.flags t) nodes more middle next) → depth + open_in_item i ≤ nest_limit → count_in_item i ≤ greatest_number →
    Adds nest_limit depth middle behind next rest more added → Adds nest_limit depth front behind t rest nodes added
adds_item {depth = depth} {front = front} {middle = middle} {behind = behind} {t = t} {next = next} {rest = rest} {nodes = nodes} {more = more} i opens counts
    (last_branch all s is later_opens later_counts) =
    last_branch all (grammar.goes_on front middle behind t next rest nodes more all i s) is (omega (arith, opens, later_opens)) (omega (arith, counts, later_counts))
adds_item {depth = depth} {front = front} {middle = middle} {behind = behind} {t = t} {next = next} {rest = rest} {nodes = nodes} {more = more} i opens counts
    (more_branches all others last beyond s c is later_opens later_counts others_open others_count) =
    more_branches all others last beyond (grammar.goes_on front middle last t next (bar ∷ beyond) nodes more all i s) c is
    (omega (arith, opens, later_opens)) (omega (arith, counts, later_counts)) others_open others_count

stops_item : {nest_limit depth : ℕ} {front middle : Front} {t next place : Text} {nodes more : List Tree} {m : Message} →
    ReadsItem front (skip front.flags t) nodes more middle next → Stops nest_limit depth middle next more m place → Stops nest_limit depth front t nodes m place
stops_item {depth = depth} {front = front} {middle = middle} {t = t} {next = next} {place = place} {nodes = nodes} {more = more} {m = m} i (in_branch s) =
    in_branch (fault.later depth front middle t next place nodes more m i s)
stops_item {front = front} {middle = middle} {t = t} {next = next} {nodes = nodes} {more = more} i (in_later_branch all last beyond s c) =
    in_later_branch all last beyond (grammar.goes_on front middle last t next (bar ∷ beyond) nodes more all i s) c

-- what a result after an item claims, the result before the item claims
pub says_item : (nest_limit depth : ℕ) (front middle : Front) (t next : Text) (branches nodes more : List Tree) (a : Result ReadChoice Stop)
    (i : ReadsItem front (skip front.flags t) nodes more middle next) → depth + open_in_item i ≤ nest_limit → count_in_item i ≤ greatest_number →
    Says nest_limit depth middle branches more next a → Says nest_limit depth front branches nodes t a
says_item nest_limit depth front middle t next branches nodes more (Ok f) i opens counts found =
    record { added = found.added; same = found.same; adds = adds_item i opens counts found.adds; groups = found.groups; ends = found.ends }
says_item nest_limit depth front middle t next branches nodes more (Err e) i opens counts stops = stops_item i stops

-- the gap leads to the end of the branch
pub ends_branch : {front : Front} {t rest : Text} (nodes : List Tree) → rest ≡ skip front.flags t → grammar.ends_sequence rest ≡ true →
    ReadsSequence front t nodes nodes front rest
ends_branch {front = front} {t = t} {rest = rest} nodes at ends = grammar.ends front front t rest nodes nodes at ends refl refl

-- a fault after a bar is a fault before it
stops_bar : {nest_limit depth : ℕ} {front : Front} {t more place : Text} (nodes : List Tree) {m : Message} → bar ∷ more ≡ skip front.flags t →
    Stops nest_limit depth front more [] m place → Stops nest_limit depth front t nodes m place
stops_bar {depth = depth} {front = front} {more = more} {place = place} nodes {m = m} at (in_branch s) =
    in_later_branch nodes front more (ends_branch nodes at refl) (fault.in_first depth front more place m s)
stops_bar {depth = depth} {front = front} {more = more} {place = place} nodes {m = m} at (in_later_branch all last beyond s c) =
    in_later_branch nodes front more (ends_branch nodes at refl) (fault.in_later depth front last more beyond place all m s c)

-- what a result after a bar claims, the result before the bar claims
pub says_bar : (nest_limit depth : ℕ) (front : Front) (t more : Text) (branches nodes : List Tree) (a : Result ReadChoice Stop) →
    bar ∷ more ≡ skip front.flags t → depth ≤ nest_limit → Says nest_limit depth front (branches ++ sequence_of nodes ∷ []) [] more a →
    Says nest_limit depth front branches nodes t a
says_bar nest_limit depth front t more branches nodes (Ok f) at room found =
    let c = adds_choice found.adds in
    record {
      added = sequence_of nodes ∷ found.added;
      same = found.same ∙ append_assoc branches (sequence_of nodes ∷ []) found.added;
      adds = more_branches nodes found.added front more (grammar.ends front front t (bar ∷ more) nodes nodes at refl refl refl) c.reads refl
          (omega arith) (omega arith) c.opens c.counts;
      groups = found.groups;
      ends = found.ends;
    }
says_bar nest_limit depth front t more branches nodes (Err e) at room stops = stops_bar nodes at stops

-- where the choice ends, nothing is added but the branch
pub says_end : {nest_limit depth : ℕ} {front : Front} {t rest : Text} {branches nodes : List Tree} → rest ≡ skip front.flags t →
    grammar.ends_sequence rest ≡ true → EndsChoice depth rest → depth ≤ nest_limit → front.groups ≤ greatest_number →
    Finds nest_limit depth front branches nodes t (record { branches = branches ++ sequence_of nodes ∷ []; behind = front; rest = rest })
says_end {front = front} {t = t} {rest = rest} {nodes = nodes} at ends closes room groups = record {
  added = sequence_of nodes ∷ [];
  same = refl;
  adds = last_branch nodes (grammar.ends front front t rest nodes nodes at ends refl refl) refl (omega arith) (omega arith);
  groups = groups;
  ends = closes;
}

-- one atom before the rest
pub says_atom : (nest_limit depth : ℕ) (front : Front) (t rest : Text) (branches nodes : List Tree) (node : Tree) (a : Result ReadChoice Stop) →
    ReadsAtom front.flags (skip front.flags t) node rest → depth ≤ nest_limit → Says nest_limit depth front branches (nodes ++ node ∷ []) rest a →
    Says nest_limit depth front branches nodes t a
says_atom nest_limit depth front t rest branches nodes node a r room says =
    says_item nest_limit depth front front t rest branches nodes (nodes ++ node ∷ []) a
    (grammar.atom front front (skip front.flags t) rest nodes (nodes ++ node ∷ []) node r refl refl) (omega arith) (omega arith) says

-- the last of the nodes, the nodes before it, and the last repeated
pub record LastRepeated (b : Bounds) (node : Tree) (nodes : List Tree) : Type 0 where
  pub before : List Tree
  pub last : Tree
  pub is : node ∷ nodes ≡ before ++ last ∷ []
  pub repeated : repeat_last b node nodes ≡ before ++ repetition_of b.0 b.1 b.2 last ∷ []

pub last_repeated : (b : Bounds) (node : Tree) (nodes : List Tree) → LastRepeated b node nodes
last_repeated b node [] = record { before = []; last = node; is = refl; repeated = refl }
last_repeated b node (other ∷ nodes) =
    let r = last_repeated b other nodes in
    record { before = node ∷ r.before; last = r.last; is = ap (λ l. node ∷ l) r.is; repeated = ap (λ l. node ∷ l) r.repeated }

-- one operator before the rest
pub says_operator : (nest_limit depth : ℕ) (front : Front) (t rest : Text) (branches nodes : List Tree) (node : Tree) (b : Bounds) (a : Result ReadChoice Stop) →
    ReadsOperator front.flags (skip front.flags t) b.0 b.1 b.2 rest → most_of b.0 b.1 ≤ greatest_number → depth ≤ nest_limit →
    Says nest_limit depth front branches (repeat_last b node nodes) rest a → Says nest_limit depth front branches (node ∷ nodes) t a
says_operator nest_limit depth front t rest branches nodes node b a r small room says =
    let l = last_repeated b node nodes in
    says_item nest_limit depth front front t rest branches (node ∷ nodes) (repeat_last b node nodes) a
    (grammar.operator front front (skip front.flags t) rest (node ∷ nodes) (repeat_last b node nodes) l.before l.last b.0 b.1 b.2 r l.is l.repeated refl)
    (omega arith) small says
