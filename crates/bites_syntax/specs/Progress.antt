-- How far a pattern is read, beside the reader.
use Rattle.std.specs.Prelude.{◌≡◌, ◌==◌, ◌||◌, Bool, true, ◌<◌, ◌≤◌, ◌++◌, ◌∷◌, length, ℕ, suc, List, [], Result, Ok, Err, MatchResult}
use Rattle.bites_spec.specs.Group.{Opening}
use Rattle.bites_spec.specs.Pattern as pattern
use Rattle.bites_spec.specs.Pattern.{Text, left_parenthesis, right_parenthesis}
use Rattle.bites_spec.specs.RangesOf.{ranges_of}
use Rattle.bites_spec.specs.Reader.{ReadChoice, Stop, and_found, at_item, behind_group, inner}
use Rattle.bites_spec.specs.Tree.{Tree, alternation_of, sequence_of}
use Rattle.bites_syntax.specs.declared.refusal.Refusal.{Refusal}
use Rattle.bites_syntax.specs.declared.node.Node.{Node}
use Rattle.bites_syntax.specs.declared.parse.OpenGroup.{OpenGroup}
use Rattle.bites_syntax.specs.declared.parse.Parser.{Parser}
use Rattle.bites_syntax.specs.declared.parse.Branches.{Branches}
use Rattle.bites_syntax.specs.declared.parse.Step.{Step}
use Rattle.bites_syntax.specs.declared.parse.Step.TheVariants.{Item, Group, End}
use Rattle.bites_syntax.specs.FlagsView.{flags_of}
use Rattle.bites_syntax.specs.Nodes.{AreNodes, IsNumbered, IsNodeOf}
use Rattle.bites_syntax.specs.Openings.{IsStateOf}
use Rattle.bites_syntax.specs.Parts.{IsFaultOf}

-- the parser, with what it has parsed, is at this front of the reader, with these branches and nodes
pub record IsAt (limit : ℕ) (p : Parser) (parsed : Branches) (g : pattern.Front) (branches nodes : List Tree) : Type 0 where
  pub limit_is : p.limit ≡ limit
  pub state : IsStateOf p.state g
  pub branches_are : AreNodes limit parsed.complete.items branches
  pub nodes_are : AreNodes limit parsed.nodes.items nodes

-- the reader goes on from where the parser is
pub record GoesOn (limit depth n : ℕ) (p : Parser) (parsed : Branches) (a : Result ReadChoice Stop) : Type 0 where
  pub g : pattern.Front
  pub branches : List Tree
  pub nodes : List Tree
  pub is_at : IsAt limit p parsed g branches nodes
  pub same : a ≡ inner ranges_of limit n depth g branches nodes p.cursor

-- what an item of the parser is to the reader
abbrev pub ReadsItem : {A : Type 0} → ℕ → ℕ → ℕ → Result A Refusal → Parser → Branches → Result ReadChoice Stop → Type 0
ReadsItem limit depth n (Ok x) p parsed a = GoesOn limit depth n p parsed a
ReadsItem limit depth n (Err e) p parsed a = IsFaultOf e a

-- the reader goes on from where the parser is, after a gap, and this number of steps is enough for the text
pub record GoesOnWithItem (limit depth : ℕ) (p : Parser) (parsed : Branches) (a : Result ReadChoice Stop) : Type 0 where
  pub g : pattern.Front
  pub branches : List Tree
  pub nodes : List Tree
  pub steps : ℕ
  pub is_at : IsAt limit p parsed g branches nodes
  pub room : length p.cursor ≤ steps
  pub same : a ≡ at_item ranges_of limit (inner ranges_of limit steps) steps depth g branches nodes p.cursor

-- what a run of items of the parser is to the reader
abbrev pub ReadsItems : {A : Type 0} → ℕ → ℕ → Result A Refusal → Parser → Branches → Result ReadChoice Stop → Type 0
ReadsItems limit depth (Ok x) p parsed a = GoesOnWithItem limit depth p parsed a
ReadsItems limit depth (Err e) p parsed a = IsFaultOf e a

-- a run of items ends here
abbrev pub ends_items : Text → Bool
ends_items [] = true
ends_items (c ∷ t) = (c == left_parenthesis) || (c == right_parenthesis)

-- the reader goes on inside a group, and after it from this front, branches and nodes
pub record Enters (limit depth n : ℕ) (p : Parser) (group : OpenGroup) (g : pattern.Front) (branches nodes : List Tree) (a : Result ReadChoice Stop) : Type 0 where
  pub opening : Opening
  pub inside : pattern.Front
  pub limit_is : p.limit ≡ limit
  pub state : IsStateOf p.state inside
  pub outer : flags_of group.flags ≡ g.flags
  pub numbered : IsNumbered group.numbered opening g.groups
  pub same : a ≡ and_found (inner ranges_of limit n (suc depth) inside [] [] p.cursor) (behind_group ranges_of limit (inner ranges_of limit n) depth g branches nodes opening)

-- the reader has found these branches and the text after them; the nodes are the last branch
pub record EndsReading (limit : ℕ) (p : Parser) (parsed : Branches) (g : pattern.Front) (a : Result ReadChoice Stop) : Type 0 where
  pub branches : List Tree
  pub nodes : List Tree
  pub limit_is : p.limit ≡ limit
  pub state : IsStateOf p.state g
  pub branches_are : AreNodes limit parsed.complete.items branches
  pub nodes_are : AreNodes limit parsed.nodes.items nodes
  pub same : a ≡ Ok (record { branches = branches ++ sequence_of nodes ∷ []; behind = g; rest = p.cursor })

-- what one step of the parser is to the reader
abbrev pub Steps : ℕ → ℕ → ℕ → pattern.Front → List Tree → List Tree → Result Step Refusal → Parser → Branches → Result ReadChoice Stop → Type 0
Steps limit depth n g branches nodes (Ok Item) p parsed a = GoesOn limit depth n p parsed a
Steps limit depth n g branches nodes (Ok (Group group)) p parsed a =
    Enters limit depth n p group g branches nodes a × AreNodes limit parsed.complete.items branches × AreNodes limit parsed.nodes.items nodes
Steps limit depth n g branches nodes (Ok End) p parsed a = EndsReading limit p parsed g a
Steps limit depth n g branches nodes (Err e) p parsed a = IsFaultOf e a

-- a choice that the parser has read as the reader does
pub record ReadsAs (limit : ℕ) (p : Parser) (node : Node) (a : Result ReadChoice Stop) : Type 0 where
  pub found : ReadChoice
  pub same : a ≡ Ok found
  pub rest : found.rest ≡ p.cursor
  pub limit_is : p.limit ≡ limit
  pub state : IsStateOf p.state found.behind
  pub node_is : IsNodeOf limit node (alternation_of found.branches)

-- the reader reads the choice as well, or stops with the error
abbrev pub IsChoice : ℕ → Result Node Refusal → Parser → Result ReadChoice Stop → Type 0
IsChoice limit result p a = MatchResult result (λ node. ReadsAs limit p node a) (λ e. IsFaultOf e a)

-- a group is opened only below the limit, and only where one more open group can be counted
abbrev pub HasDepth : ℕ → ℕ → Result Step Refusal → Type 0
HasDepth limit depth (Ok Item) = Unit {0}
HasDepth limit depth (Ok (Group group)) = (depth < limit) × (depth < 4294967295)
HasDepth limit depth (Ok End) = ⊥
HasDepth limit depth (Err e) = Unit {0}

-- a step reads something, except where the choice ends or is refused
abbrev pub IsForward : ℕ → ℕ → Result Step Refusal → Text → Text → Type 0
IsForward limit depth (Ok Item) old new = length new < length old
IsForward limit depth (Ok (Group group)) old new = (length new < length old) × (depth < limit) × (depth < 4294967295)
IsForward limit depth (Ok End) old new = length new ≤ length old
IsForward limit depth (Err e) old new = length new ≤ length old
