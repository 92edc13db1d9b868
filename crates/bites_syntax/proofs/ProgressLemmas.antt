-- Steps of the parser, beside the reader.
use Rattle.std.proofs.Common.{◌≡◌, ◌≢◌, ◌||◌, ◌<◌, ◌≤◌, ◌+◌, ℕ, zero, suc, true, ◌==◌, List, [], ◌∷◌, ◌++◌, length, refl, sym, ap, subst, ◌∙◌, Some, Result, Ok, Err, inr, arith}
use Rattle.std.specs.Prelude.{MatchResult}
use Rattle.std.proofs.lemmas.Bool.{eqb-true, le-ltb, lt-ltb, ne_eqb}
use Rattle.bites_spec.specs.Group.{Opening}
use Rattle.bites_spec.specs.Message.{Message}
use Rattle.bites_spec.specs.Pattern as pattern
use Rattle.bites_spec.specs.Pattern.{Text, Flags, skip}
use Rattle.bites_spec.specs.RangesOf.{ranges_of}
use Rattle.bites_spec.specs.Reader.{ReadResult, Bounds, ReadChoice, Opened, Reader, Stop, and_found, and_then, at_item, at_opened, inner, at_operator, behind_group, counted, directive, group, opened, repeat_last}
use Rattle.bites_spec.specs.Tree.{Tree, sequence_of}
use Rattle.bites_syntax.specs.declared.refusal.Refusal.{Refusal}
use Rattle.bites_text.specs.declared.error.Error.TheVariants.{TooMuchNesting, UnclosedGroup, UnopenedGroup}
use Rattle.bites_syntax.specs.declared.node.Node.{Node}
use Rattle.bites_syntax.specs.declared.parse.OpenGroup.{OpenGroup}
use Rattle.bites_syntax.specs.declared.parse.Parser.{Parser}
use Rattle.bites_syntax.specs.declared.parse.Branches.{Branches}
use Rattle.bites_syntax.specs.declared.parse.Step.{Step}
use Rattle.bites_syntax.specs.declared.parse.Step.TheVariants.{Item, Group}
use Rattle.bites_syntax.specs.Nodes.{AreNodes}
use Rattle.bites_syntax.specs.Parts.{fault_at, fault_in, ForEnoughSteps}
use Rattle.bites_syntax.specs.Progress.{Enters, GoesOn, GoesOnWithItem, IsAt, ReadsItem, Steps, ends_items}
use Rattle.bites_syntax.specs.FlagsView.{flags_of}
use Rattle.bites_syntax.specs.Openings.{IsStateOf}

-- at least one node stands for at least one tree
pub record Some_of (ts : List Tree) : Type 0 where
  pub first : Tree
  pub more : List Tree
  pub are : ts ≡ first ∷ more

pub some_of : (limit : ℕ) (nodes : List Node) (ts : List Tree) → 0 < length nodes → AreNodes limit nodes ts → Some_of ts
some_of limit [] ts some are = absurd (omega arith)
some_of limit (n ∷ nodes) [] some are = absurd are
some_of limit (n ∷ nodes) (t ∷ ts) some are = record { first = t; more = ts; are = refl }

module _ (limit : ℕ) (go : Reader) (depth : ℕ) (g : pattern.Front) (bs : List Tree) where
  -- an operator after a node
  pub operator_goes : (ts more : List Tree) (t : Tree) (m : Message) (at rest : Text) (a : ReadResult Bounds) (b : Bounds) → ts ≡ t ∷ more → a ≡ Ok (b, rest) →
      at_operator ranges_of limit go depth g bs ts m at a ≡ go depth g bs (repeat_last b t more) rest
  operator_goes ts more t m at rest a b are reads = rw (are, reads) refl

  -- a fault of an operator after a node
  pub operator_fault : (ts more : List Tree) (t : Tree) (m : Message) (at : Text) (a : ReadResult Bounds) (e : Refusal) → ts ≡ t ∷ more → fault_in a ≡ Some e →
      fault_in (at_operator ranges_of limit go depth g bs ts m at a) ≡ Some e
  operator_fault ts more t m at (Ok x) e are fault = absurd (let wrong : fault_in (Ok x) ≡ Some e = fault in cc)
  operator_fault ts more t m at (Err s) e are fault = rw are fault

  pub directive_goes : (ts : List Tree) (t rest : Text) (x : Opened) (flags : Flags) → opened g t ≡ Ok (x, rest) → x ≡ directive flags →
      and_then (opened g t) (at_opened ranges_of limit go depth g bs ts) ≡ go depth (record g { flags = flags }) bs ts rest
  directive_goes ts t rest x flags reads is = rw (reads, is) refl

  pub group_enters : (ts : List Tree) (t rest : Text) (x : Opened) (opening : Opening) (inside : pattern.Front) → opened g t ≡ Ok (x, rest) → x ≡ group opening inside → depth < limit →
      and_then (opened g t) (at_opened ranges_of limit go depth g bs ts)
      ≡ and_found (go (suc depth) inside [] [] rest) (behind_group ranges_of limit go depth g bs ts opening)
  group_enters ts t rest x opening inside reads is room =
      let few = le-ltb limit (depth + 1) (omega arith) in rw (reads, is) (rw few refl)

  pub group_stops : (ts : List Tree) (t rest : Text) (x : Opened) (opening : Opening) (inside : pattern.Front) → opened g t ≡ Ok (x, rest) → x ≡ group opening inside → limit ≤ depth →
      fault_in (and_then (opened g t) (at_opened ranges_of limit go depth g bs ts)) ≡ Some (fault_at TooMuchNesting rest)
  group_stops ts t rest x opening inside reads is full =
      let many = lt-ltb limit (depth + 1) (omega arith) in rw (reads, is) (rw many refl)

-- the flags of the program are those of the reader
pub counted_at : (n : ℕ) (f g : Flags) (t u : Text) → f ≡ g → u ≡ skip f t → counted n g (skip g t) ≡ counted n f u
counted_at n f g t u same at = ap (λ x. counted n x (skip x t)) (sym same) ∙ ap (counted n f) (sym at)

pub opened_at : (f : Flags) (g : pattern.Front) (t u : Text) → f ≡ g.flags → u ≡ skip f t → opened g (skip g.flags t) ≡ opened g u
opened_at f g t u same at = ap (opened g) (ap (λ x. skip x t) (sym same) ∙ sym at)

-- whether a group is opened is what the reader says
pub enter_steps : (limit depth n : ℕ) (p : Parser) (parsed : Branches) (g : pattern.Front) (bs ts : List Tree) (opens : OpenGroup) (result : Result Step Refusal) (a : Result ReadChoice Stop) →
    MatchResult result (λ step. (step ≡ Group opens) × (depth < limit)) (λ e. (e ≡ fault_at TooMuchNesting p.cursor) × (limit ≤ depth)) → (depth < limit → Enters limit depth n p opens g bs ts a) →
    (limit ≤ depth → fault_in a ≡ Some (fault_at TooMuchNesting p.cursor)) → AreNodes limit parsed.complete.items bs → AreNodes limit parsed.nodes.items ts → Steps limit depth n g bs ts result p parsed a
enter_steps limit depth n p parsed g bs ts opens (Ok step) a is enters stops bs_are ts_are = rw is.0 (enters is.1, bs_are, ts_are)
enter_steps limit depth n p parsed g bs ts opens (Err e) a is enters stops bs_are ts_are = inr (rw is.0 (stops is.1))

-- an equal result
pub steps_at : (limit depth n : ℕ) (g : pattern.Front) (bs ts : List Tree) (result : Result Step Refusal) (p : Parser) (parsed : Branches) (a b : Result ReadChoice Stop) → a ≡ b →
    Steps limit depth n g bs ts result p parsed b → Steps limit depth n g bs ts result p parsed a
steps_at limit depth n g bs ts result p parsed a b e h = subst (λ x. Steps limit depth n g bs ts result p parsed x) (sym e) h

pub reads_at : {A : Type 0} → (limit depth n : ℕ) (result : Result A Refusal) (p : Parser) (parsed : Branches) (a b : Result ReadChoice Stop) → a ≡ b →
    ReadsItem limit depth n result p parsed b → ReadsItem limit depth n result p parsed a
reads_at limit depth n result p parsed a b e h = subst (λ x. ReadsItem limit depth n result p parsed x) (sym e) h

-- the reader goes over a gap to an item
pub read_item : (limit n depth : ℕ) (f : Flags) (g : pattern.Front) (bs ts : List Tree) (t u : Text) → f ≡ g.flags → u ≡ skip f t →
    inner ranges_of limit (suc n) depth g bs ts t ≡ at_item ranges_of limit (inner ranges_of limit n) n depth g bs ts u
unfolding inner
read_item limit n depth f g bs ts t u same at =
    ap (at_item ranges_of limit (inner ranges_of limit n) n depth g bs ts) (ap (λ x. skip x t) (sym same) ∙ sym at)

module _ (limit : ℕ) (go : Reader) (n : ℕ) (g : pattern.Front) (bs ts : List Tree) where
  -- the end of the pattern in a group
  pub end_in_group : (depth : ℕ) (u : Text) → u ≡ [] → 0 < depth → fault_in (at_item ranges_of limit go n depth g bs ts u) ≡ Some (fault_at UnclosedGroup u)
  end_in_group zero u at deep = absurd (omega arith)
  end_in_group (suc depth) u at deep = rw at refl

  -- the end of the pattern, where no group is open
  pub end_of_all : (depth : ℕ) (u : Text) → u ≡ [] → depth ≤ 0 → at_item ranges_of limit go n depth g bs ts u ≡ Ok (record { branches = bs ++ sequence_of ts ∷ []; behind = g; rest = u })
  end_of_all zero u at deep = rw at refl
  end_of_all (suc depth) u at deep = absurd (omega arith)

  -- a closing parenthesis that closes no group
  pub close_none : (depth : ℕ) (u v : Text) (c : ℕ) → u ≡ c ∷ v → c ≡ 41 → depth ≡ 0 → fault_in (at_item ranges_of limit go n depth g bs ts u) ≡ Some (fault_at UnopenedGroup u)
  close_none zero u v c at is deep = rw (at, is) refl
  close_none (suc depth) u v c at is deep = absurd (omega (arith, deep))

  -- a closing parenthesis
  pub close_one : (depth : ℕ) (u v : Text) (c : ℕ) → u ≡ c ∷ v → c ≡ 41 → (depth ≡ 0 → ⊥) →
      at_item ranges_of limit go n depth g bs ts u ≡ Ok (record { branches = bs ++ sequence_of ts ∷ []; behind = g; rest = u })
  close_one zero u v c at is deep = absurd (deep refl)
  close_one (suc depth) u v c at is deep = rw (at, is) refl

  -- an opening parenthesis
  pub opens_here : (depth : ℕ) (u v : Text) (c : ℕ) → u ≡ c ∷ v → c ≡ 40 →
      at_item ranges_of limit go n depth g bs ts u ≡ and_then (opened g (skip g.flags v)) (at_opened ranges_of limit go depth g bs ts)
  opens_here depth u v c at is = rw (at, is) refl

-- a closing parenthesis or an opening one stands where a run of items ends
pub closing_of : (u v : Text) (c : ℕ) → u ≡ c ∷ v → ends_items u ≡ true → c ≢ 40 → c ≡ 41
closing_of u v c at ends other = eqb-true c 41 (let e : ((c == 40) || (c == 41)) ≡ true = subst (λ t. ends_items t ≡ true) at ends in subst (λ b. (b || (c == 41)) ≡ true) (ne_eqb c 40 other) e)

-- after an item and a gap
pub item_goes : (limit depth : ℕ) (p : Parser) (parsed : Branches) (a : Result ReadChoice Stop) (r : GoesOnWithItem limit depth p parsed a) (behind q : Parser) (after : Branches) →
    GoesOn limit depth r.steps behind after (at_item ranges_of limit (inner ranges_of limit r.steps) r.steps depth r.g r.branches r.nodes p.cursor) →
    length behind.cursor < length p.cursor → q.limit ≡ behind.limit → q.state ≡ behind.state → q.cursor ≡ skip (flags_of behind.state.flags) behind.cursor → length q.cursor ≤ length behind.cursor →
    GoesOnWithItem limit depth q after a
item_goes limit depth p parsed a r behind q after on less bound state gap shorter = by_steps r.steps refl
  where
    by_steps : (m : ℕ) → r.steps ≡ m → GoesOnWithItem limit depth q after a
    by_steps zero is = absurd (omega (arith, r.room, is, less))
    by_steps (suc m) is = record {
      g = on.g;
      branches = on.branches;
      nodes = on.nodes;
      steps = m;
      is_at = record {
        limit_is = bound ∙ on.is_at.limit_is;
        state = subst (λ f. IsStateOf f on.g) (sym state) on.is_at.state;
        branches_are = on.is_at.branches_are;
        nodes_are = on.is_at.nodes_are;
      };
      room = omega (arith, r.room, is, less, shorter);
      same = r.same ∙ on.same ∙ ap (λ k. inner ranges_of limit k depth on.g on.branches on.nodes behind.cursor) is
          ∙ read_item limit m depth (flags_of behind.state.flags) on.g on.branches on.nodes behind.cursor q.cursor on.is_at.state.flags gap;
    }

-- an item that is read under the limit of the parser is read under this limit
abbrev pub ItemGoesOn : ℕ → Parser → Branches → ℕ → Parser → Branches → Type 0
ItemGoesOn limit p parsed c q after =
    (g : pattern.Front) → (bs ts : List Tree) → IsAt limit p parsed g bs ts → (depth : ℕ) →
    ForEnoughSteps p.cursor (λ n. GoesOn limit depth n q after (at_item ranges_of limit (inner ranges_of limit n) n depth g bs ts (c ∷ p.cursor)))

pub item_under : (limit : ℕ) (p : Parser) (parsed : Branches) (c : ℕ) (q : Parser) (after : Branches) → p.limit ≡ limit → ItemGoesOn p.limit p parsed c q after →
    ItemGoesOn limit p parsed c q after
item_under limit p parsed c q after e goes = subst (λ l. ItemGoesOn l p parsed c q after) e goes

-- an opening that is read under the limit of the parser is read under this limit
abbrev pub OpeningSteps : ℕ → ℕ → Parser → Result Step Refusal → Parser → Type 0
OpeningSteps limit depth p result q =
    (parsed : Branches) → (g : pattern.Front) → (bs ts : List Tree) → IsAt limit p parsed g bs ts → (n : ℕ) →
    Steps limit depth n g bs ts result q parsed (and_then (opened g (skip g.flags p.cursor)) (at_opened ranges_of limit (inner ranges_of limit n) depth g bs ts))

pub opening_under : (limit depth : ℕ) (p : Parser) (result : Result Step Refusal) (q : Parser) → p.limit ≡ limit → OpeningSteps p.limit depth p result q → OpeningSteps limit depth p result q
opening_under limit depth p result q e opens = subst (λ l. OpeningSteps l depth p result q) e opens
