-- The groups of a tree are among those that its pattern opens, by number and name.
use Rattle.std.proofs.lemmas.Grind.{common_steps}
use Rattle.std.proofs.Common.{◌≡◌, ℕ, suc, ◌+◌, ◌<◌, Bool, List, [], ◌∷◌, ◌++◌, length, map, Option, Some, None, refl, sym, ap, ◌∙◌, subst, inl, ⊎_elim, arith, ◌⊎◌, append_assoc, append-nil}
use Rattle.std.proofs.lemmas.List.{length-append, get_or_append_left, get_or_at, reverse-append}
use Rattle.std.specs.Prelude.{encode_utf8_all, option_map, slice_index_or}
use Rattle.bites_spec.specs.Walks.{Among}
use Rattle.bites_spec.specs.Tree.{Tree, trees_of, sequence_of, alternation_of, repetition_of}
use Rattle.bites_spec.specs.Measure.{groups_of, groups_of_all, HasItsGroups, groups_opened, opened_by}
use Rattle.bites_spec.specs.Pattern.{Text, Flags, Front}
use Rattle.bites_spec.specs.Group as relation
use Rattle.bites_spec.specs.Group.{Opening, numbered, ReadsOpening, with_group}
use Rattle.bites_spec.specs.Grammar as grammar
use Rattle.bites_spec.specs.Grammar.{ReadsAtom, ReadsChoice, ReadsSequence, ReadsItem, Reading, literal_of, group_of}
use Rattle.bites_spec.specs.GroupLaws.{OpenedAreKept}
use Rattle.bites_spec.proofs.programs.SlotLemmas.{Among-left, Among-right}
use Rattle.bites_spec.proofs.regex.LeftLemmas.{room_for_groups}
use Rattle.bites_spec.proofs.programs.BuiltLemmas.{Among-append}

-- a group's number, and its name if it has one
abbrev Entry : Type 0
Entry = ℕ × Option (List ℕ)

abbrev entries : List Tree → List Entry
entries nodes = groups_of_all (trees_of nodes)

-- the group's name stands at its number in the list
abbrev Stands : List (Option (List ℕ)) → Entry → Type 0
Stands groups g = (g.0 < length groups) × (slice_index_or groups g.0 None ≡ g.1)

-- there is an entry for each group that is counted, and one for group 0
abbrev IsCounted : Front → Type 0
IsCounted front = length (opened_by front) ≡ suc front.groups

stands_still : (groups : List (Option (List ℕ))) (name : Option (List ℕ)) (g : Entry) → Stands groups g → Stands (groups ++ name ∷ []) g
stands_still groups name g (below, same) =
    (omega (arith, length-append groups (name ∷ [])), get_or_append_left groups (name ∷ []) None g.0 below ∙ same)

stands_last : (groups : List (Option (List ℕ))) (name : Option (List ℕ)) (n : ℕ) → length groups ≡ n → Stands (groups ++ name ∷ []) (n, name)
stands_last groups name n is = (omega (arith, length-append groups (name ∷ [])), get_or_at groups name [] None n is)

-- the entry of a group that is opened comes after all others
pub opened_more : (name : Option Text) (front : Front) → opened_by (with_group name front) ≡ opened_by front ++ option_map encode_utf8_all name ∷ []
opened_more name front =
    ap (λ xs. None ∷ xs) (reverse-append (option_map encode_utf8_all name ∷ []) (map (option_map encode_utf8_all) front.names))

-- entries stay in place, and the groups of the nodes get entries
record Keeps (front behind : Front) (nodes : List Tree) : Type 0 where
  counts : IsCounted front → IsCounted behind
  grows : (g : Entry) → Stands (opened_by front) g → Stands (opened_by behind) g
  stand : IsCounted front → (g : Entry) → Among (entries nodes) g → Stands (opened_by behind) g

Keeps-nothing : (front : Front) → Keeps front front []
Keeps-nothing front = record { counts = λ c. c; grows = λ g s. s; stand = λ c g a. absurd a }

entries-append : (a b : List Tree) → entries (a ++ b) ≡ entries a ++ entries b
entries-append [] b = refl
entries-append (t ∷ a) b = ap (λ x. groups_of t ++ x) (entries-append a b) ∙ sym (append_assoc (groups_of t) (entries a) (entries b))

Keeps-append : {front middle behind : Front} (a b : List Tree) → Keeps front middle a → Keeps middle behind b → Keeps front behind (a ++ b)
Keeps-append a b one other = record {
  counts = λ c. other.counts (one.counts c);
  grows = λ g s. other.grows g (one.grows g s);
  stand = λ c g among.
      ⊎_elim (λ x. other.grows g (one.stand c g x)) (λ x. other.stand (one.counts c) g x)
      (Among-append (entries a) (entries b) g (subst (λ gs. Among gs g) (entries-append a b) among));
}

-- other nodes whose groups are among those of these are kept, too
Keeps-among : {front behind : Front} (nodes others : List Tree) → ((g : Entry) → Among (entries others) g → Among (entries nodes) g) →
    Keeps front behind nodes → Keeps front behind others
Keeps-among nodes others among h = record { counts = h.counts; grows = h.grows; stand = λ c g a. h.stand c g (among g a) }

-- the flags do not matter
Keeps-flags : {front behind : Front} {nodes : List Tree} (flags : Flags) → Keeps (record front { flags = flags }) behind nodes → Keeps front behind nodes
Keeps-flags flags h = record { counts = h.counts; grows = h.grows; stand = h.stand }

Keeps-flags_behind : {front behind : Front} {nodes : List Tree} (flags : Flags) → Keeps front behind nodes → Keeps front (record behind { flags = flags }) nodes
Keeps-flags_behind flags h = record { counts = h.counts; grows = h.grows; stand = h.stand }

same_entries : (nodes : List Tree) (t : Tree) → groups_of t ≡ entries nodes → (g : Entry) → Among (entries (t ∷ [])) g → Among (entries nodes) g
same_entries nodes t same g among = subst (λ gs. Among gs g) (append-nil (groups_of t) ∙ same) among

sequence_entries : (nodes : List Tree) → groups_of (sequence_of nodes) ≡ entries nodes
sequence_entries [] = refl
sequence_entries (t ∷ []) = sym (append-nil (groups_of t))
sequence_entries (t ∷ u ∷ nodes) = refl

choice_entries : (nodes : List Tree) → groups_of (alternation_of nodes) ≡ entries nodes
choice_entries [] = refl
choice_entries (t ∷ []) = sym (append-nil (groups_of t))
choice_entries (t ∷ u ∷ nodes) = refl

Keeps-sequence : {front behind : Front} (nodes : List Tree) → Keeps front behind nodes → Keeps front behind (sequence_of nodes ∷ [])
Keeps-sequence nodes h = Keeps-among nodes (sequence_of nodes ∷ []) (same_entries nodes (sequence_of nodes) (sequence_entries nodes)) h

Keeps-choice : {front behind : Front} (nodes : List Tree) → Keeps front behind nodes → Keeps front behind (alternation_of nodes ∷ [])
Keeps-choice nodes h = Keeps-among nodes (alternation_of nodes ∷ []) (same_entries nodes (alternation_of nodes) (choice_entries nodes)) h

-- an operator keeps the groups of the last node, or drops them all
repeated_entries : (min : ℕ) (max : Option ℕ) (greedy : Bool) (last : Tree) →
    (groups_of (repetition_of min max greedy last) ≡ groups_of last) ⊎ (groups_of (repetition_of min max greedy last) ≡ [])
repeated_entries min None greedy last = inl refl
repeated_entries min (Some max) greedy last = grind (arith, common_steps)

last_entries : (before : List Tree) (last node : Tree) → (groups_of node ≡ groups_of last) ⊎ (groups_of node ≡ []) →
    (g : Entry) → Among (entries (before ++ node ∷ [])) g → Among (entries (before ++ last ∷ [])) g
last_entries before last node repeated g among = grind (arith, common_steps, entries-append, Among-left, Among-right)

-- a group with the next number
Keeps-numbered : {front middle : Front} (name : Option Text) (branches : List Tree) → Keeps (with_group name front) middle branches →
    Keeps front middle (group_of (numbered name) front.groups branches ∷ [])
Keeps-numbered {front} {middle} name branches h =
    let more = opened_more name front in
    let grows : (g : Entry) → Stands (opened_by front) g → Stands (opened_by (with_group name front)) g =
    λ g s. subst (λ groups. Stands groups g) (sym more) (stands_still (opened_by front) (option_map encode_utf8_all name) g s) in
    let counted : IsCounted front → IsCounted (with_group name front) =
    λ c. ap length more ∙ length-append (opened_by front) (option_map encode_utf8_all name ∷ []) ∙ omega arith in
    let own : IsCounted front → Stands (opened_by (with_group name front)) (front.groups + 1, option_map encode_utf8_all name) =
    λ c. subst (λ groups. Stands groups (front.groups + 1, option_map encode_utf8_all name)) (sym more)
    (stands_last (opened_by front) (option_map encode_utf8_all name) (front.groups + 1) (omega arith)) in
    record {
      counts = λ c. h.counts (counted c);
      grows = λ g s. h.grows g (grows g s);
      stand = λ c g among.
          ⊎_elim (λ (e : (front.groups + 1, option_map encode_utf8_all name) ≡ g). subst (λ x. Stands (opened_by middle) x) e (h.grows _ (own c)))
          (λ later. h.stand (counted c) g (subst (λ gs. Among gs g) (append-nil (groups_of (alternation_of branches)) ∙ choice_entries branches) later))
          among;
    }

Keeps-group : {front inner middle : Front} {t inside : Text} {opening : Opening} (branches : List Tree) → ReadsOpening front t opening inner inside →
    Keeps inner middle branches → Keeps front middle (group_of opening front.groups branches ∷ [])
Keeps-group {front} {middle = middle} branches (relation.number_only t next inside opening inner is at plain opens fronts) h = grind (arith, common_steps, Keeps-numbered)
Keeps-group {front} {middle = middle} branches (relation.named t next begun name inside opening inner is plain begin reads opens fronts) h = grind (arith, common_steps, Keeps-numbered)
Keeps-group {front} {middle = middle} branches (relation.with_flags t next marks run inside opening inner is asks reads opens fronts) h = grind (arith, common_steps, Keeps-choice, Keeps-flags)

-- a node without groups
Keeps-leaf : {front : Front} (t : Tree) → groups_of t ≡ [] → Keeps front front (t ∷ [])
Keeps-leaf {front} t none = Keeps-among [] (t ∷ []) (λ g among. subst (λ gs. Among (gs ++ []) g) none among) (Keeps-nothing front)

Keeps-literal : {front : Front} (flags : Flags) (c : ℕ) → Keeps front front (literal_of flags c ∷ [])
Keeps-literal flags c = grind (arith, common_steps, Keeps-leaf)

Keeps-atom : {front : Front} {flags : Flags} {t rest : Text} {node : Tree} → ReadsAtom flags t node rest → Keeps front front (node ∷ [])
Keeps-atom {flags = flags} (grammar.literal c t rest node is plain same) = rw same (Keeps-literal flags c)
Keeps-atom (grammar.any t rest node ranges is lists same) = rw same (Keeps-leaf _ refl)
Keeps-atom (grammar.line_start t rest node is same) = rw same (Keeps-leaf _ refl)
Keeps-atom (grammar.line_end t rest node is same) = rw same (Keeps-leaf _ refl)
Keeps-atom (grammar.bracket t rest node ranges reads same) = rw same (Keeps-leaf _ refl)
Keeps-atom {flags = flags} (grammar.escaped_character c t rest node reads same) = rw same (Keeps-literal flags c)
Keeps-atom (grammar.escaped_class set t rest node ranges reads lists same) = rw same (Keeps-leaf _ refl)
Keeps-atom (grammar.escaped_assertion l t rest node reads same) = rw same (Keeps-leaf _ refl)

mutual
  choice_keeps : {front behind : Front} {t rest : Text} {branches : List Tree} → ReadsChoice front t branches behind rest → Keeps front behind branches
  choice_keeps {behind = behind} (grammar.one front _ t rest nodes branches s is) =
      subst (λ x. Keeps front behind x) (sym is) (Keeps-sequence nodes (sequence_keeps s front (Keeps-nothing front)))
  choice_keeps {behind = behind} (grammar.several front middle _ t more rest nodes others branches s c is) =
      subst (λ x. Keeps front behind x) (sym is)
      (Keeps-append (sequence_of nodes ∷ []) others (Keeps-sequence nodes (sequence_keeps s front (Keeps-nothing front))) (choice_keeps c))

  sequence_keeps : {front behind : Front} {t rest : Text} {nodes all : List Tree} → ReadsSequence front t nodes all behind rest →
      (from : Front) → Keeps from front nodes → Keeps from behind all
  sequence_keeps (grammar.ends front behind t rest nodes all at ends same unchanged) from h =
      subst (λ x. Keeps from x all) (sym unchanged) (subst (λ x. Keeps from front x) (sym same) h)
  sequence_keeps (grammar.goes_on front middle behind t next rest nodes more all i s) from h = sequence_keeps s from (item_keeps i from h)

  item_keeps : {front behind : Front} {t rest : Text} {nodes all : List Tree} → ReadsItem front t nodes all behind rest →
      (from : Front) → Keeps from front nodes → Keeps from behind all
  item_keeps (grammar.atom front behind t rest nodes all node a same unchanged) from h =
      subst (λ x. Keeps from x all) (sym unchanged) (subst (λ x. Keeps from front x) (sym same) (Keeps-append nodes (node ∷ []) h (Keeps-atom a)))
  item_keeps (grammar.operator front behind t rest nodes all before last min max greedy reads old same unchanged) from h =
      subst (λ x. Keeps from x all) (sym unchanged)
      (subst (λ x. Keeps from front x) (sym same)
      (Keeps-among (before ++ last ∷ []) (before ++ repetition_of min max greedy last ∷ [])
      (last_entries before last (repetition_of min max greedy last) (repeated_entries min max greedy last)) (subst (λ x. Keeps from front x) old h)))
  item_keeps (grammar.directive front behind t next marks run rest c letters nodes all is asks reads some same unchanged) from h =
      subst (λ x. Keeps from x all) (sym unchanged) (Keeps-flags_behind _ (subst (λ x. Keeps from front x) (sym same) h))
  item_keeps (grammar.group front inner middle behind t inside rest nodes all branches opening o c same unchanged) from h =
      subst (λ x. Keeps from x all) (sym unchanged)
      (Keeps-flags_behind _ (subst (λ x. Keeps from middle x) (sym same) (Keeps-append nodes _ h (Keeps-group branches o (choice_keeps c)))))

-- the groups of the tree are among those that its pattern opens
pub opened_has_groups : {pattern : Text} {flags : Flags} {t : Tree} (r : Reading pattern flags t) → HasItsGroups (groups_opened r) t
opened_has_groups r g among =
    (choice_keeps r.reads).stand refl g (subst (λ gs. Among gs g) (ap groups_of r.is_choice ∙ choice_entries r.branches) among)

-- there is an entry for each group that is counted, and one for group 0
pub length-opened : {pattern : Text} {flags : Flags} {t : Tree} (r : Reading pattern flags t) → length (groups_opened r) ≡ suc r.behind.groups
length-opened r = (choice_keeps r.reads).counts refl

pub opened_are_kept : OpenedAreKept
opened_are_kept pattern flags t r =
    (length-opened r, opened_has_groups r, room_for_groups (groups_opened r) t (omega arith) (opened_has_groups r))
