-- Whole patterns: the reader returns each tree within the limits; else it stops with the first fault, or its tree is too tall.
use Rattle.std.proofs.Common.{◌≡◌, ℕ, suc, ◌<◌, ◌≤◌, ◌⊎◌, List, [], length, refl, sym, ap, ◌∙◌, subst, inl, inr, ⊎_elim, arith, Ok, Err, Result}
use Rattle.bites_spec.specs.Message as message
use Rattle.bites_spec.specs.Message.{Message, rank}
use Rattle.bites_spec.specs.Range.{Range}
use Rattle.bites_spec.specs.Class.{Set, Lists}
use Rattle.bites_spec.specs.Tree.{Tree, alternation_of}
use Rattle.bites_spec.specs.Pattern.{Text, Flags}
use Rattle.bites_spec.specs.Grammar.{Reading, at_front}
use Rattle.bites_spec.specs.Measure.{Limits, IsTooTall, height, open_in_choice, count_in_choice}
use Rattle.bites_spec.specs.Fault.{IsStuck, Fault, ComesFirst}
use Rattle.bites_spec.specs.GrammarLaws.{FaultsOnce, ReaderReads, IsRefusedBy, ReaderRefuses}
use Rattle.bites_spec.specs.RangesOf.{ranges_of}
use Rattle.bites_spec.proofs.classes.ClassLemmas.{ranges_of_list}
use Rattle.bites_spec.specs.Reader.{Stop, ReadChoice, inner, read}
use Rattle.bites_spec.proofs.grammar.ChoiceLeads.{Passes, by_nesting, by_count, by_number, StopsAtLimit, choice_leads}
use Rattle.bites_spec.proofs.grammar.ChoiceFirst.{StopsFirst, choice_first}
use Rattle.bites_spec.proofs.grammar.WholeSound.{read_within, read_stuck, within_limits, tall_or_low}
use Rattle.bites_spec.proofs.grammar.WholeRanks.{rank_once}

-- the result for the whole pattern, from the result for its choice
abbrev ended : Result ReadChoice Stop → Result Tree Stop
ended a = elim a [ Ok f ↦ Ok (alternation_of f.branches) | Err e ↦ Err e ]

-- the result is this tree, or a stop at a limit that the reading passes
pub data Leads (nest_limit : ℕ) {pattern : Text} {flags : Flags} {t : Tree} (r : Reading pattern flags t) (a : Result Tree Stop) : Type 0 where
  answers : a ≡ Ok t → Leads nest_limit r a
  stops : (e : Stop) → a ≡ Err e → Passes nest_limit 0 (open_in_choice r.reads) (count_in_choice r.reads) r.behind.groups e.message → Leads nest_limit r a

within_passes : {nest_limit opens counts groups : ℕ} {m : Message} → Passes nest_limit 0 opens counts groups m → opens ≤ nest_limit → counts ≤ 4294967295 →
    groups ≤ 4294967295 → ⊥
within_passes (by_nesting names above) a b c = omega arith
within_passes (by_count names above) a b c = omega arith
within_passes (by_number names above) a b c = omega arith

too_tall_or_low : {nest_limit : ℕ} (t u : Tree) → t ≡ u → IsTooTall nest_limit t → height u ≤ nest_limit → height u < 4294967295 → ⊥
too_tall_or_low t u same (inl tall) low counted = omega (arith, ap height same)
too_tall_or_low t u same (inr tall) low counted = omega (arith, ap height same)

module _ (list_of : Set → List Range) (lists : (set : Set) → Lists (list_of set) set) (nest_limit : ℕ) where
  -- the reader returns the tree of each reading, or stops at a limit that the reading passes
  pub read_leads : {pattern : Text} {flags : Flags} {t : Tree} (r : Reading pattern flags t) → Leads nest_limit r (read list_of nest_limit pattern flags)
  read_leads {pattern} {flags} {t} r =
      ⊎_elim
      (λ (on : inner list_of nest_limit (suc (length pattern)) 0 (at_front flags) [] [] pattern ≡ Ok (record { branches = r.branches; behind = r.behind; rest = [] })).
      answers (ap ended on ∙ ap Ok (sym r.is_choice)))
      (λ (s : StopsAtLimit nest_limit 0 (open_in_choice r.reads) (count_in_choice r.reads) r.behind.groups []
      (inner list_of nest_limit (suc (length pattern)) 0 (at_front flags) [] [] pattern)).
      stops s.at (ap ended s.is) s.passes)
      (choice_leads list_of lists nest_limit r.reads (suc (length pattern)) 0 [] (omega arith) refl)

  -- where the reader finds branches, a reading of the pattern ends with the same front
  pub behind_found : {pattern : Text} {flags : Flags} {t : Tree} (r : Reading pattern flags t) (f : ReadChoice) →
      inner list_of nest_limit (suc (length pattern)) 0 (at_front flags) [] [] pattern ≡ Ok f → r.behind ≡ f.behind
  behind_found {pattern} {flags} {t} r f is =
      ⊎_elim
      (λ (on : inner list_of nest_limit (suc (length pattern)) 0 (at_front flags) [] [] pattern ≡ Ok (record { branches = r.branches; behind = r.behind; rest = [] })).
      let same : record { branches = r.branches; behind = r.behind; rest = [] } ≡ f = cc in ap (λ (x : ReadChoice). x.behind) same)
      (λ (s : StopsAtLimit nest_limit 0 (open_in_choice r.reads) (count_in_choice r.reads) r.behind.groups []
      (inner list_of nest_limit (suc (length pattern)) 0 (at_front flags) [] [] pattern)).
      let stopped = s.is in cc)
      (choice_leads list_of lists nest_limit r.reads (suc (length pattern)) 0 [] (omega arith) refl)

  -- the reader returns each tree within the limits
  pub limits_lead : {pattern : Text} {flags : Flags} {t : Tree} → Limits pattern flags nest_limit t → read list_of nest_limit pattern flags ≡ Ok t
  limits_lead l =
      elim (read_leads l.reading) [ answers is ↦ is | stops e is passes ↦ absurd (within_passes passes l.open_groups l.counts l.group_number) ]

  -- where a pattern has a fault, the reader stops, no later
  pub stuck_leads : {pattern : Text} {flags : Flags} {place : Text} {m : Message} → IsStuck pattern flags nest_limit m place →
      StopsFirst m place (read list_of nest_limit pattern flags)
  stuck_leads {pattern} s =
      let f = choice_first list_of lists nest_limit s (suc (length pattern)) [] (omega arith) in
      record { at = f.at; is = ap ended f.is; first = f.first }

  -- the message of the reader's stop is the first fault
  pub stop_is_fault : {pattern : Text} {flags : Flags} (e : Stop) → read list_of nest_limit pattern flags ≡ Err e → Fault pattern flags nest_limit e.message
  stop_is_fault {pattern} {flags} e is = inl (record {
    place = e.place;
    stuck = read_stuck list_of lists nest_limit pattern flags e is;
    first = λ other at s. (let f = stuck_leads s in
        let same : f.at ≡ e = cc in
        subst (λ x. ComesFirst x.message x.place other at) same f.first);
  })

  -- if the tree that the reader returns is too tall, that is the fault
  pub tall_is_fault : {pattern : Text} {flags : Flags} (t : Tree) → read list_of nest_limit pattern flags ≡ Ok t → IsTooTall nest_limit t →
      Fault pattern flags nest_limit message.too_much_nesting
  tall_is_fault {pattern} {flags} t is tall = inr (record {
    t = t;
    reads = (read_within list_of lists nest_limit pattern flags t is).reading;
    too_tall = tall;
    no_other = λ other at s. absurd (let f = stuck_leads s in cc);
    nesting = refl;
  })

  -- if the tree that the reader returns is not too tall, it is within the limits
  pub low_is_within : {pattern : Text} {flags : Flags} (t : Tree) → read list_of nest_limit pattern flags ≡ Ok t → (IsTooTall nest_limit t → ⊥) →
      Limits pattern flags nest_limit t
  low_is_within {pattern} {flags} t is low = within_limits (read_within list_of lists nest_limit pattern flags t is) low

  -- a pattern with a fault has no tree within the limits
  pub refused_has_no_tree : (pattern : Text) (flags : Flags) (m : Message) (t : Tree) → Fault pattern flags nest_limit m → Limits pattern flags nest_limit t → ⊥
  refused_has_no_tree pattern flags m t (inl f) l =
      let is : read list_of nest_limit pattern flags ≡ Ok t = limits_lead l in
      let s = stuck_leads f.stuck in
      cc
  refused_has_no_tree pattern flags m t (inr f) l =
      let is : read list_of nest_limit pattern flags ≡ Ok t = limits_lead l in
      elim (read_leads f.reads) [
        | answers same ↦ (let one : f.t ≡ t = cc in too_tall_or_low f.t t one f.too_tall l.low l.counted_height)
        | stops e stopped passes ↦ cc
      ]

  by_answer : (pattern : Text) (flags : Flags) (a : Result Tree Stop) → read list_of nest_limit pattern flags ≡ a →
      ((t : Tree) × Limits pattern flags nest_limit t) ⊎ ((m : Message) × Fault pattern flags nest_limit m)
  by_answer pattern flags (Ok t) is =
      ⊎_elim (λ (tall : IsTooTall nest_limit t). inr (message.too_much_nesting, tall_is_fault t is tall))
      (λ (heights : (height t ≤ nest_limit) × (height t < 4294967295)).
      inl (t, low_is_within t is (λ tall. too_tall_or_low t t refl tall heights.0 heights.1))) (tall_or_low nest_limit t)
  by_answer pattern flags (Err e) is = inr (e.message, stop_is_fault e is)

  -- a pattern has a tree within the limits or a fault
  pub read_or_refused : (pattern : Text) (flags : Flags) →
      ((t : Tree) × Limits pattern flags nest_limit t) ⊎ ((m : Message) × Fault pattern flags nest_limit m)
  read_or_refused pattern flags = by_answer pattern flags (read list_of nest_limit pattern flags) refl

same_rank : (m k : Message) (at place : Text) → ComesFirst m at k place → ComesFirst k place m at → rank m ≡ rank k
same_rank m k at place a b = grind arith

-- a pattern has at most one message
pub faults_once : FaultsOnce
faults_once pattern flags nest_limit m k (inl f) (inl g) = rank_once m k (same_rank m k f.place g.place (f.first k g.place g.stuck) (g.first m f.place f.stuck))
faults_once pattern flags nest_limit m k (inl f) (inr g) = absurd (g.no_other m f.place f.stuck)
faults_once pattern flags nest_limit m k (inr f) (inl g) = absurd (f.no_other k g.place g.stuck)
faults_once pattern flags nest_limit m k (inr f) (inr g) = f.nesting ∙ sym g.nesting

-- a tree is within the limits exactly if the function returns it and it is not too tall
pub reader_reads : ReaderReads
reader_reads pattern flags nest_limit t = (
  λ l. (limits_lead ranges_of ranges_of_list nest_limit l, λ tall. too_tall_or_low t t refl tall l.low l.counted_height),
  λ answered. low_is_within ranges_of ranges_of_list nest_limit t answered.0 answered.1,
)

refuses : (pattern : Text) (flags : Flags) (nest_limit : ℕ) (m : Message) (a : Result Tree Stop) → read ranges_of nest_limit pattern flags ≡ a →
    Fault pattern flags nest_limit m → IsRefusedBy nest_limit m a
refuses pattern flags nest_limit m (Ok t) is (inl f) = absurd (let s = stuck_leads ranges_of ranges_of_list nest_limit f.stuck in cc)
refuses pattern flags nest_limit m (Ok t) is (inr f) =
    elim (read_leads ranges_of ranges_of_list nest_limit f.reads) [
      | answers same ↦ (let one : f.t ≡ t = cc in (subst (IsTooTall nest_limit) one f.too_tall, f.nesting))
      | stops e stopped passes ↦ absurd (cc)
    ]
refuses pattern flags nest_limit m (Err e) is f = faults_once pattern flags nest_limit m e.message f (stop_is_fault ranges_of ranges_of_list nest_limit e is)

refused : (pattern : Text) (flags : Flags) (nest_limit : ℕ) (m : Message) (a : Result Tree Stop) → read ranges_of nest_limit pattern flags ≡ a →
    IsRefusedBy nest_limit m a → Fault pattern flags nest_limit m
refused pattern flags nest_limit m (Ok t) is r = subst (Fault pattern flags nest_limit) (sym r.1) (tall_is_fault ranges_of ranges_of_list nest_limit t is r.0)
refused pattern flags nest_limit m (Err e) is r = subst (Fault pattern flags nest_limit) (sym r) (stop_is_fault ranges_of ranges_of_list nest_limit e is)

-- a pattern has a fault exactly if the function refuses it by that fault's message
pub reader_refuses : ReaderRefuses
reader_refuses pattern flags nest_limit m =
    (refuses pattern flags nest_limit m (read ranges_of nest_limit pattern flags) refl, refused pattern flags nest_limit m (read ranges_of nest_limit pattern flags) refl)
