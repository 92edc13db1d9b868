-- What the reader returns for a whole pattern, the grammar's relations read.
use Rattle.std.proofs.lemmas.Grind.{common_steps}
use Rattle.std.proofs.Common.{◌≡◌, ℕ, ◌<◌, ◌≤◌, ◌⊎◌, List, [], refl, sym, subst, ⊎_elim, arith, Ok, Err, Result}
use Rattle.bites_spec.specs.Range.{Range}
use Rattle.bites_spec.specs.Class.{Set, Lists}
use Rattle.bites_spec.specs.Tree.{Tree, alternation_of}
use Rattle.bites_spec.specs.Pattern.{Text, Flags}
use Rattle.bites_spec.specs.OperatorFault.{greatest_number}
use Rattle.bites_spec.specs.Grammar.{Reading, at_front}
use Rattle.bites_spec.specs.Measure.{Limits, IsTooTall, height, open_in_choice, count_in_choice}
use Rattle.bites_spec.specs.Fault.{IsStuck}
use Rattle.bites_spec.specs.Reader.{Stop, ReadChoice, read}
use Rattle.bites_spec.proofs.grammar.ChoiceSound.{Says, Choice, adds_choice}
use Rattle.bites_spec.proofs.grammar.ChoiceReader.{inner_says, stops_choice}

-- a reading within all limits but the one on the tree's height
pub record Within (pattern : Text) (flags : Flags) (nest_limit : ℕ) (t : Tree) : Type 0 where
  pub reading : Reading pattern flags t
  pub open_groups : open_in_choice reading.reads ≤ nest_limit
  pub group_number : reading.behind.groups ≤ greatest_number
  pub counts : count_in_choice reading.reads ≤ greatest_number

-- what a result for the whole pattern claims of the relations
abbrev pub ReadSays : Text → Flags → ℕ → Result Tree Stop → Type 0
ReadSays pattern flags nest_limit (Ok t) = Within pattern flags nest_limit t
ReadSays pattern flags nest_limit (Err e) = IsStuck pattern flags nest_limit e.message e.place

whole : (pattern : Text) (flags : Flags) (nest_limit : ℕ) (a : Result ReadChoice Stop) → Says nest_limit 0 (at_front flags) [] [] pattern a →
    ReadSays pattern flags nest_limit (elim a [ Ok f ↦ Ok (alternation_of f.branches) | Err e ↦ Err e ])
whole pattern flags nest_limit (Ok f) found =
    let first : Choice nest_limit 0 (at_front flags) f.behind pattern f.rest found.added = adds_choice found.adds in
    let second : Choice nest_limit 0 (at_front flags) f.behind pattern f.rest f.branches =
    subst (λ all. Choice nest_limit 0 (at_front flags) f.behind pattern f.rest all) (sym found.same) first in
    let c : Choice nest_limit 0 (at_front flags) f.behind pattern [] f.branches =
    subst (λ rest. Choice nest_limit 0 (at_front flags) f.behind pattern rest f.branches) found.ends second in
    record {
      reading = record { branches = f.branches; behind = f.behind; reads = c.reads; is_choice = refl };
      open_groups = omega (arith, c.opens);
      group_number = found.groups;
      counts = c.counts;
    }
whole pattern flags nest_limit (Err e) stops = stops_choice stops

module _ (list_of : Set → List Range) (lists : (set : Set) → Lists (list_of set) set) (nest_limit : ℕ) where
  -- what the reader returns, the relations read
  pub read_says : (pattern : Text) (flags : Flags) → ReadSays pattern flags nest_limit (read list_of nest_limit pattern flags)
  read_says pattern flags = grind (arith, common_steps, whole, inner_says)

  -- a tree that the reader returns has a reading within all limits but the one on its height
  pub read_within : (pattern : Text) (flags : Flags) (t : Tree) → read list_of nest_limit pattern flags ≡ Ok t → Within pattern flags nest_limit t
  read_within pattern flags t is = subst (ReadSays pattern flags nest_limit) is (read_says pattern flags)

  -- a stop of the reader is a fault
  pub read_stuck : (pattern : Text) (flags : Flags) (e : Stop) → read list_of nest_limit pattern flags ≡ Err e → IsStuck pattern flags nest_limit e.message e.place
  read_stuck pattern flags e is = subst (ReadSays pattern flags nest_limit) is (read_says pattern flags)

-- a tree is too tall or is not
pub tall_or_low : (nest_limit : ℕ) (t : Tree) → (IsTooTall nest_limit t) ⊎ ((height t ≤ nest_limit) × (height t < 4294967295))
tall_or_low nest_limit t = grind (arith, common_steps)

-- a tree with such a reading that is not too tall is within the limits
pub within_limits : {pattern : Text} {flags : Flags} {nest_limit : ℕ} {t : Tree} → Within pattern flags nest_limit t → (IsTooTall nest_limit t → ⊥) →
    Limits pattern flags nest_limit t
within_limits {nest_limit = nest_limit} {t = t} w low = ⊎_elim (λ tall. absurd (low tall)) (λ heights. record {
  reading = w.reading;
  open_groups = w.open_groups;
  low = heights.0;
  counted_height = heights.1;
  group_number = w.group_number;
  counts = w.counts;
}) (tall_or_low nest_limit t)
