-- What a search for the least end says of a regex's tree.
use Rattle.std.proofs.Common.{◌≡◌, ℕ, ◌≤◌, Bool, true, false, List, length, take, Option, Some, None, option_map, sym, ap, ◌∙◌, subst, true≢false}
use Rattle.std.specs.Prelude.{IsTrue, ◌↔◌, is_some}
use Rattle.bites_spec.specs.Match.{Span}
use Rattle.bites_spec.specs.Tree.{Tree}
use Rattle.bites_spec.specs.Run.{Run, Answered, LeastEnd, slots}
use Rattle.bites_spec.specs.Slots.{slot_in, group_in, span_of_run, span_between}
use Rattle.bites_spec.specs.Found.{HasMatch, IsLeastEnd}
use Rattle.bites_spec.specs.Regex.{Regex, IsCompiled}
use Rattle.bites_spec.proofs.programs.FoundLemmas.{LeastEnd-IsLeastEnd, group_0_is_span}
use Rattle.bites_bytes.proofs.SlotLemmas.{front_group}

-- there is a match where there is a least end
pub least_has : (t : Tree) (hay ps : List ℕ) (o : Option ℕ) (b : Bool) → IsLeastEnd t hay ps o → b ≡ is_some o → IsTrue b ↔ HasMatch t hay ps
least_has t hay ps None b least is = (λ holds. absurd (true≢false (sym (is_true b holds) ∙ is)), λ m. absurd (least m.0 m.2 m.1 m.3))
  where
    is_true : (b : Bool) → IsTrue b → b ≡ true
    is_true b holds = holds
least_has t hay ps (Some j) b least is = (λ holds. (least.0.0, j, least.0.1, least.0.2), λ m. is)

pub known_end : (a b : Option ℕ) (g : Span) → span_between a b ≡ Some g → b ≡ Some g.end
known_end None b g e = let never : None ≡ Some g = e in cc
known_end (Some i) None g e = let never : None ≡ Some g = e in cc
known_end (Some i) (Some j) g e = ap (option_map (λ (x : Span). x.end)) e

module _ (r : Regex) (is : IsCompiled r) (hay ps : List ℕ) where
  -- nothing is found
  pub least_none : (o : Option Run) (found : Bool) (old new : List (Option ℕ)) → LeastEnd r.program hay ps o → Answered r.program o found old new →
      found ≡ false → IsLeastEnd r.tree hay ps None
  least_none None found old new least h missing = LeastEnd-IsLeastEnd r.tree r.program hay is.compilable is.built ps None least
  least_none (Some x) found old new least h missing = absurd (true≢false (sym h.0 ∙ missing))

  end_of : (x : Run) (old new : List (Option ℕ)) → LeastEnd r.program hay ps (Some x) → new ≡ take (length old) (slots r.program x) → 2 ≤ length old →
      slot_in new 1 ≡ Some x.end
  end_of x old new least h le =
      known_end (slot_in new 0) (slot_in new 1) (span_of_run x)
      (ap (λ l. group_in l 0) h ∙ front_group (length old) (slots r.program x) le
      ∙ group_0_is_span r.tree r.program hay is.compilable is.built x least.0)

  -- the second slot has the least end
  pub least_some : (o : Option Run) (found : Bool) (old new : List (Option ℕ)) → LeastEnd r.program hay ps o → Answered r.program o found old new →
      found ≡ true → 2 ≤ length old → IsLeastEnd r.tree hay ps (slot_in new 1) × (is_some (slot_in new 1) ≡ true)
  least_some None found old new least h holds le = absurd (true≢false (sym holds ∙ h.0))
  least_some (Some x) found old new least h holds le =
      let e = end_of x old new least h.1 le in (
        subst (IsLeastEnd r.tree hay ps) (sym e) (LeastEnd-IsLeastEnd r.tree r.program hay is.compilable is.built ps (Some x) least),
        ap is_some e,
      )

  -- whether something is found, with any number of slots
  pub least_found : (o : Option Run) (found : Bool) (old new : List (Option ℕ)) → LeastEnd r.program hay ps o → Answered r.program o found old new →
      IsTrue found ↔ HasMatch r.tree hay ps
  least_found None found old new least h =
      least_has r.tree hay ps None found (LeastEnd-IsLeastEnd r.tree r.program hay is.compilable is.built ps None least) h.0
  least_found (Some x) found old new least h =
      least_has r.tree hay ps (Some x.end) found (LeastEnd-IsLeastEnd r.tree r.program hay is.compilable is.built ps (Some x) least) h.0
