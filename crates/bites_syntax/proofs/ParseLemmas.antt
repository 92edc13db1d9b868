-- From the result of the grammar's function to the grammar.
use Rattle.std.proofs.Common.{◌≡◌, ◌≢◌, ◌⊎◌, ◌<◌, ◌≤◌, ℕ, Option, Some, None, Result, Ok, Err, inl, inr, ⊎_elim, refl, sym, ap, ◌∙◌, arith}
use Rattle.bites_spec.specs.Message.{Message, too_much_nesting}
use Rattle.bites_spec.specs.Pattern.{Text, Flags}
use Rattle.bites_spec.specs.Tree.{Tree}
use Rattle.bites_spec.specs.Measure.{height, IsTooTall, Limits}
use Rattle.bites_spec.specs.Built.{IsCompilable}
use Rattle.bites_spec.specs.Fault.{Fault}
use Rattle.bites_spec.specs.RangesOf.{ranges_of}
use Rattle.bites_spec.specs.Reader.{Stop, read}
use Rattle.bites_spec.proofs.classes.ClassLemmas.{ranges_of_list}
use Rattle.bites_spec.proofs.regex.CompilableLemmas.{reads_compilable}
use Rattle.bites_spec.proofs.grammar.WholeLaws.{low_is_within, stop_is_fault, tall_is_fault, refused_has_no_tree}
use Rattle.bites_text.specs.Messages.{error_of}
use Rattle.bites_text.specs.declared.error.Error.{Error}
use Rattle.bites_text.specs.declared.error.Error.TheVariants as error
use Rattle.bites_syntax.specs.declared.refusal.Refusal.{Refusal}
use Rattle.bites_syntax.specs.declared.refusal.Refusal.TheVariants.{TooTall}
use Rattle.bites_syntax.specs.Parts.{error_by, fault_in, IsFaultOf}

module _ (pattern : Text) (flags : Flags) (nest_limit : ℕ) where
  -- a tree that is not too tall is within the limits
  pub answered_within : (t : Tree) → read ranges_of nest_limit pattern flags ≡ Ok t → height t ≤ nest_limit → height t < 4294967295 →
      Limits pattern flags nest_limit t
  answered_within t is low counted =
      low_is_within ranges_of ranges_of_list nest_limit t is (λ tall. ⊎_elim (λ (h : nest_limit < height t). omega (arith, low, h)) (λ (h : 4294967295 ≤ height t). omega (arith, counted, h)) tall)

  -- and a program can hold it
  pub answered_compilable : (t : Tree) → Limits pattern flags nest_limit t → IsCompilable t
  answered_compilable t l = reads_compilable pattern flags t l.reading

  -- the error of a stop is that of the pattern's fault
  stopped : (e : Refusal) (r : Result Tree Stop) → read ranges_of nest_limit pattern flags ≡ r → fault_in r ≡ Some e →
      (m : Message) × (error_by e ≡ error_of m) × Fault pattern flags nest_limit m
  stopped e (Ok t) is none = cc
  stopped e (Err s) is same = (s.message, sym (ap error_inside same), stop_is_fault ranges_of ranges_of_list nest_limit s is)
    where
      error_inside : Option Refusal → Error
      error_inside None = error.Memory
      error_inside (Some x) = error_by x

  -- an error other than out of memory is that of the pattern's fault
  by_fault : (e : Refusal) →
      IsFaultOf e (read ranges_of nest_limit pattern flags)
      ⊎ ((e ≡ TooTall) × ((t : Tree) × (read ranges_of nest_limit pattern flags ≡ Ok t) × IsTooTall nest_limit t)) →
      error_by e ≢ error.Memory → (m : Message) × (error_by e ≡ error_of m) × Fault pattern flags nest_limit m
  by_fault e (inl (inl memory)) ne = absurd (ne (ap error_by memory))
  by_fault e (inl (inr stop)) ne = stopped e (read ranges_of nest_limit pattern flags) refl stop
  by_fault e (inr (nesting, (t, is, tall))) ne = (too_much_nesting, ap error_by nesting, tall_is_fault ranges_of ranges_of_list nest_limit t is tall)

  pub refused_by_fault : (x : Error) (e : Refusal) → x ≡ error_by e →
      IsFaultOf e (read ranges_of nest_limit pattern flags)
      ⊎ ((e ≡ TooTall) × ((t : Tree) × (read ranges_of nest_limit pattern flags ≡ Ok t) × IsTooTall nest_limit t)) →
      x ≢ error.Memory → (m : Message) × (x ≡ error_of m) × Fault pattern flags nest_limit m
  refused_by_fault x e same refuses ne = let f = by_fault e refuses (λ memory. ne (same ∙ memory)) in (f.0, same ∙ f.1, f.2)

  -- a pattern with a fault has no tree within the limits
  pub fault_has_no_tree : (m : Message) → Fault pattern flags nest_limit m → (t : Tree) → Limits pattern flags nest_limit t → ⊥
  fault_has_no_tree m f t l = refused_has_no_tree ranges_of ranges_of_list nest_limit pattern flags m t f l
