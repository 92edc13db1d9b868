-- At most one run is the first, and `first_run` returns it.
use Rattle.std.proofs.lemmas.Grind.{common_steps}
use Rattle.std.proofs.Common.{◌≡◌, ℕ, List, Option, Some, None, refl, ap, arith, ltb-true, ltb-false}
use Rattle.bites_spec.specs.Utf8.{AreStarts}
use Rattle.bites_spec.specs.Program.{Program, Configuration, IsWellFormed}
use Rattle.bites_spec.specs.Run.{Run, StartsFirst, FirstRun, first_run}
use Rattle.bites_spec.proofs.programs.PlainLemmas.{Before-asym, ends_at}
use Rattle.bites_spec.proofs.runs.RunLemmas.{first_run-FirstRun}

pub same_run : (i j k l : ℕ) (a b : List Configuration) → i ≡ j → a ≡ b → k ≡ l → ◌≡◌ {A = Run} (record { start = i; configurations = a; end = k }) (record { start = j; configurations = b; end = l })
same_run i j k l a b e f g = λ x. record { start = e x; configurations = f x; end = g x }

module _ (p : Program) (hay : List ℕ) where
  -- two runs that start first start at the same place
  pub same_start : (ps : List ℕ) (a b : Run) → StartsFirst p hay ps a → StartsFirst p hay ps b → a.start ≡ b.start
  same_start ps a b x y = grind (arith, common_steps, ltb-true, ltb-false)

  pub one_first : (ps : List ℕ) (a b : Run) → FirstRun p hay ps (Some a) → FirstRun p hay ps (Some b) → a ≡ b
  one_first ps a b (x, f) (y, g) = grind (arith, common_steps, same_start, Before-asym, same_run, ends_at)

  one_answer : (ps : List ℕ) (o q : Option Run) → FirstRun p hay ps o → FirstRun p hay ps q → o ≡ q
  one_answer ps None None x y = refl
  one_answer ps None (Some b) x y = absurd (x b.start y.0.from b.configurations b.end y.0.runs)
  one_answer ps (Some a) None x y = absurd (y a.start x.0.from a.configurations a.end x.0.runs)
  one_answer ps (Some a) (Some b) x y = ap Some (one_first ps a b x y)

  pub FirstRun-first_run : IsWellFormed p → (s : ℕ) (ps : List ℕ) → AreStarts hay s ps → (o : Option Run) → FirstRun p hay ps o → o ≡ first_run p hay ps
  FirstRun-first_run well s ps are o x = one_answer ps o (first_run p hay ps) x (first_run-FirstRun p hay well s ps are)
