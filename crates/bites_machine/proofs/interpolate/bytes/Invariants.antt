use Rattle.bites_machine.proofs.Library.{ℕ, false, List, length, Option, expansion, IsFront, GivesTexts, GivesNumbers}
use Rattle.bites_machine.proofs.templates.InterpolateTexts.{Appended, largest}
use Rattle.bites_machine.proofs.interpolate.bytes.Given as goal

abbrev pub invariant-fronts : goal.invariant-fronts
invariant-fronts g l = record {
  kept : IsFront l.fn.dst.items l.dst.items;
  appended : (texts : ℕ → Option (List ℕ)) (numbers : List ℕ → Option ℕ) →
      GivesTexts (λ k r. g.T.Fn.post l.text_of (k, tt) r) texts → GivesNumbers (λ n r. g.I.Fn.post l.index_of (n, tt) r) numbers →
      Appended l.fn.dst.items l.dst.items (expansion false largest texts numbers l.template) (expansion false largest texts numbers l.rest);
}

abbrev pub decreases-fronts : goal.decreases-fronts
decreases-fronts g l = length l.rest
