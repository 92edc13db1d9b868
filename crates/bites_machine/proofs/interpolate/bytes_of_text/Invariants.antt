use Rattle.bites_machine.proofs.Library.{◌≡◌, ℕ, false, List, length, Option, IsNew, IsFront, GivesTexts, GivesNumbers}
use Rattle.bites_machine.proofs.templates.InterpolateTexts.{Appended, text_of_template}
use Rattle.bites_machine.proofs.interpolate.bytes_of_text.Given as goal

abbrev pub invariant-loop-rest : goal.invariant-loop-rest
invariant-loop-rest g l = record {
  kept : IsFront l.fn.dst.items l.dst.items;
  closes : l.rest.1.0 ≡ false → IsNew 125 l.rest.0.now;
  appended : (texts : ℕ → Option (List ℕ)) (numbers : List ℕ → Option ℕ) →
      GivesTexts (λ k r. g.T.Fn.post l.text_of (k, tt) r) texts → GivesNumbers (λ n r. g.I.Fn.post l.index_of (n, tt) r) numbers →
      Appended l.fn.dst.items l.dst.items (text_of_template texts numbers l.template) (text_of_template texts numbers l.rest.0.now);
}

abbrev pub decreases-loop-rest : goal.decreases-loop-rest
decreases-loop-rest g l = length l.rest.0.now
