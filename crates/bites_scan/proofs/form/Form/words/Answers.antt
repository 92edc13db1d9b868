use Rattle.std.proofs.Common.{false, [], ◌∷◌, sym, subst}
use Rattle.std.proofs.lemmas.Nat.Bits.{bit_at-zero}
use Rattle.bites_scan.specs.declared.form.Form.{Form}
use Rattle.bites_scan.specs.Forms.{form_stops}
use Rattle.bites_scan.specs.Stops.{AreWords}
use Rattle.bites_scan.proofs.MarkLemmas.{are_words}
use Rattle.bites_scan.proofs.form.Form.words.Goals as goal

pub returns-in-Never : goal.returns-in-Never
returns-in-Never c =
    subst (λ (form : Form). AreWords (form_stops form) (0 ∷ 0 ∷ 0 ∷ 0 ∷ [])) (sym c.in-Never.is)
    (are_words (λ byte. false) 0 0 0 0 (λ k h. bit_at-zero k) (λ k h. bit_at-zero k) (λ k h. bit_at-zero k) (λ k h. bit_at-zero k))
