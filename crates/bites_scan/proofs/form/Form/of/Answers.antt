use Rattle.std.proofs.Common.{◌≡◌, Bool, true, false, not, refl, sym, subst, ◌∙◌}
use Rattle.std.proofs.lemmas.Slice.Eq.{bytes_eq-Decides}
use Rattle.bites_scan.specs.Forms.{form_stops}
use Rattle.bites_scan.specs.Halves.{nibbles_stop}
use Rattle.bites_scan.specs.Stops.{AreWords}
use Rattle.bites_scan.proofs.MarkLemmas.{same_words}
use Rattle.bites_scan.proofs.form.Form.of.Goals as goal

holds : (b : Bool) → not b ≡ false → b ≡ true
holds true e = refl
holds false e = sym e

pub returns-clause-form : goal.returns-clause-form
returns-clause-form c =
    let guessed = c.words.result in
    let words = c.words-words.result in
    same_words (form_stops c.guess_of-guess.result) (nibbles_stop c.args.set) guessed words ((bytes_eq-Decides guessed words).0 (holds _ (sym c.ne.ensures ∙ c.if-ne.false))) c.words.ensures c.words-words.ensures

pub returns-clause-words : goal.returns-clause-words
returns-clause-words c =
    let guessed = c.words.result in
    let words = c.words-words.result in
    subst (AreWords (form_stops c.guess_of-guess.result)) ((bytes_eq-Decides guessed words).0 (holds _ (sym c.ne.ensures ∙ c.if-ne.false))) c.words.ensures
