-- Matches that are written one after another.
use Rattle.std.proofs.Common.{◌≡◌, ℕ, List, [], ◌∷◌, ◌++◌, map, flat_map, Option, Result, Ok, Err, IfOk, refl, sym, ap, ◌∙◌, append_assoc}
use Rattle.std.specs.Io.BufRead.{strip_last}
use Rattle.std.specs.Io.KnownBytes.{Appends}
use Rattle.bites_spec.specs.Match.{Span}
use Rattle.bites_spec.specs.Pieces.{text_at}
use Rattle.bites_spec.specs.Captured.{Excerpt, excerpt, text_of}
use Rattle.bites_spec.specs.Regex.{Regex}
use Rattle.bites_spec.specs.Iteration.{spans_in}
use Rattle.bites_spec.specs.AllMatches.{AreMatches}
use Rattle.clients.specs.declared.lines.options.Show.TheVariants.{Matches}
use Rattle.clients.specs.declared.lines.options.Format.{Format}
use Rattle.clients.specs.Selected.{label, labelled_match, IsShown}

module _ (f : Format) (n : ℕ) where
  -- the lines of the matches
  abbrev pub match_lines : List Excerpt → List ℕ
  match_lines = flat_map (λ e. labelled_match (label f n) (text_of e))

  -- a match, and those after it
  pub match_more : (left rest : List Excerpt) (e : Excerpt) (all written : List ℕ) → left ≡ e ∷ rest → all ≡ written ++ match_lines left →
      all ≡ (written ++ labelled_match (label f n) (text_of e)) ++ match_lines rest
  match_more left rest e all written is so =
      so ∙ ap (λ l. written ++ match_lines l) is ∙ sym (append_assoc written (labelled_match (label f n) (text_of e)) (match_lines rest))

  -- the lines of the parts of a text
  pub lines_of_parts : (text : List ℕ) (found : List Span) →
      match_lines (map (excerpt text) found) ≡ flat_map (λ s. labelled_match (label f n) (text_at text s)) found
  lines_of_parts text [] = refl
  lines_of_parts text (s ∷ ss) = ap (λ l. labelled_match (label f n) (text_at text s) ++ l) (lines_of_parts text ss)

  -- if the matches in a line are written, they are shown
  pub matches_shown : {T E : Type 0} (result : Result T E) (r : Regex) (line : List ℕ) (old new : Option (List ℕ)) →
      AreMatches r (strip_last 10 line) (spans_in r (strip_last 10 line)) →
      IfOk result (λ x. Appends old new (match_lines (map (excerpt (strip_last 10 line)) (spans_in r (strip_last 10 line))))) →
      IfOk result (λ x. (text : List ℕ) × IsShown r f Matches n line text × Appends old new text)
  matches_shown (Ok x) r line old new are wrote =
      let text = strip_last 10 line in let found = spans_in r text in
      (match_lines (map (excerpt text) found), (found, are, lines_of_parts text found), wrote)
  matches_shown (Err e) r line old new are wrote = tt
