-- Lines with matches replaced.
use Rattle.std.proofs.Common.{◌≡◌, ℕ, List, ◌++◌, refl, sym, ap, ◌∙◌}
use Rattle.std.specs.Borrow.{Bor}
use Rattle.std.specs.Io.BufRead.{strip_last}
use Rattle.bites_filter.specs.Lines.{line_feed_of}
use Rattle.bites_filter.specs.Substituted.{Substitutes}
use Rattle.bites_filter.proofs.Written.{line_is}
use Rattle.bites_spec.specs.Found.{NoMatch}
use Rattle.bites_spec.specs.Regex.{Regex}
use Rattle.bites_spec.specs.Utf8.{places}
use Rattle.clients.specs.declared.sed.editor.Editor.{Editor}
use Rattle.clients.specs.Edited.{IsEdited}

pub is_edited : (r : Regex) (template : List ℕ) (n : ℕ) (line new : List ℕ) → Substitutes r template n (strip_last 10 line) new →
    (NoMatch r.tree (strip_last 10 line) (places (strip_last 10 line) 0) → new ≡ strip_last 10 line) → IsEdited r template n line (new ++ line_feed_of line)
is_edited r template n line new substitutes same = record {
  new = new;
  substitutes = substitutes;
  written_is = refl;
  unchanged = λ none. ap (λ text. text ++ line_feed_of line) (same none) ∙ sym (line_is line);
}

abbrev editor_of : Regex → Bor (List ℕ) → ℕ → Editor
editor_of r template limit = record { searcher = r; template = template; limit = limit }

-- an editor whose regex is given back is unchanged
pub same_editor : (s : Editor) (r : Regex) → r ≡ s.searcher →
    ◌≡◌ {A = Editor} (record { searcher = r; template = s.template; limit = s.limit }) s
same_editor s r e = ap (λ (q : Regex). editor_of q s.template s.limit) e
