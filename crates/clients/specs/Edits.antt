-- What an editor writes for a line.
use Rattle.std.specs.Prelude.{ℕ, List}
use Rattle.clients.specs.declared.sed.editor.Editor.{Editor}
use Rattle.clients.specs.Edited.{IsEdited}

-- the edited line
abbrev pub Edits : Editor → List ℕ → List ℕ → Type 0
Edits s line text = IsEdited s.searcher s.template.now s.limit line text
