-- What a pattern is read as.
use Rattle.std.specs.Prelude.{◌≡◌, chars}
use Rattle.bites_spec.specs.Grammar.{Reads}
use Rattle.bites_spec.specs.Built.{Built}
use Rattle.bites_syntax.specs.FlagsView.{flags_of}
use Rattle.bites_bytes.specs.NextMatch.{kind_of}
use Rattle.clients.specs.declared.explain.options.Options.{Options}
use Rattle.clients.specs.declared.explain.subject.Subject.{Subject}

-- The pattern is read as this tree. The program is built from it, and the regex has it too, so the matches are those of the tree.
-- Each search looks for the match that the regex looks for.
pub record IsRead (o : Options) (s : Subject) : Type 0 where
  pub reads : Reads (chars o.pattern.now) (flags_of o.flags) s.tree
  pub built : Built s.tree s.program.program
  pub tree : s.regex.tree ≡ s.tree
  pub kind : s.kind ≡ kind_of s.regex
