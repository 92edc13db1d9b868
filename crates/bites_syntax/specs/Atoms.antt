-- Items that are nodes of their own but not groups, as the reader returns them.
use Rattle.std.specs.Prelude.{ℕ, Bool, ◌||◌, ◌==◌}
use Rattle.bites_spec.specs.Grammar.{literal_of, dot_set, caret_look, dollar_look}
use Rattle.bites_spec.specs.Pattern.{Text, Flags, skip, dot, caret, dollar, backslash, left_bracket}
use Rattle.bites_spec.specs.RangesOf.{ranges_of}
use Rattle.bites_spec.specs.Reader.{ReadResult, answer, and_then, choose, bracket, escape, node_of}
use Rattle.bites_spec.specs.Tree as tree
use Rattle.bites_spec.specs.Tree.{Tree}

-- whether a node that is not this character begins with it
abbrev pub begins_atom : ℕ → Bool
begins_atom c = (c == left_bracket) || ((c == backslash) || ((c == dot) || ((c == caret) || (c == dollar))))

-- the node that begins with this character, where this text follows it
abbrev pub atom : ℕ → Flags → ℕ → Text → ReadResult Tree
atom n flags c t =
    choose (c == left_bracket) (λ _. and_then (bracket n flags (skip flags t)) (λ set rest. answer (tree.class (ranges_of set)) rest))
    (λ _. choose (c == backslash) (λ _. and_then (escape n flags t) (λ meaning rest. answer (node_of ranges_of 0 flags meaning) rest))
    (λ _. choose (c == dot) (λ _. answer (tree.class (ranges_of (dot_set flags))) t)
    (λ _. choose (c == caret) (λ _. answer (tree.look (caret_look flags)) t)
    (λ _. choose (c == dollar) (λ _. answer (tree.look (dollar_look flags)) t) (λ _. answer (literal_of flags c) t)))))
