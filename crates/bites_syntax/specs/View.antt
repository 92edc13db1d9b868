-- What the program's types stand for in the definitions.
use Rattle.bites_spec.specs.Class as sets
use Rattle.bites_spec.specs.Look as assertion
use Rattle.bites_spec.specs.Tree.{Tree, empty, char, class, look, repetition, group, sequence, alternation, trees_of}
use Rattle.bites_syntax.specs.declared.look.Look as declared
use Rattle.bites_syntax.specs.declared.look.Look.TheVariants.{Start, End, StartLF, EndLF, StartCRLF, EndCRLF, Word, WordNegate, WordStart, WordEnd, WordStartHalf, WordEndHalf}
use Rattle.bites_syntax.specs.declared.named_class.NamedClass.{NamedClass}
use Rattle.bites_syntax.specs.declared.named_class.NamedClass.TheVariants as named
use Rattle.bites_syntax.specs.declared.tree.Kind.{Kind}
use Rattle.bites_syntax.specs.declared.tree.Kind.TheVariants.{Empty, Char, Class, Look, Repetition, Capture, Concat, Alternation}

-- an assertion of the program as one of the definitions
abbrev pub look_of : declared.Look → assertion.Look
look_of Start = assertion.start
look_of End = assertion.end
look_of StartLF = assertion.start_lf
look_of EndLF = assertion.end_lf
look_of StartCRLF = assertion.start_crlf
look_of EndCRLF = assertion.end_crlf
look_of Word = assertion.word
look_of WordNegate = assertion.word_negate
look_of WordStart = assertion.word_start
look_of WordEnd = assertion.word_end
look_of WordStartHalf = assertion.word_start_half
look_of WordEndHalf = assertion.word_end_half

-- a named class of the program as one of the definitions
abbrev pub named_of : NamedClass → sets.NamedClass
named_of named.Alnum = sets.alnum
named_of named.Alpha = sets.alpha
named_of named.Ascii = sets.ascii
named_of named.Blank = sets.blank
named_of named.Cntrl = sets.cntrl
named_of named.Digit = sets.digit
named_of named.Graph = sets.graph
named_of named.Lower = sets.lower
named_of named.Print = sets.print
named_of named.Punct = sets.punct
named_of named.Space = sets.space
named_of named.Upper = sets.upper
named_of named.Word = sets.word
named_of named.Xdigit = sets.xdigit

-- a node of the program as a tree, where each part is one already
abbrev pub tree_of : Kind → Tree
tree_of Empty = empty
tree_of (Char c) = char c
tree_of (Class ranges) = class ranges
tree_of (Look l) = look (look_of l)
tree_of (Repetition min max greedy sub) = repetition min max greedy sub.value
tree_of (Capture number name sub) = group number name sub.value
tree_of (Concat parts) = sequence (trees_of parts.items)
tree_of (Alternation parts) = alternation (trees_of parts.items)
