-- What the assertions of a program tell apart.
use Rattle.std.specs.Prelude.{◌≡◌, ℕ, Bool, true, false, ◌&&◌, ◌||◌, List, Some}
use Rattle.bites_spec.specs.Look.{Look, start, end, start_lf, end_lf, start_crlf, end_crlf, word, word_negate, word_start, word_end, word_start_half, word_end_half, is_byte, is_word}
use Rattle.bites_spec.specs.Program.{State, state_at, goto}
use Rattle.bites_table.specs.Kinds.{Kind, is_edge, byte_of}
use Rattle.bites_table.specs.declared.distinctions.Distinctions.{Distinctions}

-- a line feed, or an end of the haystack
abbrev pub is_line : Kind → Bool
is_line k = is_edge k || is_byte 10 (byte_of k)

abbrev pub is_return : Kind → Bool
is_return k = is_byte 13 (byte_of k)

abbrev pub is_word_kind : Kind → Bool
is_word_kind k = is_word (byte_of k)

abbrev pub nothing : Distinctions
nothing = record { edge = false; line = false; carriage_return = false; word = false }

abbrev pub edges : Distinctions
edges = record { edge = true; line = false; carriage_return = false; word = false }

abbrev pub lines : Distinctions
lines = record { edge = false; line = true; carriage_return = false; word = false }

abbrev pub returns : Distinctions
returns = record { edge = false; line = false; carriage_return = true; word = false }

abbrev pub lines_and_returns : Distinctions
lines_and_returns = record { edge = false; line = true; carriage_return = true; word = false }

abbrev pub edges_and_lines : Distinctions
edges_and_lines = record { edge = true; line = true; carriage_return = false; word = false }

abbrev pub all_but_words : Distinctions
all_but_words = record { edge = true; line = true; carriage_return = true; word = false }

abbrev pub words : Distinctions
words = record { edge = false; line = false; carriage_return = false; word = true }

-- what an assertion tells apart of the byte before
abbrev pub before_by : Look → Distinctions
before_by start = edges
before_by end = nothing
before_by start_lf = lines
before_by end_lf = nothing
before_by start_crlf = lines_and_returns
before_by end_crlf = returns
before_by word = words
before_by word_negate = words
before_by word_start = words
before_by word_end = words
before_by word_start_half = words
before_by word_end_half = nothing

-- and of the character after
abbrev pub after_by : Look → Distinctions
after_by start = nothing
after_by end = edges
after_by start_lf = nothing
after_by end_lf = lines
after_by start_crlf = edges_and_lines
after_by end_crlf = all_but_words
after_by word = words
after_by word_negate = words
after_by word_start = words
after_by word_end = words
after_by word_start_half = nothing
after_by word_end_half = words

-- what one of the two tells apart
abbrev pub either : Distinctions → Distinctions → Distinctions
either a b = record {
  edge = a.edge || b.edge;
  line = a.line || b.line;
  carriage_return = a.carriage_return || b.carriage_return;
  word = a.word || b.word;
}

-- what is seen of a kind, where no more than this is told apart
abbrev pub seen : Distinctions → Kind → Distinctions
seen d k = record {
  edge = d.edge && is_edge k;
  line = d.line && is_line k;
  carriage_return = d.carriage_return && is_return k;
  word = d.word && is_word_kind k;
}

-- the second tells apart what the first does
pub record IsWithin (a d : Distinctions) : Type 0 where
  pub edge : a.edge ≡ true → d.edge ≡ true
  pub line : a.line ≡ true → d.line ≡ true
  pub carriage_return : a.carriage_return ≡ true → d.carriage_return ≡ true
  pub word : a.word ≡ true → d.word ≡ true

-- what a state tells apart of the byte before, and of the character after
abbrev pub before_state : State → Distinctions
before_state (goto q (Some look)) = before_by look
before_state _ = nothing

abbrev pub after_state : State → Distinctions
after_state (goto q (Some look)) = after_by look
after_state _ = nothing

-- what the assertions of these states tell apart of the byte before is told apart, and of the character after
abbrev pub CoverBefore : Distinctions → List State → Type 0
CoverBefore d ss = (q : ℕ) → IsWithin (before_state (state_at ss q)) d

abbrev pub CoverAfter : Distinctions → List State → Type 0
CoverAfter d ss = (q : ℕ) → IsWithin (after_state (state_at ss q)) d
