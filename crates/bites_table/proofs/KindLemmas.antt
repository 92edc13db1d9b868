-- An assertion between two bytes depends on their kinds alone.
use Rattle.bites_table.proofs.Library.{common_steps, ◌==◌, slice_get_past, cases_Bool, nat_tests, ◌≡◌, ℕ, ◌≤◌, true, false, List, length, Option, arith, rules, Look, is_word_byte, is_byte, is_word, before, after, holds_between, eqb-true, slice_get_cases}
use denote.Enum.Bare.{same_true, sameb}
use Rattle.bites_table.specs.Kinds.{kind_of_byte, kind_of, is_edge, byte_of, holds_by}
use Rattle.bites_table.specs.contracts.kind.Kind.{the_type}
use Rattle.bites_table.specs.declared.kind.Kind as code

-- kinds that the code finds equal are one
pub same_kind : (a b : code.Kind) → sameb the_type a b ≡ true → a ≡ b
same_kind a b e = same_true the_type (search rules) a b e

-- a byte of the kind of a byte
abbrev like : ℕ → Option ℕ
like b = byte_of (kind_of_byte b)

pub line_feed_is : (b : ℕ) → is_byte 10 (like b) ≡ (b == 10)
line_feed_is b = grind (arith, common_steps, cases_Bool)

pub carriage_return_is : (b : ℕ) → is_byte 13 (like b) ≡ (b == 13)
carriage_return_is b = grind (arith, common_steps, eqb-true, cases_Bool)

pub word_is : (b : ℕ) → is_word (like b) ≡ is_word_byte b
word_is b = grind (arith, common_steps, eqb-true, cases_Bool)

line_feed_at : (o : Option ℕ) → is_byte 10 o ≡ is_byte 10 (byte_of (kind_of o))
line_feed_at o = grind (arith, common_steps, line_feed_is)

carriage_return_at : (o : Option ℕ) → is_byte 13 o ≡ is_byte 13 (byte_of (kind_of o))
carriage_return_at o = grind (arith, common_steps, carriage_return_is)

word_at : (o : Option ℕ) → is_word o ≡ is_word (byte_of (kind_of o))
word_at o = grind (arith, common_steps, word_is)

-- an assertion sees no more than the kinds
pub between : (look : Look) (b a : Option ℕ) → holds_between look b a (is_edge (kind_of b)) (is_edge (kind_of a)) ≡ holds_by look (kind_of b) (kind_of a)
between look b a = grind (arith, common_steps, line_feed_at, carriage_return_at, word_at)

pub no_edge : (b : ℕ) → is_edge (kind_of_byte b) ≡ false
no_edge b = grind (arith, common_steps)

-- the edges of a haystack
pub edge_before : (hay : List ℕ) (i : ℕ) → i ≤ length hay → is_edge (kind_of (before hay i)) ≡ (i == 0)
edge_before hay v1 le = grind (arith, common_steps, no_edge, slice_get_cases)

pub edge_after : (hay : List ℕ) (i : ℕ) → i ≤ length hay → is_edge (kind_of (after hay i)) ≡ (i == length hay)
edge_after hay i le = grind (arith, common_steps, no_edge, slice_get_cases, slice_get_past, nat_tests)
