-- Texts that are written one after another.
use Rattle.std.proofs.Common.{◌≡◌, ℕ, ◌-◌, ◌<◌, List, [], ◌++◌, length, Option, Some, None, sym, ap, ◌∙◌, inl, inr, eqb-true, append_assoc, arith}
use Rattle.std.proofs.lemmas.Bool.{cases_Bool, and_parts}
use Rattle.std.proofs.lemmas.Grind.{common_steps}
use Rattle.std.proofs.lemmas.List.{append-nil}
use borrow.Author.Tests.{ltb-true}
use Rattle.std.specs.Prelude.{◌==◌, nat_lt, slice_index}
use Rattle.std.specs.Io.BufRead.{strip_last, ends_with_byte}
use Rattle.std.specs.Io.KnownBytes.{Appends, Keeps}
use Rattle.bites_filter.specs.Lines.{line_feed_of}

pub appends_none : (o : Option (List ℕ)) → Appends o o []
appends_none None = tt
appends_none (Some xs) = sym (append-nil xs)

pub appends_both : (a b c : Option (List ℕ)) (x y : List ℕ) → Appends a b x → Appends b c y → Appends a c (x ++ y)
appends_both None b c x y f g = tt
appends_both (Some a) None c x y f g = absurd f
appends_both (Some a) (Some b) None x y f g = absurd g
appends_both (Some a) (Some b) (Some c) x y f g = g ∙ ap (λ l. l ++ y) f ∙ append_assoc a x y

pub appends_kept : (a b c : Option (List ℕ)) (x : List ℕ) → Appends a b x → Keeps b c → Appends a c x
appends_kept None b c x f k = tt
appends_kept (Some a) None c x f k = absurd f
appends_kept (Some a) (Some b) None x f k = absurd k
appends_kept (Some a) (Some b) (Some c) x f k = k ∙ f

-- a line is its text followed by its line feed
pub line_is : (line : List ℕ) → line ≡ strip_last 10 line ++ line_feed_of line
line_is line = elim (cases_Bool (ends_with_byte 10 line)) [
  | inl is ↦ let both = and_parts (nat_lt 0 (length line)) (slice_index line (length line - 1) == 10) is in
      let some : 0 < length line = ltb-true 0 (length line) both.0 in
      let last : slice_index line (length line - 1) ≡ 10 = eqb-true (slice_index line (length line - 1)) 10 both.1 in
      rw is (grind (arith, common_steps, some, last))
  | inr is ↦ rw is (sym (append-nil line))
]
