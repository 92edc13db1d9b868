-- What is written to the memory of C.
use Rattle.std.specs.Prelude.{◌≡◌, ◌≢◌, ◌<◌, ◌≤◌, ◌++◌, ◌/◌, ℕ, min, cond, nat_eq, List, [], ◌∷◌, length, map, take, drop, Option, Some, None, unwrap_or}
use Rattle.std.specs.List.{range_with_len}
use Rattle.bites_spec.specs.Match.{Span}
use Rattle.bites_spec.specs.Captured.{Captured}
use Rattle.bites_spec.specs.Slots.{group_in}
use Rattle.bites_text.specs.declared.error.Error.TheVariants.{Memory}
use Rattle.bites_text.specs.Texts.{code_of}
use Rattle.bites_c.specs.Codes.{matched, not_matched, done, too_small, no_name}
use Rattle.bites_c.specs.declared.text.BitesSize.{BitesSize}
use Rattle.bites_c.specs.declared.span.BitesSpan.{BitesSpan}
use Rattle.bites_c.specs.declared.table.BitesTable.{BitesTable}

-- the size of no table
abbrev pub no_table : BitesTable
no_table = record { lists = 0; bytes = 0; is_whole = 0 }

-- a span, or the greatest number twice
abbrev pub span_for_c : Option Span → BitesSpan
span_for_c None = record { start = 0xFFFF_FFFF_FFFF_FFFF; end = 0xFFFF_FFFF_FFFF_FFFF }
span_for_c (Some s) = record { start = s.start; end = s.end }

-- the end of the previous match as C passes it, or none for the greatest number
abbrev pub last_for_c : ℕ → Option ℕ
last_for_c n = cond (nat_eq n 0xFFFF_FFFF_FFFF_FFFF) None (Some n)

-- the offset that was found replaces the old one, which is unchanged if none was found
abbrev pub Puts : Option ℕ → ℕ → ℕ → ℕ → Type 0
Puts None number old new = (number ≡ not_matched) × (new ≡ old)
Puts (Some place) number old new = (number ≡ matched) × (new ≡ place)

-- the same for a span
abbrev pub PutsSpan : Option Span → ℕ → BitesSpan → BitesSpan → Type 0
PutsSpan None number old new = (number ≡ not_matched) × (new ≡ old)
PutsSpan (Some s) number old new = (number ≡ matched) × (new ≡ span_for_c (Some s))

-- the start of a piece after a match: the end of the match, or 0 if there was none, and at most the length of the haystack
abbrev pub piece_start : ℕ → ℕ → ℕ
piece_start len last = min (unwrap_or (last_for_c last) 0) len

-- the piece before the span that was found is put, and the end of that span; if none was found, the piece up to the end is put
abbrev pub PutsPiece : Option Span → ℕ → ℕ → ℕ → ℕ → BitesSpan → Type 0
PutsPiece None len number last next piece =
    (number ≡ not_matched) × (next ≡ last) × (piece ≡ record { start = piece_start len last; end = len })
PutsPiece (Some s) len number last next piece =
    (number ≡ matched) × (next ≡ s.end) × (piece ≡ record { start = piece_start len last; end = s.start })

-- the first n groups in the slots
abbrev pub groups_for_c : List (Option ℕ) → ℕ → List BitesSpan
groups_for_c slots n = map (λ k. span_for_c (group_in slots k)) (range_with_len 0 n)

-- the first n places have the first n groups in the slots, and the rest is unchanged
pub record HasPrefix (slots : List (Option ℕ)) (n : ℕ) (old new : List BitesSpan) : Type 0 where
  pub front : take n new ≡ groups_for_c slots n
  pub rest : drop n new ≡ drop n old

-- the groups in the slots are put into the first places, of which there are as many as before
pub record PutsFront (slots : List (Option ℕ)) (old new : List BitesSpan) : Type 0 where
  pub prefix : HasPrefix slots (length slots / 2) old new
  pub len : length new ≡ length old

-- the groups that were found are put into the first places; if none were found, all is unchanged
abbrev pub PutsGroups : Option (List (Option ℕ)) → ℕ → ℕ → List BitesSpan → List BitesSpan → Type 0
PutsGroups None n number old new = (number ≡ not_matched) × (new ≡ old)
PutsGroups (Some slots) n number old new = (number ≡ matched) × HasPrefix slots n old new

-- if the text fits, it is put into the first bytes and the code is this number, else all is unchanged; the size is that of the
-- text
pub record PutsTextAs (number : ℕ) (text : List ℕ) (answer : BitesSize) (old new : List ℕ) : Type 0 where
  pub size : answer.size ≡ length text
  pub fits : length text ≤ length old → (answer.code ≡ number) × (new ≡ text ++ drop (length text) old)
  pub small : length old < length text → (answer.code ≡ too_small) × (new ≡ old)

-- the same with the code of a call that is done
abbrev pub PutsText : List ℕ → BitesSize → List ℕ → List ℕ → Type 0
PutsText = PutsTextAs done

-- the same for a name, if there is one
abbrev pub PutsName : Option (List ℕ) → BitesSize → List ℕ → List ℕ → Type 0
PutsName None answer old new = (answer.code ≡ no_name) × (answer.size ≡ 0) × (new ≡ old)
PutsName (Some text) answer old new = PutsText text answer old new

-- nothing is put, and the code is this number
abbrev pub PutsNone : ℕ → BitesSize → List ℕ → List ℕ → Type 0
PutsNone number answer old new = (answer.code ≡ number) × (answer.size ≡ 0) × (new ≡ old)

-- the text is put if it fits, unless memory was refused
abbrev pub PutsMade : List ℕ → BitesSize → List ℕ → List ℕ → Type 0
PutsMade text answer old new =
    (answer.code ≡ code_of Memory → PutsNone (code_of Memory) answer old new)
    × (answer.code ≢ code_of Memory → PutsText text answer old new)

-- if there are matches, the text with them replaced is put; if there are none, all is unchanged, and the size is that of the
-- haystack
abbrev pub PutsIfMatched : List Captured → ℕ → List ℕ → BitesSize → List ℕ → List ℕ → Type 0
PutsIfMatched [] len text answer old new = (answer.code ≡ not_matched) × (answer.size ≡ len) × (new ≡ old)
PutsIfMatched (c ∷ cs) len text answer old new = PutsTextAs matched text answer old new

-- the same, unless memory was refused
abbrev pub PutsReplaced : List Captured → ℕ → List ℕ → BitesSize → List ℕ → List ℕ → Type 0
PutsReplaced cs len text answer old new =
    (answer.code ≡ code_of Memory → PutsNone (code_of Memory) answer old new)
    × (answer.code ≢ code_of Memory → PutsIfMatched cs len text answer old new)

-- the room with as many of the first bytes of the text as leave a byte, and 0 after them; no room stays as it is
abbrev pub with_nul : List ℕ → List ℕ → List ℕ
with_nul text [] = []
with_nul text (b ∷ bs) = take (length bs) text ++ 0 ∷ drop (length text) bs

-- the number of a group is returned, if there is one
abbrev pub ReturnsIndex : Option ℕ → BitesSize → Type 0
ReturnsIndex None answer = (answer.code ≡ no_name) × (answer.size ≡ 0)
ReturnsIndex (Some index) answer = (answer.code ≡ done) × (answer.size ≡ index)
