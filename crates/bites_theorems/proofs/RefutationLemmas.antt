-- Words of this crate are false of wrong values.
use Rattle.std.proofs.Common.{◌≡◌, ℕ, ◌<◌, ◌≤◌, ◌⊎◌, List, [], ◌∷◌, ◌++◌, Option, Some, None, codes, refl, sym, ap, ◌∙◌, subst, inl, inr, arith}
use Rattle.std.specs.Str.{chars}
use lib.Utf8.{encode}
use Rattle.bites_spec.specs.Utf8.{piece, front_piece, places}
use Rattle.bites_spec.specs.Message.{Message, unclosed_group, too_much_nesting}
use Rattle.bites_spec.specs.RangesOf.{ranges_of}
use Rattle.bites_spec.specs.Reader.{read, inner}
use Rattle.bites_spec.specs.GrammarLaws.{IsRefusedBy}
use Rattle.bites_spec.specs.Settings.{by_default, no_flags}
use Rattle.bites_spec.specs.Match.{Span, span, Mark, mark, Matches, Parse, groups}
use Rattle.bites_spec.specs.Preference.{ParseTo, parses}
use Rattle.bites_spec.specs.Found.{head_of, parse_to}
use Rattle.bites_spec.proofs.Laws as laws
use Rattle.bites_text.specs.Messages.{error_of}
use Rattle.bites_text.specs.declared.error.Error.TheVariants.{UnclosedGroup, UnopenedGroup, TooMuchNesting}
use Rattle.bites_bytes.specs.Settings.{Refuses, fault, limit}
use Rattle.bites_theorems.specs.Refutations.{WithinRefuses, NoLaterRefuses, ApartRefuses, a_or_ab, EndsRefuse, a_or_b, ParsesRefuse, ChoiceRefuses, RefusalsRefuse}

pub within_refuses : WithinRefuses
within_refuses = (
  λ h. let le : 1 ≤ 0 = h.0 in absurd (omega arith),
  λ h. let le : 4 ≤ 3 = h.2 in absurd (omega arith),
  λ h. let le : 3 ≤ 2 = h.1 in absurd (omega arith),
)

pub no_later_refuses : NoLaterRefuses
no_later_refuses = (λ le. let more : 2 ≤ 1 = le in absurd (omega arith), λ h. h, λ h. h)

pub apart_refuses : ApartRefuses
apart_refuses = (
  λ h. let lt : 1 < 1 = h.1.0 in absurd (omega arith),
  λ h. let le : 2 ≤ 1 = h.0.2.0 in absurd (omega arith),
  λ h. let le : 2 ≤ 1 = h.0.2 in absurd (omega arith),
)

end_of : Option ParseTo → ℕ
end_of None = 0
end_of (Some w) = w.end

preferred_is_1 : (j : ℕ) (ms : List Mark) → head_of (parses (codes "ab") a_or_ab 0) ≡ Some (parse_to j ms) → j ≡ 1
unfolding places piece front_piece parses end_of
preferred_is_1 j ms e = sym (ap end_of e)

ab_matches : Matches (codes "ab") a_or_ab 0 2
unfolding piece front_piece
ab_matches = inr (inl (1, (omega arith, refl, refl), (2, (omega arith, refl, refl), refl)))

pub ends_refuse : EndsRefuse
ends_refuse = (
  λ (ms, e). let same = preferred_is_1 2 ms e in absurd (omega arith),
  λ last. let le : 2 ≤ 1 = last 2 ab_matches in absurd (omega arith),
)

a_at_0 : Matches (codes "ab") a_or_b 0 1
unfolding piece front_piece
a_at_0 = inl (omega arith, refl, refl)

-- a parse of `(a)|(b)` has the one group or the other
one_group : (i j : ℕ) (ms : List Mark) → Parse (codes "ab") a_or_b i j ms →
    ((groups i j ms 1 ≡ Some (span i j)) × (groups i j ms 2 ≡ None)) ⊎ ((groups i j ms 1 ≡ None) × (groups i j ms 2 ≡ Some (span i j)))
one_group i j ms (inl (before, (takes, none), is)) =
    let same : ms ≡ mark 1 i j ∷ [] = is ∙ ap (λ (l : List Mark). l ++ mark 1 i j ∷ []) none in
    inl (ap (λ l. groups i j l 1) same, ap (λ l. groups i j l 2) same)
one_group i j ms (inr (inl (before, (takes, none), is))) =
    let same : ms ≡ mark 2 i j ∷ [] = is ∙ ap (λ (l : List Mark). l ++ mark 2 i j ∷ []) none in
    inr (ap (λ l. groups i j l 1) same, ap (λ l. groups i j l 2) same)
one_group i j ms (inr (inr never)) = absurd never

not_both : (i j : ℕ) (ms : List Mark) → Parse (codes "ab") a_or_b i j ms → (g h : Span) → Some g ≡ groups i j ms 1 → Some h ≡ groups i j ms 2 → ⊥
not_both i j ms parse g h one two = by (one_group i j ms parse)
  where
    by : ((groups i j ms 1 ≡ Some (span i j)) × (groups i j ms 2 ≡ None)) ⊎ ((groups i j ms 1 ≡ None) × (groups i j ms 2 ≡ Some (span i j))) → ⊥
    by (inl (there, none)) = let never : Some h ≡ None = two ∙ none in absurd (cc)
    by (inr (none, there)) = let never : Some g ≡ None = one ∙ none in absurd (cc)

not_neither : (i j : ℕ) (ms : List Mark) → Parse (codes "ab") a_or_b i j ms → None ≡ groups i j ms 1 → None ≡ groups i j ms 2 → ⊥
not_neither i j ms parse one two = by (one_group i j ms parse)
  where
    by : ((groups i j ms 1 ≡ Some (span i j)) × (groups i j ms 2 ≡ None)) ⊎ ((groups i j ms 1 ≡ None) × (groups i j ms 2 ≡ Some (span i j))) → ⊥
    by (inl (there, none)) = let never : None ≡ Some (span i j) = one ∙ there in absurd (cc)
    by (inr (none, there)) = let never : None ≡ Some (span i j) = two ∙ there in absurd (cc)

parts_of : Option Span → ℕ × ℕ
parts_of None = (0, 0)
parts_of (Some g) = (g.start, g.end)

start_of_whole : (i j k l : ℕ) → Some (span i j) ≡ Some (span k l) → i ≡ k
unfolding parts_of
start_of_whole i j k l e = ap (λ o. (parts_of o).0) e

end_of_whole : (i j k l : ℕ) → Some (span i j) ≡ Some (span k l) → j ≡ l
unfolding parts_of
end_of_whole i j k l e = ap (λ o. (parts_of o).1) e

pub parses_refuse : ParsesRefuse
unfolding places piece front_piece
parses_refuse = (
  λ h. not_both h.start h.end h.marks h.parse (span 0 1) (span 1 2) (h.groups 1) (h.groups 2),
  λ h. let at = start_of_whole 1 2 h.start h.end (h.groups 0) in h.first.none_before 0 (inl refl) (omega arith) 1 a_at_0,
  λ h. not_neither h.start h.end h.marks h.parse (h.groups 1) (h.groups 2),
)

pub choice_refuses : ChoiceRefuses
choice_refuses = (
  λ h.
      let at = start_of_whole 0 2 h.start h.end (h.groups 0) in
      let to = end_of_whole 0 2 h.start h.end (h.groups 0) in
      let same = preferred_is_1 h.end h.marks
      (subst (λ i. head_of (parses (codes "ab") a_or_ab i) ≡ Some (parse_to h.end h.marks)) (sym at) h.chosen) in
      absurd (omega arith),
  λ h.
      let at = start_of_whole 0 1 h.start h.end (h.groups 0) in
      let to = end_of_whole 0 1 h.start h.end (h.groups 0) in
      let le = h.chosen 2 (subst (λ i. Matches (codes "ab") a_or_ab i 2) at ab_matches) in
      absurd (omega arith),
)

a_is_read : (m : Message) → IsRefusedBy 50 m (read ranges_of 50 (chars (codes "a")) no_flags) → m ≡ too_much_nesting
unfolding chars inner encode
a_is_read m h = h.1

open_is_refused : (m : Message) → IsRefusedBy 50 m (read ranges_of 50 (chars (codes "(")) no_flags) → m ≡ unclosed_group
unfolding chars inner encode
open_is_refused m h = h

a_is_not_refused : Refuses (by_default (codes "a")) UnclosedGroup → ⊥
a_is_not_refused (fault m f same) =
    let by = a_is_read m ((laws.reader_refuses (chars (codes "a")) no_flags 50 m).0 f) in
    let never : UnclosedGroup ≡ TooMuchNesting = same ∙ ap error_of by in absurd (cc)
a_is_not_refused (limit t reading h) = absurd h

open_has_one_message : Refuses (by_default (codes "(")) UnopenedGroup → ⊥
open_has_one_message (fault m f same) =
    let by = open_is_refused m ((laws.reader_refuses (chars (codes "(")) no_flags 50 m).0 f) in
    let never : UnopenedGroup ≡ UnclosedGroup = same ∙ ap error_of by in absurd (cc)
open_has_one_message (limit t reading h) = absurd h

pub refusals_refuse : RefusalsRefuse
refusals_refuse = (a_is_not_refused, open_has_one_message)
