-- The slots of a match whose place and width are known.
use Rattle.std.proofs.Common.{◌≡◌, ℕ, zero, suc, ◌+◌, ◌*◌, ◌<◌, ◌≤◌, List, [], ◌∷◌, ◌++◌, length, take, get_or, Option, Some, None, option_map, refl, sym, ap, ◌∙◌, subst, ◌⊎◌, inl, inr, arith, eq-eqb, ne_eqb}
use Rattle.std.specs.Prelude.{slice_set, ◌==◌}
use Rattle.std.specs.Option.{option_or}
use Rattle.std.proofs.lemmas.Bool.{cases_eq}
use Rattle.std.proofs.lemmas.List.{get_or-set_same, get_or-set_other, length-set, ext_get_or}
use Rattle.std.specs.Prelude.{if◌then◌else◌}
use Rattle.bites_spec.specs.Match.{Mark, Parse, Span, groups, last_mark, mark, span}
use Rattle.bites_spec.specs.Run.{IsRun, Run, slots}
use Rattle.bites_spec.specs.Slots.{HasGroups, slot_in}
use Rattle.bites_spec.specs.Regex.{Regex, IsCompiled}
use Rattle.bites_spec.proofs.programs.BuiltLemmas.{run_is_parse}
use Rattle.bites_literals.specs.FixedWidth.{IsFixedWidth, IsHere, marks_of}
use Rattle.bites_literals.specs.declared.fixed_width.FixedWidth.{FixedWidth}
use Rattle.bites_literals.specs.declared.fixed_width.Group.{Group}
use Rattle.bites_bytes.specs.FixedGroups.{HoldsGroups}
use Rattle.bites_bytes.proofs.SlotLemmas.{length-slots}

-- so many slots have the last marks of the groups, but for group 0
pub record HoldsMarks (ms : List Mark) (n : ℕ) (slots : List (Option ℕ)) : Type 0 where
  pub count : length slots ≡ n
  pub begin : (k : ℕ) → 2 * k + 1 < n → slot_in slots (2 * k) ≡ option_map (λ s. s.start) (last_mark ms k)
  pub end : (k : ℕ) → 2 * k + 1 < n → slot_in slots (2 * k + 1) ≡ option_map (λ s. s.end) (last_mark ms k)

-- one mark more
last_mark_more : (ms : List Mark) (m : Mark) (k : ℕ) → last_mark (ms ++ m ∷ []) k ≡ option_or (if m.group == k then Some m.span else None) (last_mark ms k)
last_mark_more [] m k = both (if m.group == k then Some m.span else None)
  where
    both : (o : Option Span) → option_or None o ≡ option_or o None
    both None = refl
    both (Some s) = refl
last_mark_more (x ∷ ms) m k =
    ap (λ o. option_or o (if x.group == k then Some x.span else None)) (last_mark_more ms m k)
    ∙ one_by_one (if m.group == k then Some m.span else None) (last_mark ms k) (if x.group == k then Some x.span else None)
  where
    one_by_one : (a b c : Option Span) → option_or (option_or a b) c ≡ option_or a (option_or b c)
    one_by_one None b c = refl
    one_by_one (Some s) b c = refl

mark_here : (ms : List Mark) (n i j : ℕ) → last_mark (ms ++ mark n i j ∷ []) n ≡ Some (span i j)
mark_here ms n i j = last_mark_more ms (mark n i j) n ∙ ap (λ b. option_or (if b then Some (span i j) else None) (last_mark ms n)) (eq-eqb n n refl)

mark_elsewhere : (ms : List Mark) (n i j k : ℕ) → (n ≡ k → ⊥) → last_mark (ms ++ mark n i j ∷ []) k ≡ last_mark ms k
mark_elsewhere ms n i j k other = last_mark_more ms (mark n i j) k ∙ ap (λ b. option_or (if b then Some (span i j) else None) (last_mark ms k)) (ne_eqb n k other)

module _ (slots : List (Option ℕ)) (at : ℕ) (a b : Option ℕ) (room : at + 1 < length slots) where
  abbrev pub with_both : List (Option ℕ)
  with_both = slice_set (slice_set slots at a) (at + 1) b

  first_is : slot_in with_both at ≡ a
  first_is = get_or-set_other (slice_set slots at a) (at + 1) at b None (λ e. omega (arith, e)) ∙ get_or-set_same slots at a None (omega (arith, room))

  second_is : slot_in with_both (at + 1) ≡ b
  second_is = get_or-set_same (slice_set slots at a) (at + 1) b None (omega (arith, room, length-set slots at a))

  other_is : (k : ℕ) → (k ≡ at → ⊥) → (k ≡ at + 1 → ⊥) → slot_in with_both k ≡ slot_in slots k
  other_is k not nor = get_or-set_other (slice_set slots at a) (at + 1) k b None nor ∙ get_or-set_other slots at k a None not

  pub same_count : length with_both ≡ length slots
  same_count = length-set (slice_set slots at a) (at + 1) b ∙ length-set slots at a

-- the slots of a group are written
pub one_mark_more : (ms : List Mark) (n : ℕ) (slots : List (Option ℕ)) (number i j : ℕ) → HoldsMarks ms n slots → 2 * number + 1 < length slots
    → HoldsMarks (ms ++ mark number i j ∷ []) n (slice_set (slice_set slots (2 * number) (Some i)) (2 * number + 1) (Some j))
one_mark_more ms n slots number i j h room = record {
  count = same_count slots (2 * number) (Some i) (Some j) room ∙ h.count;
  begin = λ k lt. elim (cases_eq number k) [
    | inl same ↦ subst (λ k. slot_in new (2 * k) ≡ option_map (λ s. s.start) (last_mark (ms ++ mark number i j ∷ []) k)) same
        (first_is slots (2 * number) (Some i) (Some j) room ∙ sym (ap (option_map (λ s. s.start)) (mark_here ms number i j)))
    | inr other ↦
        other_is slots (2 * number) (Some i) (Some j) room (2 * k) (λ e. other (omega (arith, e))) (λ e. omega (arith, e))
        ∙ h.begin k lt ∙ sym (ap (option_map (λ s. s.start)) (mark_elsewhere ms number i j k other))
  ];
  end = λ k lt. elim (cases_eq number k) [
    | inl same ↦ subst (λ k. slot_in new (2 * k + 1) ≡ option_map (λ s. s.end) (last_mark (ms ++ mark number i j ∷ []) k)) same
        (second_is slots (2 * number) (Some i) (Some j) room ∙ sym (ap (option_map (λ s. s.end)) (mark_here ms number i j)))
    | inr other ↦
        other_is slots (2 * number) (Some i) (Some j) room (2 * k + 1) (λ e. omega (arith, e)) (λ e. other (omega (arith, e)))
        ∙ h.end k lt ∙ sym (ap (option_map (λ s. s.end)) (mark_elsewhere ms number i j k other))
  ];
}
  where
    new : List (Option ℕ)
    new = slice_set (slice_set slots (2 * number) (Some i)) (2 * number + 1) (Some j)

-- it has no slots
pub one_mark_past : (ms : List Mark) (n : ℕ) (slots : List (Option ℕ)) (number i j : ℕ) → HoldsMarks ms n slots → length slots ≤ 2 * number + 1
    → HoldsMarks (ms ++ mark number i j ∷ []) n slots
one_mark_past ms n slots number i j h past = record {
  count = h.count;
  begin = λ k lt. h.begin k lt ∙ sym (ap (option_map (λ s. s.start)) (mark_elsewhere ms number i j k (λ e. omega (arith, past, lt, h.count, e))));
  end = λ k lt. h.end k lt ∙ sym (ap (option_map (λ s. s.end)) (mark_elsewhere ms number i j k (λ e. omega (arith, past, lt, h.count, e))));
}

-- the mark of a group
abbrev pub mark_of : Group → Mark
mark_of g = mark g.number g.start g.end

-- the marks of one group more
pub marks_more : (gs : List Group) (n : ℕ) (d : Group) → n < length gs → marks_of (take (n + 1) gs) ≡ marks_of (take n gs) ++ mark_of (get_or gs n d) ∷ []
marks_more [] n d lt = absurd (omega (arith, lt))
marks_more (g ∷ gs) zero d lt = refl
marks_more (g ∷ gs) (suc n) d lt =
    let later : suc n + 1 ≡ suc (n + 1) = omega arith in
    ap (λ k. marks_of (take k (g ∷ gs))) later ∙ ap (λ ms. mark_of g ∷ ms) (marks_more gs n d (omega (arith, lt)))

-- group 0 is written last
pub all_marks : (f : FixedWidth) (n : ℕ) (slots : List (Option ℕ)) → HoldsMarks (marks_of f.groups.items) n slots → 2 ≤ length slots
    → HoldsGroups f n (slice_set (slice_set slots 0 (Some 0)) 1 (Some f.len))
all_marks f n slots h some = record {
  count = same_count slots 0 (Some 0) (Some f.len) (omega (arith, some)) ∙ h.count;
  begin = begins;
  end = ends;
}
  where
    new : List (Option ℕ)
    new = slice_set (slice_set slots 0 (Some 0)) 1 (Some f.len)

    begins : (k : ℕ) → 2 * k + 1 < n → slot_in new (2 * k) ≡ option_map (λ s. s.start) (groups 0 f.len (marks_of f.groups.items) k)
    begins zero lt = first_is slots 0 (Some 0) (Some f.len) (omega (arith, some))
    begins (suc k) lt =
        other_is slots 0 (Some 0) (Some f.len) (omega (arith, some)) (2 * suc k) (λ e. omega (arith, e)) (λ e. omega (arith, e)) ∙ h.begin (suc k) lt

    ends : (k : ℕ) → 2 * k + 1 < n → slot_in new (2 * k + 1) ≡ option_map (λ s. s.end) (groups 0 f.len (marks_of f.groups.items) k)
    ends zero lt = second_is slots 0 (Some 0) (Some f.len) (omega (arith, some))
    ends (suc k) lt =
        other_is slots 0 (Some 0) (Some f.len) (omega (arith, some)) (2 * suc k + 1) (λ e. omega (arith, e)) (λ e. omega (arith, e)) ∙ h.end (suc k) lt

-- ## The slots of a run

-- an even number or an odd one
halves : (j : ℕ) → (k : ℕ) × ((j ≡ 2 * k) ⊎ (j ≡ 2 * k + 1))
halves zero = (0, inl refl)
halves (suc j) = let h = halves j in elim h.1 [
  | inl even ↦ (h.0, inr (omega (arith, even)))
  | inr odd ↦ (suc h.0, inl (omega (arith, odd)))
]

-- each run has these groups in its slots
pub slots_are : (r : Regex) → IsCompiled r → (f : FixedWidth) → IsFixedWidth r.tree f → (hay : List ℕ) (x : Run) → IsRun r.program hay x.start x.configurations x.end
    → (new : List (Option ℕ)) → HoldsGroups f r.program.slots new → new ≡ slots r.program x
slots_are r is f fixed hay x runs new holds =
    ext_get_or None new (slots r.program x) (holds.count ∙ sym (length-slots r.program x)) each
  where
    parse : (ms : List Mark) × Parse hay r.tree x.start x.end ms × HasGroups r.program x ms
    parse = run_is_parse r.tree r.program hay is.compilable is.built x.start x.end x.configurations runs

    known : (x.start ≡ 0) × (x.end ≡ f.len) × IsHere f hay × (parse.0 ≡ marks_of f.groups.items)
    known = fixed.parses hay x.start x.end parse.0 parse.1

    same : (k : ℕ) → groups 0 f.len (marks_of f.groups.items) k ≡ groups x.start x.end parse.0 k
    same k = ap (λ i. groups i f.len (marks_of f.groups.items) k) (sym known.0) ∙ ap (λ j. groups x.start j (marks_of f.groups.items) k) (sym known.1) ∙ ap (λ ms. groups x.start x.end ms k) (sym known.3)

    each : (j : ℕ) → j < length new → get_or new j None ≡ get_or (slots r.program x) j None
    each j lt = let h = halves j in elim h.1 [
      | inl even ↦
          let room : 2 * h.0 + 1 < r.program.slots = omega (arith, even, lt, holds.count, is.built.slots) in
          subst (λ j. slot_in new j ≡ slot_in (slots r.program x) j) (sym even)
          (holds.begin h.0 room ∙ ap (option_map (λ s. s.start)) (same h.0) ∙ sym (parse.2 h.0).0)
      | inr odd ↦
          let room : 2 * h.0 + 1 < r.program.slots = omega (arith, odd, lt, holds.count) in
          subst (λ j. slot_in new j ≡ slot_in (slots r.program x) j) (sym odd)
          (holds.end h.0 room ∙ ap (option_map (λ s. s.end)) (same h.0) ∙ sym (parse.2 h.0).1)
    ]
