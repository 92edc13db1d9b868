-- The regex of an escaped text.
use Rattle.std.proofs.Common.{◌≡◌, ◌≢◌, ℕ, ◌<◌, ◌≤◌, List, Option, Some, None, option_map, refl, sym, subst, arith, IsUtf8}
use Rattle.std.specs.Prelude.{chars, encode_utf8_all, Result, Ok, Err, IfErr}
use Rattle.std.proofs.lemmas.Str.{IsCharBoundary-start}
use Rattle.bites_spec.specs.Utf8.{places}
use Rattle.bites_spec.specs.Pattern.{Text}
use Rattle.bites_spec.specs.Tree.{Tree}
use Rattle.bites_spec.specs.Measure.{Limits, program_size, groups_left}
use Rattle.bites_spec.specs.Match.{span}
use Rattle.bites_spec.specs.Found.{Answer, FoundSome}
use Rattle.bites_spec.specs.Regex.{Regex}
use Rattle.bites_spec.specs.Captured.{Excerpt, FindsMatch}
use Rattle.bites_spec.specs.Settings.{no_flags, by_default, Accepts}
use Rattle.bites_spec.specs.Escaped.{escaped, text_tree}
use Rattle.bites_spec.specs.Occurrence.{IsLeftmost}
use Rattle.bites_spec.proofs.Laws as laws
use Rattle.bites_text.specs.declared.error.Error.{Error}
use Rattle.bites_text.specs.declared.error.Error.TheVariants.{TooBig, TooManyStates, TooManySlots, Memory}
use Rattle.bites_machine.specs.Compiled.{RefusesTree}
use Rattle.bites_bytes.specs.Settings.{Refuses, fault, limit}

above : (n m : ℕ) → (n ≤ m → ⊥) → m < n
above n m h = omega (arith, h)

-- an error that refuses a tree that is refused by its size alone
by_size : (t : Tree) → (program_size t ≤ 10485760 → ⊥) → (e : Error) → e ≢ Memory → RefusesTree 10485760 (groups_left t) t e → e ≡ TooBig
by_size t heavy TooBig known h = refl
by_size t heavy TooManyStates known h = absurd (heavy h.0)
by_size t heavy TooManySlots known h = absurd (heavy h.0)
by_size t heavy Memory known h = absurd (known refl)
by_size t heavy _ known h = absurd h

module _ (text pattern : List ℕ) (utf8 : IsUtf8 text) (is : pattern ≡ encode_utf8_all (escaped (chars text))) where
  is_read : Limits (chars pattern) no_flags 50 (text_tree (chars text))
  is_read =
      subst (λ (p : List ℕ). Limits (chars p) no_flags 50 (text_tree (chars text))) (sym is)
      (subst (λ (l : Text). Limits l no_flags 50 (text_tree (chars text))) (sym (laws.escaped_texts_are_texts text utf8))
      (laws.escaped_texts_are_read (chars text) 50 (omega (arith, (laws.escaped_texts_are_flat (chars text)).1))))

  -- the only tree of the pattern is that of the text
  pub tree_of_text : (t : Tree) → Limits (chars pattern) no_flags 50 t → t ≡ text_tree (chars text)
  tree_of_text t read = laws.patterns_have_one_tree (chars pattern) no_flags t (text_tree (chars text)) read.reading is_read.reading

  module _ (refused : (t : Tree) → Accepts (by_default pattern) t → ⊥) where
    heavy : program_size (text_tree (chars text)) ≤ 10485760 → ⊥
    heavy light = refused (text_tree (chars text)) (subst (λ p. Accepts (by_default p) (text_tree (chars text))) (sym is) (laws.escaped_texts_are_accepted text utf8 light))

    too_big : (e : Error) → e ≢ Memory → Refuses (by_default pattern) e → e ≡ TooBig
    too_big e known (fault m f same) =
        absurd (laws.refused_patterns_have_no_tree (chars pattern) no_flags 50 m (text_tree (chars text)) f is_read)
    too_big e known (limit t read h) =
        by_size t (λ light. heavy (subst (λ u. program_size u ≤ 10485760) (tree_of_text t read) light)) e known h

    -- a build of it is refused only for its size
    pub only_too_big : (e : Error) → e ≢ Memory → Refuses (by_default pattern) e → (e ≡ TooBig) × (10485760 < program_size (text_tree (chars text)))
    only_too_big e known h = (too_big e known h, above (program_size (text_tree (chars text))) 10485760 heavy)

-- so it is, where its refusal says both that no tree is accepted and why
pub refused_by_size : {R : Type 0} (text pattern : List ℕ) → IsUtf8 text → pattern ≡ encode_utf8_all (escaped (chars text)) → (r : Result R Error) →
    IfErr r (λ e. e ≢ Memory → (t : Tree) → Accepts (by_default pattern) t → ⊥) → IfErr r (λ e. e ≢ Memory → Refuses (by_default pattern) e) →
    IfErr r (λ e. e ≢ Memory → (e ≡ TooBig) × (10485760 < program_size (text_tree (chars text))))
refused_by_size text pattern utf8 is (Ok x) refused message = tt
refused_by_size text pattern utf8 is (Err e) refused message = λ known. only_too_big text pattern utf8 is (refused known) e known (message known)

module _ (hay text : List ℕ) (hay_utf8 : IsUtf8 hay) (text_utf8 : IsUtf8 text) (r : Regex) (is : r.tree ≡ text_tree (chars text)) where
  leftmost_by : (a : Option Answer) → FoundSome r.tree hay (places hay 0) a → IsLeftmost hay text 0 (option_map (λ b. span b.start b.end) a)
  leftmost_by a f =
      laws.escaped_texts_find_their_text hay text 0 hay_utf8 text_utf8 (IsCharBoundary-start hay hay_utf8) a (subst (λ t. FoundSome t hay (places hay 0) a) is f)

  -- what its search finds is where the text stands first
  pub text_is_found : {M : Type 0} (f : M → Excerpt) (o : Option M) → FindsMatch r hay (places hay 0) (option_map f o) →
      IsLeftmost hay text 0 (option_map (λ x. (f x).span) o)
  text_is_found f None none = leftmost_by None none.on_tree
  text_is_found f (Some m) found =
      let a = found.on_tree.answer in
      subst (λ g. IsLeftmost hay text 0 (Some g)) (sym found.on_tree.is_span)
      (leftmost_by (Some a) (laws.finds_some r.leftmost_longest r.tree hay (places hay 0) (Some a) found.on_tree.found))
