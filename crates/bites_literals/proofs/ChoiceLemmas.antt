-- Texts such that each match begins with one of them, or is one of them: those of parts, and of branches.
use Rattle.std.proofs.Common.{◌≡◌, ℕ, zero, suc, ◌<◌, ◌≤◌, Bool, true, ◌||◌, ◌+◌, List, [], ◌∷◌, ◌++◌, length, Result, Ok, Err, get_or, refl, sym, ap, ◌∙◌, subst, ◌⊎◌, inl, inr, ⊎_elim, arith, length-append}
use Rattle.std.specs.Prelude.{IfOk}
use Rattle.std.specs.List.{AllPairs}
use Rattle.std.proofs.lemmas.Bool.{cases_lt}
use Rattle.std.proofs.lemmas.List.{append_assoc, get_or_append_left, get_or_default}
use Rattle.std.proofs.Math.Seq.{get_or-append_seam}
use Rattle.std.proofs.lemmas.List.Quantifiers.{Any-push}
use Rattle.bites_spec.specs.Match.{Chain, Matches, MatchesAll, MatchesOne}
use Rattle.bites_spec.specs.Tree.{Tree, Trees, sequence, alternation, no_tree, tree_and}
use Rattle.bites_scan.specs.Literal.{Needle, needle, DifferFrom, NeedleOccursAt}
use Rattle.bites_scan.specs.LiteralSet.{SomeOccursAt, StandsUpTo}
use Rattle.bites_scan.proofs.SetLemmas.{some_stands}
use Rattle.bites_literals.specs.declared.facts.Facts.{Facts}
use Rattle.bites_literals.specs.declared.text.Text.{Text}
use Rattle.bites_literals.specs.Begins.{IsOnly}
use Rattle.bites_literals.specs.Choice.{AreAdded, AreBranches, BeginsBehind, BeginsWithOne, HasAdded, IsOneOf, MatchAlike, StandsBefore}
use Rattle.bites_literals.specs.Facts.{AreFacts}
use Rattle.bites_literals.specs.Texts.{Stands, bytes_of, needle_of}
use Rattle.bites_literals.proofs.BeginLemmas.{occurs, only_text, stands as stands_where}
use Rattle.bites_literals.proofs.TextLemmas.{stand_together}

-- one of these texts is one of more
some_of_more : (xs ys : List Needle) (hay : List ℕ) (i : ℕ) → SomeOccursAt xs hay i → SomeOccursAt (xs ++ ys) hay i
some_of_more xs ys hay i (k, x, lt, is, o) = (k, x, omega (arith, length-append xs ys, lt), get_or_append_left xs ys x k lt ∙ is, o)

-- the front with what each match begins with
pub front_added : (front : Text) (t : Tree) (f : Facts) → AreFacts t f → (text : Text) →
    ((hay : List ℕ) (i : ℕ) → Stands front.caseless (bytes_of front) hay i → Stands f.front.caseless (bytes_of f.front) hay (i + length (bytes_of front)) → Stands text.caseless (bytes_of text) hay i) →
    0 < length (bytes_of text) → (n : Needle) → n ≡ needle (bytes_of text) text.caseless → (before after : List Needle) → after ≡ before ++ (n ∷ []) → HasAdded front t before after
front_added front t f facts text both some n is before after kept = record { more = n ∷ []; kept = kept; begins = begins }
  where
    begins : BeginsBehind front t after
    begins hay i j stands m =
        let whole = both hay i stands (facts.front hay (i + length (bytes_of front)) j m).0 in
        let here = occurs text.caseless (bytes_of text) hay i some whole in
        subst (λ (ns : List Needle). SomeOccursAt ns hay i) (sym kept) (Any-push (NeedleOccursAt hay i) before n (subst (NeedleOccursAt hay i) (sym is) here))

-- a match of the one tree begins with a match of the other
abbrev pub BeginsAs : (u t : Tree) → Type 0
BeginsAs u t = (hay : List ℕ) (i j : ℕ) → Matches hay u i j → (l : ℕ) × Matches hay t i l

-- the texts of one tree are those of the other
pub added_as : {E : Type 0} → (front : Text) (u t : Tree) → BeginsAs u t → (before after : List Needle) (r : Result Bool E) → IfOk r (AreAdded front t before after) → IfOk r (AreAdded front u before after)
added_as front u t begins before after (Ok b) added =
    λ said.
    let a = added said in
    record { more = a.more; kept = a.kept; begins = λ hay i j stands m. let first = begins hay (i + length (bytes_of front)) j m in a.begins hay i first.0 stands first.1 }
added_as front u t begins before after (Err e) added = tt

-- the texts of a sequence are those of what stands behind a longer front
pub added_behind : {E : Type 0} → (front longer : Text) (trees rest : Trees) → StandsBefore front trees longer rest → (t : Tree) →
    ((hay : List ℕ) (i j : ℕ) → MatchesAll hay rest i j → (l : ℕ) × Matches hay t i l) →
    (before after : List Needle) (r : Result Bool E) → IfOk r (AreAdded longer t before after) → IfOk r (AreAdded front (sequence trees) before after)
added_behind front longer trees rest stands t first before after (Ok b) added =
    λ said.
    let a = added said in
    record {
      more = a.more;
      kept = a.kept;
      begins = λ hay i j own m.
          let both = stands hay i j own m in
          let begun = first hay (i + length (bytes_of longer)) j both.1 in
          a.begins hay i begun.0 both.0 begun.1;
    }
added_behind front longer trees rest stands t first before after (Err e) added = tt

-- one part more is a text and nothing else
pub one_part_more : (front longer : Text) (trees rest : Trees) (t : Tree) → StandsBefore front trees longer (tree_and t rest) → (f : Facts) → AreFacts t f → f.whole ≡ true →
    (next : Text) → bytes_of next ≡ bytes_of longer ++ bytes_of f.front → next.caseless ≡ (longer.caseless || f.front.caseless) → StandsBefore front trees next rest
one_part_more front longer trees rest t before f facts whole next bytes caseless hay i j own m =
    let both = before hay i j own m in
    let k : ℕ = i + length (bytes_of longer) in
    let part = both.1 in
    let l : ℕ = part.0 in
    let ends : l ≡ k + length (bytes_of f.front) = facts.whole whole hay k l part.1 in
    let stands : Stands (longer.caseless || f.front.caseless) (bytes_of longer ++ bytes_of f.front) hay i =
    stand_together longer.caseless f.front.caseless (bytes_of longer) (bytes_of f.front) hay i both.0 (facts.front hay k l part.1).0 in
    let at : l ≡ i + length (bytes_of next) = ends ∙ omega (arith, ap length bytes, length-append (bytes_of longer) (bytes_of f.front)) in (
      subst (λ c. Stands c (bytes_of next) hay i) (sym caseless) (subst (λ (bs : List ℕ). Stands (longer.caseless || f.front.caseless) bs hay i) (sym bytes) stands),
      subst (λ p. MatchesAll hay rest p j) at part.2,
    )

-- the first of some turns
pub first_of_turns : (M : ℕ → ℕ → Type 0) (min n i j : ℕ) → 0 < min → min ≤ n → Chain M n i j → (l : ℕ) × M i l
first_of_turns M min zero i j some le turns = absurd (omega (arith, some, le))
first_of_turns M min (suc n) i j some le (l, m, more) = (l, m)

-- texts stand behind those before, and where the front stands and one of the trees matches behind it, one of all these occurs or one of the
-- rest matches
pub record HasSoFar (front : Text) (trees rest : Trees) (before after : List Needle) : Type 0 where
  pub more : List Needle
  pub kept : after ≡ before ++ more
  pub begins : (hay : List ℕ) (i j : ℕ) → Stands front.caseless (bytes_of front) hay i → MatchesOne hay trees (i + length (bytes_of front)) j →
      SomeOccursAt after hay i ⊎ MatchesOne hay rest (i + length (bytes_of front)) j

pub one_branch_more : (front : Text) (trees rest : Trees) (t : Tree) (before between after : List Needle) → HasSoFar front trees (tree_and t rest) before between → HasAdded front t between after → HasSoFar front trees rest before after
one_branch_more front trees rest t before between after had added = record {
  more = had.more ++ added.more;
  kept = added.kept ∙ ap (λ ns. ns ++ added.more) had.kept ∙ append_assoc before had.more added.more;
  begins = λ hay i j stands m. ⊎_elim (λ o. inl (still hay i o)) (⊎_elim (λ own. inl (added.begins hay i j stands own)) (λ r. inr r)) (had.begins hay i j stands m);
}
  where
    still : (hay : List ℕ) (i : ℕ) → SomeOccursAt between hay i → SomeOccursAt after hay i
    still hay i o = subst (λ (ns : List Needle). SomeOccursAt ns hay i) (sym added.kept) (some_of_more between added.more hay i o)

-- ## Choices of texts alone

-- texts so far of the branches, and the rest of these
pub record HasBranches (trees left : Trees) (texts : List Needle) : Type 0 where
  pub matches : (hay : List ℕ) (i j : ℕ) → StandsUpTo texts hay i j → MatchesOne hay trees i j
  pub stands : (hay : List ℕ) (i j : ℕ) → MatchesOne hay trees i j → StandsUpTo texts hay i j ⊎ MatchesOne hay left i j
  pub among : (hay : List ℕ) (i j : ℕ) → MatchesOne hay left i j → MatchesOne hay trees i j

pub no_branch : (trees : Trees) (texts : List Needle) → texts ≡ [] → HasBranches trees trees texts
no_branch trees texts none = record {
  matches = λ hay i j (len, (k, n, lt, is, o), e). absurd (omega (arith, lt, ap length none));
  stands = λ hay i j m. inr m;
  among = λ hay i j m. m;
}

-- the last of the texts, or one of those before it
last_or : (texts : List Needle) (n : Needle) (hay : List ℕ) (i j : ℕ) → StandsUpTo (texts ++ n ∷ []) hay i j → StandsUpTo texts hay i j ⊎ (NeedleOccursAt hay i n × (j ≡ i + length n.bytes))
last_or texts n hay i j (len, (k, x, lt, is, (o, e)), at) =
    elim (cases_lt k (length texts)) [
      | inl before ↦ inl (len, (k, x, before, sym (get_or_append_left texts (n ∷ []) x k before) ∙ is, (o, e)), at)
      | inr here ↦
          let last : k ≡ length texts = omega (arith, here, lt, length-append texts (n ∷ [])) in
          let same : n ≡ x = sym (ap (λ q. get_or (texts ++ n ∷ []) q x) last ∙ get_or-append_seam texts n [] x) ∙ is in
          inr (subst (NeedleOccursAt hay i) (sym same) o, omega (arith, at, e, ap (λ (m : Needle). length m.bytes) same))
    ]

-- a branch that is a text
pub one_text_more : (trees rest : Trees) (t : Tree) (texts : List Needle) → HasBranches trees (tree_and t rest) texts → (f : Facts) → AreFacts t f → f.whole ≡ true → f.exact ≡ true → 0 < length (bytes_of f.front) →
    (n : Needle) → n ≡ needle_of f.front → (after : List Needle) → after ≡ texts ++ n ∷ [] → HasBranches trees rest after
one_text_more trees rest t texts had f facts whole exact some n is after kept = record {
  matches = λ hay i j s. ⊎_elim (λ old. had.matches hay i j old) (λ new. had.among hay i j (inl (is_match hay i j new.0 new.1))) (last_or texts n hay i j (subst (λ (ns : List Needle). StandsUpTo ns hay i j) kept s));
  stands = λ hay i j m. ⊎_elim (λ old. inl (still hay i j old)) (λ (own : MatchesOne hay (tree_and t rest) i j). ⊎_elim (λ here. inl (now hay i j here)) (λ later. inr later) own) (had.stands hay i j m);
  among = λ hay i j m. had.among hay i j (inr m);
}
  where
    only : IsOnly t n
    only = subst (IsOnly t) (sym is) (only_text t f facts whole exact)

    is_match : (hay : List ℕ) (i j : ℕ) → NeedleOccursAt hay i n → j ≡ i + length n.bytes → Matches hay t i j
    is_match hay i j o e = subst (Matches hay t i) (sym e) (only.matches hay i (stands_where n.caseless n.bytes hay i o))

    still : (hay : List ℕ) (i j : ℕ) → StandsUpTo texts hay i j → StandsUpTo after hay i j
    still hay i j (len, (k, x, lt, e, o), at) =
        subst (λ (ns : List Needle). StandsUpTo ns hay i j) (sym kept) (len, (k, x, omega (arith, length-append texts (n ∷ []), lt), get_or_append_left texts (n ∷ []) x k lt ∙ e, o), at)

    now : (hay : List ℕ) (i j : ℕ) → Matches hay t i j → StandsUpTo after hay i j
    now hay i j m =
        let here : NeedleOccursAt hay i n = subst (NeedleOccursAt hay i) (sym is) (occurs f.front.caseless (bytes_of f.front) hay i some (facts.front hay i j m).0) in
        subst (λ (ns : List Needle). StandsUpTo ns hay i j) (sym kept) (length n.bytes, Any-push (λ (m : Needle). NeedleOccursAt hay i m × (length m.bytes ≡ length n.bytes)) texts n (here, refl), only.len hay i j m)

pub all_branches : (trees : Trees) (texts : List Needle) → HasBranches trees no_tree texts → AreBranches (alternation trees) texts
all_branches trees texts had = record {
  matches = had.matches;
  stands = λ hay i j m. ⊎_elim (λ own. own) (λ (no : ⊥). absurd no) (had.stands hay i j m);
}

-- a choice of texts, no two at one place
pub one_of : (t u : Tree) → MatchAlike u t → (texts : List Needle) → AreBranches u texts → AllPairs DifferFrom texts → IsOneOf t texts
one_of t u alike texts branches apart = record {
  branches = record { matches = λ hay i j s. alike.to hay i j (branches.matches hay i j s); stands = λ hay i j m. branches.stands hay i j (alike.from hay i j m) };
  one = λ hay i j l m n. same hay i j l (branches.stands hay i j (alike.from hay i j m)) (branches.stands hay i l (alike.from hay i l n));
}
  where
    never : (hay : List ℕ) (i a b : ℕ) (x y : Needle) → a < b → b < length texts → get_or texts a x ≡ x → get_or texts b y ≡ y → NeedleOccursAt hay i x → NeedleOccursAt hay i y → ⊥
    never hay i a b x y lt within ex ey o p =
        let at : get_or texts b x ≡ y = get_or_default texts b x y within ∙ ey in
        apart a b x lt within hay i (subst (NeedleOccursAt hay i) (sym ex) o) (subst (NeedleOccursAt hay i) (sym at) p)

    same : (hay : List ℕ) (i j l : ℕ) → StandsUpTo texts hay i j → StandsUpTo texts hay i l → l ≡ j
    same hay i j l (m, (a, x, in_a, ex, (o, em)), ej) (n, (b, y, in_b, ey, (p, en)), el) =
        elim (cases_lt a b) [
          | inl lt ↦ absurd (never hay i a b x y lt in_b ex ey o p)
          | inr le ↦ elim (cases_lt b a) [
            | inl lt ↦ absurd (never hay i b a y x lt in_a ey ex p o)
            | inr ge ↦
                let here : a ≡ b = omega (arith, le, ge) in
                let is : x ≡ y = sym ex ∙ ap (λ k. get_or texts k x) here ∙ get_or_default texts b x y in_b ∙ ey in
                omega (arith, ej, el, em, en, ap (λ (z : Needle). length z.bytes) is)
          ]
        ]

pub begins_with_one : (t : Tree) (texts : List Needle) → IsOneOf t texts → BeginsWithOne t texts
begins_with_one t texts is hay i j m = some_stands texts hay i j (is.branches.stands hay i j m)
