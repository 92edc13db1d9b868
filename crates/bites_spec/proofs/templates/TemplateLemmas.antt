-- A template has exactly one cutting, which the function `parts_of` returns.
use Rattle.std.proofs.lemmas.Grind.{common_steps, flat_map-append}
use Rattle.std.proofs.Common.{◌≡◌, ◌≢◌, ℕ, zero, suc, ◌+◌, ◌<◌, ◌≤◌, Bool, true, false, ◌&&◌, ◌||◌, ◌==◌, cond, List, [], ◌∷◌, ◌++◌, length, drop, Option, Some, None, option_map, flat_map, map, refl, sym, ap, ap₂, ◌∙◌, subst, inl, inr, ⊎_elim, true≢false, arith, length-drop, eqb-true, ne_eqb}
use Rattle.std.specs.Prelude.{IsUtf8, ◌↔◌}
use Rattle.std.specs.Str.{is_utf8}
use Rattle.std.specs.List.{list_all, take_while}
use Rattle.std.proofs.Math.Seq.{drop-append_seam, drop-append-add}
use Rattle.std.proofs.lemmas.List.Sums.{take_while-cons}
use Rattle.std.proofs.lemmas.Str.{IsUtf8-from_is_utf8, is_utf8-from_IsUtf8}
use Rattle.std.proofs.lemmas.Bool.{cases_Bool}
use Rattle.bites_spec.specs.Look.{is_word_byte}
use Rattle.bites_spec.specs.Walks.{Among, IsNew}
use Rattle.bites_spec.specs.Template.{Part, byte, name, Cuts, ends, plain, doubled, named, braced, alone, IsName, EndsWord, StandsAlone, Cut, cut, before_brace, braced_cut, word_cut, dollar_cut, first_cut, parts_after, parts_of, stands_for, Expands, expansion}
use Rattle.bites_spec.specs.TemplateLaws.{PlainStandsForItself}
use Rattle.bites_spec.specs.Cutting.{CutsFirst, CutsFront, NoName, IsWordAt}
use Rattle.bites_spec.proofs.templates.CuttingLemmas.{no_brace, cuts_last, cuts_doubled, cuts_braced, cuts_unnamed, cuts_alone, cuts_named, cuts_plain}

-- the word is what stands before the first closing brace; None says that there is no such brace
abbrev pub IsBeforeBrace : List ℕ → Option (List ℕ) → Type 0
IsBeforeBrace bytes None = IsNew 125 bytes
IsBeforeBrace bytes (Some word) = (bytes ≡ word ++ 125 ∷ drop (length word + 1) bytes) × IsNew 125 word

brace_step : (b : ℕ) (bytes : List ℕ) (d : Bool) → (b == 125) ≡ d → (o : Option (List ℕ)) → IsBeforeBrace bytes o →
    IsBeforeBrace (b ∷ bytes) (cond d (Some []) (option_map (λ word. b ∷ word) o))
brace_step b bytes true e o h = (ap (λ (c : ℕ). c ∷ bytes) (eqb-true b 125 e), λ none. none)
brace_step b bytes false e None h =
    λ a. ⊎_elim (λ (is : b ≡ 125). absurd (true≢false (sym (ap (λ (c : ℕ). c == 125) is) ∙ e))) (λ (later : Among bytes 125). h later) a
brace_step b bytes false e (Some word) h = grind (arith, common_steps)

pub before_brace_is : (bytes : List ℕ) → IsBeforeBrace bytes (before_brace bytes)
unfolding before_brace
before_brace_is [] = λ none. none
before_brace_is (b ∷ bytes) = brace_step b bytes (b == 125) refl (before_brace bytes) (before_brace_is bytes)

before_first_brace : (word tail : List ℕ) → IsNew 125 word → before_brace (word ++ 125 ∷ tail) ≡ Some word
unfolding before_brace
before_first_brace [] tail new = refl
before_first_brace (b ∷ word) tail new =
    ap₂ (λ (d : Bool) (o : Option (List ℕ)). cond d (Some []) (option_map (λ w. b ∷ w) o))
    (ne_eqb b 125 (λ is. new (inl is))) (before_first_brace word tail (λ a. new (inr a)))

-- the bytes of a word, up to its end, are the longest run of such bytes
run_of_word : (word rest : List ℕ) → list_all is_word_byte word ≡ true → EndsWord rest → take_while is_word_byte (word ++ rest) ≡ word
run_of_word [] [] all none = refl
run_of_word [] (b ∷ rest) all none = take_while-cons is_word_byte b rest ∙ ap (λ (d : Bool). cond d (b ∷ take_while is_word_byte rest) []) none
run_of_word (b ∷ word) rest all none =
    take_while-cons is_word_byte b (word ++ rest)
    ∙ ap₂ (λ (d : Bool) (l : List ℕ). cond d (b ∷ l) []) (left_of (is_word_byte b) (list_all is_word_byte word) all)
    (run_of_word word rest (right_of (is_word_byte b) (list_all is_word_byte word) all) none)
  where
    left_of : (a b : Bool) → (a && b) ≡ true → a ≡ true
    left_of true b e = refl
    left_of false b e = e

    right_of : (a b : Bool) → (a && b) ≡ true → b ≡ true
    right_of true b e = e
    right_of false b e = absurd (true≢false (sym e))

word_step : (b : ℕ) (bytes : List ℕ) (d : Bool) → is_word_byte b ≡ d → IsWordAt bytes (take_while is_word_byte bytes) →
    IsWordAt (b ∷ bytes) (cond d (b ∷ take_while is_word_byte bytes) [])
word_step b bytes true e h = grind arith
word_step b bytes false e h = record { whole = refl; word_bytes = refl; ends = e }

pub word_at_is : (bytes : List ℕ) → IsWordAt bytes (take_while is_word_byte bytes)
word_at_is [] = record { whole = refl; word_bytes = refl; ends = tt }
word_at_is (b ∷ bytes) = subst (IsWordAt (b ∷ bytes)) (sym (take_while-cons is_word_byte b bytes)) (word_step b bytes (is_word_byte b) refl (word_at_is bytes))

-- a word that may be a name passes the test
name_test : (any : Bool) (word : List ℕ) → IsName any word → (any || is_utf8 word) ≡ true
name_test true word h = refl
name_test false word h = ⊎_elim (λ (e : false ≡ true). absurd (true≢false (sym e))) (λ (u : IsUtf8 word). is_utf8-from_IsUtf8 word u) h

no_name_test : (any : Bool) (word : List ℕ) → (IsName any word → ⊥) → (any || is_utf8 word) ≡ false
no_name_test true word h = absurd (h (inl refl))
no_name_test false word h =
    ⊎_elim (λ (e : is_utf8 word ≡ true). absurd (h (inr (IsUtf8-from_is_utf8 word e)))) (λ (e : is_utf8 word ≡ false). e) (cases_Bool (is_utf8 word))

-- ## The function follows the relation

parts_drop : (any : Bool) (n : ℕ) (rest : List ℕ) → parts_after any n rest ≡ parts_of any (drop n rest)
unfolding parts_after
parts_drop any zero [] = refl
parts_drop any zero (b ∷ rest) = refl
parts_drop any (suc n) [] = refl
parts_drop any (suc n) (b ∷ rest) = parts_drop any n rest

-- the parts are the first part and the parts of the bytes after it
first_of_parts : (any : Bool) (b : ℕ) (rest newer : List ℕ) (part : Part) (len : ℕ) → first_cut any b rest ≡ cut part len → drop len rest ≡ newer →
    parts_of any (b ∷ rest) ≡ part ∷ parts_of any newer
unfolding parts_after
first_of_parts any b rest newer part len e d =
    ap (λ (c : Cut). c.part ∷ parts_after any c.len rest) e ∙ ap (λ (l : List Part). part ∷ l) (parts_drop any len rest ∙ ap (parts_of any) d)

plain_cut : (any : Bool) (b : ℕ) (rest : List ℕ) → b ≢ 36 → first_cut any b rest ≡ cut (byte b) 0
plain_cut any b rest ne = ap (λ (d : Bool). cond d (dollar_cut any rest) (cut (byte b) 0)) (ne_eqb b 36 ne)

doubled_cut : (any : Bool) (rest : List ℕ) → first_cut any 36 (36 ∷ rest) ≡ cut (byte 36) 1
unfolding dollar_cut
doubled_cut any rest = refl

-- a byte of a word differs from each byte that no word has
word_byte_is_not : (b c : ℕ) → is_word_byte b ≡ true → is_word_byte c ≡ false → (b == c) ≡ false
word_byte_is_not b c is other = ne_eqb b c (λ e. true≢false (sym is ∙ ap is_word_byte e ∙ other))

named_cut : (any : Bool) (word rest : List ℕ) → 0 < length word → list_all is_word_byte word ≡ true → EndsWord rest →
    first_cut any 36 (word ++ rest) ≡ cut (name word) (length word)
unfolding dollar_cut
named_cut any [] rest some all none = absurd (omega arith)
named_cut any (b ∷ word) rest some all none =
    ap (λ (d : Bool). cond d (cut (byte 36) 1) (cond (b == 123) (braced_cut any (before_brace (word ++ rest))) (word_cut (take_while is_word_byte (b ∷ word ++ rest)))))
    (word_byte_is_not b 36 (first_is b word all) refl)
    ∙ ap (λ (d : Bool). cond d (braced_cut any (before_brace (word ++ rest))) (word_cut (take_while is_word_byte (b ∷ word ++ rest))))
    (word_byte_is_not b 123 (first_is b word all) refl)
    ∙ ap word_cut (run_of_word (b ∷ word) rest all none)
  where
    first_is : (b : ℕ) (word : List ℕ) → list_all is_word_byte (b ∷ word) ≡ true → is_word_byte b ≡ true
    first_is b word e = both (is_word_byte b) (list_all is_word_byte word) e
      where
        both : (x y : Bool) → (x && y) ≡ true → x ≡ true
        both true y e = refl
        both false y e = e

name_cut : (any : Bool) (word rest : List ℕ) → IsNew 125 word → IsName any word →
    first_cut any 36 (123 ∷ word ++ 125 ∷ rest) ≡ cut (name word) (length word + 2)
unfolding dollar_cut
name_cut any word rest new is = grind (arith, common_steps, before_first_brace, name_test)

behind_name : (word rest : List ℕ) → drop (length word + 2) (123 ∷ word ++ 125 ∷ rest) ≡ rest
behind_name word rest = ap (λ (k : ℕ). drop k (123 ∷ word ++ 125 ∷ rest)) (two (length word)) ∙ drop-append-add word (125 ∷ rest) 1
  where
    two : (n : ℕ) → n + 2 ≡ suc (n + 1)
    two n = omega arith

-- after a brace that opens no name, the function cuts the dollar alone
unnamed_cut : (any : Bool) (inside : List ℕ) (o : Option (List ℕ)) → IsBeforeBrace inside o → NoName any inside → braced_cut any o ≡ cut (byte 36) 0
unnamed_cut any inside None is none = refl
unnamed_cut any inside (Some word) is none = grind (arith, common_steps, no_name_test)

alone_cut : (any : Bool) (rest : List ℕ) → StandsAlone any rest → first_cut any 36 rest ≡ cut (byte 36) 0
unfolding dollar_cut
alone_cut any [] stands = refl
alone_cut any (b ∷ rest) stands =
    ap (λ (d : Bool). cond d (cut (byte 36) 1) (cond (b == 123) (braced_cut any (before_brace rest)) (word_cut (take_while is_word_byte (b ∷ rest)))))
    (ne_eqb b 36 (λ is. stands.0 rest (ap (λ (c : ℕ). c ∷ rest) is)))
    ∙ ⊎_elim (λ (e : (b == 123) ≡ true).
    ap (λ (d : Bool). cond d (braced_cut any (before_brace rest)) (word_cut (take_while is_word_byte (b ∷ rest)))) e
    ∙ unnamed_cut any rest (before_brace rest) (before_brace_is rest)
    (λ word tail is. stands.2 word tail (ap₂ (λ (c : ℕ) (l : List ℕ). c ∷ l) (eqb-true b 123 e) is)))
    (λ (e : (b == 123) ≡ false).
    ap (λ (d : Bool). cond d (braced_cut any (before_brace rest)) (word_cut (take_while is_word_byte (b ∷ rest)))) e
    ∙ ap word_cut (take_while-cons is_word_byte b rest ∙ ap (λ (d : Bool). cond d (b ∷ take_while is_word_byte rest) []) stands.1))
    (cases_Bool (b == 123))

pub cuts_once : {any : Bool} {template : List ℕ} {parts : List Part} → Cuts any template parts → parts ≡ parts_of any template
unfolding parts_after
cuts_once {any} ends = refl
cuts_once {any} (plain b rest parts ne c) =
    ap (λ (l : List Part). byte b ∷ l) (cuts_once c) ∙ sym (first_of_parts any b rest rest (byte b) 0 (plain_cut any b rest ne) refl)
cuts_once {any} (doubled rest parts c) =
    ap (λ (l : List Part). byte 36 ∷ l) (cuts_once c) ∙ sym (first_of_parts any 36 (36 ∷ rest) rest (byte 36) 1 (doubled_cut any rest) refl)
cuts_once {any} (named template word rest parts e some all none c) =
    ap (λ (l : List Part). name word ∷ l) (cuts_once c)
    ∙ sym (first_of_parts any 36 (word ++ rest) rest (name word) (length word) (named_cut any word rest some all none) (drop-append_seam word rest))
    ∙ ap (parts_of any) (sym e)
cuts_once {any} (braced template word rest parts e new is c) =
    ap (λ (l : List Part). name word ∷ l) (cuts_once c)
    ∙ sym (first_of_parts any 36 (123 ∷ word ++ 125 ∷ rest) rest (name word) (length word + 2) (name_cut any word rest new is) (behind_name word rest))
    ∙ ap (parts_of any) (sym e)
cuts_once {any} (alone rest parts stands c) =
    ap (λ (l : List Part). byte 36 ∷ l) (cuts_once c) ∙ sym (first_of_parts any 36 rest rest (byte 36) 0 (alone_cut any rest stands) refl)

-- ## Every template is cut

-- the cut is right for the first byte and the bytes after it
abbrev Follows : Bool → ℕ → List ℕ → Cut → Type 0
Follows any b rest c = CutsFirst any (b ∷ rest) c.part (drop c.len rest)

braces_follow : (any : Bool) (rest inside : List ℕ) → rest ≡ 123 ∷ inside → (o : Option (List ℕ)) → IsBeforeBrace inside o → Follows any 36 rest (braced_cut any o)
braces_follow any rest inside e None is = cuts_unnamed any rest inside 123 e refl (no_brace any inside is)
braces_follow any rest inside e (Some word) is =
    ⊎_elim (λ (t : (any || is_utf8 word) ≡ true).
    subst (λ (d : Bool). Follows any 36 rest (cond d (cut (name word) (length word + 2)) (cut (byte 36) 0))) (sym t)
    (cuts_braced any rest inside word 123 e refl record { whole = is.0; first = is.1; named = is_name any word t }))
    (λ (f : (any || is_utf8 word) ≡ false).
    subst (λ (d : Bool). Follows any 36 rest (cond d (cut (name word) (length word + 2)) (cut (byte 36) 0))) (sym f)
    (cuts_unnamed any rest inside 123 e refl (λ w tail s new n. no_name any word f (subst (IsName any) (one_word w tail s new) n))))
    (cases_Bool (any || is_utf8 word))
  where
    is_name : (any : Bool) (word : List ℕ) → (any || is_utf8 word) ≡ true → IsName any word
    is_name true word t = inl refl
    is_name false word t = inr (IsUtf8-from_is_utf8 word t)

    no_name : (any : Bool) (word : List ℕ) → (any || is_utf8 word) ≡ false → IsName any word → ⊥
    no_name any word f n = true≢false (sym (name_test any word n) ∙ f)

    one_word : (w tail : List ℕ) → inside ≡ w ++ 125 ∷ tail → IsNew 125 w → w ≡ word
    one_word w tail s new = some_is w word (sym (before_first_brace w tail new) ∙ ap before_brace (sym s ∙ is.0) ∙ before_first_brace word (drop (length word + 1) inside) is.1)
      where
        some_is : (x y : List ℕ) → Some x ≡ Some y → x ≡ y
        some_is x y e = cc

word_follows : (any : Bool) (rest behind : List ℕ) (b : ℕ) → rest ≡ b ∷ behind → b ≢ 36 → b ≢ 123 → (word : List ℕ) → IsWordAt rest word →
    Follows any 36 rest (word_cut word)
word_follows any rest behind b e not_dollar not_brace [] at = cuts_alone any rest behind [] b e not_dollar not_brace at refl
word_follows any rest behind b e not_dollar not_brace (c ∷ word) at = cuts_named any rest (c ∷ word) at (omega arith)

dollar_follows : (any : Bool) (rest : List ℕ) → Follows any 36 rest (dollar_cut any rest)
unfolding dollar_cut
dollar_follows any [] = cuts_last any [] refl
dollar_follows any (b ∷ rest) = by_dollar (b == 36) refl
  where
    by_brace : b ≢ 36 → (d : Bool) → (b == 123) ≡ d →
        Follows any 36 (b ∷ rest) (cond d (braced_cut any (before_brace rest)) (word_cut (take_while is_word_byte (b ∷ rest))))
    by_brace ne true e = braces_follow any (b ∷ rest) rest (ap (λ (c : ℕ). c ∷ rest) (eqb-true b 123 e)) (before_brace rest) (before_brace_is rest)
    by_brace ne false e =
        word_follows any (b ∷ rest) rest b refl ne (λ is. true≢false (sym (ap (λ (c : ℕ). c == 123) is) ∙ e)) (take_while is_word_byte (b ∷ rest)) (word_at_is (b ∷ rest))

    by_dollar : (d : Bool) → (b == 36) ≡ d →
        Follows any 36 (b ∷ rest) (cond d (cut (byte 36) 1) (cond (b == 123) (braced_cut any (before_brace rest)) (word_cut (take_while is_word_byte (b ∷ rest)))))
    by_dollar true e = cuts_doubled any (b ∷ rest) rest b refl (eqb-true b 36 e)
    by_dollar false e = by_brace (λ is. true≢false (sym (ap (λ (c : ℕ). c == 36) is) ∙ e)) (b == 123) refl

first_follows : (any : Bool) (b : ℕ) (rest : List ℕ) → Follows any b rest (first_cut any b rest)
first_follows any b rest = grind (arith, common_steps, eqb-true, dollar_follows, cuts_plain)

cuts_within : (any : Bool) (n : ℕ) (template : List ℕ) → length template ≤ n → Cuts any template (parts_of any template)
unfolding parts_after
cuts_within any n [] le = ends
cuts_within any zero (b ∷ rest) le = absurd (omega arith)
cuts_within any (suc n) (b ∷ rest) le =
    let c = first_cut any b rest in
    subst (Cuts any (b ∷ rest)) (sym (first_of_parts any b rest (drop c.len rest) c.part c.len refl refl))
    (first_follows any b rest (parts_of any (drop c.len rest)) (cuts_within any n (drop c.len rest) (omega (arith, length-drop c.len rest))))

pub cuts_all : (any : Bool) (template : List ℕ) → Cuts any template (parts_of any template)
cuts_all any template = cuts_within any (length template) template (omega arith)

pub cuts_are_parts : (any : Bool) (template : List ℕ) (parts : List Part) → Cuts any template parts ↔ (parts ≡ parts_of any template)
cuts_are_parts any template parts = (λ c. cuts_once c, λ e. subst (Cuts any template) (sym e) (cuts_all any template))

pub expands_once : (any : Bool) (largest : ℕ) (text_of : ℕ → Option (List ℕ)) (index_of : List ℕ → Option ℕ) (template text : List ℕ) →
    Expands largest text_of index_of any template text ↔ (text ≡ expansion any largest text_of index_of template)
unfolding expansion
expands_once any largest text_of index_of template text = grind (arith, common_steps, cuts_once, cuts_all)

-- ## Texts part by part

-- the text of a template is that of its first parts and that of the rest
pub expansion_front : (any : Bool) (largest : ℕ) (text_of : ℕ → Option (List ℕ)) (index_of : List ℕ → Option ℕ) (template rest : List ℕ) (front : List Part) →
    CutsFront any template front rest →
    expansion any largest text_of index_of template
    ≡ flat_map (stands_for largest text_of index_of) front ++ expansion any largest text_of index_of rest
unfolding expansion
expansion_front any largest text_of index_of template rest front cuts =
    ap (flat_map (stands_for largest text_of index_of)) (sym (cuts_once (cuts (parts_of any rest) (cuts_all any rest))))
    ∙ flat_map-append (stands_for largest text_of index_of) front (parts_of any rest)

pub expansion_end : (any : Bool) (largest : ℕ) (text_of : ℕ → Option (List ℕ)) (index_of : List ℕ → Option ℕ) → expansion any largest text_of index_of [] ≡ []
unfolding expansion parts_after
expansion_end any largest text_of index_of = refl

-- bytes stand for themselves
pub bytes_stand : (largest : ℕ) (text_of : ℕ → Option (List ℕ)) (index_of : List ℕ → Option ℕ) (bytes : List ℕ) →
    flat_map (stands_for largest text_of index_of) (map byte bytes) ≡ bytes
bytes_stand largest text_of index_of [] = refl
bytes_stand largest text_of index_of (b ∷ bytes) = ap (λ (l : List ℕ). b ∷ l) (bytes_stand largest text_of index_of bytes)

plain_cuts : (any : Bool) (template : List ℕ) → IsNew 36 template → Cuts any template (map byte template)
plain_cuts any [] new = ends
plain_cuts any (b ∷ rest) new = plain b rest (map byte rest) (λ is. new (inl is)) (plain_cuts any rest (λ among. new (inr among)))

pub plain_stands_for_itself : PlainStandsForItself
plain_stands_for_itself any largest text_of index_of template new =
    sym ((expands_once any largest text_of index_of template template).0
    (map byte template, plain_cuts any template new, sym (bytes_stand largest text_of index_of template)))
