-- The text of a template, part by part.
use Rattle.bites_machine.proofs.Library.{common_steps, ◌≡◌, ℕ, true, false, List, [], ◌∷◌, ◌++◌, length, map, drop, take, Option, Result, Ok, Err, refl, sym, ap, ◌∙◌, subst, ⊎_elim, ◌≢◌, arith, append_assoc, IsErr, rules, option_and_then, unwrap_or, append-nil, byte, name, plain, group_named, expansion, CutsFront, expansion_front, expansion_end, bytes_stand, take-append_seam, drop-append_seam, NoFurther, no_further, high_behind, expansion_before, IsFront, AppendsUntilRefused, IsTextFront, parts_in}
use Rattle.std.specs.Str.{IsValidUpTo}
use Rattle.bites_machine.specs.declared.interpolate.Part.{Part}

-- the greatest `usize`
abbrev pub largest : ℕ
largest = 18446744073709551615

-- Some of the text is appended to the old one, and the rest is still to come.
pub record Appended (old now whole rest : List ℕ) : Type 0 where
  pub front : List ℕ
  pub put : now ≡ old ++ front
  pub split : whole ≡ front ++ rest

pub appended_more : {old now next whole rest left : List ℕ} (piece : List ℕ) → Appended old now whole rest → rest ≡ piece ++ left → next ≡ now ++ piece → Appended old next whole left
appended_more piece a is put = grind (arith, common_steps, append_assoc)

-- all of it
pub appended_all : {old now whole rest : List ℕ} → Appended old now whole rest → rest ≡ [] → now ≡ old ++ whole
appended_all {old} a none = a.put ∙ ap (λ (l : List ℕ). old ++ l) (sym (append-nil a.front) ∙ ap (λ (l : List ℕ). a.front ++ l) (sym none) ∙ sym a.split)

-- a beginning of it, where nothing more was put
pub refused_more : {E : Type 0} {old now next whole rest : List ℕ} (r : Result (Unit {0}) E) → IsErr r → Appended old now whole rest → next ≡ now →
    AppendsUntilRefused r old next whole
refused_more (Ok u) refused a same = absurd (search (rules, refused))
refused_more {rest = rest} (Err e) refused a same = (a.front, (rest, a.split), same ∙ a.put)

-- also where more is put after it
pub kept_through : (old now next : List ℕ) → IsFront old now → IsFront now next → IsFront old next
kept_through old now next (text, e) (more, f) = (text ++ more, f ∙ ap (λ (l : List ℕ). l ++ more) e ∙ append_assoc old text more)

-- the parts by another name of the part
pub cuts_as : {part other : Part} {rest left : List ℕ} → part ≡ other → CutsFront true rest (parts_in part) left → CutsFront true rest (parts_in other) left
cuts_as {rest = rest} {left = left} is cuts = subst (λ (p : Part). CutsFront true rest (parts_in p) left) is cuts

module _ (texts : ℕ → Option (List ℕ)) (numbers : List ℕ → Option ℕ) where
  abbrev pub text_of_template : List ℕ → List ℕ
  text_of_template template = expansion true largest texts numbers template

  -- a text is put, and stands for itself
  pub text_put : {old now next whole : List ℕ} (rest text left : List ℕ) → CutsFront true rest (map byte text) left →
      Appended old now whole (text_of_template rest) → next ≡ now ++ text → Appended old next whole (text_of_template left)
  text_put rest text left cuts a put = appended_more _ a (expansion_front _ _ _ _ _ _ _ cuts ∙ ap (λ (l : List ℕ). l ++ text_of_template left) (bytes_stand _ _ _ _)) put

  -- a name stands for the text of its group, if there is one
  pub group_put : {old now next whole : List ℕ} (rest word left : List ℕ) (piece : Option (List ℕ)) → CutsFront true rest (name word ∷ []) left →
      piece ≡ option_and_then texts (group_named largest texts numbers word) → Appended old now whole (text_of_template rest) →
      next ≡ now ++ unwrap_or piece [] → Appended old next whole (text_of_template left)
  group_put rest word left piece cuts is a put =
      let stands = unwrap_or (option_and_then texts (group_named largest texts numbers word)) [] in
      appended_more _ a (expansion_front _ _ _ _ _ _ (name word ∷ []) cuts ∙ ap (λ (l : List ℕ). l ++ text_of_template left) (append-nil stands)
      ∙ sym (ap (λ (o : Option (List ℕ)). unwrap_or o [] ++ text_of_template left) is)) put

  pub text_at_end : (rest : List ℕ) → length rest ≡ 0 → text_of_template rest ≡ []
  text_at_end h none = grind (arith, common_steps, expansion_end)

-- UTF-8 goes no further than the prefix that was found
front_stops : (bytes text behind : List ℕ) → IsTextFront bytes text behind → NoFurther text behind
front_stops bytes text behind (whole, utf8, stop) =
    ⊎_elim (λ (e : behind ≡ []). subst (NoFurther text) (sym e) none) (λ (valid : IsValidUpTo bytes (length text)).
    rw (← ap (take (length text)) whole ∙ take-append_seam text behind) (subst (NoFurther (take (length text) bytes)) (ap (drop (length text)) whole ∙ drop-append_seam text behind) (no_further _ _ valid))) stop
  where
    none : NoFurther text []
    none [] rest e some u = omega arith
    none (b ∷ front) rest e some u = cc

module _ (texts : ℕ → Option (List ℕ)) (numbers : List ℕ → Option ℕ) where
  abbrev pub bytes_of_template : List ℕ → List ℕ
  bytes_of_template template = expansion false largest texts numbers template

  -- the text of the prefix, and that of the bytes after it
  pub front_text : (bytes text behind : List ℕ) → IsTextFront bytes text behind → bytes_of_template bytes ≡ text_of_template texts numbers text ++ bytes_of_template behind
  front_text bytes text behind front = grind (arith, common_steps, expansion_before, front_stops)

  -- the byte after the prefix stands for itself
  pub byte_text : (bytes text behind tail : List ℕ) (x : ℕ) → IsTextFront bytes text behind → behind ≡ x ∷ tail → bytes_of_template behind ≡ (x ∷ []) ++ bytes_of_template tail
  byte_text bytes text behind tail x front e =
      ap bytes_of_template e ∙ expansion_front false largest texts numbers (x ∷ tail) tail (byte x ∷ []) (λ parts c. plain x tail parts not_dollar c)
    where
      not_dollar : x ≢ 36
      not_dollar is =
          let above = high_behind text tail x front.1 (subst (NoFurther text) e (front_stops bytes text behind front)) in
          omega (arith, above, is)

  -- the text of a prefix was appended
  pub front_put : {old now next whole : List ℕ} (bytes text behind : List ℕ) → IsTextFront bytes text behind → Appended old now whole (bytes_of_template bytes) →
      next ≡ now ++ text_of_template texts numbers text → Appended old next whole (bytes_of_template behind)
  front_put bytes text behind front a put = appended_more (text_of_template texts numbers text) a (front_text bytes text behind front) put

  -- a beginning of it was
  pub front_begun : {E : Type 0} {old now next whole : List ℕ} (r : Result (Unit {0}) E) (bytes text behind : List ℕ) → IsErr r → IsTextFront bytes text behind →
      Appended old now whole (bytes_of_template bytes) → (begun : List ℕ) × IsFront begun (text_of_template texts numbers text) × (next ≡ now ++ begun) →
      AppendsUntilRefused r old next whole
  front_begun r bytes text behind refused front a (begun, (more, is), put) =
      refused_more _ refused (appended_more _ a
      (front_text _ _ _ front ∙ ap (λ (l : List ℕ). l ++ bytes_of_template behind) is ∙ append_assoc begun more (bytes_of_template behind)) put) refl
