-- What the parts of a template are, as the code finds them.
use Rattle.bites_machine.proofs.Library.{prefix_len-le-length, common_steps, ◌≡◌, ◌≢◌, ℕ, zero, suc, ◌+◌, ◌<◌, Bool, true, false, not, cond, ◌==◌, List, [], ◌∷◌, ◌++◌, length, get_or, take, drop, map, refl, sym, ap, ◌∙◌, subst, inl, inr, ◌⊎◌, true≢false, arith, ltb, ltb-true, ltb-false, eqb-true, eq-eqb, IsUtf8, IsCharBoundary, prefix_len, length-take-le, drop-drop, IsCharBoundary-end, IsCharBoundary-from_drop, cases_Bool, is_word_byte, IsNew, byte, name, plain, doubled, CutsFront, word_at_is, behind_ascii, BeginsWith, take_all}
use Rattle.bites_spec.proofs.templates.CuttingLemmas.{no_brace, brace_here, good_name, cuts_last, cuts_braced, cuts_unnamed, cuts_alone, cuts_named}

-- another byte
abbrev pub is_not : ℕ → ℕ → Bool
is_not c b = not (b == c)

module _ {X : Type 0} (p : X → Bool) where
  run_next : (x : X) (xs : List X) (d : Bool) → p x ≡ d → prefix_len p (x ∷ xs) ≡ cond d (suc (prefix_len p xs)) 0
  run_next x xs d e = grind arith

-- at the end, or at this byte
abbrev Stops : ℕ → List ℕ → ℕ → Type 0
Stops c bytes n = (n ≡ length bytes) ⊎ ((n < length bytes) × (get_or bytes n 0 ≡ c))

stop_at : (c : ℕ) (bytes : List ℕ) → Stops c bytes (prefix_len (is_not c) bytes)
stop_at c [] = inl refl
stop_at c (b ∷ bytes) = grind (arith, common_steps, run_next, eqb-true, (stop_at c bytes))

pub stop_border : (c : ℕ) (text bytes : List ℕ) (n : ℕ) → bytes ≡ text → n ≡ prefix_len (is_not c) bytes → c < 128 → IsCharBoundary text n
stop_border c text bytes n same is low = grind (arith, common_steps, stop_at, IsCharBoundary-end)

-- if it is not the end, this byte is there
stop_byte : (c : ℕ) (bytes : List ℕ) → prefix_len (is_not c) bytes ≢ length bytes → (prefix_len (is_not c) bytes < length bytes) × (get_or bytes (prefix_len (is_not c) bytes) 0 ≡ c)
stop_byte c bytes other = grind (arith, common_steps, stop_at)

-- it is not before
new_before : (c : ℕ) (bytes : List ℕ) → IsNew c (take (prefix_len (is_not c) bytes) bytes)
new_before c [] = λ none. none
new_before c (b ∷ bytes) = by_test (b == c) refl (new_before c bytes)
  where
    by_test : (d : Bool) → (b == c) ≡ d → IsNew c (take (prefix_len (is_not c) bytes) bytes) → IsNew c (take (prefix_len (is_not c) (b ∷ bytes)) (b ∷ bytes))
    by_test h e new = grind (arith, run_next, true≢false, eq-eqb)

pub brace_none : (inside bytes : List ℕ) (n : ℕ) → bytes ≡ inside → n ≡ prefix_len (is_not 125) bytes → n ≡ length inside → IsNew 125 inside
brace_none inside bytes n same is end =
    subst (IsNew 125) (ap (λ (l : List ℕ). take (prefix_len (is_not 125) bytes) l) same ∙ take_all (prefix_len (is_not 125) bytes) inside (omega (arith, is, end))) (new_before 125 bytes)

-- the part that braces make, and what comes after them
brace_cuts : (rest inside : List ℕ) → BeginsWith 123 rest → inside ≡ drop 1 rest → prefix_len (is_not 125) inside ≢ length inside →
    CutsFront true (36 ∷ rest) (name (take (prefix_len (is_not 125) inside) inside) ∷ []) (drop 1 (drop (prefix_len (is_not 125) inside) inside))
brace_cuts rest inside (tail, e) is other =
    let whole : rest ≡ 123 ∷ inside = e ∙ ap (λ (l : List ℕ). 123 ∷ l) (sym (is ∙ ap (drop 1) e)) in
    let at = stop_byte 125 inside other in
    let n = prefix_len (is_not 125) inside in
    let len = length-take-le n inside (omega (arith, at.0)) in
    subst (CutsFront true (36 ∷ rest) (name (take n inside) ∷ []))
    (ap (drop (length (take n inside) + 2)) whole ∙ ap (λ (k : ℕ). drop (k + 2) (123 ∷ inside)) len ∙ two n inside)
    (cuts_braced true rest inside (take n inside) 123 whole refl (grind (arith, common_steps, stop_byte, good_name, brace_here, new_before)))
  where
    two : (n : ℕ) (xs : List ℕ) → drop (n + 2) (123 ∷ xs) ≡ drop 1 (drop n xs)
    two n xs = let next : n + 2 ≡ suc (n + 1) = omega arith in ap (λ (k : ℕ). drop k (123 ∷ xs)) next ∙ sym (drop-drop 1 n xs)

pub brace_split : (rest inside bytes word closing behind : List ℕ) (n : ℕ) → BeginsWith 123 rest → inside ≡ drop 1 rest → bytes ≡ inside → n ≡ prefix_len (is_not 125) bytes →
    word ≡ take n inside → closing ≡ drop n inside → behind ≡ drop 1 closing → n ≢ length inside → CutsFront true (36 ∷ rest) (name word ∷ []) behind
brace_split rest inside bytes word closing behind n begins e same is front back last other = grind (arith, common_steps, brace_cuts)

pub brace_behind : (inside bytes closing : List ℕ) (n : ℕ) → bytes ≡ inside → n ≡ prefix_len (is_not 125) bytes → closing ≡ drop n inside → n ≢ length inside →
    get_or closing 0 0 < 128
brace_behind inside bytes closing n same is back other = grind (arith, common_steps, stop_byte)

pub brace_open : (rest inside : List ℕ) → BeginsWith 123 rest → inside ≡ drop 1 rest → IsNew 125 inside → CutsFront true (36 ∷ rest) (byte 36 ∷ []) rest
brace_open rest inside (tail, e) is new = cuts_unnamed _ _ _ _ (e ∙ ap (λ (l : List ℕ). 123 ∷ l) (sym (is ∙ ap (drop 1) e))) refl (no_brace _ _ new)

pub brace_still_none : (rest inside : List ℕ) → BeginsWith 123 rest → inside ≡ drop 1 rest → IsNew 125 inside → IsNew 125 rest
brace_still_none rest inside (tail, e) is new = grind arith

pub plain_none : (text bytes : List ℕ) (n : ℕ) → bytes ≡ text → n ≡ prefix_len (is_not 36) bytes → n ≡ 0 → 0 < length text → BeginsWith 36 text
plain_none text bytes n same is none some = grind (arith, common_steps, stop_at)

plain_cuts : (any : Bool) (bytes : List ℕ) → CutsFront any bytes (map byte (take (prefix_len (is_not 36) bytes) bytes)) (drop (prefix_len (is_not 36) bytes) bytes)
plain_cuts any [] = λ parts c. c
plain_cuts any (b ∷ bytes) = by_test (b == 36) refl (plain_cuts any bytes)
  where
    by_test : (d : Bool) → (b == 36) ≡ d →
        CutsFront any bytes (map byte (take (prefix_len (is_not 36) bytes) bytes)) (drop (prefix_len (is_not 36) bytes) bytes) →
        CutsFront any (b ∷ bytes) (map byte (take (prefix_len (is_not 36) (b ∷ bytes)) (b ∷ bytes))) (drop (prefix_len (is_not 36) (b ∷ bytes)) (b ∷ bytes))
    by_test true e h = grind (arith, common_steps, run_next, true≢false)
    by_test false e h =
        rw (run_next (is_not 36) b bytes true (ap not e)) (λ parts c. plain b bytes (map byte (take (prefix_len (is_not 36) bytes) bytes) ++ parts) (λ is. true≢false (sym (ap (λ (x : ℕ). x == 36) is) ∙ e))
        (h parts c))

pub plain_split : (text bytes front behind : List ℕ) (n : ℕ) → bytes ≡ text → n ≡ prefix_len (is_not 36) bytes → front ≡ take n text → behind ≡ drop n text →
    CutsFront true text (map byte front) behind
plain_split text bytes front behind n same is begin back = grind (arith, common_steps, plain_cuts)

-- two dollars
pub dollar_twice : (rest behind last : List ℕ) → BeginsWith 36 rest → behind ≡ drop 1 rest → last ≡ drop 1 behind → BeginsWith 36 behind → CutsFront true rest (byte 36 ∷ []) last
dollar_twice rest behind last (tail, e) is next (more, f) =
    let whole : rest ≡ 36 ∷ 36 ∷ more = e ∙ ap (λ (l : List ℕ). 36 ∷ l) (sym (is ∙ ap (drop 1) e) ∙ f) in
    rw (next ∙ ap (drop 1) f) (rw whole (λ parts c. doubled more parts c))

-- no brace, and none later
pub no_brace_behind : (n : ℕ) (bytes : List ℕ) → IsNew 125 bytes → IsNew 125 (drop n bytes)
no_brace_behind zero bytes new = new
no_brace_behind (suc n) [] new = new
no_brace_behind (suc n) (b ∷ bytes) new = no_brace_behind n bytes (λ a. new (inr a))

utf8_behind_word : (bytes : List ℕ) → IsUtf8 bytes → IsUtf8 (drop (prefix_len is_word_byte bytes) bytes)
utf8_behind_word [] utf8 = utf8
utf8_behind_word (b ∷ bytes) utf8 = by_test (is_word_byte b) refl (λ u. utf8_behind_word bytes u)
  where
    by_test : (d : Bool) → is_word_byte b ≡ d → (IsUtf8 bytes → IsUtf8 (drop (prefix_len is_word_byte bytes) bytes)) → IsUtf8 (drop (prefix_len is_word_byte (b ∷ bytes)) (b ∷ bytes))
    by_test true e h = rw (run_next is_word_byte b bytes true e) (h (behind_ascii [] bytes b (grind (arith, common_steps, ltb, ltb-true, true≢false, ltb-false, cases_Bool)) utf8))
    by_test false e h = rw (run_next is_word_byte b bytes false e) utf8

pub word_border : (text bytes : List ℕ) (n : ℕ) → bytes ≡ text → n ≡ prefix_len is_word_byte bytes → IsUtf8 bytes → IsCharBoundary text n
word_border text bytes n same is utf8 =
    rw (← same) (subst (IsCharBoundary bytes) (sym is) (IsCharBoundary-from_drop bytes (prefix_len is_word_byte bytes) (prefix_len-le-length is_word_byte bytes) (utf8_behind_word bytes utf8)))

pub word_split : (any : Bool) (rest bytes word behind : List ℕ) (n : ℕ) → bytes ≡ rest → n ≡ prefix_len is_word_byte bytes → word ≡ take n rest → behind ≡ drop n rest → n ≢ 0 →
    CutsFront any (36 ∷ rest) (name word ∷ []) behind
word_split any rest bytes word behind n same is front back some = grind (arith, common_steps, length-take-le, prefix_len-le-length, cuts_named, word_at_is)

pub word_none : (any : Bool) (rest bytes : List ℕ) (n : ℕ) → bytes ≡ rest → n ≡ prefix_len is_word_byte bytes →
    ((tail : List ℕ) → rest ≢ 36 ∷ tail) → ((tail : List ℕ) → rest ≢ 123 ∷ tail) → n ≡ 0 → CutsFront any (36 ∷ rest) (byte 36 ∷ []) rest
word_none any [] bytes n same is dollar brace none = cuts_last _ _ refl
word_none any (b ∷ rest) bytes n same is dollar brace none =
    cuts_alone _ _ _ _ _ refl (λ e. dollar rest (ap (λ (c : ℕ). c ∷ rest) e)) (λ e. brace rest (ap (λ (c : ℕ). c ∷ rest) e)) (word_at_is _)
    (length-take-le (prefix_len is_word_byte (b ∷ rest)) (b ∷ rest) (prefix_len-le-length is_word_byte (b ∷ rest)) ∙ ap (prefix_len is_word_byte) (sym same) ∙ sym is ∙ none)
