-- Sets for C: how patterns are cut, what a search puts, and which searches are refused.
use Rattle.std.proofs.Common.{◌≡◌, ◌<◌, ◌≤◌, ◌+◌, ℕ, zero, suc, Bool, true, false, cond, ◌↔◌, true≢false, List, [], ◌∷◌, ◌++◌, length, map, take, drop, get_or, slice_get, slice_set, Some, refl, sym, ap, subst, ◌∙◌, arith, add-one, drop-cons, append_assoc}
use Rattle.std.specs.Prelude.{slice_range, IsTrue}
use Rattle.std.proofs.Math.Seq.{take-suc}
use Rattle.std.proofs.lemmas.List.{length-map, map-append}
use Rattle.std.proofs.lemmas.Option.{same_Some, none-some}
use Rattle.std.specs.Prelude.{⊤, MatchOption, Option}
use mir.Val.{bool_byte}
use Rattle.bites_spec.specs.Regex.{Regex}
use Rattle.bites_spec.specs.Set.{AreMatched, HasMatchOfAny}
use Rattle.bites_c.specs.Codes.{empty_handle, matched as found, not_matched}
use Rattle.bites_c.specs.Searched.{AnswersIf}
use Rattle.bites_c.specs.Sets.{AreEnds, SearchedSet, SetHeld, byte_of, cut_from}
use Rattle.bites_c.specs.Texts.{AsksFrom}
use Rattle.bites_c.proofs.TextLemmas.{still_refused}

-- the last of the offsets, or `start`
abbrev pub last_end : ℕ → List ℕ → ℕ
last_end start [] = start
last_end start (e ∷ es) = last_end e es

pub last_end_more : (start : ℕ) (es : List ℕ) (e : ℕ) → last_end start (es ++ e ∷ []) ≡ e
last_end_more start [] e = refl
last_end_more start (x ∷ xs) e = last_end_more x xs e

-- one pattern more
pub cut_more : (bytes : List ℕ) (start : ℕ) (es : List ℕ) (e : ℕ) → cut_from bytes start (es ++ e ∷ []) ≡ cut_from bytes start es ++ slice_range bytes (last_end start es) e ∷ []
cut_more bytes start [] e = refl
cut_more bytes start (x ∷ xs) e = ap (λ ps. slice_range bytes start x ∷ ps) (cut_more bytes x xs e)

-- the pattern with a number ends at the offset with that number
pub cut_at : (bytes : List ℕ) (start : ℕ) (es : List ℕ) (n : ℕ) (e : ℕ) → slice_get es n ≡ Some e → slice_get (cut_from bytes start es) n ≡ Some (slice_range bytes (last_end start (take n es)) e)
cut_at bytes start [] n e at = absurd (none-some e at)
cut_at bytes start (x ∷ xs) zero e at = ap (λ y. Some (slice_range bytes start y)) (same_Some x e at)
cut_at bytes start (x ∷ xs) (suc n) e at = cut_at bytes x xs n e at

-- one offset more
pub ends_more : (len start : ℕ) (es : List ℕ) (e : ℕ) → AreEnds len start es → last_end start es ≤ e → e ≤ len → AreEnds len start (es ++ e ∷ [])
ends_more len start [] e are from within = (from, within, are)
ends_more len start (x ∷ xs) e are from within = (are.0, are.1, ends_more len x xs e are.2 from within)

-- an offset is not below the one before it, and lies within
pub end_at : (len start : ℕ) (es : List ℕ) (n : ℕ) (e : ℕ) → slice_get es n ≡ Some e → AreEnds len start es → (last_end start (take n es) ≤ e) × (e ≤ len)
end_at len start [] n e at are = absurd (none-some e at)
end_at len start (x ∷ xs) zero e at are = subst (λ y. (start ≤ y) × (y ≤ len)) (same_Some x e at) (are.0, are.1)
end_at len start (x ∷ xs) (suc n) e at are = end_at len x xs n e at are.2

-- the offsets up to one, with that one
pub taken_more : (es : List ℕ) (n d : ℕ) → n < length es → take (n + 1) es ≡ take n es ++ get_or es n d ∷ []
taken_more es n d lt = ap (λ m. take m es) (add-one n) ∙ take-suc es n d lt

-- a byte is put where the next one stands
put_next : (front rest : List ℕ) (n x b : ℕ) → length front ≡ n → slice_set (front ++ x ∷ rest) n b ≡ front ++ b ∷ rest
put_next [] rest zero x b len = refl
put_next [] rest (suc n) x b len = absurd (omega (arith, len))
put_next (f ∷ fs) rest zero x b len = absurd (omega (arith, len))
put_next (f ∷ fs) rest (suc n) x b len = ap (λ l. f ∷ l) (put_next fs rest n x b (omega (arith, len)))

-- one entry more is put
pub entry_put : (matched : List Bool) (old new : List ℕ) (n : ℕ) (d : Bool) → n < length matched → length matched ≤ length old →
    new ≡ map byte_of (take n matched) ++ drop n old → slice_set new n (byte_of (get_or matched n d)) ≡ map byte_of (take (n + 1) matched) ++ drop (n + 1) old
entry_put matched old new n d lt room is =
    let front = map byte_of (take n matched) in
    let b = byte_of (get_or matched n d) in
    let len : length front ≡ n = length-map (take n matched) byte_of ∙ taken_len matched n lt in
    let split : drop n old ≡ get_or old n 0 ∷ drop (suc n) old = drop-cons old n 0 (omega (arith, lt, room)) in
    let more : map byte_of (take (n + 1) matched) ≡ front ++ b ∷ [] =
    ap (λ m. map byte_of (take m matched)) (add-one n) ∙ ap (map byte_of) (take-suc matched n d lt) ∙ map-append byte_of (take n matched) (get_or matched n d ∷ []) in
    ap (λ l. slice_set l n b) (is ∙ ap (λ r. front ++ r) split) ∙ put_next front (drop (suc n) old) n (get_or old n 0) b len
    ∙ sym (append_assoc front (b ∷ []) (drop (suc n) old)) ∙ ap (λ l. l ++ drop (suc n) old) (sym more) ∙ ap (λ m. map byte_of (take (n + 1) matched) ++ drop m old) (sym (add-one n))
  where
    taken_len : {A : Type 0} (xs : List A) (n : ℕ) → n < length xs → length (take n xs) ≡ n
    taken_len xs zero lt = refl
    taken_len [] (suc n) lt = absurd (omega (arith, lt))
    taken_len (x ∷ xs) (suc n) lt = ap suc (taken_len xs n (omega (arith, lt)))

-- a search that is refused by what a handle holds finds nothing
pub refused_set : (hay : List ℕ) (start : ℕ) (held after : Option SetHeld) (x : SetHeld) (b : Bool) (number : ℕ) (S : Type 0) (P : List Regex → Type 0) →
    held ≡ Some x → after ≡ Some x → b ≡ x.is_text → S → AsksFrom b hay start number ⊤ ⊥ → SearchedSet hay start held after number S P
refused_set hay start held after x b number S P is back text s refused = record {
  same = back ∙ sym is;
  answered =
      subst (λ o. MatchOption o ((number ≡ empty_handle) × S) (λ y. AsksFrom y.is_text hay start number S (P y.regexes))) (sym is)
      (subst (λ c. AsksFrom c hay start number S (P x.regexes)) text (still_refused b hay start number S (P x.regexes) s refused));
}

-- an entry as the code makes a byte of it
pub byte_is : (b : Bool) → bool_byte b ≡ byte_of b
byte_is true = refl
byte_is false = refl

-- the number says whether any entry is true, and so whether any tree matches
pub answers_any : (regexes : List Regex) (hay starts : List ℕ) (entries : List Bool) (b : Bool) (code : ℕ) → AreMatched regexes hay starts entries →
    (IsTrue b ↔ ((k : ℕ) × (slice_get entries k ≡ Some true))) → code ≡ cond b found not_matched → AnswersIf code (HasMatchOfAny regexes hay starts)
answers_any regexes hay starts entries true code are iff is =
    let one = iff.0 refl in
    let some : HasMatchOfAny regexes hay starts = (one.0, (are.each one.0).0 one.1) in
    ((λ e. some, λ h. is), (λ e. absurd (omega (arith, e, is)), λ none. absurd (none some)))
answers_any regexes hay starts entries false code are iff is =
    let none : HasMatchOfAny regexes hay starts → ⊥ = λ (k, h). true≢false (sym (iff.1 (k, (are.each k).1 h))) in
    ((λ e. absurd (omega (arith, e, is)), λ h. absurd (none h)), (λ e. none, λ h. is))
