-- Texts that stand in a haystack: one after another, and in a longer stretch.
use Rattle.std.proofs.Common.{◌≡◌, ℕ, zero, suc, ◌+◌, ◌*◌, ◌-◌, ◌<◌, ◌≤◌, Bool, true, false, ◌||◌, List, [], ◌++◌, length, get_or, Option, Some, None, refl, sym, ap, ◌∙◌, subst, ◌⊎◌, inl, inr, ⊎_elim, arith, length-append}
use Rattle.std.specs.Prelude.{IfSome}
use Rattle.std.specs.Char.{to_ascii_lowercase}
use Rattle.std.proofs.lemmas.Bool.{cases_lt}
use Rattle.std.proofs.lemmas.List.{get_or_append_left}
use Rattle.std.proofs.Math.Nat.{mul-le-mul_right}
use Rattle.std.proofs.Math.Seq.{get_or-append_right}
use Rattle.bites_scan.specs.Literal.{folding}
use Rattle.bites_literals.specs.Facts.{IsSum}
use Rattle.std.specs.List.{repeat}
use Rattle.bites_literals.specs.Texts.{EndsWith, Holds, Stands}

-- bytes that are equal stay so if case is ignored
left_equal : (a b : Bool) (x y : ℕ) → folding a x ≡ folding a y → folding (a || b) x ≡ folding (a || b) y
left_equal true b x y e = e
left_equal false b x y e = ap (folding b) e

right_equal : (a b : Bool) (x y : ℕ) → folding b x ≡ folding b y → folding (a || b) x ≡ folding (a || b) y
right_equal true true x y e = e
right_equal true false x y e = ap to_ascii_lowercase e
right_equal false b x y e = e

pub stand_together : (a b : Bool) (xs ys hay : List ℕ) (i : ℕ) → Stands a xs hay i → Stands b ys hay (i + length xs) → Stands (a || b) (xs ++ ys) hay i
stand_together a b xs ys hay i s t k h =
    elim (cases_lt k (length xs)) [
      | inl l ↦
          let own = s k l in
          (own.0, left_equal a b (get_or hay (i + k) 0) (get_or (xs ++ ys) k 0) (own.1 ∙ ap (folding a) (sym (get_or_append_left xs ys 0 k l))))
      | inr g ↦
          let m : ℕ = k - length xs in
          let at : i + length xs + m ≡ i + k = omega arith in
          let own = t m (omega (arith, length-append xs ys)) in (
            subst (λ p. p < length hay) at own.0,
            right_equal a b (get_or hay (i + k) 0) (get_or (xs ++ ys) k 0)
                (ap (λ p. folding b (get_or hay p 0)) (sym at) ∙ own.1 ∙ ap (folding b) (sym (get_or-append_right xs ys k 0 g))),
          )
    ]

-- two texts stand where both stand as one, if letters count alike in both
pub stand_apart : (a b : Bool) (xs ys hay : List ℕ) (i : ℕ) → (a ≡ b) ⊎ ((ys ≡ []) × (b ≡ false)) → Stands (a || b) (xs ++ ys) hay i → Stands a xs hay i × Stands b ys hay (i + length xs)
stand_apart a b xs ys hay i alike s = (left, right)
  where
    own : (a b : Bool) → (a ≡ b) ⊎ ((ys ≡ []) × (b ≡ false)) → (a || b) ≡ a
    own true b alike = refl
    own false b (inl e) = sym e
    own false b (inr e) = e.1

    left : Stands a xs hay i
    left k h =
        let one = s k (omega (arith, h, length-append xs ys)) in
        (one.0, subst (λ c. folding c (get_or hay (i + k) 0) ≡ folding c (get_or xs k 0)) (own a b alike) (one.1 ∙ ap (folding (a || b)) (get_or_append_left xs ys 0 k h)))

    right : Stands b ys hay (i + length xs)
    right k h =
        let one = s (length xs + k) (omega (arith, h, length-append xs ys)) in
        let at : i + (length xs + k) ≡ i + length xs + k = omega arith in
        let behind : length xs + k - length xs ≡ k = omega arith in (
          subst (λ p. p < length hay) at one.0,
          ⊎_elim (λ (e : a ≡ b). subst (λ c. folding c (get_or hay (i + length xs + k) 0) ≡ folding c (get_or ys k 0)) (own a b alike ∙ e)
              (ap (λ p. folding (a || b) (get_or hay p 0)) (sym at) ∙ one.1 ∙ ap (folding (a || b)) (get_or-append_right xs ys (length xs + k) 0 (omega arith) ∙ ap (λ p. get_or ys p 0) behind)))
              (λ (none : (ys ≡ []) × (b ≡ false)). absurd (omega (arith, ap length none.0, h))) alike,
        )

pub hold_longer : (c : Bool) (bytes : List ℕ) (before : Option ℕ) (hay : List ℕ) (i l j : ℕ) → l ≤ j → Holds c bytes before hay i l → Holds c bytes before hay i j
hold_longer c bytes before hay i l j le h = record { at = h.at; onward = h.onward; within = omega (arith, h.within, le); near = h.near; stands = h.stands }

-- a match ends with no byte at once
pub end_none : (c : Bool) (bytes hay : List ℕ) (i j : ℕ) → bytes ≡ [] → i ≤ j → EndsWith c bytes hay i j
end_none c bytes hay i j none le = record {
  at = j;
  onward = le;
  end = omega (arith, ap length none);
  stands = λ k h. absurd (omega (arith, ap length none, h));
}

pub end_longer : (c : Bool) (bytes hay : List ℕ) (i l j : ℕ) → i ≤ l → EndsWith c bytes hay l j → EndsWith c bytes hay i j
end_longer c bytes hay i l j le e = record { at = e.at; onward = omega (arith, le, e.onward); end = e.end; stands = e.stands }

-- what one ends with, and the other one is
pub end_together : (a b : Bool) (xs ys hay : List ℕ) (i l j : ℕ) → EndsWith a xs hay i l → Stands b ys hay l → j ≡ l + length ys → EndsWith (a || b) (xs ++ ys) hay i j
end_together a b xs ys hay i l j e s end = record {
  at = e.at;
  onward = e.onward;
  end = omega (arith, e.end, end, length-append xs ys);
  stands = stand_together a b xs ys hay e.at e.stands (subst (λ p. Stands b ys hay p) (sym e.end) s);
}

-- a text that is held is held behind any number of bytes
pub anywhere : (c : Bool) (bytes : List ℕ) (before : Option ℕ) (hay : List ℕ) (i j : ℕ) → Holds c bytes before hay i j → Holds c bytes None hay i j
anywhere c bytes before hay i j h = record { at = h.at; onward = h.onward; within = h.within; near = tt; stands = h.stands }

near_later : (most before after : Option ℕ) (i l at : ℕ) → IsSum most before after → IfSome most (λ n. l ≤ i + n) → IfSome before (λ n. at ≤ l + n) → IfSome after (λ n. at ≤ i + n)
near_later most before None i l at is m b = tt
near_later most before (Some r) i l at (x, y, ex, ey, e) m b =
    let mx : l ≤ i + x = subst (λ o. IfSome o (λ n. l ≤ i + n)) ex m in
    let by : at ≤ l + y = subst (λ o. IfSome o (λ n. at ≤ l + n)) ey b in
    omega (arith, mx, by, e)

pub hold_later : (c : Bool) (bytes : List ℕ) (most before after : Option ℕ) (hay : List ℕ) (i l j : ℕ) → i ≤ l → IsSum most before after → IfSome most (λ n. l ≤ i + n) →
    Holds c bytes before hay l j → Holds c bytes after hay i j
hold_later c bytes most before after hay i l j le is m h = record {
  at = h.at;
  onward = omega (arith, le, h.onward);
  within = h.within;
  near = near_later most before after i l h.at is m h.near;
  stands = h.stands;
}

-- a text at the beginning is one behind at most so many bytes
pub hold_front : (c : Bool) (bytes : List ℕ) (before : Option ℕ) (hay : List ℕ) (i l j : ℕ) → i ≤ l → IfSome before (λ n. l ≤ i + n) → Stands c bytes hay l → l + length bytes ≤ j → Holds c bytes before hay i j
hold_front c bytes before hay i l j le near s within = record { at = l; onward = le; within = within; near = near; stands = s }

pub repeated_length : (k : ℕ) (bytes : List ℕ) → length (repeat k bytes) ≡ k * length bytes
repeated_length zero bytes = omega arith
repeated_length (suc k) bytes = omega (arith, length-append bytes (repeat k bytes), repeated_length k bytes)

pub repeated_more : (k : ℕ) (bytes : List ℕ) → repeat (k + 1) bytes ≡ bytes ++ repeat k bytes
repeated_more k bytes = let next : k + 1 ≡ suc k = omega arith in ap (λ n. repeat n bytes) next

-- one text more, where all fit
pub repeated_fits : (k count : ℕ) (bytes : List ℕ) → k < count → count * length bytes ≤ 32 → length bytes + length (repeat k bytes) ≤ 32
repeated_fits k count bytes lt fit =
    let more : (k + 1) * length bytes ≤ count * length bytes = mul-le-mul_right (length bytes) (omega (arith, lt)) in
    omega (arith, repeated_length k bytes, more, fit)
