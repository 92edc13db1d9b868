-- Lanes, bits and offsets of a literal: what the masks of its two bytes say of where it occurs.
use Rattle.std.proofs.Common.{◌≡◌, ℕ, ◌+◌, ◌<◌, ◌≤◌, min, eqb, Bool, true, false, ◌||◌, not, ◌↔◌, IsTrue, cond, List, [], ◌∷◌, ◌++◌, map, take, drop, length, get_or, replicate, bit_and, bit_or, w8, Fits, refl, sym, ap, ap₂, ◌∙◌, subst, arith, inl, inr, eq-eqb, eqb-true}
use Rattle.std.proofs.lemmas.Bool.{cases_lt, agree_below_at}
use Rattle.std.proofs.lemmas.List.{drop_more, length-append, length-drop, map-append, map-id, take_all, take-append-drop, take-append-le, take-map, take-take, get_or-map}
use Rattle.std.proofs.lemmas.Simd.{Each1-get_or, length-chunk, zip2_splat, get_or-chunk, get_or-zip2, length-zip2}
use Rattle.std.proofs.Math.Bool.{or_comm}
use Rattle.std.specs.Char.{to_ascii_lowercase}
use lib.Lanes.{Each1, zip2, sel_l, top, chunk}
use Rattle.bites_scan.specs.Lanes.{is_marked, marks}
use Rattle.bites_scan.specs.Literal.{Needle, OccursAt, folding, DifferFrom, NeedleOccursAt}
use Rattle.bites_scan.proofs.MarkLemmas.{chosen}

abbrev pub same : ℕ → ℕ → ℕ
same a b = cond (eqb a b) 255 0

abbrev lane_of : Bool → ℕ
lane_of b = cond (top 7 (cond b 255 0)) 255 0

full : (x byte : ℕ) → x ≡ byte → lane_of (eqb x byte) ≡ 255
full x byte e = ap lane_of (eq-eqb x byte e)

pub equal_lane : (v : List ℕ) (byte k : ℕ) → length v ≡ 16 → k < 16 → get_or v k 0 ≡ byte
    → get_or (sel_l {A = ℕ} (map (top 7) (zip2 same v (replicate 16 byte))) (replicate 16 255) (replicate 16 0)) k 0 ≡ 255
equal_lane v byte k long lt e =
    ap (λ l. get_or l k 0) (ap (λ z. sel_l {A = ℕ} (map (top 7) z) (replicate 16 255) (replicate 16 0)) (zip2_splat same v 16 byte long) ∙ chosen (λ x. same x byte) v 16 long)
    ∙ get_or-map (λ x. cond (top 7 (same x byte)) 255 0) v k 0 0 (omega arith) ∙ full (get_or v k 0) byte e

-- the letters of both cases have one more bit in common
pub fold_bit : (x : ℕ) → x < 256 → bit_or x 32 ≡ bit_or (to_ascii_lowercase x) 32
fold_bit x h = eqb-true _ _ (agree_below_at (λ x. eqb (bit_or x 32) (bit_or (to_ascii_lowercase x) 32)) (λ _. true) 256 x refl h)

pub caseless_lane : (v : List ℕ) (byte k : ℕ) → length v ≡ 16 → Each1 (Fits w8) v → byte < 256 → k < 16 → to_ascii_lowercase (get_or v k 0) ≡ to_ascii_lowercase byte
    → get_or (sel_l {A = ℕ} (map (top 7) (zip2 same (zip2 bit_or v (replicate 16 32)) (replicate 16 (bit_or byte 32)))) (replicate 16 255) (replicate 16 0)) k 0 ≡ 255
caseless_lane v byte k long fits small lt e =
    let lane : get_or v k 0 < 256 = (Each1-get_or (Fits w8) v k 0 (omega arith) fits).fits in
    let folded = zip2_splat bit_or v 16 32 long in
    equal_lane (zip2 bit_or v (replicate 16 32)) (bit_or byte 32) k (length-zip2 bit_or v (replicate 16 32) long ∙ long) lt
    (ap (λ l. get_or l k 0) folded ∙ get_or-map (λ x. bit_or x 32) v k 0 0 (omega arith) ∙ fold_bit (get_or v k 0) lane ∙ ap (λ x. bit_or x 32) e ∙ sym (fold_bit byte small))

pub both_marked : (a b : List ℕ) (k : ℕ) → length a ≡ 16 → length b ≡ 16 → k < 16 → get_or a k 0 ≡ 255 → get_or b k 0 ≡ 255 → get_or (marks (zip2 bit_and a b)) k false ≡ true
both_marked a b k la lb lt ea eb =
    get_or-map is_marked (zip2 bit_and a b) k 0 false (omega (arith, length-zip2 bit_and a b (la ∙ sym lb)))
    ∙ ap is_marked (get_or-zip2 bit_and a b k 0 0 0 (omega arith) (omega arith) ∙ ap₂ bit_and ea eb)

-- a byte of the literal at its offset
pub byte_at : (fold : ℕ → ℕ) (haystack needle : List ℕ) (at i : ℕ) → OccursAt fold haystack needle at → i < length needle → fold (get_or haystack (at + i) 0) ≡ fold (get_or needle i 0)
byte_at fold haystack needle at i o h =
    let long = length-chunk at (length needle) haystack o.room in
    ap fold (sym (get_or-chunk at (length needle) haystack i 0 h)) ∙ sym (get_or-map fold (chunk at (length needle) haystack) i 0 0 (omega arith))
    ∙ ap (λ l. get_or l i 0) o.equal ∙ get_or-map fold needle i 0 0 h

-- bytes that are equal for one literal are equal without case too, unless case counts in both
coarser : (c d : Bool) (xs ys : List ℕ) → map (folding c) xs ≡ map (folding c) ys → map (folding (c || d)) xs ≡ map (folding (c || d)) ys
coarser true d xs ys e = e
coarser false d xs ys e = ap (λ l. map (folding d) l) (sym (map-id xs) ∙ e ∙ map-id ys)

-- of equal texts the first bytes are equal
fronts : (fold : ℕ → ℕ) (n : ℕ) (xs ys : List ℕ) → map fold xs ≡ map fold ys → map fold (take n xs) ≡ map fold (take n ys)
fronts fold n xs ys e = sym (take-map fold n xs) ∙ ap (λ l. take n l) e ∙ take-map fold n ys

-- a literal that occurs somewhere begins as the haystack does there
front_of : (a : Needle) (d : Bool) (n : ℕ) → n ≤ length a.bytes → (haystack : List ℕ) (at : ℕ) → NeedleOccursAt haystack at a
    → map (folding (a.caseless || d)) (take n (drop at haystack)) ≡ map (folding (a.caseless || d)) (take n a.bytes)
front_of a d n le haystack at o =
    let fold = folding (a.caseless || d) in let here = take (length a.bytes) (drop at haystack) in
    ap (λ l. map fold l) (sym (take-take n (length a.bytes) (drop at haystack) le)) ∙ fronts fold n here a.bytes (coarser a.caseless d here a.bytes o.equal)

-- the first bytes of both are equal
abbrev AreEqualUpTo : Bool → ℕ → (xs ys : List ℕ) → Type 0
AreEqualUpTo caseless n xs ys = map (folding caseless) (take n xs) ≡ map (folding caseless) (take n ys)

-- those are that stand at one place if the literals do
abbrev AreAlike : (a b : Needle) → Type 0
AreAlike a b = AreEqualUpTo (a.caseless || b.caseless) (min (length a.bytes) (length b.bytes)) a.bytes b.bytes

apart : (a b : Needle) → (AreAlike a b → ⊥) → DifferFrom a b
apart a b differ haystack at o p =
    let n = min (length a.bytes) (length b.bytes) in
    let swapped = or_comm b.caseless a.caseless in
    differ (sym (front_of a b.caseless n (omega arith) haystack at o)
    ∙ subst (λ c. map (folding c) (take n (drop at haystack)) ≡ map (folding c) (take n b.bytes)) swapped (front_of b a.caseless n (omega arith) haystack at p))

-- a haystack in which both stand at the start: the longer one, with the shorter one's bytes where case counts in it
shared : (xs ys : List ℕ) (c d : Bool) → length xs ≤ length ys → map (folding (c || d)) xs ≡ map (folding (c || d)) (take (length xs) ys)
    → (haystack : List ℕ) × OccursAt (folding c) haystack xs 0 × OccursAt (folding d) haystack ys 0
shared xs ys true d le e =
    (ys, record { room = omega arith; equal = sym e }, record { room = omega arith; equal = ap (λ l. map (folding d) l) (take_all (length ys) ys (omega arith)) })
shared xs ys false d le e =
    let rest = drop (length xs) ys in
    let long : length (xs ++ rest) ≡ length ys = omega (arith, length-append xs rest, length-drop (length xs) ys) in (
      xs ++ rest,
      record { room = omega (arith, long); equal = ap (λ l. map (folding false) l) (take-append-le (length xs) xs rest (omega arith) ∙ take_all (length xs) xs (omega arith)) },
      record {
        room = omega (arith, long);
        equal = ap (λ l. map (folding d) l) (take_all (length ys) (xs ++ rest) (omega (arith, long))) ∙ map-append (folding d) xs rest
            ∙ ap (λ l. l ++ map (folding d) rest) e ∙ sym (map-append (folding d) (take (length xs) ys) rest) ∙ ap (λ l. map (folding d) l) (take-append-drop (length xs) ys);
      },
    )

together : (a b : Needle) → AreAlike a b → DifferFrom a b → ⊥
together a b alike differ =
    let n = min (length a.bytes) (length b.bytes) in
    elim (cases_lt (length b.bytes) (length a.bytes)) [
      | inl lt ↦
          let all : take n b.bytes ≡ b.bytes = take_all n b.bytes (omega arith) in
          let short : n ≡ length b.bytes = omega arith in
          let swapped = subst (λ c. map (folding c) (take n a.bytes) ≡ map (folding c) (take n b.bytes)) (or_comm a.caseless b.caseless) alike in
          let found = shared b.bytes a.bytes b.caseless a.caseless (omega arith) (ap (λ l. map (folding (b.caseless || a.caseless)) l) (sym all) ∙ sym swapped ∙ ap (λ k. map (folding (b.caseless || a.caseless)) (take k a.bytes)) short) in
          differ found.0 0 found.2 found.1
      | inr le ↦
          let all : take n a.bytes ≡ a.bytes = take_all n a.bytes (omega arith) in
          let short : n ≡ length a.bytes = omega arith in
          let found = shared a.bytes b.bytes a.caseless b.caseless le (ap (λ l. map (folding (a.caseless || b.caseless)) l) (sym all) ∙ alike ∙ ap (λ k. map (folding (a.caseless || b.caseless)) (take k b.bytes)) short) in
          differ found.0 0 found.1 found.2
    ]

-- so a comparison of these bytes tells whether they can
told : (a b : Needle) (same : Bool) → IsTrue same ↔ AreAlike a b → IsTrue (not same) ↔ DifferFrom a b
told a b true said = ((λ no. let never : false ≡ true = no in cc), (λ differ. absurd (together a b (said.0 refl) differ)))
told a b false said = ((λ _. apart a b (λ alike. let no : false ≡ true = said.1 alike in cc)), (λ _. refl))

pub compared : (a b : Needle) (c same : Bool) (n i j : ℕ) (xs ys : List ℕ) → (a.caseless || b.caseless) ≡ c → i ≡ length a.bytes → j ≡ length b.bytes → n ≡ min i j
    → xs ≡ a.bytes → ys ≡ b.bytes → IsTrue same ↔ AreEqualUpTo c n xs ys → IsTrue (not same) ↔ DifferFrom a b
compared a b c same n i j xs ys by la lb len own other said =
    let least : n ≡ min (length a.bytes) (length b.bytes) = omega (arith, la, lb, len) in
    told a b same (subst (λ k. IsTrue same ↔ AreEqualUpTo (a.caseless || b.caseless) k a.bytes b.bytes) least
    (subst (λ l. IsTrue same ↔ AreEqualUpTo (a.caseless || b.caseless) n a.bytes l) other
    (subst (λ l. IsTrue same ↔ AreEqualUpTo (a.caseless || b.caseless) n l ys) own
    (subst (λ d. IsTrue same ↔ AreEqualUpTo d n xs ys) (sym by) said))))

-- a literal of one byte occurs where that byte is
module _ (haystack : List ℕ) (byte at : ℕ) where
  pub byte_occurs : at < length haystack → eqb (get_or haystack at 0) byte ≡ true → OccursAt (folding false) haystack (byte ∷ []) at
  byte_occurs lt is = record {
    room = omega arith;
    equal = ap (λ l. map (folding false) (take 1 l)) (drop_more haystack at 0 lt) ∙ ap (λ b. b ∷ []) (eqb-true (get_or haystack at 0) byte is);
  }

  pub byte_fails : eqb (get_or haystack at 0) byte ≡ false → OccursAt (folding false) haystack (byte ∷ []) at → ⊥
  byte_fails isnt o =
      let here : at + 0 ≡ at = omega arith in
      let is : get_or haystack at 0 ≡ byte = ap (λ i. get_or haystack i 0) (sym here) ∙ byte_at (folding false) haystack (byte ∷ []) at 0 o (omega arith) in
      absurd (let no : true ≡ false = sym (eq-eqb (get_or haystack at 0) byte is) ∙ isnt in cc)
