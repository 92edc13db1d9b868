-- Where the parser stops is where the pattern's message stands.
use Rattle.std.proofs.Common.{◌≡◌, ◌⊎◌, ◌+◌, ◌-◌, ◌≤◌, ℕ, List, ◌++◌, length, length-append, Some, None, Result, Ok, Err, inl, inr, refl, sym, ap, subst, ◌∙◌, arith}
use Rattle.std.specs.Prelude.{chars, encode_utf8_all, IsUtf8}
use Rattle.std.proofs.lemmas.Str.{encodes-append, encodes-chars}
use Rattle.bites_spec.specs.Message.{Message, too_much_nesting}
use Rattle.bites_spec.specs.Pattern.{Text, Flags}
use Rattle.bites_spec.specs.Tree.{Tree}
use Rattle.bites_spec.specs.Measure.{IsTooTall}
use Rattle.bites_spec.specs.Fault.{FaultAt}
use Rattle.bites_spec.specs.RangesOf.{ranges_of}
use Rattle.bites_spec.specs.Reader.{Stop, read}
use Rattle.bites_spec.proofs.grammar.PlaceLaws.{refused_at}
use Rattle.bites_spec.proofs.grammar.PlaceLemmas.{stop_behind}
use Rattle.bites_text.specs.Messages.{error_of}
use Rattle.bites_text.specs.declared.error.Error.{Error}
use Rattle.bites_text.specs.declared.error.Error.TheVariants as error
use Rattle.bites_syntax.specs.declared.refusal.Refusal.{Refusal}
use Rattle.bites_syntax.specs.declared.refusal.Refusal.TheVariants.{TooTall, At}
use Rattle.bites_syntax.specs.Parts.{fault_in, IsFaultOf}
use Rattle.bites_syntax.specs.Placed.{RefusesAt}

-- what the parser's refusal of a pattern says of the reader
abbrev pub IsRefusalOf : Text → Flags → ℕ → Refusal → Type 0
IsRefusalOf pattern flags nest_limit e =
    IsFaultOf e (read ranges_of nest_limit pattern flags)
    ⊎ ((e ≡ TooTall) × ((t : Tree) × (read ranges_of nest_limit pattern flags ≡ Ok t) × IsTooTall nest_limit t))

-- the pattern's message stands where so many bytes are left
pub record LeavesAt (bytes : List ℕ) (flags : Flags) (nest_limit : ℕ) (e : Error) (left : ℕ) : Type 0 where
  pub message : Message
  pub error_is : e ≡ error_of message
  pub offset : ℕ
  pub stands : FaultAt (chars bytes) flags nest_limit message (Some offset)
  pub all : length bytes ≡ offset + left

module _ (bytes : List ℕ) (utf8 : IsUtf8 bytes) (flags : Flags) (nest_limit : ℕ) where
  leaves_by : (e : Error) (left : ℕ) (a : Result Tree Stop) → read ranges_of nest_limit (chars bytes) flags ≡ a → fault_in a ≡ Some (At e left) →
      LeavesAt bytes flags nest_limit e left
  leaves_by e left (Ok t) is none = cc
  leaves_by e left (Err s) is same =
      let (before, reads) = stop_behind ranges_of nest_limit (chars bytes) flags s is in
      let one : error_of s.message ≡ e = cc in
      let rest : length (encode_utf8_all s.place) ≡ left = cc in
      let split : bytes ≡ encode_utf8_all before ++ encode_utf8_all s.place = sym (encodes-chars bytes utf8) ∙ ap encode_utf8_all reads ∙ encodes-append before s.place in
      record {
        message = s.message;
        error_is = sym one;
        offset = length (encode_utf8_all before);
        stands = refused_at (chars bytes) flags nest_limit s.message (Some (length (encode_utf8_all before))) (Err s) is (refl, (before, reads, refl));
        all = ap length split ∙ length-append (encode_utf8_all before) (encode_utf8_all s.place) ∙ ap (λ n. length (encode_utf8_all before) + n) rest;
      }

  leaves_at : (x : Refusal) (e : Error) (left : ℕ) → x ≡ At e left → IsRefusalOf (chars bytes) flags nest_limit x → LeavesAt bytes flags nest_limit e left
  leaves_at x e left same (inl (inl memory)) = cc
  leaves_at x e left same (inl (inr stop)) = leaves_by e left (read ranges_of nest_limit (chars bytes) flags) refl (stop ∙ ap Some same)
  leaves_at x e left same (inr (tall, _)) = cc

  -- at most the whole pattern is left
  pub left_within : (x : Refusal) (e : Error) (left : ℕ) → x ≡ At e left → IsRefusalOf (chars bytes) flags nest_limit x → left ≤ length bytes
  left_within x e left same refuses = let l = leaves_at x e left same refuses in omega (arith, l.all)

  -- the rest is what stands before the place
  pub placed : (x : Refusal) (e : Error) (left : ℕ) → x ≡ At e left → IsRefusalOf (chars bytes) flags nest_limit x →
      RefusesAt (chars bytes) flags nest_limit (record { error = e; offset = Some (length bytes - left) })
  placed x e left same refuses =
      let l = leaves_at x e left same refuses in
      let before : l.offset ≡ length bytes - left = omega (arith, l.all) in
      record { message = l.message; error_is = l.error_is; stands = subst (λ n. FaultAt (chars bytes) flags nest_limit l.message (Some n)) before l.stands }

  -- a tree that is too tall has no place
  pub placed_nowhere : (x : Refusal) → x ≡ TooTall → IsRefusalOf (chars bytes) flags nest_limit x →
      RefusesAt (chars bytes) flags nest_limit (record { error = error.TooMuchNesting; offset = None })
  placed_nowhere x same (inl (inl memory)) = cc
  placed_nowhere x same (inl (inr stop)) = absurd (nowhere (read ranges_of nest_limit (chars bytes) flags) (stop ∙ ap Some same))
    where
      nowhere : (a : Result Tree Stop) → fault_in a ≡ Some TooTall → ⊥
      nowhere (Ok t) none = cc
      nowhere (Err s) stopped = cc
  placed_nowhere x same (inr (tree, (t, is, tall))) = record {
    message = too_much_nesting;
    error_is = refl;
    stands = refused_at (chars bytes) flags nest_limit too_much_nesting None (Ok t) is (tall, refl, refl);
  }
