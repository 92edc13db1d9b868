-- Where the message of a pattern stands: at one offset, which is that of the reader's stop.
use Rattle.std.proofs.lemmas.Grind.{common_steps}
use Rattle.std.proofs.Common.{◌≡◌, ℕ, [], ◌∷◌, ◌++◌, length, length-append, encode_utf8_all, refl, sym, ap, subst, inl, inr, ⊎_elim, arith, Option, Some, None, Result, Ok, Err}
use Rattle.bites_spec.specs.Message as message
use Rattle.bites_spec.specs.Message.{Message}
use Rattle.bites_spec.specs.Tree.{Tree}
use Rattle.bites_spec.specs.Pattern.{Text, Flags}
use Rattle.bites_spec.specs.Measure.{IsTooTall}
use Rattle.bites_spec.specs.Fault.{IsStuck, IsFirstStuckAt, IsReadTooTall, Fault, FaultAt, ComesFirst}
use Rattle.bites_spec.specs.GrammarLaws.{FaultsHavePlaces, PlacesOnce, IsRefusedAt, IsRefusedBy, ReaderRefusesAt}
use Rattle.bites_spec.specs.RangesOf.{ranges_of}
use Rattle.bites_spec.specs.Reader.{Stop, read}
use Rattle.bites_spec.proofs.classes.ClassLemmas.{ranges_of_list}
use Rattle.bites_spec.proofs.grammar.PlaceLemmas.{stop_behind}
use Rattle.bites_spec.proofs.grammar.WholeLaws.{faults_once, reader_refuses, stuck_leads}
use Rattle.bites_spec.proofs.grammar.WholeSound.{read_within, read_stuck}

same_length : (m k : Message) (at place : Text) → ComesFirst m at k place → ComesFirst k place m at → length at ≡ length place
same_length m k at place a b =
    ⊎_elim (λ less. ⊎_elim (λ more. absurd (omega arith)) (λ same. same.0) b) (λ same. sym same.0) a

-- two texts before rests that are equally long are the same
same_before : (before other place at : Text) → before ++ place ≡ other ++ at → length place ≡ length at → before ≡ other
same_before [] [] place at same equal = refl
same_before [] (c ∷ other) place at same equal = absurd (omega (arith, equal, ap length same, length-append other at))
same_before (b ∷ before) [] place at same equal = absurd (omega (arith, equal, ap length same, length-append before place))
same_before (b ∷ before) (c ∷ other) place at same equal =
    let first : b ≡ c = cc in
    let rest : before ++ place ≡ other ++ at = cc in
    let more = same_before before other place at rest equal in cc

fault_of : (pattern : Text) (flags : Flags) (nest_limit : ℕ) (m : Message) (offset : Option ℕ) → FaultAt pattern flags nest_limit m offset → Fault pattern flags nest_limit m
fault_of pattern flags nest_limit m None f = inr f
fault_of pattern flags nest_limit m (Some offset) f = inl f.first

none_before : (pattern : Text) (flags : Flags) (nest_limit : ℕ) (e : Stop) → read ranges_of nest_limit pattern flags ≡ Err e →
    (other : Message) (at : Text) → IsStuck pattern flags nest_limit other at → ComesFirst e.message e.place other at
none_before pattern flags nest_limit e is other at s =
    let f = stuck_leads ranges_of ranges_of_list nest_limit s in
    let same : f.at ≡ e = cc in
    subst (λ (x : Stop). ComesFirst x.message x.place other at) same f.first

-- the reader's stop is the first fault, and what stands before it is counted
stop_stands : (pattern : Text) (flags : Flags) (nest_limit : ℕ) (e : Stop) → read ranges_of nest_limit pattern flags ≡ Err e →
    (before : Text) → pattern ≡ before ++ e.place → IsFirstStuckAt pattern flags nest_limit e.message (length (encode_utf8_all before))
stop_stands pattern flags nest_limit e is before reads = record {
  first = record {
    place = e.place;
    stuck = read_stuck ranges_of ranges_of_list nest_limit pattern flags e is;
    first = none_before pattern flags nest_limit e is;
  };
  before = before;
  reads = reads;
  counted = refl;
}

tall_stands : (pattern : Text) (flags : Flags) (nest_limit : ℕ) (t : Tree) → read ranges_of nest_limit pattern flags ≡ Ok t → IsTooTall nest_limit t →
    IsReadTooTall pattern flags nest_limit message.too_much_nesting
tall_stands pattern flags nest_limit t is tall = record {
  t = t;
  reads = (read_within ranges_of ranges_of_list nest_limit pattern flags t is).reading;
  too_tall = tall;
  no_other = λ other at s. absurd (let f = stuck_leads ranges_of ranges_of_list nest_limit s in cc);
  nesting = refl;
}

-- a result that refuses the pattern stands for its message and offset
pub refused_at : (pattern : Text) (flags : Flags) (nest_limit : ℕ) (m : Message) (offset : Option ℕ) (a : Result Tree Stop) → read ranges_of nest_limit pattern flags ≡ a →
    IsRefusedAt nest_limit pattern m offset a → FaultAt pattern flags nest_limit m offset
refused_at pattern flags nest_limit m offset (Ok t) is r =
    subst (λ o. FaultAt pattern flags nest_limit m o) (sym r.2) (subst (λ x. IsReadTooTall pattern flags nest_limit x) (sym r.1) (tall_stands pattern flags nest_limit t is r.0))
refused_at pattern flags nest_limit m offset (Err e) is (same, (before, reads, counted)) = grind (arith, common_steps, encode_utf8_all, stop_stands)

place_by : (pattern : Text) (flags : Flags) (nest_limit : ℕ) (m : Message) (a : Result Tree Stop) → read ranges_of nest_limit pattern flags ≡ a →
    IsRefusedBy nest_limit m a → (offset : Option ℕ) × IsRefusedAt nest_limit pattern m offset a
place_by pattern flags nest_limit m (Ok t) is r = (None, (r.0, r.1, refl))
place_by pattern flags nest_limit m (Err e) is r =
    let b = stop_behind ranges_of nest_limit pattern flags e is in (Some (length (encode_utf8_all b.0)), (r, (b.0, b.1, refl)))

place_of : (pattern : Text) (flags : Flags) (nest_limit : ℕ) (m : Message) → Fault pattern flags nest_limit m →
    (offset : Option ℕ) × FaultAt pattern flags nest_limit m offset
place_of pattern flags nest_limit m f =
    let p = place_by pattern flags nest_limit m (read ranges_of nest_limit pattern flags) refl ((reader_refuses pattern flags nest_limit m).0 f) in
    (p.0, refused_at pattern flags nest_limit m p.0 (read ranges_of nest_limit pattern flags) refl p.1)

-- a message stands at an offset, or at none
pub faults_have_places : FaultsHavePlaces
faults_have_places pattern flags nest_limit m = (place_of pattern flags nest_limit m, λ p. fault_of pattern flags nest_limit m p.0 p.1)

same_offset : (pattern : Text) (flags : Flags) (nest_limit : ℕ) (m k : Message) (offset other : ℕ) →
    IsFirstStuckAt pattern flags nest_limit m offset → IsFirstStuckAt pattern flags nest_limit k other → offset ≡ other
same_offset pattern flags nest_limit m k offset other f g = grind (arith, common_steps, same_length, encode_utf8_all, same_before)

places_alike : (pattern : Text) (flags : Flags) (nest_limit : ℕ) (m k : Message) (offset other : Option ℕ) →
    FaultAt pattern flags nest_limit m offset → FaultAt pattern flags nest_limit k other → offset ≡ other
places_alike pattern flags nest_limit m k None None f g = refl
places_alike pattern flags nest_limit m k None (Some other) f g = absurd (f.no_other k g.first.place g.first.stuck)
places_alike pattern flags nest_limit m k (Some offset) None f g = absurd (g.no_other m f.first.place f.first.stuck)
places_alike pattern flags nest_limit m k (Some offset) (Some other) f g = ap Some (same_offset pattern flags nest_limit m k offset other f g)

-- a pattern has at most one message at one offset
pub places_once : PlacesOnce
places_once pattern flags nest_limit m k offset other f g = grind (arith, common_steps, faults_once, fault_of, places_alike)

refuses_at : (pattern : Text) (flags : Flags) (nest_limit : ℕ) (m : Message) (offset : Option ℕ) → FaultAt pattern flags nest_limit m offset →
    IsRefusedAt nest_limit pattern m offset (read ranges_of nest_limit pattern flags)
refuses_at pattern flags nest_limit m offset f =
    let by = (reader_refuses pattern flags nest_limit m).0 (fault_of pattern flags nest_limit m offset f) in
    let p = place_by pattern flags nest_limit m (read ranges_of nest_limit pattern flags) refl by in
    let g = refused_at pattern flags nest_limit m p.0 (read ranges_of nest_limit pattern flags) refl p.1 in
    let same = places_alike pattern flags nest_limit m m p.0 offset g f in
    subst (λ o. IsRefusedAt nest_limit pattern m o (read ranges_of nest_limit pattern flags)) same p.1

-- a pattern has a message at an offset exactly if the function refuses it by that message at that offset
pub reader_refuses_at : ReaderRefusesAt
reader_refuses_at pattern flags nest_limit m offset = grind (arith, common_steps, refuses_at, refused_at)
