-- How many searches a call made.
use Rattle.std.proofs.Common.{◌≡◌, ℕ, suc, ◌+◌, ◌*◌, ◌≤◌, Bool, true, false, Option, None, Some, refl, subst, arith}
use Rattle.bites_spec.specs.Counts.{Room}
use Rattle.bites_spec.specs.Regex.{Regex}
use Rattle.bites_machine.specs.Inputs.{is_longest}
use Rattle.bites_machine.specs.declared.vm.MatchKind.{MatchKind}
use Rattle.bites_machine.specs.declared.vm.MatchKind.TheVariants.{First, Earliest, Longest}
use Rattle.bites_bytes.specs.Calls.{Makes, MakesBy, MakesNext, searches_for}

-- more searches are allowed too
pub made_more : (a b : ℕ) → a ≤ b → (old new : Room) → Makes a old new → Makes b old new
made_more a b le old new m = record { some = m.some; most = omega (arith, m.most, le) }

-- searches after others
pub made_both : (a b : ℕ) (old between new : Room) → Makes a old between → Makes b between new → Makes (a + b) old new
made_both a b old between new m n = record { some = omega (arith, m.some, n.some); most = omega (arith, m.most, n.most) }

-- one search is enough for any match
pub made_one : (longest anchored : Bool) (old new : Room) → new.searches ≡ suc old.searches → Makes (searches_for longest anchored) old new
made_one longest anchored old new one = record { some = omega (arith, one); most = omega (arith, one, least longest anchored) }
  where
    least : (longest anchored : Bool) → 1 ≤ searches_for longest anchored
    least false anchored = omega arith
    least true true = omega arith
    least true false = omega arith

-- a search that explores as the pattern begins takes no more searches than the one that was asked for
pub made_as : (kind : MatchKind) (asked explored : Bool) → (kind ≡ Longest → explored ≡ asked) → (old new : Room) →
    Makes (searches_for (is_longest kind) explored) old new → Makes (searches_for (is_longest kind) asked) old new
made_as First asked explored same old new m = m
made_as Earliest asked explored same old new m = m
made_as Longest asked explored same old new m = subst (λ b. Makes (searches_for true b) old new) (same refl) m

-- a search for the longest match from a place on may take two
pub made_longest : (kind : MatchKind) (anchored : Bool) → kind ≡ Longest → anchored ≡ false → (old new : Room) → Makes 2 old new → Makes (searches_for (is_longest kind) anchored) old new
made_longest kind anchored longest from old new m = rw longest (rw from m)

-- what the search for a regex's own kind of match takes
pub made_by : (r : Regex) (kind : MatchKind) → is_longest kind ≡ r.leftmost_longest → (anchored : Bool) (old new : Room) →
    Makes (searches_for (is_longest kind) anchored) old new → MakesBy anchored r old new
made_by r kind is anchored old new m = subst (λ b. Makes (searches_for b anchored) old new) is m

-- one search, and two, for the next match
pub made_next : (r : Regex) (last : Option ℕ) (old new : Room) → MakesBy false r old new → MakesNext r last old new
made_next r None old new m = m
made_next r (Some e) old new m = made_more (searches_for r.leftmost_longest false) (2 * searches_for r.leftmost_longest false) (omega arith) old new m

pub made_later : (r : Regex) (last : Option ℕ) (e : ℕ) → last ≡ Some e → (old between new : Room) → MakesBy false r old between → MakesBy false r between new →
    MakesNext r last old new
made_later r last e is old between new before after =
    let n = searches_for r.leftmost_longest false in
    rw is (made_more (n + n) (2 * n) (omega arith) old new (made_both n n old between new before after))
