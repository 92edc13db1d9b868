use Rattle.std.proofs.Common.{refl}
use Rattle.bites_table.proofs.TransitionLemmas.{searched_by, searches, starts_on}
use Rattle.bites_table.proofs.transition_searches.Goals as goal

pub returns : goal.returns
returns c p leads l t is hay width anchored longest start s registers alike threads starts one started = (
  searched_by p leads l t is hay width anchored longest start s registers alike threads starts one started,
  searches p leads l t is hay width anchored longest start s registers alike threads starts one started,
  refl,
  refl,
  starts_on p leads l t is hay width anchored longest start s registers alike threads starts one started,
  refl,
  refl,
  refl,
)
