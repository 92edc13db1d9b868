-- The definitions give what rows say of whether, where and how soon a haystack matches. The program `generate` writes this module.
use Rattle.std.proofs.Common.{refl}
use Rattle.std.specs.Str.{chars, is_utf8}
use lib.Utf8.{encode}
use Rattle.ucd_derived.proofs.Computing.{ucd_derived}
use Rattle.ucd_category.proofs.Computing.{ucd_category}
use Rattle.bites_spec.specs.Utf8.{piece, front_piece, places}
use Rattle.bites_spec.specs.Look.{holds}
use Rattle.bites_spec.specs.Pattern.{skip_blank, skip_white}
use Rattle.bites_spec.specs.Reader.{inner}
use Rattle.bites_spec.specs.Preference.{parses}
use Rattle.bites_spec.specs.Walks.{first_walk}
use Rattle.bites_spec.specs.Run.{first_run_from, first_run, first_run_to, longest_run_below, longest_run}
use Rattle.bites_spec.specs.Spans.{next_after, some_after, successive_after, successive}
use Rattle.bites_spec.specs.Template.{before_brace, dollar_cut, parts_after, expansion}
use Rattle.bites_machine.specs.Emitted.{emit}
use Rattle.bites_answers.specs.Searches.{Searches}

pub all : Searches
unfolding chars is_utf8 encode ucd_derived ucd_category piece front_piece places holds skip_blank skip_white inner parses first_walk first_run_from first_run first_run_to longest_run_below longest_run next_after some_after successive_after successive before_brace dollar_cut parts_after expansion emit
all = (
  refl,
  refl,
  refl,
  refl,
  refl,
  refl,
  refl,
  refl,
  refl,
  refl,
  refl,
  refl,
  refl,
  refl,
  refl,
  refl,
  refl,
  refl,
  refl,
  refl,
  refl,
  refl,
  refl,
  refl,
  refl,
  refl,
  refl,
  refl,
  refl,
  refl,
  refl,
  refl,
  refl,
  refl,
  refl,
  refl,
  refl,
  refl,
  refl,
  refl,
  refl,
  refl,
  refl,
  refl,
  refl,
  refl,
  refl,
  refl,
  refl,
  refl,
  refl,
  refl,
  refl,
  refl,
  refl,
  refl,
  refl,
  refl,
  refl,
  refl,
  refl,
  refl,
)
