-- What proofs use of the libraries below, passed on under one name.
pub use Rattle.std.proofs.Common.{Bool, Bor, List, None, Option, Some, [], add-zero, ap, append_assoc, ap₂, arith, bit_or, cond, drop, eq-eqb, false, get_or, inl, inr, length, length-append, length-drop, map, option_map, refl, reverse, rules, set, subst, suc, sym, take, true, true≢false, zero, zero-add, ℕ, ⊎_elim, ◌%◌, ◌&&◌, ◌*◌, ◌++◌, ◌+◌, ◌-◌, ◌/◌, ◌<◌, ◌^◌, ◌||◌, ◌∙◌, ◌∷◌, ◌≡◌, ◌≢◌, ◌≤◌, ◌⊎◌}
pub use Rattle.std.proofs.Math.Nat.{mul-div_cancel, suc-mul, mul-le-mul_right, mul-le-mul_left, zero-mul}
pub use Rattle.std.proofs.Math.Seq.{drop-cons, drop-append_seam, take-set-lt}
pub use Rattle.std.proofs.lemmas.Bool.{cases_lt, cases_eq, cases_Bool, and_parts, eqb-true, ne_eqb, or_cases, or_left, or_right}
pub use Rattle.std.proofs.lemmas.Bool.Decides.{nat_tests}
pub use Rattle.std.proofs.lemmas.Grind.{common_steps, elements}
pub use Rattle.std.proofs.lemmas.List.{get_or_append_left, get_or-map, map-append, append-nil, take-append-drop, take_more, length-take, length-set, length-map, get_or-set_same, get_or-set_other, length-replicate, get_or_past, get_or_default, get_or_push, reverse-append, drop-append-le, drop-set-add, ext_get_or, get_or-drop, get_or-replicate, get_or-take, map-set, map_more, nil_from_length, set_past, take-append-le, take_all}
pub use Rattle.std.proofs.lemmas.List.Elements.{Contains-append_left, Contains-append_right}
pub use Rattle.std.proofs.lemmas.List.Filters.{dedup_is}
pub use Rattle.std.proofs.lemmas.List.Folds.{list_any-append}
pub use Rattle.std.proofs.lemmas.List.Kept.{AllPairs-from_increasing, Contains-dedup_nat}
pub use Rattle.std.proofs.lemmas.List.Sorted.{Contains-permutation}
pub use Rattle.std.proofs.lemmas.Map.Keys.{IsStrictlyIncreasing-dedup}
pub use Rattle.std.proofs.lemmas.Nat.{div-mul-add, mod-mul-add, and_le_l}
pub use Rattle.std.proofs.lemmas.Nat.Bits.{and_pow, bit_at-lt, bit_at-trailing_zeros, bit_at-zero, bit_at_above, bit_at_and, bit_at_clear_other, bit_at_clear_same, bit_at_not, bit_at_ones, bit_at_set_other, bit_at_set_same}
pub use Rattle.std.proofs.lemmas.Option.{slice_get-get_or, slice_get_within, slice_get_cases, get_or_from_slice_get, slice_get_past, slice_get_read, none-some, same_Some, slice_get-map, slice_get_read}
pub use Rattle.std.specs.Fn.{iterate}
pub use Rattle.std.specs.Int.{w64, bit_at, bit_not, trailing_zeros}
pub use Rattle.std.specs.List.{range_with_len, list_any, Contains}
pub use Rattle.std.specs.List.Sorted.{IsStrictlyIncreasing}
pub use Rattle.std.specs.Option.{option_flatten, option_map_or, option_or, option_copied, option_to_list}
pub use Rattle.std.specs.Prelude.{is_some, ◌==◌, if◌then◌else◌, slice_index, slice_get, slice_index_or, slice_range, not, bit_and, IfSome, IfNone, nat_lt, nat_le, slice_set, replicate, max}
pub use Rattle.std.specs.Vec.Iter.{into_iter_items, into_iter_len}
pub use Rattle.bites_machine.proofs.model.MachineCounts.{search_bounded, searched_visits}
pub use Rattle.bites_machine.proofs.model.MachineSearch.{goes_on, still_open}
pub use Rattle.bites_machine.proofs.refine.ResumeLemmas.{place_reached}
pub use Rattle.bites_machine.proofs.refine.SearchResultLemmas.{slots_fit, Did, did_answer, did_bounded, did_visit}
pub use Rattle.bites_machine.specs.Bits.{has_bit}
pub use Rattle.bites_machine.specs.Ends.{targets_over, next_character, takes_by}
pub use Rattle.bites_machine.specs.Inputs.{is_earliest, is_longest}
pub use Rattle.bites_machine.specs.Resume.{thread_in, row_in}
pub use Rattle.bites_machine.specs.States.{states_of, state_of}
pub use Rattle.bites_machine.specs.Sweep.{HasReached, IsProgramOf, left_in}
pub use Rattle.bites_machine.specs.Trace.{after_place, after_each}
pub use Rattle.bites_machine.specs.declared.vm.resume.RegisterThread.{RegisterThread}
pub use Rattle.bites_machine.proofs.refine.PlaceLemmas.{among_index}
pub use Rattle.bites_spec.proofs.programs.BuiltLemmas.{Among-append}
pub use Rattle.bites_spec.proofs.programs.ListedRunLemmas.{Among-map}
pub use Rattle.bites_spec.proofs.programs.SlotLemmas.{Among-left, Among-right}
pub use Rattle.bites_spec.proofs.utf8.AsciiPieces.{ascii, at_drop, bytes_high, character_high, some_at}
pub use Rattle.bites_spec.proofs.utf8.PieceLemmas.{piece_within, piece_none, piece_some, step_some}
pub use Rattle.bites_spec.specs.Class.{is_scalar, following}
pub use Rattle.bites_spec.specs.Closure.{Threads, Walking, dropped, step, WalksTo}
pub use Rattle.bites_spec.specs.Counts.{Record}
pub use Rattle.bites_spec.specs.Look.{Look, is_word_byte, is_byte, before, after, holds_between, is_word}
pub use Rattle.bites_spec.specs.PikeVm.{Searching, Searches, SearchedTo, moved, started, thread_on, threads_at, with_write}
pub use Rattle.bites_spec.specs.Program.{state_at, State, takes, char, ranges, splits, goto, capture, fail, match, Program, Configuration, at, AreStates, HasRanges, IsWellFormed, targets_of}
pub use Rattle.bites_spec.specs.Range.{in_range, in_ranges, Range}
pub use Rattle.bites_spec.specs.Utf8.{Piece, character, fitting, piece_by, places_within, scalar_value, step_len, well_formed_rows, whole_len}
pub use Rattle.bites_spec.specs.Walks.{Among, AllApart}
unfoldable pub use Rattle.bites_spec.specs.Utf8.{piece, front_piece, places}
unfoldable pub use Rattle.bites_spec.specs.Closure.{stepped, visited}
unfoldable pub use Rattle.bites_spec.specs.Look.{holds}
