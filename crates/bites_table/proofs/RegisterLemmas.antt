-- Registers by their numbers.
use Rattle.bites_table.proofs.Library.{common_steps, slice_index_or, State, Program, state_at, targets_over, ◌≡◌, ℕ, ◌+◌, ◌<◌, List, [], ◌∷◌, ◌++◌, map, take, length, Option, sym, ap, ◌∙◌, subst, arith, append_assoc, option_to_list, get_or_append_left, get_or-map, map-append, append-nil, take_more, Among-append}
use Rattle.std.proofs.lemmas.List.{length-append}
use Rattle.bites_table.specs.Sources as sources
use Rattle.bites_table.proofs.Words.{on_row, unwritten, thread_with, taken, source_at, source_of, frame_of, thread_as, AreAssigned, Frame, Assigned}
use Rattle.bites_table.specs.declared.thread_list.Source.{Source}
use Rattle.bites_table.specs.declared.thread_list.Thread.{Thread}
use Rattle.bites_table.proofs.TakerLemmas.{taken-more}

-- the source of a number stays, whatever comes after it
pub source_at-stays : (rows more : List Source) (g : ℕ) (s : Source) → g < length rows → ((d : Source) → slice_index_or rows g d ≡ s) → source_at (map source_of (rows ++ more)) g ≡ source_of s
source_at-stays rows more g s within is =
    let len : length (rows ++ more) ≡ length rows + length more = length-append rows more in
    get_or-map source_of (rows ++ more) g s unwritten (omega arith) ∙ ap source_of (get_or_append_left rows more s g within ∙ is s)

module _ (a b : Assigned) (q g : ℕ) (s : Source) (added : List Source) (moved : b.moves.items ≡ a.moves.items ++ added) (pushed : b.threads.items ≡ a.threads.items ++ record { state = q; register = g } ∷ [])
    (within : g < length b.moves.items) (is : (d : Source) → slice_index_or b.moves.items g d ≡ s) where
  abbrev thread : Thread
  thread = record { state = q; register = g }

  -- one more thread
  pub one_assigned : (ts : List (sources.Thread sources.Source)) → AreAssigned a ts → AreAssigned b (ts ++ thread_with (source_of s) q ∷ [])
  one_assigned ts are = record {
    threads = λ more.
        let row = source_at (map source_of (b.moves.items ++ more)) in
        ap (λ l. map (on_row row) (map thread_as l)) pushed
        ∙ ap (map (on_row row)) (map-append thread_as a.threads.items (thread ∷ []))
        ∙ map-append (on_row row) (map thread_as a.threads.items) (thread_as thread ∷ [])
        ∙ ap (λ l. l ++ on_row row (thread_as thread) ∷ [])
        (ap (λ l. map (on_row (source_at (map source_of (l ++ more)))) (map thread_as a.threads.items)) moved
        ∙ ap (λ l. map (on_row (source_at (map source_of l))) (map thread_as a.threads.items)) (append_assoc a.moves.items added more)
        ∙ are.threads (added ++ more))
        ∙ ap (λ r. ts ++ thread_with r q ∷ []) (source_at-stays b.moves.items more g s within is);
    held = grind (arith, common_steps, length-append, Among-append);
  }

-- the threads that take a character among one more
pub taken-one : (p : Program) (o : Option ℕ) (fs : List Frame) (i : ℕ) (none : Frame) (st : State) → i < length fs → st ≡ state_at p.states (slice_index_or fs i none).state →
    taken p o (map frame_of (take i fs)) ++ map (thread_with (source_of (slice_index_or fs i none).source)) (targets_over o st) ≡ taken p o (map frame_of (take (i + 1) fs))
taken-one p o fs i none st lt is =
    let f = slice_index_or fs i none in
    taken-more p o (map frame_of (take i fs)) (frame_of f) st is
    ∙ ap (taken p o) (sym (map-append frame_of (take i fs) (f ∷ [])) ∙ ap (map frame_of) (sym (take_more fs i none lt)))

pub taken-next : (p : Program) (o : Option ℕ) (fs : List Frame) (i : ℕ) (none : Frame) (st : State) (r : Option ℕ) → i < length fs →
    st ≡ state_at p.states (slice_index_or fs i none).state → option_to_list r ≡ targets_over o st →
    taken p o (map frame_of (take i fs)) ++ map (thread_with (source_of (slice_index_or fs i none).source)) (option_to_list r) ≡ taken p o (map frame_of (take (i + 1) fs))
taken-next p o fs i none st r lt is to = grind (arith, common_steps, taken-one)

pub none_more : (a : Assigned) (ts : List (sources.Thread sources.Source)) → AreAssigned a ts → AreAssigned a (ts ++ [])
none_more a ts are = subst (AreAssigned a) (sym (append-nil ts)) are

-- one more thread whose register has a source
pub moved-next : (moves : List Source) (threads : List Thread) (i : ℕ) (none : Thread) (s : Source) → i < length threads → (let t = slice_index_or threads i none in t.register < length moves) →
    ((d : Source) → s ≡ slice_index_or moves (slice_index_or threads i none).register d) →
    map (on_row (source_at (map source_of moves))) (map thread_as (take i threads)) ++ thread_with (source_of s) (slice_index_or threads i none).state ∷ []
    ≡ map (on_row (source_at (map source_of moves))) (map thread_as (take (i + 1) threads))
moved-next moves threads i none s lt within is =
    let t = slice_index_or threads i none in
    let row = source_at (map source_of moves) in
    let own : source_of s ≡ row t.register = ap source_of (is s) ∙ sym (get_or-map source_of moves t.register s unwritten within) in
    grind (arith, common_steps, take_more, map-append)
