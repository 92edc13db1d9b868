-- What the definitions give on small haystacks, trees and programs.
use Rattle.std.proofs.Common.{◌≡◌, true, false, [], ◌∷◌, option_map, Some, None, refl}
use Rattle.std.specs.Prelude.{codes}
use Rattle.bites_spec.specs.Utf8.{piece, front_piece, places}
use Rattle.bites_spec.specs.Tree.{char, repetition, is_plain}
use Rattle.bites_spec.specs.Walks as walks
use Rattle.bites_spec.specs.Program as program
use Rattle.bites_spec.specs.Program.{Program}
use Rattle.bites_spec.specs.Run.{first_run, first_run_from, slots}

-- E2 98 begins a character and breaks off, F0 begins another; an overlong form is none; E2 98 83 is a snowman
pieces : ((piece (0xE2 ∷ 0x98 ∷ 0xF0 ∷ []) 0).len ≡ 2) × ((piece (0xF0 ∷ 0x82 ∷ 0x82 ∷ 0xAC ∷ []) 0).len ≡ 1)
    × ((piece (0xF0 ∷ 0x9D ∷ 0x9D ∷ []) 0).len ≡ 3) × (piece (0xE2 ∷ 0x98 ∷ 0x83 ∷ []) 0 ≡ record { decoded = Some 0x2603; len = 3 })
unfolding piece front_piece
pieces = (refl, refl, refl, refl)

-- some trees are plain, and others are not
plain_ones : (is_plain (repetition 0 None true (repetition 0 None true (char 97))) ≡ false)
    × (is_plain (repetition 0 (Some 3) true (repetition 0 None true (char 97))) ≡ true)
plain_ones = (refl, refl)

-- an empty cycle without an exit has no match
cycle : Program
cycle = record { states = program.splits (0 ∷ 1 ∷ []) false ∷ program.goto 0 None ∷ []; start = 0; slots = 2 }

cycle_none : first_run cycle (codes "ab") (places (codes "ab") 0) ≡ None
unfolding cycle first_run first_run_from walks.first_walk piece front_piece places
cycle_none = refl

-- a state that leads to itself first
self_loop : Program
self_loop = record {
  states = program.capture 1 0 ∷ program.splits (1 ∷ 2 ∷ 3 ∷ []) false ∷ program.char 1 97 ∷ program.capture 4 1 ∷ program.match ∷ [];
  start = 0;
  slots = 2;
}

self_loop_slots : option_map (slots self_loop) (first_run self_loop (codes "aab") (places (codes "aab") 0)) ≡ Some (Some 0 ∷ Some 2 ∷ [])
unfolding self_loop first_run first_run_from walks.first_walk piece front_piece places
self_loop_slots = refl
