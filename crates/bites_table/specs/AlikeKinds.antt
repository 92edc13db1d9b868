-- Kinds that no assertion of a program tells apart.
use Rattle.std.specs.Prelude.{◌≡◌, ℕ, Some}
use Rattle.bites_spec.specs.Look.{Look}
use Rattle.bites_spec.specs.Program.{State, Program, state_at, goto}
use Rattle.bites_table.specs.Kinds.{Kind, AreAlikeKinds, holds_by}
use Rattle.bites_table.specs.Distinctions.{nothing, before_by, after_by, before_state, after_state, CoverBefore, CoverAfter}
use Rattle.bites_table.specs.declared.alike_kinds.AlikeKinds.{AlikeKinds}

-- the state tests no assertion, and tells nothing apart
pub record NoneAsserted (s : State) : Type 0 where
  pub before_place : before_state s ≡ nothing
  pub after_place : after_state s ≡ nothing

-- the state tests the assertion, and tells apart what that does
pub record IsAsserted (s : State) (look : Look) : Type 0 where
  pub before_place : before_state s ≡ before_by look
  pub after_place : after_state s ≡ after_by look

-- these tell apart what the program's assertions do
pub record TellsApart (p : Program) (a : AlikeKinds) : Type 0 where
  pub before_place : CoverBefore a.before p.states
  pub after_place : CoverAfter a.after p.states

-- no assertion of such a program tells the two kinds apart as those of the byte before
abbrev pub AreAlikeBefore : AlikeKinds → Kind → Kind → Type 0
AreAlikeBefore a k l = (p : Program) → TellsApart p a → AreAlikeKinds p k l

-- nor as those of the character after
abbrev pub AreAlikeAfter : AlikeKinds → Kind → Kind → Type 0
AreAlikeAfter a k l =
    (p : Program) → TellsApart p a → (q t : ℕ) (look : Look) → state_at p.states q ≡ goto t (Some look) → (b : Kind) → holds_by look b k ≡ holds_by look b l
