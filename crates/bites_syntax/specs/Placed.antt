-- Where the error of a pattern stands.
use Rattle.std.specs.Prelude.{◌≡◌, ◌++◌, [], ℕ, List, Option, codes, decimal}
use Rattle.std.specs.Option.{option_map_or}
use Rattle.bites_spec.specs.Message.{Message}
use Rattle.bites_spec.specs.Pattern.{Text, Flags}
use Rattle.bites_spec.specs.Fault.{FaultAt}
use Rattle.bites_text.specs.Messages.{error_of}
use Rattle.bites_text.specs.Texts.{error_text}
use Rattle.bites_text.specs.declared.error.Error.{Error}

-- an error, and how many bytes of the pattern stand before the place that it is about
pub record Placed : Type 0 where
  pub error : Error
  pub offset : Option ℕ

-- the error's message, and where it stands if that is known
abbrev pub placed_text : Placed → List ℕ
placed_text p = error_text p.error ++ option_map_or (λ n. codes " at offset " ++ decimal n) p.offset []

-- the error is that of the pattern's message, and the offset is where that message stands
pub record RefusesAt (pattern : Text) (flags : Flags) (nest_limit : ℕ) (e : Placed) : Type 0 where
  pub message : Message
  pub error_is : e.error ≡ error_of message
  pub stands : FaultAt pattern flags nest_limit message e.offset
