-- Where a pattern is refused, for C.
use Rattle.std.specs.Prelude.{◌≡◌, ℕ, Option, unwrap_or}
use Rattle.bites_spec.specs.Tree.{Tree}
use Rattle.bites_spec.specs.Pattern.{Text, Flags}
use Rattle.bites_spec.specs.Measure.{Limits}
use Rattle.bites_text.specs.declared.error.Error.TheVariants.{Memory}
use Rattle.bites_text.specs.Texts.{code_of}
use Rattle.bites_syntax.specs.Placed.{Placed, RefusesAt}
use Rattle.bites_c.specs.Codes.{done}

-- the offset, or the greatest number for none
abbrev pub offset_for_c : Option ℕ → ℕ
offset_for_c offset = unwrap_or offset 0xFFFF_FFFF_FFFF_FFFF

-- the number and the offset say that the pattern is read, which message refuses it and where, or that memory ran out
pub data AnswersError (pattern : Text) (flags : Flags) (nest_limit number offset : ℕ) : Type 0 where
  reads : (t : Tree) → Limits pattern flags nest_limit t → number ≡ done → offset ≡ 0xFFFF_FFFF_FFFF_FFFF →
      AnswersError pattern flags nest_limit number offset
  refuses : (e : Placed) → RefusesAt pattern flags nest_limit e → number ≡ code_of e.error → offset ≡ offset_for_c e.offset →
      AnswersError pattern flags nest_limit number offset
  fails : number ≡ code_of Memory → offset ≡ 0xFFFF_FFFF_FFFF_FFFF → AnswersError pattern flags nest_limit number offset
