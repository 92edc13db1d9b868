-- The numbers that calls return to C.
use Rattle.std.specs.Prelude.{◌≡◌, ◌≢◌, ℕ, List, [], codes, if◌then◌else◌, ◌==◌}
use Rattle.bites_text.specs.Texts.{code_of, error_text}
use Rattle.bites_text.specs.declared.error.Error.{Error}

-- the call is done
abbrev pub done : ℕ
done = 0

-- there is a match, or none
abbrev pub matched : ℕ
matched = 100

abbrev pub not_matched : ℕ
not_matched = 101

-- the bytes are not UTF-8
abbrev pub not_utf8 : ℕ
not_utf8 = 102

-- a handle holds nothing
abbrev pub empty_handle : ℕ
empty_handle = 103

-- the cache was made for a regex of another size
abbrev pub unfit_cache : ℕ
unfit_cache = 104

-- the room that the caller gave is too small
abbrev pub too_small : ℕ
too_small = 105

-- no group has the name, or the group has no name
abbrev pub no_name : ℕ
no_name = 106

-- a span does not lie in the haystack
abbrev pub bad_span : ℕ
bad_span = 107

-- an offset lies within a character
abbrev pub not_border : ℕ
not_border = 108

-- the text of a number that is no error's: what a call from 100 on returned, or nothing for any other number
abbrev pub answer_text : ℕ → List ℕ
answer_text n =
    if n == matched then codes "a match was found"
    else if n == not_matched then codes "no match was found"
    else if n == not_utf8 then codes "a text is not UTF-8"
    else if n == empty_handle then codes "a handle holds nothing"
    else if n == unfit_cache then codes "the cache was made for a regex of another size"
    else if n == too_small then codes "the room for the result is too small"
    else if n == no_name then codes "no group has this number or name, or the group has no name"
    else if n == bad_span then codes "a span does not lie in the haystack"
    else if n == not_border then codes "an offset lies within a character"
    else []

-- the text is the message of the error with this number, or the other text if no error has it
pub record IsMessage (number : ℕ) (text other : List ℕ) : Type 0 where
  pub error : (e : Error) → number ≡ code_of e → text ≡ error_text e
  pub none : ((e : Error) → number ≢ code_of e) → text ≡ other
