-- The laws of templates, each proved.
use Rattle.std.specs.Prelude.{◌≡◌, ◌≢◌, ◌↔◌, ℕ, ◌<◌, Bool, true, false, List, Option, Some, None, IfSome, IfNone, IsUtf8, slice_index_or}
use Rattle.bites_spec.specs.Code.{code}
use Rattle.bites_spec.specs.Walks.{IsNew}
use Rattle.bites_spec.specs.Expansion.{index_in}
use Rattle.bites_spec.specs.Template.{Part, Cuts, parts_of, Expands, expansion}

-- a template is cut in exactly one way, which is the function's
abbrev pub CutsOnce : Type 0
CutsOnce = (any : Bool) (template : List ℕ) (parts : List Part) → Cuts any template parts ↔ (parts ≡ parts_of any template)

-- a template has exactly one text, which is the function's
abbrev pub ExpandsOnce : Type 0
ExpandsOnce =
    (any : Bool) (largest : ℕ) (text_of : ℕ → Option (List ℕ)) (index_of : List ℕ → Option ℕ) (template text : List ℕ) →
    Expands largest text_of index_of any template text ↔ (text ≡ expansion any largest text_of index_of template)

-- a template without `$` stands for itself
abbrev pub PlainStandsForItself : Type 0
PlainStandsForItself =
    (any : Bool) (largest : ℕ) (text_of : ℕ → Option (List ℕ)) (index_of : List ℕ → Option ℕ) (template : List ℕ) →
    IsNew (code "$") template → expansion any largest text_of index_of template ≡ template

-- for a template of UTF-8 it makes no difference whether names in braces may be of any bytes
abbrev pub TextsHaveNames : Type 0
TextsHaveNames =
    (largest : ℕ) (text_of : ℕ → Option (List ℕ)) (index_of : List ℕ → Option ℕ) (template : List ℕ) → IsUtf8 template →
    expansion false largest text_of index_of template ≡ expansion true largest text_of index_of template

-- the index of the first name that is this one, or none if no name is, is the function's number
abbrev pub NumbersAreFirst : Type 0
NumbersAreFirst =
    (names : List (Option (List ℕ))) (word : List ℕ) (o : Option ℕ) →
    IfSome o (λ i. slice_index_or names i None ≡ Some word) →
    IfSome o (λ i. (j : ℕ) → j < i → slice_index_or names j None ≢ Some word) →
    IfNone o ((j : ℕ) → slice_index_or names j None ≢ Some word) → o ≡ index_in names word
