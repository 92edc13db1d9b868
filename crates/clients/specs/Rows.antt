-- The lines of a log and what is written of them.
use Rattle.std.specs.Prelude.{◌≡◌, ℕ, ◌+◌, Bool, true, false, cond, List, [], ◌∷◌, ◌++◌, Option, codes, decimal, IsUtf8}
use Rattle.std.specs.Io.BufRead.{strip_last}
use Rattle.std.specs.Io.KnownBytes.{Appends}
use Rattle.bites_filter.specs.Csv.{row}
use Rattle.clients.specs.Entry.{NoEntry, IsEntry}

-- the report of a line that does not have the format
abbrev pub told : ℕ → List ℕ
told number = codes "fields: line " ++ (decimal number ++ (codes " is not in the common log format" ++ 10 ∷ []))

-- The fields of a line that has the format are written. Any other line is bad, also one that isn't UTF-8, and its number is
-- reported.
abbrev pub IsOutcome : ℕ → List ℕ → (text report : List ℕ) → Bool → Type 0
IsOutcome number line text report true = (IsUtf8 line → NoEntry line) × (text ≡ []) × (report ≡ told number)
IsOutcome number line text report false =
    ((fields : List (List ℕ)) × IsEntry line fields × (text ≡ row fields)) × (report ≡ [])

-- this line without its line feed has its outcome, and the report is appended to the reports of the state
abbrev pub Extracts : {S : Type 0} → (S → Option (List ℕ)) → S → ℕ → List ℕ → List ℕ → Bool → S → Type 0
Extracts reports s number line text bad t =
    (report : List ℕ) × IsOutcome number (strip_last 10 line) text report bad × Appends (reports s) (reports t) report

-- Each of the lines after the first n has its outcome, without its line feed. What is written and what is reported stand in the
-- order of the lines, and `bad` of the lines are bad.
abbrev pub AreExtracted : ℕ → List (List ℕ) → (text reports : List ℕ) → ℕ → Type 0
AreExtracted n [] text reports bad = (text ≡ []) × (reports ≡ []) × (bad ≡ 0)
AreExtracted n (l ∷ ls) text reports bad =
    (first : List ℕ) × (report : List ℕ) × (is_bad : Bool) × (texts : List ℕ) × (others : List ℕ) × (more : ℕ)
    × IsOutcome (n + 1) (strip_last 10 l) first report is_bad × AreExtracted (n + 1) ls texts others more
    × (text ≡ first ++ texts) × (reports ≡ report ++ others) × (bad ≡ cond is_bad 1 0 + more)
