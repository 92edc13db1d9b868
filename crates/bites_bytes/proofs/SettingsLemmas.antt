-- A tree that exceeds a limit is the pattern's only one, and its groups are those that are kept.
use Rattle.std.proofs.Common.{◌≡◌, ◌≢◌, ℕ, Bool, true, false, List, Option, arith, refl, ap, sym, subst, ◌∙◌, ◌*◌, length, Result, Ok, Err, IfErr}
use Rattle.std.specs.Prelude.{chars, IsErrAnd}
use Rattle.bites_spec.specs.Tree.{Tree, captures_len}
use Rattle.bites_spec.specs.Program.{IsWellFormed}
use Rattle.bites_spec.specs.Built.{Built, IsCompilable}
use Rattle.bites_spec.specs.Contents.{Contents}
use Rattle.bites_spec.specs.Regex.{Regex, IsCompiled, NamesAreKept, with_prefilter, with_table}
use Rattle.bites_spec.proofs.regex.LeftLemmas.{length-left}
use Rattle.bites_spec.specs.Pattern.{Text, Flags}
use Rattle.bites_spec.specs.Grammar.{Reading}
use Rattle.bites_spec.specs.Measure.{Limits, TreeLimitsWith, groups_kept, groups_opened, groups_left, static_captures_len}
use Rattle.bites_spec.proofs.grammar.WholeOnce.{reads_once, opened_once}
use Rattle.bites_text.specs.declared.error.Error.{Error}
use Rattle.bites_text.specs.declared.error.Error.TheVariants.{TooBig, TooManyStates, TooManySlots, Memory}
use Rattle.bites_machine.specs.Compiled as compiled
use Rattle.bites_spec.specs.Settings.{Settings, Accepts}
use Rattle.bites_bytes.specs.Parts.{HoldsProgram, chosen, regex_of}
use Rattle.bites_bytes.specs.Set.{BuildsOne}
use Rattle.bites_bytes.specs.Settings.{Builds, Refuses, fault, limit}

-- what holds of an error holds of the result that passes it on
pub handed_on : {B : Type 0} (r : Result B Error) (e : Error) (P : Error → Type 0) → IsErrAnd r (λ f. f ≡ e) → P e → IfErr r P
handed_on (Err f) e P same holds = subst P (sym same) holds
handed_on (Ok b) e P same holds = absurd same

-- a build passes on the error of a pattern that is not accepted
pub passed_on : (s : Settings) (e : Error) (r : Result Regex Error) → IsErrAnd r (λ f. f ≡ e) →
    (e ≢ Memory → (t : Tree) → Accepts s t → ⊥) → (e ≢ Memory → Refuses s e) → Builds s r
passed_on s e (Ok x) same none refuses = absurd same
passed_on s e (Err f) same none refuses =
    let is = sym same in record {
      kept = tt;
      table = tt;
      accepted = tt;
      refused = subst (λ x. x ≢ Memory → (t : Tree) → Accepts s t → ⊥) is none;
      message = subst (λ x. x ≢ Memory → Refuses s x) is refuses;
    }

-- what exceeds a limit is not within the limits
not_within : (size_limit : ℕ) (groups : List (Option (List ℕ))) (t : Tree) (e : Error) → compiled.RefusesTree size_limit groups t e → e ≢ Memory →
    TreeLimitsWith size_limit groups t → ⊥
not_within size_limit groups t TooBig h ne within = let light = within.light in omega (arith, light, h)
not_within size_limit groups t TooManyStates h ne within = let few = within.few_states in let many = h.1 in omega (arith, few, many)
not_within size_limit groups t TooManySlots h ne within = let few = within.few_groups in let many = h.2 in omega (arith, few, many)
not_within size_limit groups t Memory h ne within = ne refl
not_within size_limit groups t _ h ne within = absurd h

-- the same groups are kept, however the pattern is read
kept_once : (keep : Bool) {pattern : Text} {flags : Flags} {t u : Tree} (r : Reading pattern flags t) (s : Reading pattern flags u) →
    groups_kept keep r ≡ groups_kept keep s
kept_once true {pattern} {flags} {t} {u} r s = opened_once pattern flags t u r s
kept_once false {pattern} {flags} {t} {u} r s = ap groups_left (reads_once pattern flags t u r s)

-- where the pattern's tree exceeds a limit, no tree is accepted
pub no_other_tree : (s : Settings) (t : Tree) (e : Error) (read : Limits (chars s.pattern) s.flags s.nest_limit t) →
    compiled.RefusesTree s.size_limit (groups_kept s.keep_dropped_groups read.reading) t e → e ≢ Memory → (u : Tree) → Accepts s u → ⊥
no_other_tree s t e read refused ne u accepts =
    let groups = groups_kept s.keep_dropped_groups read.reading in
    let kept : groups_kept s.keep_dropped_groups accepts.read.reading ≡ groups = kept_once s.keep_dropped_groups accepts.read.reading read.reading in
    let same : u ≡ t = reads_once (chars s.pattern) s.flags u t accepts.read.reading read.reading in
    let Within : Tree → Type 0 = λ x. TreeLimitsWith s.size_limit groups x in
    let small : TreeLimitsWith s.size_limit groups u = subst (λ gs. TreeLimitsWith s.size_limit gs u) kept accepts.small in
    not_within s.size_limit groups t e refused ne (subst Within same small)

-- a regex's pattern is read as no other tree
pub its_tree : (r : Regex) → IsCompiled r → (nest_limit : ℕ) (t : Tree) → Limits (chars r.pattern) r.flags nest_limit t → t ≡ r.tree
its_tree r is nest_limit t read = reads_once (chars r.pattern) r.flags t r.tree read.reading is.reads

-- groups that are those of each reading, and kept or not, are those that are kept
pub chosen_kept : (keep : Bool) (groups : List (Option (List ℕ))) {pattern : Text} {flags : Flags} {t : Tree} (r : Reading pattern flags t) →
    groups ≡ groups_opened r → chosen keep groups t ≡ groups_kept keep r
chosen_kept true groups r same = same
chosen_kept false groups r same = refl

-- what a builder returns, from what the parser and the compiler returned
pub accepted_of : (s : Settings) (t : Tree) (groups : List (Option (List ℕ))) (read : Limits (chars s.pattern) s.flags s.nest_limit t) →
    groups ≡ groups_opened read.reading → TreeLimitsWith s.size_limit (chosen s.keep_dropped_groups groups t) t → Accepts s t
accepted_of s t groups read same small = record {
  read = read;
  small = subst (λ gs. TreeLimitsWith s.size_limit gs t) (chosen_kept s.keep_dropped_groups groups read.reading same) small;
}

-- a regex of a program with the pattern, with these settings, is what a build returns
pub built_of : (s : Settings) (r : Regex) (t : Tree) (p : Contents) (b : Bool) →
    r ≡ with_table b (with_prefilter s.prefilter (regex_of s.flags t s.keep_dropped_groups s.leftmost_longest p)) → p.pattern ≡ s.pattern →
    (s.dfa_size_limit ≡ 0 → r.has_table ≡ false) → Accepts s t → Builds s (Ok r)
built_of s r t p b made text none accepts = record {
  kept = (
    ap (λ (x : Regex). x.pattern) made ∙ text,
    ap (λ (x : Regex). x.flags) made,
    ap (λ (x : Regex). x.keep_dropped_groups) made,
    ap (λ (x : Regex). x.leftmost_longest) made,
    ap (λ (x : Regex). x.prefilter) made,
  );
  table = none;
  accepted = subst (Accepts s) (sym (ap (λ (x : Regex). x.tree) made)) accepts;
  refused = tt;
  message = tt;
}

-- the groups of a limit that is exceeded are those that are kept
pub refused_kept : (s : Settings) (t : Tree) (groups : List (Option (List ℕ))) (read : Limits (chars s.pattern) s.flags s.nest_limit t) →
    groups ≡ groups_opened read.reading → (e : Error) → compiled.RefusesTree s.size_limit (chosen s.keep_dropped_groups groups t) t e →
    compiled.RefusesTree s.size_limit (groups_kept s.keep_dropped_groups read.reading) t e
refused_kept s t groups read same e refused =
    subst (λ gs. compiled.RefusesTree s.size_limit gs t e) (chosen_kept s.keep_dropped_groups groups read.reading same) refused

-- the limit on a table changes neither what is accepted nor what is refused
accepts_with_table : (s : Settings) (n : ℕ) (t : Tree) → Accepts (record s { dfa_size_limit = n }) t → Accepts s t
accepts_with_table s n t a = record { read = a.read; small = a.small }

accepts_by_table : (s : Settings) (n : ℕ) (t : Tree) → Accepts s t → Accepts (record s { dfa_size_limit = n }) t
accepts_by_table s n t a = record { read = a.read; small = a.small }

refuses_with_table : (s : Settings) (n : ℕ) (e : Error) → Refuses (record s { dfa_size_limit = n }) e → Refuses s e
refuses_with_table s n e (fault m is same) = fault m is same
refuses_with_table s n e (limit t read is) = limit t read is

-- so a build with a limit of its own is one with these settings
pub builds_one : (s : Settings) (n : ℕ) (o : Result Regex Error) → Builds (record s { dfa_size_limit = n }) o → BuildsOne s o
builds_one s n (Ok r) builds = record {
  built = record {
    pattern = builds.kept.0;
    flags = builds.kept.1;
    keep_dropped_groups = builds.kept.2;
    leftmost_longest = builds.kept.3;
    prefilter = builds.kept.4;
    accepted = accepts_with_table s n r.tree builds.accepted;
  };
  refused = builds.refused;
  message = builds.message;
}
builds_one s n (Err e) builds = record {
  built = builds.accepted;
  refused = λ ne t a. builds.refused ne t (accepts_by_table s n t a);
  message = λ ne. refuses_with_table s n e (builds.message ne);
}

-- a regex of a program that was made with these groups
pub compiled_of : (flags : Flags) (t : Tree) (keep longest : Bool) (p : Contents) (pattern : List ℕ) (groups : List (Option (List ℕ)))
    (r : Reading (chars pattern) flags t) → groups ≡ groups_opened r → IsCompilable t → p.pattern ≡ pattern → p.names ≡ chosen keep groups t →
    p.program.slots ≡ 2 * length (chosen keep groups t) → p.static_captures_len ≡ static_captures_len t → Built t p.program → IsWellFormed p.program →
    IsCompiled (regex_of flags t keep longest p)
compiled_of flags t keep longest p pattern groups r same compilable text names slots static built well_formed =
    let P : List ℕ → Type 0 = λ x. (s : Reading (chars x) flags t) × (p.names ≡ groups_kept keep s) in
    let x : P p.pattern = subst P (sym text) (r, names ∙ chosen_kept keep groups r same) in
    record {
      reads = x.0;
      compilable = compilable;
      built = built;
      well_formed = well_formed;
      names = x.1;
      slots = slots ∙ ap (λ gs. 2 * length gs) (sym names);
      static = static;
    }

-- the names of a regex are those of the groups that are kept
pub names_are_kept : (r : Regex) → IsCompiled r → NamesAreKept r
names_are_kept r is = record { kept = λ reading. is.names ∙ kept_once r.keep_dropped_groups is.reads reading }

-- and as many as the tree has groups, where dropped ones are not kept
pub left_captures : (r : Regex) → IsCompiled r → r.keep_dropped_groups ≡ false → length r.names ≡ captures_len r.tree
left_captures r is off = ap length (is.names ∙ ap (λ keep. groups_kept keep is.reads) off) ∙ length-left r.tree

-- neither a table nor a search for a literal changes anything of its program
pub program_with : (f b : Bool) (r : Regex) (p : Contents) → HoldsProgram r p → HoldsProgram (with_prefilter f (with_table b r)) p
program_with f b r p holds =
    let is = holds.compiled in record {
      pattern = holds.pattern;
      program = holds.program;
      names = holds.names;
      static_len = holds.static_len;
      compiled = record {
        reads = is.reads;
        compilable = is.compilable;
        built = is.built;
        well_formed = is.well_formed;
        names = is.names;
        slots = is.slots;
        static = is.static;
      };
    }
