-- What opens a group.
use Rattle.std.proofs.Common.{◌≡◌, ◌≤◌, ◌+◌, ◌-◌, ℕ, zero, suc, true, false, ◌||◌, ◌==◌, List, [], ◌∷◌, length, drop, refl, sym, ap, subst, ◌∙◌, Some, None, Result, Ok, arith, eqb-true}
use Rattle.std.specs.Prelude.{codes, bytes_eq, encode_utf8_all, slice_get, nat_lt, ◌++◌, Option, option_map}
use Rattle.std.proofs.lemmas.Bool.{false≢true, le-ltb}
use Rattle.std.specs.BTreeSet.{contains_text}
use Rattle.std.specs.Str.{chars, IsUtf8}
use Rattle.std.proofs.lemmas.Bool.Decides.{same_from_decides}
use Rattle.std.proofs.lemmas.Slice.Eq.{bytes_eq-Decides}
use Rattle.std.proofs.lemmas.Str.{encodes_same, encodes-chars}
use Rattle.bites_spec.specs.Class.{single}
use Rattle.bites_spec.specs.OperatorFault.{greatest_number}
use Rattle.bites_spec.specs.Measure.{opened_by}
use Rattle.bites_spec.proofs.regex.KeptLemmas.{opened_more}
use Rattle.bites_spec.specs.Pattern.{Text, Front, given, begins, next_is, one_of, question}
use Rattle.bites_spec.specs.Group.{numbered, unnumbered, changed, ends_with_dash, with_group, begins_look_around}
use Rattle.bites_spec.specs.Reader.{ReadResult, directive, group, flags_end, flags_from, named_group, name_from, no_name, opened}
use Rattle.bites_syntax.specs.declared.refusal.Refusal.{Refusal}
use Rattle.bites_syntax.specs.declared.group_names.Names.{Names}
use Rattle.bites_syntax.specs.Groups.{ends_flags, AreNames}
use Rattle.bites_syntax.specs.Parts.{Agrees}

-- an equal result
pub agrees_at : {A B : Type 0} (R : A → B → Type 0) (result : Result A Refusal) (rest : Text) (a b : ReadResult B) → a ≡ b → Agrees R result rest b → Agrees R result rest a
agrees_at R result rest a b e h = subst (λ x. Agrees R result rest x) (sym e) h

dash_at : (run : Text) (n c : ℕ) → length run ≡ suc n → Some c ≡ slice_get run n → (c == 45) ≡ ends_with_dash run
dash_at [] n c len is = absurd (omega (arith, len))
dash_at (d ∷ []) zero c len is = let e : c ≡ d = cc in rw e refl
dash_at (d ∷ []) (suc n) c len is = absurd (omega (arith, len))
dash_at (d ∷ e ∷ run) zero c len is = absurd (omega (arith, len))
dash_at (d ∷ e ∷ run) (suc n) c len is = dash_at (e ∷ run) n c (omega (arith, len)) is

-- the last mark of a run
pub dash_last : (run : Text) (c : ℕ) → Some c ≡ slice_get run (length run - 1) → (c == 45) ≡ ends_with_dash run
dash_last [] c is = absurd (let e : Some c ≡ None = is in cc)
dash_last (d ∷ run) c is = dash_at (d ∷ run) (length (d ∷ run) - 1) c (omega arith) is

-- flags that end in a colon or a parenthesis
pub flags_none : (g : Front) (run rest : Text) (c : ℕ) → (length run == 0) ≡ true → c ≡ 58 → flags_end g run c rest ≡ Ok (group unnumbered g, rest)
flags_none g [] rest c none colon = rw colon refl
flags_none g (d ∷ run) rest c none colon = absurd (omega (arith, eqb-true (length (d ∷ run)) 0 none))

pub flags_colon : (g : Front) (run rest : Text) (c : ℕ) → (length run == 0) ≡ false → ends_with_dash run ≡ false → c ≡ 58 →
    flags_end g run c rest ≡ Ok (group unnumbered (record g { flags = changed true run g.flags }), rest)
flags_colon g [] rest c some ends colon = absurd (false≢true (sym some))
flags_colon g (d ∷ run) rest c some ends colon = rw (ends, colon) refl

pub flags_directive : (g : Front) (run rest : Text) (c : ℕ) → (length run == 0) ≡ false → ends_with_dash run ≡ false → (c == 58) ≡ false →
    flags_end g run c rest ≡ Ok (directive (changed true run g.flags), rest)
flags_directive g [] rest c some ends other = absurd (false≢true (sym some))
flags_directive g (d ∷ run) rest c some ends other = rw (ends, other) refl

-- what ends a run of flags
pub flags_close : (g : Front) (run t u : Text) (c : ℕ) → ends_flags t ≡ true → t ≡ c ∷ u → flags_from g run t ≡ flags_end g run c u
flags_close g run t u c ends at = let here : one_of (codes ":)") c ≡ true = rw at at ends in rw at (rw here refl)

few : (g : Front) → g.groups + 1 ≤ 4294967295 → nat_lt greatest_number (g.groups + 1) ≡ false
few g room = le-ltb greatest_number (g.groups + 1) room

-- a group with a number alone
pub no_name_plain : (g : Front) (t : Text) → next_is (single question) t ≡ false → g.groups + 1 ≤ 4294967295 → no_name g t ≡ Ok (group (numbered None) (with_group None g), t)
no_name_plain g [] other room = rw (few g room) refl
no_name_plain g (c ∷ t) other room = rw other (rw (few g room) refl)

-- a group with a name
pub named_reads : (g : Front) (t rest name : Text) → g.groups + 1 ≤ 4294967295 → name_from (given g.names) [] t ≡ Ok (name, rest) →
    named_group g t ≡ Ok (group (numbered (Some name)) (with_group (Some name) g), rest)
named_reads g t rest name room reads = rw (few g room) (rw reads refl)

-- one group more is opened
pub opened_one_more : (old : List (Option (List ℕ))) (name : Option Text) (g : Front) → old ≡ opened_by g →
    old ++ option_map encode_utf8_all name ∷ [] ≡ opened_by (with_group name g)
opened_one_more old name g same = ap (λ xs. xs ++ option_map encode_utf8_all name ∷ []) same ∙ sym (opened_more name g)

-- the three ways in which an opening goes on
pub opened_long : (g : Front) (t : Text) → begins_look_around t ≡ false → begins (codes "?P<") t ≡ true → opened g t ≡ named_group g (drop 3 t)
opened_long g t look long = rw look (rw long refl)

pub opened_short : (g : Front) (t : Text) → begins_look_around t ≡ false → begins (codes "?P<") t ≡ false → begins (codes "?<") t ≡ true → opened g t ≡ named_group g (drop 2 t)
opened_short g t look long short = rw look (rw long (rw short refl))

pub opened_plain : (g : Front) (t : Text) → begins_look_around t ≡ false → begins (codes "?P<") t ≡ false → begins (codes "?<") t ≡ false → opened g t ≡ no_name g t
opened_plain g t look long short = rw look (rw long (rw short refl))

-- texts are the same where their bytes are
same_bytes : (name q : Text) → bytes_eq (encode_utf8_all name) (encode_utf8_all q) ≡ bytes_eq q name
same_bytes name q =
    let by_chars = bytes_eq-Decides q name in
    same_from_decides (bytes_eq (encode_utf8_all name) (encode_utf8_all q)) (bytes_eq q name) (bytes_eq-Decides (encode_utf8_all name) (encode_utf8_all q))
    (λ e. ap encode_utf8_all (sym (by_chars.0 e)), λ e. by_chars.1 (sym (encodes_same name q e)))

-- the bytes of a name
pub name_bytes : (name bytes : Text) → IsUtf8 bytes → name ≡ chars bytes → encode_utf8_all name ≡ bytes
name_bytes name bytes utf8 is = ap encode_utf8_all is ∙ encodes-chars bytes utf8

-- the names with one more
pub are_names_more : (old new : Names) (all : List Text) (name bytes : Text) → AreNames old all → encode_utf8_all name ≡ bytes →
    ((q : Text) → contains_text new.texts q ≡ (bytes_eq bytes q || contains_text old.texts q)) → AreNames new (name ∷ all)
are_names_more old new all name bytes are same put = λ q.
    put (encode_utf8_all q) ∙ rw (← same, are q, same_bytes name q) refl
