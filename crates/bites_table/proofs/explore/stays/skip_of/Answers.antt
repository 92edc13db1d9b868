use Rattle.bites_table.proofs.Library.{◌≡◌, ◌<◌, ◌≤◌, ◌∙◌, ◌∷◌, [], ℕ, zero, suc, List, Bool, true, false, Some, ap, reverse, sym, subst, take, ⊎_elim, slice_index_or, cases_lt}
use Rattle.bites_table.proofs.Words.{classes_of, Stays}
use Rattle.bites_table.proofs.explore.stays.skip_of.Goals as goal

taken : (n : ℕ) (xs : List Bool) (i : ℕ) → slice_index_or (take n xs) i false ≡ true → slice_index_or xs i false ≡ true
taken zero xs i e = absurd (let no : false ≡ true = e in cc)
taken (suc n) [] i e = e
taken (suc n) (x ∷ xs) zero e = e
taken (suc n) (x ∷ xs) (suc i) e = taken n xs i e

pub returns : goal.returns
returns c tab n over =
    let k = classes_of c.args.classes.now in
    let seen = reverse c.args.seen.now.items in
    let flag : (b : ℕ) → slice_index_or c.new.result b false ≡ true → slice_index_or c.bytes-flags.result b false ≡ true =
    λ b e. ap (λ (l : List Bool). slice_index_or l b false) (sym c.new.ensures) ∙ e in
    let ascii : (b : ℕ) → slice_index_or c.new.result b false ≡ true → b < 128 =
    λ b e. ⊎_elim (λ (lt : b < 128). lt) (λ (le : 128 ≤ b). absurd (let no : false ≡ true = sym (c.bytes-flags.ensures.past b le) ∙ flag b e in cc)) (cases_lt b 128) in
    let seen_is = ap (λ v. reverse v.items) (sym c.of.ensures) in
    record {
      ascii = ascii;
      stays = λ b e. subst (λ s. Stays tab n (k.class_of (Some b)) s c.of-2.result.value) seen_is
          (subst (λ m. Stays tab n (k.class_of (Some b)) seen m) (sym c.of-2.ensures)
          (over.stays (k.class_of (Some b)) (taken _ _ (k.class_of (Some b)) (sym (c.bytes-flags.ensures.ascii b (ascii b e)) ∙ flag b e))));
    }
