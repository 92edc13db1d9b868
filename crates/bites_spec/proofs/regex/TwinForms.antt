-- Two programs that hold the same tree have the same states, but for their numbers.
use Rattle.std.proofs.Common.{◌≡◌, ℕ, zero, suc, ◌-◌, ◌*◌, ◌+◌, Bool, List, [], ◌∷◌, ◌++◌, map, Option, Some, None, refl, sym, ap, ap₂, ◌∙◌, subst, inl, inr, ⊎_elim, true, false}
use Rattle.std.proofs.lemmas.List.{map-append}
use Rattle.bites_spec.specs.Walks.{Among}
use Rattle.bites_spec.specs.Tree.{Tree, Trees, empty, char, class, look, repetition, group, sequence, alternation, no_tree, tree_and, is_nullable}
use Rattle.bites_spec.specs.Program as program
use Rattle.bites_spec.specs.Program.{State, state_at}
use Rattle.bites_spec.specs.Built.{Fragment, One, Behind, Copies, Options, Loop, Star, OptionalLoop, Bounded, CopiesUpTo, Repeated, choice, class_state, HasForm, HasFormAll, HasFormEach}
use Rattle.bites_spec.proofs.programs.SlotLemmas.{Among-left, Among-right}
use Rattle.bites_spec.proofs.programs.BuiltLemmas.{Among-append}

-- the state with other targets
abbrev pub renamed : (ℕ → ℕ) → State → State
renamed f (program.char q c) = program.char (f q) c
renamed f (program.ranges q rs) = program.ranges (f q) rs
renamed f (program.splits qs b) = program.splits (map f qs) b
renamed f (program.goto q l) = program.goto (f q) l
renamed f (program.capture q k) = program.capture (f q) k
renamed f program.fail = program.fail
renamed f program.match = program.match

module _ (ss ts : List State) where
  -- the second state is the first one renamed
  abbrev pub Twin : (ℕ → ℕ) → ℕ → ℕ → Type 0
  Twin f q r = state_at ts r ≡ renamed f (state_at ss q)

  -- The states of two parts pair up. If f gives the second number of each pair, and the second exit at the first, then the
  -- states are twins, and f does so for what E says of the entries.
  pub record Pairs (E : (ℕ → ℕ) → Type 0) (to : ℕ) (used : List ℕ) (stop : ℕ) (taken : List ℕ) : Type 0 where
    pub pairs : List (ℕ × ℕ)
    pub left : map (λ z. z.0) pairs ≡ used
    pub right : map (λ z. z.1) pairs ≡ taken
    pub twins : (f : ℕ → ℕ) → f to ≡ stop → ((z : ℕ × ℕ) → Among pairs z → f z.0 ≡ z.1) → E f × ((z : ℕ × ℕ) → Among pairs z → Twin f z.0 z.1)

  abbrev pub Same : Fragment → Fragment → Type 0
  Same F G =
      (from to : ℕ) (used : List ℕ) (begin stop : ℕ) (taken : List ℕ) → F from to used → G begin stop taken →
      Pairs (λ f. f from ≡ begin) to used stop taken

  pub twin : (f : ℕ → ℕ) (q r : ℕ) (s t : State) → state_at ss q ≡ s → state_at ts r ≡ t → t ≡ renamed f s → Twin f q r
  twin f q r s t here there same = there ∙ same ∙ sym (ap (renamed f) here)

  twin_choice : (greedy : Bool) (f : ℕ → ℕ) (q r a b c d : ℕ) → state_at ss q ≡ choice ss greedy a b → state_at ts r ≡ choice ts greedy c d →
      f a ≡ c → f b ≡ d → Twin f q r
  twin_choice greedy f q r a b c d here there one two =
      twin f q r (choice ss greedy a b) (choice ts greedy c d) here there (ap₂ (λ x y. choice ts greedy x y) (sym one) (sym two))

  twin_goto : (f : ℕ → ℕ) (q r to stop : ℕ) → state_at ss q ≡ program.goto to None → state_at ts r ≡ program.goto stop None → f to ≡ stop → Twin f q r
  twin_goto f q r to stop here there leads =
      twin f q r (program.goto to None) (program.goto stop None) here there (ap (λ x. program.goto x None) (sym leads))

  -- two states more in front of those of two parts
  front : {D E : (ℕ → ℕ) → Type 0} (q r mid middle to stop : ℕ) (a c used taken : List ℕ) → Pairs D mid a middle c → used ≡ q ∷ a → taken ≡ r ∷ c →
      ((f : ℕ → ℕ) → f to ≡ stop → f q ≡ r → f mid ≡ middle) → ((f : ℕ → ℕ) → f to ≡ stop → f q ≡ r → D f → E f × Twin f q r) → Pairs E to used stop taken
  front {D} {E} q r mid middle to stop a c used taken part is are exit with_state = record {
    pairs = (q, r) ∷ part.pairs;
    left = ap (λ l. q ∷ l) part.left ∙ sym is;
    right = ap (λ l. r ∷ l) part.right ∙ sym are;
    twins = λ f leads maps.
        let here : f q ≡ r = maps (q, r) (inl refl) in
        let inner = part.twins f (exit f leads here) (λ z h. maps z (inr h)) in
        let all = with_state f leads here inner.0 in
        (all.0, λ z h. ⊎_elim (λ (e : (q, r) ≡ z). subst (λ (x : ℕ × ℕ). Twin f x.0 x.1) e all.1) (inner.1 z) h);
  }

  -- two parts, and two behind them
  join : {D E G : (ℕ → ℕ) → Type 0} (mid middle to stop : ℕ) (a b c d used taken : List ℕ) → Pairs D mid a middle c → Pairs E to b stop d →
      used ≡ a ++ b → taken ≡ c ++ d → ((f : ℕ → ℕ) → f to ≡ stop → E f → f mid ≡ middle) → ((f : ℕ → ℕ) → D f → E f → G f) → Pairs G to used stop taken
  join {D} {E} {G} mid middle to stop a b c d used taken one two is are exit both = record {
    pairs = one.pairs ++ two.pairs;
    left = map-append (λ z. z.0) one.pairs two.pairs ∙ ap₂ (λ x y. x ++ y) one.left two.left ∙ sym is;
    right = map-append (λ z. z.1) one.pairs two.pairs ∙ ap₂ (λ x y. x ++ y) one.right two.right ∙ sym are;
    twins = λ f leads maps.
        let behind = two.twins f leads (λ z h. maps z (Among-right one.pairs two.pairs z h)) in
        let ahead = one.twins f (exit f leads behind.0) (λ z h. maps z (Among-left one.pairs two.pairs z h)) in
        (both f ahead.0 behind.0, λ z h. ⊎_elim (ahead.1 z) (behind.1 z) (Among-append one.pairs two.pairs z h));
  }

  nothing : {E : (ℕ → ℕ) → Type 0} (to stop : ℕ) (used taken : List ℕ) → used ≡ [] → taken ≡ [] → ((f : ℕ → ℕ) → f to ≡ stop → E f) → Pairs E to used stop taken
  nothing to stop used taken is are entry = record { pairs = []; left = sym is; right = sym are; twins = λ f leads maps. (entry f leads, λ z no. absurd no) }

  same_one : (make other : ℕ → State) → ((f : ℕ → ℕ) (to : ℕ) → other (f to) ≡ renamed f (make to)) → Same (One ss make) (One ts other)
  same_one make other alike from to used begin stop taken (here, is) (there, are) =
      front {D = λ f. f to ≡ stop} from begin to stop to stop [] [] used taken (nothing to stop [] [] refl refl (λ f leads. leads)) is are (λ f leads at. leads)
      (λ f leads at d. (at, twin f from begin (make to) (other stop) here there (ap other (sym leads) ∙ alike f to)))

  same_behind : (F G H K : Fragment) → Same F G → Same H K → Same (Behind ss F H) (Behind ts G K)
  same_behind F G H K fg hk from to used begin stop taken (mid, a, b, first, rest, is) (middle, c, d, other, others, are) =
      join mid middle to stop a b c d used taken (fg from mid a begin middle c first other) (hk mid to b middle stop d rest others) is are
      (λ f leads entry. entry) (λ f entry behind. entry)

  same_copies : (n : ℕ) (F G H K : Fragment) → Same F G → Same H K → Same (Copies ss n F H) (Copies ts n G K)
  same_copies zero F G H K fg hk = hk
  same_copies (suc n) F G H K fg hk = same_behind F G (Copies ss n F H) (Copies ts n G K) fg (same_copies n F G H K fg hk)

  same_options : (n : ℕ) (greedy : Bool) (out exit : ℕ) (F G : Fragment) → Same F G → (from to : ℕ) (used : List ℕ) (begin stop : ℕ) (taken : List ℕ) →
      Options ss n greedy out F from to used → Options ts n greedy exit G begin stop taken → Pairs (λ f. (f from ≡ begin) × (f to ≡ stop)) out used exit taken
  same_options zero greedy out exit F G fg from to used begin stop taken (here, leaves, is) (there, left, are) =
      nothing out exit used taken is are (λ f leads. (ap f (here ∙ leaves) ∙ leads ∙ sym (there ∙ left), ap f leaves ∙ leads ∙ sym left))
  same_options (suc n) greedy out exit F G fg from to used begin stop taken
      (round, mid, a, b, here, body, rest, is) (turn, middle, c, d, there, other, others, are) =
      front {D = λ f. (f round ≡ turn) × (f to ≡ stop)} from begin out exit out exit (a ++ b) (c ++ d) used taken
      (join mid middle out exit a b c d (a ++ b) (c ++ d) (fg round mid a turn middle c body other) (same_options n greedy out exit F G fg mid to b middle stop d rest others)
      refl refl (λ f leads e. e.0) (λ f inner e. (inner, e.1)))
      is are (λ f leads at. leads) (λ f leads at e. ((at, e.1), twin_choice greedy f from begin round out turn exit here there e.0 leads))

  same_loop : (greedy : Bool) (F G : Fragment) → Same F G → Same (Loop ss greedy F) (Loop ts greedy G)
  same_loop greedy F G fg from to used begin stop taken (again, a, body, here, is) (anew, c, other, there, are) =
      front again anew again anew to stop a c used taken (fg from again a begin anew c body other) is are (λ f leads at. at)
      (λ f leads at entry. (entry, twin_choice greedy f again anew from to begin stop here there entry leads))

  same_star : (greedy : Bool) (F G : Fragment) → Same F G → Same (Star ss greedy F) (Star ts greedy G)
  same_star greedy F G fg from to used begin stop taken (round, a, body, here, is) (turn, c, other, there, are) =
      front from begin from begin to stop a c used taken (fg round from a turn begin c body other) is are (λ f leads at. at)
      (λ f leads at entry. (at, twin_choice greedy f from begin round to turn stop here there entry leads))

  same_optional : (greedy : Bool) (F G : Fragment) → Same F G → Same (OptionalLoop ss greedy F) (OptionalLoop ts greedy G)
  same_optional greedy F G fg from to used begin stop taken (round, out, a, loop, here, leaves, is) (turn, exit, c, other, there, left, are) =
      front from begin to stop to stop (out ∷ a) (exit ∷ c) used taken
      (front {D = λ f. f round ≡ turn} {E = λ f. (f round ≡ turn) × (f out ≡ exit)} out exit out exit to stop a c (out ∷ a) (exit ∷ c)
      (same_loop greedy F G fg round out a turn exit c loop other) refl refl (λ f leads at. at)
      (λ f leads at entry. ((entry, at), twin_goto f out exit to stop leaves left leads)))
      is are (λ f leads at. leads) (λ f leads at e. (at, twin_choice greedy f from begin round out turn exit here there e.0 e.1))

  same_bounded : (n : ℕ) (greedy : Bool) (F G : Fragment) → Same F G → Same (Bounded ss n greedy F) (Bounded ts n greedy G)
  same_bounded n greedy F G fg from to used begin stop taken (out, a, options, leaves, is) (exit, c, others, left, are) =
      front out exit out exit to stop a c used taken (same_options n greedy out exit F G fg from out a begin exit c options others) is are (λ f leads at. at)
      (λ f leads at e. (e.0, twin_goto f out exit to stop leaves left leads))

  same_copies_up_to : (n more : ℕ) (greedy : Bool) (F G : Fragment) → Same F G → Same (CopiesUpTo ss n more greedy F) (CopiesUpTo ts n more greedy G)
  same_copies_up_to n zero greedy F G fg = same_copies n F G F G fg fg
  same_copies_up_to n (suc more) greedy F G fg =
      same_copies (suc n) F G (Bounded ss (suc more) greedy F) (Bounded ts (suc more) greedy G) fg (same_bounded (suc more) greedy F G fg)

  same_goto : Same (One ss (λ to. program.goto to None)) (One ts (λ to. program.goto to None))
  same_goto = same_one (λ to. program.goto to None) (λ to. program.goto to None) (λ f to. refl)

  same_repeated : (min : ℕ) (most : Option ℕ) (greedy is_empty : Bool) (F G : Fragment) → Same F G →
      Same (Repeated ss min most greedy is_empty F) (Repeated ts min most greedy is_empty G)
  same_repeated zero None greedy true F G fg = same_optional greedy F G fg
  same_repeated zero None greedy false F G fg = same_star greedy F G fg
  same_repeated (suc n) None greedy is_empty F G fg = same_copies n F G (Loop ss greedy F) (Loop ts greedy G) fg (same_loop greedy F G fg)
  same_repeated zero (Some zero) greedy is_empty F G fg = same_goto
  same_repeated zero (Some (suc zero)) greedy is_empty F G fg = same_bounded 1 greedy F G fg
  same_repeated zero (Some (suc (suc m))) greedy is_empty F G fg =
      same_behind (One ss (λ to. program.goto to None)) (One ts (λ to. program.goto to None)) (Bounded ss (suc (suc m)) greedy F)
      (Bounded ts (suc (suc m)) greedy G) same_goto (same_bounded (suc (suc m)) greedy F G fg)
  same_repeated (suc n) (Some most) greedy is_empty F G fg = same_copies_up_to n (most - suc n) greedy F G fg

  same_class : (rs : List (ℕ × ℕ)) (f : ℕ → ℕ) (to : ℕ) → class_state ts rs (f to) ≡ renamed f (class_state ss rs to)
  same_class [] f to = refl
  same_class (r ∷ rs) f to = refl

  abbrev Each : Trees → Type 0
  Each us =
      (qs : List ℕ) (out : ℕ) (a rs : List ℕ) (exit : ℕ) (c : List ℕ) → HasFormEach ss us qs out a → HasFormEach ts us rs exit c →
      Pairs (λ f. map f qs ≡ rs) out a exit c

  same_choice : (us : Trees) → Each us → Same (HasForm ss (alternation us)) (HasForm ts (alternation us))
  same_choice us each_of from to used begin stop taken (out, rounds, a, here, each, leaves, is) (exit, turns, c, there, others, left, are) =
      front from begin to stop to stop (out ∷ a) (exit ∷ c) used taken
      (front {D = λ f. map f rounds ≡ turns} out exit out exit to stop a c (out ∷ a) (exit ∷ c) (each_of rounds out a turns exit c each others) refl refl
      (λ f leads at. at) (λ f leads at entries. (entries, twin_goto f out exit to stop leaves left leads)))
      is are (λ f leads at. leads)
      (λ f leads at entries. (at, twin f from begin (program.splits rounds false) (program.splits turns false) here there (ap (λ qs. program.splits qs false) (sym entries))))

  mutual
    pub same_form : (t : Tree) → Same (HasForm ss t) (HasForm ts t)
    same_form empty = same_goto
    same_form (char c) = same_one (λ to. program.char to c) (λ to. program.char to c) (λ f to. refl)
    same_form (class rs) = same_one (class_state ss rs) (class_state ts rs) (same_class rs)
    same_form (look l) = same_one (λ to. program.goto to (Some l)) (λ to. program.goto to (Some l)) (λ f to. refl)
    same_form (repetition min most greedy t) = same_repeated min most greedy (is_nullable t) (HasForm ss t) (HasForm ts t) (same_form t)
    same_form (group k name t) =
        same_behind (One ss (λ to. program.capture to (2 * k))) (One ts (λ to. program.capture to (2 * k)))
        (Behind ss (HasForm ss t) (One ss (λ to. program.capture to (2 * k + 1)))) (Behind ts (HasForm ts t) (One ts (λ to. program.capture to (2 * k + 1))))
        (same_one (λ to. program.capture to (2 * k)) (λ to. program.capture to (2 * k)) (λ f to. refl))
        (same_behind (HasForm ss t) (HasForm ts t) (One ss (λ to. program.capture to (2 * k + 1))) (One ts (λ to. program.capture to (2 * k + 1))) (same_form t)
        (same_one (λ to. program.capture to (2 * k + 1)) (λ to. program.capture to (2 * k + 1)) (λ f to. refl)))
    same_form (sequence us) = same_all us
    same_form (alternation us) = same_choice us (same_each us)

    same_all : (us : Trees) → Same (HasFormAll ss us) (HasFormAll ts us)
    same_all no_tree from to used begin stop taken (here, is) (there, are) =
        nothing to stop used taken is are (λ f leads. ap f here ∙ leads ∙ sym there)
    same_all (tree_and t us) from to used begin stop taken h k =
        same_behind (HasForm ss t) (HasForm ts t) (HasFormAll ss us) (HasFormAll ts us) (same_form t) (same_all us) from to used begin stop taken h k

    same_each : (us : Trees) → Each us
    same_each no_tree [] out a [] exit c is are = nothing out exit a c is are (λ f leads. refl)
    same_each no_tree (q ∷ qs) out a rs exit c is are = absurd is
    same_each no_tree [] out a (r ∷ rs) exit c is are = absurd are
    same_each (tree_and t us) [] out a rs exit c is are = absurd is
    same_each (tree_and t us) (q ∷ qs) out a [] exit c is are = absurd are
    same_each (tree_and t us) (q ∷ qs) out a (r ∷ rs) exit c (x, b, form, each, is) (y, d, other, others, are) =
        join {D = λ f. f q ≡ r} out exit out exit x b y d a c (same_form t q out x r exit y form other) (same_each us qs out b rs exit d each others) is are
        (λ f leads entries. leads) (λ f entry entries. ap₂ (λ k ks. k ∷ ks) entry entries)
