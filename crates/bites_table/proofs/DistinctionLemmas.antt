-- Kinds that show the same are alike for all assertions that these distinctions cover.
use Rattle.bites_table.proofs.Library.{common_steps, is_byte, State, Program, state_at, takes, ◌≡◌, ℕ, Bool, true, ◌&&◌, not, ◌+◌, ◌<◌, List, Option, Some, sym, ap, ap₂, ◌∙◌, arith, or_left, or_right}
use Rattle.bites_table.proofs.Words.{Kind, kind_of_byte, byte_of, is_edge, leads_by, AreAlikeKinds, AreAlike, is_line, nothing, before_state, after_state, either, seen, IsWithin, CoverBefore, CoverAfter, Distinctions}

-- what is told apart is seen alike
under : (told x y : Bool) → told ≡ true → (told && x) ≡ (told && y) → x ≡ y
under told x y is e = grind (arith, common_steps)

feed_is : (k : Kind) → is_byte 10 (byte_of k) ≡ (is_line k && not (is_edge k))
feed_is k = grind (arith, common_steps)

module _ (d : Distinctions) (k l : Kind) (same : seen d k ≡ seen d l) where
  edge_is : d.edge ≡ true → is_edge k ≡ is_edge l
  edge_is told = under d.edge (is_edge k) (is_edge l) told (ap (λ (s : Distinctions). s.edge) same)

  line_is : d.line ≡ true → is_line k ≡ is_line l
  line_is told = under d.line (is_line k) (is_line l) told (ap (λ (s : Distinctions). s.line) same)

  line_feed_is : d.edge ≡ true → d.line ≡ true → is_byte 10 (byte_of k) ≡ is_byte 10 (byte_of l)
  line_feed_is edges_told lines_told = feed_is k ∙ ap₂ (λ x y. x && not y) (line_is lines_told) (edge_is edges_told) ∙ sym (feed_is l)

-- what a state tells apart that tests an assertion
before_is : (s : State) (d : Distinctions) → IsWithin (before_state s) d → (k l : Kind) → seen d k ≡ seen d l → (o : Option ℕ) → leads_by k o s ≡ leads_by l o s
before_is s d within k l same o = grind arith

-- kinds of the byte before that show the same are alike
pub kinds_alike_before : (p : Program) (d : Distinctions) → CoverBefore d p.states → (k l : Kind) → seen d k ≡ seen d l → AreAlikeKinds p k l
kinds_alike_before p d cover k l same o q = before_is (state_at p.states q) d (cover q) k l same o

-- a state leads alike over characters that it takes alike
over_is : (s : State) (d : Distinctions) → IsWithin (after_state s) d → (c e : ℕ) → takes s c ≡ takes s e → seen d (kind_of_byte c) ≡ seen d (kind_of_byte e) →
    (k : Kind) → leads_by k (Some c) s ≡ leads_by k (Some e) s
over_is s d within c e taken same k = grind arith

-- characters that the same states take, and of whose kinds the same is seen
pub characters_alike : (p : Program) (d : Distinctions) → CoverBefore d p.states → CoverAfter d p.states → (c e : ℕ) →
    ((q : ℕ) → takes (state_at p.states q) c ≡ takes (state_at p.states q) e) → seen d (kind_of_byte c) ≡ seen d (kind_of_byte e) → AreAlike p (Some c) (Some e)
characters_alike p d before after c e taken same = grind (arith, common_steps, over_is, kinds_alike_before)

-- what lies within one of two lies within both
pub within_left : (a d e : Distinctions) → IsWithin a d → IsWithin a (either d e)
within_left a d e within = grind (arith, common_steps, or_left)

pub within_right : (a d e : Distinctions) → IsWithin a e → IsWithin a (either d e)
within_right a d e within = grind (arith, common_steps, or_right)

pub within_itself : (a : Distinctions) → IsWithin a a
within_itself a = record { edge = λ is. is; line = λ is. is; carriage_return = λ is. is; word = λ is. is }

pub nothing_within : (d : Distinctions) → IsWithin nothing d
nothing_within d = grind (arith, common_steps)

-- a loop over states goes one further
module _ (f : State → Distinctions) (ss : List State) (i : ℕ) (d : Distinctions) (s : State) (is : s ≡ state_at ss i)
    (cover : (q : ℕ) → q < i → IsWithin (f (state_at ss q)) d) where
  cover_more : (e : Distinctions) → IsWithin (f s) e → ((a : Distinctions) → IsWithin a d → IsWithin a e) → (q : ℕ) → q < i + 1 → IsWithin (f (state_at ss q)) e
  cover_more e own more q lt = grind (arith, common_steps)

  pub cover_asserted : (b e : Distinctions) → f s ≡ b → e ≡ either d b → (q : ℕ) → q < i + 1 → IsWithin (f (state_at ss q)) e
  cover_asserted b e own both = rw both (cover_more (either d b) (rw own (within_right b d b (within_itself b))) (λ a within. within_left a d b within))

  pub cover_none : (e : Distinctions) → f s ≡ nothing → e ≡ d → (q : ℕ) → q < i + 1 → IsWithin (f (state_at ss q)) e
  cover_none e own same = rw same (cover_more d (rw own (nothing_within d)) (λ a within. within))
