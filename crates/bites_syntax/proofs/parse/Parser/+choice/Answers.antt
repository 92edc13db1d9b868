use Rattle.std.proofs.Common.{◌≡◌, ◌<◌, [], arith, add-one, ap, refl, subst, suc, length, Ok}
use Rattle.std.proofs.lemmas.Result.{err_from_is_err_and}
use Rattle.bites_spec.specs.RangesOf.{ranges_of}
use Rattle.bites_spec.specs.Reader.{at_item, inner}
use Rattle.bites_syntax.specs.declared.parse.Step.TheVariants.{Group}
use Rattle.bites_syntax.specs.Parts.{IsFaultOf}
use Rattle.bites_syntax.specs.Progress.{EndsReading, GoesOn, IsForward, ReadsAs, Steps}
use Rattle.bites_syntax.proofs.ReachedLemmas.{reached_start, reached_items, reached_item, reached_end, reached_fault, step_fault, reached_group, fault_in_group}
use Rattle.bites_syntax.proofs.PartLemmas.{no_longer}
use Rattle.bites_syntax.proofs.parse.Parser.+choice.Goals as goal

pub loop-branches-init : goal.loop-branches-init
loop-branches-init t c = (reached_start c.args.depth c.args.self.now c.new-branches.result c.new-branches.ensures.complete c.new-branches.ensures.nodes, omega arith)

pub returns-in_err-items : goal.returns-in_err-items
returns-in_err-items t c = no_longer (grind arith) λ limit bound g is n room.
    let p = err_from_is_err_and c.from_residual.result c.from_residual.ensures.1 in
    let r = c.loop-branches.invariant.0 limit bound g is n room in
    rw (p.1, p.2)
    (reached_fault limit c.args.depth n g c.args.self.now.cursor c.loop-branches.self c.loop-branches.branches _ r
    (c.in_err-items.ensures.items.reads limit r.g r.branches r.nodes r.is_at c.args.depth r.steps r.room))

pub returns-in_err-step : goal.returns-in_err-step
returns-in_err-step t c = no_longer (omega (arith, c.in_err-step.ensures.forward, c.in_ok-items.ensures.items.forward, c.loop-branches.invariant.1)) λ limit bound g is n room.
    let p = err_from_is_err_and c.from_residual-in_err-step.result c.from_residual-in_err-step.ensures.1 in
    let before = c.loop-branches.invariant.0 limit bound g is n room in
    let r = reached_items limit c.args.depth n g c.args.self.now.cursor c.loop-branches.self c.loop-branches.branches c.items.new.self c.items.new.branches before
    (c.in_ok-items.ensures.items.reads limit before.g before.branches before.nodes before.is_at c.args.depth before.steps before.room) in
    rw (p.1, p.2)
    (step_fault limit c.args.depth n g c.args.self.now.cursor c.items.new.self c.items.new.branches _ r
    (c.in_err-step.ensures.steps limit c.items.new.branches r.g r.branches r.nodes r.is_at r.steps))

pub loop-branches-preserved-in-Item : goal.loop-branches-preserved-in-Item
loop-branches-preserved-in-Item t c =
    let less : length c.step.new.self.cursor < length c.items.new.self.cursor =
    subst (λ s. IsForward c.items.new.self.limit c.args.depth (Ok s) c.items.new.self.cursor c.step.new.self.cursor) c.in-Item.is c.in_ok-step.ensures.forward in (
      λ limit bound start is n room.
          let before = c.loop-branches.invariant.0 limit bound start is n room in
          let r = reached_items limit c.args.depth n start c.args.self.now.cursor c.loop-branches.self c.loop-branches.branches c.items.new.self c.items.new.branches before
          (c.in_ok-items.ensures.items.reads limit before.g before.branches before.nodes before.is_at c.args.depth before.steps before.room) in
          let on : GoesOn limit c.args.depth r.steps c.step.new.self c.items.new.branches (at_item ranges_of limit (inner ranges_of limit r.steps) r.steps c.args.depth r.g r.branches r.nodes c.items.new.self.cursor) =
          subst (λ s. Steps limit c.args.depth r.steps r.g r.branches r.nodes (Ok s) c.step.new.self c.items.new.branches
          (at_item ranges_of limit (inner ranges_of limit r.steps) r.steps c.args.depth r.g r.branches r.nodes c.items.new.self.cursor))
          c.in-Item.is (c.in_ok-step.ensures.steps limit c.items.new.branches r.g r.branches r.nodes r.is_at r.steps) in
          reached_item limit c.args.depth n start c.args.self.now.cursor c.items.new.self c.items.new.branches c.step.new.self c.items.new.branches r on less,
      omega (arith, less, c.in_ok-items.ensures.items.forward, c.loop-branches.invariant.1),
    )

pub returns-in_err-choice-in-Group : goal.returns-in_err-choice-in-Group
returns-in_err-choice-in-Group t c = no_longer (grind arith) λ limit bound g is n room.
    let p = err_from_is_err_and c.from_residual-in_err-choice-in-Group.result c.from_residual-in_err-choice-in-Group.ensures.1 in
    let forward : (length c.step.new.self.cursor < length c.items.new.self.cursor) × (c.args.depth < c.items.new.self.limit) × (c.args.depth < 4294967295) =
    subst (λ s. IsForward c.items.new.self.limit c.args.depth (Ok s) c.items.new.self.cursor c.step.new.self.cursor) c.in-Group.is c.in_ok-step.ensures.forward in
    let before = c.loop-branches.invariant.0 limit bound g is n room in
    let r = reached_items limit c.args.depth n g c.args.self.now.cursor c.loop-branches.self c.loop-branches.branches c.items.new.self c.items.new.branches before
    (c.in_ok-items.ensures.items.reads limit before.g before.branches before.nodes before.is_at c.args.depth before.steps before.room) in
    let on : Steps limit c.args.depth r.steps r.g r.branches r.nodes (Ok (Group c.in-Group.group)) c.step.new.self c.items.new.branches
    (at_item ranges_of limit (inner ranges_of limit r.steps) r.steps c.args.depth r.g r.branches r.nodes c.items.new.self.cursor) =
    subst (λ s. Steps limit c.args.depth r.steps r.g r.branches r.nodes (Ok s) c.step.new.self c.items.new.branches
    (at_item ranges_of limit (inner ranges_of limit r.steps) r.steps c.args.depth r.g r.branches r.nodes c.items.new.self.cursor))
    c.in-Group.is (c.in_ok-step.ensures.steps limit c.items.new.branches r.g r.branches r.nodes r.is_at r.steps) in
    rw (p.1, p.2)
    (fault_in_group limit c.args.depth n g c.args.self.now.cursor c.items.new.self c.items.new.branches c.step.new.self c.in-Group.group r on.0 forward.0 c.in_err-choice-in-Group.field-0.0
    (λ k fits. subst (λ d. IsFaultOf c.in_err-choice-in-Group.field-0.0 (inner ranges_of limit (suc k) d on.0.inside [] [] c.step.new.self.cursor)) (add-one c.args.depth)
    (c.in_err-choice-in-Group.ensures.reads limit on.0.limit_is on.0.inside on.0.state k fits)))

pub loop-branches-preserved : goal.loop-branches-preserved
loop-branches-preserved t c =
    let forward : (length c.step.new.self.cursor < length c.items.new.self.cursor) × (c.args.depth < c.items.new.self.limit) × (c.args.depth < 4294967295) =
    subst (λ s. IsForward c.items.new.self.limit c.args.depth (Ok s) c.items.new.self.cursor c.step.new.self.cursor) c.in-Group.is c.in_ok-step.ensures.forward in (
      λ limit bound start is n room.
          let before = c.loop-branches.invariant.0 limit bound start is n room in
          let r = reached_items limit c.args.depth n start c.args.self.now.cursor c.loop-branches.self c.loop-branches.branches c.items.new.self c.items.new.branches before
          (c.in_ok-items.ensures.items.reads limit before.g before.branches before.nodes before.is_at c.args.depth before.steps before.room) in
          let on : Steps limit c.args.depth r.steps r.g r.branches r.nodes (Ok (Group c.in-Group.group)) c.step.new.self c.items.new.branches
          (at_item ranges_of limit (inner ranges_of limit r.steps) r.steps c.args.depth r.g r.branches r.nodes c.items.new.self.cursor) =
          subst (λ s. Steps limit c.args.depth r.steps r.g r.branches r.nodes (Ok s) c.step.new.self c.items.new.branches
          (at_item ranges_of limit (inner ranges_of limit r.steps) r.steps c.args.depth r.g r.branches r.nodes c.items.new.self.cursor))
          c.in-Group.is (c.in_ok-step.ensures.steps limit c.items.new.branches r.g r.branches r.nodes r.is_at r.steps) in
          reached_group limit c.args.depth n start c.args.self.now.cursor c.items.new.self c.items.new.branches c.step.new.self c.in-Group.group r on.0 forward.0
          c.choice.new.self _ c.items.new.branches.nodes.items c.close_group.new.branches c.in_ok-choice-in-Group.choice
          (λ k fits. subst (λ d. ReadsAs limit c.choice.new.self c.in_ok-choice-in-Group.choice (inner ranges_of limit (suc k) d on.0.inside [] [] c.step.new.self.cursor)) (add-one c.args.depth)
          (c.in_ok-choice-in-Group.ensures.reads limit on.0.limit_is on.0.inside on.0.state k fits))
          c.in_ok-choice-in-Group.ensures.forward c.bump.ensures.rest.reads c.bump.ensures.rest.forward
          (let same : c.choice.new.self.limit ≡ c.choice.new.self.limit = refl in same)
          (ap (λ f. record (c.choice.new.self.state) { flags = f }) c.in_ok-self-in-Group.ensures.flags)
          (rw c.in_ok-self-in-Group.ensures.complete on.1) on.2
          (λ branches stands before. c.in_ok-self-in-Group.ensures.nodes on.0.opening r.g.groups branches r.nodes on.0.numbered stands before),
      omega (arith, forward.0, c.in_ok-items.ensures.items.forward, c.loop-branches.invariant.1, c.in_ok-choice-in-Group.ensures.forward, c.bump.ensures.rest.forward),
    )

pub returns-in-End : goal.returns-in-End
returns-in-End t c = no_longer (grind arith) λ limit bound g is n room.
    let before = c.loop-branches.invariant.0 limit bound g is n room in
    let r = reached_items limit c.args.depth n g c.args.self.now.cursor c.loop-branches.self c.loop-branches.branches c.items.new.self c.items.new.branches before
    (c.in_ok-items.ensures.items.reads limit before.g before.branches before.nodes before.is_at c.args.depth before.steps before.room) in
    let ends : EndsReading limit c.step.new.self c.items.new.branches r.g (at_item ranges_of limit (inner ranges_of limit r.steps) r.steps c.args.depth r.g r.branches r.nodes c.items.new.self.cursor) =
    subst (λ s. Steps limit c.args.depth r.steps r.g r.branches r.nodes (Ok s) c.step.new.self c.items.new.branches
    (at_item ranges_of limit (inner ranges_of limit r.steps) r.steps c.args.depth r.g r.branches r.nodes c.items.new.self.cursor))
    c.in-End.is (c.in_ok-step.ensures.steps limit c.items.new.branches r.g r.branches r.nodes r.is_at r.steps) in
    reached_end limit c.args.depth n g c.args.self.now.cursor c.items.new.self c.items.new.branches c.step.new.self c.items.new.branches c.in_ok-into_alternation-in-End.field-0 r ends
    c.in_ok-into_alternation-in-End.ensures
