use Rattle.bites_machine.proofs.Library.{◌∙◌, refl, ap, sym, subst, arith, rules, IsWellFormed, first_fault, IsMadeOf}
use Rattle.bites_machine.proofs.compile.CompiledLemmas.{Built-compiled, first_fault-compiled, IsWellFormed-compiled, ok_or_program}
use Rattle.bites_machine.proofs.compiler.with_names.Goals as goal

pub new-program-requires : goal.new-program-requires
new-program-requires c =
    let t = c.args.tree.now in
    let n = c.len-slots.result in
    ap first_fault (c.in_ok-states.ensures.program n)
    ∙ first_fault-compiled n t (omega (arith, c.requires.room)) c.requires.classes c.in_ok-states.ensures.few

pub returns-clause-made : goal.returns-clause-made
returns-clause-made c =
    let t = c.args.tree.now in
    let n = c.len-slots.result in
    ok_or_program _ _ _ _ c.ok_or.ensures.value c.new-program.ensures.made (IsMadeOf t c.args.pattern.now c.args.names) (record {
      pattern = search rules;
      names = refl;
      slots = search rules;
      static_len = search rules;
      built = rw (c.in_ok-states.ensures.program n) (Built-compiled _ _ (omega (arith, c.requires.room)));
      well_formed = subst IsWellFormed (sym (c.in_ok-states.ensures.program n))
          (IsWellFormed-compiled _ _ (omega (arith, c.requires.room)) c.requires.classes c.in_ok-states.ensures.few);
    })
