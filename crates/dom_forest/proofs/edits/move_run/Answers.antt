use Rattle.std.proofs.Common.{arith, subst}
use Rattle.dom_forest.specs.Moves.{Moved}
use Rattle.dom_forest.proofs.Moves.{moved_chain, moved_none, moved_one, moved_part}
use Rattle.dom_forest.proofs.edits.move_run.Goals as goal

pub loop-k-init : goal.loop-k-init
loop-k-init c =
    (moved_none c.args.part.now c.args.chain.now c.args.first c.args.next c.args.many c.args.up c.args.down, omega (arith, c.requires))

pub move_one-id-requires : goal.move_one-id-requires
move_one-id-requires c = omega (arith, c.loop-k.invariant.1, c.loop-k-test.true)

pub loop-k-preserved : goal.loop-k-preserved
loop-k-preserved c =
    let one = c.move_one-id in (
      moved_one c.args.part.now c.args.chain.now c.loop-k.part c.loop-k.chain one.new.part one.new.chain c.args.first c.loop-k.id c.args.next one.result c.args.many c.loop-k.k c.args.up c.args.down
          c.loop-k-test.true c.loop-k.invariant.0 one.ensures.part one.ensures.chain one.ensures.ids,
      omega (arith, c.loop-k.invariant.1, one.ensures.len, one.ensures.room, c.loop-k.chain.slots.ok.0, one.new.chain.slots.ok.0),
    )

pub returns-clause-part : goal.returns-clause-part
returns-clause-part c =
    let done : Moved c.args.part.now c.args.chain.now c.loop-k.part c.loop-k.chain c.args.first c.loop-k.id c.args.next c.args.many c.args.many c.args.up c.args.down =
    subst (λ n. Moved c.args.part.now c.args.chain.now c.loop-k.part c.loop-k.chain c.args.first c.loop-k.id c.args.next c.args.many n c.args.up c.args.down) (omega (arith, c.loop-k.auto.k-end, c.loop-k-test.false)) c.loop-k.invariant.0 in
    moved_part c.args.part.now c.args.chain.now c.loop-k.part c.loop-k.chain c.args.first c.loop-k.id c.args.next c.args.many c.args.up c.args.down done

pub returns-clause-chain : goal.returns-clause-chain
returns-clause-chain c =
    let done : Moved c.args.part.now c.args.chain.now c.loop-k.part c.loop-k.chain c.args.first c.loop-k.id c.args.next c.args.many c.args.many c.args.up c.args.down =
    subst (λ n. Moved c.args.part.now c.args.chain.now c.loop-k.part c.loop-k.chain c.args.first c.loop-k.id c.args.next c.args.many n c.args.up c.args.down) (omega (arith, c.loop-k.auto.k-end, c.loop-k-test.false)) c.loop-k.invariant.0 in
    moved_chain c.args.part.now c.args.chain.now c.loop-k.part c.loop-k.chain c.args.first c.loop-k.id c.args.next c.args.many c.args.up c.args.down done

pub returns-clause-ids : goal.returns-clause-ids
returns-clause-ids c = c.loop-k.invariant.0.ids
