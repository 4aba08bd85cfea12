use Rattle.std.proofs.Common.{sym, ◌∙◌, arith}
use Rattle.std.proofs.lemmas.List.Sums.{prefix_len-le-length}
use Rattle.dom_forest.specs.Chain.{entries_of, entry_in, rest_from}
use Rattle.dom_forest.specs.Runs.{below_at}
use Rattle.dom_forest.proofs.Steps.{drop_one, length-rest, one_deeper}
use Rattle.dom_forest.proofs.entry.passed.Goals as goal

pub overflow_add-count : goal.overflow_add-count
overflow_add-count c =
    let es = entries_of c.args.chain.now in
    let d = c.in-Some.ensures.deeper in
    omega (
      arith,
      c.loop-slot.invariant.0,
      one_deeper c.args.depth (rest_from c.loop-slot.next es) (entry_in d.own c.in-Some.slot.now) (rest_from c.in-Some.slot.now.next es) d.from d.deeper,
      prefix_len-le-length (below_at c.args.depth) (rest_from c.args.id es),
      length-rest c.args.id es,
      c.requires.within,
      c.args.chain.now.slots.small,
      c.args.chain.now.slots.ok.0,
      c.args.chain.now.slots.ok.1,
    )

pub loop-slot-preserved : goal.loop-slot-preserved
loop-slot-preserved c =
    let es = entries_of c.args.chain.now in
    let d = c.in-Some.ensures.deeper in
    let slot = c.in-Some.slot.now in
    let old = rest_from c.args.id es in (
      omega (arith, c.loop-slot.invariant.0, one_deeper c.args.depth (rest_from c.loop-slot.next es) (entry_in d.own slot) (rest_from slot.next es) d.from d.deeper),
      sym (drop_one c.loop-slot.count old (entry_in d.own slot) (rest_from slot.next es) (sym c.loop-slot.invariant.1 ∙ d.from)),
      λ _. d.after,
    )
