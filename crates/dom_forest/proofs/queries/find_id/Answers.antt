use Rattle.std.proofs.Common.{Some, length, ap, subst, ◌∙◌}
use Rattle.std.specs.Bool.{then_some}
use Rattle.dom_forest.specs.Chain.{entries_of}
use Rattle.dom_forest.specs.Flat.{forest_of}
use Rattle.dom_forest.specs.Index.{LeadsTo, known_by}
use Rattle.dom_forest.specs.declared.ids.Holder.{Holder}
use Rattle.dom_forest.proofs.IndexLemmas.{find_none, find_one, index_knows}
use Rattle.dom_forest.proofs.Located.{element_with-entries}
use Rattle.dom_forest.proofs.queries.find_id.Goals as goal

pub returns-in-None : goal.returns-in-None
returns-in-None c = find_none (known_by c.args.ids.now) c.args.id.now (forest_of (entries_of c.args.chain.now)) (index_knows c.args.ids.now (forest_of (entries_of c.args.chain.now)) c.requires.index) c.in-None.ensures

pub returns-in-Some-One : goal.returns-in-Some-One
returns-in-Some-One c =
    c.then_some.ensures ∙ ap (λ b. then_some b c.in-Some-One.node) c.is_holder.ensures
    ∙ find_one (known_by c.args.ids.now) c.args.id.now (forest_of (entries_of c.args.chain.now)) c.in-Some-One.node c.requires.held.document.numbered.once (index_knows c.args.ids.now (forest_of (entries_of c.args.chain.now)) c.requires.index)
    (λ n l. subst (λ (h : Holder). LeadsTo (Some h) n) c.in-Some-One.field-0-is (c.in-Some-One.ensures n l))

pub returns-in-Some-Many : goal.returns-in-Some-Many
returns-in-Some-Many c =
    c.first_with.ensures ∙ element_with-entries c.args.id.now (entries_of c.args.chain.now) (length c.args.chain.now.slots.items) c.requires.held.document
