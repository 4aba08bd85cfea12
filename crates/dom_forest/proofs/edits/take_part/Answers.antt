use Rattle.std.proofs.Common.{◌+◌, [], length, map, refl, sym, ap, ◌∙◌, subst, arith}
use Rattle.std.proofs.lemmas.List.{append-nil}
use Rattle.dom_forest.specs.Chain.{IsChainOf, entries_of}
use Rattle.dom_forest.specs.Flat.{renumbered_entries, shifted_entry}
use Rattle.dom_forest.specs.Spine.{IsSpineOf}
use Rattle.dom_forest.proofs.Held.{part_after, part_count, part_fits, part_halves, part_held, part_run, part_size, rest_held, rest_spine}
use Rattle.dom_forest.proofs.Parts.{spanned}
use Rattle.dom_forest.proofs.edits.take_part.Goals as goal

pub returns-clause-held : goal.returns-clause-held
returns-clause-held c =
    let old = c.args.chain.now in
    let es = entries_of old in
    let next = length old.slots.items in
    let doc = c.requires.held.document in
    let place = c.requires.span.0 in
    let x = spanned es place (place + c.args.many) c.args.depth c.args.id next doc c.requires.span.1 in
    let run = part_run es place c.args.many c.args.depth c.args.id next doc x in
    let after = part_after es place c.args.many c.args.depth c.args.id next doc x in
    let size = part_size es place c.args.many c.args.depth c.args.id next doc x in
    let links = subst (IsChainOf old) (part_halves es place c.args.many c.args.depth c.args.id next doc x) c.requires.held.links in
    let rest = rest_held es place c.args.many c.args.depth c.args.id next doc x c.move_run.new.part c.move_run.ensures.ids (c.move_run.ensures.part x.front run after links refl size) in
    rest.held

pub returns-clause-rest : goal.returns-clause-rest
returns-clause-rest c =
    let old = c.args.chain.now in
    let es = entries_of old in
    let next = length old.slots.items in
    let doc = c.requires.held.document in
    let place = c.requires.span.0 in
    let x = spanned es place (place + c.args.many) c.args.depth c.args.id next doc c.requires.span.1 in
    let run = part_run es place c.args.many c.args.depth c.args.id next doc x in
    let after = part_after es place c.args.many c.args.depth c.args.id next doc x in
    let size = part_size es place c.args.many c.args.depth c.args.id next doc x in
    let links = subst (IsChainOf old) (part_halves es place c.args.many c.args.depth c.args.id next doc x) c.requires.held.links in
    let rest = rest_held es place c.args.many c.args.depth c.args.id next doc x c.move_run.new.part c.move_run.ensures.ids (c.move_run.ensures.part x.front run after links refl size) in
    rest.forest_is

pub returns-clause-part : goal.returns-clause-part
returns-clause-part c =
    let old = c.args.chain.now in
    let es = entries_of old in
    let next = length old.slots.items in
    let doc = c.requires.held.document in
    let place = c.requires.span.0 in
    let x = spanned es place (place + c.args.many) c.args.depth c.args.id next doc c.requires.span.1 in
    let run = part_run es place c.args.many c.args.depth c.args.id next doc x in
    let after = part_after es place c.args.many c.args.depth c.args.id next doc x in
    let size = part_size es place c.args.many c.args.depth c.args.id next doc x in
    let links = subst (IsChainOf old) (part_halves es place c.args.many c.args.depth c.args.id next doc x) c.requires.held.links in
    let rest = rest_held es place c.args.many c.args.depth c.args.id next doc x c.move_run.new.part c.move_run.ensures.ids (c.move_run.ensures.part x.front run after links refl size) in
    let fits = part_fits es place c.args.many c.args.depth c.args.id next doc x (length es) (omega arith) (omega (arith, c.requires.held.links.within, old.slots.small, old.slots.ok.0, old.slots.ok.1)) in
    let both = c.move_run.ensures.chain x.front run after links refl size fits [] [] c.requires.part refl in
    let new_is = append-nil (renumbered_entries (length c.args.part.now.slots.items) (map (shifted_entry c.args.depth 0) run)) ∙ ap (λ n. renumbered_entries n (map (shifted_entry c.args.depth 0) run)) c.requires.fresh in
    let part = part_held es place c.args.many c.args.depth c.args.id next doc x c.move_run.new.chain (omega (arith, both.1, c.requires.fresh)) (subst (IsChainOf c.move_run.new.chain) new_is both.0) in
    part.held

pub returns-clause-tree : goal.returns-clause-tree
returns-clause-tree c =
    let old = c.args.chain.now in
    let es = entries_of old in
    let next = length old.slots.items in
    let doc = c.requires.held.document in
    let place = c.requires.span.0 in
    let x = spanned es place (place + c.args.many) c.args.depth c.args.id next doc c.requires.span.1 in
    let run = part_run es place c.args.many c.args.depth c.args.id next doc x in
    let after = part_after es place c.args.many c.args.depth c.args.id next doc x in
    let size = part_size es place c.args.many c.args.depth c.args.id next doc x in
    let links = subst (IsChainOf old) (part_halves es place c.args.many c.args.depth c.args.id next doc x) c.requires.held.links in
    let rest = rest_held es place c.args.many c.args.depth c.args.id next doc x c.move_run.new.part c.move_run.ensures.ids (c.move_run.ensures.part x.front run after links refl size) in
    let fits = part_fits es place c.args.many c.args.depth c.args.id next doc x (length es) (omega arith) (omega (arith, c.requires.held.links.within, old.slots.small, old.slots.ok.0, old.slots.ok.1)) in
    let both = c.move_run.ensures.chain x.front run after links refl size fits [] [] c.requires.part refl in
    let new_is = append-nil (renumbered_entries (length c.args.part.now.slots.items) (map (shifted_entry c.args.depth 0) run)) ∙ ap (λ n. renumbered_entries n (map (shifted_entry c.args.depth 0) run)) c.requires.fresh in
    let part = part_held es place c.args.many c.args.depth c.args.id next doc x c.move_run.new.chain (omega (arith, both.1, c.requires.fresh)) (subst (IsChainOf c.move_run.new.chain) new_is both.0) in
    part.forest_is

pub returns-clause-size : goal.returns-clause-size
returns-clause-size c =
    let old = c.args.chain.now in
    let es = entries_of old in
    let next = length old.slots.items in
    let doc = c.requires.held.document in
    let place = c.requires.span.0 in
    let x = spanned es place (place + c.args.many) c.args.depth c.args.id next doc c.requires.span.1 in
    let run = part_run es place c.args.many c.args.depth c.args.id next doc x in
    let after = part_after es place c.args.many c.args.depth c.args.id next doc x in
    let size = part_size es place c.args.many c.args.depth c.args.id next doc x in
    let links = subst (IsChainOf old) (part_halves es place c.args.many c.args.depth c.args.id next doc x) c.requires.held.links in
    let rest = rest_held es place c.args.many c.args.depth c.args.id next doc x c.move_run.new.part c.move_run.ensures.ids (c.move_run.ensures.part x.front run after links refl size) in
    let fits = part_fits es place c.args.many c.args.depth c.args.id next doc x (length es) (omega arith) (omega (arith, c.requires.held.links.within, old.slots.small, old.slots.ok.0, old.slots.ok.1)) in
    let both = c.move_run.ensures.chain x.front run after links refl size fits [] [] c.requires.part refl in
    let new_is = append-nil (renumbered_entries (length c.args.part.now.slots.items) (map (shifted_entry c.args.depth 0) run)) ∙ ap (λ n. renumbered_entries n (map (shifted_entry c.args.depth 0) run)) c.requires.fresh in
    let part = part_held es place c.args.many c.args.depth c.args.id next doc x c.move_run.new.chain (omega (arith, both.1, c.requires.fresh)) (subst (IsChainOf c.move_run.new.chain) new_is both.0) in
    omega (arith, both.1, c.requires.fresh, part_count es place c.args.many c.args.depth c.args.id next doc x)

pub returns-clause-spine : goal.returns-clause-spine
returns-clause-spine c =
    let old = c.args.chain.now in
    let es = entries_of old in
    let next = length old.slots.items in
    let doc = c.requires.held.document in
    let place = c.requires.span.0 in
    let x = spanned es place (place + c.args.many) c.args.depth c.args.id next doc c.requires.span.1 in
    let run = part_run es place c.args.many c.args.depth c.args.id next doc x in
    let after = part_after es place c.args.many c.args.depth c.args.id next doc x in
    let size = part_size es place c.args.many c.args.depth c.args.id next doc x in
    let links = subst (IsChainOf old) (part_halves es place c.args.many c.args.depth c.args.id next doc x) c.requires.held.links in
    let rest = rest_held es place c.args.many c.args.depth c.args.id next doc x c.move_run.new.part c.move_run.ensures.ids (c.move_run.ensures.part x.front run after links refl size) in
    λ spine s. subst (λ n. IsSpineOf (entries_of c.move_run.new.part) n spine) (sym c.move_run.ensures.ids) (rest_spine es place c.args.many c.args.depth c.args.id next doc x c.move_run.new.part rest.entries_is spine s)
