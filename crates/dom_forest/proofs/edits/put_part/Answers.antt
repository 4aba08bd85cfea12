use Rattle.std.proofs.Common.{◌≡◌, ◌+◌, [], None, length, refl, sym, ap, ◌∙◌, subst, arith}
use Rattle.std.proofs.lemmas.List.{append-nil, length-append}
use Rattle.dom_forest.specs.Chain.{IsChainOf, entries_of, head_id}
use Rattle.dom_forest.specs.Flat.{forest_of}
use Rattle.dom_forest.proofs.Held.{put_after, put_fits, put_held, put_spine}
use Rattle.dom_forest.proofs.Flattening.{length-flat}
use Rattle.dom_forest.proofs.Parts.{spanned}
use Rattle.dom_forest.proofs.edits.put_part.Goals as goal

pub returns-clause-held : goal.returns-clause-held
returns-clause-held c =
    let old = c.args.chain.now in
    let es = entries_of old in
    let next = length old.slots.items in
    let doc = c.requires.held.document in
    let size = c.requires.span.0 in
    let place = c.requires.span.1.0 in
    let x = spanned es place (place + size) c.args.depth c.args.id next doc c.requires.span.1.1 in
    let part = c.args.part.now in
    let its = c.requires.part.document.whole in
    let run = entries_of part in
    let fits = put_fits es place size c.args.depth c.args.id next doc x run its
    (omega (arith, x.deep, x.place, ap length x.whole, length-append x.front (put_after es place size c.args.depth c.args.id next doc x run its), c.requires.held.links.within, c.requires.many, c.requires.room, old.slots.small, old.slots.ok.0, old.slots.ok.1)) in
    let both = c.move_run.ensures.chain [] run [] (subst (IsChainOf part) (sym (append-nil run)) c.requires.part.links)
    (c.requires.part.links.head ∙ ap (λ l. head_id l None) (sym (append-nil run))) (sym c.requires.many) fits
    x.front (put_after es place size c.args.depth c.args.id next doc x run its) (subst (IsChainOf old) x.whole c.requires.held.links) refl in
    let longer : length c.move_run.new.chain.slots.items ≡ next + length run = omega (arith, both.1, c.requires.many) in
    let held = put_held es place size c.args.depth c.args.id next doc x run its c.move_run.new.chain longer both.0 in
    held.held

pub returns-clause-forest : goal.returns-clause-forest
returns-clause-forest c =
    let old = c.args.chain.now in
    let es = entries_of old in
    let next = length old.slots.items in
    let doc = c.requires.held.document in
    let size = c.requires.span.0 in
    let place = c.requires.span.1.0 in
    let x = spanned es place (place + size) c.args.depth c.args.id next doc c.requires.span.1.1 in
    let part = c.args.part.now in
    let its = c.requires.part.document.whole in
    let run = entries_of part in
    let fits = put_fits es place size c.args.depth c.args.id next doc x run its
    (omega (arith, x.deep, x.place, ap length x.whole, length-append x.front (put_after es place size c.args.depth c.args.id next doc x run its), c.requires.held.links.within, c.requires.many, c.requires.room, old.slots.small, old.slots.ok.0, old.slots.ok.1)) in
    let both = c.move_run.ensures.chain [] run [] (subst (IsChainOf part) (sym (append-nil run)) c.requires.part.links)
    (c.requires.part.links.head ∙ ap (λ l. head_id l None) (sym (append-nil run))) (sym c.requires.many) fits
    x.front (put_after es place size c.args.depth c.args.id next doc x run its) (subst (IsChainOf old) x.whole c.requires.held.links) refl in
    let longer : length c.move_run.new.chain.slots.items ≡ next + length run = omega (arith, both.1, c.requires.many) in
    let held = put_held es place size c.args.depth c.args.id next doc x run its c.move_run.new.chain longer both.0 in
    held.forest_is

pub returns-clause-next : goal.returns-clause-next
returns-clause-next c =
    let old = c.args.chain.now in
    let es = entries_of old in
    let next = length old.slots.items in
    let doc = c.requires.held.document in
    let size = c.requires.span.0 in
    let place = c.requires.span.1.0 in
    let x = spanned es place (place + size) c.args.depth c.args.id next doc c.requires.span.1.1 in
    let part = c.args.part.now in
    let its = c.requires.part.document.whole in
    let run = entries_of part in
    let fits = put_fits es place size c.args.depth c.args.id next doc x run its
    (omega (arith, x.deep, x.place, ap length x.whole, length-append x.front (put_after es place size c.args.depth c.args.id next doc x run its), c.requires.held.links.within, c.requires.many, c.requires.room, old.slots.small, old.slots.ok.0, old.slots.ok.1)) in
    let both = c.move_run.ensures.chain [] run [] (subst (IsChainOf part) (sym (append-nil run)) c.requires.part.links)
    (c.requires.part.links.head ∙ ap (λ l. head_id l None) (sym (append-nil run))) (sym c.requires.many) fits
    x.front (put_after es place size c.args.depth c.args.id next doc x run its) (subst (IsChainOf old) x.whole c.requires.held.links) refl in
    let longer : length c.move_run.new.chain.slots.items ≡ next + length run = omega (arith, both.1, c.requires.many) in
    let held = put_held es place size c.args.depth c.args.id next doc x run its c.move_run.new.chain longer both.0 in
    omega (arith, longer, ap length its, length-flat 0 (forest_of run) [])

pub returns-clause-spine : goal.returns-clause-spine
returns-clause-spine c =
    let old = c.args.chain.now in
    let es = entries_of old in
    let next = length old.slots.items in
    let doc = c.requires.held.document in
    let size = c.requires.span.0 in
    let place = c.requires.span.1.0 in
    let x = spanned es place (place + size) c.args.depth c.args.id next doc c.requires.span.1.1 in
    let part = c.args.part.now in
    let its = c.requires.part.document.whole in
    let run = entries_of part in
    let fits = put_fits es place size c.args.depth c.args.id next doc x run its
    (omega (arith, x.deep, x.place, ap length x.whole, length-append x.front (put_after es place size c.args.depth c.args.id next doc x run its), c.requires.held.links.within, c.requires.many, c.requires.room, old.slots.small, old.slots.ok.0, old.slots.ok.1)) in
    let both = c.move_run.ensures.chain [] run [] (subst (IsChainOf part) (sym (append-nil run)) c.requires.part.links)
    (c.requires.part.links.head ∙ ap (λ l. head_id l None) (sym (append-nil run))) (sym c.requires.many) fits
    x.front (put_after es place size c.args.depth c.args.id next doc x run its) (subst (IsChainOf old) x.whole c.requires.held.links) refl in
    let longer : length c.move_run.new.chain.slots.items ≡ next + length run = omega (arith, both.1, c.requires.many) in
    let held = put_held es place size c.args.depth c.args.id next doc x run its c.move_run.new.chain longer both.0 in
    λ spine s. put_spine es place size c.args.depth c.args.id next doc x run its c.move_run.new.chain longer held.entries_is spine s
