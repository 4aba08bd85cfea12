use Rattle.std.proofs.Common.{◌≡◌, ◌+◌, ◌∷◌, ◌++◌, length, reverse, refl, sym, ap, ◌∙◌, subst, arith}
use Rattle.dom_forest.specs.declared.entry.Entry.{Entry}
use Rattle.dom_forest.specs.Chain.{IsChain, IsChainOf, entries_of}
use Rattle.dom_forest.specs.Spine.{IsSpine, IsSpineOf, with_last_id}
use Rattle.dom_forest.proofs.Documents.{appended_at}
use Rattle.dom_forest.proofs.Held.{append_held, head_after, noted_spine}
use Rattle.dom_forest.proofs.edits.append_node.Goals as goal

pub returns-clause-held : goal.returns-clause-held
returns-clause-held c =
    let old = c.args.chain.now in
    let es = entries_of old in
    let next = length old.slots.items in
    let depth = c.end_of_kids-next.result.1 in
    let end = c.end_of_kids-next.ensures.end in
    let x = appended_at es next c.args.parent c.args.node end.0 depth c.requires.held.document end.1 in
    let after = end.2 ∙ head_after es next c.args.parent c.args.node end.0 depth x in
    let items : c.reserve-2.new.self.items ≡ old.slots.items = c.in_ok-reserve-2.ensures.items in
    let links = subst (λ n. IsChainOf c.put.new.chain (x.front ++ record { depth = depth; id = n; node = c.args.node } ∷ x.back)) (ap length items)
    (c.put.ensures.chain x.front x.back (subst (λ l. IsChain l old.first old.last (x.front ++ x.back)) (sym items) (subst (IsChainOf old) x.whole c.requires.held.links)) after) in
    let h = append_held es next c.args.parent c.args.node end.0 depth c.put.new.chain c.requires.held.document x (c.put.ensures.len ∙ ap (λ l. length l + 1) items) links in
    h.held

pub returns-clause-spine : goal.returns-clause-spine
returns-clause-spine c =
    let old = c.args.chain.now in
    let es = entries_of old in
    let next = length old.slots.items in
    let depth = c.end_of_kids-next.result.1 in
    let end = c.end_of_kids-next.ensures.end in
    let x = appended_at es next c.args.parent c.args.node end.0 depth c.requires.held.document end.1 in
    let after = end.2 ∙ head_after es next c.args.parent c.args.node end.0 depth x in
    let items : c.reserve-2.new.self.items ≡ old.slots.items = c.in_ok-reserve-2.ensures.items in
    let links = subst (λ n. IsChainOf c.put.new.chain (x.front ++ record { depth = depth; id = n; node = c.args.node } ∷ x.back)) (ap length items)
    (c.put.ensures.chain x.front x.back (subst (λ l. IsChain l old.first old.last (x.front ++ x.back)) (sym items) (subst (IsChainOf old) x.whole c.requires.held.links)) after) in
    let h = append_held es next c.args.parent c.args.node end.0 depth c.put.new.chain c.requires.held.document x (c.put.ensures.len ∙ ap (λ l. length l + 1) items) links in
    let row : Entry = record { depth = depth; id = next; node = c.args.node } in
    let spine = c.end_of_kids-next.new.spine.items in
    let id_is : c.len-id.result ≡ next = omega (arith, c.len-id.ensures, c.reserve-2.new.self.ok.0, ap length items) in
    let kept = noted_spine x.front x.back row next c.end_of_kids-next.result.0 spine after refl links.once (subst (λ l. IsSpine l next (reverse spine) depth) x.whole c.end_of_kids-next.ensures.spine) in
    subst (IsSpineOf (entries_of c.put.new.chain) (length c.put.new.chain.slots.items))
    (sym (c.note_last.ensures ∙ ap (λ n. with_last_id c.end_of_kids-next.result.0 n c.reserve.new.self.items) id_is ∙ ap (with_last_id c.end_of_kids-next.result.0 next) c.in_ok-reserve.ensures.items))
    (subst (λ n. IsSpineOf (entries_of c.put.new.chain) n (with_last_id c.end_of_kids-next.result.0 next spine)) (sym (c.put.ensures.len ∙ ap (λ l. length l + 1) items))
    (subst (λ l. IsSpineOf l (next + 1) (with_last_id c.end_of_kids-next.result.0 next spine)) (sym h.entries_is) kept))

pub returns-clause-forest : goal.returns-clause-forest
returns-clause-forest c =
    let old = c.args.chain.now in
    let es = entries_of old in
    let next = length old.slots.items in
    let depth = c.end_of_kids-next.result.1 in
    let end = c.end_of_kids-next.ensures.end in
    let x = appended_at es next c.args.parent c.args.node end.0 depth c.requires.held.document end.1 in
    let after = end.2 ∙ head_after es next c.args.parent c.args.node end.0 depth x in
    let items : c.reserve-2.new.self.items ≡ old.slots.items = c.in_ok-reserve-2.ensures.items in
    let links = subst (λ n. IsChainOf c.put.new.chain (x.front ++ record { depth = depth; id = n; node = c.args.node } ∷ x.back)) (ap length items)
    (c.put.ensures.chain x.front x.back (subst (λ l. IsChain l old.first old.last (x.front ++ x.back)) (sym items) (subst (IsChainOf old) x.whole c.requires.held.links)) after) in
    let h = append_held es next c.args.parent c.args.node end.0 depth c.put.new.chain c.requires.held.document x (c.put.ensures.len ∙ ap (λ l. length l + 1) items) links in
    h.forest_is
