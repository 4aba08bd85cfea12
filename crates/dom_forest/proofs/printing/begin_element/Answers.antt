use Rattle.std.proofs.Common.{◌≡◌, ◌++◌, ◌∷◌, List, ℕ, arith, refl, codes, true, false, reverse, sym, ap, ◌∙◌}
use Rattle.std.proofs.lemmas.Grind.{common_steps}
use Rattle.html_names.specs.Printing.{tag_prefix}
use Rattle.dom_forest.specs.Documents.{levels_of}
use Rattle.dom_forest.specs.OpenElements.{bytes_to_end}
use Rattle.dom_forest.specs.Printing.{is_void}
use Rattle.dom_forest.specs.declared.printing.Open.{Open}
use Rattle.dom_forest.proofs.OpenElements.{open_element, reverse_push, void_element}
use Rattle.dom_forest.proofs.printing.begin_element.Goals as goal

pub returns-then-is_void_name-clause-bytes : goal.returns-then-is_void_name-clause-bytes
returns-then-is_void_name-clause-bytes c = λ after_text.
    let void : is_void c.args.name.now ≡ true = sym c.is_void_name.ensures ∙ c.if-is_void_name.true in
    let rest : List ℕ = bytes_to_end false (reverse c.args.unfinished.now.items) (levels_of c.after_element.result.now) in
    let written : c.extend_from_slice.new.self.items ≡ (c.args.out.now.items ++ tag_prefix c.args.name.now c.args.attributes.now) ++ codes "/>" = grind (arith, common_steps) in
    ap (λ bytes. bytes ++ rest) written
    ∙ void_element c.args.out.now.items after_text (reverse c.args.unfinished.now.items) c.args.name.now c.args.attributes.now c.args.later.now c.after_element.result.now void c.after_element.ensures.levels

pub returns-clause-bytes : goal.returns-clause-bytes
returns-clause-bytes c = λ after_text.
    let begun : Open = record { name = c.args.name } in
    let plain : is_void c.args.name.now ≡ false = sym c.is_void_name.ensures ∙ c.if-is_void_name.false in
    let written : c.push.new.self.items ≡ (c.args.out.now.items ++ tag_prefix c.args.name.now c.args.attributes.now) ++ codes ">" = grind (arith, common_steps) in
    let opened : reverse c.push-2.new.self.items ≡ begun ∷ reverse c.args.unfinished.now.items = ap reverse c.in_ok-push-2.ensures.items ∙ reverse_push c.args.unfinished.now.items begun in
    ap (λ bytes. bytes ++ bytes_to_end false (reverse c.push-2.new.self.items) (levels_of c.args.later.now)) written
    ∙ ap (λ es. ((c.args.out.now.items ++ tag_prefix c.args.name.now c.args.attributes.now) ++ codes ">") ++ bytes_to_end false es (levels_of c.args.later.now)) opened
    ∙ open_element c.args.out.now.items after_text (reverse c.args.unfinished.now.items) begun c.args.name.now c.args.attributes.now c.args.later.now plain refl
