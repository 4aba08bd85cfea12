use Rattle.std.proofs.Common.{◌++◌, ◌∷◌, reverse, sym, ap, ◌∙◌, append_assoc, true}
use Rattle.dom_forest.specs.Documents.{levels_of}
use Rattle.dom_forest.specs.OpenElements.{bytes_to_end}
use Rattle.dom_forest.specs.Printing.{text_bytes}
use Rattle.dom_forest.proofs.OpenElements.{bytes_to_end-text}
use Rattle.dom_forest.proofs.printing.print_part.Goals as goal

pub returns-in_ok-push_text-in-Text-clause-bytes : goal.returns-in_ok-push_text-in-Text-clause-bytes
returns-in_ok-push_text-in-Text-clause-bytes c =
    let es = reverse c.args.unfinished.now.items in
    ap (λ bytes. bytes ++ bytes_to_end true es (levels_of c.args.later.now)) c.in_ok-push_text-in-Text.ensures
    ∙ append_assoc c.args.out.now.items (text_bytes c.args.after_text c.in-Text.text) (bytes_to_end true es (levels_of c.args.later.now))
    ∙ ap (λ bytes. c.args.out.now.items ++ bytes)
    (sym (bytes_to_end-text c.args.after_text es c.in-Text.text c.args.later.now)
    ∙ ap (λ part. bytes_to_end c.args.after_text es (levels_of (part ∷ c.args.later.now))) (sym c.in-Text.is))
