use Rattle.std.proofs.Common.{List, ◌∙◌, sym, ap}
use Rattle.std.specs.Option.{option_copied}
use Rattle.jsx_syntax.specs.Rules.{properties_of}
use Rattle.jsx_syntax.specs.declared.file.Component.{Component}
use Rattle.jsx_check.specs.SeenNames.{value_at}
use Rattle.jsx_check.proofs.ComponentsLemmas.{property_found, seen}
use Rattle.jsx_check.proofs.components.Components.has_property.Goals as goal

pub returns-in-Some : goal.returns-in-Some
returns-in-Some c =
    c.has.ensures ∙ property_found c.args.property.now (properties_of c.args.name.now c.args.self.now) c.in-Some.names.now
    (ap (λ (cs : List Component). seen (properties_of c.args.name.now cs)) (sym c.self.view_is)
    ∙ (sym (c.self.invariant c.args.name.now)
    ∙ (ap (value_at c.self.inside.properties) (sym c.as_str.ensures.value)
    ∙ (sym c.get.ensures.value ∙ ap option_copied c.in-Some.is))))
