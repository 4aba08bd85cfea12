use Rattle.std.proofs.Common.{◌∙◌, ap, map}
use Rattle.std.specs.List.{flat_map}
use Rattle.jsx_check.specs.Events.{component_events}
use Rattle.jsx_check.specs.SeenEvents.{event_of}
use Rattle.jsx_check.proofs.WalkLemmas.{decided}
use Rattle.jsx_check.proofs.walk.first_broken.Goals as goal

pub returns : goal.returns
returns c =
    decided c.args.file.now _ c.as_slice.result.now c.found_in.result
    (c.in_ok-components.ensures ∙ c.as_slice-list.ensures)
    (ap (map event_of) c.as_slice.ensures.value ∙ (c.in_ok-events.ensures ∙ ap (flat_map component_events) c.as_slice-list.ensures))
    c.found_in.ensures
