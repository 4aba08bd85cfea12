-- The walk over events.
use Rattle.std.proofs.Common.{◌≡◌, List, map, Option, Result, Ok, Err, sym, ◌∙◌, ap, subst}
use Rattle.std.specs.Prelude.{IfOk}
use Rattle.jsx_syntax.specs.declared.file.Component.{Component}
use Rattle.jsx_syntax.specs.declared.file.File.{File}
use Rattle.jsx_check.specs.Events.{after_events, file_events, walk_start}
use Rattle.jsx_check.specs.Firsts.{Decides}
use Rattle.jsx_check.specs.SeenEvents.{event_of, found_after}
use Rattle.jsx_check.specs.declared.event.Event.{Event as Seen}
use Rattle.jsx_check.specs.declared.found.Found.{Found}
use Rattle.jsx_check.proofs.FileEventsLemmas.{walk_decides}

-- What the walk over a file's events finds decides.
pub decided : {E : Type 0} (file : File) (components : List Component) (events : List Seen) (r : Result (Option Found) E)
    → components ≡ file.components → map event_of events ≡ file_events file
    → IfOk r (λ found. found ≡ found_after components events) → IfOk r (Decides file)
decided file components events (Ok found) same is e =
    subst (Decides file)
    (sym (e
    ∙ (ap (λ (cs : List Component). found_after cs events) same
    ∙ ap (λ es. (after_events file.components walk_start es).found) is)))
    (walk_decides file)
decided file components events (Err e) same is h = h
