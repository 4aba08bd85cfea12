use Rattle.std.proofs.Common.{◌≡◌, ◌++◌, map, drop}
use Rattle.std.specs.List.{flat_map}
use Rattle.jsx_syntax.specs.Rules.{names_of}
use Rattle.jsx_check.specs.Events.{uses}
use Rattle.jsx_check.specs.SeenEvents.{event_of}
use Rattle.jsx_check.proofs.event.+names.Given as goal

-- what is left gives the result
abbrev pub invariant-push_all_names-loop-expr : goal.invariant-push_all_names-loop-expr
invariant-push_all_names-loop-expr l =
    map event_of l.out.items ++ map uses (flat_map names_of (drop l.expr-index l.exprs))
    ≡ map event_of l.fn.out.items ++ map uses (flat_map names_of l.exprs)
