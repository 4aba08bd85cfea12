use Rattle.std.proofs.Common.{◌≡◌, List, ◌++◌, map, sym, ◌∙◌, ap, refl}
use Rattle.std.specs.List.{flat_map}
use Rattle.jsx_syntax.specs.Rules.{names_of}
use Rattle.jsx_syntax.specs.declared.name.Name.{Name}
use Rattle.jsx_check.specs.Events.{uses}
use Rattle.jsx_check.specs.SeenEvents.{event_of}
use Rattle.jsx_check.proofs.NamesLemmas.{on_ok, pushed_both, names_of-Sum, names_of-And, names_of-Or, names_of-Equal, names_of-Choose}
use Rattle.jsx_check.proofs.event.+names.Goals as goal

pub push_names-returns-in-Sum : goal.push_names-returns-in-Sum
push_names-returns-in-Sum t c =
    let same : flat_map names_of c.as_slice.result.now ≡ names_of c.args.expr.now =
    ap (flat_map names_of) c.as_slice.ensures ∙ (names_of-Sum c.in-Sum.operands ∙ ap names_of (sym c.in-Sum.is)) in
    on_ok c.push_all_names.result (λ e. e ∙ ap (λ (ns : List Name). map event_of c.args.out.now.items ++ map uses ns) same) c.push_all_names.ensures

pub push_names-returns-in-And : goal.push_names-returns-in-And
push_names-returns-in-And t c =
    let same : flat_map names_of c.as_slice-in-And.result.now ≡ names_of c.args.expr.now =
    ap (flat_map names_of) c.as_slice-in-And.ensures ∙ (names_of-And c.in-And.operands ∙ ap names_of (sym c.in-And.is)) in
    on_ok c.push_all_names-in-And.result (λ e. e ∙ ap (λ (ns : List Name). map event_of c.args.out.now.items ++ map uses ns) same) c.push_all_names-in-And.ensures

pub push_names-returns-in-Or : goal.push_names-returns-in-Or
push_names-returns-in-Or t c =
    let same : flat_map names_of c.as_slice-in-Or.result.now ≡ names_of c.args.expr.now =
    ap (flat_map names_of) c.as_slice-in-Or.ensures ∙ (names_of-Or c.in-Or.operands ∙ ap names_of (sym c.in-Or.is)) in
    on_ok c.push_all_names-in-Or.result (λ e. e ∙ ap (λ (ns : List Name). map event_of c.args.out.now.items ++ map uses ns) same) c.push_all_names-in-Or.ensures

pub push_names-returns-in_ok-push_names-in-Equal : goal.push_names-returns-in_ok-push_names-in-Equal
push_names-returns-in_ok-push_names-in-Equal t c =
    let left : List Name = names_of c.get-in-Equal.result.now in
    let right : List Name = names_of c.get-in-Equal-2.result.now in
    let all : left ++ right ≡ names_of c.args.expr.now =
    ap (λ x. names_of x ++ right) c.get-in-Equal.ensures ∙ (ap (λ x. names_of c.in-Equal.left ++ names_of x) c.get-in-Equal-2.ensures ∙ (names_of-Equal c.in-Equal.left c.in-Equal.right c.in-Equal.negated ∙ ap names_of (sym c.in-Equal.is))) in
    on_ok c.push_names-in-Equal-2.result
    (pushed_both (map event_of c.args.out.now.items) (map event_of c.push_names-in-Equal.new.out.items) (map event_of c.push_names-in-Equal-2.new.out.items)
    left right (names_of c.args.expr.now) c.in_ok-push_names-in-Equal.ensures all)
    c.push_names-in-Equal-2.ensures

pub push_names-returns-in_ok-push_names-in-Choose-2 : goal.push_names-returns-in_ok-push_names-in-Choose-2
push_names-returns-in_ok-push_names-in-Choose-2 t c =
    let test : List Name = names_of c.get-in-Choose.result.now in
    let one : List Name = names_of c.get-in-Choose-2.result.now in
    let other : List Name = names_of c.get-in-Choose-3.result.now in
    let all : test ++ (one ++ other) ≡ names_of c.args.expr.now =
    ap (λ x. names_of x ++ (one ++ other)) c.get-in-Choose.ensures
    ∙ (ap (λ x. names_of c.in-Choose.test ++ (names_of x ++ other)) c.get-in-Choose-2.ensures
    ∙ (ap (λ x. names_of c.in-Choose.test ++ (names_of c.in-Choose.yes ++ names_of x)) c.get-in-Choose-3.ensures ∙ (names_of-Choose c.in-Choose.test c.in-Choose.yes c.in-Choose.no ∙ ap names_of (sym c.in-Choose.is)))) in
    on_ok c.push_names-in-Choose-3.result (λ e.
    pushed_both (map event_of c.args.out.now.items) (map event_of c.push_names-in-Choose.new.out.items) (map event_of c.push_names-in-Choose-3.new.out.items)
    test (one ++ other) (names_of c.args.expr.now) c.in_ok-push_names-in-Choose.ensures all
    (pushed_both (map event_of c.push_names-in-Choose.new.out.items) (map event_of c.push_names-in-Choose-2.new.out.items) (map event_of c.push_names-in-Choose-3.new.out.items)
    one other (one ++ other) c.in_ok-push_names-in-Choose-2.ensures refl e))
    c.push_names-in-Choose-3.ensures
