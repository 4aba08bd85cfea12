-- Where each component calls only those before it, an expansion unfolds.
use Rattle.std.proofs.Common.{◌≡◌, ℕ, Bool, true, false, not, ◌&&◌, ◌||◌, if◌then◌else◌, inl, inr, Option, Some, None, List, [], ◌∷◌, refl, sym, ap, ◌∙◌, codes}
use Rattle.std.proofs.Math.Path.{fun_ext}
use Rattle.std.proofs.lemmas.Bool.{and_parts, cases_Bool, or_parts, or_right}
use Rattle.std.proofs.lemmas.Slice.Eq.{bytes_eq-Decides}
use Rattle.std.specs.Str.{bytes_eq}
use Rattle.settle_script.specs.declared.outcome.Outcome.{Outcome}
use Rattle.settle_script.specs.declared.outcome.Outcome.TheVariants.{Resolved, Rejected}
use Rattle.settle_script.specs.declared.value.Value.{Value}
use Rattle.jsx_syntax.specs.declared.file.Component.{Component}
use Rattle.jsx_syntax.specs.declared.file.Stmt.{Stmt}
use Rattle.jsx_syntax.specs.declared.file.Stmt.TheVariants.{Fetch, Bind, Throw}
use Rattle.jsx_syntax.specs.Rules.{has_name}
use Rattle.jsx_value.specs.declared.shape.Shape.TheVariants as s
use Rattle.jsx_value.specs.declared.shape.Tree.{Tree, roll-Tree}
use Rattle.jsx_value.specs.Values.{is_true, text_of}
use Rattle.jsx_value.specs.Expressions.{Names, value_of, with_name}
use Rattle.jsx_value.specs.Positions.{Calls, Kept, Opened, Page, Place, Standing, root, one_node, many_nodes, one_value, call_of, called, calls_of, fetch, frame_of, open_node, open_standing, opened, places, run, trees}
use Rattle.jsx_value.specs.Expansions.{IsUnfolded, calls_only, is_ordered, names_of}
use Rattle.jsx_value.proofs.LayersLemmas.{children-opens, value-opens}
use Rattle.jsx_value.proofs.AgreeLemmas.{Tables, node-agrees}
use Rattle.jsx_value.proofs.GrowLemmas.{Growing, grown, node-grows, children-grow, value-grows}

-- Statements
fetch_grows : (prefix : List ℕ) (calls : Calls Tree) (resource : List ℕ) (outcome : Option Outcome) (go : Value → Opened Tree) (to : Value → Opened Place)
    → ((x : Value) → go x ≡ grown prefix calls (to x)) → fetch resource outcome go ≡ grown prefix calls (fetch resource outcome to)
fetch_grows prefix calls resource None go to same = refl
fetch_grows prefix calls resource (Some (Resolved value)) go to same = same value
fetch_grows prefix calls resource (Some (Rejected digest)) go to same = refl

throw_grows : (prefix : List ℕ) (calls : Calls Tree) (b : Bool) (digest : List ℕ) (go : Opened Tree) (to : Opened Place) → go ≡ grown prefix calls to
    → (if b then opened (s.Fail digest) else go) ≡ grown prefix calls (if b then opened (s.Fail digest) else to)
throw_grows prefix calls true digest go to same = refl
throw_grows prefix calls false digest go to same = same

run_grows : (prefix : List ℕ) (calls : Calls Tree) (known : List ℕ → Option Outcome) (stmts : List Stmt) (go : Names → Opened Tree) (to : Names → Opened Place)
    → ((scope : Names) → go scope ≡ grown prefix calls (to scope)) → (scope : Names) → run known stmts go scope ≡ grown prefix calls (run known stmts to scope)
run_grows prefix calls known [] go to same scope = same scope
run_grows prefix calls known (Fetch name resource ∷ stmts) go to same scope =
    fetch_grows prefix calls (text_of (value_of resource scope)) (known (text_of (value_of resource scope)))
    (λ x. run known stmts go (with_name name x scope)) (λ x. run known stmts to (with_name name x scope))
    (λ x. run_grows prefix calls known stmts go to same (with_name name x scope))
run_grows prefix calls known (Bind name expr ∷ stmts) go to same scope =
    run_grows prefix calls known stmts go to same (with_name name (value_of expr scope) scope)
run_grows prefix calls known (Throw test digest ∷ stmts) go to same scope =
    throw_grows prefix calls (is_true (value_of test scope)) (text_of (value_of digest scope)) (run known stmts go scope) (run known stmts to scope)
    (run_grows prefix calls known stmts go to same scope)

-- What the components of a page open calls to.
abbrev tree_calls : Page → List Component → Calls Tree
tree_calls page components = calls_of trees page.known page.prefix components

abbrev place_calls : Page → List Component → Calls Place
place_calls page components = calls_of places page.known page.prefix components

-- the names of these components are called alike in the whole page
abbrev Same : Page → List Component → Type 0
Same page before = (name : List ℕ) → has_name name (names_of before) ≡ true → tree_calls page page.components name ≡ tree_calls page before name

abbrev AllGrow : Page → List Component → Type 0
AllGrow page before = (name : List ℕ) (args : Names) → has_name name (names_of before) ≡ true
    → tree_calls page page.components name args ≡ grown page.prefix (tree_calls page page.components) (place_calls page before name args)

true_or_false : {X : Type 0} → true ≡ false → X
true_or_false {X} e = cc

-- A name that is found among names is one of them.
other_name : (names : List (List ℕ)) (name own : List ℕ) → has_name name names ≡ true → not (has_name own names) ≡ true → bytes_eq name own ≡ false
other_name names name own is fresh = elim (cases_Bool (bytes_eq name own)) [
  | inl same ↦
      let equal : name ≡ own = (bytes_eq-Decides name own).0 same in
      true_or_false (sym (ap not (sym is ∙ ap (λ n. has_name n names) equal) ∙ fresh))
  | inr differs ↦ differs
]

same_before : (page : Page) (component : Component) (before : List Component) → not (has_name component.name.text (names_of before)) ≡ true
    → Same page (component ∷ before) → Same page before
same_before page component before fresh same name is =
    same name (or_right (bytes_eq name component.name.text) (has_name name (names_of before)) is)
    ∙ fun_ext (λ args. ap (λ b. if b then call_of trees page.known page.prefix component (tree_calls page before) args else tree_calls page before name args)
    (other_name (names_of before) name component.name.text is fresh))

-- A call of the first of these components.
call_grows : (page : Page) (component : Component) (before : List Component) → Same page before → calls_only (names_of before) component.result ≡ true
    → AllGrow page before → (args : Names)
    → call_of trees page.known page.prefix component (tree_calls page before) args
    ≡ grown page.prefix (tree_calls page page.components) (call_of places page.known page.prefix component (place_calls page before) args)
call_grows page component before same calls_before grows args =
    let whole : Calls Tree = tree_calls page page.components in
    let here : Names = frame_of component.properties args in
    let tables : Tables = record {
      prefix = page.prefix;
      names = names_of before;
      first = tree_calls page before;
      second = whole;
      same = λ name is. sym (same name is);
    } in
    let growing : Growing = record {
      prefix = page.prefix;
      free = false;
      names = names_of before;
      trees_of = whole;
      places_of = place_calls page before;
      grows = λ name a is. grows name a is;
    } in
    ap (λ (go : Names → Opened Tree). called (run page.known component.stmts go here)) (node-agrees tables component.result calls_before)
    ∙ ap (λ (o : Opened Tree). called o)
    (run_grows page.prefix whole page.known component.stmts (open_node trees page.prefix whole component.result)
    (open_node places page.prefix (place_calls page before) component.result) (node-grows growing component.result calls_before) here)

all_grow : (page : Page) (before : List Component) → is_ordered before ≡ true → Same page before → AllGrow page before
all_grow page [] ordered same name args is = true_or_false (sym is)
all_grow page (component ∷ before) ordered same name args is =
    let parts = and_parts (calls_only (names_of before) component.result && not (has_name component.name.text (names_of before))) (is_ordered before) ordered in
    let own = and_parts (calls_only (names_of before) component.result) (not (has_name component.name.text (names_of before))) parts.0 in
    let earlier : Same page before = same_before page component before own.1 same in
    let below : AllGrow page before = all_grow page before parts.1 earlier in
    let whole : Calls Tree = tree_calls page page.components in
    ap (λ (f : Names → Opened Tree). f args) (same name is)
    ∙ elim (cases_Bool (bytes_eq name component.name.text)) as (λ _. tree_calls page (component ∷ before) name args ≡ grown page.prefix whole (place_calls page (component ∷ before) name args)) [
      | inl here ↦
          ap (λ b. if b then call_of trees page.known page.prefix component (tree_calls page before) args else tree_calls page before name args) here
          ∙ call_grows page component before earlier own.0 below args
          ∙ ap (λ b. grown page.prefix whole (if b then call_of places page.known page.prefix component (place_calls page before) args else place_calls page before name args)) (sym here)
      | inr there ↦
          let later : has_name name (names_of before) ≡ true = ap (λ b. b || has_name name (names_of before)) (sym there) ∙ is in
          ap (λ b. if b then call_of trees page.known page.prefix component (tree_calls page before) args else tree_calls page before name args) there
          ∙ sym (ap (λ (f : Names → Opened Tree). f args) (earlier name later)) ∙ below name args later
          ∙ ap (λ b. grown page.prefix whole (if b then call_of places page.known page.prefix component (place_calls page before) args else place_calls page before name args)) (sym there)
    ]

-- Another name than all opens nothing.
no_call : {K : Type 0} (kept : Kept K) (page : Page) (components : List Component) (name : List ℕ) (args : Names) → has_name name (names_of components) ≡ false
    → calls_of kept page.known page.prefix components name args ≡ opened s.Nothing
no_call kept page [] name args is = refl
no_call kept page (component ∷ before) name args is =
    let parts = or_parts (bytes_eq name component.name.text) (has_name name (names_of before)) is in
    ap (λ b. if b then call_of kept page.known page.prefix component (calls_of kept page.known page.prefix before) args else calls_of kept page.known page.prefix before name args) parts.0
    ∙ no_call kept page before name args parts.1

whole_grows : (page : Page) → is_ordered page.components ≡ true → (name : List ℕ) (args : Names)
    → tree_calls page page.components name args ≡ grown page.prefix (tree_calls page page.components) (place_calls page page.components name args)
whole_grows page ordered name args = elim (cases_Bool (has_name name (names_of page.components))) [
  | inl is ↦ all_grow page page.components ordered (λ other there. refl) name args is
  | inr none ↦
      no_call trees page page.components name args none
      ∙ ap (grown page.prefix (tree_calls page page.components)) (sym (no_call places page page.components name args none))
]

abbrev growing_whole : (page : Page) → is_ordered page.components ≡ true → Growing
growing_whole page ordered = record {
  prefix = page.prefix;
  free = true;
  names = [];
  trees_of = tree_calls page page.components;
  places_of = place_calls page page.components;
  grows = λ name args is. whole_grows page ordered name args;
}

standing_grows : (page : Page) → is_ordered page.components ≡ true → (stands : Standing) (scope : Names)
    → open_standing trees page.prefix (tree_calls page page.components) stands scope
    ≡ grown page.prefix (tree_calls page page.components) (open_standing places page.prefix (place_calls page page.components) stands scope)
standing_grows page ordered root scope = whole_grows page ordered (codes "App") []
standing_grows page ordered (one_node x) scope = node-grows (growing_whole page ordered) x refl scope
standing_grows page ordered (many_nodes xs) scope =
    children-grow (growing_whole page ordered) refl xs scope
    ∙ ap (grown page.prefix (tree_calls page page.components)) (sym (children-opens page.prefix (place_calls page page.components) xs scope))
standing_grows page ordered (one_value x) scope =
    value-grows page.prefix (tree_calls page page.components) x
    ∙ ap (grown page.prefix (tree_calls page page.components)) (sym (value-opens x))

pub unfolded : (page : Page) → is_ordered page.components ≡ true → IsUnfolded page
unfolded page ordered place = ap (λ (o : Opened Tree). roll-Tree o) (standing_grows page ordered place.stands place.scope)
