-- Views of joined siblings, of pages and of documents.
use Rattle.std.proofs.Common.{◌≡◌, ℕ, ◌+◌, ◌-◌, ◌==◌, not, ◌&&◌, ◌||◌, Bool, true, false, if◌then◌else◌, Some, None, List, [], ◌∷◌, length, refl, sym, ap, ◌∙◌, arith, codes}
use Rattle.std.specs.List.{list_any}
use Rattle.std.specs.Str.{bytes_eq}
use Rattle.std.proofs.lemmas.Bool.{cond-true, cond-false, eqb-true}
use Rattle.std.proofs.lemmas.Slice.Eq.{bytes_eq-Decides}
use Rattle.fizz_text.specs.declared.attribute.Attr.{Attr}
use Rattle.dom_forest.specs.Boundary.{closing_mark}
use Rattle.dom_forest.specs.Forest.{Forest, empty, tree, joined_forests}
use Rattle.dom_forest.specs.declared.node.Mark.{Mark}
use Rattle.dom_forest.specs.declared.node.Mark.TheVariants.{Complete, Pending, Client, End, Space}
use Rattle.dom_forest.specs.declared.node.NewNode.{NewNode}
use Rattle.dom_forest.specs.declared.node.NewNode.TheVariants.{Element, Text, Comment}
use Rattle.document_machine.specs.declared.status.BoundaryStatus.{BoundaryStatus}
use Rattle.document_machine.specs.declared.status.BoundaryStatus.TheVariants as status
use Rattle.document_machine.specs.Views as view
use Rattle.document_machine.specs.Views.{View, Levels, digest_after, digest_in, levels_at_end, joined_views, has_name, is_container, is_left_out, is_segment_id, joined_levels, levels_of, levels_at_mark, levels_at_boundary, siblings_of, view_of, with_first}
use Rattle.page_laws.specs.Nodes.{nodes_of}
use Rattle.page_laws.specs.Balance.{IsBalanced, closes_all}
use Rattle.page_laws.specs.PageViews.{EndsAt, Begins, completes, waits, fails, siblings_view}
use Rattle.page_laws.proofs.PagesLemmas.{both_true, not_zero, closing_mark-past}

pub joined_views-end : (v : View) → joined_views v view.end ≡ v
joined_views-end view.end = refl
joined_views-end (view.text t l) = ap (view.text t) (joined_views-end l)
joined_views-end (view.element n attrs k l) = ap (view.element n attrs k) (joined_views-end l)
joined_views-end (view.boundary s d k l) = ap (view.boundary s d k) (joined_views-end l)

pub joined_views-assoc : (a b c : View) → joined_views (joined_views a b) c ≡ joined_views a (joined_views b c)
joined_views-assoc view.end b c = refl
joined_views-assoc (view.text t l) b c = ap (view.text t) (joined_views-assoc l b c)
joined_views-assoc (view.element n attrs k l) b c = ap (view.element n attrs k) (joined_views-assoc l b c)
joined_views-assoc (view.boundary s d k l) b c = ap (view.boundary s d k) (joined_views-assoc l b c)

pub joined_levels-joined_views : (v first : View) (rest : List View) → joined_levels (joined_views v first) rest ≡ joined_views v (joined_levels first rest)
joined_levels-joined_views v first [] = refl
joined_levels-joined_views v first (next ∷ rest) = joined_views-assoc v first (joined_levels next rest)

-- Levels before others: the last ones go on.
abbrev glued : View → List View → Levels → Levels
glued first [] after = record { first = joined_views first after.first; rest = after.rest }
glued first (next ∷ rest) after = let later = glued next rest after in record { first = first; rest = later.first ∷ later.rest }

-- What a view has of siblings that end `n` boundaries more than they begin.
record Glues (prefix : List ℕ) (at_top : Bool) (n : ℕ) (a b : Forest) : Type 0 where
  size : length (levels_of prefix at_top a).rest ≡ n
  is : levels_of prefix at_top (joined_forests a b) ≡ glued (levels_of prefix at_top a).first (levels_of prefix at_top a).rest (levels_of prefix at_top b)

first_glued : (f : View → View) → ((v after : View) → f (joined_views v after) ≡ joined_views (f v) after) → (first : View) (rest : List View) (after : Levels)
    → with_first f (glued first rest after) ≡ glued (f first) rest after
first_glued f h first [] after = ap (λ v. record { first = v; rest = after.rest }) (h first after.first)
first_glued f h first (next ∷ rest) after = refl

glue_first : (prefix : List ℕ) (at_top : Bool) (n : ℕ) (a b : Forest) (f : View → View) (whole all : Forest) → ((v after : View) → f (joined_views v after) ≡ joined_views (f v) after)
    → levels_of prefix at_top whole ≡ with_first f (levels_of prefix at_top a) → levels_of prefix at_top all ≡ with_first f (levels_of prefix at_top (joined_forests a b)) → all ≡ joined_forests whole b
    → Glues prefix at_top n a b → Glues prefix at_top n whole b
glue_first prefix at_top n a b f whole all h whole_is all_is same g =
    let la : Levels = levels_of prefix at_top a in
    let lb : Levels = levels_of prefix at_top b in
    record {
      size = ap (λ (l : Levels). length l.rest) whole_is ∙ g.size;
      is = ap (levels_of prefix at_top) (sym same) ∙ all_is ∙ ap (with_first f) g.is ∙ first_glued f h la.first la.rest lb
          ∙ ap (λ (l : Levels). glued l.first l.rest lb) (sym whole_is);
    }

opened_glued : (s : BoundaryStatus) (d : List ℕ) (first next : View) (rest : List View) (after : Levels)
    → levels_at_boundary s d (glued first (next ∷ rest) after).first (glued first (next ∷ rest) after).rest
    ≡ glued (levels_at_boundary s d first (next ∷ rest)).first (levels_at_boundary s d first (next ∷ rest)).rest after
opened_glued s d first next [] after = refl
opened_glued s d first next (other ∷ rest) after = refl

opened_size : (s : BoundaryStatus) (d : List ℕ) (first : View) (rest : List View) (n : ℕ) → length rest ≡ n + 1 → length (levels_at_boundary s d first rest).rest ≡ n
opened_size s d first [] n e = absurd (omega arith)
opened_size s d first (next ∷ rest) n e = omega arith

opened_any : (s : BoundaryStatus) (d : List ℕ) (first : View) (rest : List View) (n : ℕ) (after : Levels) → length rest ≡ n + 1
    → levels_at_boundary s d (glued first rest after).first (glued first rest after).rest ≡ glued (levels_at_boundary s d first rest).first (levels_at_boundary s d first rest).rest after
opened_any s d first [] n after e = absurd (omega arith)
opened_any s d first (next ∷ rest) n after e = opened_glued s d first next rest after

glue_opened : (prefix : List ℕ) (at_top : Bool) (n : ℕ) (s : BoundaryStatus) (d d' : List ℕ) (a b whole all : Forest) → d' ≡ d
    → levels_of prefix at_top whole ≡ levels_at_boundary s d (levels_of prefix at_top a).first (levels_of prefix at_top a).rest
    → levels_of prefix at_top all ≡ levels_at_boundary s d' (levels_of prefix at_top (joined_forests a b)).first (levels_of prefix at_top (joined_forests a b)).rest → all ≡ joined_forests whole b
    → Glues prefix at_top (n + 1) a b → Glues prefix at_top n whole b
glue_opened prefix at_top n s d d' a b whole all d_is whole_is all_is same g =
    let la : Levels = levels_of prefix at_top a in
    let lb : Levels = levels_of prefix at_top b in
    record {
      size = ap (λ (l : Levels). length l.rest) whole_is ∙ opened_size s d la.first la.rest n g.size;
      is = ap (levels_of prefix at_top) (sym same) ∙ all_is ∙ ap (λ x. levels_at_boundary s x (levels_of prefix at_top (joined_forests a b)).first (levels_of prefix at_top (joined_forests a b)).rest) d_is
          ∙ ap (λ (l : Levels). levels_at_boundary s d l.first l.rest) g.is ∙ opened_any s d la.first la.rest n lb g.size
          ∙ ap (λ (l : Levels). glued l.first l.rest lb) (sym whole_is);
    }

digest_joined : (a b : Forest) (n : ℕ) → closes_all (nodes_of a) (n + 1) ≡ true → digest_after (joined_forests a b) ≡ digest_after a
digest_joined empty b n e = absurd (let z : n + 1 ≡ 0 = eqb-true (n + 1) 0 e in omega arith)
digest_joined (tree i (Element name attributes) k l) b n e = refl
digest_joined (tree i (Text t) k l) b n e = refl
digest_joined (tree i (Comment m) k l) b n e = refl

glue_element : (prefix : List ℕ) (at_top : Bool) (n i : ℕ) (name : List ℕ) (attributes : List Attr) (k l b : Forest) (out : Bool) → is_left_out prefix at_top name attributes ≡ out
    → Glues prefix at_top n l b → Glues prefix at_top n (tree i (Element name attributes) k l) b
glue_element prefix at_top n i name attributes k l b true e g = record {
  size = ap (λ (x : Levels). length x.rest) (cond-true (is_left_out prefix at_top name attributes) _ _ e) ∙ g.size;
  is = cond-true (is_left_out prefix at_top name attributes) _ _ e ∙ g.is
      ∙ ap (λ (x : Levels). glued x.first x.rest (levels_of prefix at_top b)) (sym (cond-true (is_left_out prefix at_top name attributes) _ _ e));
}
glue_element prefix at_top n i name attributes k l b false e g =
    glue_first prefix at_top n l b (view.element name attributes (siblings_of (levels_of prefix false k))) (tree i (Element name attributes) k l) (tree i (Element name attributes) k (joined_forests l b)) (λ v after. refl)
    (cond-false (is_left_out prefix at_top name attributes) _ _ e) (cond-false (is_left_out prefix at_top name attributes) _ _ e) refl g

glue_end : (prefix : List ℕ) (at_top : Bool) (n i : ℕ) (k l b : Forest) → not (n == 0) && closes_all (nodes_of l) (n - 1) ≡ true
    → ((j : ℕ) → closes_all (nodes_of l) j ≡ true → Glues prefix at_top j l b) → Glues prefix at_top n (tree i (Comment End) k l) b
glue_end prefix at_top n i k l b e h =
    let both = both_true (not (n == 0)) (closes_all (nodes_of l) (n - 1)) e in
    let some = not_zero n both.0 in
    let g = h (n - 1) both.1 in
    record {
      size = omega (arith, g.size, some.1);
      is = ap levels_at_end g.is;
    }

glues : (prefix : List ℕ) (at_top : Bool) (n : ℕ) (a b : Forest) → closes_all (nodes_of a) n ≡ true → Glues prefix at_top n a b
glues prefix at_top n empty b e = record { size = sym (eqb-true n 0 e); is = refl }
glues prefix at_top n (tree i (Element name attributes) k l) b e = glue_element prefix at_top n i name attributes k l b (is_left_out prefix at_top name attributes) refl (glues prefix at_top n l b e)
glues prefix at_top n (tree i (Text t) k l) b e =
    glue_first prefix at_top n l b (view.text t) (tree i (Text t) k l) (tree i (Text t) k (joined_forests l b)) (λ v after. refl) refl refl refl (glues prefix at_top n l b e)
glues prefix at_top n (tree i (Comment Complete) k l) b e =
    glue_opened prefix at_top n status.Complete [] [] l b (tree i (Comment Complete) k l) (tree i (Comment Complete) k (joined_forests l b)) refl refl refl refl (glues prefix at_top (n + 1) l b e)
glues prefix at_top n (tree i (Comment Pending) k l) b e =
    glue_opened prefix at_top n status.Pending [] [] l b (tree i (Comment Pending) k l) (tree i (Comment Pending) k (joined_forests l b)) refl refl refl refl (glues prefix at_top (n + 1) l b e)
glues prefix at_top n (tree i (Comment Client) k l) b e =
    glue_opened prefix at_top n status.Client (digest_after l) (digest_after (joined_forests l b)) l b (tree i (Comment Client) k l) (tree i (Comment Client) k (joined_forests l b)) (digest_joined l b n e) refl refl refl
    (glues prefix at_top (n + 1) l b e)
glues prefix at_top n (tree i (Comment End) k l) b e = glue_end prefix at_top n i k l b e (λ j h. glues prefix at_top j l b h)
glues prefix at_top n (tree i (Comment Space) k l) b e =
    let g = glues prefix at_top n l b e in record { size = g.size; is = g.is }

nil_of : {A : Type 0} (xs : List A) → length xs ≡ 0 → xs ≡ []
nil_of [] e = refl
nil_of (x ∷ xs) e = absurd (omega arith)

-- Balanced siblings before others.
pub levels_of-joined : (prefix : List ℕ) (at_top : Bool) (a b : Forest) → IsBalanced (nodes_of a)
    → levels_of prefix at_top (joined_forests a b) ≡ with_first (joined_views (siblings_view prefix at_top a)) (levels_of prefix at_top b)
levels_of-joined prefix at_top a b balanced =
    let g = glues prefix at_top 0 a b balanced in
    let la : Levels = levels_of prefix at_top a in
    let lb : Levels = levels_of prefix at_top b in
    let no_rest : la.rest ≡ [] = nil_of la.rest g.size in
    g.is ∙ ap (λ r. glued la.first r lb) no_rest ∙ ap (λ r. with_first (joined_views (joined_levels la.first r)) lb) (sym no_rest)

pub view_of-joined : (prefix : List ℕ) (at_top : Bool) (a b : Forest) → IsBalanced (nodes_of a)
    → siblings_view prefix at_top (joined_forests a b) ≡ joined_views (siblings_view prefix at_top a) (siblings_view prefix at_top b)
view_of-joined prefix at_top a b balanced =
    let lb : Levels = levels_of prefix at_top b in
    ap siblings_of (levels_of-joined prefix at_top a b balanced) ∙ joined_levels-joined_views (siblings_view prefix at_top a) lb.first lb.rest

-- The end of a boundary

record Closed (siblings : Forest) (end n : ℕ) : Type 0 where
  inside : Forest
  below : Forest
  after : Forest
  whole : siblings ≡ joined_forests inside (tree end (Comment End) below after)
  closes : closes_all (nodes_of inside) n ≡ true

closed_past : (end n m i : ℕ) (x : NewNode) (k l : Forest) → Closed l end n
    → ((f : Forest) → closes_all (nodes_of (tree i x k f)) m ≡ closes_all (nodes_of f) n) → Closed (tree i x k l) end m
closed_past end n m i x k l c h = record {
  inside = tree i x k c.inside;
  below = c.below;
  after = c.after;
  whole = ap (tree i x k) c.whole;
  closes = h c.inside ∙ c.closes;
}

closed_end : (end n i : ℕ) (k l : Forest) (b : Bool) → (n == 0) ≡ b → (if b then Some i else closing_mark l (n - 1)) ≡ Some end
    → (closing_mark l (n - 1) ≡ Some end → Closed l end (n - 1)) → Closed (tree i (Comment End) k l) end n
closed_end end n i k l true e found h =
    let same : Some i ≡ Some end = found in
    let is : i ≡ end = cc in
    record {
      inside = empty;
      below = k;
      after = l;
      whole = ap (λ j. tree j (Comment End) k l) is;
      closes = e;
    }
closed_end end n i k l false e found h =
    closed_past end (n - 1) n i (Comment End) k l (h found) (λ f. ap (λ b. not b && closes_all (nodes_of f) (n - 1)) e)

closed : (siblings : Forest) (n end : ℕ) → closing_mark siblings n ≡ Some end → Closed siblings end n
closed empty n end e = absurd (let z : None ≡ Some end = e in cc)
closed (tree i (Element name attributes) k l) n end e = closed_past end n n i (Element name attributes) k l (closed l n end e) (λ f. refl)
closed (tree i (Text t) k l) n end e = closed_past end n n i (Text t) k l (closed l n end e) (λ f. refl)
closed (tree i (Comment Complete) k l) n end e = closed_past end (n + 1) n i (Comment Complete) k l (closed l (n + 1) end e) (λ f. refl)
closed (tree i (Comment Pending) k l) n end e = closed_past end (n + 1) n i (Comment Pending) k l (closed l (n + 1) end e) (λ f. refl)
closed (tree i (Comment Client) k l) n end e = closed_past end (n + 1) n i (Comment Client) k l (closed l (n + 1) end e) (λ f. refl)
closed (tree i (Comment End) k l) n end e = closed_end end n i k l (n == 0) refl e (closed l (n - 1) end)
closed (tree i (Comment Space) k l) n end e = closed_past end n n i (Comment Space) k l (closed l n end e) (λ f. refl)

pub ends_at : (siblings : Forest) (end : ℕ) → closing_mark siblings 0 ≡ Some end → EndsAt siblings end
ends_at siblings end e =
    let c = closed siblings 0 end e in
    record { inside = c.inside; below = c.below; after = c.after; whole = c.whole; balanced = c.closes }

pub ends_found : (siblings : Forest) (end : ℕ) → EndsAt siblings end → closing_mark siblings 0 ≡ Some end
ends_found siblings end x =
    ap (λ f. closing_mark f 0) x.whole ∙ closing_mark-past x.inside (tree end (Comment End) x.below x.after) 0 0 x.balanced

-- A boundary is what stands before the end that is found.
enclosed : (prefix : List ℕ) (at_top : Bool) (s : BoundaryStatus) (digest : List ℕ) (siblings : Forest) (end : ℕ) (x : EndsAt siblings end)
    → levels_at_boundary s digest (levels_of prefix at_top siblings).first (levels_of prefix at_top siblings).rest
    ≡ with_first (view.boundary s digest (siblings_view prefix at_top x.inside)) (levels_of prefix at_top x.after)
enclosed prefix at_top s digest siblings end x =
    let inner : View = siblings_view prefix at_top x.inside in
    let later : Levels = levels_of prefix at_top x.after in
    ap (λ f. levels_at_boundary s digest (levels_of prefix at_top f).first (levels_of prefix at_top f).rest) x.whole
    ∙ ap (λ (l : Levels). levels_at_boundary s digest l.first l.rest) (levels_of-joined prefix at_top x.inside (tree end (Comment End) x.below x.after) x.balanced)
    ∙ ap (λ v. record { first = view.boundary s digest v later.first; rest = later.rest }) (joined_views-end inner)

marked_begins : (prefix : List ℕ) (at_top : Bool) (m : Mark) (siblings : Forest) (s : BoundaryStatus) (digest : List ℕ) (levels : Levels) → Begins m siblings s digest
    → levels_at_mark m siblings levels ≡ levels_at_boundary s digest levels.first levels.rest
marked_begins prefix at_top _ _ _ _ levels (completes later) = refl
marked_begins prefix at_top _ _ _ _ levels (waits later) = refl
marked_begins prefix at_top _ _ _ _ levels (fails later) = refl

pub boundary_view : (prefix : List ℕ) (at_top : Bool) (m : Mark) (s : BoundaryStatus) (digest : List ℕ) (marker end : ℕ) (kids siblings : Forest) → Begins m siblings s digest
    → (x : EndsAt siblings end)
    → siblings_view prefix at_top (tree marker (Comment m) kids siblings) ≡ view.boundary s digest (siblings_view prefix at_top x.inside) (siblings_view prefix at_top x.after)
boundary_view prefix at_top m s digest marker end kids siblings b x =
    let later : Levels = levels_of prefix at_top x.after in
    ap siblings_of (marked_begins prefix at_top m siblings s digest (levels_of prefix at_top siblings) b ∙ enclosed prefix at_top s digest siblings end x)
    ∙ grown later.first later.rest where
      grown : (first : View) (rest : List View)
          → joined_levels (view.boundary s digest (siblings_view prefix at_top x.inside) first) rest ≡ view.boundary s digest (siblings_view prefix at_top x.inside) (joined_levels first rest)
      grown first [] = refl
      grown first (next ∷ rest) = refl

-- A container at the end isn't seen.

pub left_out : (prefix name : List ℕ) (attributes : List Attr) → is_container prefix name attributes ≡ true → is_left_out prefix true name attributes ≡ true
left_out prefix name attributes e = either (bytes_eq name (codes "template")) (is_container prefix name attributes) e where
  either : (a b : Bool) → b ≡ true → (a || b) ≡ true
  either true b e = refl
  either false b e = e

not_template : (prefix name : List ℕ) (attributes : List Attr) → is_container prefix name attributes ≡ true → bytes_eq name (codes "template") ≡ false
not_template prefix name attributes e =
    let div : bytes_eq name (codes "div") ≡ true =
    (both_true _ _ (both_true (bytes_eq name (codes "div") && has_name (codes "hidden") attributes) (list_any (is_segment_id prefix) attributes) e).0).0 in
    let same : name ≡ codes "div" = (bytes_eq-Decides name (codes "div")).0 div in
    ap (λ n. bytes_eq n (codes "template")) same

digest_at_end : (prefix : List ℕ) (f : Forest) (i : ℕ) (name : List ℕ) (attributes : List Attr) (kids : Forest) → is_container prefix name attributes ≡ true
    → digest_after (joined_forests f (tree i (Element name attributes) kids empty)) ≡ digest_after f
digest_at_end prefix empty i name attributes kids e = cond-false (bytes_eq name (codes "template")) _ _ (not_template prefix name attributes e)
digest_at_end prefix (tree j (Element n attrs) k l) i name attributes kids e = refl
digest_at_end prefix (tree j (Text t) k l) i name attributes kids e = refl
digest_at_end prefix (tree j (Comment m) k l) i name attributes kids e = refl

unseen_mark : (m : Mark) (a b : Forest) (la lb : Levels) → digest_after a ≡ digest_after b → la ≡ lb → levels_at_mark m a la ≡ levels_at_mark m b lb
unseen_mark Complete a b la lb d e = ap (λ (l : Levels). levels_at_boundary status.Complete [] l.first l.rest) e
unseen_mark Pending a b la lb d e = ap (λ (l : Levels). levels_at_boundary status.Pending [] l.first l.rest) e
unseen_mark Client a b la lb d e = ap (λ x. levels_at_boundary status.Client x la.first la.rest) d ∙ ap (λ (l : Levels). levels_at_boundary status.Client (digest_after b) l.first l.rest) e
unseen_mark End a b la lb d e = ap levels_at_end e
unseen_mark Space a b la lb d e = e

unseen : (prefix : List ℕ) (f : Forest) (i : ℕ) (name : List ℕ) (attributes : List Attr) (kids : Forest) → is_container prefix name attributes ≡ true
    → levels_of prefix true (joined_forests f (tree i (Element name attributes) kids empty)) ≡ levels_of prefix true f
unseen prefix empty i name attributes kids e = cond-true (is_left_out prefix true name attributes) _ _ (left_out prefix name attributes e)
unseen prefix (tree j (Element n attrs) k l) i name attributes kids e =
    ap (λ (x : Levels). if is_left_out prefix true n attrs then x else with_first (view.element n attrs (siblings_of (levels_of prefix false k))) x) (unseen prefix l i name attributes kids e)
unseen prefix (tree j (Text t) k l) i name attributes kids e = ap (with_first (view.text t)) (unseen prefix l i name attributes kids e)
unseen prefix (tree j (Comment m) k l) i name attributes kids e =
    unseen_mark m (joined_forests l (tree i (Element name attributes) kids empty)) l _ _ (digest_at_end prefix l i name attributes kids e) (unseen prefix l i name attributes kids e)

pub container_unseen : (prefix : List ℕ) (f : Forest) (i : ℕ) (name : List ℕ) (attributes : List Attr) (kids : Forest) → is_container prefix name attributes ≡ true
    → view_of prefix (joined_forests f (tree i (Element name attributes) kids empty)) ≡ view_of prefix f
container_unseen prefix f i name attributes kids e = ap siblings_of (unseen prefix f i name attributes kids e)
