-- The views of alike forests are the same but for digests.
use Rattle.std.proofs.Common.{◌≡◌, ◌==◌, ◌++◌, None, arith, ℕ, ◌&&◌, ◌||◌, Bool, true, false, if◌then◌else◌, List, [], ◌∷◌, Some, codes, filter, map, not, refl, sym, ap, ◌∙◌, subst}
use Rattle.std.specs.Str.{bytes_eq}
use Rattle.fizz_text.specs.declared.attribute.Attr.{Attr}
use Rattle.dom_forest.specs.Edits.{is_digest}
use Rattle.dom_forest.specs.declared.document.DocNode.TheVariants as doc
use Rattle.dom_forest.specs.Forest.{Forest, tree}
use Rattle.dom_forest.specs.declared.node.Mark.{Mark}
use Rattle.dom_forest.specs.declared.node.Mark.TheVariants.{Complete, Pending, Client, End, Space}
use Rattle.dom_forest.specs.declared.node.NewNode.{NewNode}
use Rattle.dom_forest.specs.declared.node.NewNode.TheVariants.{Element, Text, Comment}
use Rattle.document_machine.specs.Edits.{waits}
use Rattle.document_machine.specs.Settled.{is_pending, nodes_of, number_of, settled_of}
use Rattle.document_machine.specs.Views as view
use Rattle.document_machine.specs.Views.{Levels, View, digest_after, is_container, is_left_out, joined_levels, joined_views, levels_at_boundary, levels_at_mark, levels_of, siblings_of, view_of, with_first}
use Rattle.document_machine.specs.declared.status.BoundaryStatus.{BoundaryStatus}
use Rattle.document_machine.specs.declared.status.BoundaryStatus.TheVariants as status
use Rattle.like_laws.specs.Alike.{Alike, AreAlike, attributes_without_digest, both, ends, left, right, content_without_digest}
use Rattle.like_laws.specs.LikeViews.{without_digests}

abbrev bare_levels : Levels → Levels
bare_levels l = record { first = without_digests l.first; rest = map without_digests l.rest }

bare-joined : (a b : View) → without_digests (joined_views a b) ≡ joined_views (without_digests a) (without_digests b)
bare-joined view.end b = refl
bare-joined (view.text t l) b = ap (view.text t) (bare-joined l b)
bare-joined (view.element n attributes k l) b = ap (view.element n attributes (without_digests k)) (bare-joined l b)
bare-joined (view.boundary s d k l) b = ap (view.boundary s [] (without_digests k)) (bare-joined l b)

bare-levels : (first : View) (rest : List View) → without_digests (joined_levels first rest) ≡ joined_levels (without_digests first) (map without_digests rest)
bare-levels first [] = refl
bare-levels first (next ∷ rest) = bare-joined first (joined_levels next rest) ∙ ap (joined_views (without_digests first)) (bare-levels next rest)

bare_siblings : (a b : Levels) → bare_levels a ≡ bare_levels b → without_digests (siblings_of a) ≡ without_digests (siblings_of b)
bare_siblings a b e = bare-levels a.first a.rest ∙ ap siblings_of e ∙ sym (bare-levels b.first b.rest)

bare_boundary : (s : BoundaryStatus) (d : List ℕ) (first : View) (rest : List View) → bare_levels (levels_at_boundary s d first rest) ≡ levels_at_boundary s [] (without_digests first) (map without_digests rest)
bare_boundary s d first [] = refl
bare_boundary s d first (next ∷ rest) = refl

same_boundary : (s : BoundaryStatus) (d d' : List ℕ) (a b : Levels) → bare_levels a ≡ bare_levels b → bare_levels (levels_at_boundary s d a.first a.rest) ≡ bare_levels (levels_at_boundary s d' b.first b.rest)
same_boundary s d d' a b e =
    bare_boundary s d a.first a.rest ∙ ap (λ (l : Levels). levels_at_boundary s [] l.first l.rest) e ∙ sym (bare_boundary s d' b.first b.rest)

same_mark : (mark : Mark) (f g : Forest) (a b : Levels) → bare_levels a ≡ bare_levels b → bare_levels (levels_at_mark mark f a) ≡ bare_levels (levels_at_mark mark g b)
same_mark Complete f g a b e = same_boundary status.Complete [] [] a b e
same_mark Pending f g a b e = same_boundary status.Pending [] [] a b e
same_mark Client f g a b e = same_boundary status.Client (digest_after f) (digest_after g) a b e
same_mark End f g a b e = ap (λ (l : Levels). record { first = view.end; rest = l.first ∷ l.rest }) e
same_mark Space f g a b e = e

same_shown : (b : Bool) (name : List ℕ) (attributes : List Attr) (k k' l l' : Levels) → bare_levels k ≡ bare_levels k' → bare_levels l ≡ bare_levels l'
    → bare_levels (if b then l else with_first (view.element name attributes (siblings_of k)) l) ≡ bare_levels (if b then l' else with_first (view.element name attributes (siblings_of k')) l')
same_shown true name attributes k k' l l' inner outer = outer
same_shown false name attributes k k' l l' inner outer =
    ap (λ v. with_first (view.element name attributes v) (bare_levels l)) (bare_siblings k k' inner)
    ∙ ap (with_first (view.element name attributes (without_digests (siblings_of k')))) outer

all_kept : (name : List ℕ) (attributes : List Attr) → bytes_eq name (codes "template") ≡ false → attributes_without_digest name attributes ≡ attributes
all_kept name attributes e = ap (λ b. if b then filter (λ a. not (is_digest a)) attributes else attributes) e

module _ (prefix : List ℕ) (at_top : Bool) where
  abbrev shown : List ℕ → List Attr → Levels → Levels → Levels
  shown name attributes k l = if is_left_out prefix at_top name attributes then l else with_first (view.element name attributes (siblings_of k)) l

  template_left : (name : List ℕ) (attributes : List Attr) (k l : Levels) → bytes_eq name (codes "template") ≡ true → shown name attributes k l ≡ l
  template_left name attributes k l e =
      ap (λ b. if b || (at_top && is_container prefix name attributes) then l else with_first (view.element name attributes (siblings_of k)) l) e

  same_element : (name : List ℕ) (one two : List Attr) (k k' l l' : Levels) (b : Bool) → bytes_eq name (codes "template") ≡ b → attributes_without_digest name one ≡ attributes_without_digest name two
      → bare_levels k ≡ bare_levels k' → bare_levels l ≡ bare_levels l' → bare_levels (shown name one k l) ≡ bare_levels (shown name two k' l')
  same_element name one two k k' l l' true is kept inner outer =
      ap bare_levels (template_left name one k l is) ∙ outer ∙ sym (ap bare_levels (template_left name two k' l' is))
  same_element name one two k k' l l' false is kept inner outer =
      let same : one ≡ two = sym (all_kept name one is) ∙ kept ∙ all_kept name two is in
      same_shown (is_left_out prefix at_top name one) name one k k' l l' inner outer
      ∙ ap (λ zs. bare_levels (shown name zs k' l')) same

same_content : (prefix : List ℕ) (at_top : Bool) (i j : ℕ) (c d : NewNode) (kids others f g : Forest) → content_without_digest c ≡ content_without_digest d
    → bare_levels (levels_of prefix false kids) ≡ bare_levels (levels_of prefix false others) → bare_levels (levels_of prefix at_top f) ≡ bare_levels (levels_of prefix at_top g)
    → bare_levels (levels_of prefix at_top (tree i c kids f)) ≡ bare_levels (levels_of prefix at_top (tree j d others g))
same_content prefix at_top i j (Element name one) (Element other two) kids others f g e inner outer =
    let whole : Element name (attributes_without_digest name one) ≡ Element other (attributes_without_digest other two) = e in
    let names : name ≡ other = cc in
    subst (λ n. bare_levels (levels_of prefix at_top (tree i (Element name one) kids f)) ≡ bare_levels (levels_of prefix at_top (tree j (Element n two) others g))) names
    (same_element prefix at_top name one two (levels_of prefix false kids) (levels_of prefix false others) (levels_of prefix at_top f) (levels_of prefix at_top g)
    (bytes_eq name (codes "template")) refl (let kept : attributes_without_digest name one ≡ attributes_without_digest other two = cc in kept ∙ ap (λ n. attributes_without_digest n two) (sym names)) inner outer)
same_content prefix at_top i j (Element name one) (Text t) kids others f g e inner outer = absurd (let z : Element name (attributes_without_digest name one) ≡ Text t = e in cc)
same_content prefix at_top i j (Element name one) (Comment m) kids others f g e inner outer = absurd (let z : Element name (attributes_without_digest name one) ≡ Comment m = e in cc)
same_content prefix at_top i j (Text t) (Element name one) kids others f g e inner outer = absurd (let z : Text t ≡ Element name (attributes_without_digest name one) = e in cc)
same_content prefix at_top i j (Text t) (Text u) kids others f g e inner outer =
    let same : t ≡ u = (let z : Text t ≡ Text u = e in cc) in
    ap (with_first (view.text t)) outer ∙ ap (λ v. bare_levels (with_first (view.text v) (levels_of prefix at_top g))) same
same_content prefix at_top i j (Text t) (Comment m) kids others f g e inner outer = absurd (let z : Text t ≡ Comment m = e in cc)
same_content prefix at_top i j (Comment m) (Element name one) kids others f g e inner outer = absurd (let z : Comment m ≡ Element name (attributes_without_digest name one) = e in cc)
same_content prefix at_top i j (Comment m) (Text t) kids others f g e inner outer = absurd (let z : Comment m ≡ Text t = e in cc)
same_content prefix at_top i j (Comment m) (Comment k) kids others f g e inner outer =
    let same : m ≡ k = (let z : Comment m ≡ Comment k = e in cc) in
    same_mark m f g (levels_of prefix at_top f) (levels_of prefix at_top g) outer ∙ ap (λ n. bare_levels (levels_at_mark n g (levels_of prefix at_top g))) same

same_levels : (prefix : List ℕ) (m n : Bool) (f g : Forest) → Alike m n f g → (at_top : Bool) → bare_levels (levels_of prefix at_top f) ≡ bare_levels (levels_of prefix at_top g)
same_levels prefix _ _ _ _ (ends m) at_top = refl
same_levels prefix _ _ _ _ (left m n i f g r) at_top = same_levels prefix false n f g r at_top
same_levels prefix _ _ _ _ (right m n j f g r) at_top = same_levels prefix m false f g r at_top
same_levels prefix _ _ _ _ (both m n i j c d kids others f g s a k l) at_top =
    same_content prefix at_top i j c d kids others f g s (same_levels prefix false false kids others k false) (same_levels prefix (waits (Some c)) (waits (Some d)) f g l at_top)

pub same_views : (prefix : List ℕ) (f g : Forest) → AreAlike f g → without_digests (view_of prefix f) ≡ without_digests (view_of prefix g)
same_views prefix f g r = bare_siblings (levels_of prefix true f) (levels_of prefix true g) (same_levels prefix false false f g r true)

-- A settled document says nothing of digests.

number_of-without : (of_kind : BoundaryStatus → Bool) (v : View) → number_of of_kind (without_digests v) ≡ number_of of_kind v
number_of-without of_kind view.end = refl
number_of-without of_kind (view.text t l) = number_of-without of_kind l
number_of-without of_kind (view.element n attributes k l) = omega (arith, number_of-without of_kind k, number_of-without of_kind l)
number_of-without of_kind (view.boundary s d k l) = omega (arith, number_of-without of_kind k, number_of-without of_kind l)

nodes_of-without : (v : View) → nodes_of (without_digests v) ≡ nodes_of v
nodes_of-without view.end = refl
nodes_of-without (view.text t l) = ap (λ ns. doc.Text t ∷ ns) (nodes_of-without l)
nodes_of-without (view.element n attributes k l) =
    ap (λ ns. doc.Element n attributes ns ∷ nodes_of (without_digests l)) (nodes_of-without k) ∙ ap (λ ns. doc.Element n attributes (nodes_of k) ∷ ns) (nodes_of-without l)
nodes_of-without (view.boundary s d k l) = ap (λ ns. ns ++ nodes_of (without_digests l)) (nodes_of-without k) ∙ ap (λ ns. nodes_of k ++ ns) (nodes_of-without l)

settled_of-without : (v : View) → settled_of (without_digests v) ≡ settled_of v
settled_of-without v =
    ap (λ n. if n == 0 then Some (nodes_of (without_digests v)) else None) (number_of-without is_pending v)
    ∙ ap (λ ns. if number_of is_pending v == 0 then Some ns else None) (nodes_of-without v)

pub same_settled : (prefix : List ℕ) (f g : Forest) → AreAlike f g → settled_of (view_of prefix f) ≡ settled_of (view_of prefix g)
same_settled prefix f g r = sym (settled_of-without (view_of prefix f)) ∙ ap settled_of (same_views prefix f g r) ∙ settled_of-without (view_of prefix g)
