-- Contents of nodes, digests aside.
use Rattle.std.proofs.Common.{◌≡◌, ℕ, Bool, true, false, not, ◌&&◌, ◌||◌, if◌then◌else◌, List, [], ◌∷◌, Some, filter, refl, sym, ap, ◌∙◌, subst, codes}
use Rattle.std.specs.List.{list_any}
use Rattle.std.specs.Str.{bytes_eq}
use Rattle.std.proofs.lemmas.Slice.Eq.{bytes_eq-Decides}
use Rattle.fizz_text.specs.declared.attribute.Attr.{Attr}
use Rattle.dom_forest.specs.Edits.{digest_set, is_digest, with_digest, digest_attribute}
use Rattle.dom_forest.specs.Ids.{gives_id, has_id, is_value}
use Rattle.dom_forest.specs.declared.node.NewNode.{NewNode}
use Rattle.dom_forest.specs.declared.node.NewNode.TheVariants.{Element, Text, Comment}
use Rattle.document_machine.specs.Edits.{waits}
use Rattle.like_laws.specs.Alike.{attributes_without_digest, content_without_digest}

abbrev no_digests : List Attr → List Attr
no_digests attributes = filter (λ a. not (is_digest a)) attributes

digest_no_id : (id : List ℕ) (a : Attr) → is_digest a ≡ true → gives_id id a ≡ false
digest_no_id id a e =
    let same : a.name ≡ codes "data-dgst" = (bytes_eq-Decides a.name (codes "data-dgst")).0 e in
    ap (λ n. bytes_eq n (codes "id") && is_value id a.value) same

any_kept : (id : List ℕ) (a : Attr) (xs kept : List Attr) (b : Bool) → is_digest a ≡ b → list_any (gives_id id) kept ≡ list_any (gives_id id) xs
    → list_any (gives_id id) (if not b then a ∷ kept else kept) ≡ (gives_id id a || list_any (gives_id id) xs)
any_kept id a xs kept true e h = h ∙ ap (λ b. b || list_any (gives_id id) xs) (sym (digest_no_id id a e))
any_kept id a xs kept false e h = ap (λ b. gives_id id a || b) h

any_undigested : (id : List ℕ) (xs : List Attr) → list_any (gives_id id) (no_digests xs) ≡ list_any (gives_id id) xs
any_undigested id [] = refl
any_undigested id (a ∷ xs) = any_kept id a xs (no_digests xs) (is_digest a) refl (any_undigested id xs)

any_of : (id : List ℕ) (xs : List Attr) (b : Bool) → list_any (gives_id id) (if b then no_digests xs else xs) ≡ list_any (gives_id id) xs
any_of id xs true = any_undigested id xs
any_of id xs false = refl

pub has_id-content_without_digest : (id : List ℕ) (c : NewNode) → has_id id (content_without_digest c) ≡ has_id id c
has_id-content_without_digest id (Element name attributes) = any_of id attributes (bytes_eq name (codes "template"))
has_id-content_without_digest id (Text text) = refl
has_id-content_without_digest id (Comment mark) = refl

pub same_ids : (id : List ℕ) (c d : NewNode) → content_without_digest c ≡ content_without_digest d → has_id id c ≡ has_id id d
same_ids id c d e = sym (has_id-content_without_digest id c) ∙ ap (has_id id) e ∙ has_id-content_without_digest id d

waits-content_without_digest : (c : NewNode) → waits (Some (content_without_digest c)) ≡ waits (Some c)
waits-content_without_digest (Element name attributes) = refl
waits-content_without_digest (Text text) = refl
waits-content_without_digest (Comment mark) = refl

pub same_waits : (c d : NewNode) → content_without_digest c ≡ content_without_digest d → waits (Some c) ≡ waits (Some d)
same_waits c d e = sym (waits-content_without_digest c) ∙ ap (λ x. waits (Some x)) e ∙ waits-content_without_digest d

-- An element with an id is no marker.
pub id_no_marker : (id : List ℕ) (c : NewNode) → has_id id c ≡ true → waits (Some c) ≡ false
id_no_marker id (Element name attributes) e = refl
id_no_marker id (Text text) e = absurd (let z : false ≡ true = e in cc)
id_no_marker id (Comment mark) e = absurd (let z : false ≡ true = e in cc)

-- A digest that is set is left out again.

filtered_twice : (a : Attr) (xs : List Attr) (b : Bool) → is_digest a ≡ b → no_digests (no_digests xs) ≡ no_digests xs → no_digests (if not b then a ∷ no_digests xs else no_digests xs) ≡ (if not b then a ∷ no_digests xs else no_digests xs)
filtered_twice a xs true e h = h
filtered_twice a xs false e h = ap (λ b. if not b then a ∷ no_digests (no_digests xs) else no_digests (no_digests xs)) e ∙ ap (λ zs. a ∷ zs) h

twice : (xs : List Attr) → no_digests (no_digests xs) ≡ no_digests xs
twice [] = refl
twice (a ∷ xs) = filtered_twice a xs (is_digest a) refl (twice xs)

set_kept : (digest : List ℕ) (a : Attr) (xs : List Attr) (b : Bool) → is_digest a ≡ b → no_digests (with_digest digest xs) ≡ no_digests xs
    → no_digests (if b then digest_attribute digest ∷ no_digests xs else a ∷ with_digest digest xs) ≡ (if not b then a ∷ no_digests xs else no_digests xs)
set_kept digest a xs true e h = twice xs
set_kept digest a xs false e h = ap (λ b. if not b then a ∷ no_digests (with_digest digest xs) else no_digests (with_digest digest xs)) e ∙ ap (λ zs. a ∷ zs) h

set_undigested : (digest : List ℕ) (xs : List Attr) → no_digests (with_digest digest xs) ≡ no_digests xs
set_undigested digest [] = refl
set_undigested digest (a ∷ xs) = set_kept digest a xs (is_digest a) refl (set_undigested digest xs)

same_set : (digest name xs ys : _) (b : Bool) → (if b then no_digests xs else xs) ≡ (if b then no_digests ys else ys)
    → Element name (if b then no_digests (with_digest digest xs) else with_digest digest xs) ≡ Element name (if b then no_digests (with_digest digest ys) else with_digest digest ys)
same_set digest name xs ys true e = ap (Element name) (set_undigested digest xs ∙ e ∙ sym (set_undigested digest ys))
same_set digest name xs ys false e = ap (λ zs. Element name (with_digest digest zs)) e

pub same_digest_set : (digest : List ℕ) (c d : NewNode) → content_without_digest c ≡ content_without_digest d → content_without_digest (digest_set digest c) ≡ content_without_digest (digest_set digest d)
same_digest_set digest (Element name xs) (Element other ys) e =
    let whole : Element name (attributes_without_digest name xs) ≡ Element other (attributes_without_digest other ys) = e in
    let names : name ≡ other = cc in
    subst (λ n. Element name (attributes_without_digest name (with_digest digest xs)) ≡ Element n (attributes_without_digest n (with_digest digest ys))) names
    (same_set digest name xs ys (bytes_eq name (codes "template")) (let kept : attributes_without_digest name xs ≡ attributes_without_digest other ys = cc in kept ∙ ap (λ n. attributes_without_digest n ys) (sym names)))
same_digest_set digest (Element name xs) (Text t) e = absurd (let z : Element name (attributes_without_digest name xs) ≡ Text t = e in cc)
same_digest_set digest (Element name xs) (Comment m) e = absurd (let z : Element name (attributes_without_digest name xs) ≡ Comment m = e in cc)
same_digest_set digest (Text t) d e = by d e where
  by : (d : NewNode) → Text t ≡ content_without_digest d → Text t ≡ content_without_digest (digest_set digest d)
  by (Element name xs) e = absurd (let z : Text t ≡ Element name (attributes_without_digest name xs) = e in cc)
  by (Text u) e = e
  by (Comment m) e = e
same_digest_set digest (Comment m) d e = by d e where
  by : (d : NewNode) → Comment m ≡ content_without_digest d → Comment m ≡ content_without_digest (digest_set digest d)
  by (Element name xs) e = absurd (let z : Comment m ≡ Element name (attributes_without_digest name xs) = e in cc)
  by (Text u) e = e
  by (Comment k) e = e
