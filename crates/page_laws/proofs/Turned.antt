-- Nodes of which the siblings from one place on become others, and where that place is in a forest of these nodes.
use Rattle.std.proofs.Common.{◌≡◌, ℕ, zero, suc, ◌+◌, ◌⊎◌, inl, inr, refl, sym, ap, ◌∙◌, subst, arith}
use Rattle.dom_forest.specs.Forest.{Forest, empty, tree, joined_forests}
use Rattle.dom_forest.specs.declared.node.NewNode.{NewNode}
use Rattle.dom_forest.specs.declared.node.Mark.TheVariants.{End}
use Rattle.dom_forest.specs.declared.node.NewNode.TheVariants.{Comment}
use Rattle.page_laws.specs.Nodes.{Nodes, none, node, nodes_of, joined_nodes}
use Rattle.page_laws.specs.Pages.{nodes_to_end}
use Rattle.page_laws.proofs.Contexts as context
use Rattle.page_laws.proofs.Contexts.{Context, plug, plug_nodes}

pub data Turned (Rule : Nodes → Nodes → Type 0) : Nodes → Nodes → Type 0 where
  here : (a b : Nodes) → Rule a b → Turned Rule a b
  under : (x : NewNode) (k k' l : Nodes) → Turned Rule k k' → Turned Rule (node x k l) (node x k' l)
  after : (x : NewNode) (k l l' : Nodes) → Turned Rule l l' → Turned Rule (node x k l) (node x k l')

-- A rule on siblings that says nothing of what follows them.
abbrev pub IsOpen : (Nodes → Nodes → Type 0) → Type 0
IsOpen Rule = (a b more : Nodes) → Rule a b → Rule (joined_nodes a more) (joined_nodes b more)

pub turned-joined : (Rule : Nodes → Nodes → Type 0) → IsOpen Rule → (a b more : Nodes) → Turned Rule a b
    → Turned Rule (joined_nodes a more) (joined_nodes b more)
turned-joined Rule h _ _ more (here a b r) = here _ _ (h a b more r)
turned-joined Rule h _ _ more (under x k k' l t) = under x k k' (joined_nodes l more) t
turned-joined Rule h _ _ more (after x k l l' t) = after x k _ _ (turned-joined Rule h l l' more t)

pub turned-past : (Rule : Nodes → Nodes → Type 0) (front a b : Nodes) → Turned Rule a b → Turned Rule (joined_nodes front a) (joined_nodes front b)
turned-past Rule none a b t = t
turned-past Rule (node x k l) a b t = after x k _ _ (turned-past Rule l a b t)

-- One of two lists of siblings turns, and the other stays.
abbrev pub OneTurned : (Nodes → Nodes → Type 0) → Nodes → Nodes → Nodes → Nodes → Type 0
OneTurned Rule k k' l l' = (Turned Rule k k' × (l' ≡ l)) ⊎ ((k' ≡ k) × Turned Rule l l')

pub split_one : (a b : ℕ) → a + b ≡ 1 → ((a ≡ 1) × (b ≡ 0)) ⊎ ((a ≡ 0) × (b ≡ 1))
split_one zero b h = inr (refl, omega arith)
split_one (suc a) b h = inl (omega arith, omega arith)

pub one_turned : (Rule : Nodes → Nodes → Type 0) (a b : ℕ) (k k' l l' : Nodes) → a + b ≡ 1
    → (a ≡ 1 → Turned Rule k k') → (a ≡ 0 → k' ≡ k) → (b ≡ 1 → Turned Rule l l') → (b ≡ 0 → l' ≡ l) → OneTurned Rule k k' l l'
one_turned Rule a b k k' l l' h tk sk tl sl = elim (split_one a b h) [
  | inl e ↦ inl (tk e.0, sl e.1)
  | inr e ↦ inr (sk e.0, tl e.1)
]

pub turned_tree : (Rule : Nodes → Nodes → Type 0) (x : NewNode) (k k' l l' : Nodes) → OneTurned Rule k k' l l' → Turned Rule (node x k l) (node x k' l')
turned_tree Rule x k k' l l' (inl t) = subst (λ m. Turned Rule (node x k l) (node x k' m)) (sym t.1) (under x k k' l t.0)
turned_tree Rule x k k' l l' (inr t) = subst (λ m. Turned Rule (node x k l) (node x m l')) (sym t.0) (after x k l l' t.1)

pub turned_to_end : (Rule : Nodes → Nodes → Type 0) → IsOpen Rule → (k k' l l' : Nodes) → OneTurned Rule k k' l l'
    → Turned Rule (nodes_to_end k l) (nodes_to_end k' l')
turned_to_end Rule h k k' l l' (inl t) = subst (λ m. Turned Rule (nodes_to_end k l) (nodes_to_end k' m)) (sym t.1) (turned-joined Rule h k k' (node (Comment End) none l) t.0)
turned_to_end Rule h k k' l l' (inr t) = subst (λ m. Turned Rule (nodes_to_end k l) (nodes_to_end m l')) (sym t.0)
    (turned-past Rule k (node (Comment End) none l) (node (Comment End) none l') (after (Comment End) none l l' t.1))

pub turned_joins : (Rule : Nodes → Nodes → Type 0) → IsOpen Rule → (k k' l l' : Nodes) → OneTurned Rule k k' l l'
    → Turned Rule (joined_nodes k l) (joined_nodes k' l')
turned_joins Rule h k k' l l' (inl t) = subst (λ m. Turned Rule (joined_nodes k l) (joined_nodes k' m)) (sym t.1) (turned-joined Rule h k k' l t.0)
turned_joins Rule h k k' l l' (inr t) = subst (λ m. Turned Rule (joined_nodes k l) (joined_nodes m l')) (sym t.0) (turned-past Rule k l l' t.1)

-- Where the place is in a forest.
pub record Placed (Rule : Nodes → Nodes → Type 0) (forest : Forest) (edited : Nodes) : Type 0 where
  pub context : Context
  pub part : Forest
  pub to : Nodes
  pub is : forest ≡ plug context part
  pub rule : Rule (nodes_of part) to
  pub becomes : plug_nodes context to ≡ edited

pub placed : (Rule : Nodes → Nodes → Type 0) (from to : Nodes) → Turned Rule from to → (forest : Forest) → nodes_of forest ≡ from → Placed Rule forest to
placed Rule _ _ (here a b r) forest e = record {
  context = context.here;
  part = forest;
  to = b;
  is = refl;
  rule = subst (λ n. Rule n b) (sym e) r;
  becomes = refl;
}
placed Rule _ _ (under x k k' l t) empty e = absurd (let z : none ≡ node x k l = e in cc)
placed Rule _ _ (under x k k' l t) (tree i y kids later) e =
    let same : node y (nodes_of kids) (nodes_of later) ≡ node x k l = e in
    let content : y ≡ x = cc in
    let inner : nodes_of kids ≡ k = cc in
    let rest : nodes_of later ≡ l = cc in
    let p = placed Rule k k' t kids inner in
    record {
      context = context.under i y p.context later;
      part = p.part;
      to = p.to;
      is = ap (λ f. tree i y f later) p.is;
      rule = p.rule;
      becomes = ap (λ n. node n (plug_nodes p.context p.to) (nodes_of later)) content ∙ ap (λ n. node x n (nodes_of later)) p.becomes ∙ ap (node x k') rest;
    }
placed Rule _ _ (after x k l l' t) empty e = absurd (let z : none ≡ node x k l = e in cc)
placed Rule _ _ (after x k l l' t) (tree i y kids later) e =
    let same : node y (nodes_of kids) (nodes_of later) ≡ node x k l = e in
    let content : y ≡ x = cc in
    let inner : nodes_of kids ≡ k = cc in
    let rest : nodes_of later ≡ l = cc in
    let p = placed Rule l l' t later rest in
    record {
      context = context.after i y kids p.context;
      part = p.part;
      to = p.to;
      is = ap (tree i y kids) p.is;
      rule = p.rule;
      becomes = ap (λ n. node n (nodes_of kids) (plug_nodes p.context p.to)) content ∙ ap (λ n. node x n (plug_nodes p.context p.to)) inner ∙ ap (node x k) p.becomes;
    }

-- A forest of joined nodes is joined.
pub record Halves (forest : Forest) (a b : Nodes) : Type 0 where
  pub front : Forest
  pub back : Forest
  pub is : forest ≡ joined_forests front back
  pub front_is : nodes_of front ≡ a
  pub back_is : nodes_of back ≡ b

pub halves : (a b : Nodes) (forest : Forest) → nodes_of forest ≡ joined_nodes a b → Halves forest a b
halves none b forest e = record { front = empty; back = forest; is = refl; front_is = refl; back_is = e }
halves (node x k l) b empty e = absurd (let z : none ≡ node x k (joined_nodes l b) = e in cc)
halves (node x k l) b (tree i y kids later) e =
    let same : node y (nodes_of kids) (nodes_of later) ≡ node x k (joined_nodes l b) = e in
    let content : y ≡ x = cc in
    let inner : nodes_of kids ≡ k = cc in
    let rest : nodes_of later ≡ joined_nodes l b = cc in
    let p = halves l b later rest in
    record {
      front = tree i y kids p.front;
      back = p.back;
      is = ap (tree i y kids) p.is;
      front_is = ap (λ n. node n (nodes_of kids) (nodes_of p.front)) content ∙ ap (λ n. node x n (nodes_of p.front)) inner ∙ ap (node x k) p.front_is;
      back_is = p.back_is;
    }

-- The first tree of a forest with a first node.
pub record First (forest : Forest) (content : NewNode) (k l : Nodes) : Type 0 where
  pub id : ℕ
  pub kids : Forest
  pub later : Forest
  pub is : forest ≡ tree id content kids later
  pub kids_are : nodes_of kids ≡ k
  pub later_are : nodes_of later ≡ l

pub first : (x : NewNode) (k l : Nodes) (forest : Forest) → nodes_of forest ≡ node x k l → First forest x k l
first x k l empty e = absurd (let z : none ≡ node x k l = e in cc)
first x k l (tree i y kids later) e =
    let same : node y (nodes_of kids) (nodes_of later) ≡ node x k l = e in
    let content : y ≡ x = cc in
    record { id = i; kids = kids; later = later; is = ap (λ n. tree i n kids later) content; kids_are = cc; later_are = cc }

pub nothing_in : (forest : Forest) → nodes_of forest ≡ none → forest ≡ empty
nothing_in empty e = refl
nothing_in (tree i x k l) e = absurd (let z : node x (nodes_of k) (nodes_of l) ≡ none = e in cc)
