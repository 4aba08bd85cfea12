-- What is found by an id in a numbered forest, and how an edit of one node changes the counts of ids.
use Rattle.std.proofs.Common.{◌≡◌, ℕ, ◌+◌, ◌<◌, ◌≤◌, ◌==◌, Bool, true, false, inl, inr, Some, None, List, refl, sym, ap, ◌∙◌, subst, arith}
use Rattle.std.proofs.lemmas.Bool.{eqb-true, cases_eq}
use Rattle.dom_forest.specs.Forest.{Forest, empty, tree, times, from, first_content, content_of}
use Rattle.dom_forest.specs.Edits.{DomState, IsNumbered, with_change}
use Rattle.dom_forest.specs.Ids.{has_id, element_with}
use Rattle.dom_forest.specs.declared.node.NewNode.{NewNode}
use Rattle.document_machine.proofs.Spots.{absent}
use Rattle.page_laws.specs.Nodes.{nodes_of, id_count}
use Rattle.page_laws.proofs.Contexts as context
use Rattle.page_laws.proofs.Contexts.{Context, plug, plug_nodes, nodes_of-plug, id_count-plug}
use Rattle.page_laws.proofs.PagesLemmas.{one}
use Rattle.page_laws.proofs.MachineEdits.{from_first, changed_first, found_first}

-- Where a node stands.
pub record Stands (n : ℕ) (forest : Forest) : Type 0 where
  pub context : Context
  pub content : NewNode
  pub kids : Forest
  pub later : Forest
  pub is : forest ≡ plug context (tree n content kids later)

stands_tree : (n i : ℕ) (x : NewNode) (k l : Forest) (b : Bool) → (i == n) ≡ b → 0 < one b + times n k + times n l
    → (0 < times n k → Stands n k) → (0 < times n l → Stands n l) → Stands n (tree i x k l)
stands_tree n i x k l true e h inner after = record { context = context.here; content = x; kids = k; later = l; is = ap (λ j. tree j x k l) (eqb-true i n e) }
stands_tree n i x k l false e h inner after = elim (cases_eq (times n k) 0) [
  | inl z ↦ let p = after (omega arith) in
      record { context = context.after i x k p.context; content = p.content; kids = p.kids; later = p.later; is = ap (tree i x k) p.is }
  | inr z ↦ let p = inner (omega arith) in
      record { context = context.under i x p.context l; content = p.content; kids = p.kids; later = p.later; is = ap (λ f. tree i x f l) p.is }
]

pub stands : (n : ℕ) (forest : Forest) → 0 < times n forest → Stands n forest
stands n empty h = absurd (omega arith)
stands n (tree i x k l) h = stands_tree n i x k l (i == n) refl h (stands n k) (stands n l)

there : (n : ℕ) (forest : Forest) (x : NewNode) → content_of n forest ≡ Some x → 0 < times n forest
there n forest x e = elim (cases_eq (times n forest) 0) [
  | inl z ↦ absurd (let t : None ≡ Some x = sym (ap first_content (absent n forest z).from_is) ∙ e in cc)
  | inr z ↦ omega arith
]

pub finds_one : (id : List ℕ) (n : ℕ) (x : NewNode) (dom : DomState) → IsNumbered dom → id_count id (nodes_of dom.forest) ≡ 1
    → content_of n dom.forest ≡ Some x → has_id id x ≡ true → element_with id dom.forest ≡ Some n
finds_one id n x dom numbered c content h =
    let s = stands n dom.forest (there n dom.forest x content) in
    let once : (j : ℕ) → times j (plug s.context (tree n s.content s.kids s.later)) ≤ 1 = λ j. subst (λ f. times j f ≤ 1) s.is (numbered.once j) in
    let same : Some s.content ≡ Some x =
    sym (ap first_content (ap (from n) s.is ∙ from_first s.context n s.content s.kids s.later once)) ∙ content in
    let own : s.content ≡ x = cc in
    ap (element_with id) s.is ∙ found_first s.context n s.content s.kids s.later once id (ap (has_id id) own ∙ h) (ap (λ f. id_count id (nodes_of f)) (sym s.is) ∙ c)

pub id_count-with_change : (id : List ℕ) (n : ℕ) (change : NewNode → Forest → Forest → Forest) (x : NewNode) (k l : Forest) (dom : DomState) → IsNumbered dom
    → from n dom.forest ≡ tree n x k l
    → id_count id (nodes_of (with_change n change dom.forest)) + id_count id (nodes_of (tree n x k l)) ≡ id_count id (nodes_of dom.forest) + id_count id (nodes_of (change x k l))
id_count-with_change id n change x k l dom numbered e =
    let s = stands n dom.forest (there n dom.forest x (ap first_content e)) in
    let once : (j : ℕ) → times j (plug s.context (tree n s.content s.kids s.later)) ≤ 1 = λ j. subst (λ f. times j f ≤ 1) s.is (numbered.once j) in
    let same : tree n s.content s.kids s.later ≡ tree n x k l = sym (ap (from n) s.is ∙ from_first s.context n s.content s.kids s.later once) ∙ e in
    let is : dom.forest ≡ plug s.context (tree n x k l) = s.is ∙ ap (plug s.context) same in
    let now : with_change n change dom.forest ≡ plug s.context (change x k l) =
    ap (with_change n change) is ∙ changed_first s.context n x k l (λ j. subst (λ f. times j f ≤ 1) is (numbered.once j)) change in
    omega (
      arith,
      ap (λ f. id_count id (nodes_of f)) now,
      ap (id_count id) (nodes_of-plug s.context (change x k l)),
      id_count-plug id s.context (nodes_of (change x k l)),
      ap (λ f. id_count id (nodes_of f)) is,
      ap (id_count id) (nodes_of-plug s.context (tree n x k l)),
      id_count-plug id s.context (nodes_of (tree n x k l)),
    )
