-- A document that is printed: its tokens, and where they lead.
use Rattle.std.proofs.Common.{◌≡◌, ℕ, zero, suc, ◌-◌, Bool, true, false, if◌then◌else◌, Option, Some, None, List, [], ◌∷◌, ◌++◌, length, codes, unwrap_or, refl, sym, ◌∙◌, ap, subst, arith, append-nil, append_assoc}
use Rattle.fizz_text.specs.declared.attribute.Attr.{Attr}
use Rattle.html_names.specs.Elements.{void_flag}
use Rattle.html_names.specs.Escape.{escape_of}
use Rattle.html_read.specs.declared.token.Token.{Token}
use Rattle.html_read.specs.declared.token.Token.TheVariants as tok
use Rattle.html_read.specs.Names.{IsTagName}
use Rattle.html_names.specs.Printing.{tag_prefix}
use Rattle.html_read.specs.Tokens.{AreAttributes, AreTokens, MayFollow, spelling, spellings}
use Rattle.dom_forest.specs.declared.node.Mark.{Mark}
use Rattle.dom_forest.specs.declared.node.Mark.TheVariants as mark
use Rattle.dom_forest.specs.declared.node.NewNode.{NewNode}
use Rattle.dom_forest.specs.declared.node.NewNode.TheVariants.{Element, Text, Comment}
use Rattle.dom_forest.specs.Forest.{Forest, empty, tree}
use Rattle.dom_forest.specs.Edits.{DomState, IsNumbered}
use Rattle.document_machine.specs.declared.building.OpenElement.{OpenElement}
use Rattle.document_machine.specs.Running.{PageState, innermost, mark_of, with_node, with_open}
use Rattle.document_machine.specs.Documents.{most_open, starts, ends, stands, says, marks, Step, Steps, Runs, LeavesNoRest}
use Rattle.dom_forest.specs.Printing.{is_void}
use Rattle.document_machine.specs.Printing.{said_of, page_bytes, HasNoNode, MayHold, MayPrint, with_nodes, with_forest}
use Rattle.document_machine.proofs.LowerLaws.{TokenLaws}
use Rattle.document_machine.proofs.MovedTokens.{MayBeTokens, placed, placed_are, placed_spellings, placed_steps}
use Rattle.document_machine.proofs.TokenRuns.{nothing_true, tokens_run}
use Rattle.document_machine.proofs.GrowingForests.{IsFresh, fresh_nodes, fresh_appended, with_nodes_none, with_nodes_tree}

abbrev pub element_toks : Bool → List ℕ → List Attr → (List Token → List Token) → List Token → List Token
element_toks true name attributes inner rest = tok.Void name attributes 0 ∷ rest
element_toks false name attributes inner rest = tok.Start name attributes 0 ∷ inner (tok.End name 0 ∷ rest)

-- The tokens of a document before others, their places apart.
abbrev pub forest_toks : Forest → List Token → List Token
forest_toks empty more = more
forest_toks (tree i (Element name attributes) kids later) more = element_toks (is_void name) name attributes (forest_toks kids) (forest_toks later more)
forest_toks (tree i (Text text) kids later) more = tok.Text text 0 ∷ forest_toks later more
forest_toks (tree i (Comment mark) kids later) more = tok.Comment (said_of mark) 0 ∷ forest_toks later more

element_spelled : (void : Bool) (name : List ℕ) (attributes : List Attr) (inner : List Token → List Token) (bytes : List ℕ) (rest : List Token) → ((more : List Token) → spellings (inner more) ≡ bytes ++ spellings more)
    → spellings (element_toks void name attributes inner rest)
    ≡ (if void then tag_prefix name attributes ++ codes "/>" else (tag_prefix name attributes ++ codes ">") ++ (bytes ++ (codes "</" ++ (name ++ codes ">")))) ++ spellings rest
element_spelled true name attributes inner bytes rest e = refl
element_spelled false name attributes inner bytes rest e =
    let front : List ℕ = tag_prefix name attributes ++ codes ">" in
    let end : List ℕ = codes "</" ++ (name ++ codes ">") in
    ap (λ x. front ++ x) (e (tok.End name 0 ∷ rest) ∙ sym (append_assoc bytes end (spellings rest))) ∙ sym (append_assoc front (bytes ++ end) (spellings rest))

spelled_on : (bytes rest all : List ℕ) (more : List Token) → all ≡ rest ++ spellings more → bytes ++ all ≡ (bytes ++ rest) ++ spellings more
spelled_on bytes rest all more e = ap (λ x. bytes ++ x) e ∙ sym (append_assoc bytes rest (spellings more))

pub forest_spelled : (forest : Forest) (more : List Token) → spellings (forest_toks forest more) ≡ page_bytes forest ++ spellings more
forest_spelled empty more = refl
forest_spelled (tree i (Element name attributes) kids later) more =
    element_spelled (is_void name) name attributes (forest_toks kids) (page_bytes kids) (forest_toks later more) (forest_spelled kids)
    ∙ spelled_on _ (page_bytes later) (spellings (forest_toks later more)) more (forest_spelled later more)
forest_spelled (tree i (Text text) kids later) more = spelled_on (escape_of text) (page_bytes later) (spellings (forest_toks later more)) more (forest_spelled later more)
forest_spelled (tree i (Comment mark) kids later) more =
    spelled_on (spelling (tok.Comment (said_of mark) 0)) (page_bytes later) (spellings (forest_toks later more)) more (forest_spelled later more)

follows_any : (after : Bool) → MayFollow after false
follows_any true = tt
follows_any false = tt

text_may : (after : Bool) → after ≡ false → MayFollow after true
text_may after e = subst (λ b. MayFollow b true) (sym e) tt

void_of : (flag : Option Bool) → unwrap_or flag false ≡ true → flag ≡ Some true
void_of None e = absurd (nothing_true e)
void_of (Some b) e = ap (λ x. Some x) e

element_may : (void : Bool) (name : List ℕ) (attributes : List Attr) (room : ℕ) (kids : Forest) (inner : List Token → List Token) (rest : List Token) (after : Bool) → is_void name ≡ void
    → IsTagName name → AreAttributes attributes → MayHold void room kids (MayPrint kids false)
    → ((r : ℕ) (more : List Token) → MayPrint kids false r → ((b : Bool) → MayBeTokens b more) → MayBeTokens false (inner more)) → MayBeTokens false rest → MayBeTokens after (element_toks void name attributes inner rest)
element_may true name attributes room kids inner rest after v t a h k r = ((void_of (void_flag name) v, a), follows_any after, r)
element_may false name attributes zero kids inner rest after v t a h k r = absurd h
element_may false name attributes (suc room) kids inner rest after v t a h k r = ((t, a), follows_any after, k room (tok.End name 0 ∷ rest) h (λ b. (t, follows_any b, r)))

pub forest_may : (forest : Forest) (after : Bool) (room : ℕ) (more : List Token) → MayPrint forest after room → ((b : Bool) → MayBeTokens b more) → MayBeTokens after (forest_toks forest more)
forest_may empty after room more h k = k after
forest_may (tree i (Element name attributes) kids later) after room more h k =
    element_may (is_void name) name attributes room kids (forest_toks kids) (forest_toks later more) after refl h.0 h.1 h.2
    (λ r ts m b. forest_may kids false r ts m b) (forest_may later false room more h.3 k)
forest_may (tree i (Text text) kids later) after room more h k = ((h.1, h.2), text_may after h.3, forest_may later true room more h.4 k)
forest_may (tree i (Comment mark) kids later) after room more h k = (tt, follows_any after, forest_may later false room more h.1 k)

mark_said : (m : Mark) → mark_of (said_of m) ≡ m
mark_said mark.Complete = refl
mark_said mark.Pending = refl
mark_said mark.Client = refl
mark_said mark.End = refl
mark_said mark.Space = refl

with_none : (b : PageState) → with_forest empty b ≡ b
with_none b = ap (λ (d : DomState). record b { dom = d }) (with_nodes_none (innermost b.opened) b.dom)

-- A node with nothing below it, and then what stands after it.
leaf_after : (i : ℕ) (content : NewNode) (kids later : Forest) (b : PageState) → IsFresh b.dom → HasNoNode kids → with_forest (tree i content kids later) b ≡ with_forest later (with_node content b)
leaf_after i content empty later b fresh h =
    ap (λ (d : DomState). record b { dom = d })
    (sym (with_nodes_tree (innermost b.opened) i content empty later b.dom fresh) ∙ ap (with_nodes (innermost b.opened) later) (with_nodes_none (Some (record { 0 = b.dom.next })) _))
leaf_after i content (tree j node below more) later b fresh h = absurd h

-- An element with what stands in it, and then what stands after it.
abbrev closed_with : List ℕ → List Attr → Forest → PageState → PageState
closed_with name attributes kids b = record (with_forest kids (with_open name attributes b)) { opened = b.opened }

element_after : (i : ℕ) (name : List ℕ) (attributes : List Attr) (kids later : Forest) (b : PageState) → IsFresh b.dom
    → with_forest (tree i (Element name attributes) kids later) b ≡ with_forest later (closed_with name attributes kids b)
element_after i name attributes kids later b fresh =
    ap (λ (d : DomState). record b { dom = d }) (sym (with_nodes_tree (innermost b.opened) i (Element name attributes) kids later b.dom fresh))

-- The steps along the tokens of a document.
abbrev StepsAlong : List ℕ → Forest → (List Token → List Token) → Type 0
StepsAlong prefix forest toks = (after : Bool) (room : ℕ) (start : PageState) (more : List Token) (end : PageState) → MayPrint forest after room → room ≡ most_open - length start.opened → IsFresh start.dom
    → Steps prefix (with_forest forest start) more end → Steps prefix start (toks more) end

element_steps : (prefix : List ℕ) (void : Bool) (i : ℕ) (name : List ℕ) (attributes : List Attr) (kids later : Forest) (inner : List Token → List Token) (rest : List Token) (room : ℕ) (start end : PageState)
    → MayHold void room kids (MayPrint kids false) → room ≡ most_open - length start.opened → IsFresh start.dom → StepsAlong prefix kids inner
    → ((next : PageState) → next.opened ≡ start.opened → IsFresh next.dom → with_forest (tree i (Element name attributes) kids later) start ≡ with_forest later next → Steps prefix next rest end)
    → Steps prefix start (element_toks void name attributes inner rest) end
element_steps prefix true i name attributes kids later inner rest room start end h r fresh k on = (
  with_node (Element name attributes) start,
  stands start name attributes 0,
  on (with_node (Element name attributes) start) refl (fresh_appended (innermost start.opened) (Element name attributes) start.dom fresh) (leaf_after i (Element name attributes) kids later start fresh h),
)
element_steps prefix false i name attributes kids later inner rest zero start end h r fresh k on = absurd h
element_steps prefix false i name attributes kids later inner rest (suc room) start end h r fresh k on =
    let first : PageState = with_open name attributes start in
    let fresh_first : IsFresh first.dom = fresh_appended (innermost start.opened) (Element name attributes) start.dom fresh in
    let full : PageState = with_forest kids first in
    let next : PageState = closed_with name attributes kids start in
    let fresh_next : IsFresh next.dom = fresh_nodes (innermost first.opened) kids first.dom fresh_first in
    let last : Steps prefix full (tok.End name 0 ∷ rest) end =
    (next, ends full (record { id = record { 0 = start.dom.next }; name = name }) start.opened 0 refl, on next refl fresh_next (element_after i name attributes kids later start fresh)) in
    (first, starts start name attributes 0 (omega (arith, r)), k false room first (tok.End name 0 ∷ rest) end h (omega (arith, r)) fresh_first last)

forest_steps : (prefix : List ℕ) (forest : Forest) → StepsAlong prefix forest (forest_toks forest)
forest_steps prefix empty after room start more end h r fresh s = subst (λ b. Steps prefix b more end) (with_none start) s
forest_steps prefix (tree i (Element name attributes) kids later) after room start more end h r fresh s =
    element_steps prefix (is_void name) i name attributes kids later (forest_toks kids) (forest_toks later more) room start end h.2 r fresh (forest_steps prefix kids)
    (λ next same fresh_next is. forest_steps prefix later false room next more end h.3 (r ∙ ap (λ (o : List OpenElement). most_open - length o) (sym same)) fresh_next (subst (λ b. Steps prefix b more end) is s))
forest_steps prefix (tree i (Text text) kids later) after room start more end h r fresh s = (
  with_node (Text text) start,
  says start text 0,
  forest_steps prefix later true room (with_node (Text text) start) more end h.4 r (fresh_appended (innermost start.opened) (Text text) start.dom fresh)
      (subst (λ b. Steps prefix b more end) (leaf_after i (Text text) kids later start fresh h.0) s),
)
forest_steps prefix (tree i (Comment mark) kids later) after room start more end h r fresh s =
    let next : PageState = with_node (Comment mark) start in (
      next,
      subst (λ m. Step prefix start (tok.Comment (said_of mark) 0) (with_node (Comment m) start)) (mark_said mark) (marks start (said_of mark) 0),
      forest_steps prefix later false room next more end h.1 r (fresh_appended (innermost start.opened) (Comment mark) start.dom fresh)
          (subst (λ b. Steps prefix b more end) (leaf_after i (Comment mark) kids later start fresh h.0) s),
    )

-- What is printed leads to the document with it.
pub prints : TokenLaws → (prefix : List ℕ) (start : PageState) (forest : Forest) → IsNumbered start.dom → MayPrint forest false (most_open - length start.opened)
    → (run : Runs prefix start (page_bytes forest) (with_forest forest start)) × LeavesNoRest run
prints laws prefix start forest numbered h =
    let end : PageState = with_forest forest start in
    let toks : List Token = forest_toks forest [] in
    let steps : Steps prefix start toks end = forest_steps prefix forest false (most_open - length start.opened) start [] end h refl (record { none = numbered.given }) refl in
    let are : AreTokens (placed 0 toks) = placed_are 0 false toks (forest_may forest false (most_open - length start.opened) [] h (λ b. tt)) in
    let spelled : spellings (placed 0 toks) ≡ page_bytes forest = placed_spellings 0 toks ∙ (forest_spelled forest [] ∙ append-nil (page_bytes forest)) in
    subst (λ bytes. (run : Runs prefix start bytes end) × LeavesNoRest run) spelled (tokens_run laws prefix start end (placed 0 toks) are (placed_steps prefix 0 start end toks steps))
