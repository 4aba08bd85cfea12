-- The rest places within one item: an element with what stands in it, or a script.
use Rattle.std.proofs.Common.{◌≡◌, ℕ, ◌+◌, ◌-◌, ◌<◌, ◌≤◌, ◌⊎◌, inl, inr, Bool, true, false, List, [], ◌∷◌, ◌++◌, codes, length, take, drop, refl, sym, ap, ◌∙◌, subst, arith, append_assoc, append-nil}
use Rattle.std.proofs.lemmas.Bool.{cases_lt}
use Rattle.std.proofs.lemmas.List.{append_cancel_left, length-take-le, take-append-drop}
use Rattle.std.proofs.lemmas.List.Concat.{flat_map-append}
use Rattle.fizz_text.specs.declared.attribute.Attr.{Attr}
use Rattle.html_names.specs.declared.comments.CommentKind.TheVariants as comment
use Rattle.dom_forest.specs.Forest.{Forest, empty, tree}
use Rattle.dom_forest.specs.Printing.{is_void}
use Rattle.dom_forest.specs.declared.node.NewNode.TheVariants.{Comment, Element, Text}
use Rattle.fizz_instructions.specs.Bodies.{body_of, script_of}
use Rattle.fizz_instructions.specs.declared.instruction.Instruction.{Instruction}
use Rattle.html_read.specs.Faults.{Splits, begins_tag, ends_in_text}
use Rattle.html_read.specs.Tokens.{IsToken, Tokenizes, is_text, spelling, spellings}
use Rattle.html_read.specs.declared.token.Token.{Token}
use Rattle.html_read.specs.declared.token.Token.TheVariants as tok
use Rattle.document_machine.specs.Places.{IsClosedAt, open_after, still_open}
use Rattle.document_machine.specs.Printing.{MayPrint, page_bytes}
use Rattle.document_machine.proofs.JoinedRuns.{text_no_tag}
use Rattle.document_machine.proofs.MovedTokens.{moved, placed, placed_are, placed_spellings}
use Rattle.document_machine.proofs.PrintedForests.{element_toks, forest_may, forest_spelled, forest_toks}
use Rattle.document_machine.proofs.TokenRuns.{ends_in}
use Rattle.page_laws.proofs.PlacesLemmas.{TokenLaws, closed_after, closed_within, nothing_true, still_open-append, then_begun}
use Rattle.page_laws.specs.PagePlaces.{AreOneItem, ClosesAtEnd, IsClosed, IsOneItem}

-- Tokens that close what they open only at their end have no other place where they do.
closes_none_after : (n : ℕ) (xs ys : List Token) → ClosesAtEnd n (xs ++ ys) → still_open n xs ≡ 0 → ys ≡ []
closes_none_after n [] [] c h = refl
closes_none_after n [] (y ∷ ys) c h = absurd (omega (arith, c.0, h))
closes_none_after n (x ∷ xs) ys c h = closes_none_after (open_after n x) xs ys c.1 h

item_front : (xs ys toks : List Token) → toks ≡ xs ++ ys → AreOneItem toks → still_open 0 xs ≡ 0 → (xs ≡ []) ⊎ (ys ≡ [])
item_front [] ys toks is one h = inl refl
item_front (x ∷ xs) ys toks is one h = inr (closes_none_after (open_after 0 x) xs ys (subst AreOneItem is one).1 h)

closes_at_end : (n : ℕ) (toks : List Token) → ClosesAtEnd n toks → still_open n toks ≡ 0
closes_at_end n [] c = c
closes_at_end n (t ∷ ts) c = closes_at_end (open_after n t) ts c.1

item_closes : (toks : List Token) → AreOneItem toks → still_open 0 toks ≡ 0
item_closes [] one = absurd one
item_closes (t ∷ ts) one = closes_at_end (open_after 0 t) ts one.1

comment_tag : (which : _) (more : List ℕ) → begins_tag (spelling (tok.Comment which 0) ++ more) ≡ true
comment_tag comment.Complete more = refl
comment_tag comment.Pending more = refl
comment_tag comment.Client more = refl
comment_tag comment.End more = refl
comment_tag comment.Space more = refl

pub token_tag : (t : Token) (more : List ℕ) → is_text t ≡ false → begins_tag (spelling t ++ more) ≡ true
token_tag (tok.Start name attributes from) more n = refl
token_tag (tok.End name from) more n = refl
token_tag (tok.Void name attributes from) more n = refl
token_tag (tok.Text text from) more n = absurd (nothing_true (sym n))
token_tag (tok.Comment which from) more n = comment_tag which more
token_tag (tok.Script body from) more n = refl

item_tag : (toks : List Token) (more : List ℕ) → AreOneItem toks → begins_tag (spellings toks ++ more) ≡ true
item_tag [] more one = absurd one
item_tag (t ∷ ts) more one = ap begins_tag (append_assoc (spelling t) (spellings ts) more) ∙ token_tag t (spellings ts ++ more) one.0

text_open : (n : ℕ) (t : Token) → is_text t ≡ true → open_after n t ≡ n
text_open n (tok.Start name attributes from) e = absurd (nothing_true e)
text_open n (tok.End name from) e = absurd (nothing_true e)
text_open n (tok.Void name attributes from) e = absurd (nothing_true e)
text_open n (tok.Text text from) e = refl
text_open n (tok.Comment which from) e = absurd (nothing_true e)
text_open n (tok.Script body from) e = absurd (nothing_true e)

-- A text is not spelled by nothing.
pub text_some : (t : Token) → IsToken t → is_text t ≡ true → spelling t ≡ [] → ⊥
text_some t is text none = nothing_true (sym (text_no_tag t (60 ∷ []) is text) ∙ ap (λ xs. begins_tag (xs ++ 60 ∷ [])) none)

pub no_bytes : (a b : List ℕ) → a ++ b ≡ [] → a ≡ []
no_bytes [] b e = refl
no_bytes (x ∷ xs) b e = cc

spelled_none : (toks : List Token) (bytes : List ℕ) → bytes ≡ spellings toks → toks ≡ [] → bytes ≡ []
spelled_none toks bytes are none = are ∙ ap spellings none

place_zero : (bytes : List ℕ) (k : ℕ) → k ≤ length bytes → take k bytes ≡ [] → k ≡ 0
place_zero bytes k within none = omega (arith, length-take-le k bytes within, ap length none)

place_end : (bytes : List ℕ) (k : ℕ) → k ≤ length bytes → take k bytes ≡ bytes → k ≡ length bytes
place_end bytes k within all = sym (length-take-le k bytes within) ∙ ap length all

-- The tokens at a place in one item, where these are its first ones.
front_place : (bytes : List ℕ) (k : ℕ) (toks first further : List Token) → Tokenizes bytes toks → AreOneItem toks → k ≤ length bytes → take k bytes ≡ spellings first
    → still_open 0 first ≡ 0 → toks ≡ first ++ further → (k ≡ 0) ⊎ (k ≡ length bytes)
front_place bytes k toks first further are one within spelled closed all = elim (item_front first further toks all one closed) [
  | inl none ↦ inl (place_zero bytes k within (spelled_none first (take k bytes) spelled none))
  | inr none ↦ inr (place_end bytes k within (spelled ∙ sym (are.spelled ∙ ap spellings (all ∙ ap (λ xs. first ++ xs) none ∙ append-nil first))))
]

-- No text ends at a place of one item that closes what it opens.
text_place : (bytes : List ℕ) (k : ℕ) (toks front further : List Token) (t : Token) → Tokenizes bytes toks → AreOneItem toks → take k bytes ≡ spellings front ++ spelling t
    → IsToken t → is_text t ≡ true → still_open 0 front ≡ 0 → toks ≡ front ++ further → ⊥
text_place bytes k toks front further t are one spelled is text closed all = elim (item_front front further toks all one closed) [
  | inl none ↦ nothing_true
      (sym (text_no_tag t (drop k bytes) is text)
      ∙ ap begins_tag (ap (λ xs. xs ++ drop k bytes) (sym (spelled ∙ ap (λ xs. spellings xs ++ spelling t) none)) ∙ take-append-drop k bytes ∙ are.spelled ∙ sym (append-nil (spellings toks)))
      ∙ item_tag toks [] one)
  | inr none ↦ text_some t is text
      (no_bytes (spelling t) (drop k bytes)
      (append_cancel_left (spellings front) (spelling t ++ drop k bytes) []
      (sym (append_assoc (spellings front) (spelling t) (drop k bytes)) ∙ ap (λ xs. xs ++ drop k bytes) (sym spelled) ∙ take-append-drop k bytes ∙ are.spelled
      ∙ ap spellings (all ∙ ap (λ xs. front ++ xs) none ∙ append-nil front) ∙ sym (append-nil (spellings front)))))
]

pub item_place : TokenLaws → (bytes : List ℕ) (k : ℕ) → IsOneItem bytes → IsClosedAt bytes k → (k ≡ 0) ⊎ (k ≡ length bytes)
item_place laws bytes k item c = by_text (ends_in_text false c.toks) refl where
  split : Splits (bytes ++ 60 ∷ []) item.toks (60 ∷ [])
  split = then_begun bytes item.toks item.are

  after : (front : List ℕ) (more : List ℕ) → take k bytes ≡ front → bytes ++ more ≡ front ++ (drop k bytes ++ more)
  after front more e = ap (λ xs. xs ++ more) (sym (take-append-drop k bytes)) ∙ append_assoc (take k bytes) (drop k bytes) more ∙ ap (λ xs. xs ++ (drop k bytes ++ more)) e

  by_text : (b : Bool) → ends_in_text false c.toks ≡ b → (k ≡ 0) ⊎ (k ≡ length bytes)
  by_text false last =
      let found = laws.first_tokens (bytes ++ 60 ∷ []) c.toks item.toks (drop k bytes ++ 60 ∷ []) (60 ∷ []) c.are.tokens (after (spellings c.toks) (60 ∷ []) c.are.spelled)
      (λ e. absurd (nothing_true (sym last ∙ e))) split in
      front_place bytes k item.toks c.toks found.0 item.are item.one c.within c.are.spelled c.closed found.1
  by_text true e =
      let t = ends_in c.toks c.are.tokens e in
      let spelled : take k bytes ≡ spellings t.front ++ spelling t.last =
      c.are.spelled ∙ ap spellings t.are ∙ flat_map-append spelling t.front (t.last ∷ []) ∙ ap (λ xs. spellings t.front ++ xs) (append-nil (spelling t.last)) in
      let found = laws.first_tokens (bytes ++ 60 ∷ []) t.front item.toks (spelling t.last ++ (drop k bytes ++ 60 ∷ [])) (60 ∷ []) t.tokens
      (after (spellings t.front ++ spelling t.last) (60 ∷ []) spelled ∙ append_assoc (spellings t.front) (spelling t.last) (drop k bytes ++ 60 ∷ []))
      (λ e. absurd (nothing_true (sym t.before ∙ e))) split in
      let closed : still_open 0 t.front ≡ 0 =
      sym (text_open (still_open 0 t.front) t.last t.text) ∙ sym (still_open-append 0 t.front (t.last ∷ [])) ∙ ap (still_open 0) (sym t.are) ∙ c.closed in
      absurd (text_place bytes k item.toks t.front found.0 t.last item.are item.one spelled t.is_token t.text closed found.1)

pub closed_item : (bytes : List ℕ) → IsOneItem bytes → IsClosed bytes
closed_item bytes item = record { toks = item.toks; are = item.are; closed = item_closes item.toks item.one }

pub items_places : TokenLaws → (a b : List ℕ) (k : ℕ) → IsOneItem a → IsOneItem b → IsClosedAt (a ++ b) k → (k ≡ 0) ⊎ ((k ≡ length a) ⊎ (k ≡ length a + length b))
items_places laws a b k one other c = elim (cases_lt (length a) k) [
  | inl past ↦
      let at : length a + (k - length a) ≡ k = omega (arith, past) in
      let tag : begins_tag b ≡ true = ap begins_tag (other.are.spelled ∙ sym (append-nil (spellings other.toks))) ∙ item_tag other.toks [] other.one in
      let later = closed_after laws a b (k - length a) (closed_item a one) tag (subst (IsClosedAt (a ++ b)) (sym at) c) in
      inr (elim (item_place laws b (k - length a) other later) [ inl none ↦ inl (omega (arith, none, past)) | inr all ↦ inr (omega (arith, all, past)) ])
  | inr within ↦ elim (item_place laws a k one (closed_within a b k within c)) [ inl none ↦ inl none | inr all ↦ inr (inl all) ]
]

-- Printed elements and scripts are one item each.

open_moved : (n place : ℕ) (t : Token) → open_after n (moved place t) ≡ open_after n t
open_moved n place (tok.Start name attributes from) = refl
open_moved n place (tok.End name from) = refl
open_moved n place (tok.Void name attributes from) = refl
open_moved n place (tok.Text text from) = refl
open_moved n place (tok.Comment which from) = refl
open_moved n place (tok.Script body from) = refl

text_moved : (place : ℕ) (t : Token) → is_text (moved place t) ≡ is_text t
text_moved place (tok.Start name attributes from) = refl
text_moved place (tok.End name from) = refl
text_moved place (tok.Void name attributes from) = refl
text_moved place (tok.Text text from) = refl
text_moved place (tok.Comment which from) = refl
text_moved place (tok.Script body from) = refl

closes_placed : (n place : ℕ) (toks : List Token) → ClosesAtEnd n toks → ClosesAtEnd n (placed place toks)
closes_placed n place [] c = c
closes_placed n place (t ∷ ts) c =
    (c.0, subst (λ m. ClosesAtEnd m (placed (place + length (spelling t)) ts)) (sym (open_moved n place t)) (closes_placed (open_after n t) (place + length (spelling t)) ts c.1))

item_placed : (place : ℕ) (toks : List Token) → AreOneItem toks → AreOneItem (placed place toks)
item_placed place [] one = absurd one
item_placed place (t ∷ ts) one = (
  text_moved place t ∙ one.0,
  subst (λ m. ClosesAtEnd m (placed (place + length (spelling t)) ts)) (sym (open_moved 0 place t)) (closes_placed (open_after 0 t) (place + length (spelling t)) ts one.1),
)

element_closes : (void : Bool) (name : List ℕ) (attributes : List Attr) (inner : List Token → List Token) (n : ℕ) (rest : List Token) → 0 < n → ClosesAtEnd n rest
    → ((more : List Token) → ClosesAtEnd (n + 1) more → ClosesAtEnd (n + 1) (inner more)) → ClosesAtEnd n (element_toks void name attributes inner rest)
element_closes true name attributes inner n rest some c k = (some, c)
element_closes false name attributes inner n rest some c k =
    let less : n + 1 - 1 ≡ n = omega arith in
    (some, k (tok.End name 0 ∷ rest) (omega arith, subst (λ m. ClosesAtEnd m rest) (sym less) c))

forest_closes : (forest : Forest) (n : ℕ) (more : List Token) → 0 < n → ClosesAtEnd n more → ClosesAtEnd n (forest_toks forest more)
forest_closes empty n more some c = c
forest_closes (tree i (Element name attributes) kids later) n more some c =
    element_closes (is_void name) name attributes (forest_toks kids) n (forest_toks later more) some (forest_closes later n more some c)
    (λ ts d. forest_closes kids (n + 1) ts (omega arith) d)
forest_closes (tree i (Text text) kids later) n more some c = (some, forest_closes later n more some c)
forest_closes (tree i (Comment mark) kids later) n more some c = (some, forest_closes later n more some c)

element_item : (void : Bool) (name : List ℕ) (attributes : List Attr) (kids : Forest) → AreOneItem (element_toks void name attributes (forest_toks kids) [])
element_item true name attributes kids = (refl, refl)
element_item false name attributes kids = (refl, forest_closes kids 1 (tok.End name 0 ∷ []) (omega arith) (omega arith, refl))

pub printed_item : (i : ℕ) (name : List ℕ) (attributes : List Attr) (kids : Forest) (room : ℕ) → MayPrint (tree i (Element name attributes) kids empty) false room
    → IsOneItem (page_bytes (tree i (Element name attributes) kids empty))
printed_item i name attributes kids room may =
    let forest : Forest = tree i (Element name attributes) kids empty in
    let toks : List Token = forest_toks forest [] in
    record {
      toks = placed 0 toks;
      are = record {
        spelled = sym (placed_spellings 0 toks ∙ (forest_spelled forest [] ∙ append-nil (page_bytes forest)));
        tokens = placed_are 0 false toks (forest_may forest false room [] may (λ b. tt));
      };
      one = item_placed 0 toks (element_item (is_void name) name attributes kids);
    }

pub script_item : ((prefix : List ℕ) (i : Instruction) (defines : Bool) (before after : List ℕ) → body_of prefix i defines ≡ before ++ (codes "</script>" ++ after) → ⊥)
    → (prefix : List ℕ) (i : Instruction) (defines : Bool) → IsOneItem (script_of prefix i defines)
script_item no_end prefix i defines = record {
  toks = tok.Script (body_of prefix i defines) 0 ∷ [];
  are = record { spelled = sym (append-nil (script_of prefix i defines)); tokens = (no_end prefix i defines, refl, tt, tt) };
  one = (refl, refl);
}
