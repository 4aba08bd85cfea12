-- The words of sound productions stand in a row, before words that do.
use Rattle.std.proofs.Common.{◌≡◌, ◌≢◌, ℕ, Bool, true, false, List, [], ◌∷◌, codes, Some, None, refl, sym, ap, ◌∙◌}
use Rattle.jsx_lex.specs.ModeStack.{ModesAt, first_modes, modes_after}
use Rattle.jsx_lex.specs.declared.mode.Mode.{Mode}
use Rattle.jsx_lex.specs.declared.mode.Mode.TheVariants.{Code, Tag, Children, Close}
use Rattle.jsx_lex.specs.declared.mode.Change.{Change}
use Rattle.jsx_lex.specs.declared.mode.Change.TheVariants.{Keep, Push, Turn, Pop}
use Rattle.jsx_lex.specs.declared.word.Word.{Word}
use Rattle.jsx_lex.specs.declared.word.Word.TheVariants as w
use Rattle.jsx_lex.specs.declared.word.Punctuator.{Punctuator}
use Rattle.jsx_lex.specs.declared.word.Punctuator.TheVariants as p
use Rattle.jsx_syntax.specs.Trees.{is_suspense}
use Rattle.jsx_syntax.specs.Words.{name_word}
use Rattle.jsx_syntax.specs.Grammar.{Sort, Syntax, spell, equal_sign}
use Rattle.jsx_syntax.specs.Grammar as g
use Rattle.jsx_print.specs.Rows.{change_of, NoSlash, Row}
use Rattle.jsx_print.specs.Sound.{Sound}

abbrev at_mode : Mode → List Mode → ModesAt
at_mode m around = record { mode = m; around = around }

-- a mode in which `<` begins an element
abbrev HoldsElements : Mode → Type 0
HoldsElements Code = Unit {0}
HoldsElements Tag = ⊥
HoldsElements Children = Unit {0}
HoldsElements Close = ⊥

true_false : true ≡ false → ⊥
true_false is = cc

abbrev is_brace : Punctuator → Bool
is_brace p.CloseBrace = true
is_brace _ = false

abbrev is_less : Punctuator → Bool
is_less p.Less = true
is_less _ = false

-- A sign that is neither `<` nor `}`.
plain : (s : Punctuator) (m : Mode) (around : List Mode) (c : Change) (more : List Word) (last : ModesAt)
    → change_of m s ≡ Some c → is_brace s ≡ false → is_less s ≡ false
    → Row (modes_after c (at_mode m around)) more last → Row (at_mode m around) (w.Sign s ∷ more) last
plain s m around c more last is brace less h =
    (c, is, λ first e. true_false (sym (ap is_brace e) ∙ brace), λ e. absurd (true_false (sym (ap is_less e) ∙ less)), h)

kept : (s : Punctuator) (around : List Mode) (more : List Word) (last : ModesAt)
    → change_of Code s ≡ Some Keep → is_brace s ≡ false → is_less s ≡ false
    → Row (at_mode Code around) more last → Row (at_mode Code around) (w.Sign s ∷ more) last
kept s around more last is brace less h = plain s Code around Keep more last is brace less h

not_first : (m k : Mode) (around : List Mode) → at_mode m (k ∷ around) ≡ first_modes → ⊥
not_first m k around e = let f : k ∷ around ≡ [] = ap (λ (x : ModesAt). x.around) e in cc

-- `}`, back in the mode around
closing : (k : Mode) (around : List Mode) (more : List Word) (last : ModesAt)
    → Row (at_mode k around) more last → Row (at_mode Code (k ∷ around)) (w.Sign p.CloseBrace ∷ more) last
closing k around more last h = (Pop, refl, λ first e. not_first Code k around first, λ e. absurd (true_false (sym (ap is_less e))), h)

-- `<` before a name or `>`
opening : (m : Mode) (around : List Mode) (more : List Word) (last : ModesAt) → HoldsElements m → NoSlash more
    → Row (at_mode Tag (m ∷ around)) more last → Row (at_mode m around) (w.Sign p.Less ∷ more) last
opening Code around more last held k h = (Push Tag, refl, λ first e. true_false (sym (ap is_brace e)), λ e. k, h)
opening Tag around more last held k h = absurd held
opening Children around more last held k h = (Push Tag, refl, λ first e. true_false (sym (ap is_brace e)), λ e. k, h)
opening Close around more last held k h = absurd held

name_apart : (text : List ℕ) (place : ℕ) → w.Name text place ≢ w.Sign p.SlashGreater
name_apart text place e = cc

sign_apart : w.Sign p.Greater ≢ w.Sign p.SlashGreater
sign_apart e = cc

equal_row : (negated : Bool) (around : List Mode) (more : List Word) (last : ModesAt)
    → Row (at_mode Code around) more last → Row (at_mode Code around) (w.Sign (equal_sign negated) ∷ more) last
equal_row false around more last h = kept p.StrictEqual around more last refl refl refl h
equal_row true around more last h = kept p.StrictNotEqual around more last refl refl refl h

-- In its own mode each nonterminal goes on with words that stand in a row; an element does so in two modes.
abbrev Goes : (s : Sort) → Syntax s → Mode → Type 0
Goes s c m = (around : List Mode) (more : List Word) (last : ModesAt) → Row (at_mode m around) more last → Row (at_mode m around) (spell s c more) last

abbrev Rows : (s : Sort) → Syntax s → Type 0
Rows g.element c = (m : Mode) → HoldsElements m → Goes g.element c m
Rows g.primary c = Goes g.primary c Code
Rows g.member c = Goes g.member c Code
Rows g.unary c = Goes g.unary c Code
Rows g.sum c = Goes g.sum c Code
Rows g.equality c = Goes g.equality c Code
Rows g.conjunction c = Goes g.conjunction c Code
Rows g.disjunction c = Goes g.disjunction c Code
Rows g.expression c = Goes g.expression c Code
Rows g.node_primary c = Goes g.node_primary c Code
Rows g.node_conjunction c = Goes g.node_conjunction c Code
Rows g.node_disjunction c = Goes g.node_disjunction c Code
Rows g.node c = Goes g.node c Code
Rows g.node_list c = Goes g.node_list c Code
Rows (g.attribute b) c = Goes (g.attribute b) c Tag
Rows (g.attributes b) c = Goes (g.attributes b) c Tag
Rows g.child c = Goes g.child c Children
Rows g.children c = Goes g.children c Children
Rows g.names c = Goes g.names c Code
Rows g.properties c = Goes g.properties c Code
Rows g.statement c = Goes g.statement c Code
Rows g.statements c = Goes g.statements c Code
Rows g.component c = Goes g.component c Code
Rows g.components c = Goes g.components c Code

parens_row : (s : Sort) (c : Syntax s) → Goes s c Code → (around : List Mode) (more : List Word) (last : ModesAt) → Row (at_mode Code around) more last
    → Row (at_mode Code around) (w.Sign p.OpenParen ∷ spell s c (w.Sign p.CloseParen ∷ more)) last
parens_row s c goes around more last h =
    kept p.OpenParen around (spell s c (w.Sign p.CloseParen ∷ more)) last refl refl refl
    (goes around (w.Sign p.CloseParen ∷ more) last (kept p.CloseParen around more last refl refl refl h))

-- what stands in braces within a tag, between tags or in code
braces_row : (s : Sort) (c : Syntax s) → Goes s c Code → (m : Mode) → change_of m p.OpenBrace ≡ Some (Push Code)
    → (around : List Mode) (more : List Word) (last : ModesAt) → Row (at_mode m around) more last
    → Row (at_mode m around) (w.Sign p.OpenBrace ∷ spell s c (w.Sign p.CloseBrace ∷ more)) last
braces_row s c goes m is around more last h =
    plain p.OpenBrace m around (Push Code) (spell s c (w.Sign p.CloseBrace ∷ more)) last is refl refl
    (goes (m ∷ around) (w.Sign p.CloseBrace ∷ more) last (closing m around more last h))

rows : (s : Sort) (c : Syntax s) → Sound true s c → Rows s c
rows _ (g.number z) n = λ around more last h. (refl, n, h)
rows _ (g.string x) n = λ around more last h. (refl, h)
rows _ (g.truth q) n = λ around more last h. ((refl, refl), h)
rows _ (g.falsity q) n = λ around more last h. ((refl, refl), h)
rows _ (g.null q) n = λ around more last h. ((refl, refl), h)
rows _ (g.undefined q) n = λ around more last h. ((refl, refl), h)
rows _ (g.variable x) n = λ around more last h. (n, h)
rows _ (g.parens c) n = parens_row g.expression c (rows _ c n)
rows _ (g.no_member c) n = rows _ c n
rows _ (g.dot c x) n = λ around more last h.
    rows _ c n.0 around (w.Sign p.Dot ∷ name_word x ∷ more) last (kept p.Dot around (name_word x ∷ more) last refl refl refl (n.1, h))
rows _ (g.no_bang c) n = rows _ c n
rows _ (g.bang c) n = λ around more last h. kept p.Not around (spell g.unary c more) last refl refl refl (rows _ c n around more last h)
rows _ (g.no_plus c) n = rows _ c n
rows _ (g.plus c d) n = λ around more last h.
    rows _ c n.0 around (w.Sign p.Plus ∷ spell g.unary d more) last (kept p.Plus around (spell g.unary d more) last refl refl refl (rows _ d n.1 around more last h))
rows _ (g.no_equal c) n = rows _ c n
rows _ (g.equal b c d) n = λ around more last h.
    rows _ c n.0 around (w.Sign (equal_sign b) ∷ spell g.sum d more) last (equal_row b around (spell g.sum d more) last (rows _ d n.1 around more last h))
rows _ (g.no_and c) n = rows _ c n
rows _ (g.and c d) n = λ around more last h.
    rows _ c n.0 around (w.Sign p.AndAnd ∷ spell g.equality d more) last (kept p.AndAnd around (spell g.equality d more) last refl refl refl (rows _ d n.1 around more last h))
rows _ (g.no_or c) n = rows _ c n
rows _ (g.or c d) n = λ around more last h.
    rows _ c n.0 around (w.Sign p.OrOr ∷ spell g.conjunction d more) last (kept p.OrOr around (spell g.conjunction d more) last refl refl refl (rows _ d n.1 around more last h))
rows _ (g.no_choice c) n = rows _ c n
rows _ (g.choice c d f) n = λ around more last h.
    let tail : List Word = w.Sign p.Colon ∷ spell g.expression f more in
    rows _ c n.0 around (w.Sign p.Question ∷ spell g.expression d tail) last (kept p.Question around (spell g.expression d tail) last refl refl refl
    (rows _ d n.1 around tail last (kept p.Colon around (spell g.expression f more) last refl refl refl (rows _ f n.2 around more last h))))
rows _ (g.value c) n = rows _ c n
rows _ (g.node_choice c d f) n = λ around more last h.
    let tail : List Word = w.Sign p.Colon ∷ spell g.node f more in
    rows _ c n.0 around (w.Sign p.Question ∷ spell g.node d tail) last (kept p.Question around (spell g.node d tail) last refl refl refl
    (rows _ d n.1 around tail last (kept p.Colon around (spell g.node f more) last refl refl refl (rows _ f n.2 around more last h))))
rows _ (g.chain c) n = rows _ c n
rows _ (g.or_alone c) n = rows _ c n
rows _ (g.or_last c d) n = λ around more last h.
    rows _ c n.0 around (w.Sign p.OrOr ∷ spell g.node_conjunction d more) last
    (kept p.OrOr around (spell g.node_conjunction d more) last refl refl refl (rows _ d n.1 around more last h))
rows _ (g.and_alone c) n = rows _ c n
rows _ (g.and_last c d) n = λ around more last h.
    rows _ c n.0 around (w.Sign p.AndAnd ∷ spell g.node_primary d more) last
    (kept p.AndAnd around (spell g.node_primary d more) last refl refl refl (rows _ d n.1 around more last h))
rows _ (g.node_parens c) n = parens_row g.node c (rows _ c n)
rows _ (g.element_node c) n = rows _ c n Code tt
rows _ g.empty_array n = λ around more last h.
    kept p.OpenBracket around (w.Sign p.CloseBracket ∷ more) last refl refl refl (kept p.CloseBracket around more last refl refl refl h)
rows _ (g.array c false) n = λ around more last h.
    let end : List Word = w.Sign p.CloseBracket ∷ more in
    kept p.OpenBracket around (spell g.node_list c end) last refl refl refl
    (rows _ c n around end last (kept p.CloseBracket around more last refl refl refl h))
rows _ (g.array c true) n = λ around more last h.
    let end : List Word = w.Sign p.CloseBracket ∷ more in
    kept p.OpenBracket around (spell g.node_list c (w.Sign p.Comma ∷ end)) last refl refl refl
    (rows _ c n around (w.Sign p.Comma ∷ end) last (kept p.Comma around end last refl refl refl (kept p.CloseBracket around more last refl refl refl h)))
rows _ (g.first_node c) n = rows _ c n
rows _ (g.next_node c d) n = λ around more last h.
    rows _ c n.0 around (w.Sign p.Comma ∷ spell g.node d more) last (kept p.Comma around (spell g.node d more) last refl refl refl (rows _ d n.1 around more last h))
rows _ (g.map_node c q item None d) n = λ around more last h.
    let end : List Word = w.Sign p.CloseParen ∷ more in
    let body : List Word = spell g.node d end in
    let arrow : List Word = w.Sign p.CloseParen ∷ w.Sign p.Arrow ∷ body in
    let names : List Word = name_word item ∷ arrow in
    rows _ c n.0 around (w.Sign p.Dot ∷ w.Name (codes "map") q ∷ w.Sign p.OpenParen ∷ w.Sign p.OpenParen ∷ names) last
    (kept p.Dot around (w.Name (codes "map") q ∷ w.Sign p.OpenParen ∷ w.Sign p.OpenParen ∷ names) last refl refl refl (
      (refl, refl),
      kept p.OpenParen around (w.Sign p.OpenParen ∷ names) last refl refl refl (kept p.OpenParen around names last refl refl refl (
        n.1,
        kept p.CloseParen around (w.Sign p.Arrow ∷ body) last refl refl refl (kept p.Arrow around body last refl refl refl
            (rows _ d n.3 around end last (kept p.CloseParen around more last refl refl refl h))),
      )),
    ))
rows _ (g.map_node c q item (Some number_) d) n = λ around more last h.
    let end : List Word = w.Sign p.CloseParen ∷ more in
    let body : List Word = spell g.node d end in
    let arrow : List Word = w.Sign p.CloseParen ∷ w.Sign p.Arrow ∷ body in
    let names : List Word = name_word item ∷ w.Sign p.Comma ∷ name_word number_ ∷ arrow in
    rows _ c n.0 around (w.Sign p.Dot ∷ w.Name (codes "map") q ∷ w.Sign p.OpenParen ∷ w.Sign p.OpenParen ∷ names) last
    (kept p.Dot around (w.Name (codes "map") q ∷ w.Sign p.OpenParen ∷ w.Sign p.OpenParen ∷ names) last refl refl refl (
      (refl, refl),
      kept p.OpenParen around (w.Sign p.OpenParen ∷ names) last refl refl refl (kept p.OpenParen around names last refl refl refl (
        n.1,
        kept p.Comma around (name_word number_ ∷ arrow) last refl refl refl (
          n.2,
          kept p.CloseParen around (w.Sign p.Arrow ∷ body) last refl refl refl (kept p.Arrow around body last refl refl refl
              (rows _ d n.3 around end last (kept p.CloseParen around more last refl refl refl h))),
        ),
      )),
    ))
rows _ (g.closed x c) n = λ m held around more last h.
    let inner : List Word = spell (g.attributes (is_suspense x.text)) c (w.Sign p.SlashGreater ∷ more) in
    opening m around (name_word x ∷ inner) last held (name_apart x.text x.at) (
      n.0,
      rows _ c n.1 (m ∷ around) (w.Sign p.SlashGreater ∷ more) last (plain p.SlashGreater Tag (m ∷ around) Pop more last refl refl refl h),
    )
rows _ (g.paired x c d q) n = λ m held around more last h.
    let name : List Word = w.Name x.text q ∷ w.Sign p.Greater ∷ more in
    let kids : List Word = spell g.children d (w.Sign p.LessSlash ∷ name) in
    opening m around (name_word x ∷ spell (g.attributes (is_suspense x.text)) c (w.Sign p.Greater ∷ kids)) last held (name_apart x.text x.at) (
      n.0,
      rows _ c n.1 (m ∷ around) (w.Sign p.Greater ∷ kids) last (plain p.Greater Tag (m ∷ around) (Turn Children) kids last refl refl refl
          (rows _ d n.2 (m ∷ around) (w.Sign p.LessSlash ∷ name) last (plain p.LessSlash Children (m ∷ around) (Turn Close) name last refl refl refl (
            n.0,
            plain p.Greater Close (m ∷ around) Pop more last refl refl refl h,
          )))),
    )
rows _ (g.fragment c) n = λ m held around more last h.
    let end : List Word = w.Sign p.LessSlash ∷ w.Sign p.Greater ∷ more in
    opening m around (w.Sign p.Greater ∷ spell g.children c end) last held sign_apart
    (plain p.Greater Tag (m ∷ around) (Turn Children) (spell g.children c end) last refl refl refl
    (rows _ c n (m ∷ around) end last (plain p.LessSlash Children (m ∷ around) (Turn Close) (w.Sign p.Greater ∷ more) last refl refl refl
    (plain p.Greater Close (m ∷ around) Pop more last refl refl refl h))))
rows _ (g.flag x) n = λ around more last h. (n, h)
rows _ (g.quoted x v) n = absurd (true_false n.1)
rows _ (g.braced x c) n = λ around more last h. (
  n.0,
  plain p.Assign Tag around Keep (w.Sign p.OpenBrace ∷ spell g.expression c (w.Sign p.CloseBrace ∷ more)) last refl refl refl
      (braces_row g.expression c (rows _ c n.1) Tag refl around more last h),
)
rows _ (g.fallback x c) n = λ around more last h. (
  n.0,
  plain p.Assign Tag around Keep (w.Sign p.OpenBrace ∷ spell g.node c (w.Sign p.CloseBrace ∷ more)) last refl refl refl
      (braces_row g.node c (rows _ c n.1) Tag refl around more last h),
)
rows _ g.no_attribute n = λ around more last h. h
rows _ (g.next_attribute {b = b} c d) n = λ around more last h.
    rows _ c n.0 around (spell (g.attribute b) d more) last (rows _ d n.1 around more last h)
rows _ (g.text x) n = absurd (true_false n)
rows _ g.empty_braces n = λ around more last h.
    plain p.OpenBrace Children around (Push Code) (w.Sign p.CloseBrace ∷ more) last refl refl refl (closing Children around more last h)
rows _ (g.braces c) n = braces_row g.node c (rows _ c n) Children refl
rows _ (g.element_child c) n = rows _ c n Children tt
rows _ g.no_child n = λ around more last h. h
rows _ (g.next_child c d) n = λ around more last h. rows _ c n.0 around (spell g.child d more) last (rows _ d n.1 around more last h)
rows _ (g.first_name x) n = λ around more last h. (n, h)
rows _ (g.next_name c x) n = λ around more last h.
    rows _ c n.0 around (w.Sign p.Comma ∷ name_word x ∷ more) last (kept p.Comma around (name_word x ∷ more) last refl refl refl (n.1, h))
rows _ g.no_properties n = λ around more last h. h
rows _ g.empty_properties n = λ around more last h.
    plain p.OpenBrace Code around (Push Code) (w.Sign p.CloseBrace ∷ more) last refl refl refl (closing Code around more last h)
rows _ (g.braced_properties c) n = braces_row g.names c (rows _ c n) Code refl
rows _ (g.fetch q x used c) n = λ around more last h.
    let end : List Word = w.Sign p.CloseParen ∷ w.Sign p.Semicolon ∷ more in
    let value : List Word = w.Name (codes "use") used ∷ w.Sign p.OpenParen ∷ spell g.expression c end in (
      (refl, refl),
      (
        n.0,
        kept p.Assign around value last refl refl refl (
          (refl, refl),
          kept p.OpenParen around (spell g.expression c end) last refl refl refl
              (rows _ c n.1 around end last (kept p.CloseParen around (w.Sign p.Semicolon ∷ more) last refl refl refl (kept p.Semicolon around more last refl refl refl h))),
        ),
      ),
    )
rows _ (g.bind q x c) n = λ around more last h.
    let value : List Word = spell g.expression c (w.Sign p.Semicolon ∷ more) in (
      (refl, refl),
      (
        n.0,
        kept p.Assign around value last refl refl refl
            (rows _ c n.1 around (w.Sign p.Semicolon ∷ more) last (kept p.Semicolon around more last refl refl refl h)),
      ),
    )
rows _ (g.throw q c thrown d) n = λ around more last h.
    let digest : List Word = spell g.expression d (w.Sign p.Semicolon ∷ more) in
    let end : List Word = w.Sign p.CloseParen ∷ w.Name (codes "throw") thrown ∷ digest in (
      (refl, refl),
      kept p.OpenParen around (spell g.expression c end) last refl refl refl
          (rows _ c n.0 around end last (kept p.CloseParen around (w.Name (codes "throw") thrown ∷ digest) last refl refl refl (
            (refl, refl),
            rows _ d n.1 around (w.Sign p.Semicolon ∷ more) last (kept p.Semicolon around more last refl refl refl h),
          ))),
    )
rows _ g.no_statement n = λ around more last h. h
rows _ (g.next_statement c d) n = λ around more last h.
    rows _ c n.0 around (spell g.statement d more) last (rows _ d n.1 around more last h)
rows _ (g.function q x c d returned k) n = λ around more last h.
    let within : List Mode = Code ∷ around in
    let close : List Word = w.Sign p.CloseBrace ∷ more in
    let node : List Word = spell g.node k (w.Sign p.Semicolon ∷ close) in
    let body : List Word = spell g.statements d (w.Name (codes "return") returned ∷ node) in
    let head : List Word = w.Sign p.CloseParen ∷ w.Sign p.OpenBrace ∷ body in (
      (refl, refl),
      (
        n.0,
        kept p.OpenParen around (spell g.properties c head) last refl refl refl
            (rows _ c n.1 around head last (kept p.CloseParen around (w.Sign p.OpenBrace ∷ body) last refl refl refl
            (plain p.OpenBrace Code around (Push Code) body last refl refl refl
            (rows _ d n.2 within (w.Name (codes "return") returned ∷ node) last (
              (refl, refl),
              rows _ k n.3 within (w.Sign p.Semicolon ∷ close) last (kept p.Semicolon within close last refl refl refl (closing Code around more last h)),
            ))))),
      ),
    )
rows _ g.no_component n = λ around more last h. h
rows _ (g.next_component c d) n = λ around more last h.
    rows _ c n.0 around (spell g.component d more) last (rows _ d n.1 around more last h)

pub file_row : (c : Syntax g.components) → Sound true g.components c → Row first_modes (spell g.components c []) first_modes
file_row c n = rows g.components c n [] [] first_modes refl
