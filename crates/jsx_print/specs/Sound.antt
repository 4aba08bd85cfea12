-- What the lexer keeps of the words of productions: names have the form of a name of their mode, and numbers that of
-- a number. Strict, there are no strings in tags and no texts between tags, as in what is printed.
use Rattle.std.specs.Prelude.{◌≡◌, Bool, false, List, ℕ, Option, Some, None}
use Rattle.jsx_lex.specs.Characters.{is_name_part, is_tag_name_part}
use Rattle.jsx_lex.specs.Words.{IsName}
use Rattle.jsx_syntax.specs.declared.name.Name.{Name}
use Rattle.jsx_syntax.specs.Trees.{is_suspense}
use Rattle.jsx_syntax.specs.Grammar.{Sort, Syntax}
use Rattle.jsx_syntax.specs.Grammar as g
use Rattle.jsx_print.specs.Rows.{IsNumeralOf}

abbrev pub IsCodeName : List ℕ → Type 0
IsCodeName text = IsName is_name_part text

abbrev pub IsTagName : List ℕ → Type 0
IsTagName text = IsName is_tag_name_part text

abbrev pub AreCodeNames : Option Name → Type 0
AreCodeNames None = Unit {0}
AreCodeNames (Some x) = IsCodeName x.text

abbrev pub Sound : (strict : Bool) (s : Sort) → Syntax s → Type 0
Sound strict _ (g.number z) = IsNumeralOf z
Sound strict _ (g.string x) = Unit {0}
Sound strict _ (g.truth q) = Unit {0}
Sound strict _ (g.falsity q) = Unit {0}
Sound strict _ (g.null q) = Unit {0}
Sound strict _ (g.undefined q) = Unit {0}
Sound strict _ (g.variable x) = IsCodeName x.text
Sound strict _ (g.parens c) = Sound strict g.expression c
Sound strict _ (g.no_member c) = Sound strict g.primary c
Sound strict _ (g.dot c x) = Sound strict g.member c × IsCodeName x.text
Sound strict _ (g.no_bang c) = Sound strict g.member c
Sound strict _ (g.bang c) = Sound strict g.unary c
Sound strict _ (g.no_plus c) = Sound strict g.unary c
Sound strict _ (g.plus c d) = Sound strict g.sum c × Sound strict g.unary d
Sound strict _ (g.no_equal c) = Sound strict g.sum c
Sound strict _ (g.equal b c d) = Sound strict g.sum c × Sound strict g.sum d
Sound strict _ (g.no_and c) = Sound strict g.equality c
Sound strict _ (g.and c d) = Sound strict g.conjunction c × Sound strict g.equality d
Sound strict _ (g.no_or c) = Sound strict g.conjunction c
Sound strict _ (g.or c d) = Sound strict g.disjunction c × Sound strict g.conjunction d
Sound strict _ (g.no_choice c) = Sound strict g.disjunction c
Sound strict _ (g.choice c d f) = Sound strict g.disjunction c × Sound strict g.expression d × Sound strict g.expression f
Sound strict _ (g.value c) = Sound strict g.expression c
Sound strict _ (g.node_choice c d f) = Sound strict g.disjunction c × Sound strict g.node d × Sound strict g.node f
Sound strict _ (g.chain c) = Sound strict g.node_disjunction c
Sound strict _ (g.or_alone c) = Sound strict g.node_conjunction c
Sound strict _ (g.or_last c d) = Sound strict g.disjunction c × Sound strict g.node_conjunction d
Sound strict _ (g.and_alone c) = Sound strict g.node_primary c
Sound strict _ (g.and_last c d) = Sound strict g.conjunction c × Sound strict g.node_primary d
Sound strict _ (g.node_parens c) = Sound strict g.node c
Sound strict _ (g.element_node c) = Sound strict g.element c
Sound strict _ g.empty_array = Unit {0}
Sound strict _ (g.array c comma) = Sound strict g.node_list c
Sound strict _ (g.first_node c) = Sound strict g.node c
Sound strict _ (g.next_node c d) = Sound strict g.node_list c × Sound strict g.node d
Sound strict _ (g.map_node c q item number_ d) =
    Sound strict g.member c × IsCodeName item.text × AreCodeNames number_ × Sound strict g.node d
Sound strict _ (g.closed x c) = IsTagName x.text × Sound strict (g.attributes (is_suspense x.text)) c
Sound strict _ (g.paired x c d q) =
    IsTagName x.text × Sound strict (g.attributes (is_suspense x.text)) c × Sound strict g.children d
Sound strict _ (g.fragment c) = Sound strict g.children c
Sound strict _ (g.flag x) = IsTagName x.text
Sound strict _ (g.quoted x v) = IsTagName x.text × (strict ≡ false)
Sound strict _ (g.braced x c) = IsTagName x.text × Sound strict g.expression c
Sound strict _ (g.fallback x c) = IsTagName x.text × Sound strict g.node c
Sound strict _ g.no_attribute = Unit {0}
Sound strict _ (g.next_attribute {b = b} c d) = Sound strict (g.attributes b) c × Sound strict (g.attribute b) d
Sound strict _ (g.text x) = strict ≡ false
Sound strict _ g.empty_braces = Unit {0}
Sound strict _ (g.braces c) = Sound strict g.node c
Sound strict _ (g.element_child c) = Sound strict g.element c
Sound strict _ g.no_child = Unit {0}
Sound strict _ (g.next_child c d) = Sound strict g.children c × Sound strict g.child d
Sound strict _ (g.first_name x) = IsCodeName x.text
Sound strict _ (g.next_name c x) = Sound strict g.names c × IsCodeName x.text
Sound strict _ g.no_properties = Unit {0}
Sound strict _ g.empty_properties = Unit {0}
Sound strict _ (g.braced_properties c) = Sound strict g.names c
Sound strict _ (g.fetch q x used c) = IsCodeName x.text × Sound strict g.expression c
Sound strict _ (g.bind q x c) = IsCodeName x.text × Sound strict g.expression c
Sound strict _ (g.throw q c thrown d) = Sound strict g.expression c × Sound strict g.expression d
Sound strict _ g.no_statement = Unit {0}
Sound strict _ (g.next_statement c d) = Sound strict g.statements c × Sound strict g.statement d
Sound strict _ (g.function q x c d returned h) =
    IsCodeName x.text × Sound strict g.properties c × Sound strict g.statements d × Sound strict g.node h
Sound strict _ g.no_component = Unit {0}
Sound strict _ (g.next_component c d) = Sound strict g.components c × Sound strict g.component d
