-- Printed nodes as productions, as it is with expressions.
use Rattle.std.proofs.Common.{◌≡◌, ◌≤◌, ◌<◌, ℕ, zero, suc, ◌+◌, Bool, true, false, nat_le, if◌then◌else◌, List, [], ◌∷◌, ◌++◌, map, codes, Option, Some, None, refl, sym, ap, subst, ◌∙◌, ◌⊎◌, inl, inr, ⊎_elim, Result, Ok, Err, append-nil, append_assoc, arith}
use Rattle.std.proofs.lemmas.Bool.{cases_Bool, cases_lt, leb-true, leb-false, lt-leb}
use Rattle.std.proofs.lemmas.Grind.{flat_map-append}
use Rattle.std.proofs.lemmas.List.{map-append}
use Rattle.jsx_lex.specs.declared.word.Word.{Word}
use Rattle.jsx_lex.specs.declared.word.Word.TheVariants as w
use Rattle.jsx_lex.specs.declared.word.Punctuator.TheVariants as p
use Rattle.jsx_syntax.specs.declared.name.Name.{Name}
use Rattle.jsx_syntax.specs.declared.name.Entry.{Entry}
use Rattle.jsx_syntax.specs.declared.expr.Expr.{Expr}
use Rattle.jsx_syntax.specs.declared.node.Node.{Node}
use Rattle.jsx_syntax.specs.declared.node.Node.TheVariants as n
use Rattle.jsx_syntax.specs.declared.node.Node.TheOpen as layer
use Rattle.jsx_syntax.specs.declared.node.Node.TheFolds.{fold-roll-Node}
use Rattle.jsx_syntax.specs.Trees.{or_of, node_of, other, choose_part, and_part, or_part}
use Rattle.jsx_syntax.specs.Words.{name_word}
use Rattle.jsx_syntax.specs.Steps.{part_value}
use Rattle.jsx_syntax.specs.declared.fault.Wanted.{Wanted}
use Rattle.jsx_syntax.specs.declared.fault.Wanted.TheVariants as wanted
use Rattle.jsx_syntax.specs.Grammar.{Sort, Syntax, Meaning, spell, tree, Fits, HasRoom, IsName, AreNames}
use Rattle.jsx_syntax.specs.Grammar as g
use Rattle.jsx_print.specs.Sound.{IsCodeName, AreCodeNames}
use Rattle.jsx_print.specs.Printing.{Printed, so_tight, keyword, in_parens, operand, chain, choice_words, last_words, later_items, items_words, array_words, variables_words, map_words, element_words, fragment_words, node_step, printed, printed_node}
use Rattle.jsx_print.specs.Seen.{printed_entry}
use Rattle.jsx_print.proofs.Forms.{Spells, At, Prints, whole_good, operand_good, wider, Ands, Ors, ands_more, ands_good, ors_more, ors_good, choice_good, choice_spelled}

-- What stands in a node place, and one that is a value: a production of the value stands for it, since the type's own
-- variants have no names here.
abbrev pub Part : Type 0
Part = Meaning g.node

abbrev pub value_part : Syntax g.expression → Part
value_part c = tree g.node (g.value c)

true_false : true ≡ false → ⊥
true_false is = cc

-- A value is no node, and one value.
ok_is : (x y : Expr) (r : Result Expr Wanted) → r ≡ Ok x → r ≡ Ok y → x ≡ y
ok_is x y r e f = cc

ok_no : (x : Expr) (v : Wanted) (r : Result Expr Wanted) → r ≡ Ok x → r ≡ Err v → ⊥
ok_no x v r e f = cc

pub one_value : (x : Part) (c d : Syntax g.expression) → x ≡ value_part c → x ≡ value_part d → tree g.expression c ≡ tree g.expression d
one_value x c d e f = ok_is (tree g.expression c) (tree g.expression d) (part_value x) (ap part_value e) (ap part_value f)

pub no_both : (x : Part) (c : Syntax g.expression) (y : Node) → x ≡ value_part c → x ≡ other y → ⊥
no_both x c y e f = ok_no (tree g.expression c) wanted.Token (part_value x) (ap part_value e) (ap part_value f)

-- The words of a node in a place so tight, by the nonterminal of the place.
abbrev pub NodeAt : ℕ → Node → List Word → ℕ → Type 0
NodeAt zero x words o = Spells g.node (λ y. y) (other x) words o
NodeAt (suc zero) x words o = Spells g.node_disjunction (λ y. y) (other x) words o
NodeAt (suc (suc zero)) x words o = Spells g.node_conjunction (λ y. y) (other x) words o
NodeAt (suc (suc (suc zero))) x words o = Spells g.node_primary (λ y. y) (other x) words o
NodeAt (suc (suc (suc (suc zero)))) x words o = Spells g.element (λ y. y) x words o
NodeAt (suc (suc (suc (suc (suc k))))) x words o = ⊥

looser : (k : ℕ) (x : Node) (words : List Word) (o : ℕ) → NodeAt (suc k) x words o → NodeAt k x words o
looser zero x words o a = record { syntax = g.chain a.syntax; fits = a.fits; sound = a.sound; spelled = a.spelled; is = a.is }
looser (suc zero) x words o a = record { syntax = g.or_alone a.syntax; fits = a.fits; sound = a.sound; spelled = a.spelled; is = a.is }
looser (suc (suc zero)) x words o a = record { syntax = g.and_alone a.syntax; fits = a.fits; sound = a.sound; spelled = a.spelled; is = a.is }
looser (suc (suc (suc zero))) x words o a = record { syntax = g.element_node a.syntax; fits = a.fits; sound = a.sound; spelled = a.spelled; is = ap other a.is }
looser (suc (suc (suc (suc k)))) x words o a = absurd a

pub as_loose : (m h : ℕ) → h ≤ m → (x : Node) (words : List Word) (o : ℕ) → NodeAt m x words o → NodeAt h x words o
as_loose zero h le x words o a = let same : zero ≡ h = omega arith in subst (λ (k : ℕ). NodeAt k x words o) same a
as_loose (suc m) h le x words o a =
    ⊎_elim
    (λ less. as_loose m h (omega arith) x words o (looser m x words o a))
    (λ most. let same : suc m ≡ h = omega arith in subst (λ (k : ℕ). NodeAt k x words o) same a)
    (cases_lt h (suc m))

in_parens_at : (x : Node) (words : List Word) (o : ℕ) → HasRoom o → NodeAt 0 x words (o + 1) → NodeAt 3 x (in_parens words) o
in_parens_at x words o room a = record {
  syntax = g.node_parens a.syntax;
  fits = (room, a.fits);
  sound = a.sound;
  spelled = λ more. ap (λ (ws : List Word). w.Sign p.OpenParen ∷ ws)
      (a.spelled (w.Sign p.CloseParen ∷ more) ∙ sym (append_assoc words (w.Sign p.CloseParen ∷ []) more));
  is = a.is;
}

-- A node that is printed so fits where so many are open; in a place that is tighter, parentheses do.
pub record NodeGood (q : Printed) (x : Node) (place o : ℕ) : Type 0 where
  pub bare : NodeAt q.tightness x q.words o
  pub around : nat_le place q.tightness ≡ false → HasRoom o × NodeAt q.tightness x q.words (o + 1)

abbrev pub NodePrints : Node → ℕ → ℕ → Type 0
NodePrints x place o = NodeGood (printed_node x) x place o

operand_good_node : (q : Printed) (x : Node) (place o : ℕ) → place ≤ 3 → NodeGood q x place o → NodeAt place x (operand place q) o
operand_good_node q x place o le good =
    ⊎_elim
    (λ fit. subst (λ (b : Bool). NodeAt place x (if b then q.words else in_parens q.words) o) (sym fit)
    (as_loose q.tightness place (leb-true place q.tightness fit) x q.words o good.bare))
    (λ loose. subst (λ (b : Bool). NodeAt place x (if b then q.words else in_parens q.words) o) (sym loose)
    (as_loose 3 place le x (in_parens q.words) o
    (in_parens_at x q.words o (good.around loose).0 (as_loose q.tightness 0 (omega arith) x q.words (o + 1) (good.around loose).1))))
    (cases_Bool (nat_le place q.tightness))

wider_node : (q : Printed) (x : Node) (place other o : ℕ) → other ≤ place → NodeGood q x place o → NodeGood q x other o
wider_node q x place other o le good = record {
  bare = good.bare;
  around = λ loose. good.around (let l : q.tightness < other = leb-false other q.tightness loose in lt-leb place q.tightness (omega arith));
}

-- a node whose own words are known
pub own_node : (q : Printed) (x : Node) (place o : ℕ) → printed_node x ≡ q → nat_le place q.tightness ≡ true → NodeAt q.tightness x q.words o
    → NodePrints x place o
own_node q x place o is fit bare =
    subst (λ (r : Printed). NodeGood r x place o) (sym is) (record { bare = bare; around = λ loose. absurd (true_false (sym fit ∙ loose)) })

-- What stands in a node place is a value or a node.
pub record IsValuePart (place : ℕ) (x : Part) (o : ℕ) : Type 0 where
  pub syntax : Syntax g.expression
  pub is : x ≡ value_part syntax
  pub good : Prints (tree g.expression syntax) place o

pub record IsNodePart (place : ℕ) (x : Part) (o : ℕ) : Type 0 where
  pub node : Node
  pub is : x ≡ other node
  pub good : NodePrints node place o

abbrev pub PartPrints : ℕ → ℕ → Part → ℕ → Type 0
PartPrints place node_place x o = IsValuePart place x o ⊎ IsNodePart node_place x o

pub a_node : (place node_place : ℕ) (x : Node) (o : ℕ) → NodePrints x node_place o → PartPrints place node_place (other x) o
a_node place node_place x o good = inr (record { node = x; is = refl; good = good })

pub a_value : (place node_place : ℕ) (c : Syntax g.expression) (o : ℕ) → Prints (tree g.expression c) place o
    → PartPrints place node_place (value_part c) o
a_value place node_place c o good = inl (record { syntax = c; is = refl; good = good })

pub wider_part : (place other_ node_place node_other : ℕ) (x : Part) (o : ℕ) → other_ ≤ place → node_other ≤ node_place
    → PartPrints place node_place x o → PartPrints other_ node_other x o
wider_part place other_ node_place node_other x o le node_le (inl v) = inl (record {
  syntax = v.syntax;
  is = v.is;
  good = wider (printed (tree g.expression v.syntax)) (tree g.expression v.syntax) place other_ o le v.good;
})
wider_part place other_ node_place node_other x o le node_le (inr v) = inr (record {
  node = v.node;
  is = v.is;
  good = wider_node (printed_node v.node) v.node node_place node_other o node_le v.good;
})

step_of : (x : layer.Node-F Node) → printed_node (Rattle.jsx_syntax.specs.declared.node.Node.TheViews.roll-Node x)
    ≡ node_step (Rattle.jsx_syntax.specs.declared.node.Node.TheFolds.map-Node Node Printed printed_node x)
step_of = fold-roll-Node Printed node_step

pub printed-Value : (x : Expr) → printed_node (n.Value x) ≡ so_tight 0 (printed x).words
printed-Value x = ap printed_node (sym (n.rolls-Value x)) ∙ step_of (layer.Value x)

printed-Choose : (test : Expr) (one other : Node)
    → printed_node (n.Choose test one other) ≡ so_tight 0 (choice_words (printed test) (printed_node one) (printed_node other))
printed-Choose test one other = ap printed_node (sym (n.rolls-Choose test one other)) ∙ step_of (layer.Choose test one other)

printed-And : (left : List Expr) (last : Node) → printed_node (n.And left last) ≡ so_tight 2 (last_words p.AndAnd 3 left 3 (printed_node last))
printed-And left last = ap printed_node (sym (n.rolls-And left last)) ∙ step_of (layer.And left last)

printed-Or : (left : List Expr) (last : Node) → printed_node (n.Or left last) ≡ so_tight 1 (last_words p.OrOr 2 left 2 (printed_node last))
printed-Or left last = ap printed_node (sym (n.rolls-Or left last)) ∙ step_of (layer.Or left last)

printed-Array : (items : List Node) → printed_node (n.Array items) ≡ so_tight 3 (array_words (map printed_node items))
printed-Array items = ap printed_node (sym (n.rolls-Array items)) ∙ step_of (layer.Array items)

printed-Map : (list : Expr) (item : Name) (number : Option Name) (body : Node)
    → printed_node (n.Map list item number body) ≡ so_tight 3 (map_words list item number (printed_node body))
printed-Map list item number body = ap printed_node (sym (n.rolls-Map list item number body)) ∙ step_of (layer.Map list item number body)

pub printed-Host : (name : Name) (props : List (Entry Node)) (kids : List Node)
    → printed_node (n.Host name props kids) ≡ so_tight 4 (element_words name (map printed_entry props) (map printed_node kids))
printed-Host name props kids = ap printed_node (sym (n.rolls-Host name props kids)) ∙ step_of (layer.Host name props kids)

pub printed-Call : (name : Name) (props : List (Entry Node)) → printed_node (n.Call name props) ≡ so_tight 4 (element_words name (map printed_entry props) [])
printed-Call name props = ap printed_node (sym (n.rolls-Call name props)) ∙ step_of (layer.Call name props)

pub printed-Fragment : (kids : List Node) → printed_node (n.Fragment kids) ≡ so_tight 4 (fragment_words (map printed_node kids))
printed-Fragment kids = ap printed_node (sym (n.rolls-Fragment kids)) ∙ step_of (layer.Fragment kids)

pub printed-Suspense : (name : Name) (props : List (Entry Node)) (kids : List Node)
    → printed_node (n.Suspense name props kids) ≡ so_tight 4 (element_words name (map printed_entry props) (map printed_node kids))
printed-Suspense name props kids = ap printed_node (sym (n.rolls-Suspense name props kids)) ∙ step_of (layer.Suspense name props kids)

-- A whole node, with what it is: a value or another node.
abbrev pub Whole : Part → ℕ → Type 0
Whole x o = Spells g.node node_of (node_of x) (printed_node (node_of x)).words o

value_whole : (c : Syntax g.expression) (o : ℕ) → Prints (tree g.expression c) 0 o → Whole (value_part c) o
value_whole c o good =
    let x : Expr = tree g.expression c in
    let a : At 0 x (printed x).words o = whole_good (printed x) x 0 o good in
    subst (λ (ws : List Word). Spells g.node node_of (n.Value x) ws o) (sym (ap (λ (q : Printed). q.words) (printed-Value x)))
    (record { syntax = g.value a.syntax; fits = a.fits; sound = a.sound; spelled = a.spelled; is = ap n.Value a.is })

whole_node : (x : Node) (o : ℕ) → NodePrints x 0 o → NodeAt 0 x (printed_node x).words o
whole_node x o good = as_loose (printed_node x).tightness 0 (omega arith) x (printed_node x).words o good.bare

node_whole : (x : Node) (o : ℕ) → NodeAt 0 x (printed_node x).words o → Whole (other x) o
node_whole x o a = record { syntax = a.syntax; fits = a.fits; sound = a.sound; spelled = a.spelled; is = ap node_of a.is }

pub whole_part : (x : Part) (o : ℕ) → PartPrints 0 0 x o → Whole x o
whole_part x o (inl v) = subst (λ (y : Part). Whole y o) (sym v.is) (value_whole v.syntax o v.good)
whole_part x o (inr v) = subst (λ (y : Part). Whole y o) (sym v.is) (node_whole v.node o (whole_node v.node o v.good))

-- Conditionals.

abbrev NodeChoice : Part → Part → Type 0
NodeChoice one two = (t : Expr) → choose_part t one two ≡ other (n.Choose t (node_of one) (node_of two))

choice_node : (x : Expr) (y z : Node) (o : ℕ) → HasRoom o → Prints x 1 o
    → (b : Spells g.node node_of y (printed_node y).words (o + 1)) → (c : Spells g.node node_of z (printed_node z).words (o + 1))
    → NodeChoice (tree g.node b.syntax) (tree g.node c.syntax) → NodePrints (n.Choose x y z) 0 o
choice_node x y z o room test b c chosen =
    let a : At 1 x (operand 1 (printed x)) o = operand_good (printed x) x 1 o (omega arith) test in
    let q1 : Printed = printed_node y in
    let q2 : Printed = printed_node z in
    own_node (so_tight 0 (choice_words (printed x) q1 q2)) (n.Choose x y z) 0 o (printed-Choose x y z) refl
    (record {
      syntax = g.node_choice a.syntax b.syntax c.syntax;
      fits = (a.fits, room, b.fits, c.fits);
      sound = (a.sound, b.sound, c.sound);
      spelled = choice_spelled (operand 1 (printed x)) q1.words q2.words (spell g.disjunction a.syntax) (spell g.node b.syntax) (spell g.node c.syntax)
          a.spelled b.spelled c.spelled;
      is = chosen (or_of (tree g.disjunction a.syntax))
          ∙ (ap (λ (t : Expr). other (n.Choose t (node_of (tree g.node b.syntax)) (node_of (tree g.node c.syntax)))) a.is
          ∙ (ap (λ (t : Node). other (n.Choose x t (node_of (tree g.node c.syntax)))) b.is ∙ ap (λ (t : Node). other (n.Choose x y t)) c.is));
    })

-- Where one of them is a node, so is the conditional.
first_chosen : (one two : Part) (y : Node) → one ≡ other y → NodeChoice one two
first_chosen one two y e = subst (λ (q : Part). NodeChoice q two) (sym e) (λ t. refl)

second_chosen : (c : Syntax g.expression) (two : Part) (z : Node) → two ≡ other z → NodeChoice (value_part c) two
second_chosen c two z e = subst (λ (q : Part). NodeChoice (value_part c) q) (sym e) (λ t. refl)

node_first : (x : Expr) (y : Node) (two : Part) (o : ℕ) → HasRoom o → Prints x 1 o → NodePrints y 0 (o + 1) → Whole two (o + 1)
    → PartPrints 0 0 (choose_part x (other y) two) o
node_first x y two o room test good c =
    let a : NodeAt 0 y (printed_node y).words (o + 1) = whole_node y (o + 1) good in
    let b : Spells g.node node_of y (printed_node y).words (o + 1) =
    record { syntax = a.syntax; fits = a.fits; sound = a.sound; spelled = a.spelled; is = ap node_of a.is } in
    a_node 0 0 (n.Choose x y (node_of two)) o
    (choice_node x y (node_of two) o room test b c (first_chosen (tree g.node b.syntax) (tree g.node c.syntax) y a.is))

node_second : (x : Expr) (d : Syntax g.expression) (z : Node) (o : ℕ) → HasRoom o → Prints x 1 o → Prints (tree g.expression d) 0 (o + 1)
    → NodePrints z 0 (o + 1) → PartPrints 0 0 (choose_part x (value_part d) (other z)) o
node_second x d z o room test good last =
    let y : Expr = tree g.expression d in
    let u : At 0 y (printed y).words (o + 1) = whole_good (printed y) y 0 (o + 1) good in
    let a : NodeAt 0 z (printed_node z).words (o + 1) = whole_node z (o + 1) last in
    let same : (printed y).words ≡ (printed_node (n.Value y)).words = sym (ap (λ (q : Printed). q.words) (printed-Value y)) in
    let b : Spells g.node node_of (n.Value y) (printed_node (n.Value y)).words (o + 1) = record {
      syntax = g.value u.syntax;
      fits = u.fits;
      sound = u.sound;
      spelled = λ more. u.spelled more ∙ ap (λ (ws : List Word). ws ++ more) same;
      is = ap n.Value u.is;
    } in
    let c : Spells g.node node_of z (printed_node z).words (o + 1) =
    record { syntax = a.syntax; fits = a.fits; sound = a.sound; spelled = a.spelled; is = ap node_of a.is } in
    a_node 0 0 (n.Choose x (n.Value y) z) o
    (choice_node x (n.Value y) z o room test b c (second_chosen u.syntax (tree g.node a.syntax) z a.is))

pub choice_part : (c : Syntax g.disjunction) (one two : Part) (o : ℕ) → HasRoom o → Prints (or_of (tree g.disjunction c)) 1 o
    → PartPrints 0 0 one (o + 1) → PartPrints 0 0 two (o + 1) → PartPrints 0 0 (choose_part (or_of (tree g.disjunction c)) one two) o
choice_part c one two o room test (inl v) (inl u) =
    let x : Expr = or_of (tree g.disjunction c) in
    inl (record {
      syntax = g.choice c v.syntax u.syntax;
      is = ap (λ (q : Part). choose_part x q two) v.is ∙ ap (λ (q : Part). choose_part x (value_part v.syntax) q) u.is;
      good = choice_good x (tree g.expression v.syntax) (tree g.expression u.syntax) o room test v.good u.good;
    })
choice_part c one two o room test (inl v) (inr u) =
    let x : Expr = or_of (tree g.disjunction c) in
    let whole : choose_part x one two ≡ choose_part x (value_part v.syntax) (other u.node) =
    ap (λ (q : Part). choose_part x q two) v.is ∙ ap (λ (q : Part). choose_part x (value_part v.syntax) q) u.is in
    subst (λ (q : Part). PartPrints 0 0 q o) (sym whole) (node_second x v.syntax u.node o room test v.good u.good)
choice_part c one two o room test (inr v) u =
    let x : Expr = or_of (tree g.disjunction c) in
    subst (λ (q : Part). PartPrints 0 0 (choose_part x q two) o) (sym v.is) (node_first x v.node two o room test v.good (whole_part two (o + 1) u))

-- The last operand of a chain.

-- an expression as the last operand of `&&`, and as the whole of one
abbrev pub as_equality : Syntax g.expression → Syntax g.equality
as_equality c = g.no_equal (g.no_plus (g.no_bang (g.no_member (g.parens c))))

abbrev pub and_syntax : Syntax g.conjunction → Syntax g.expression → Syntax g.expression
and_syntax c d = g.no_choice (g.no_or (g.and c (as_equality d)))

abbrev pub or_syntax : Syntax g.disjunction → Syntax g.expression → Syntax g.expression
or_syntax c d = g.no_choice (g.or c (g.no_and (as_equality d)))

and_node_good : (xs : List Expr) (x : Node) (o : ℕ) → Ands xs o → NodePrints x 3 o → PartPrints 2 2 (and_part xs (other x)) o
and_node_good [] x o c good = absurd c.one
and_node_good (y ∷ ys) x o c good =
    let a : NodeAt 3 x (operand 3 (printed_node x)) o = operand_good_node (printed_node x) x 3 o (omega arith) good in
    let front : List Word = chain p.AndAnd 3 (map printed (y ∷ ys)) in
    a_node 2 2 (n.And (y ∷ ys) x) o
    (own_node (so_tight 2 (last_words p.AndAnd 3 (y ∷ ys) 3 (printed_node x))) (n.And (y ∷ ys) x) 2 o (printed-And (y ∷ ys) x) refl
    (record {
      syntax = g.and_last c.spells.syntax a.syntax;
      fits = (c.spells.fits, a.fits);
      sound = (c.spells.sound, a.sound);
      spelled = λ more. c.spells.spelled (w.Sign p.AndAnd ∷ spell g.node_primary a.syntax more)
          ∙ (ap (λ (ws : List Word). front ++ (w.Sign p.AndAnd ∷ ws)) (a.spelled more)
          ∙ sym (append_assoc front (w.Sign p.AndAnd ∷ operand 3 (printed_node x)) more));
      is = ap (λ (zs : List Expr). and_part zs (tree g.node_primary a.syntax)) c.spells.is ∙ ap (and_part (y ∷ ys)) a.is;
    }))

pub and_part_good : (c : Syntax g.conjunction) (last : Part) (o : ℕ) → Ands (tree g.conjunction c) o → PartPrints 7 3 last o
    → PartPrints 2 2 (and_part (tree g.conjunction c) last) o
and_part_good c last o chained (inl v) =
    let x : Expr = tree g.expression v.syntax in
    let xs : List Expr = tree g.conjunction c in
    inl (record {
      syntax = and_syntax c v.syntax;
      is = ap (and_part xs) v.is;
      good = ands_good (xs ++ x ∷ []) o (ands_more xs x o chained (wider (printed x) x 7 3 o (omega arith) v.good));
    })
and_part_good c last o chained (inr v) =
    subst (λ (q : Part). PartPrints 2 2 (and_part (tree g.conjunction c) q) o) (sym v.is) (and_node_good (tree g.conjunction c) v.node o chained v.good)

or_node_good : (xs : List Expr) (x : Node) (o : ℕ) → Ors xs o → NodePrints x 2 o → PartPrints 1 1 (or_part xs (other x)) o
or_node_good [] x o c good = absurd c.one
or_node_good (y ∷ ys) x o c good =
    let a : NodeAt 2 x (operand 2 (printed_node x)) o = operand_good_node (printed_node x) x 2 o (omega arith) good in
    let front : List Word = chain p.OrOr 2 (map printed (y ∷ ys)) in
    a_node 1 1 (n.Or (y ∷ ys) x) o
    (own_node (so_tight 1 (last_words p.OrOr 2 (y ∷ ys) 2 (printed_node x))) (n.Or (y ∷ ys) x) 1 o (printed-Or (y ∷ ys) x) refl
    (record {
      syntax = g.or_last c.spells.syntax a.syntax;
      fits = (c.spells.fits, a.fits);
      sound = (c.spells.sound, a.sound);
      spelled = λ more. c.spells.spelled (w.Sign p.OrOr ∷ spell g.node_conjunction a.syntax more)
          ∙ (ap (λ (ws : List Word). front ++ (w.Sign p.OrOr ∷ ws)) (a.spelled more)
          ∙ sym (append_assoc front (w.Sign p.OrOr ∷ operand 2 (printed_node x)) more));
      is = ap (λ (zs : List Expr). or_part zs (tree g.node_conjunction a.syntax)) c.spells.is ∙ ap (or_part (y ∷ ys)) a.is;
    }))

pub or_part_good : (c : Syntax g.disjunction) (last : Part) (o : ℕ) → Ors (tree g.disjunction c) o → PartPrints 2 2 last o
    → PartPrints 1 1 (or_part (tree g.disjunction c) last) o
or_part_good c last o chained (inl v) =
    let x : Expr = tree g.expression v.syntax in
    let xs : List Expr = tree g.disjunction c in
    inl (record {
      syntax = or_syntax c v.syntax;
      is = ap (or_part xs) v.is;
      good = ors_good (xs ++ x ∷ []) o (ors_more xs x o chained v.good);
    })
or_part_good c last o chained (inr v) =
    subst (λ (q : Part). PartPrints 1 1 (or_part (tree g.disjunction c) q) o) (sym v.is) (or_node_good (tree g.disjunction c) v.node o chained v.good)

-- Arrays.

abbrev pub Items : List Node → ℕ → Type 0
Items [] o = ⊥
Items (x ∷ xs) o = Spells g.node_list (λ ys. ys) (x ∷ xs) (items_words (map printed_node (x ∷ xs))) o

pub items_one : (x : Part) (o : ℕ) → Whole x o → Items (node_of x ∷ []) o
items_one x o a = record {
  syntax = g.first_node a.syntax;
  fits = a.fits;
  sound = a.sound;
  spelled = λ more. a.spelled more ∙ ap (λ (ws : List Word). ws ++ more) (sym (append-nil (printed_node (node_of x)).words));
  is = ap (λ (y : Node). y ∷ []) a.is;
}

items_joined : (xs : List Node) (x : Node) → later_items (map printed_node (xs ++ x ∷ [])) ≡ later_items (map printed_node xs) ++ w.Sign p.Comma ∷ (printed_node x).words
items_joined xs x =
    ap later_items (map-append printed_node xs (x ∷ []))
    ∙ (flat_map-append (λ (q : Printed). w.Sign p.Comma ∷ q.words) (map printed_node xs) (printed_node x ∷ [])
    ∙ ap (λ (ws : List Word). later_items (map printed_node xs) ++ ws) (append-nil (w.Sign p.Comma ∷ (printed_node x).words)))

pub items_more : (xs : List Node) (x : Part) (o : ℕ) → Items xs o → Whole x o → Items (xs ++ node_of x ∷ []) o
items_more [] x o c a = absurd c
items_more (y ∷ ys) x o c a =
    let first : List Word = (printed_node y).words in
    let middle : List Word = later_items (map printed_node ys) in
    let last : List Word = w.Sign p.Comma ∷ (printed_node (node_of x)).words in
    record {
      syntax = g.next_node c.syntax a.syntax;
      fits = (c.fits, a.fits);
      sound = (c.sound, a.sound);
      spelled = λ more. c.spelled (w.Sign p.Comma ∷ spell g.node a.syntax more)
          ∙ (ap (λ (ws : List Word). (first ++ middle) ++ (w.Sign p.Comma ∷ ws)) (a.spelled more)
          ∙ (sym (append_assoc (first ++ middle) last more)
          ∙ ap (λ (ws : List Word). ws ++ more)
          (append_assoc first middle last ∙ ap (λ (ws : List Word). first ++ ws) (sym (items_joined ys (node_of x))))));
      is = ap (λ (zs : List Node). zs ++ node_of (tree g.node a.syntax) ∷ []) c.is ∙ ap (λ (z : Node). (y ∷ ys) ++ z ∷ []) a.is;
    }

pub no_items : (o : ℕ) → HasRoom o → NodePrints (n.Array []) 3 o
no_items o room =
    own_node (so_tight 3 (array_words [])) (n.Array []) 3 o (printed-Array []) refl
    (record { syntax = g.empty_array; fits = room; sound = tt; spelled = λ more. refl; is = refl })

pub array_good : (xs : List Node) (o : ℕ) → HasRoom o → Items xs (o + 1) → NodePrints (n.Array xs) 3 o
array_good [] o room c = absurd c
array_good (x ∷ xs) o room c =
    let inner : List Word = items_words (map printed_node (x ∷ xs)) in
    own_node (so_tight 3 (array_words (map printed_node (x ∷ xs)))) (n.Array (x ∷ xs)) 3 o (printed-Array (x ∷ xs)) refl
    (record {
      syntax = g.array c.syntax false;
      fits = (room, c.fits);
      sound = c.sound;
      spelled = λ more. ap (λ (ws : List Word). w.Sign p.OpenBracket ∷ ws)
          (c.spelled (w.Sign p.CloseBracket ∷ more) ∙ sym (append_assoc inner (w.Sign p.CloseBracket ∷ []) more));
      is = ap (λ (ys : List Node). other (n.Array ys)) c.is;
    })

-- Maps.

pub map_good : (list : Expr) (item : Name) (number : Option Name) (body : Part) (o : ℕ) → HasRoom (o + 1) → IsName item → AreNames number
    → IsCodeName item.text → AreCodeNames number → Prints list 6 o → Whole body (o + 1) → NodePrints (n.Map list item number (node_of body)) 3 o
map_good list item None body o room named numbered sound_item sound_number good b =
    let a : At 6 list (operand 6 (printed list)) o = operand_good (printed list) list 6 o (omega arith) good in
    let first : List Word = operand 6 (printed list) in
    let inner : List Word = (printed_node (node_of body)).words in
    own_node (so_tight 3 (map_words list item None (printed_node (node_of body)))) (n.Map list item None (node_of body)) 3 o (printed-Map list item None (node_of body)) refl
    (record {
      syntax = g.map_node a.syntax 0 item None b.syntax;
      fits = (a.fits, room, named, numbered, b.fits);
      sound = (a.sound, sound_item, sound_number, b.sound);
      spelled = λ more. a.spelled (w.Sign p.Dot ∷ w.Name (codes "map") 0 ∷ w.Sign p.OpenParen ∷ w.Sign p.OpenParen ∷ name_word item ∷ w.Sign p.CloseParen
          ∷ w.Sign p.Arrow ∷ spell g.node b.syntax (w.Sign p.CloseParen ∷ more))
          ∙ (ap (λ (ws : List Word). first ++ (w.Sign p.Dot ∷ w.Name (codes "map") 0 ∷ w.Sign p.OpenParen ∷ w.Sign p.OpenParen ∷ name_word item ∷ w.Sign p.CloseParen
          ∷ w.Sign p.Arrow ∷ ws)) (b.spelled (w.Sign p.CloseParen ∷ more) ∙ sym (append_assoc inner (w.Sign p.CloseParen ∷ []) more))
          ∙ sym (append_assoc first (w.Sign p.Dot ∷ keyword (codes "map") ∷ w.Sign p.OpenParen ∷ (variables_words item None ++ (inner ++ w.Sign p.CloseParen ∷ []))) more));
      is = ap (λ (x : Expr). other (n.Map x item None (node_of (tree g.node b.syntax)))) a.is ∙ ap (λ (x : Node). other (n.Map list item None x)) b.is;
    })
map_good list item (Some number) body o room named numbered sound_item sound_number good b =
    let a : At 6 list (operand 6 (printed list)) o = operand_good (printed list) list 6 o (omega arith) good in
    let first : List Word = operand 6 (printed list) in
    let inner : List Word = (printed_node (node_of body)).words in
    own_node (so_tight 3 (map_words list item (Some number) (printed_node (node_of body)))) (n.Map list item (Some number) (node_of body)) 3 o
    (printed-Map list item (Some number) (node_of body)) refl
    (record {
      syntax = g.map_node a.syntax 0 item (Some number) b.syntax;
      fits = (a.fits, room, named, numbered, b.fits);
      sound = (a.sound, sound_item, sound_number, b.sound);
      spelled = λ more. a.spelled (w.Sign p.Dot ∷ w.Name (codes "map") 0 ∷ w.Sign p.OpenParen ∷ w.Sign p.OpenParen ∷ name_word item ∷ w.Sign p.Comma ∷ name_word number
          ∷ w.Sign p.CloseParen ∷ w.Sign p.Arrow ∷ spell g.node b.syntax (w.Sign p.CloseParen ∷ more))
          ∙ (ap (λ (ws : List Word). first ++ (w.Sign p.Dot ∷ w.Name (codes "map") 0 ∷ w.Sign p.OpenParen ∷ w.Sign p.OpenParen ∷ name_word item ∷ w.Sign p.Comma
          ∷ name_word number ∷ w.Sign p.CloseParen ∷ w.Sign p.Arrow ∷ ws)) (b.spelled (w.Sign p.CloseParen ∷ more) ∙ sym (append_assoc inner (w.Sign p.CloseParen ∷ []) more))
          ∙ sym (append_assoc first (w.Sign p.Dot ∷ keyword (codes "map") ∷ w.Sign p.OpenParen ∷ (variables_words item (Some number) ++ (inner ++ w.Sign p.CloseParen ∷ []))) more));
      is = ap (λ (x : Expr). other (n.Map x item (Some number) (node_of (tree g.node b.syntax)))) a.is ∙ ap (λ (x : Node). other (n.Map list item (Some number) x)) b.is;
    })

-- An element.
pub record ElementPrints (x : Node) (o : ℕ) : Type 0 where
  pub tight : (printed_node x).tightness ≡ 4
  pub spells : Spells g.element (λ y. y) x (printed_node x).words o

pub element_part : (x : Node) (o : ℕ) → ElementPrints x o → PartPrints 7 3 (other x) o
element_part x o a = a_node 7 3 x o (record {
  bare = subst (λ (k : ℕ). NodeAt k x (printed_node x).words o) (sym a.tight) a.spells;
  around = λ loose. absurd (true_false (sym (ap (nat_le 3) a.tight) ∙ loose));
})
