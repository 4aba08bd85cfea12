-- Printed expressions as productions: an expression's own words are those of its own nonterminal, and where it stands in a
-- tighter place, those of parentheses.
use Rattle.std.proofs.Common.{◌≡◌, ◌≤◌, ◌<◌, ℕ, zero, suc, ◌+◌, Bool, true, false, nat_le, if◌then◌else◌, List, [], ◌∷◌, ◌++◌, map, codes, refl, sym, ap, subst, ◌∙◌, ⊎_elim, append-nil, append_assoc, arith, ℤ}
use Rattle.std.proofs.lemmas.Bool.{cases_Bool, cases_lt, leb-true, leb-false, lt-leb, lt-ltb, ltb-true}
use Rattle.std.proofs.lemmas.Grind.{flat_map-append}
use Rattle.std.proofs.lemmas.List.{map-append}
use Rattle.jsx_lex.specs.declared.word.Word.{Word}
use Rattle.jsx_lex.specs.declared.word.Word.TheVariants as w
use Rattle.jsx_lex.specs.declared.word.Punctuator.{Punctuator}
use Rattle.jsx_lex.specs.declared.word.Punctuator.TheVariants as p
use Rattle.jsx_syntax.specs.declared.name.Name.{Name}
use Rattle.jsx_syntax.specs.declared.expr.Expr.{Expr}
use Rattle.jsx_syntax.specs.declared.expr.Expr.TheVariants as e
use Rattle.jsx_syntax.specs.declared.expr.Expr.TheOpen as layer
use Rattle.jsx_syntax.specs.declared.expr.Expr.TheFolds.{fold-roll-Expr}
use Rattle.jsx_syntax.specs.Trees.{members_of, member_of, sum_of, and_of, or_of}
use Rattle.jsx_syntax.specs.Words.{nesting_limit, name_word}
use Rattle.jsx_syntax.specs.Grammar.{Sort, Syntax, Meaning, spell, tree, Fits, HasRoom, equal_sign}
use Rattle.jsx_syntax.specs.Grammar as g
use Rattle.jsx_print.specs.Sound.{Sound, IsCodeName}
use Rattle.jsx_print.specs.Printing.{Printed, so_tight, keyword, in_parens, operand, later_operands, chain, truth_word, names_words, member_words, equal_words, choice_words, printed_step, printed}

true_false : true ≡ false → ⊥
true_false is = cc

-- A production of this nonterminal with these words where so many are open, and of this tree by f. Its names are those of
-- the lexer.
pub record Spells (s : Sort) {A : Type 0} (f : Meaning s → A) (x : A) (words : List Word) (open_ : ℕ) : Type 0 where
  pub syntax : Syntax s
  pub fits : Fits s syntax open_
  pub sound : Sound true s syntax
  pub spelled : (more : List Word) → spell s syntax more ≡ words ++ more
  pub is : f (tree s syntax) ≡ x

-- Room for one more leaves room.
pub room_less : (o : ℕ) → HasRoom (o + 1) → HasRoom o
room_less o room = lt-ltb o nesting_limit (let l : o + 1 < nesting_limit = ltb-true (o + 1) nesting_limit room in omega arith)

-- The words of an expression in a place so tight, by the nonterminal of the place.
abbrev pub At : ℕ → Expr → List Word → ℕ → Type 0
At zero x words o = Spells g.expression (λ y. y) x words o
At (suc zero) x words o = Spells g.disjunction or_of x words o
At (suc (suc zero)) x words o = Spells g.conjunction and_of x words o
At (suc (suc (suc zero))) x words o = Spells g.equality (λ y. y) x words o
At (suc (suc (suc (suc zero)))) x words o = Spells g.sum sum_of x words o
At (suc (suc (suc (suc (suc zero))))) x words o = Spells g.unary (λ y. y) x words o
At (suc (suc (suc (suc (suc (suc zero)))))) x words o = Spells g.member member_of x words o
At (suc (suc (suc (suc (suc (suc (suc zero))))))) x words o = Spells g.primary (λ y. y) x words o
At (suc (suc (suc (suc (suc (suc (suc (suc n)))))))) x words o = ⊥

-- Each nonterminal has those of the next one.
looser : (n : ℕ) (x : Expr) (words : List Word) (o : ℕ) → At (suc n) x words o → At n x words o
looser zero x words o a = record { syntax = g.no_choice a.syntax; fits = a.fits; sound = a.sound; spelled = a.spelled; is = a.is }
looser (suc zero) x words o a = record { syntax = g.no_or a.syntax; fits = a.fits; sound = a.sound; spelled = a.spelled; is = a.is }
looser (suc (suc zero)) x words o a = record { syntax = g.no_and a.syntax; fits = a.fits; sound = a.sound; spelled = a.spelled; is = a.is }
looser (suc (suc (suc zero))) x words o a = record { syntax = g.no_equal a.syntax; fits = a.fits; sound = a.sound; spelled = a.spelled; is = a.is }
looser (suc (suc (suc (suc zero)))) x words o a = record { syntax = g.no_plus a.syntax; fits = a.fits; sound = a.sound; spelled = a.spelled; is = a.is }
looser (suc (suc (suc (suc (suc zero))))) x words o a = record { syntax = g.no_bang a.syntax; fits = a.fits; sound = a.sound; spelled = a.spelled; is = a.is }
looser (suc (suc (suc (suc (suc (suc zero)))))) x words o a = record { syntax = g.no_member a.syntax; fits = a.fits; sound = a.sound; spelled = a.spelled; is = a.is }
looser (suc (suc (suc (suc (suc (suc (suc n))))))) x words o a = absurd a

pub as_loose : (m n : ℕ) → n ≤ m → (x : Expr) (words : List Word) (o : ℕ) → At m x words o → At n x words o
as_loose zero n le x words o a = let same : zero ≡ n = omega arith in subst (λ (k : ℕ). At k x words o) same a
as_loose (suc m) n le x words o a =
    ⊎_elim
    (λ less. as_loose m n (omega arith) x words o (looser m x words o a))
    (λ most. let same : suc m ≡ n = omega arith in subst (λ (k : ℕ). At k x words o) same a)
    (cases_lt n (suc m))

-- parentheses around an expression
in_parens_at : (x : Expr) (words : List Word) (o : ℕ) → HasRoom o → At 0 x words (o + 1) → At 7 x (in_parens words) o
in_parens_at x words o room a = record {
  syntax = g.parens a.syntax;
  fits = (room, a.fits);
  sound = a.sound;
  spelled = λ more. ap (λ (ws : List Word). w.Sign p.OpenParen ∷ ws)
      (a.spelled (w.Sign p.CloseParen ∷ more) ∙ sym (append_assoc words (w.Sign p.CloseParen ∷ []) more));
  is = a.is;
}

-- An expression that is printed so fits where so many are open; in a place that is tighter, parentheses do.
pub record Good (q : Printed) (x : Expr) (place o : ℕ) : Type 0 where
  pub bare : At q.tightness x q.words o
  pub around : nat_le place q.tightness ≡ false → HasRoom o × At q.tightness x q.words (o + 1)

abbrev pub Prints : Expr → ℕ → ℕ → Type 0
Prints x place o = Good (printed x) x place o

pub whole_good : (q : Printed) (x : Expr) (place o : ℕ) → Good q x place o → At 0 x q.words o
whole_good q x place o good = as_loose q.tightness 0 (omega arith) x q.words o good.bare

pub operand_good : (q : Printed) (x : Expr) (place o : ℕ) → place ≤ 7 → Good q x place o → At place x (operand place q) o
operand_good q x place o le good =
    ⊎_elim
    (λ fit. subst (λ (b : Bool). At place x (if b then q.words else in_parens q.words) o) (sym fit)
    (as_loose q.tightness place (leb-true place q.tightness fit) x q.words o good.bare))
    (λ loose. subst (λ (b : Bool). At place x (if b then q.words else in_parens q.words) o) (sym loose)
    (as_loose 7 place le x (in_parens q.words) o
    (in_parens_at x q.words o (good.around loose).0 (as_loose q.tightness 0 (omega arith) x q.words (o + 1) (good.around loose).1))))
    (cases_Bool (nat_le place q.tightness))

-- in a looser place
pub wider : (q : Printed) (x : Expr) (place other o : ℕ) → other ≤ place → Good q x place o → Good q x other o
wider q x place other o le good = record {
  bare = good.bare;
  around = λ loose. good.around (let l : q.tightness < other = leb-false other q.tightness loose in lt-leb place q.tightness (omega arith));
}

-- in a place that is loose enough
pub loose_good : (q : Printed) (x : Expr) (place o : ℕ) → nat_le place q.tightness ≡ true → At q.tightness x q.words o → Good q x place o
loose_good q x place o fit bare = record { bare = bare; around = λ loose. absurd (true_false (sym fit ∙ loose)) }

-- what the printer makes of each variant
step_of : (x : layer.Expr-F Expr) → printed (Rattle.jsx_syntax.specs.declared.expr.Expr.TheViews.roll-Expr x)
    ≡ printed_step (Rattle.jsx_syntax.specs.declared.expr.Expr.TheFolds.map-Expr Expr Printed printed x)
step_of = fold-roll-Expr Printed printed_step

pub printed-Null : printed e.Null ≡ so_tight 7 (keyword (codes "null") ∷ [])
printed-Null = ap printed (sym e.rolls-Null) ∙ step_of layer.Null

pub printed-Bool : (b : Bool) → printed (e.Bool b) ≡ so_tight 7 (truth_word b ∷ [])
printed-Bool b = ap printed (sym (e.rolls-Bool b)) ∙ step_of (layer.Bool b)

pub printed-Int : (n : ℤ) → printed (e.Int n) ≡ so_tight 7 (w.Number n ∷ [])
printed-Int n = ap printed (sym (e.rolls-Int n)) ∙ step_of (layer.Int n)

pub printed-Text : (text : List ℕ) → printed (e.Text text) ≡ so_tight 7 (w.Text text ∷ [])
printed-Text text = ap printed (sym (e.rolls-Text text)) ∙ step_of (layer.Text text)

pub printed-Name : (name : Name) → printed (e.Name name) ≡ so_tight 7 (name_word name ∷ [])
printed-Name name = ap printed (sym (e.rolls-Name name)) ∙ step_of (layer.Name name)

pub printed-Member : (of : Expr) (names : List (List ℕ)) → printed (e.Member of names) ≡ so_tight 6 (member_words (printed of) names)
printed-Member of names = ap printed (sym (e.rolls-Member of names)) ∙ step_of (layer.Member of names)

pub printed-Not : (x : Expr) → printed (e.Not x) ≡ so_tight 5 (w.Sign p.Not ∷ operand 5 (printed x))
printed-Not x = ap printed (sym (e.rolls-Not x)) ∙ step_of (layer.Not x)

pub printed-Sum : (xs : List Expr) → printed (e.Sum xs) ≡ so_tight 4 (chain p.Plus 5 (map printed xs))
printed-Sum xs = ap printed (sym (e.rolls-Sum xs)) ∙ step_of (layer.Sum xs)

pub printed-Equal : (x y : Expr) (negated : Bool) → printed (e.Equal x y negated) ≡ so_tight 3 (equal_words (printed x) (printed y) negated)
printed-Equal x y negated = ap printed (sym (e.rolls-Equal x y negated)) ∙ step_of (layer.Equal x y negated)

pub printed-And : (xs : List Expr) → printed (e.And xs) ≡ so_tight 2 (chain p.AndAnd 3 (map printed xs))
printed-And xs = ap printed (sym (e.rolls-And xs)) ∙ step_of (layer.And xs)

pub printed-Or : (xs : List Expr) → printed (e.Or xs) ≡ so_tight 1 (chain p.OrOr 2 (map printed xs))
printed-Or xs = ap printed (sym (e.rolls-Or xs)) ∙ step_of (layer.Or xs)

pub printed-Choose : (x y z : Expr) → printed (e.Choose x y z) ≡ so_tight 0 (choice_words (printed x) (printed y) (printed z))
printed-Choose x y z = ap printed (sym (e.rolls-Choose x y z)) ∙ step_of (layer.Choose x y z)

-- an expression whose own words are known
pub own : (q : Printed) (x : Expr) (place o : ℕ) → printed x ≡ q → nat_le place q.tightness ≡ true → At q.tightness x q.words o → Prints x place o
own q x place o is fit bare = subst (λ (r : Printed). Good r x place o) (sym is) (loose_good q x place o fit bare)

-- a single word
pub one_word : (c : Syntax g.primary) (x : Expr) (word : Word) (o : ℕ) → ((more : List Word) → spell g.primary c more ≡ word ∷ more) → Fits g.primary c o → Sound true g.primary c
    → tree g.primary c ≡ x → printed x ≡ so_tight 7 (word ∷ []) → Prints x 7 o
one_word c x word o spelled fits sound is own_is =
    own (so_tight 7 (word ∷ [])) x 7 o own_is refl (record { syntax = c; fits = fits; sound = sound; spelled = spelled; is = is })

-- Members.

abbrev Dotted : Type 0
Dotted = Meaning g.member

pub record Members (d : Meaning g.member) (o : ℕ) : Type 0 where
  pub of_good : Prints d.of 7 o
  pub spells : Spells g.member (λ (x : Meaning g.member). x) d (member_words (printed d.of) d.names) o

abbrev dotted : Expr → List (List ℕ) → Dotted
dotted of names = record { of = of; names = names }

abbrev nameless : List ℕ → Name
nameless text = record { text = text; at = 0 }

pub no_members : (x : Expr) (o : ℕ) → Prints x 7 o → Members (dotted x []) o
no_members x o good =
    let a : At 7 x (operand 7 (printed x)) o = operand_good (printed x) x 7 o (omega arith) good in
    record {
      of_good = good;
      spells = record {
        syntax = g.no_member a.syntax;
        fits = a.fits;
        sound = a.sound;
        spelled = λ more. a.spelled more ∙ ap (λ (ws : List Word). ws ++ more) (sym (append-nil (operand 7 (printed x))));
        is = ap (λ (y : Expr). dotted y []) a.is;
      };
    }

names_more : (names : List (List ℕ)) (name : List ℕ) → names_words (names ++ name ∷ []) ≡ names_words names ++ w.Sign p.Dot ∷ keyword name ∷ []
names_more names name = flat_map-append (λ (name : List ℕ). w.Sign p.Dot ∷ keyword name ∷ []) names (name ∷ [])

pub one_member : (of : Expr) (names : List (List ℕ)) (name : List ℕ) (o : ℕ) → IsCodeName name → Members (dotted of names) o → Members (dotted of (names ++ name ∷ [])) o
one_member of names name o named m = record {
  of_good = m.of_good;
  spells = record {
    syntax = g.dot m.spells.syntax (nameless name);
    fits = m.spells.fits;
    sound = (m.spells.sound, named);
    spelled = λ more.
        let first : List Word = operand 7 (printed of) in
        let last : List Word = w.Sign p.Dot ∷ keyword name ∷ [] in
        m.spells.spelled (w.Sign p.Dot ∷ keyword name ∷ more)
        ∙ (sym (append_assoc (first ++ names_words names) last more)
        ∙ ap (λ (ws : List Word). ws ++ more) (append_assoc first (names_words names) last ∙ ap (λ (ws : List Word). first ++ ws) (sym (names_more names name))));
    is = ap (λ (d : Dotted). dotted d.of (d.names ++ name ∷ [])) m.spells.is;
  };
}

pub members_good : (of : Expr) (names : List (List ℕ)) (o : ℕ) → Members (dotted of names) o → Prints (members_of of names) 6 o
members_good of [] o m = wider (printed of) of 7 6 o (omega arith) m.of_good
members_good of (name ∷ names) o m =
    own (so_tight 6 (member_words (printed of) (name ∷ names))) (e.Member of (name ∷ names)) 6 o (printed-Member of (name ∷ names)) refl
    (record { syntax = m.spells.syntax; fits = m.spells.fits; sound = m.spells.sound; spelled = m.spells.spelled; is = ap member_of m.spells.is })

pub not_good : (x : Expr) (o : ℕ) → HasRoom o → Prints x 5 (o + 1) → Prints (e.Not x) 5 o
not_good x o room good =
    let a : At 5 x (operand 5 (printed x)) (o + 1) = operand_good (printed x) x 5 (o + 1) (omega arith) good in
    own (so_tight 5 (w.Sign p.Not ∷ operand 5 (printed x))) (e.Not x) 5 o (printed-Not x) refl
    (record {
      syntax = g.bang a.syntax;
      fits = (room, a.fits);
      sound = a.sound;
      spelled = λ more. ap (λ (ws : List Word). w.Sign p.Not ∷ ws) (a.spelled more);
      is = ap e.Not a.is;
    })

-- Chains of one operand or more. The only operand of a chain is its tree.

abbrev pub One : ℕ → List Expr → ℕ → Type 0
One place [] o = ⊥
One place (x ∷ []) o = Prints x place o
One place (x ∷ y ∷ more) o = Unit {0}

pub one_of : (place : ℕ) (x : Expr) (o : ℕ) → Prints x place o → One place (x ∷ []) o
one_of place x o good = good

one_more : (place : ℕ) (xs : List Expr) (x : Expr) (o : ℕ) → One place xs o → One place (xs ++ x ∷ []) o
one_more place [] x o one = absurd one
one_more place (y ∷ []) x o one = tt
one_more place (y ∷ z ∷ more) x o one = tt

-- a chain with one operand more
chain_more : (mark : Punctuator) (least : ℕ) (xs : List Expr) (x : Expr) (o : ℕ) (more : List Word) → One least xs o
    → chain mark least (map printed xs) ++ (w.Sign mark ∷ (operand least (printed x) ++ more)) ≡ chain mark least (map printed (xs ++ x ∷ [])) ++ more
chain_more mark least [] x o more one = absurd one
chain_more mark least (y ∷ ys) x o more one =
    let first : List Word = operand least (printed y) in
    let middle : List Word = later_operands mark least (map printed ys) in
    let last : List Word = w.Sign mark ∷ operand least (printed x) in
    let f : Printed → List Word = λ q. w.Sign mark ∷ operand least q in
    let joined : later_operands mark least (map printed (ys ++ x ∷ [])) ≡ middle ++ last =
    ap (later_operands mark least) (map-append printed ys (x ∷ []))
    ∙ (flat_map-append f (map printed ys) (printed x ∷ []) ∙ ap (λ (ws : List Word). middle ++ ws) (append-nil last)) in
    sym (append_assoc (first ++ middle) last more)
    ∙ ap (λ (ws : List Word). ws ++ more) (append_assoc first middle last ∙ ap (λ (ws : List Word). first ++ ws) (sym joined))

pub record Chain (s : Sort) (f : Meaning s → List Expr) (mark : Punctuator) (least : ℕ) (xs : List Expr) (o : ℕ) : Type 0 where
  pub spells : Spells s f xs (chain mark least (map printed xs)) o
  pub one : One least xs o

abbrev pub Sums : List Expr → ℕ → Type 0
Sums xs o = Chain g.sum (λ ys. ys) p.Plus 5 xs o

abbrev pub Ands : List Expr → ℕ → Type 0
Ands xs o = Chain g.conjunction (λ ys. ys) p.AndAnd 3 xs o

abbrev pub Ors : List Expr → ℕ → Type 0
Ors xs o = Chain g.disjunction (λ ys. ys) p.OrOr 2 xs o

pub sums_one : (x : Expr) (o : ℕ) → Prints x 5 o → Sums (x ∷ []) o
sums_one x o good =
    let a : At 5 x (operand 5 (printed x)) o = operand_good (printed x) x 5 o (omega arith) good in
    record {
      spells = record {
        syntax = g.no_plus a.syntax;
        fits = a.fits;
        sound = a.sound;
        spelled = λ more. a.spelled more ∙ ap (λ (ws : List Word). ws ++ more) (sym (append-nil (operand 5 (printed x))));
        is = ap (λ (y : Expr). y ∷ []) a.is;
      };
      one = good;
    }

pub sums_more : (xs : List Expr) (x : Expr) (o : ℕ) → Sums xs o → Prints x 5 o → Sums (xs ++ x ∷ []) o
sums_more xs x o c good =
    let a : At 5 x (operand 5 (printed x)) o = operand_good (printed x) x 5 o (omega arith) good in
    record {
      spells = record {
        syntax = g.plus c.spells.syntax a.syntax;
        fits = (c.spells.fits, a.fits);
        sound = (c.spells.sound, a.sound);
        spelled = λ more. c.spells.spelled (w.Sign p.Plus ∷ spell g.unary a.syntax more)
            ∙ (ap (λ (ws : List Word). chain p.Plus 5 (map printed xs) ++ (w.Sign p.Plus ∷ ws)) (a.spelled more) ∙ chain_more p.Plus 5 xs x o more c.one);
        is = ap (λ (ys : List Expr). ys ++ tree g.unary a.syntax ∷ []) c.spells.is ∙ ap (λ (y : Expr). xs ++ y ∷ []) a.is;
      };
      one = one_more 5 xs x o c.one;
    }

pub sums_good : (xs : List Expr) (o : ℕ) → Sums xs o → Prints (sum_of xs) 4 o
sums_good [] o c = absurd c.one
sums_good (x ∷ []) o c = wider (printed x) x 5 4 o (omega arith) c.one
sums_good (x ∷ y ∷ more) o c =
    own (so_tight 4 (chain p.Plus 5 (map printed (x ∷ y ∷ more)))) (e.Sum (x ∷ y ∷ more)) 4 o (printed-Sum (x ∷ y ∷ more)) refl
    (record { syntax = c.spells.syntax; fits = c.spells.fits; sound = c.spells.sound; spelled = c.spells.spelled; is = ap sum_of c.spells.is })

pub ands_one : (x : Expr) (o : ℕ) → Prints x 3 o → Ands (x ∷ []) o
ands_one x o good =
    let a : At 3 x (operand 3 (printed x)) o = operand_good (printed x) x 3 o (omega arith) good in
    record {
      spells = record {
        syntax = g.no_and a.syntax;
        fits = a.fits;
        sound = a.sound;
        spelled = λ more. a.spelled more ∙ ap (λ (ws : List Word). ws ++ more) (sym (append-nil (operand 3 (printed x))));
        is = ap (λ (y : Expr). y ∷ []) a.is;
      };
      one = good;
    }

pub ands_more : (xs : List Expr) (x : Expr) (o : ℕ) → Ands xs o → Prints x 3 o → Ands (xs ++ x ∷ []) o
ands_more xs x o c good =
    let a : At 3 x (operand 3 (printed x)) o = operand_good (printed x) x 3 o (omega arith) good in
    record {
      spells = record {
        syntax = g.and c.spells.syntax a.syntax;
        fits = (c.spells.fits, a.fits);
        sound = (c.spells.sound, a.sound);
        spelled = λ more. c.spells.spelled (w.Sign p.AndAnd ∷ spell g.equality a.syntax more)
            ∙ (ap (λ (ws : List Word). chain p.AndAnd 3 (map printed xs) ++ (w.Sign p.AndAnd ∷ ws)) (a.spelled more) ∙ chain_more p.AndAnd 3 xs x o more c.one);
        is = ap (λ (ys : List Expr). ys ++ tree g.equality a.syntax ∷ []) c.spells.is ∙ ap (λ (y : Expr). xs ++ y ∷ []) a.is;
      };
      one = one_more 3 xs x o c.one;
    }

pub ands_good : (xs : List Expr) (o : ℕ) → Ands xs o → Prints (and_of xs) 2 o
ands_good [] o c = absurd c.one
ands_good (x ∷ []) o c = wider (printed x) x 3 2 o (omega arith) c.one
ands_good (x ∷ y ∷ more) o c =
    own (so_tight 2 (chain p.AndAnd 3 (map printed (x ∷ y ∷ more)))) (e.And (x ∷ y ∷ more)) 2 o (printed-And (x ∷ y ∷ more)) refl
    (record { syntax = c.spells.syntax; fits = c.spells.fits; sound = c.spells.sound; spelled = c.spells.spelled; is = ap and_of c.spells.is })

pub ors_one : (x : Expr) (o : ℕ) → Prints x 2 o → Ors (x ∷ []) o
ors_one x o good =
    let a : At 2 x (operand 2 (printed x)) o = operand_good (printed x) x 2 o (omega arith) good in
    record {
      spells = record {
        syntax = g.no_or a.syntax;
        fits = a.fits;
        sound = a.sound;
        spelled = λ more. a.spelled more ∙ ap (λ (ws : List Word). ws ++ more) (sym (append-nil (operand 2 (printed x))));
        is = ap (λ (y : Expr). y ∷ []) a.is;
      };
      one = good;
    }

pub ors_more : (xs : List Expr) (x : Expr) (o : ℕ) → Ors xs o → Prints x 2 o → Ors (xs ++ x ∷ []) o
ors_more xs x o c good =
    let a : At 2 x (operand 2 (printed x)) o = operand_good (printed x) x 2 o (omega arith) good in
    record {
      spells = record {
        syntax = g.or c.spells.syntax a.syntax;
        fits = (c.spells.fits, a.fits);
        sound = (c.spells.sound, a.sound);
        spelled = λ more. c.spells.spelled (w.Sign p.OrOr ∷ spell g.conjunction a.syntax more)
            ∙ (ap (λ (ws : List Word). chain p.OrOr 2 (map printed xs) ++ (w.Sign p.OrOr ∷ ws)) (a.spelled more) ∙ chain_more p.OrOr 2 xs x o more c.one);
        is = ap (λ (ys : List Expr). ys ++ and_of (tree g.conjunction a.syntax) ∷ []) c.spells.is ∙ ap (λ (y : Expr). xs ++ y ∷ []) a.is;
      };
      one = one_more 2 xs x o c.one;
    }

pub ors_good : (xs : List Expr) (o : ℕ) → Ors xs o → Prints (or_of xs) 1 o
ors_good [] o c = absurd c.one
ors_good (x ∷ []) o c = wider (printed x) x 2 1 o (omega arith) c.one
ors_good (x ∷ y ∷ more) o c =
    own (so_tight 1 (chain p.OrOr 2 (map printed (x ∷ y ∷ more)))) (e.Or (x ∷ y ∷ more)) 1 o (printed-Or (x ∷ y ∷ more)) refl
    (record { syntax = c.spells.syntax; fits = c.spells.fits; sound = c.spells.sound; spelled = c.spells.spelled; is = ap or_of c.spells.is })

pub equal_good : (negated : Bool) (x y : Expr) (o : ℕ) → Prints x 4 o → Prints y 4 o → Prints (e.Equal x y negated) 3 o
equal_good negated x y o left right =
    let a : At 4 x (operand 4 (printed x)) o = operand_good (printed x) x 4 o (omega arith) left in
    let b : At 4 y (operand 4 (printed y)) o = operand_good (printed y) y 4 o (omega arith) right in
    let mark : Word = w.Sign (equal_sign negated) in
    own (so_tight 3 (equal_words (printed x) (printed y) negated)) (e.Equal x y negated) 3 o (printed-Equal x y negated) refl
    (record {
      syntax = g.equal negated a.syntax b.syntax;
      fits = (a.fits, b.fits);
      sound = (a.sound, b.sound);
      spelled = λ more. a.spelled (mark ∷ spell g.sum b.syntax more)
          ∙ (ap (λ (ws : List Word). operand 4 (printed x) ++ (mark ∷ ws)) (b.spelled more)
          ∙ sym (append_assoc (operand 4 (printed x)) (mark ∷ operand 4 (printed y)) more));
      is = ap (λ (z : Expr). e.Equal z (sum_of (tree g.sum b.syntax)) negated) a.is ∙ ap (λ (z : Expr). e.Equal x z negated) b.is;
    })

-- the words of a conditional, in front of others
pub choice_spelled : (test one other : List Word) (c d f : List Word → List Word)
    → ((more : List Word) → c more ≡ test ++ more) → ((more : List Word) → d more ≡ one ++ more) → ((more : List Word) → f more ≡ other ++ more)
    → (more : List Word) → c (w.Sign p.Question ∷ d (w.Sign p.Colon ∷ f more)) ≡ (test ++ w.Sign p.Question ∷ (one ++ w.Sign p.Colon ∷ other)) ++ more
choice_spelled test one other c d f cs ds fs more =
    let tail : List Word = w.Sign p.Colon ∷ other in
    cs (w.Sign p.Question ∷ d (w.Sign p.Colon ∷ f more))
    ∙ (ap (λ (ws : List Word). test ++ (w.Sign p.Question ∷ ws)) (ds (w.Sign p.Colon ∷ f more) ∙ ap (λ (ws : List Word). one ++ (w.Sign p.Colon ∷ ws)) (fs more))
    ∙ (ap (λ (ws : List Word). test ++ (w.Sign p.Question ∷ ws)) (sym (append_assoc one tail more))
    ∙ sym (append_assoc test (w.Sign p.Question ∷ (one ++ tail)) more)))

pub choice_good : (x y z : Expr) (o : ℕ) → HasRoom o → Prints x 1 o → Prints y 0 (o + 1) → Prints z 0 (o + 1) → Prints (e.Choose x y z) 0 o
choice_good x y z o room test one other =
    let a : At 1 x (operand 1 (printed x)) o = operand_good (printed x) x 1 o (omega arith) test in
    let b : At 0 y (printed y).words (o + 1) = whole_good (printed y) y 0 (o + 1) one in
    let c : At 0 z (printed z).words (o + 1) = whole_good (printed z) z 0 (o + 1) other in
    own (so_tight 0 (choice_words (printed x) (printed y) (printed z))) (e.Choose x y z) 0 o (printed-Choose x y z) refl
    (record {
      syntax = g.choice a.syntax b.syntax c.syntax;
      fits = (a.fits, room, b.fits, c.fits);
      sound = (a.sound, b.sound, c.sound);
      spelled = choice_spelled (operand 1 (printed x)) (printed y).words (printed z).words (spell g.disjunction a.syntax) (spell g.expression b.syntax)
          (spell g.expression c.syntax) a.spelled b.spelled c.spelled;
      is = ap (λ (t : Expr). e.Choose t (tree g.expression b.syntax) (tree g.expression c.syntax)) a.is
          ∙ (ap (λ (t : Expr). e.Choose x t (tree g.expression c.syntax)) b.is ∙ ap (λ (t : Expr). e.Choose x y t) c.is);
    })
