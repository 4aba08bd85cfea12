-- Whole parts from parts: an operand ends, with the signs and operands before it.
use Rattle.std.proofs.Common.{◌≡◌, ℕ, zero, suc, ◌+◌, Bool, true, false, List, [], ◌∷◌, ◌++◌, Option, Some, None, inl, inr, refl, sym, ap, subst, ◌∙◌, add-zero, arith, ◌&&◌, ◌==◌, eqb-true, is_none}
use Rattle.jsx_lex.specs.declared.word.Word.{Word}
use Rattle.jsx_lex.specs.declared.word.Word.TheVariants as w
use Rattle.jsx_lex.specs.declared.word.Punctuator.TheVariants as p
use Rattle.jsx_syntax.specs.declared.name.Name.{Name}
use Rattle.jsx_syntax.specs.declared.expr.Expr.{Expr}
use Rattle.jsx_syntax.specs.declared.node.Node.{Node}
use Rattle.jsx_syntax.specs.declared.part.Part.{Part}
use Rattle.jsx_syntax.specs.declared.part.Part.TheVariants.{Value, Other}
use Rattle.jsx_syntax.specs.declared.part.Dotted.{Dotted}
use Rattle.jsx_syntax.specs.declared.state.Left.{Left}
use Rattle.jsx_syntax.specs.declared.state.Pending.{Pending}
use Rattle.jsx_syntax.specs.declared.state.Conditional.{Conditional}
use Rattle.jsx_syntax.specs.declared.state.Tag.{Tag}
use Rattle.jsx_syntax.specs.Trees.{or_of, sum_of, member_of, node_of, is_suspense}
use Rattle.jsx_syntax.specs.Words.{name_word}
use Rattle.jsx_syntax.specs.Grammar.{Sort, Syntax, Meaning, spell, tree, Fits, HasRoom, IsName, AreNames, equal_sign}
use Rattle.jsx_syntax.specs.Grammar as g
use Rattle.jsx_syntax.specs.Steps.{allows_node, nesting, fallback_place}
use Rattle.jsx_syntax.specs.declared.expr.Expr.TheVariants as e
use Rattle.jsx_syntax.specs.declared.node.Node.TheVariants as n
use Rattle.jsx_syntax.specs.Trees.{and_of, choose_part, or_part, and_part, entry}
use Rattle.jsx_syntax.specs.Steps.{nots_of, equal_of, sums_of, ands_of, ors_of, value_of, node_part, is_empty}
use Rattle.jsx_syntax.specs.Words.{is_fallback}
use Rattle.jsx_syntax.proofs.Zipper.{Read, Sums, Ands, Ors, sums_words, ands_words, ors_words, Lefts, left_words, Nots, nots_words, Before, before_words, PartRead, part_words, Test, AtValue, AtNode, Listed, listed_words}

pub ap2 : {A B C : Type 0} (f : A → B → C) {a a' : A} {b b' : B} → a ≡ a' → b ≡ b' → f a b ≡ f a' b'
ap2 f {a = a} {a' = a'} {b = b} {b' = b'} x y = ap (λ c. f c b) x ∙ ap (λ c. f a' c) y

pub ap3 : {A B C D : Type 0} (f : A → B → C → D) {a a' : A} {b b' : B} {c c' : C} → a ≡ a' → b ≡ b' → c ≡ c' → f a b c ≡ f a' b' c'
ap3 f {a = a} {a' = a'} {b = b} {b' = b'} {c = c} {c' = c'} x y z = ap (λ v. f v b c) x ∙ ap (λ v. f a' v c) y ∙ ap (λ v. f a' b' v) z

-- a whole part that spells these words
pub record ReadAs (s : Sort) (v : Meaning s) (d : ℕ) (words : List Word → List Word) : Type 0 where
  pub read : Read s v d
  pub words_are : (more : List Word) → spell s read.syntax more ≡ words more

pub record PartAs (x : Part) (place : Bool) (d : ℕ) (words : List Word → List Word) : Type 0 where
  pub read : PartRead x place d
  pub words_are : (more : List Word) → part_words x place d read more ≡ words more

abbrev pub at_depth : (s : Sort) (v : Meaning s) (d e_ : ℕ) → d ≡ e_ → Read s v d → Read s v e_
at_depth s v d e_ is r = record { syntax = r.syntax; is = r.is; fits = subst (λ (k : ℕ). Fits s r.syntax k) is r.fits }

pub nots_words-add : (k : ℕ) (more : List Word) → nots_words (k + 1) more ≡ nots_words k (w.Sign p.Not ∷ more)
nots_words-add zero more = refl
nots_words-add (suc k) more =
    let same : suc k + 1 ≡ suc (k + 1) = omega arith in
    ap (λ (j : ℕ). nots_words j more) same ∙ ap (λ (ws : List Word). w.Sign p.Not ∷ ws) (nots_words-add k more)

pub Nots-add : (k d : ℕ) → Nots k d → HasRoom (d + k) → Nots (k + 1) d
Nots-add zero d nots room = (subst HasRoom (add-zero d) room, tt)
Nots-add (suc k) d nots room =
    let same : suc (k + 1) ≡ suc k + 1 = omega arith in
    let deeper : d + suc k ≡ d + 1 + k = omega arith in
    subst (λ (j : ℕ). Nots j d) same (nots.0, Nots-add k (d + 1) nots.1 (subst HasRoom deeper room))

pub close_unary : (k d : ℕ) (x : Dotted) → Nots k d → (r : Read g.member x (d + k))
    → ReadAs g.unary (nots_of k (member_of x)) d (λ more. nots_words k (spell g.member r.syntax more))
close_unary zero d x nots r = record {
  read = record { syntax = g.no_bang r.syntax; is = ap member_of r.is; fits = subst (λ (j : ℕ). Fits g.member r.syntax j) (add-zero d) r.fits };
  words_are = λ more. refl;
}
close_unary (suc k) d x nots r =
    let deeper : d + suc k ≡ d + 1 + k = omega arith in
    let u = close_unary k (d + 1) x nots.1 (at_depth g.member x (d + suc k) (d + 1 + k) deeper r) in
    record {
      read = record { syntax = g.bang u.read.syntax; is = ap e.Not u.read.is; fits = (nots.0, u.read.fits) };
      words_are = λ more. ap (λ (ws : List Word). w.Sign p.Not ∷ ws) (u.words_are more);
    }

pub close_sum : (xs : List Expr) (d : ℕ) (c : Sums xs d) (x : Expr) (words : List Word → List Word)
    → ReadAs g.unary x d words → ReadAs g.sum (xs ++ x ∷ []) d (λ more. sums_words xs d c (words more))
close_sum xs d (inl none) x words u = record {
  read = record { syntax = g.no_plus u.read.syntax; is = ap2 (λ (ys : List Expr) (y : Expr). ys ++ y ∷ []) (sym none) u.read.is; fits = u.read.fits };
  words_are = u.words_are;
}
close_sum xs d (inr r) x words u = record {
  read = record { syntax = g.plus r.syntax u.read.syntax; is = ap2 (λ (ys : List Expr) (y : Expr). ys ++ y ∷ []) r.is u.read.is; fits = (r.fits, u.read.fits) };
  words_are = λ more. ap (λ (ws : List Word). spell g.sum r.syntax (w.Sign p.Plus ∷ ws)) (u.words_are more);
}

pub close_equality : (left : Option Left) (d : ℕ) (l : Lefts left d) (xs : List Expr) (words : List Word → List Word)
    → ReadAs g.sum xs d words → ReadAs g.equality (equal_of left (sum_of xs)) d (λ more. left_words left d l (words more))
close_equality None d l xs words u = record {
  read = record { syntax = g.no_equal u.read.syntax; is = ap sum_of u.read.is; fits = u.read.fits };
  words_are = u.words_are;
}
close_equality (Some left) d l xs words u = record {
  read = record {
    syntax = g.equal left.negated l.read.syntax u.read.syntax;
    is = ap2 (λ (a b_ : Expr). e.Equal a b_ left.negated) (ap sum_of l.read.is ∙ l.is) (ap sum_of u.read.is);
    fits = (l.read.fits, u.read.fits);
  };
  words_are = λ more. ap (λ (ws : List Word). spell g.sum l.read.syntax (w.Sign (equal_sign left.negated) ∷ ws)) (u.words_are more);
}

pub close_and : (xs : List Expr) (d : ℕ) (c : Ands xs d) (x : Expr) (words : List Word → List Word)
    → ReadAs g.equality x d words → ReadAs g.conjunction (xs ++ x ∷ []) d (λ more. ands_words xs d c (words more))
close_and xs d (inl none) x words u = record {
  read = record { syntax = g.no_and u.read.syntax; is = ap2 (λ (ys : List Expr) (y : Expr). ys ++ y ∷ []) (sym none) u.read.is; fits = u.read.fits };
  words_are = u.words_are;
}
close_and xs d (inr r) x words u = record {
  read = record { syntax = g.and r.syntax u.read.syntax; is = ap2 (λ (ys : List Expr) (y : Expr). ys ++ y ∷ []) r.is u.read.is; fits = (r.fits, u.read.fits) };
  words_are = λ more. ap (λ (ws : List Word). spell g.conjunction r.syntax (w.Sign p.AndAnd ∷ ws)) (u.words_are more);
}

pub close_or : (xs : List Expr) (d : ℕ) (c : Ors xs d) (ys : List Expr) (words : List Word → List Word)
    → ReadAs g.conjunction ys d words → ReadAs g.disjunction (xs ++ and_of ys ∷ []) d (λ more. ors_words xs d c (words more))
close_or xs d (inl none) ys words u = record {
  read = record { syntax = g.no_or u.read.syntax; is = ap2 (λ (zs : List Expr) (y : Expr). zs ++ y ∷ []) (sym none) (ap and_of u.read.is); fits = u.read.fits };
  words_are = u.words_are;
}
close_or xs d (inr r) ys words u = record {
  read = record { syntax = g.or r.syntax u.read.syntax; is = ap2 (λ (zs : List Expr) (y : Expr). zs ++ y ∷ []) r.is (ap and_of u.read.is); fits = (r.fits, u.read.fits) };
  words_are = λ more. ap (λ (ws : List Word). spell g.disjunction r.syntax (w.Sign p.OrOr ∷ ws)) (u.words_are more);
}

-- The parts of an expression whose last operand was read.

abbrev pub tail_words : (q : Pending) (d : Dotted) → AtValue q d → List Word → List Word
tail_words q d z more = sums_words q.sums q.depth z.before.sums (nots_words q.nots (spell g.member z.read.syntax more))

pub sums_closed : (q : Pending) (d : Dotted) (z : AtValue q d) → ReadAs g.sum (sums_of q d) q.depth (tail_words q d z)
sums_closed q d z =
    close_sum q.sums q.depth z.before.sums (nots_of q.nots (member_of d)) (λ more. nots_words q.nots (spell g.member z.read.syntax more))
    (close_unary q.nots q.depth d z.before.nots z.read)

pub ands_closed : (q : Pending) (d : Dotted) (z : AtValue q d)
    → ReadAs g.conjunction (ands_of q d) q.depth (λ more. ands_words q.ands q.depth z.before.ands (left_words q.left q.depth z.before.left (tail_words q d z more)))
ands_closed q d z =
    close_and q.ands q.depth z.before.ands (equal_of q.left (sum_of (sums_of q d))) (λ more. left_words q.left q.depth z.before.left (tail_words q d z more))
    (close_equality q.left q.depth z.before.left (sums_of q d) (tail_words q d z) (sums_closed q d z))

pub ors_closed : (q : Pending) (d : Dotted) (z : AtValue q d)
    → ReadAs g.disjunction (ors_of q d) q.depth (λ more. before_words q z.before (spell g.member z.read.syntax more))
ors_closed q d z =
    close_or q.ors q.depth z.before.ors (ands_of q d)
    (λ more. ands_words q.ands q.depth z.before.ands (left_words q.left q.depth z.before.left (tail_words q d z more))) (ands_closed q d z)

pub value_closed : (q : Pending) (d : Dotted) (z : AtValue q d)
    → ReadAs g.expression (value_of q d) q.depth (λ more. before_words q z.before (spell g.member z.read.syntax more))
value_closed q d z =
    let u = ors_closed q d z in
    record {
      read = record { syntax = g.no_choice u.read.syntax; is = ap or_of u.read.is; fits = u.read.fits };
      words_are = u.words_are;
    }

-- Where an element, an array or a map may stand, no sign of a value's levels came before.

pub record Allows (q : Pending) : Type 0 where
  pub place : q.place ≡ true
  pub left : q.left ≡ None
  pub sums : q.sums ≡ []
  pub nots : q.nots ≡ 0

both : (a b_ : Bool) → a && b_ ≡ true → (a ≡ true) × (b_ ≡ true)
both true b_ h = (refl, h)
both false b_ h = absurd (cc)

none_is : (x : Option Left) → is_none x ≡ true → x ≡ None
none_is None h = refl
none_is (Some x) h = absurd (cc)

empty_is : (xs : List Expr) → is_empty xs ≡ true → xs ≡ []
empty_is [] h = refl
empty_is (x ∷ xs) h = absurd (cc)

pub allows_is : (q : Pending) → allows_node q ≡ true → Allows q
allows_is q h =
    let last = both ((q.place && is_none q.left) && is_empty q.sums) (q.nots == 0) h in
    let third = both (q.place && is_none q.left) (is_empty q.sums) last.0 in
    let second = both q.place (is_none q.left) third.0 in
    record { place = second.0; left = none_is q.left second.1; sums = empty_is q.sums third.1; nots = eqb-true q.nots 0 last.1 }

pub nesting-allows : (q : Pending) → allows_node q ≡ true → nesting q ≡ q.depth
nesting-allows q h = ap (λ (k : ℕ). q.depth + k) (allows_is q h).nots ∙ add-zero q.depth

snoc_some : {A : Type 0} (xs : List A) (x : A) → xs ++ x ∷ [] ≡ [] → ⊥
snoc_some [] x h = cc
snoc_some (y ∷ xs) x h = cc

sum_some : (c : Syntax g.sum) → tree g.sum c ≡ [] → ⊥
sum_some (g.no_plus c) h = cc
sum_some (g.plus c u) h = snoc_some (tree g.sum c) (tree g.unary u) h

sums_words-nil : (xs : List Expr) (d : ℕ) (c : Sums xs d) (more : List Word) → xs ≡ [] → sums_words xs d c more ≡ more
sums_words-nil xs d (inl none) more h = refl
sums_words-nil xs d (inr r) more h = absurd (sum_some r.syntax (r.is ∙ h))

left_words-none : (x : Option Left) (d : ℕ) (l : Lefts x d) (more : List Word) → x ≡ None → left_words x d l more ≡ more
left_words-none None d l more h = refl
left_words-none (Some x) d l more h = absurd (cc)

pub before_words-allows : (q : Pending) (r : Before q) (more : List Word) → allows_node q ≡ true
    → before_words q r more ≡ ors_words q.ors q.depth r.ors (ands_words q.ands q.depth r.ands more)
before_words-allows q r more h =
    let a = allows_is q h in
    ap (λ (ws : List Word). ors_words q.ors q.depth r.ors (ands_words q.ands q.depth r.ands ws))
    (left_words-none q.left q.depth r.left (sums_words q.sums q.depth r.sums (nots_words q.nots more)) a.left
    ∙ sums_words-nil q.sums q.depth r.sums (nots_words q.nots more) a.sums
    ∙ ap (λ (k : ℕ). nots_words k more) a.nots)

-- Node places.

pub node_read : (x : Part) (d : ℕ) (place : Bool) (r : PartRead x place d) → ReadAs g.node x d (part_words x place d r)
node_read (Value x) d place r = record {
  read = record { syntax = g.value r.syntax; is = ap Value r.is; fits = r.fits };
  words_are = λ more. refl;
}
node_read (Other x) d place r = record { read = r.1; words_are = λ more. refl }

and_part-nil : (x : Part) → and_part [] x ≡ x
and_part-nil (Value x) = refl
and_part-nil (Other x) = refl

or_part-nil : (x : Part) → or_part [] x ≡ x
or_part-nil (Value x) = refl
or_part-nil (Other x) = refl

and_node : (xs : List Expr) (d : ℕ) (c : Ands xs d) (x : Part) (words : List Word → List Word)
    → ReadAs g.node_primary x d words → ReadAs g.node_conjunction (and_part xs x) d (λ more. ands_words xs d c (words more))
and_node xs d (inl none) x words u = record {
  read = record { syntax = g.and_alone u.read.syntax; is = u.read.is ∙ sym (and_part-nil x) ∙ ap (λ (ys : List Expr). and_part ys x) (sym none); fits = u.read.fits };
  words_are = u.words_are;
}
and_node xs d (inr r) x words u = record {
  read = record { syntax = g.and_last r.syntax u.read.syntax; is = ap2 and_part r.is u.read.is; fits = (r.fits, u.read.fits) };
  words_are = λ more. ap (λ (ws : List Word). spell g.conjunction r.syntax (w.Sign p.AndAnd ∷ ws)) (u.words_are more);
}

or_node : (xs : List Expr) (d : ℕ) (c : Ors xs d) (x : Part) (words : List Word → List Word)
    → ReadAs g.node_conjunction x d words → ReadAs g.node_disjunction (or_part xs x) d (λ more. ors_words xs d c (words more))
or_node xs d (inl none) x words u = record {
  read = record { syntax = g.or_alone u.read.syntax; is = u.read.is ∙ sym (or_part-nil x) ∙ ap (λ (ys : List Expr). or_part ys x) (sym none); fits = u.read.fits };
  words_are = u.words_are;
}
or_node xs d (inr r) x words u = record {
  read = record { syntax = g.or_last r.syntax u.read.syntax; is = ap2 or_part r.is u.read.is; fits = (r.fits, u.read.fits) };
  words_are = λ more. ap (λ (ws : List Word). spell g.disjunction r.syntax (w.Sign p.OrOr ∷ ws)) (u.words_are more);
}

abbrev IsOther : Part → Type 0
IsOther (Value x) = ⊥
IsOther (Other x) = Unit {0}

other_and : (xs : List Expr) (node : Node) → IsOther (and_part xs (Other node))
other_and [] node = tt
other_and (x ∷ xs) node = tt

other_or : (xs : List Expr) (x : Part) → IsOther x → IsOther (or_part xs x)
other_or xs (Value x) other = absurd other
other_or [] (Other x) other = tt
other_or (y ∷ xs) (Other x) other = tt

other_part : (x : Part) (place : Bool) (d : ℕ) (words : List Word → List Word) → place ≡ true → IsOther x → ReadAs g.node x d words → PartAs x place d words
other_part (Value x) place d words is other u = absurd other
other_part (Other x) place d words is other u = record { read = (is, u.read); words_are = u.words_are }

pub node_closed : (q : Pending) (node : Node) (z : AtNode q node)
    → PartAs (node_part q (Other node)) q.place q.depth (λ more. before_words q z.before (spell g.node_primary z.read.syntax more))
node_closed q node z =
    let first : ReadAs g.node_primary (Other node) q.depth (λ more. spell g.node_primary z.read.syntax more) = record { read = z.read; words_are = λ more. refl } in
    let second = and_node q.ands q.depth z.before.ands (Other node) (λ more. spell g.node_primary z.read.syntax more) first in
    let third = or_node q.ors q.depth z.before.ors (and_part q.ands (Other node)) (λ more. ands_words q.ands q.depth z.before.ands (spell g.node_primary z.read.syntax more)) second in
    other_part (node_part q (Other node)) q.place q.depth (λ more. before_words q z.before (spell g.node_primary z.read.syntax more)) (allows_is q z.allows).place (other_or q.ors (and_part q.ands (Other node)) (other_and q.ands node)) (record {
      read = record { syntax = g.chain third.read.syntax; is = third.read.is; fits = third.read.fits };
      words_are = λ more. third.words_are more ∙ sym (before_words-allows q z.before (spell g.node_primary z.read.syntax more) z.allows);
    })

pub choose_closed : (c : Conditional) (one other : Part) (test : Test c) (r : PartRead one c.place (c.depth + 1)) (l : PartRead other c.place (c.depth + 1))
    → PartAs (choose_part c.test one other) c.place c.depth (λ more. spell g.disjunction test.read.syntax (w.Sign p.Question
    ∷ part_words one c.place (c.depth + 1) r (w.Sign p.Colon ∷ part_words other c.place (c.depth + 1) l more)))
choose_closed c (Value one) (Value other) test r l = record {
  read = record {
    syntax = g.choice test.read.syntax r.syntax l.syntax;
    is = ap3 e.Choose (ap or_of test.read.is ∙ test.is) r.is l.is;
    fits = (test.read.fits, test.room, r.fits, l.fits);
  };
  words_are = λ more. refl;
}
choose_closed c (Value one) (Other other) test r l = record {
  read = (
    l.0,
    record {
      syntax = g.node_choice test.read.syntax (g.value r.syntax) l.1.syntax;
      is = ap3 choose_part (ap or_of test.read.is ∙ test.is) (ap Value r.is) l.1.is;
      fits = (test.read.fits, test.room, r.fits, l.1.fits);
    },
  );
  words_are = λ more. refl;
}
choose_closed c (Other one) (Value other) test r l = record {
  read = (
    r.0,
    record {
      syntax = g.node_choice test.read.syntax r.1.syntax (g.value l.syntax);
      is = ap3 choose_part (ap or_of test.read.is ∙ test.is) r.1.is (ap Value l.is);
      fits = (test.read.fits, test.room, r.1.fits, l.fits);
    },
  );
  words_are = λ more. refl;
}
choose_closed c (Other one) (Other other) test r l = record {
  read = (
    r.0,
    record {
      syntax = g.node_choice test.read.syntax r.1.syntax l.1.syntax;
      is = ap3 choose_part (ap or_of test.read.is ∙ test.is) r.1.is l.1.is;
      fits = (test.read.fits, test.room, r.1.fits, l.1.fits);
    },
  );
  words_are = λ more. refl;
}

pub listed_closed : (items : List Node) (d : ℕ) (c : Listed items d) (x : Part) (place : Bool) (r : PartRead x place d)
    → (list : Read g.node_list (items ++ node_of x ∷ []) d) × ((more : List Word) → w.Sign p.OpenBracket ∷ spell g.node_list list.syntax more ≡ listed_words items d c (part_words x place d r more))
listed_closed items d (inl none) x place r =
    let u = node_read x d place r in (
      record { syntax = g.first_node u.read.syntax; is = ap2 (λ (xs : List Node) (y : Part). xs ++ node_of y ∷ []) (sym none) u.read.is; fits = u.read.fits },
      λ more. ap (λ (ws : List Word). w.Sign p.OpenBracket ∷ ws) (u.words_are more),
    )
listed_closed items d (inr l) x place r =
    let u = node_read x d place r in (
      record { syntax = g.next_node l.syntax u.read.syntax; is = ap2 (λ (xs : List Node) (y : Part). xs ++ node_of y ∷ []) l.is u.read.is; fits = (l.fits, u.read.fits) },
      λ more. ap (λ (ws : List Word). w.Sign p.OpenBracket ∷ spell g.node_list l.syntax (w.Sign p.Comma ∷ ws)) (u.words_are more),
    )

fallback_read : (b_ : Bool) (name : Name) (x : Part) (d : ℕ) (place : Bool) (r : PartRead x place (d + 1)) → b_ ≡ true → is_fallback name.text ≡ true → HasRoom d
    → ReadAs (g.attribute b_) (entry name (node_of x)) d (λ more. name_word name ∷ w.Sign p.Assign ∷ w.Sign p.OpenBrace ∷ part_words x place (d + 1) r (w.Sign p.CloseBrace ∷ more))
fallback_read true name x d place r is named room =
    let u = node_read x (d + 1) place r in
    record {
      read = record { syntax = g.fallback name u.read.syntax; is = ap (λ (y : Part). entry name (node_of y)) u.read.is; fits = (named, room, u.read.fits) };
      words_are = λ more. ap (λ (ws : List Word). name_word name ∷ w.Sign p.Assign ∷ w.Sign p.OpenBrace ∷ ws) (u.words_are (w.Sign p.CloseBrace ∷ more));
    }
fallback_read false name x d place r is named room = absurd (cc)

pub braced_read : (tag : Tag) (name : Name) (x : Part) (d : ℕ) (place : Bool) (r : PartRead x place (d + 1)) → place ≡ fallback_place tag name → HasRoom d
    → ReadAs (g.attribute (is_suspense tag.name.text)) (entry name (node_of x)) d (λ more. name_word name ∷ w.Sign p.Assign ∷ w.Sign p.OpenBrace ∷ part_words x place (d + 1) r (w.Sign p.CloseBrace ∷ more))
braced_read tag name (Value x) d place r is room = record {
  read = record { syntax = g.braced name r.syntax; is = ap (λ (y : Expr). entry name (n.Value y)) r.is; fits = (room, r.fits) };
  words_are = λ more. refl;
}
braced_read tag name (Other x) d place r is room =
    let parts = both (is_suspense tag.name.text) (is_fallback name.text) (sym is ∙ r.0) in
    fallback_read (is_suspense tag.name.text) name (Other x) d place r parts.0 parts.1 room
