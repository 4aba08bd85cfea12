-- The words of a production with each name at its place in their text are those of a production of the same tree, places
-- aside.
use Rattle.std.proofs.Common.{◌≡◌, ℕ, ◌+◌, Bool, true, false, if◌then◌else◌, ◌⊎◌, inl, inr, List, [], ◌∷◌, ◌++◌, length, map, codes, Option, Some, None, refl, sym, ap, subst, ◌∙◌}
use Rattle.std.proofs.lemmas.List.{map-append}
use Rattle.jsx_lex.specs.declared.word.Word.{Word}
use Rattle.jsx_lex.specs.declared.word.Word.TheVariants as w
use Rattle.jsx_lex.specs.declared.word.Punctuator.{Punctuator}
use Rattle.jsx_lex.specs.declared.word.Punctuator.TheVariants as p
use Rattle.jsx_syntax.specs.declared.name.Name.{Name}
use Rattle.jsx_syntax.specs.declared.name.Entry.{Entry}
use Rattle.jsx_syntax.specs.declared.expr.Expr.{Expr}
use Rattle.jsx_syntax.specs.declared.expr.Expr.TheVariants as e
use Rattle.jsx_syntax.specs.declared.expr.Expr.TheOpen as expr_layer
use Rattle.jsx_syntax.specs.declared.expr.Expr.TheFolds.{fold-roll-Expr}
use Rattle.jsx_syntax.specs.declared.node.Node.{Node}
use Rattle.jsx_syntax.specs.declared.node.Node.TheVariants as n
use Rattle.jsx_syntax.specs.declared.node.Node.TheOpen as layer
use Rattle.jsx_syntax.specs.declared.node.Node.TheFolds.{fold-roll-Node}
use Rattle.jsx_syntax.specs.declared.file.File.{File}
use Rattle.jsx_syntax.specs.declared.file.Component.{Component}
use Rattle.jsx_syntax.specs.declared.file.Stmt.{Stmt}
use Rattle.jsx_syntax.specs.declared.file.Stmt.TheVariants as s
use Rattle.jsx_syntax.specs.Trees.{members_of, member_of, sum_of, and_of, or_of, node_of, other, choose_part, and_part, or_part, is_suspense, is_component_name, entry, element_of}
use Rattle.jsx_syntax.specs.Words.{name_word}
use Rattle.jsx_syntax.specs.Grammar.{Sort, Syntax, Meaning, spell, tree, Fits, equal_sign, text_children, SpellsFile}
use Rattle.jsx_syntax.specs.Grammar as g
use Rattle.jsx_print.specs.Spelling.{name_bytes, number_bytes, string_bytes, sign_bytes}
use Rattle.jsx_print.specs.Rows.{placed}
use Rattle.jsx_print.specs.Aside.{bare_name, bare_option, bare_step, bare, renamed_entry, bare_node_step, bare_node, bare_stmt, bare_component, bare_file}
use Rattle.jsx_print.proofs.NodeForms.{Part, value_part, and_syntax, or_syntax}

-- What is bare of each variant.

expr_step : (x : expr_layer.Expr-F Expr) → bare (Rattle.jsx_syntax.specs.declared.expr.Expr.TheViews.roll-Expr x)
    ≡ bare_step (Rattle.jsx_syntax.specs.declared.expr.Expr.TheFolds.map-Expr Expr Expr bare x)
expr_step = fold-roll-Expr Expr bare_step

node_step : (x : layer.Node-F Node) → bare_node (Rattle.jsx_syntax.specs.declared.node.Node.TheViews.roll-Node x)
    ≡ bare_node_step (Rattle.jsx_syntax.specs.declared.node.Node.TheFolds.map-Node Node Node bare_node x)
node_step = fold-roll-Node Node bare_node_step

abbrev bare_entry : Entry Node → Entry Node
bare_entry x = record { name = bare_name x.name; value = bare_node x.value }

bare-Name : (x : Name) → bare (e.Name x) ≡ e.Name (bare_name x)
bare-Name x = ap bare (sym (e.rolls-Name x)) ∙ expr_step (expr_layer.Name x)

bare-Member : (of : Expr) (names : List (List ℕ)) → bare (e.Member of names) ≡ e.Member (bare of) names
bare-Member of names = ap bare (sym (e.rolls-Member of names)) ∙ expr_step (expr_layer.Member of names)

bare-Not : (x : Expr) → bare (e.Not x) ≡ e.Not (bare x)
bare-Not x = ap bare (sym (e.rolls-Not x)) ∙ expr_step (expr_layer.Not x)

bare-Sum : (xs : List Expr) → bare (e.Sum xs) ≡ e.Sum (map bare xs)
bare-Sum xs = ap bare (sym (e.rolls-Sum xs)) ∙ expr_step (expr_layer.Sum xs)

bare-And : (xs : List Expr) → bare (e.And xs) ≡ e.And (map bare xs)
bare-And xs = ap bare (sym (e.rolls-And xs)) ∙ expr_step (expr_layer.And xs)

bare-Or : (xs : List Expr) → bare (e.Or xs) ≡ e.Or (map bare xs)
bare-Or xs = ap bare (sym (e.rolls-Or xs)) ∙ expr_step (expr_layer.Or xs)

bare-Equal : (x y : Expr) (b : Bool) → bare (e.Equal x y b) ≡ e.Equal (bare x) (bare y) b
bare-Equal x y b = ap bare (sym (e.rolls-Equal x y b)) ∙ expr_step (expr_layer.Equal x y b)

bare-Choose : (x y z : Expr) → bare (e.Choose x y z) ≡ e.Choose (bare x) (bare y) (bare z)
bare-Choose x y z = ap bare (sym (e.rolls-Choose x y z)) ∙ expr_step (expr_layer.Choose x y z)

bare_node-Value : (x : Expr) → bare_node (n.Value x) ≡ n.Value (bare x)
bare_node-Value x = ap bare_node (sym (n.rolls-Value x)) ∙ node_step (layer.Value x)

bare_node-Choose : (x : Expr) (y z : Node) → bare_node (n.Choose x y z) ≡ n.Choose (bare x) (bare_node y) (bare_node z)
bare_node-Choose x y z = ap bare_node (sym (n.rolls-Choose x y z)) ∙ node_step (layer.Choose x y z)

bare_node-And : (xs : List Expr) (y : Node) → bare_node (n.And xs y) ≡ n.And (map bare xs) (bare_node y)
bare_node-And xs y = ap bare_node (sym (n.rolls-And xs y)) ∙ node_step (layer.And xs y)

bare_node-Or : (xs : List Expr) (y : Node) → bare_node (n.Or xs y) ≡ n.Or (map bare xs) (bare_node y)
bare_node-Or xs y = ap bare_node (sym (n.rolls-Or xs y)) ∙ node_step (layer.Or xs y)

bare_node-Array : (ys : List Node) → bare_node (n.Array ys) ≡ n.Array (map bare_node ys)
bare_node-Array ys = ap bare_node (sym (n.rolls-Array ys)) ∙ node_step (layer.Array ys)

bare_node-Map : (x : Expr) (i : Name) (j : Option Name) (y : Node) → bare_node (n.Map x i j y) ≡ n.Map (bare x) (bare_name i) (bare_option j) (bare_node y)
bare_node-Map x i j y = ap bare_node (sym (n.rolls-Map x i j y)) ∙ node_step (layer.Map x i j y)

bare_node-Fragment : (ys : List Node) → bare_node (n.Fragment ys) ≡ n.Fragment (map bare_node ys)
bare_node-Fragment ys = ap bare_node (sym (n.rolls-Fragment ys)) ∙ node_step (layer.Fragment ys)

abbrev inner_entry : Entry Node → Entry Node
inner_entry x = record { name = x.name; value = bare_node x.value }

entries_twice : (ps : List (Entry Node)) → map renamed_entry (map inner_entry ps) ≡ map bare_entry ps
entries_twice [] = refl
entries_twice (x ∷ ps) = ap (λ (qs : List (Entry Node)). bare_entry x ∷ qs) (entries_twice ps)

bare_node-Host : (x : Name) (ps : List (Entry Node)) (ys : List Node) → bare_node (n.Host x ps ys) ≡ n.Host (bare_name x) (map bare_entry ps) (map bare_node ys)
bare_node-Host x ps ys = ap bare_node (sym (n.rolls-Host x ps ys)) ∙ (node_step (layer.Host x ps ys) ∙ ap (λ (qs : List (Entry Node)). n.Host (bare_name x) qs (map bare_node ys)) (entries_twice ps))

bare_node-Call : (x : Name) (ps : List (Entry Node)) → bare_node (n.Call x ps) ≡ n.Call (bare_name x) (map bare_entry ps)
bare_node-Call x ps = ap bare_node (sym (n.rolls-Call x ps)) ∙ (node_step (layer.Call x ps) ∙ ap (λ (qs : List (Entry Node)). n.Call (bare_name x) qs) (entries_twice ps))

bare_node-Suspense : (x : Name) (ps : List (Entry Node)) (ys : List Node) → bare_node (n.Suspense x ps ys) ≡ n.Suspense (bare_name x) (map bare_entry ps) (map bare_node ys)
bare_node-Suspense x ps ys = ap bare_node (sym (n.rolls-Suspense x ps ys)) ∙ (node_step (layer.Suspense x ps ys) ∙ ap (λ (qs : List (Entry Node)). n.Suspense (bare_name x) qs (map bare_node ys)) (entries_twice ps))

-- Lists.

both_ends : {A B : Type 0} (f : A → B) (xs xs_ ys ys_ : List A) → map f xs ≡ map f ys → map f xs_ ≡ map f ys_ → map f (xs ++ xs_) ≡ map f (ys ++ ys_)
both_ends f xs xs_ ys ys_ e h =
    map-append f xs xs_ ∙ (ap (λ v. v ++ map f xs_) e ∙ (ap (λ v. map f ys ++ v) h ∙ sym (map-append f ys ys_)))

one_end : {A B : Type 0} (f : A → B) (xs ys : List A) (x y : A) → map f xs ≡ map f ys → f x ≡ f y → map f (xs ++ x ∷ []) ≡ map f (ys ++ y ∷ [])
one_end f xs ys x y e h = both_ends f xs (x ∷ []) ys (y ∷ []) e (ap (λ v. v ∷ []) h)

none_left : {A B : Type 0} (f : A → B) (xs ys : List A) → map f xs ≡ map f ys → ys ≡ [] → xs ≡ []
none_left f [] ys e h = refl
none_left f (x ∷ xs) ys e h = let k : f x ∷ map f xs ≡ [] = e ∙ ap (map f) h in absurd (cc)

ap3 : {A B C D : Type 0} (f : A → B → C → D) (a a_ : A) (b b_ : B) (c c_ : C) → a ≡ a_ → b ≡ b_ → c ≡ c_ → f a b c ≡ f a_ b_ c_
ap3 f a a_ b b_ c c_ x y z = ap (λ v. f v b c) x ∙ (ap (λ v. f a_ v c) y ∙ ap (λ v. f a_ b_ v) z)

-- Chains and members.

sum_alike : (xs ys : List Expr) → map bare xs ≡ map bare ys → bare (sum_of xs) ≡ bare (sum_of ys)
sum_alike [] [] h = refl
sum_alike [] (y ∷ ys) h = absurd (cc)
sum_alike (x ∷ []) [] h = absurd (cc)
sum_alike (x ∷ []) (y ∷ []) h = cc
sum_alike (x ∷ []) (y ∷ v ∷ ys) h = absurd (cc)
sum_alike (x ∷ u ∷ xs) [] h = absurd (cc)
sum_alike (x ∷ u ∷ xs) (y ∷ []) h = absurd (cc)
sum_alike (x ∷ u ∷ xs) (y ∷ v ∷ ys) h = bare-Sum (x ∷ u ∷ xs) ∙ (ap e.Sum h ∙ sym (bare-Sum (y ∷ v ∷ ys)))

and_alike : (xs ys : List Expr) → map bare xs ≡ map bare ys → bare (and_of xs) ≡ bare (and_of ys)
and_alike [] [] h = refl
and_alike [] (y ∷ ys) h = absurd (cc)
and_alike (x ∷ []) [] h = absurd (cc)
and_alike (x ∷ []) (y ∷ []) h = cc
and_alike (x ∷ []) (y ∷ v ∷ ys) h = absurd (cc)
and_alike (x ∷ u ∷ xs) [] h = absurd (cc)
and_alike (x ∷ u ∷ xs) (y ∷ []) h = absurd (cc)
and_alike (x ∷ u ∷ xs) (y ∷ v ∷ ys) h = bare-And (x ∷ u ∷ xs) ∙ (ap e.And h ∙ sym (bare-And (y ∷ v ∷ ys)))

or_alike : (xs ys : List Expr) → map bare xs ≡ map bare ys → bare (or_of xs) ≡ bare (or_of ys)
or_alike [] [] h = refl
or_alike [] (y ∷ ys) h = absurd (cc)
or_alike (x ∷ []) [] h = absurd (cc)
or_alike (x ∷ []) (y ∷ []) h = cc
or_alike (x ∷ []) (y ∷ v ∷ ys) h = absurd (cc)
or_alike (x ∷ u ∷ xs) [] h = absurd (cc)
or_alike (x ∷ u ∷ xs) (y ∷ []) h = absurd (cc)
or_alike (x ∷ u ∷ xs) (y ∷ v ∷ ys) h = bare-Or (x ∷ u ∷ xs) ∙ (ap e.Or h ∙ sym (bare-Or (y ∷ v ∷ ys)))

members_alike : (x y : Expr) (names : List (List ℕ)) → bare x ≡ bare y → bare (members_of x names) ≡ bare (members_of y names)
members_alike x y [] h = h
members_alike x y (name ∷ names) h = bare-Member x (name ∷ names) ∙ (ap (λ (z : Expr). e.Member z (name ∷ names)) h ∙ sym (bare-Member y (name ∷ names)))

abbrev SameDotted : Meaning g.member → Meaning g.member → Type 0
SameDotted d k = (bare d.of ≡ bare k.of) × (d.names ≡ k.names)

member_alike : (d k : Meaning g.member) → SameDotted d k → bare (member_of d) ≡ bare (member_of k)
member_alike d k h = ap (λ (names : List (List ℕ)). bare (members_of d.of names)) h.1 ∙ members_alike d.of k.of k.names h.0

equal_alike : (x y u v : Expr) (b : Bool) → bare x ≡ bare u → bare y ≡ bare v → bare (e.Equal x y b) ≡ bare (e.Equal u v b)
equal_alike x y u v b h k = bare-Equal x y b ∙ (ap (λ (z : Expr). e.Equal z (bare y) b) h ∙ (ap (λ (z : Expr). e.Equal (bare u) z b) k ∙ sym (bare-Equal u v b)))

choose_alike : (x y z u v a : Expr) → bare x ≡ bare u → bare y ≡ bare v → bare z ≡ bare a → bare (e.Choose x y z) ≡ bare (e.Choose u v a)
choose_alike x y z u v a f h k =
    bare-Choose x y z ∙ (ap3 e.Choose (bare x) (bare u) (bare y) (bare v) (bare z) (bare a) f h k ∙ sym (bare-Choose u v a))

-- Parts.

record SameValues (x y : Part) : Type 0 where
  left : Syntax g.expression
  right : Syntax g.expression
  left_is : x ≡ value_part left
  right_is : y ≡ value_part right
  same : bare (tree g.expression left) ≡ bare (tree g.expression right)

record SameNodes (x y : Part) : Type 0 where
  left : Node
  right : Node
  left_is : x ≡ other left
  right_is : y ≡ other right
  same : bare_node left ≡ bare_node right

abbrev SamePart : Part → Part → Type 0
SamePart x y = SameValues x y ⊎ SameNodes x y

same_nodes : (x y : Node) → bare_node x ≡ bare_node y → SamePart (other x) (other y)
same_nodes x y h = inr (record { left = x; right = y; left_is = refl; right_is = refl; same = h })

node_alike : (x y : Part) → SamePart x y → bare_node (node_of x) ≡ bare_node (node_of y)
node_alike x y (inl h) =
    ap (λ (q : Part). bare_node (node_of q)) h.left_is
    ∙ (bare_node-Value (tree g.expression h.left) ∙ (ap n.Value h.same
    ∙ (sym (bare_node-Value (tree g.expression h.right)) ∙ ap (λ (q : Part). bare_node (node_of q)) (sym h.right_is))))
node_alike x y (inr h) = ap (λ (q : Part). bare_node (node_of q)) h.left_is ∙ (h.same ∙ ap (λ (q : Part). bare_node (node_of q)) (sym h.right_is))

choose_nodes : (t u : Expr) (x y v z : Node) → bare t ≡ bare u → bare_node x ≡ bare_node v → bare_node y ≡ bare_node z → bare_node (n.Choose t x y) ≡ bare_node (n.Choose u v z)
choose_nodes t u x y v z f h k =
    bare_node-Choose t x y ∙ (ap3 n.Choose (bare t) (bare u) (bare_node x) (bare_node v) (bare_node y) (bare_node z) f h k ∙ sym (bare_node-Choose u v z))

abbrev Chosen : Part → Part → Type 0
Chosen x y = (t : Expr) → choose_part t x y ≡ other (n.Choose t (node_of x) (node_of y))

first_chosen : (x y : Part) (v : Node) → x ≡ other v → Chosen x y
first_chosen x y v h = subst (λ (q : Part). Chosen q y) (sym h) (λ t. refl)

second_chosen : (x y : Part) (c : Syntax g.expression) (v : Node) → x ≡ value_part c → y ≡ other v → Chosen x y
second_chosen x y c v h k = subst (λ (q : Part). Chosen q y) (sym h) (subst (λ (q : Part). Chosen (value_part c) q) (sym k) (λ t. refl))

choose_other : (t u : Expr) (x y v z : Part) → bare t ≡ bare u → SamePart x v → SamePart y z → Chosen x y → Chosen v z
    → SamePart (choose_part t x y) (choose_part u v z)
choose_other t u x y v z f h k c d = inr (record {
  left = n.Choose t (node_of x) (node_of y);
  right = n.Choose u (node_of v) (node_of z);
  left_is = c t;
  right_is = d u;
  same = choose_nodes t u (node_of x) (node_of y) (node_of v) (node_of z) f (node_alike x v h) (node_alike y z k);
})

chosen_alike : (c d : Syntax g.disjunction) (x y v z : Part) → bare (or_of (tree g.disjunction c)) ≡ bare (or_of (tree g.disjunction d))
    → SamePart x v → SamePart y z → SamePart (choose_part (or_of (tree g.disjunction c)) x y) (choose_part (or_of (tree g.disjunction d)) v z)
chosen_alike c d x y v z f (inl h) (inl k) =
    let t : Expr = or_of (tree g.disjunction c) in
    let u : Expr = or_of (tree g.disjunction d) in
    inl (record {
      left = g.choice c h.left k.left;
      right = g.choice d h.right k.right;
      left_is = ap (λ (q : Part). choose_part t q y) h.left_is ∙ ap (λ (q : Part). choose_part t (value_part h.left) q) k.left_is;
      right_is = ap (λ (q : Part). choose_part u q z) h.right_is ∙ ap (λ (q : Part). choose_part u (value_part h.right) q) k.right_is;
      same = choose_alike t (tree g.expression h.left) (tree g.expression k.left) u (tree g.expression h.right) (tree g.expression k.right) f h.same k.same;
    })
chosen_alike c d x y v z f (inl h) (inr k) =
    choose_other (or_of (tree g.disjunction c)) (or_of (tree g.disjunction d)) x y v z f (inl h) (inr k)
    (second_chosen x y h.left k.left h.left_is k.left_is) (second_chosen v z h.right k.right h.right_is k.right_is)
chosen_alike c d x y v z f (inr h) k =
    choose_other (or_of (tree g.disjunction c)) (or_of (tree g.disjunction d)) x y v z f (inr h) k
    (first_chosen x y h.left h.left_is) (first_chosen v z h.right h.right_is)

and_nodes : (xs ys : List Expr) (x y : Node) → map bare xs ≡ map bare ys → bare_node x ≡ bare_node y → SamePart (and_part xs (other x)) (and_part ys (other y))
and_nodes [] [] x y h k = same_nodes x y k
and_nodes [] (v ∷ ys) x y h k = absurd (cc)
and_nodes (u ∷ xs) [] x y h k = absurd (cc)
and_nodes (u ∷ xs) (v ∷ ys) x y h k =
    same_nodes (n.And (u ∷ xs) x) (n.And (v ∷ ys) y)
    (bare_node-And (u ∷ xs) x ∙ (ap (λ (zs : List Expr). n.And zs (bare_node x)) h ∙ (ap (n.And (map bare (v ∷ ys))) k ∙ sym (bare_node-And (v ∷ ys) y))))

and_part_alike : (c d : Syntax g.conjunction) (x y : Part) → map bare (tree g.conjunction c) ≡ map bare (tree g.conjunction d) → SamePart x y
    → SamePart (and_part (tree g.conjunction c) x) (and_part (tree g.conjunction d) y)
and_part_alike c d x y h (inl k) =
    let u : Expr = tree g.expression k.left in
    let v : Expr = tree g.expression k.right in
    inl (record {
      left = and_syntax c k.left;
      right = and_syntax d k.right;
      left_is = ap (and_part (tree g.conjunction c)) k.left_is;
      right_is = ap (and_part (tree g.conjunction d)) k.right_is;
      same = and_alike (tree g.conjunction c ++ u ∷ []) (tree g.conjunction d ++ v ∷ []) (one_end bare (tree g.conjunction c) (tree g.conjunction d) u v h k.same);
    })
and_part_alike c d x y h (inr k) =
    subst (λ (q : Part). SamePart (and_part (tree g.conjunction c) q) (and_part (tree g.conjunction d) y)) (sym k.left_is)
    (subst (λ (q : Part). SamePart (and_part (tree g.conjunction c) (other k.left)) (and_part (tree g.conjunction d) q)) (sym k.right_is)
    (and_nodes (tree g.conjunction c) (tree g.conjunction d) k.left k.right h k.same))

or_nodes : (xs ys : List Expr) (x y : Node) → map bare xs ≡ map bare ys → bare_node x ≡ bare_node y → SamePart (or_part xs (other x)) (or_part ys (other y))
or_nodes [] [] x y h k = same_nodes x y k
or_nodes [] (v ∷ ys) x y h k = absurd (cc)
or_nodes (u ∷ xs) [] x y h k = absurd (cc)
or_nodes (u ∷ xs) (v ∷ ys) x y h k =
    same_nodes (n.Or (u ∷ xs) x) (n.Or (v ∷ ys) y)
    (bare_node-Or (u ∷ xs) x ∙ (ap (λ (zs : List Expr). n.Or zs (bare_node x)) h ∙ (ap (n.Or (map bare (v ∷ ys))) k ∙ sym (bare_node-Or (v ∷ ys) y))))

or_part_alike : (c d : Syntax g.disjunction) (x y : Part) → map bare (tree g.disjunction c) ≡ map bare (tree g.disjunction d) → SamePart x y
    → SamePart (or_part (tree g.disjunction c) x) (or_part (tree g.disjunction d) y)
or_part_alike c d x y h (inl k) =
    let u : Expr = tree g.expression k.left in
    let v : Expr = tree g.expression k.right in
    inl (record {
      left = or_syntax c k.left;
      right = or_syntax d k.right;
      left_is = ap (or_part (tree g.disjunction c)) k.left_is;
      right_is = ap (or_part (tree g.disjunction d)) k.right_is;
      same = or_alike (tree g.disjunction c ++ u ∷ []) (tree g.disjunction d ++ v ∷ []) (one_end bare (tree g.disjunction c) (tree g.disjunction d) u v h k.same);
    })
or_part_alike c d x y h (inr k) =
    subst (λ (q : Part). SamePart (or_part (tree g.disjunction c) q) (or_part (tree g.disjunction d) y)) (sym k.left_is)
    (subst (λ (q : Part). SamePart (or_part (tree g.disjunction c) (other k.left)) (or_part (tree g.disjunction d) q)) (sym k.right_is)
    (or_nodes (tree g.disjunction c) (tree g.disjunction d) k.left k.right h k.same))

map_alike : (x y : Expr) (i k : Name) (j m : Option Name) (u v : Node) → bare x ≡ bare y → bare_name i ≡ bare_name k → bare_option j ≡ bare_option m
    → bare_node u ≡ bare_node v → bare_node (n.Map x i j u) ≡ bare_node (n.Map y k m v)
map_alike x y i k j m u v e1 e2 e3 e4 =
    bare_node-Map x i j u
    ∙ (ap (λ (z : Expr). n.Map z (bare_name i) (bare_option j) (bare_node u)) e1
    ∙ (ap (λ (z : Name). n.Map (bare y) z (bare_option j) (bare_node u)) e2
    ∙ (ap (λ (z : Option Name). n.Map (bare y) (bare_name k) z (bare_node u)) e3
    ∙ (ap (n.Map (bare y) (bare_name k) (bare_option m)) e4 ∙ sym (bare_node-Map y k m v)))))

abbrev renamed : Name → ℕ → Name
renamed x from = record { text = x.text; at = from }

element_by : (b c : Bool) (x : Name) (from : ℕ) (ps qs : List (Entry Node)) (xs ys : List Node) → map bare_entry ps ≡ map bare_entry qs → map bare_node xs ≡ map bare_node ys
    → bare_node (if b then n.Suspense (renamed x from) ps xs else (if c then n.Call (renamed x from) ps else n.Host (renamed x from) ps xs))
    ≡ bare_node (if b then n.Suspense x qs ys else (if c then n.Call x qs else n.Host x qs ys))
element_by true c x from ps qs xs ys h k =
    bare_node-Suspense (renamed x from) ps xs
    ∙ (ap (λ (rs : List (Entry Node)). n.Suspense (bare_name x) rs (map bare_node xs)) h
    ∙ (ap (n.Suspense (bare_name x) (map bare_entry qs)) k ∙ sym (bare_node-Suspense x qs ys)))
element_by false true x from ps qs xs ys h k =
    bare_node-Call (renamed x from) ps ∙ (ap (n.Call (bare_name x)) h ∙ sym (bare_node-Call x qs))
element_by false false x from ps qs xs ys h k =
    bare_node-Host (renamed x from) ps xs
    ∙ (ap (λ (rs : List (Entry Node)). n.Host (bare_name x) rs (map bare_node xs)) h
    ∙ (ap (n.Host (bare_name x) (map bare_entry qs)) k ∙ sym (bare_node-Host x qs ys)))

element_alike : (x : Name) (from : ℕ) (ps qs : List (Entry Node)) (xs ys : List Node) → map bare_entry ps ≡ map bare_entry qs → map bare_node xs ≡ map bare_node ys
    → bare_node (element_of (renamed x from) ps xs) ≡ bare_node (element_of x qs ys)
element_alike x from ps qs xs ys h k = element_by (is_suspense x.text) (is_component_name x.text) x from ps qs xs ys h k

entry_alike : (x : Name) (from : ℕ) (u v : Node) → bare_node u ≡ bare_node v → bare_entry (entry (renamed x from) u) ≡ bare_entry (entry x v)
entry_alike x from u v h = ap (λ (z : Node). entry (bare_name x) z) h

value_alike : (x y : Expr) → bare x ≡ bare y → bare_node (n.Value x) ≡ bare_node (n.Value y)
value_alike x y h = bare_node-Value x ∙ (ap n.Value h ∙ sym (bare_node-Value y))

abbrev component_of : Name → List Name → List Stmt → Node → Component
component_of name properties stmts result = record { name = name; properties = properties; stmts = stmts; result = result }

component_alike : (x : Name) (from : ℕ) (ps qs : List Name) (xs ys : List Stmt) (u v : Node) → map bare_name ps ≡ map bare_name qs
    → map bare_stmt xs ≡ map bare_stmt ys → bare_node u ≡ bare_node v → bare_component (component_of (renamed x from) ps xs u) ≡ bare_component (component_of x qs ys v)
component_alike x from ps qs xs ys u v h k l =
    ap3 (component_of (bare_name x)) (map bare_name ps) (map bare_name qs) (map bare_stmt xs) (map bare_stmt ys) (bare_node u) (bare_node v) h k l

-- What is the same of the trees of each nonterminal, places aside.
abbrev Alike : (k : Sort) → Meaning k → Meaning k → Type 0
Alike g.primary x y = bare x ≡ bare y
Alike g.unary x y = bare x ≡ bare y
Alike g.equality x y = bare x ≡ bare y
Alike g.expression x y = bare x ≡ bare y
Alike g.member x y = SameDotted x y
Alike g.sum x y = map bare x ≡ map bare y
Alike g.conjunction x y = map bare x ≡ map bare y
Alike g.disjunction x y = map bare x ≡ map bare y
Alike g.node_primary x y = SamePart x y
Alike g.node_conjunction x y = SamePart x y
Alike g.node_disjunction x y = SamePart x y
Alike g.node x y = SamePart x y
Alike g.node_list x y = map bare_node x ≡ map bare_node y
Alike g.child x y = map bare_node x ≡ map bare_node y
Alike g.children x y = map bare_node x ≡ map bare_node y
Alike g.element x y = bare_node x ≡ bare_node y
Alike (g.attribute b) x y = bare_entry x ≡ bare_entry y
Alike (g.attributes b) x y = map bare_entry x ≡ map bare_entry y
Alike g.names x y = map bare_name x ≡ map bare_name y
Alike g.properties x y = map bare_name x ≡ map bare_name y
Alike g.statement x y = bare_stmt x ≡ bare_stmt y
Alike g.statements x y = map bare_stmt x ≡ map bare_stmt y
Alike g.component x y = bare_component x ≡ bare_component y
Alike g.components x y = map bare_component x ≡ map bare_component y

-- The production with its names at their places, of which the first word begins at this one.
record Again (k : Sort) (c : Syntax k) (from : ℕ) : Type 0 where
  syntax : Syntax k
  stop : ℕ
  spelled : (more : List Word) → placed from (spell k c more) ≡ spell k syntax (placed stop more)
  fits : (o : ℕ) → Fits k c o → Fits k syntax o
  alike : Alike k (tree k syntax) (tree k c)

abbrev past_sign : Punctuator → ℕ → ℕ
past_sign mark from = from + length (sign_bytes mark)

abbrev past_name : List ℕ → ℕ → ℕ
past_name text from = from + length (name_bytes text)

again : (k : Sort) (c : Syntax k) (from : ℕ) → Again k c from
again _ (g.number z) from =
    record {
      syntax = g.number z;
      stop = (from) + length (number_bytes z);
      spelled = λ more. refl;
      fits = λ o f. tt;
      alike = refl;
    }
again _ (g.string x) from =
    record {
      syntax = g.string x;
      stop = (from) + length (string_bytes x);
      spelled = λ more. refl;
      fits = λ o f. tt;
      alike = refl;
    }
again _ (g.truth q) from =
    record {
      syntax = g.truth from;
      stop = past_name (codes "true") (from);
      spelled = λ more. refl;
      fits = λ o f. tt;
      alike = refl;
    }
again _ (g.falsity q) from =
    record {
      syntax = g.falsity from;
      stop = past_name (codes "false") (from);
      spelled = λ more. refl;
      fits = λ o f. tt;
      alike = refl;
    }
again _ (g.null q) from =
    record {
      syntax = g.null from;
      stop = past_name (codes "null") (from);
      spelled = λ more. refl;
      fits = λ o f. tt;
      alike = refl;
    }
again _ (g.undefined q) from =
    record {
      syntax = g.undefined from;
      stop = past_name (codes "undefined") (from);
      spelled = λ more. refl;
      fits = λ o f. tt;
      alike = refl;
    }
again _ (g.variable x) from =
    record {
      syntax = g.variable (renamed x from);
      stop = past_name x.text (from);
      spelled = λ more. refl;
      fits = λ o f. f;
      alike = bare-Name (renamed x from) ∙ sym (bare-Name x);
    }
again _ (g.parens c) from =
    let a = again _ c (past_sign p.OpenParen (from)) in
    record {
      syntax = g.parens a.syntax;
      stop = past_sign p.CloseParen (a.stop);
      spelled = λ more. ap (λ (ws : List Word). w.Sign p.OpenParen ∷ ws) (a.spelled (w.Sign p.CloseParen ∷ more));
      fits = λ o f. (f.0, a.fits (o + 1) f.1);
      alike = a.alike;
    }
again _ (g.no_member c) from =
    let a = again _ c (from) in
    record {
      syntax = g.no_member a.syntax;
      stop = a.stop;
      spelled = λ more. a.spelled (more);
      fits = λ o f. a.fits o f;
      alike = (a.alike, refl);
    }
again _ (g.dot c x) from =
    let a = again _ c (from) in
    record {
      syntax = g.dot a.syntax (renamed x (past_sign p.Dot (a.stop)));
      stop = past_name x.text (past_sign p.Dot (a.stop));
      spelled = λ more. a.spelled (w.Sign p.Dot ∷ name_word x ∷ more);
      fits = λ o f. a.fits o f;
      alike = (a.alike.0, ap (λ (xs : List (List ℕ)). xs ++ x.text ∷ []) a.alike.1);
    }
again _ (g.no_bang c) from =
    let a = again _ c (from) in
    record {
      syntax = g.no_bang a.syntax;
      stop = a.stop;
      spelled = λ more. a.spelled (more);
      fits = λ o f. a.fits o f;
      alike = member_alike (tree g.member a.syntax) (tree g.member c) a.alike;
    }
again _ (g.bang c) from =
    let a = again _ c (past_sign p.Not (from)) in
    record {
      syntax = g.bang a.syntax;
      stop = a.stop;
      spelled = λ more. ap (λ (ws : List Word). w.Sign p.Not ∷ ws) (a.spelled (more));
      fits = λ o f. (f.0, a.fits (o + 1) f.1);
      alike = bare-Not (tree g.unary a.syntax) ∙ (ap e.Not a.alike ∙ sym (bare-Not (tree g.unary c)));
    }
again _ (g.no_plus c) from =
    let a = again _ c (from) in
    record {
      syntax = g.no_plus a.syntax;
      stop = a.stop;
      spelled = λ more. a.spelled (more);
      fits = λ o f. a.fits o f;
      alike = ap (λ (x : Expr). x ∷ []) a.alike;
    }
again _ (g.no_and c) from =
    let a = again _ c (from) in
    record {
      syntax = g.no_and a.syntax;
      stop = a.stop;
      spelled = λ more. a.spelled (more);
      fits = λ o f. a.fits o f;
      alike = ap (λ (x : Expr). x ∷ []) a.alike;
    }
again _ (g.plus c d) from =
    let a = again _ c (from) in
    let b = again _ d (past_sign p.Plus (a.stop)) in
    record {
      syntax = g.plus a.syntax b.syntax;
      stop = b.stop;
      spelled = λ more. a.spelled (w.Sign p.Plus ∷ spell g.unary d (more)) ∙ ap (λ (ws : List Word). spell g.sum a.syntax ws) (ap (λ (ws : List Word). w.Sign p.Plus ∷ ws) (b.spelled (more)));
      fits = λ o f. (a.fits o f.0, b.fits o f.1);
      alike = one_end bare (tree g.sum a.syntax) (tree g.sum c) (tree g.unary b.syntax) (tree g.unary d) a.alike b.alike;
    }
again _ (g.no_equal c) from =
    let a = again _ c (from) in
    record {
      syntax = g.no_equal a.syntax;
      stop = a.stop;
      spelled = λ more. a.spelled (more);
      fits = λ o f. a.fits o f;
      alike = sum_alike (tree g.sum a.syntax) (tree g.sum c) a.alike;
    }
again _ (g.equal n c d) from =
    let a = again _ c (from) in
    let b = again _ d (past_sign (equal_sign n) (a.stop)) in
    record {
      syntax = g.equal n a.syntax b.syntax;
      stop = b.stop;
      spelled = λ more. a.spelled (w.Sign (equal_sign n) ∷ spell g.sum d (more)) ∙ ap (λ (ws : List Word). spell g.sum a.syntax ws) (ap (λ (ws : List Word). w.Sign (equal_sign n) ∷ ws) (b.spelled (more)));
      fits = λ o f. (a.fits o f.0, b.fits o f.1);
      alike = equal_alike (sum_of (tree g.sum a.syntax)) (sum_of (tree g.sum b.syntax)) (sum_of (tree g.sum c)) (sum_of (tree g.sum d)) n (sum_alike (tree g.sum a.syntax) (tree g.sum c) a.alike) (sum_alike (tree g.sum b.syntax) (tree g.sum d) b.alike);
    }
again _ (g.and c d) from =
    let a = again _ c (from) in
    let b = again _ d (past_sign p.AndAnd (a.stop)) in
    record {
      syntax = g.and a.syntax b.syntax;
      stop = b.stop;
      spelled = λ more. a.spelled (w.Sign p.AndAnd ∷ spell g.equality d (more)) ∙ ap (λ (ws : List Word). spell g.conjunction a.syntax ws) (ap (λ (ws : List Word). w.Sign p.AndAnd ∷ ws) (b.spelled (more)));
      fits = λ o f. (a.fits o f.0, b.fits o f.1);
      alike = one_end bare (tree g.conjunction a.syntax) (tree g.conjunction c) (tree g.equality b.syntax) (tree g.equality d) a.alike b.alike;
    }
again _ (g.no_or c) from =
    let a = again _ c (from) in
    record {
      syntax = g.no_or a.syntax;
      stop = a.stop;
      spelled = λ more. a.spelled (more);
      fits = λ o f. a.fits o f;
      alike = ap (λ (x : Expr). x ∷ []) (and_alike (tree g.conjunction a.syntax) (tree g.conjunction c) a.alike);
    }
again _ (g.or c d) from =
    let a = again _ c (from) in
    let b = again _ d (past_sign p.OrOr (a.stop)) in
    record {
      syntax = g.or a.syntax b.syntax;
      stop = b.stop;
      spelled = λ more. a.spelled (w.Sign p.OrOr ∷ spell g.conjunction d (more)) ∙ ap (λ (ws : List Word). spell g.disjunction a.syntax ws) (ap (λ (ws : List Word). w.Sign p.OrOr ∷ ws) (b.spelled (more)));
      fits = λ o f. (a.fits o f.0, b.fits o f.1);
      alike = one_end bare (tree g.disjunction a.syntax) (tree g.disjunction c) (and_of (tree g.conjunction b.syntax)) (and_of (tree g.conjunction d)) a.alike (and_alike (tree g.conjunction b.syntax) (tree g.conjunction d) b.alike);
    }
again _ (g.no_choice c) from =
    let a = again _ c (from) in
    record {
      syntax = g.no_choice a.syntax;
      stop = a.stop;
      spelled = λ more. a.spelled (more);
      fits = λ o f. a.fits o f;
      alike = or_alike (tree g.disjunction a.syntax) (tree g.disjunction c) a.alike;
    }
again _ (g.choice c d k) from =
    let a = again _ c (from) in
    let b = again _ d (past_sign p.Question (a.stop)) in
    let l = again _ k (past_sign p.Colon (b.stop)) in
    record {
      syntax = g.choice a.syntax b.syntax l.syntax;
      stop = l.stop;
      spelled = λ more. a.spelled (w.Sign p.Question ∷ spell g.expression d (w.Sign p.Colon ∷ spell g.expression k (more))) ∙ ap (λ (ws : List Word). spell g.disjunction a.syntax ws) (ap (λ (ws : List Word). w.Sign p.Question ∷ ws) (b.spelled (w.Sign p.Colon ∷ spell g.expression k (more)) ∙ ap (λ (ws : List Word). spell g.expression b.syntax ws) (ap (λ (ws : List Word). w.Sign p.Colon ∷ ws) (l.spelled (more)))));
      fits = λ o f. (a.fits o f.0, f.1, b.fits (o + 1) f.2, l.fits (o + 1) f.3);
      alike = choose_alike (or_of (tree g.disjunction a.syntax)) (tree g.expression b.syntax) (tree g.expression l.syntax) (or_of (tree g.disjunction c)) (tree g.expression d) (tree g.expression k) (or_alike (tree g.disjunction a.syntax) (tree g.disjunction c) a.alike) b.alike l.alike;
    }
again _ (g.value c) from =
    let a = again _ c (from) in
    record {
      syntax = g.value a.syntax;
      stop = a.stop;
      spelled = λ more. a.spelled (more);
      fits = λ o f. a.fits o f;
      alike = inl (record { left = a.syntax; right = c; left_is = refl; right_is = refl; same = a.alike });
    }
again _ (g.node_choice c d k) from =
    let a = again _ c (from) in
    let b = again _ d (past_sign p.Question (a.stop)) in
    let l = again _ k (past_sign p.Colon (b.stop)) in
    record {
      syntax = g.node_choice a.syntax b.syntax l.syntax;
      stop = l.stop;
      spelled = λ more. a.spelled (w.Sign p.Question ∷ spell g.node d (w.Sign p.Colon ∷ spell g.node k (more))) ∙ ap (λ (ws : List Word). spell g.disjunction a.syntax ws) (ap (λ (ws : List Word). w.Sign p.Question ∷ ws) (b.spelled (w.Sign p.Colon ∷ spell g.node k (more)) ∙ ap (λ (ws : List Word). spell g.node b.syntax ws) (ap (λ (ws : List Word). w.Sign p.Colon ∷ ws) (l.spelled (more)))));
      fits = λ o f. (a.fits o f.0, f.1, b.fits (o + 1) f.2, l.fits (o + 1) f.3);
      alike = chosen_alike a.syntax c (tree g.node b.syntax) (tree g.node l.syntax) (tree g.node d) (tree g.node k) (or_alike (tree g.disjunction a.syntax) (tree g.disjunction c) a.alike) b.alike l.alike;
    }
again _ (g.chain c) from =
    let a = again _ c (from) in
    record {
      syntax = g.chain a.syntax;
      stop = a.stop;
      spelled = λ more. a.spelled (more);
      fits = λ o f. a.fits o f;
      alike = a.alike;
    }
again _ (g.or_alone c) from =
    let a = again _ c (from) in
    record {
      syntax = g.or_alone a.syntax;
      stop = a.stop;
      spelled = λ more. a.spelled (more);
      fits = λ o f. a.fits o f;
      alike = a.alike;
    }
again _ (g.or_last c d) from =
    let a = again _ c (from) in
    let b = again _ d (past_sign p.OrOr (a.stop)) in
    record {
      syntax = g.or_last a.syntax b.syntax;
      stop = b.stop;
      spelled = λ more. a.spelled (w.Sign p.OrOr ∷ spell g.node_conjunction d (more)) ∙ ap (λ (ws : List Word). spell g.disjunction a.syntax ws) (ap (λ (ws : List Word). w.Sign p.OrOr ∷ ws) (b.spelled (more)));
      fits = λ o f. (a.fits o f.0, b.fits o f.1);
      alike = or_part_alike a.syntax c (tree g.node_conjunction b.syntax) (tree g.node_conjunction d) a.alike b.alike;
    }
again _ (g.and_alone c) from =
    let a = again _ c (from) in
    record {
      syntax = g.and_alone a.syntax;
      stop = a.stop;
      spelled = λ more. a.spelled (more);
      fits = λ o f. a.fits o f;
      alike = a.alike;
    }
again _ (g.and_last c d) from =
    let a = again _ c (from) in
    let b = again _ d (past_sign p.AndAnd (a.stop)) in
    record {
      syntax = g.and_last a.syntax b.syntax;
      stop = b.stop;
      spelled = λ more. a.spelled (w.Sign p.AndAnd ∷ spell g.node_primary d (more)) ∙ ap (λ (ws : List Word). spell g.conjunction a.syntax ws) (ap (λ (ws : List Word). w.Sign p.AndAnd ∷ ws) (b.spelled (more)));
      fits = λ o f. (a.fits o f.0, b.fits o f.1);
      alike = and_part_alike a.syntax c (tree g.node_primary b.syntax) (tree g.node_primary d) a.alike b.alike;
    }
again _ (g.node_parens c) from =
    let a = again _ c (past_sign p.OpenParen (from)) in
    record {
      syntax = g.node_parens a.syntax;
      stop = past_sign p.CloseParen (a.stop);
      spelled = λ more. ap (λ (ws : List Word). w.Sign p.OpenParen ∷ ws) (a.spelled (w.Sign p.CloseParen ∷ more));
      fits = λ o f. (f.0, a.fits (o + 1) f.1);
      alike = a.alike;
    }
again _ (g.element_node c) from =
    let a = again _ c (from) in
    record {
      syntax = g.element_node a.syntax;
      stop = a.stop;
      spelled = λ more. a.spelled (more);
      fits = λ o f. a.fits o f;
      alike = same_nodes (tree g.element a.syntax) (tree g.element c) a.alike;
    }
again _ g.empty_array from =
    record {
      syntax = g.empty_array;
      stop = past_sign p.CloseBracket (past_sign p.OpenBracket (from));
      spelled = λ more. refl;
      fits = λ o f. f;
      alike = same_nodes (n.Array []) (n.Array []) refl;
    }
again _ (g.array c false) from =
    let a = again _ c (past_sign p.OpenBracket (from)) in
    record {
      syntax = g.array a.syntax false;
      stop = past_sign p.CloseBracket (a.stop);
      spelled = λ more. ap (λ (ws : List Word). w.Sign p.OpenBracket ∷ ws) (a.spelled (w.Sign p.CloseBracket ∷ more));
      fits = λ o f. (f.0, a.fits (o + 1) f.1);
      alike = same_nodes (n.Array (tree g.node_list a.syntax)) (n.Array (tree g.node_list c)) (bare_node-Array (tree g.node_list a.syntax) ∙ (ap n.Array a.alike ∙ sym (bare_node-Array (tree g.node_list c))));
    }
again _ (g.array c true) from =
    let a = again _ c (past_sign p.OpenBracket (from)) in
    record {
      syntax = g.array a.syntax true;
      stop = past_sign p.CloseBracket (past_sign p.Comma (a.stop));
      spelled = λ more. ap (λ (ws : List Word). w.Sign p.OpenBracket ∷ ws) (a.spelled (w.Sign p.Comma ∷ w.Sign p.CloseBracket ∷ more));
      fits = λ o f. (f.0, a.fits (o + 1) f.1);
      alike = same_nodes (n.Array (tree g.node_list a.syntax)) (n.Array (tree g.node_list c)) (bare_node-Array (tree g.node_list a.syntax) ∙ (ap n.Array a.alike ∙ sym (bare_node-Array (tree g.node_list c))));
    }
again _ (g.first_node c) from =
    let a = again _ c (from) in
    record {
      syntax = g.first_node a.syntax;
      stop = a.stop;
      spelled = λ more. a.spelled (more);
      fits = λ o f. a.fits o f;
      alike = ap (λ (x : Node). x ∷ []) (node_alike (tree g.node a.syntax) (tree g.node c) a.alike);
    }
again _ (g.next_node c d) from =
    let a = again _ c (from) in
    let b = again _ d (past_sign p.Comma (a.stop)) in
    record {
      syntax = g.next_node a.syntax b.syntax;
      stop = b.stop;
      spelled = λ more. a.spelled (w.Sign p.Comma ∷ spell g.node d (more)) ∙ ap (λ (ws : List Word). spell g.node_list a.syntax ws) (ap (λ (ws : List Word). w.Sign p.Comma ∷ ws) (b.spelled (more)));
      fits = λ o f. (a.fits o f.0, b.fits o f.1);
      alike = one_end bare_node (tree g.node_list a.syntax) (tree g.node_list c) (node_of (tree g.node b.syntax)) (node_of (tree g.node d)) a.alike (node_alike (tree g.node b.syntax) (tree g.node d) b.alike);
    }
again _ (g.map_node c q item None d) from =
    let a = again _ c (from) in
    let b = again _ d (past_sign p.Arrow (past_sign p.CloseParen (past_name item.text (past_sign p.OpenParen (past_sign p.OpenParen (past_name (codes "map") (past_sign p.Dot (a.stop)))))))) in
    record {
      syntax = g.map_node a.syntax (past_sign p.Dot (a.stop)) (renamed item (past_sign p.OpenParen (past_sign p.OpenParen (past_name (codes "map") (past_sign p.Dot (a.stop)))))) None b.syntax;
      stop = past_sign p.CloseParen (b.stop);
      spelled = λ more. a.spelled (w.Sign p.Dot ∷ w.Name (codes "map") q ∷ w.Sign p.OpenParen ∷ w.Sign p.OpenParen ∷ name_word item ∷ w.Sign p.CloseParen ∷ w.Sign p.Arrow ∷ spell g.node d (w.Sign p.CloseParen ∷ more)) ∙ ap (λ (ws : List Word). spell g.member a.syntax ws) (ap (λ (ws : List Word). w.Sign p.Dot ∷ ws) (ap (λ (ws : List Word). w.Name (codes "map") (past_sign p.Dot (a.stop)) ∷ ws) (ap (λ (ws : List Word). w.Sign p.OpenParen ∷ ws) (ap (λ (ws : List Word). w.Sign p.OpenParen ∷ ws) (ap (λ (ws : List Word). w.Name item.text (past_sign p.OpenParen (past_sign p.OpenParen (past_name (codes "map") (past_sign p.Dot (a.stop))))) ∷ ws) (ap (λ (ws : List Word). w.Sign p.CloseParen ∷ ws) (ap (λ (ws : List Word). w.Sign p.Arrow ∷ ws) (b.spelled (w.Sign p.CloseParen ∷ more)))))))));
      fits = λ o f. (a.fits o f.0, f.1, f.2, f.3, b.fits (o + 1) f.4);
      alike = same_nodes (n.Map (member_of (tree g.member a.syntax)) (renamed item (past_sign p.OpenParen (past_sign p.OpenParen (past_name (codes "map") (past_sign p.Dot (a.stop)))))) None (node_of (tree g.node b.syntax))) (n.Map (member_of (tree g.member c)) item None (node_of (tree g.node d))) (map_alike (member_of (tree g.member a.syntax)) (member_of (tree g.member c)) (renamed item (past_sign p.OpenParen (past_sign p.OpenParen (past_name (codes "map") (past_sign p.Dot (a.stop)))))) item None None (node_of (tree g.node b.syntax)) (node_of (tree g.node d)) (member_alike (tree g.member a.syntax) (tree g.member c) a.alike) refl refl (node_alike (tree g.node b.syntax) (tree g.node d) b.alike));
    }
again _ (g.map_node c q item (Some number_) d) from =
    let a = again _ c (from) in
    let b = again _ d (past_sign p.Arrow (past_sign p.CloseParen (past_name number_.text (past_sign p.Comma (past_name item.text (past_sign p.OpenParen (past_sign p.OpenParen (past_name (codes "map") (past_sign p.Dot (a.stop)))))))))) in
    record {
      syntax = g.map_node a.syntax (past_sign p.Dot (a.stop)) (renamed item (past_sign p.OpenParen (past_sign p.OpenParen (past_name (codes "map") (past_sign p.Dot (a.stop)))))) (Some (renamed number_ (past_sign p.Comma (past_name item.text (past_sign p.OpenParen (past_sign p.OpenParen (past_name (codes "map") (past_sign p.Dot (a.stop))))))))) b.syntax;
      stop = past_sign p.CloseParen (b.stop);
      spelled = λ more. a.spelled (w.Sign p.Dot ∷ w.Name (codes "map") q ∷ w.Sign p.OpenParen ∷ w.Sign p.OpenParen ∷ name_word item ∷ w.Sign p.Comma ∷ name_word number_ ∷ w.Sign p.CloseParen ∷ w.Sign p.Arrow ∷ spell g.node d (w.Sign p.CloseParen ∷ more)) ∙ ap (λ (ws : List Word). spell g.member a.syntax ws) (ap (λ (ws : List Word). w.Sign p.Dot ∷ ws) (ap (λ (ws : List Word). w.Name (codes "map") (past_sign p.Dot (a.stop)) ∷ ws) (ap (λ (ws : List Word). w.Sign p.OpenParen ∷ ws) (ap (λ (ws : List Word). w.Sign p.OpenParen ∷ ws) (ap (λ (ws : List Word). w.Name item.text (past_sign p.OpenParen (past_sign p.OpenParen (past_name (codes "map") (past_sign p.Dot (a.stop))))) ∷ ws) (ap (λ (ws : List Word). w.Sign p.Comma ∷ ws) (ap (λ (ws : List Word). w.Name number_.text (past_sign p.Comma (past_name item.text (past_sign p.OpenParen (past_sign p.OpenParen (past_name (codes "map") (past_sign p.Dot (a.stop))))))) ∷ ws) (ap (λ (ws : List Word). w.Sign p.CloseParen ∷ ws) (ap (λ (ws : List Word). w.Sign p.Arrow ∷ ws) (b.spelled (w.Sign p.CloseParen ∷ more)))))))))));
      fits = λ o f. (a.fits o f.0, f.1, f.2, f.3, b.fits (o + 1) f.4);
      alike = same_nodes (n.Map (member_of (tree g.member a.syntax)) (renamed item (past_sign p.OpenParen (past_sign p.OpenParen (past_name (codes "map") (past_sign p.Dot (a.stop)))))) (Some (renamed number_ (past_sign p.Comma (past_name item.text (past_sign p.OpenParen (past_sign p.OpenParen (past_name (codes "map") (past_sign p.Dot (a.stop))))))))) (node_of (tree g.node b.syntax))) (n.Map (member_of (tree g.member c)) item (Some number_) (node_of (tree g.node d))) (map_alike (member_of (tree g.member a.syntax)) (member_of (tree g.member c)) (renamed item (past_sign p.OpenParen (past_sign p.OpenParen (past_name (codes "map") (past_sign p.Dot (a.stop)))))) item (Some (renamed number_ (past_sign p.Comma (past_name item.text (past_sign p.OpenParen (past_sign p.OpenParen (past_name (codes "map") (past_sign p.Dot (a.stop))))))))) (Some number_) (node_of (tree g.node b.syntax)) (node_of (tree g.node d)) (member_alike (tree g.member a.syntax) (tree g.member c) a.alike) refl refl (node_alike (tree g.node b.syntax) (tree g.node d) b.alike));
    }
again _ (g.closed x c) from =
    let a = again _ c (past_name x.text (past_sign p.Less (from))) in
    record {
      syntax = g.closed (renamed x (past_sign p.Less (from))) a.syntax;
      stop = past_sign p.SlashGreater (a.stop);
      spelled = λ more. ap (λ (ws : List Word). w.Sign p.Less ∷ ws) (ap (λ (ws : List Word). w.Name x.text (past_sign p.Less (from)) ∷ ws) (a.spelled (w.Sign p.SlashGreater ∷ more)));
      fits = λ o f. (f.0, a.fits (o + 1) f.1);
      alike = element_alike x (past_sign p.Less (from)) (tree (g.attributes (is_suspense x.text)) a.syntax) (tree (g.attributes (is_suspense x.text)) c) [] [] a.alike refl;
    }
again _ (g.paired x c d q) from =
    let a = again _ c (past_name x.text (past_sign p.Less (from))) in
    let b = again _ d (past_sign p.Greater (a.stop)) in
    record {
      syntax = g.paired (renamed x (past_sign p.Less (from))) a.syntax b.syntax (past_sign p.LessSlash (b.stop));
      stop = past_sign p.Greater (past_name x.text (past_sign p.LessSlash (b.stop)));
      spelled = λ more. ap (λ (ws : List Word). w.Sign p.Less ∷ ws) (ap (λ (ws : List Word). w.Name x.text (past_sign p.Less (from)) ∷ ws) (a.spelled (w.Sign p.Greater ∷ spell g.children d (w.Sign p.LessSlash ∷ w.Name x.text q ∷ w.Sign p.Greater ∷ more)) ∙ ap (λ (ws : List Word). spell (g.attributes (is_suspense x.text)) a.syntax ws) (ap (λ (ws : List Word). w.Sign p.Greater ∷ ws) (b.spelled (w.Sign p.LessSlash ∷ w.Name x.text q ∷ w.Sign p.Greater ∷ more)))));
      fits = λ o f. (f.0, a.fits (o + 1) f.1, b.fits (o + 1) f.2, λ lacks. none_left bare_node (tree g.children b.syntax) (tree g.children d) b.alike (f.3 lacks));
      alike = element_alike x (past_sign p.Less (from)) (tree (g.attributes (is_suspense x.text)) a.syntax) (tree (g.attributes (is_suspense x.text)) c) (tree g.children b.syntax) (tree g.children d) a.alike b.alike;
    }
again _ (g.fragment c) from =
    let a = again _ c (past_sign p.Greater (past_sign p.Less (from))) in
    record {
      syntax = g.fragment a.syntax;
      stop = past_sign p.Greater (past_sign p.LessSlash (a.stop));
      spelled = λ more. ap (λ (ws : List Word). w.Sign p.Less ∷ ws) (ap (λ (ws : List Word). w.Sign p.Greater ∷ ws) (a.spelled (w.Sign p.LessSlash ∷ w.Sign p.Greater ∷ more)));
      fits = λ o f. (f.0, a.fits (o + 1) f.1);
      alike = bare_node-Fragment (tree g.children a.syntax) ∙ (ap n.Fragment a.alike ∙ sym (bare_node-Fragment (tree g.children c)));
    }
again _ (g.flag x) from =
    record {
      syntax = g.flag (renamed x from);
      stop = past_name x.text (from);
      spelled = λ more. refl;
      fits = λ o f. tt;
      alike = refl;
    }
again _ (g.quoted x v) from =
    record {
      syntax = g.quoted (renamed x from) v;
      stop = (past_sign p.Assign (past_name x.text (from))) + length (string_bytes v);
      spelled = λ more. refl;
      fits = λ o f. tt;
      alike = refl;
    }
again _ (g.braced x c) from =
    let a = again _ c (past_sign p.OpenBrace (past_sign p.Assign (past_name x.text (from)))) in
    record {
      syntax = g.braced (renamed x from) a.syntax;
      stop = past_sign p.CloseBrace (a.stop);
      spelled = λ more. ap (λ (ws : List Word). w.Name x.text (from) ∷ ws) (ap (λ (ws : List Word). w.Sign p.Assign ∷ ws) (ap (λ (ws : List Word). w.Sign p.OpenBrace ∷ ws) (a.spelled (w.Sign p.CloseBrace ∷ more))));
      fits = λ o f. (f.0, a.fits (o + 1) f.1);
      alike = entry_alike x from (n.Value (tree g.expression a.syntax)) (n.Value (tree g.expression c)) (value_alike (tree g.expression a.syntax) (tree g.expression c) a.alike);
    }
again _ (g.fallback x c) from =
    let a = again _ c (past_sign p.OpenBrace (past_sign p.Assign (past_name x.text (from)))) in
    record {
      syntax = g.fallback (renamed x from) a.syntax;
      stop = past_sign p.CloseBrace (a.stop);
      spelled = λ more. ap (λ (ws : List Word). w.Name x.text (from) ∷ ws) (ap (λ (ws : List Word). w.Sign p.Assign ∷ ws) (ap (λ (ws : List Word). w.Sign p.OpenBrace ∷ ws) (a.spelled (w.Sign p.CloseBrace ∷ more))));
      fits = λ o f. (f.0, f.1, a.fits (o + 1) f.2);
      alike = entry_alike x from (node_of (tree g.node a.syntax)) (node_of (tree g.node c)) (node_alike (tree g.node a.syntax) (tree g.node c) a.alike);
    }
again _ g.no_attribute from =
    record {
      syntax = g.no_attribute;
      stop = from;
      spelled = λ more. refl;
      fits = λ o f. tt;
      alike = refl;
    }
again _ (g.next_attribute {b = t} c d) from =
    let a = again _ c (from) in
    let b = again _ d (a.stop) in
    record {
      syntax = g.next_attribute a.syntax b.syntax;
      stop = b.stop;
      spelled = λ more. a.spelled (spell (g.attribute t) d (more)) ∙ ap (λ (ws : List Word). spell (g.attributes t) a.syntax ws) (b.spelled (more));
      fits = λ o f. (a.fits o f.0, b.fits o f.1);
      alike = one_end bare_entry (tree (g.attributes t) a.syntax) (tree (g.attributes t) c) (tree (g.attribute t) b.syntax) (tree (g.attribute t) d) a.alike b.alike;
    }
again _ (g.text x) from =
    record {
      syntax = g.text x;
      stop = (from) + length x;
      spelled = λ more. refl;
      fits = λ o f. tt;
      alike = refl;
    }
again _ g.empty_braces from =
    record {
      syntax = g.empty_braces;
      stop = past_sign p.CloseBrace (past_sign p.OpenBrace (from));
      spelled = λ more. refl;
      fits = λ o f. f;
      alike = refl;
    }
again _ (g.braces c) from =
    let a = again _ c (past_sign p.OpenBrace (from)) in
    record {
      syntax = g.braces a.syntax;
      stop = past_sign p.CloseBrace (a.stop);
      spelled = λ more. ap (λ (ws : List Word). w.Sign p.OpenBrace ∷ ws) (a.spelled (w.Sign p.CloseBrace ∷ more));
      fits = λ o f. (f.0, a.fits (o + 1) f.1);
      alike = ap (λ (x : Node). x ∷ []) (node_alike (tree g.node a.syntax) (tree g.node c) a.alike);
    }
again _ (g.element_child c) from =
    let a = again _ c (from) in
    record {
      syntax = g.element_child a.syntax;
      stop = a.stop;
      spelled = λ more. a.spelled (more);
      fits = λ o f. a.fits o f;
      alike = ap (λ (x : Node). x ∷ []) a.alike;
    }
again _ g.no_child from =
    record {
      syntax = g.no_child;
      stop = from;
      spelled = λ more. refl;
      fits = λ o f. tt;
      alike = refl;
    }
again _ (g.next_child c d) from =
    let a = again _ c (from) in
    let b = again _ d (a.stop) in
    record {
      syntax = g.next_child a.syntax b.syntax;
      stop = b.stop;
      spelled = λ more. a.spelled (spell g.child d (more)) ∙ ap (λ (ws : List Word). spell g.children a.syntax ws) (b.spelled (more));
      fits = λ o f. (a.fits o f.0, b.fits o f.1);
      alike = both_ends bare_node (tree g.children a.syntax) (tree g.child b.syntax) (tree g.children c) (tree g.child d) a.alike b.alike;
    }
again _ (g.first_name x) from =
    record {
      syntax = g.first_name (renamed x from);
      stop = past_name x.text (from);
      spelled = λ more. refl;
      fits = λ o f. f;
      alike = refl;
    }
again _ (g.next_name c x) from =
    let a = again _ c (from) in
    record {
      syntax = g.next_name a.syntax (renamed x (past_sign p.Comma (a.stop)));
      stop = past_name x.text (past_sign p.Comma (a.stop));
      spelled = λ more. a.spelled (w.Sign p.Comma ∷ name_word x ∷ more);
      fits = λ o f. (a.fits o f.0, f.1);
      alike = one_end bare_name (tree g.names a.syntax) (tree g.names c) (renamed x (past_sign p.Comma (a.stop))) x a.alike refl;
    }
again _ g.no_properties from =
    record {
      syntax = g.no_properties;
      stop = from;
      spelled = λ more. refl;
      fits = λ o f. tt;
      alike = refl;
    }
again _ g.empty_properties from =
    record {
      syntax = g.empty_properties;
      stop = past_sign p.CloseBrace (past_sign p.OpenBrace (from));
      spelled = λ more. refl;
      fits = λ o f. tt;
      alike = refl;
    }
again _ (g.braced_properties c) from =
    let a = again _ c (past_sign p.OpenBrace (from)) in
    record {
      syntax = g.braced_properties a.syntax;
      stop = past_sign p.CloseBrace (a.stop);
      spelled = λ more. ap (λ (ws : List Word). w.Sign p.OpenBrace ∷ ws) (a.spelled (w.Sign p.CloseBrace ∷ more));
      fits = λ o f. a.fits o f;
      alike = a.alike;
    }
again _ (g.fetch q x used c) from =
    let a = again _ c (past_sign p.OpenParen (past_name (codes "use") (past_sign p.Assign (past_name x.text (past_name (codes "const") (from)))))) in
    record {
      syntax = g.fetch from (renamed x (past_name (codes "const") (from))) (past_sign p.Assign (past_name x.text (past_name (codes "const") (from)))) a.syntax;
      stop = past_sign p.Semicolon (past_sign p.CloseParen (a.stop));
      spelled = λ more. ap (λ (ws : List Word). w.Name (codes "const") (from) ∷ ws) (ap (λ (ws : List Word). w.Name x.text (past_name (codes "const") (from)) ∷ ws) (ap (λ (ws : List Word). w.Sign p.Assign ∷ ws) (ap (λ (ws : List Word). w.Name (codes "use") (past_sign p.Assign (past_name x.text (past_name (codes "const") (from)))) ∷ ws) (ap (λ (ws : List Word). w.Sign p.OpenParen ∷ ws) (a.spelled (w.Sign p.CloseParen ∷ w.Sign p.Semicolon ∷ more))))));
      fits = λ o f. (f.0, a.fits (o + 1) f.1);
      alike = ap (s.Fetch (bare_name x)) a.alike;
    }
again _ (g.bind q x c) from =
    let a = again _ c (past_sign p.Assign (past_name x.text (past_name (codes "const") (from)))) in
    record {
      syntax = g.bind from (renamed x (past_name (codes "const") (from))) a.syntax;
      stop = past_sign p.Semicolon (a.stop);
      spelled = λ more. ap (λ (ws : List Word). w.Name (codes "const") (from) ∷ ws) (ap (λ (ws : List Word). w.Name x.text (past_name (codes "const") (from)) ∷ ws) (ap (λ (ws : List Word). w.Sign p.Assign ∷ ws) (a.spelled (w.Sign p.Semicolon ∷ more))));
      fits = λ o f. (f.0, a.fits o f.1);
      alike = ap (s.Bind (bare_name x)) a.alike;
    }
again _ (g.throw q c thrown d) from =
    let a = again _ c (past_sign p.OpenParen (past_name (codes "if") (from))) in
    let b = again _ d (past_name (codes "throw") (past_sign p.CloseParen (a.stop))) in
    record {
      syntax = g.throw from a.syntax (past_sign p.CloseParen (a.stop)) b.syntax;
      stop = past_sign p.Semicolon (b.stop);
      spelled = λ more. ap (λ (ws : List Word). w.Name (codes "if") (from) ∷ ws) (ap (λ (ws : List Word). w.Sign p.OpenParen ∷ ws) (a.spelled (w.Sign p.CloseParen ∷ w.Name (codes "throw") thrown ∷ spell g.expression d (w.Sign p.Semicolon ∷ more)) ∙ ap (λ (ws : List Word). spell g.expression a.syntax ws) (ap (λ (ws : List Word). w.Sign p.CloseParen ∷ ws) (ap (λ (ws : List Word). w.Name (codes "throw") (past_sign p.CloseParen (a.stop)) ∷ ws) (b.spelled (w.Sign p.Semicolon ∷ more))))));
      fits = λ o f. (a.fits (o + 1) f.0, b.fits o f.1);
      alike = ap (λ (x : Expr). s.Throw x (bare (tree g.expression b.syntax))) a.alike ∙ ap (s.Throw (bare (tree g.expression c))) b.alike;
    }
again _ g.no_statement from =
    record {
      syntax = g.no_statement;
      stop = from;
      spelled = λ more. refl;
      fits = λ o f. tt;
      alike = refl;
    }
again _ (g.next_statement c d) from =
    let a = again _ c (from) in
    let b = again _ d (a.stop) in
    record {
      syntax = g.next_statement a.syntax b.syntax;
      stop = b.stop;
      spelled = λ more. a.spelled (spell g.statement d (more)) ∙ ap (λ (ws : List Word). spell g.statements a.syntax ws) (b.spelled (more));
      fits = λ o f. (a.fits o f.0, b.fits o f.1);
      alike = one_end bare_stmt (tree g.statements a.syntax) (tree g.statements c) (tree g.statement b.syntax) (tree g.statement d) a.alike b.alike;
    }
again _ (g.function q x c d returned k) from =
    let a = again _ c (past_sign p.OpenParen (past_name x.text (past_name (codes "function") (from)))) in
    let b = again _ d (past_sign p.OpenBrace (past_sign p.CloseParen (a.stop))) in
    let l = again _ k (past_name (codes "return") (b.stop)) in
    record {
      syntax = g.function from (renamed x (past_name (codes "function") (from))) a.syntax b.syntax (b.stop) l.syntax;
      stop = past_sign p.CloseBrace (past_sign p.Semicolon (l.stop));
      spelled = λ more. ap (λ (ws : List Word). w.Name (codes "function") (from) ∷ ws) (ap (λ (ws : List Word). w.Name x.text (past_name (codes "function") (from)) ∷ ws) (ap (λ (ws : List Word). w.Sign p.OpenParen ∷ ws) (a.spelled (w.Sign p.CloseParen ∷ w.Sign p.OpenBrace ∷ spell g.statements d (w.Name (codes "return") returned ∷ spell g.node k (w.Sign p.Semicolon ∷ w.Sign p.CloseBrace ∷ more))) ∙ ap (λ (ws : List Word). spell g.properties a.syntax ws) (ap (λ (ws : List Word). w.Sign p.CloseParen ∷ ws) (ap (λ (ws : List Word). w.Sign p.OpenBrace ∷ ws) (b.spelled (w.Name (codes "return") returned ∷ spell g.node k (w.Sign p.Semicolon ∷ w.Sign p.CloseBrace ∷ more)) ∙ ap (λ (ws : List Word). spell g.statements b.syntax ws) (ap (λ (ws : List Word). w.Name (codes "return") (b.stop) ∷ ws) (l.spelled (w.Sign p.Semicolon ∷ w.Sign p.CloseBrace ∷ more)))))))));
      fits = λ o f. (f.0, a.fits (o + 2) f.1, b.fits (o + 1) f.2, l.fits (o + 1) f.3);
      alike = component_alike x (past_name (codes "function") (from)) (tree g.properties a.syntax) (tree g.properties c) (tree g.statements b.syntax) (tree g.statements d) (node_of (tree g.node l.syntax)) (node_of (tree g.node k)) a.alike b.alike (node_alike (tree g.node l.syntax) (tree g.node k) l.alike);
    }
again _ g.no_component from =
    record {
      syntax = g.no_component;
      stop = from;
      spelled = λ more. refl;
      fits = λ o f. tt;
      alike = refl;
    }
again _ (g.next_component c d) from =
    let a = again _ c (from) in
    let b = again _ d (a.stop) in
    record {
      syntax = g.next_component a.syntax b.syntax;
      stop = b.stop;
      spelled = λ more. a.spelled (spell g.component d (more)) ∙ ap (λ (ws : List Word). spell g.components a.syntax ws) (b.spelled (more));
      fits = λ o f. (a.fits o f.0, b.fits o f.1);
      alike = one_end bare_component (tree g.components a.syntax) (tree g.components c) (tree g.component b.syntax) (tree g.component d) a.alike b.alike;
    }

pub record Reread (words : List Word) (file : File) : Type 0 where
  pub other_file : File
  pub spells : SpellsFile (placed 0 words) other_file
  pub same : bare_file other_file ≡ bare_file file

pub reread : (words : List Word) (file : File) → SpellsFile words file → Reread words file
reread words file h =
    let a = again g.components h.syntax 0 in
    record {
      other_file = record { components = tree g.components a.syntax };
      spells = record {
        syntax = a.syntax;
        fits = a.fits 0 h.fits;
        spelled = sym (a.spelled []) ∙ ap (placed 0) h.spelled;
        tree_is = refl;
      };
      same = ap (λ (cs : List Component). record { components = cs }) (a.alike ∙ ap (map bare_component) h.tree_is);
    }
