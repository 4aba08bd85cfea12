-- Names that are pushed one after the other.
use Rattle.std.proofs.Common.{◌≡◌, Bool, Result, Ok, Err, List, [], ◌∷◌, ◌++◌, map, refl, sym, ◌∙◌, ap, append_assoc}
use Rattle.std.specs.Prelude.{OnOk}
use Rattle.std.specs.List.{flat_map}
use Rattle.std.proofs.lemmas.List.{map-append}
use Rattle.jsx_syntax.specs.Rules.{names_of, names_step}
use Rattle.jsx_syntax.specs.declared.expr.Expr.{Expr}
use Rattle.jsx_syntax.specs.declared.expr.Expr.TheFolds.{fold-roll-Expr}
use Rattle.jsx_syntax.specs.declared.expr.Expr.TheOpen as layer
use Rattle.jsx_syntax.specs.declared.expr.Expr.TheVariants as variant
use Rattle.jsx_syntax.specs.declared.name.Name.{Name}
use Rattle.jsx_check.specs.Events.{Event, uses}

pub on_ok : {T E P Q : Type 0} (r : Result T E) → (P → Q) → OnOk r P → OnOk r Q
on_ok (Ok v) f p = f p
on_ok (Err e) f p = p

pub flat_map-names_of : (exprs : List Expr) → flat_map names_of exprs ≡ flat_map (λ (names : List Name). names) (map names_of exprs)
flat_map-names_of [] = refl
flat_map-names_of (x ∷ xs) = ap (λ (ns : List Name). names_of x ++ ns) (flat_map-names_of xs)

pub pushed_both : (old mid new : List Event) (a b names : List Name) → mid ≡ old ++ map uses a → a ++ b ≡ names → new ≡ mid ++ map uses b
    → new ≡ old ++ map uses names
pushed_both old mid new a b names m e n =
    n ∙ (ap (λ x. x ++ map uses b) m ∙ (append_assoc old (map uses a) (map uses b) ∙ ap (λ x. old ++ x) (sym (map-append uses a b) ∙ ap (map uses) e)))

pub names_of-Sum : (xs : List Expr) → flat_map names_of xs ≡ names_of (variant.Sum xs)
names_of-Sum xs = flat_map-names_of xs ∙ sym (ap names_of (sym (variant.rolls-Sum xs)) ∙ fold-roll-Expr (List Name) names_step (layer.Sum xs))

pub names_of-And : (xs : List Expr) → flat_map names_of xs ≡ names_of (variant.And xs)
names_of-And xs = flat_map-names_of xs ∙ sym (ap names_of (sym (variant.rolls-And xs)) ∙ fold-roll-Expr (List Name) names_step (layer.And xs))

pub names_of-Or : (xs : List Expr) → flat_map names_of xs ≡ names_of (variant.Or xs)
names_of-Or xs = flat_map-names_of xs ∙ sym (ap names_of (sym (variant.rolls-Or xs)) ∙ fold-roll-Expr (List Name) names_step (layer.Or xs))

pub names_of-Equal : (left right : Expr) (negated : Bool) → names_of left ++ names_of right ≡ names_of (variant.Equal left right negated)
names_of-Equal left right negated =
    sym (ap names_of (sym (variant.rolls-Equal left right negated)) ∙ fold-roll-Expr (List Name) names_step (layer.Equal left right negated))

pub names_of-Choose : (test one other : Expr) → names_of test ++ (names_of one ++ names_of other) ≡ names_of (variant.Choose test one other)
names_of-Choose test one other =
    sym (ap names_of (sym (variant.rolls-Choose test one other)) ∙ fold-roll-Expr (List Name) names_step (layer.Choose test one other))
