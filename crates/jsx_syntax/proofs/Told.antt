-- What a step of the parser says of a word: what is open after it, or what is wanted in its place.
use Rattle.std.proofs.Common.{◌≡◌, ℕ, zero, suc, ◌+◌, ◌≤◌, Bool, true, false, not, ◌&&◌, ◌||◌, if◌then◌else◌, List, [], ◌∷◌, ◌++◌, codes, Option, Some, None, Ok, Err, length, refl, sym, ap, subst, ◌∙◌, ◌⊎◌, inl, inr, arith, ℤ}
use Rattle.std.specs.Str.{bytes_eq}
use Rattle.jsx_lex.specs.declared.word.Word.{Word}
use Rattle.jsx_lex.specs.declared.word.Word.TheVariants as w
use Rattle.jsx_lex.specs.declared.word.Punctuator.{Punctuator}
use Rattle.jsx_lex.specs.declared.word.Punctuator.TheVariants as p
use Rattle.jsx_syntax.specs.declared.name.Name.{Name}
use Rattle.jsx_syntax.specs.declared.name.Entry.{Entry}
use Rattle.jsx_syntax.specs.declared.expr.Expr.{Expr}
use Rattle.jsx_syntax.specs.declared.expr.Expr.TheVariants as e
use Rattle.jsx_syntax.specs.declared.node.Node.{Node}
use Rattle.jsx_syntax.specs.declared.node.Node.TheVariants as n
use Rattle.jsx_syntax.specs.declared.part.Part.{Part}
use Rattle.jsx_syntax.specs.declared.part.Part.TheVariants.{Value, Other}
use Rattle.jsx_syntax.specs.declared.part.Dotted.{Dotted}
use Rattle.jsx_syntax.specs.declared.file.Stmt.TheVariants as s
use Rattle.jsx_syntax.specs.declared.fault.Wanted.{Wanted}
use Rattle.jsx_syntax.specs.declared.fault.Wanted.TheVariants as wanted
use Rattle.jsx_syntax.specs.declared.state.Draft.{Draft}
use Rattle.jsx_syntax.specs.declared.state.Pending.{Pending}
use Rattle.jsx_syntax.specs.declared.state.Mapping.{Mapping}
use Rattle.jsx_syntax.specs.declared.state.Left.{Left}
use Rattle.jsx_syntax.specs.declared.state.Tag.{Tag}
use Rattle.jsx_syntax.specs.declared.state.Opened.{Opened}
use Rattle.jsx_syntax.specs.declared.state.Frame.{Frame}
use Rattle.jsx_syntax.specs.declared.state.Frame.TheVariants as f
use Rattle.jsx_syntax.specs.declared.state.Position.{Position}
use Rattle.jsx_syntax.specs.declared.state.Position.TheVariants as position
use Rattle.jsx_syntax.specs.declared.state.Outside.{Outside}
use Rattle.jsx_syntax.specs.declared.state.Outside.TheVariants as o
use Rattle.jsx_syntax.specs.declared.state.Within.{Within}
use Rattle.jsx_syntax.specs.declared.state.Within.TheVariants as b
use Rattle.jsx_syntax.specs.declared.state.Inside.{Inside}
use Rattle.jsx_syntax.specs.declared.state.Inside.TheVariants as i
use Rattle.jsx_syntax.specs.declared.state.InMap.{InMap}
use Rattle.jsx_syntax.specs.declared.state.InMap.TheVariants as m
use Rattle.jsx_syntax.specs.declared.state.InElement.{InElement}
use Rattle.jsx_syntax.specs.declared.state.InElement.TheVariants as t
use Rattle.jsx_syntax.specs.declared.state.State.{State}
use Rattle.jsx_syntax.specs.Marks.{Mark, in_parens, in_brackets, in_braces, in_tag, in_children, in_end, in_not, in_yes, in_no, Last, operand, dot, dot_map, less_slash, child_brace, none, Marks, after_operand, after_expression, after_operand_at, open_at, closed, turned, tag_closed, ending, after_sign, after_word, among_children, last_name, last_sign, last_word, marks_by, marks_of}
use Rattle.jsx_syntax.specs.Kinds.{is_too_deep, is_no_value, is_other_name, is_value_word, begins_node, is_child_text, begins_child, wanted_of}
use Rattle.std.proofs.lemmas.Bool.Decides.{nat_tests}
use Rattle.jsx_syntax.specs.Grammar.{Syntax, Fits, HasRoom, equal_sign}
use Rattle.jsx_syntax.specs.Grammar as g
use Rattle.jsx_syntax.proofs.Complete.{room_before}
use Rattle.jsx_syntax.specs.Words.{name_word, is_reserved, nesting_limit}
use Rattle.jsx_syntax.specs.WordTests.{is_sign, is_word, is_opening, opens, has_room, refusal, code_name, any_name}
use Rattle.jsx_syntax.specs.Trees.{element_of, members_of, choose_part}
use Rattle.jsx_syntax.specs.Steps.{Moved, allows_node, nesting, names_before_map, holds_children, fresh, operand_of, inside, finish, close, name_then, value_of, node_part, element_node, step_operand, step_value}
use Rattle.jsx_syntax.specs.Steps as steps
use Rattle.jsx_syntax.proofs.Zipper.{Hole, file, part, elem, Stacked, At, PartRead}
use Rattle.jsx_syntax.proofs.Closings.{nesting-allows}
use Rattle.jsx_syntax.proofs.Sound.{if_both, if_true, sign_is, both_is, text_is, true_false}
use Rattle.jsx_syntax.proofs.Alive.{no_file}
use Rattle.jsx_syntax.proofs.Names.{names_snoc}
use Rattle.jsx_syntax.proofs.Marked.{nots_on, below, marks_in, value_last, IsQuiet, LastIn, IsMarked, value_may, Told, nots-more, nots-operand, nots-expression, nots-children, hole_depth, below-length, below-nesting, below-operand, below-children, plain, ended, deep_is, shallow_is, refused_as, quiet-told}

-- Tests of words.

on_sign : (sign : Punctuator) (word : Word) (may : Bool) (m_ : Marks) (x y : Moved)
    → Told may m_ (w.Sign sign) x → Told may m_ word y → Told may m_ word (if is_sign sign word then x else y)
on_sign sign word may m_ x y yes_ no_ =
    if_true (is_sign sign word) x y (Told may m_ word) (λ is. subst (λ (v : Word). Told may m_ v x) (sym (sign_is sign word is)) yes_) no_

on_word : (text : List ℕ) (word : Word) (may : Bool) (m_ : Marks) (x y : Moved)
    → ((place : ℕ) → Told may m_ (w.Name text place) x) → Told may m_ word y → Told may m_ word (if is_word text word then x else y)
on_word text (w.Name other place) may m_ x y yes_ no_ =
    if_true (bytes_eq other text) x y (Told may m_ (w.Name other place))
    (λ is. subst (λ (v : List ℕ). Told may m_ (w.Name v place) x) (sym (text_is other text is)) (yes_ place)) no_
on_word text (w.Sign sign) may m_ x y yes_ no_ = no_
on_word text (w.Number z) may m_ x y yes_ no_ = no_
on_word text (w.Text v) may m_ x y yes_ no_ = no_
on_word text (w.JsxText v) may m_ x y yes_ no_ = no_

on_code_name : (k : ℕ) (word : Word) (may : Bool) (m_ : Marks) (next : Name → State)
    → ((name : Name) → IsMarked (next name) (marks_by m_ (name_word name))) → refusal k word ≡ wanted_of may m_ word
    → Told may m_ word (name_then (code_name k word) next)
on_code_name k (w.Name text place) may m_ next yes_ no_ = if_named (is_reserved text)
  where
    if_named : (b_ : Bool) → Told may m_ (w.Name text place) (name_then (if b_ then Err wanted.Token else Ok (record { text = text; at = place })) next)
    if_named true = no_
    if_named false = yes_ (record { text = text; at = place })
on_code_name k (w.Sign sign) may m_ next yes_ no_ = no_
on_code_name k (w.Number z) may m_ next yes_ no_ = no_
on_code_name k (w.Text v) may m_ next yes_ no_ = no_
on_code_name k (w.JsxText v) may m_ next yes_ no_ = no_

on_any_name : (k : ℕ) (word : Word) (may : Bool) (m_ : Marks) (next : Name → State)
    → ((name : Name) → IsMarked (next name) (marks_by m_ (name_word name))) → refusal k word ≡ wanted_of may m_ word
    → Told may m_ word (name_then (any_name k word) next)
on_any_name k (w.Name text place) may m_ next yes_ no_ = yes_ (record { text = text; at = place })
on_any_name k (w.Sign sign) may m_ next yes_ no_ = no_
on_any_name k (w.Number z) may m_ next yes_ no_ = no_
on_any_name k (w.Text v) may m_ next yes_ no_ = no_
on_any_name k (w.JsxText v) may m_ next yes_ no_ = no_

-- Nothing is too deep outside expressions.

room-0 : has_room 0 ≡ true
unfolding nesting_limit
room-0 = refl

room-1 : has_room 1 ≡ true
unfolding nesting_limit
room-1 = refl

and-false : (x : Bool) → x && false ≡ false
and-false true = refl
and-false false = refl

-- a token that is wanted where one more may be open
token_is : (k : ℕ) (word : Word) → has_room k ≡ true → wanted.Token ≡ refusal k word
token_is k word h =
    ap (λ (x : Bool). if x then wanted.Shallower else wanted.Token) (sym (and-false (opens word)))
    ∙ ap (λ (r : Bool). if opens word && not r then wanted.Shallower else wanted.Token) (sym h)

-- Outside expressions.

told_outside : (x : Outside) (fs : List Frame) (z : At (position.Outside x) fs) (word : Word)
    → Told false (plain (marks_in (position.Outside x) fs)) word (steps.step_outside x fs word)
told_outside (o.File components) [] z word = on_word (codes "function") word false (plain []) _ _
    (λ place. record { marks_are = refl; last_is = inr (refl, refl, refl) })
    (token_is 0 word room-0 ∙ refused_as false (plain []) word 0 refl refl refl refl)
told_outside (o.Name components) [] z word = on_code_name 0 word false (plain []) _
    (λ name. record { marks_are = refl; last_is = inr (refl, refl, refl) }) (refused_as false (plain []) word 0 refl refl refl refl)
told_outside (o.Open x) [] z word = on_sign p.OpenParen word false (plain []) _ _
    (record { marks_are = refl; last_is = inl refl }) (refused_as false (plain []) word 0 refl refl refl refl)
told_outside (o.Properties x) [] z word = on_sign p.OpenBrace word false (plain (in_parens ∷ [])) _ _
    (record { marks_are = refl; last_is = inl refl })
    (on_sign p.CloseParen word false (plain (in_parens ∷ [])) _ _
    (record { marks_are = refl; last_is = inr (refl, refl, refl) }) (refused_as false (plain (in_parens ∷ [])) word 1 refl refl refl refl))
told_outside (o.FirstProperty x) [] z word = on_sign p.CloseBrace word false (plain (in_braces ∷ in_parens ∷ [])) _ _
    (record { marks_are = refl; last_is = inr (refl, refl, refl) })
    (on_code_name 2 word false (plain (in_braces ∷ in_parens ∷ [])) _
    (λ name. record { marks_are = refl; last_is = inr (refl, refl, refl) }) (refused_as false (plain (in_braces ∷ in_parens ∷ [])) word 2 refl refl refl refl))
told_outside (o.NextProperty x) [] z word = on_code_name 2 word false (plain (in_braces ∷ in_parens ∷ [])) _
    (λ name. record { marks_are = refl; last_is = inr (refl, refl, refl) }) (refused_as false (plain (in_braces ∷ in_parens ∷ [])) word 2 refl refl refl refl)
told_outside (o.PropertyEnd x) [] z word = on_sign p.Comma word false (plain (in_braces ∷ in_parens ∷ [])) _ _
    (record { marks_are = refl; last_is = inl refl })
    (on_sign p.CloseBrace word false (plain (in_braces ∷ in_parens ∷ [])) _ _
    (record { marks_are = refl; last_is = inr (refl, refl, refl) }) (refused_as false (plain (in_braces ∷ in_parens ∷ [])) word 2 refl refl refl refl))
told_outside (o.Close x) [] z word = on_sign p.CloseParen word false (plain (in_parens ∷ [])) _ _
    (record { marks_are = refl; last_is = inr (refl, refl, refl) }) (refused_as false (plain (in_parens ∷ [])) word 1 refl refl refl refl)
told_outside (o.Body x) [] z word = on_sign p.OpenBrace word false (plain []) _ _
    (record { marks_are = refl; last_is = inl refl }) (refused_as false (plain []) word 0 refl refl refl refl)
told_outside (o.BodyEnd components) [] z word = on_sign p.CloseBrace word false (plain (in_braces ∷ [])) _ _
    (record { marks_are = refl; last_is = inr (refl, refl, refl) }) (refused_as false (plain (in_braces ∷ [])) word 1 refl refl refl refl)
told_outside x (frame ∷ fs) z word = absurd (no_file frame fs z.below)

-- Where an operand comes next.

told_operand : (q : Pending) (fs : List Frame) → Stacked fs (part q.place q.depth) → (word : Word)
    → Told true (plain (nots_on q.nots (below fs))) word (step_operand q fs word)
told_operand q fs z word = by_word word
  where
    len : length (nots_on q.nots (below fs)) ≡ nesting q
    len = below-nesting q fs z

    clear : among_children (nots_on q.nots (below fs)) ≡ false
    clear = nots-children q.nots (below fs) (below-children fs q.place q.depth z)

    no_child : (x y : Bool) → x ≡ false → x && y ≡ false
    no_child true y h = absurd (true_false h)
    no_child false y h = refl

    operand_told : (word : Word) (x : Expr) → last_word none word (nots_on q.nots (below fs)) ≡ operand → after_word word (nots_on q.nots (below fs)) ≡ nots_on q.nots (below fs)
        → Told true (plain (nots_on q.nots (below fs))) word (steps.operand q x fs)
    operand_told word x last_is same = record { marks_are = same; last_is = last_is }

    by_text : (text : List ℕ) (place : ℕ) (x : Expr) (y : Moved) (b_ : Bool) → Told true (plain (nots_on q.nots (below fs))) (w.Name text place) y
        → Told true (plain (nots_on q.nots (below fs))) (w.Name text place) (if b_ then steps.operand q x fs else y)
    by_text text place x y true no_ = operand_told (w.Name text place) x refl refl
    by_text text place x y false no_ = no_

    by_name : (text : List ℕ) (place : ℕ) (b_ : Bool) → Told true (plain (nots_on q.nots (below fs))) (w.Name text place)
        (if b_ then steps.step_reserved q text fs else steps.operand q (e.Name (record { text = text; at = place })) fs)
    by_name text place false = operand_told (w.Name text place) _ refl refl
    by_name text place true =
        by_text text place (e.Bool true) _ (bytes_eq text (codes "true"))
        (by_text text place (e.Bool false) _ (bytes_eq text (codes "false"))
        (by_text text place e.Null _ (bytes_eq text (codes "null"))
        (by_text text place e.Null _ (bytes_eq text (codes "undefined"))
        (refused_as true (plain (nots_on q.nots (below fs))) (w.Name text place) (nesting q) len refl refl (no_child (among_children (nots_on q.nots (below fs))) false clear)))))

    by_sign : (sign : Punctuator) → Told true (plain (nots_on q.nots (below fs))) (w.Sign sign) (steps.step_operand_sign q fs (w.Sign sign))
    by_sign p.OpenParen = if_both (has_room (nesting q)) _ _ (Told true (plain (nots_on q.nots (below fs))) (w.Sign p.OpenParen))
        (λ room. record { marks_are = refl; last_is = inl refl })
        (λ full. deep_is (nesting q) (nots_on q.nots (below fs)) _ len full)
    by_sign p.Not = if_both (has_room (nesting q)) _ _ (Told true (plain (nots_on q.nots (below fs))) (w.Sign p.Not))
        (λ room. record { marks_are = sym (nots-more q.nots (below fs)); last_is = inl refl })
        (λ full. deep_is (nesting q) (nots_on q.nots (below fs)) _ len full)
    by_sign p.OpenBracket = if_both (has_room (nesting q)) _ _ (Told true (plain (nots_on q.nots (below fs))) (w.Sign p.OpenBracket))
        (λ room. if_true (allows_node q) _ _ (Told true (plain (nots_on q.nots (below fs))) (w.Sign p.OpenBracket))
        (λ allows. record { marks_are = refl; last_is = inl refl })
        (shallow_is (nesting q) (nots_on q.nots (below fs)) wanted.Value len room))
        (λ full. deep_is (nesting q) (nots_on q.nots (below fs)) _ len full)
    by_sign p.Less = if_both (has_room (nesting q)) _ _ (Told true (plain (nots_on q.nots (below fs))) (w.Sign p.Less))
        (λ room. if_true (allows_node q) _ _ (Told true (plain (nots_on q.nots (below fs))) (w.Sign p.Less))
        (λ allows. record { marks_are = refl; last_is = inl refl })
        (shallow_is (nesting q) (nots_on q.nots (below fs)) wanted.Value len room))
        (λ full. deep_is (nesting q) (nots_on q.nots (below fs)) _ len full)
    by_sign sign = refused_as true (plain (nots_on q.nots (below fs))) (w.Sign sign) (nesting q) len refl refl (no_child (among_children (nots_on q.nots (below fs))) false clear)

    by_word : (word : Word) → Told true (plain (nots_on q.nots (below fs))) word (step_operand q fs word)
    by_word (w.Name text place) = by_name text place (is_reserved text)
    by_word (w.Number v) = operand_told (w.Number v) (e.Int v) refl refl
    by_word (w.Text v) = operand_told (w.Text v) (e.Text v) refl refl
    by_word (w.JsxText v) = jsx_text v
      where
        jsx_text : (v : List ℕ) → Told true (plain (nots_on q.nots (below fs))) (w.JsxText v) (Err wanted.Token)
        jsx_text v = refused_as true (plain (nots_on q.nots (below fs))) (w.JsxText v) (nesting q) len refl refl (no_child (among_children (nots_on q.nots (below fs))) (is_child_text (w.JsxText v) || false) clear)
    by_word (w.Sign sign) = by_sign sign

-- Where an expression ends.

-- a word that ends what an expression or a node is a part of
abbrev ends_part : Word → Bool
ends_part word =
    is_sign p.CloseParen word || is_sign p.Semicolon word || is_sign p.Colon word || is_sign p.Comma word
    || is_sign p.CloseBracket word || is_sign p.CloseBrace word

-- the word ends all that ends with the operand before it
record Ends (m_ : Marks) (word : Word) (ms : List Mark) : Type 0 where
  open_is : ends_part word ≡ true → open_at m_.last word m_.marks ≡ after_expression ms
  wanted_is : (k : ℕ) → length (after_expression ms) ≡ k → refusal k word ≡ wanted_of false m_ word

ended_sign : (sign : Punctuator) (word : Word) (m_ : Marks) (ms : List Mark) (x y : Moved) → Ends m_ word ms
    → (Ends m_ (w.Sign sign) ms → Told false m_ (w.Sign sign) x) → Told false m_ word y → Told false m_ word (if is_sign sign word then x else y)
ended_sign sign word m_ ms x y ends yes_ no_ =
    if_true (is_sign sign word) x y (Told false m_ word)
    (λ is. subst (λ (v : Word). Told false m_ v x) (sym (sign_is sign word is)) (yes_ (subst (λ (v : Word). Ends m_ v ms) (sign_is sign word is) ends))) no_

-- a value is wanted, where a node ends
ended_value : (sign : Punctuator) (m_ : Marks) (ms : List Mark) (x : Part) (next : Expr → State) → Ends m_ (w.Sign sign) ms → refusal (length (after_expression ms)) (w.Sign sign) ≡ wanted.Token
    → ((v : Expr) → IsMarked (next v) (marks_by m_ (w.Sign sign))) → Told false m_ (w.Sign sign) (steps.value_then x next)
ended_value sign m_ ms (Value v) next ends token yes_ = yes_ v
ended_value sign m_ ms (Other v) next ends token yes_ = sym token ∙ ends.wanted_is (length (after_expression ms)) refl

-- it isn't the last part of a conditional
abbrev EndsThere : Frame → Type 0
EndsThere (f.No c one) = ⊥
EndsThere _ = Unit {0}

close_told : (frame : Frame) (fs : List Frame) (pl : Bool) (d : ℕ) → Stacked (frame ∷ fs) (part pl d) → (x : Part) (m_ : Marks) (word : Word)
    → Ends m_ word (below (frame ∷ fs)) → EndsThere frame → Told false m_ word (close frame x fs word)
close_told (f.Use draft name) fs pl d z x m_ word ends there = ended_sign p.CloseParen word m_ (below (f.Use draft name ∷ fs)) _ _ ends
    (λ e_. ended_value p.CloseParen m_ (below (f.Use draft name ∷ fs)) x _ e_ refl (λ v. record { marks_are = ap closed (e_.open_is refl); last_is = inr (refl, refl, refl) }))
    (ends.wanted_is 2 (below-length (f.Use draft name ∷ fs) (part pl d) z ∙ z.0.depth_is))
close_told (f.Bind draft name) fs pl d z x m_ word ends there = ended_sign p.Semicolon word m_ (below (f.Bind draft name ∷ fs)) _ _ ends
    (λ e_. ended_value p.Semicolon m_ (below (f.Bind draft name ∷ fs)) x _ e_ refl (λ v. record { marks_are = (e_.open_is refl); last_is = inl refl }))
    (ends.wanted_is 1 (below-length (f.Bind draft name ∷ fs) (part pl d) z ∙ z.0.depth_is))
close_told (f.If draft) fs pl d z x m_ word ends there = ended_sign p.CloseParen word m_ (below (f.If draft ∷ fs)) _ _ ends
    (λ e_. ended_value p.CloseParen m_ (below (f.If draft ∷ fs)) x _ e_ refl (λ v. record { marks_are = ap closed (e_.open_is refl); last_is = inr (refl, refl, refl) }))
    (ends.wanted_is 2 (below-length (f.If draft ∷ fs) (part pl d) z ∙ z.0.depth_is))
close_told (f.Throw draft test) fs pl d z x m_ word ends there = ended_sign p.Semicolon word m_ (below (f.Throw draft test ∷ fs)) _ _ ends
    (λ e_. ended_value p.Semicolon m_ (below (f.Throw draft test ∷ fs)) x _ e_ refl (λ v. record { marks_are = (e_.open_is refl); last_is = inl refl }))
    (ends.wanted_is 1 (below-length (f.Throw draft test ∷ fs) (part pl d) z ∙ z.0.depth_is))
close_told (f.Return draft) fs pl d z x m_ word ends there = ended_sign p.Semicolon word m_ (below (f.Return draft ∷ fs)) _ _ ends
    (λ e_. record { marks_are = (e_.open_is refl); last_is = inl refl })
    (ends.wanted_is 1 (below-length (f.Return draft ∷ fs) (part pl d) z ∙ z.0.depth_is))
close_told (f.Parens q) fs pl d z (Value v) m_ word ends there = ended_sign p.CloseParen word m_ (below (f.Parens q ∷ fs)) _ _ ends
    (λ e_. record { marks_are = ap closed (e_.open_is refl); last_is = refl })
    (ends.wanted_is (nesting q + 1) (below-length (f.Parens q ∷ fs) (part pl d) z ∙ z.0.depth_is))
close_told (f.Parens q) fs pl d z (Other v) m_ word ends there = ended_sign p.CloseParen word m_ (below (f.Parens q ∷ fs)) _ _ ends
    (λ e_. record { marks_are = ap closed (e_.open_is refl); last_is = refl })
    (ends.wanted_is (nesting q + 1) (below-length (f.Parens q ∷ fs) (part pl d) z ∙ z.0.depth_is))
close_told (f.Yes c) fs pl d z x m_ word ends there = ended_sign p.Colon word m_ (below (f.Yes c ∷ fs)) _ _ ends
    (λ e_. record { marks_are = ap turned (e_.open_is refl); last_is = inl refl })
    (ends.wanted_is (c.depth + 1) (below-length (f.Yes c ∷ fs) (part pl d) z ∙ z.0.depth_is))
close_told (f.No c one) fs pl d z x m_ word ends there = absurd there
close_told (f.Item q items) fs pl d z x m_ word ends there = ended_sign p.Comma word m_ (below (f.Item q items ∷ fs)) _ _ ends
    (λ e_. record { marks_are = (e_.open_is refl); last_is = inl refl })
    (ended_sign p.CloseBracket word m_ (below (f.Item q items ∷ fs)) _ _ ends
    (λ e_. record { marks_are = ap closed (e_.open_is refl); last_is = refl })
    (ends.wanted_is (q.depth + 1) (below-length (f.Item q items ∷ fs) (part pl d) z ∙ z.0.depth_is)))
close_told (f.MapBody v item number_) fs pl d z x m_ word ends there = ended_sign p.CloseParen word m_ (below (f.MapBody v item number_ ∷ fs)) _ _ ends
    (λ e_. record { marks_are = ap closed (e_.open_is refl); last_is = refl })
    (ends.wanted_is (v.pending.depth + 1) (below-length (f.MapBody v item number_ ∷ fs) (part pl d) z ∙ z.0.depth_is))
close_told (f.Attribute tag name) fs pl d z x m_ word ends there = ended_sign p.CloseBrace word m_ (below (f.Attribute tag name ∷ fs)) _ _ ends
    (λ e_. record { marks_are = ap closed (e_.open_is refl); last_is = inr (refl, refl, refl) })
    (ends.wanted_is (tag.depth + 1 + 1) (below-length (f.Attribute tag name ∷ fs) (part pl d) z ∙ z.0.depth_is))
close_told (f.Child v) fs pl d z x m_ word ends there = ended_sign p.CloseBrace word m_ (below (f.Child v ∷ fs)) _ _ ends
    (λ e_. record { marks_are = ap closed (e_.open_is refl); last_is = inr (refl, refl, refl) })
    (ends.wanted_is (v.depth + 1 + 1) (below-length (f.Child v ∷ fs) (part pl d) z ∙ z.0.depth_is))
close_told (f.Operand q) fs pl d z x m_ word ends there = absurd z
close_told (f.Kid v) fs pl d z x m_ word ends there = absurd z

finish_told : (fs : List Frame) (pl : Bool) (d : ℕ) → Stacked fs (part pl d) → (x : Part) (m_ : Marks) (word : Word)
    → Ends m_ word (below fs) → Told false m_ word (finish x fs word)
finish_told [] pl d z x m_ word ends = absurd z
finish_told (f.No c one ∷ fs) pl d z x m_ word ends =
    finish_told fs c.place c.depth z.1 (choose_part c.test one x) m_ word (record { open_is = ends.open_is; wanted_is = ends.wanted_is })
finish_told (f.Use draft name ∷ fs) pl d z x m_ word ends = close_told (f.Use draft name) fs pl d z x m_ word ends tt
finish_told (f.Bind draft name ∷ fs) pl d z x m_ word ends = close_told (f.Bind draft name) fs pl d z x m_ word ends tt
finish_told (f.If draft ∷ fs) pl d z x m_ word ends = close_told (f.If draft) fs pl d z x m_ word ends tt
finish_told (f.Throw draft test ∷ fs) pl d z x m_ word ends = close_told (f.Throw draft test) fs pl d z x m_ word ends tt
finish_told (f.Return draft ∷ fs) pl d z x m_ word ends = close_told (f.Return draft) fs pl d z x m_ word ends tt
finish_told (f.Parens q ∷ fs) pl d z x m_ word ends = close_told (f.Parens q) fs pl d z x m_ word ends tt
finish_told (f.Yes c ∷ fs) pl d z x m_ word ends = close_told (f.Yes c) fs pl d z x m_ word ends tt
finish_told (f.Item q items ∷ fs) pl d z x m_ word ends = close_told (f.Item q items) fs pl d z x m_ word ends tt
finish_told (f.MapBody v item number_ ∷ fs) pl d z x m_ word ends = close_told (f.MapBody v item number_) fs pl d z x m_ word ends tt
finish_told (f.Attribute tag name ∷ fs) pl d z x m_ word ends = close_told (f.Attribute tag name) fs pl d z x m_ word ends tt
finish_told (f.Child v ∷ fs) pl d z x m_ word ends = close_told (f.Child v) fs pl d z x m_ word ends tt
finish_told (f.Operand q ∷ fs) pl d z x m_ word ends = absurd z
finish_told (f.Kid v ∷ fs) pl d z x m_ word ends = absurd z

-- Where an operand has ended.

no_children : (x y : Bool) → x ≡ false → x && y ≡ false
no_children true y h = absurd (true_false h)
no_children false y h = refl

refused_ended : (q : Pending) (fs : List Frame) → Stacked fs (part q.place q.depth) → (word : Word) (k : ℕ)
    → length (after_operand_at word (nots_on q.nots (below fs))) ≡ k → refusal k word ≡ wanted_of false (ended (nots_on q.nots (below fs))) word
refused_ended q fs z word k len = refused_as false (ended (nots_on q.nots (below fs))) word k len refl refl
    (no_children (among_children (nots_on q.nots (below fs))) (is_child_text word || is_sign p.Less word) (nots-children q.nots (below fs) (below-children fs q.place q.depth z)))

ends_at : (q : Pending) (fs : List Frame) → Stacked fs (part q.place q.depth) → (word : Word)
    → after_operand_at word (nots_on q.nots (below fs)) ≡ after_expression (nots_on q.nots (below fs)) → Ends (ended (nots_on q.nots (below fs))) word (below fs)
ends_at q fs z word same = record {
  open_is = λ there. same ∙ nots-expression q.nots (below fs);
  wanted_is = λ k len. refused_ended q fs z word k (ap (λ (xs : List Mark). length xs) (same ∙ nots-expression q.nots (below fs)) ∙ len);
}

-- where an expression goes on, nothing but the operand ends
goes_on : (q : Pending) (fs : List Frame) → Stacked fs (part q.place q.depth) → after_operand (nots_on q.nots (below fs)) ≡ below fs
goes_on q fs z = nots-operand q.nots (below fs) ∙ below-operand fs q.place q.depth z

on-length : (q : Pending) (fs : List Frame) → Stacked fs (part q.place q.depth) → length (after_operand (nots_on q.nots (below fs))) ≡ q.depth
on-length q fs z = ap (λ (xs : List Mark). length xs) (goes_on q fs z) ∙ below-length fs (part q.place q.depth) z

equal_told : (q : Pending) (fs : List Frame) → Stacked fs (part q.place q.depth) → (o_ : Option Left) (next : Pending) → next.nots ≡ 0 → (negated : Bool)
    → Told false (ended (nots_on q.nots (below fs))) (w.Sign (equal_sign negated)) (steps.step_equal o_ next fs)
equal_told q fs z None next no_nots false = record { marks_are = goes_on q fs z ∙ ap (λ (k : ℕ). nots_on k (below fs)) (sym no_nots); last_is = inl refl }
equal_told q fs z None next no_nots true = record { marks_are = goes_on q fs z ∙ ap (λ (k : ℕ). nots_on k (below fs)) (sym no_nots); last_is = inl refl }
equal_told q fs z (Some left) next no_nots false = refused_ended q fs z (w.Sign p.StrictEqual) q.depth (on-length q fs z)
equal_told q fs z (Some left) next no_nots true = refused_ended q fs z (w.Sign p.StrictNotEqual) q.depth (on-length q fs z)

question_told : (q : Pending) (d : Dotted) (fs : List Frame) → Stacked fs (part q.place q.depth)
    → Told false (ended (nots_on q.nots (below fs))) (w.Sign p.Question) (steps.step_question q d fs)
question_told q d fs z = if_both (has_room q.depth) _ _ (Told false (ended (nots_on q.nots (below fs))) (w.Sign p.Question))
    (λ room. record { marks_are = ap (λ (xs : List Mark). in_yes ∷ xs) (goes_on q fs z); last_is = inl refl })
    (λ full. deep_is q.depth (after_operand (nots_on q.nots (below fs))) _ (on-length q fs z) full)

-- after a value that isn't the list of a map
value_told : (q : Pending) (d : Dotted) (fs : List Frame) → Stacked fs (part q.place q.depth) → (word : Word) → is_sign p.OpenParen word ≡ false
    → Told false (ended (nots_on q.nots (below fs))) word (step_value q d fs word)
value_told q d fs z (w.Sign p.Dot) other = record { marks_are = refl; last_is = refl }
value_told q d fs z (w.Sign p.Plus) other = record { marks_are = goes_on q fs z; last_is = inl refl }
value_told q d fs z (w.Sign p.StrictEqual) other = equal_told q fs z q.left (steps.after_equal q d false) refl false
value_told q d fs z (w.Sign p.StrictNotEqual) other = equal_told q fs z q.left (steps.after_equal q d true) refl true
value_told q d fs z (w.Sign p.AndAnd) other = record { marks_are = goes_on q fs z; last_is = inl refl }
value_told q d fs z (w.Sign p.OrOr) other = record { marks_are = goes_on q fs z; last_is = inl refl }
value_told q d fs z (w.Sign p.Question) other = question_told q d fs z
value_told q d fs z (w.Sign p.OpenParen) other = absurd (true_false other)
value_told q d fs z (w.Sign sign) other = finish_told fs q.place q.depth z (Value (value_of q d)) (ended (nots_on q.nots (below fs))) (w.Sign sign) (ends_at q fs z (w.Sign sign) refl)
value_told q d fs z (w.Name text place) other = finish_told fs q.place q.depth z (Value (value_of q d)) (ended (nots_on q.nots (below fs))) (w.Name text place) (ends_at q fs z (w.Name text place) refl)
value_told q d fs z (w.Number v) other = finish_told fs q.place q.depth z (Value (value_of q d)) (ended (nots_on q.nots (below fs))) (w.Number v) (ends_at q fs z (w.Number v) refl)
value_told q d fs z (w.Text v) other = finish_told fs q.place q.depth z (Value (value_of q d)) (ended (nots_on q.nots (below fs))) (w.Text v) (ends_at q fs z (w.Text v) refl)
value_told q d fs z (w.JsxText v) other = finish_told fs q.place q.depth z (Value (value_of q d)) (ended (nots_on q.nots (below fs))) (w.JsxText v) (ends_at q fs z (w.JsxText v) refl)

-- the same after `.map`
mapped_told : (ms : List Mark) (word : Word) (moved : Moved) → is_sign p.OpenParen word ≡ false → Told false (ended ms) word moved
    → Told false (record { marks = ms; last = dot_map }) word moved
mapped_told ms (w.Sign p.OpenParen) moved other k = absurd (true_false other)
mapped_told ms (w.Sign sign) (Ok next) other k = record { marks_are = k.marks_are; last_is = k.last_is }
mapped_told ms (w.Sign sign) (Err v) other k = k
mapped_told ms (w.Name text place) (Ok next) other k = record { marks_are = k.marks_are; last_is = k.last_is }
mapped_told ms (w.Name text place) (Err v) other k = k
mapped_told ms (w.Number x) (Ok next) other k = record { marks_are = k.marks_are; last_is = k.last_is }
mapped_told ms (w.Number x) (Err v) other k = k
mapped_told ms (w.Text x) (Ok next) other k = record { marks_are = k.marks_are; last_is = k.last_is }
mapped_told ms (w.Text x) (Err v) other k = k
mapped_told ms (w.JsxText x) (Ok next) other k = record { marks_are = k.marks_are; last_is = k.last_is }
mapped_told ms (w.JsxText x) (Err v) other k = k

allows-nots : (q : Pending) → allows_node q ≡ true → q.nots ≡ 0
allows-nots q allows = let alone = nesting-allows q allows in omega arith

-- the `(` after `.map`
call_told : (q : Pending) (list : Expr) (fs : List Frame) → Stacked fs (part q.place q.depth)
    → Told false (record { marks = nots_on q.nots (below fs); last = dot_map }) (w.Sign p.OpenParen) (steps.step_call q list fs)
call_told q list fs z = if_both (has_room q.depth) _ _ (Told false (record { marks = nots_on q.nots (below fs); last = dot_map }) (w.Sign p.OpenParen))
    (λ room. if_true (allows_node q && has_room (q.depth + 1)) _ _ (Told false (record { marks = nots_on q.nots (below fs); last = dot_map }) (w.Sign p.OpenParen))
    (λ both_ok. record {
      marks_are = ap (λ (xs : List Mark). in_parens ∷ xs) (goes_on q fs z ∙ ap (λ (k : ℕ). nots_on k (below fs)) (sym (allows-nots q (both_is (allows_node q) (has_room (q.depth + 1)) both_ok).0)));
      last_is = inl refl;
    })
    (shallow_is q.depth (after_operand (nots_on q.nots (below fs))) wanted.Value (on-length q fs z) room))
    (λ full. deep_is q.depth (after_operand (nots_on q.nots (below fs))) _ (on-length q fs z) full)

open_told : (q : Pending) (d : Dotted) (fs : List Frame) → Stacked fs (part q.place q.depth) → (o_ : Option (List (List ℕ)))
    → Told false (record { marks = nots_on q.nots (below fs); last = value_last o_ }) (w.Sign p.OpenParen) (steps.step_open q d o_ fs (w.Sign p.OpenParen))
open_told q d fs z None = finish_told fs q.place q.depth z (Value (value_of q d)) (ended (nots_on q.nots (below fs))) (w.Sign p.OpenParen) (ends_at q fs z (w.Sign p.OpenParen) refl)
open_told q d fs z (Some names) = call_told q (members_of d.of names) fs z

last_told : (ms : List Mark) (o_ : Option (List (List ℕ))) (word : Word) (moved : Moved) → is_sign p.OpenParen word ≡ false → Told false (ended ms) word moved
    → Told false (record { marks = ms; last = value_last o_ }) word moved
last_told ms None word moved other k = k
last_told ms (Some names) word moved other k = mapped_told ms word moved other k

after_value : (q : Pending) (d : Dotted) (fs : List Frame) → Stacked fs (part q.place q.depth) → (word : Word)
    → Told false (record { marks = nots_on q.nots (below fs); last = value_last (names_before_map d.names) }) word (step_value q d fs word)
after_value q d fs z (w.Sign p.OpenParen) = open_told q d fs z (names_before_map d.names)
after_value q d fs z (w.Sign sign) = last_told (nots_on q.nots (below fs)) (names_before_map d.names) (w.Sign sign) (step_value q d fs (w.Sign sign)) refl (value_told q d fs z (w.Sign sign) refl)
after_value q d fs z (w.Name text place) = last_told (nots_on q.nots (below fs)) (names_before_map d.names) (w.Name text place) (step_value q d fs (w.Name text place)) refl (value_told q d fs z (w.Name text place) refl)
after_value q d fs z (w.Number v) = last_told (nots_on q.nots (below fs)) (names_before_map d.names) (w.Number v) (step_value q d fs (w.Number v)) refl (value_told q d fs z (w.Number v) refl)
after_value q d fs z (w.Text v) = last_told (nots_on q.nots (below fs)) (names_before_map d.names) (w.Text v) (step_value q d fs (w.Text v)) refl (value_told q d fs z (w.Text v) refl)
after_value q d fs z (w.JsxText v) = last_told (nots_on q.nots (below fs)) (names_before_map d.names) (w.JsxText v) (step_value q d fs (w.JsxText v)) refl (value_told q d fs z (w.JsxText v) refl)

-- a node is open in less than the limit
element_room : (c : Syntax g.element) (d : ℕ) → Fits g.element c d → HasRoom d
element_room (g.closed name c) d fits = fits.0
element_room (g.paired name c u place) d fits = fits.0
element_room (g.fragment c) d fits = fits.0

node_room : (c : Syntax g.node_primary) (d : ℕ) → Fits g.node_primary c d → HasRoom d
node_room (g.node_parens c) d fits = fits.0
node_room (g.element_node c) d fits = element_room c d fits
node_room g.empty_array d fits = fits
node_room (g.array c comma) d fits = fits.0
node_room (g.map_node c place item number_ u) d fits = room_before d fits.1

expression-length : (ms : List Mark) → length (after_expression ms) ≤ length ms
expression-length [] = omega arith
expression-length (in_not ∷ ms) = let ih = expression-length ms in omega arith
expression-length (in_no ∷ ms) = let ih = expression-length ms in omega arith
expression-length (mark ∷ ms) = omega arith

room-less : (k d : ℕ) → k ≤ d → HasRoom d → HasRoom k
room-less k d le room = grind (arith, nat_tests)

room-token : (k : ℕ) → HasRoom k → refusal k (w.Sign p.Question) ≡ wanted.Token
room-token k room = sym (token_is k (w.Sign p.Question) room)

-- a word that goes on with a value ends no node
never_ends : (q : Pending) (node : Node) (fs : List Frame) → Stacked fs (part q.place q.depth) → (word : Word) → ends_part word ≡ false
    → ((k : ℕ) → k ≤ q.depth → refusal k word ≡ wanted.Token) → length (after_operand_at word (nots_on q.nots (below fs))) ≤ q.depth
    → Told false (ended (nots_on q.nots (below fs))) word (finish (node_part q (Other node)) fs word)
never_ends q node fs z word none_ token small = finish_told fs q.place q.depth z (node_part q (Other node)) (ended (nots_on q.nots (below fs))) word (record {
  open_is = λ there. absurd (true_false (sym there ∙ none_));
  wanted_is = λ k len.
      let shorter = expression-length (below fs) in
      let all = below-length fs (part q.place q.depth) z in
      token k (omega arith)
      ∙ sym (token (length (after_operand_at word (nots_on q.nots (below fs)))) small)
      ∙ refused_ended q fs z word (length (after_operand_at word (nots_on q.nots (below fs)))) refl;
})

on-small : (q : Pending) (fs : List Frame) → Stacked fs (part q.place q.depth) → length (after_operand (nots_on q.nots (below fs))) ≤ q.depth
on-small q fs z = let len = on-length q fs z in omega arith

-- after a node
after_node : (q : Pending) (node : Node) (fs : List Frame) → Stacked fs (part q.place q.depth) → allows_node q ≡ true → HasRoom q.depth → (word : Word)
    → Told false (ended (nots_on q.nots (below fs))) word (finish (node_part q (Other node)) fs word)
after_node q node fs z allows room (w.Sign p.Question) = never_ends q node fs z (w.Sign p.Question) refl (λ k le. room-token k (room-less k q.depth le room)) (on-small q fs z)
after_node q node fs z allows room (w.Sign p.Dot) = never_ends q node fs z (w.Sign p.Dot) refl (λ k le. refl) (let len = below-nesting q fs z in let alone = nesting-allows q allows in omega arith)
after_node q node fs z allows room (w.Sign p.Plus) = never_ends q node fs z (w.Sign p.Plus) refl (λ k le. refl) (on-small q fs z)
after_node q node fs z allows room (w.Sign p.StrictEqual) = never_ends q node fs z (w.Sign p.StrictEqual) refl (λ k le. refl) (on-small q fs z)
after_node q node fs z allows room (w.Sign p.StrictNotEqual) = never_ends q node fs z (w.Sign p.StrictNotEqual) refl (λ k le. refl) (on-small q fs z)
after_node q node fs z allows room (w.Sign p.AndAnd) = never_ends q node fs z (w.Sign p.AndAnd) refl (λ k le. refl) (on-small q fs z)
after_node q node fs z allows room (w.Sign p.OrOr) = never_ends q node fs z (w.Sign p.OrOr) refl (λ k le. refl) (on-small q fs z)
after_node q node fs z allows room (w.Sign sign) = finish_told fs q.place q.depth z (node_part q (Other node)) (ended (nots_on q.nots (below fs))) (w.Sign sign) (ends_at q fs z (w.Sign sign) refl)
after_node q node fs z allows room (w.Name text place) = finish_told fs q.place q.depth z (node_part q (Other node)) (ended (nots_on q.nots (below fs))) (w.Name text place) (ends_at q fs z (w.Name text place) refl)
after_node q node fs z allows room (w.Number v) = finish_told fs q.place q.depth z (node_part q (Other node)) (ended (nots_on q.nots (below fs))) (w.Number v) (ends_at q fs z (w.Number v) refl)
after_node q node fs z allows room (w.Text v) = finish_told fs q.place q.depth z (node_part q (Other node)) (ended (nots_on q.nots (below fs))) (w.Text v) (ends_at q fs z (w.Text v) refl)
after_node q node fs z allows room (w.JsxText v) = finish_told fs q.place q.depth z (node_part q (Other node)) (ended (nots_on q.nots (below fs))) (w.JsxText v) (ends_at q fs z (w.JsxText v) refl)

told_inside : (x : Inside) (fs : List Frame) (z : At (position.Inside x) fs) (last : Last) → LastIn (position.Inside x) (marks_in (position.Inside x) fs) last → (word : Word)
    → Told (value_may (position.Inside x)) (record { marks = marks_in (position.Inside x) fs; last = last }) word (steps.step_inside x fs word)
told_inside (i.Operand q) fs z last is word = quiet-told true (nots_on q.nots (below fs)) last word (step_operand q fs word) is (told_operand q fs z.below word)
told_inside (i.Value q d) fs z last is word =
    subst (λ (l : Last). Told false (record { marks = nots_on q.nots (below fs); last = l }) word (step_value q d fs word)) (sym is) (after_value q d fs z.below word)
told_inside (i.Node q node) fs z last is word =
    subst (λ (l : Last). Told false (record { marks = nots_on q.nots (below fs); last = l }) word (finish (node_part q (Other node)) fs word)) (sym is) (after_node q node fs z.below z.here.allows (node_room z.here.read.syntax q.depth z.here.read.fits) word)
told_inside (i.Dot q d) fs z last is word =
    subst (λ (l : Last). Told false (record { marks = nots_on q.nots (below fs); last = l }) word (steps.step_dot q d fs word)) (sym is)
    (on_any_name (nesting q) word false (record { marks = nots_on q.nots (below fs); last = dot }) _
    (λ name. record { marks_are = refl; last_is = dot_last d name })
    (refused_as false (record { marks = nots_on q.nots (below fs); last = dot }) word (nesting q) (below-nesting q fs z.below) refl refl
    (no_children (among_children (nots_on q.nots (below fs))) (is_child_text word || is_sign p.Less word) (nots-children q.nots (below fs) (below-children fs q.place q.depth z.below)))))
  where
    dot_last : (d : Dotted) (name : Name) → last_name dot name.text ≡ value_last (names_before_map (steps.with_name d name).names)
    dot_last d name = by_map (bytes_eq name.text (codes "map")) (names_before_map (d.names ++ name.text ∷ [])) (names_snoc d.names name.text)
      where
        by_map : (b_ : Bool) (o_ : Option (List (List ℕ))) → o_ ≡ (if b_ then Some d.names else None) → (if b_ then dot_map else operand) ≡ value_last o_
        by_map true o_ h = ap value_last (sym h)
        by_map false o_ h = ap value_last (sym h)
told_inside (i.ArrayStart q) fs z last is word = quiet-told true (in_brackets ∷ nots_on q.nots (below fs)) last word _ is
    (on_sign p.CloseBracket word true (plain (in_brackets ∷ nots_on q.nots (below fs))) _ _ (record { marks_are = refl; last_is = refl })
    (told_operand (fresh true (q.depth + 1)) (f.Item q [] ∷ fs) (record { before = z.here.before; allows = z.here.allows; room = z.here.room; listed = inl refl; depth_is = refl }, z.below) word))
told_inside (i.ArrayNext q items) fs z last is word = quiet-told true (in_brackets ∷ nots_on q.nots (below fs)) last word _ is
    (on_sign p.CloseBracket word true (plain (in_brackets ∷ nots_on q.nots (below fs))) _ _ (record { marks_are = refl; last_is = refl })
    (told_operand (fresh true (q.depth + 1)) (f.Item q items ∷ fs) (record { before = z.here.0.before; allows = z.here.0.allows; room = z.here.0.room; listed = inr z.here.1; depth_is = refl }, z.below) word))

-- Between `list.map` and the body of a map.

mapped-length : (x : Mapping) (fs : List Frame) → Stacked fs (part x.pending.place x.pending.depth) → allows_node x.pending ≡ true
    → length (nots_on x.pending.nots (below fs)) ≡ x.pending.depth
mapped-length x fs z allows = below-nesting x.pending fs z ∙ nesting-allows x.pending allows

map_refused : (x : Mapping) (fs : List Frame) → Stacked fs (part x.pending.place x.pending.depth) → allows_node x.pending ≡ true → (word : Word)
    → refusal (x.pending.depth + 1) word ≡ wanted_of false (plain (in_parens ∷ nots_on x.pending.nots (below fs))) word
map_refused x fs z allows word =
    let len = mapped-length x fs z allows in
    refused_as false (plain (in_parens ∷ nots_on x.pending.nots (below fs))) word (x.pending.depth + 1) (omega arith) refl refl refl

map_refused_twice : (x : Mapping) (fs : List Frame) → Stacked fs (part x.pending.place x.pending.depth) → allows_node x.pending ≡ true → (word : Word)
    → refusal (x.pending.depth + 1 + 1) word ≡ wanted_of false (plain (in_parens ∷ in_parens ∷ nots_on x.pending.nots (below fs))) word
map_refused_twice x fs z allows word =
    let len = mapped-length x fs z allows in
    refused_as false (plain (in_parens ∷ in_parens ∷ nots_on x.pending.nots (below fs))) word (x.pending.depth + 1 + 1) (omega arith) refl refl refl

told_in_map : (x : InMap) (fs : List Frame) (z : At (position.InMap x) fs) (word : Word)
    → Told false (plain (marks_in (position.InMap x) fs)) word (steps.step_in_map x fs word)
told_in_map (m.Open x) fs z word = on_sign p.OpenParen word false (plain (marks_in (position.InMap (m.Open x)) fs)) _ _
    (record { marks_are = refl; last_is = inl refl }) (map_refused x fs z.below z.here.allows word)
told_in_map (m.Item x) fs z word = on_code_name (x.pending.depth + 1 + 1) word false (plain (marks_in (position.InMap (m.Item x)) fs)) _
    (λ name. record { marks_are = refl; last_is = inr (refl, refl, refl) }) (map_refused_twice x fs z.below z.here.allows word)
told_in_map (m.ItemEnd x item) fs z word = on_sign p.Comma word false (plain (marks_in (position.InMap (m.ItemEnd x item)) fs)) _ _
    (record { marks_are = refl; last_is = inl refl })
    (on_sign p.CloseParen word false (plain (marks_in (position.InMap (m.ItemEnd x item)) fs)) _ _
    (record { marks_are = refl; last_is = inr (refl, refl, refl) }) (map_refused_twice x fs z.below z.here.0.allows word))
told_in_map (m.Number x item) fs z word = on_code_name (x.pending.depth + 1 + 1) word false (plain (marks_in (position.InMap (m.Number x item)) fs)) _
    (λ name. record { marks_are = refl; last_is = inr (refl, refl, refl) }) (map_refused_twice x fs z.below z.here.0.allows word)
told_in_map (m.NumberEnd x item number_) fs z word = on_sign p.CloseParen word false (plain (marks_in (position.InMap (m.NumberEnd x item number_)) fs)) _ _
    (record { marks_are = refl; last_is = inr (refl, refl, refl) }) (map_refused_twice x fs z.below z.here.0.allows word)
told_in_map (m.Arrow x item number_) fs z word = on_sign p.Arrow word false (plain (marks_in (position.InMap (m.Arrow x item number_)) fs)) _ _
    (record { marks_are = refl; last_is = inl refl }) (map_refused x fs z.below z.here.0.allows word)

-- Between the expressions of a component's body.

in_body : (k : ℕ) (word : Word) → k ≡ 1 → refusal k word ≡ wanted_of false (plain (in_braces ∷ [])) word
in_body k word is = refused_as false (plain (in_braces ∷ [])) word k (sym is) refl refl refl

told_within : (x : Within) (fs : List Frame) (z : At (position.Within x) fs) (word : Word)
    → Told (value_may (position.Within x)) (plain (marks_in (position.Within x) fs)) word (steps.step_within x fs word)
told_within (b.Start draft) [] z word =
    on_word (codes "const") word false (plain (in_braces ∷ [])) _ _ (λ place. record { marks_are = refl; last_is = inr (refl, refl, refl) })
    (on_word (codes "if") word false (plain (in_braces ∷ [])) _ _ (λ place. record { marks_are = refl; last_is = inr (refl, refl, refl) })
    (on_word (codes "return") word false (plain (in_braces ∷ [])) _ _ (λ place. record { marks_are = refl; last_is = inr (refl, refl, refl) })
    (token_is 1 word room-1 ∙ in_body 1 word refl)))
told_within (b.ConstName draft) [] z word = on_code_name 1 word false (plain (in_braces ∷ [])) _
    (λ name. record { marks_are = refl; last_is = inr (refl, refl, refl) }) (in_body 1 word refl)
told_within (b.ConstEquals draft name) [] z word = on_sign p.Assign word false (plain (in_braces ∷ [])) _ _
    (record { marks_are = refl; last_is = inl refl }) (in_body 1 word refl)
told_within (b.ConstValue draft name) [] z word = on_word (codes "use") word true (plain (in_braces ∷ [])) _ _
    (λ place. record { marks_are = refl; last_is = inr (refl, refl, refl) })
    (told_operand (fresh false 1) (f.Bind draft name ∷ [])
    (record { body = z.here.0; place = z.here.1; named = z.here.2; place_is = refl; depth_is = refl }, z.below) word)
told_within (b.UseOpen draft name) [] z word = on_sign p.OpenParen word false (plain (in_braces ∷ [])) _ _
    (record { marks_are = refl; last_is = inl refl }) (in_body 1 word refl)
told_within (b.End draft) [] z word = on_sign p.Semicolon word false (plain (in_braces ∷ [])) _ _
    (record { marks_are = refl; last_is = inl refl }) (in_body 1 word refl)
told_within (b.IfOpen draft) [] z word = on_sign p.OpenParen word false (plain (in_braces ∷ [])) _ _
    (record { marks_are = refl; last_is = inl refl }) (in_body 1 word refl)
told_within (b.ThrowWord draft test) [] z word = on_word (codes "throw") word false (plain (in_braces ∷ [])) _ _
    (λ place. record { marks_are = refl; last_is = inr (refl, refl, refl) }) (token_is 1 word room-1 ∙ in_body 1 word refl)
told_within x (frame ∷ fs) z word = absurd (no_file frame fs z.below)

-- Within an element.

-- after a whole element
deliver_told : (node : Node) (fs : List Frame) (d : ℕ) → Stacked fs (elem d) → (may : Bool) (m_ : Marks) (word : Word)
    → after_word word (open_at m_.last word m_.marks) ≡ below fs → last_word m_.last word (open_at m_.last word m_.marks) ≡ operand
    → Told may m_ word (steps.deliver node fs)
deliver_told node (f.Operand q ∷ fs) d z may m_ word same last_is = record { marks_are = same; last_is = last_is }
deliver_told node (f.Kid x ∷ fs) d z may m_ word same last_is =
    record { marks_are = ap (λ (xs : List Mark). xs) same; last_is = inr (last_is, refl, refl) }
deliver_told node [] d z may m_ word same last_is = absurd z
deliver_told node (_ ∷ fs) d z may m_ word same last_is = absurd z

tag_refused : (fs : List Frame) (d : ℕ) → Stacked fs (elem d) → (word : Word) → refusal (d + 1) word ≡ wanted_of false (plain (in_tag ∷ below fs)) word
tag_refused fs d z word =
    let len = below-length fs (elem d) z in
    refused_as false (plain (in_tag ∷ below fs)) word (d + 1) (omega arith) refl refl refl

attributes_told : (tag : Tag) (fs : List Frame) → Stacked fs (elem tag.depth) → (word : Word)
    → Told false (plain (in_tag ∷ below fs)) word (steps.step_attributes tag fs word)
attributes_told tag fs z word =
    on_sign p.SlashGreater word false (plain (in_tag ∷ below fs)) _ _
    (deliver_told (element_of tag.name tag.props []) fs tag.depth z false (plain (in_tag ∷ below fs)) (w.Sign p.SlashGreater) refl refl)
    (on_sign p.Greater word false (plain (in_tag ∷ below fs)) _ _ (record { marks_are = refl; last_is = inr (refl, refl, refl) })
    (on_any_name (tag.depth + 1) word false (plain (in_tag ∷ below fs)) _ (λ name. record { marks_are = refl; last_is = inr (refl, refl, refl) })
    (tag_refused fs tag.depth z word)))

attribute_told : (tag : Tag) (name : Name) (fs : List Frame) → Stacked fs (elem tag.depth) → (word : Word)
    → Told false (plain (in_tag ∷ below fs)) word (steps.step_attribute_value tag name fs word)
attribute_told tag name fs z (w.Text x) = record { marks_are = refl; last_is = inr (refl, refl, refl) }
attribute_told tag name fs z (w.Sign p.OpenBrace) = if_true (has_room (tag.depth + 1)) _ _ (Told false (plain (in_tag ∷ below fs)) (w.Sign p.OpenBrace))
    (λ room. record { marks_are = refl; last_is = inl refl }) (tag_refused fs tag.depth z (w.Sign p.OpenBrace))
attribute_told tag name fs z (w.Sign sign) = tag_refused fs tag.depth z (w.Sign sign)
attribute_told tag name fs z (w.Name text place) = tag_refused fs tag.depth z (w.Name text place)
attribute_told tag name fs z (w.Number v) = tag_refused fs tag.depth z (w.Number v)
attribute_told tag name fs z (w.JsxText v) = tag_refused fs tag.depth z (w.JsxText v)

children-length : (x : Opened) (fs : List Frame) → Stacked fs (elem x.depth) → length (in_children ∷ below fs) ≡ x.depth + 1
children-length x fs z = let len = below-length fs (elem x.depth) z in omega arith

children_told : (x : Opened) (fs : List Frame) → Stacked fs (elem x.depth) → (word : Word)
    → Told false (plain (in_children ∷ below fs)) word (steps.step_children x fs word)
children_told x fs z (w.JsxText []) = record { marks_are = refl; last_is = inr (refl, refl, refl) }
children_told x fs z (w.JsxText (c ∷ cs)) = if_true (holds_children x.name) _ _ (Told false (plain (in_children ∷ below fs)) (w.JsxText (c ∷ cs)))
    (λ holds. record { marks_are = refl; last_is = inr (refl, refl, refl) }) refl
children_told x fs z (w.Sign p.LessSlash) = record { marks_are = refl; last_is = refl }
children_told x fs z (w.Sign p.OpenBrace) = if_true (has_room (x.depth + 1)) _ _ (Told false (plain (in_children ∷ below fs)) (w.Sign p.OpenBrace))
    (λ room. record { marks_are = refl; last_is = refl })
    (refused_as false (plain (in_children ∷ below fs)) (w.Sign p.OpenBrace) (x.depth + 1) (children-length x fs z) refl refl refl)
children_told x fs z (w.Sign p.Less) = if_both (has_room (x.depth + 1)) _ _ (Told false (plain (in_children ∷ below fs)) (w.Sign p.Less))
    (λ room. if_true (holds_children x.name) _ _ (Told false (plain (in_children ∷ below fs)) (w.Sign p.Less))
    (λ holds. record { marks_are = refl; last_is = inl refl })
    (shallow_is (x.depth + 1) (in_children ∷ below fs) wanted.NoChildren (children-length x fs z) room))
    (λ full. ap (λ (r : Bool). if not r then wanted.Shallower else wanted.Token) full ∙ deep_is (x.depth + 1) (in_children ∷ below fs) _ (children-length x fs z) full)
children_told x fs z (w.Sign sign) = refused_as false (plain (in_children ∷ below fs)) (w.Sign sign) (x.depth + 1) (children-length x fs z) refl refl refl
children_told x fs z (w.Name text place) = refused_as false (plain (in_children ∷ below fs)) (w.Name text place) (x.depth + 1) (children-length x fs z) refl refl refl
children_told x fs z (w.Number v) = refused_as false (plain (in_children ∷ below fs)) (w.Number v) (x.depth + 1) (children-length x fs z) refl refl refl
children_told x fs z (w.Text v) = refused_as false (plain (in_children ∷ below fs)) (w.Text v) (x.depth + 1) (children-length x fs z) refl refl refl

-- In braces among children.

abbrev deep : ℕ → Word → Bool
deep k word = opens word && not (has_room k)

-- what begins a node is read unless it is too deep, and nothing else is
abbrev Begins : ℕ → Word → Moved → Type 0
Begins k word (Ok next) = (begins_node word ≡ true) × (deep k word ≡ false)
Begins k word (Err v) = (v ≡ refusal k word) × ((begins_node word ≡ true) → deep k word ≡ true)

not-true : (x : Bool) → x ≡ true → not x ≡ false
not-true true h = refl
not-true false h = absurd (true_false (sym h))

not-false : (x : Bool) → x ≡ false → not x ≡ true
not-false true h = absurd (true_false h)
not-false false h = refl

by_room : (k : ℕ) (sign : Punctuator) (next : State) → is_opening sign ≡ true → begins_node (w.Sign sign) ≡ true
    → Begins k (w.Sign sign) (if has_room k then Ok next else Err wanted.Shallower)
by_room k sign next opening begins = if_both (has_room k) (Ok next) (Err wanted.Shallower) (Begins k (w.Sign sign))
    (λ room. (begins, both_false (is_opening sign) (not (has_room k)) (not-true (has_room k) room)))
    (λ full. (ap (λ (r : Bool). if r then wanted.Shallower else wanted.Token) (sym (too_deep full)), λ is. too_deep full))
  where
    both_false : (x y : Bool) → y ≡ false → x && y ≡ false
    both_false true y h = h
    both_false false y h = refl

    both_true : (x y : Bool) → x ≡ true → y ≡ true → x && y ≡ true
    both_true true y h e_ = e_
    both_true false y h e_ = absurd (true_false (sym h))

    too_deep : has_room k ≡ false → is_opening sign && not (has_room k) ≡ true
    too_deep full = both_true (is_opening sign) (not (has_room k)) opening (not-false (has_room k) full)

abbrev BeginsName : Bool → Moved → Type 0
BeginsName b_ (Ok next) = b_ ≡ true
BeginsName b_ (Err v) = (v ≡ wanted.Token) × (b_ ≡ false)

begins_told : (k : ℕ) (fs : List Frame) (word : Word) → Begins (nesting (fresh true k)) word (step_operand (fresh true k) fs word)
begins_told k fs (w.Number v) = (refl, refl)
begins_told k fs (w.Text v) = (refl, refl)
begins_told k fs (w.JsxText v) = (refl, λ is. absurd (true_false (sym is)))
begins_told k fs (w.Sign p.OpenParen) = by_room (nesting (fresh true k)) p.OpenParen _ refl refl
begins_told k fs (w.Sign p.Not) = by_room (nesting (fresh true k)) p.Not _ refl refl
begins_told k fs (w.Sign p.OpenBracket) = by_room (nesting (fresh true k)) p.OpenBracket _ refl refl
begins_told k fs (w.Sign p.Less) = by_room (nesting (fresh true k)) p.Less _ refl refl
begins_told k fs (w.Sign sign) = (refl, λ is. absurd (true_false (sym is)))
begins_told k fs (w.Name text place) = by_name (is_reserved text) refl
  where
    value_word : (b_ c_ : Bool) (x : Expr) (y : Moved) → BeginsName c_ y → BeginsName (b_ || c_) (if b_ then steps.operand (fresh true k) x fs else y)
    value_word true c_ x y rest = refl
    value_word false c_ x y rest = rest

    values : BeginsName (is_value_word text) (steps.step_reserved (fresh true k) text fs)
    values =
        value_word (bytes_eq text (codes "true")) _ _ _
        (value_word (bytes_eq text (codes "false")) _ _ _
        (value_word (bytes_eq text (codes "null")) _ _ _
        (last_word_ (bytes_eq text (codes "undefined")))))
      where
        last_word_ : (b_ : Bool) → BeginsName b_ (if b_ then steps.operand (fresh true k) e.Null fs else Err wanted.Token)
        last_word_ true = refl
        last_word_ false = (refl, refl)

    begun : (c_ : Bool) (moved : Moved) → begins_node (w.Name text place) ≡ c_ → BeginsName c_ moved → Begins (nesting (fresh true k)) (w.Name text place) moved
    begun c_ (Ok next) is h = (is ∙ h, refl)
    begun c_ (Err v) is h = (h.0, λ yes_. absurd (true_false (sym yes_ ∙ is ∙ h.1)))

    by_name : (b_ : Bool) → is_reserved text ≡ b_ → Begins (nesting (fresh true k)) (w.Name text place)
        (if b_ then steps.step_reserved (fresh true k) text fs else steps.operand (fresh true k) (e.Name (record { text = text; at = place })) fs)
    by_name true h = begun (is_value_word text) (steps.step_reserved (fresh true k) text fs) (ap (λ (b_ : Bool). if b_ then is_value_word text else true) h) values
    by_name false h = begun true (steps.operand (fresh true k) (e.Name (record { text = text; at = place })) fs) (ap (λ (b_ : Bool). if b_ then is_value_word text else true) h) refl

-- what no node begins with begins no element and no array
no_opening : (word : Word) → begins_node word ≡ false → is_sign p.Less word || is_sign p.OpenBracket word ≡ false
no_opening (w.Sign p.Less) h = absurd (true_false h)
no_opening (w.Sign p.OpenBracket) h = absurd (true_false h)
no_opening (w.Sign sign) h = refl
no_opening (w.Name text place) h = refl
no_opening (w.Number v) h = refl
no_opening (w.Text v) h = refl
no_opening (w.JsxText v) h = refl

abbrev in_brace : List Mark → Marks
in_brace ms = record { marks = in_braces ∷ in_children ∷ ms; last = child_brace }

-- what is wanted in braces among children
brace_wanted : (may begins deep_ opening : Bool) → (begins ≡ false → opening ≡ false) → (begins ≡ true → deep_ ≡ true)
    → (if deep_ then wanted.Shallower else wanted.Token)
    ≡ (if deep_ then wanted.Shallower else if may && opening || false then wanted.Value else if false then wanted.CloseName else if begins || false then wanted.NoChildren else wanted.Token)
brace_wanted may begins true opening no_ yes_ = refl
brace_wanted may true false opening no_ yes_ = absurd (true_false (sym (yes_ refl)))
brace_wanted true false false true no_ yes_ = absurd (true_false (no_ refl))
brace_wanted true false false false no_ yes_ = refl
brace_wanted false false false opening no_ yes_ = refl

brace-length : (x : Opened) (fs : List Frame) → Stacked fs (elem x.depth) → length (in_braces ∷ in_children ∷ below fs) ≡ nesting (fresh true (x.depth + 1 + 1))
brace-length x fs z = let len = below-length fs (elem x.depth) z in omega arith

brace_refused : (x : Opened) (fs : List Frame) → Stacked fs (elem x.depth) → (may : Bool) (word : Word)
    → (begins_node word ≡ true → deep (nesting (fresh true (x.depth + 1 + 1))) word ≡ true)
    → refusal (nesting (fresh true (x.depth + 1 + 1))) word ≡ wanted_of may (in_brace (below fs)) word
brace_refused x fs z may word begins =
    let len = brace-length x fs z in
    ap (λ (k : ℕ). if opens word && not (has_room k) then wanted.Shallower else wanted.Token) (sym len)
    ∙ brace_wanted may (begins_node word) (deep (length (in_braces ∷ in_children ∷ below fs)) word) (is_sign p.Less word || is_sign p.OpenBracket word) (no_opening word)
    (λ is. ap (λ (k : ℕ). deep k word) len ∙ begins is)

last_in_brace : (word : Word) (ms : List Mark) → last_word child_brace word ms ≡ last_word none word ms
last_in_brace (w.Sign sign) ms = refl
last_in_brace (w.Name text place) ms = refl
last_in_brace (w.Number v) ms = refl
last_in_brace (w.Text v) ms = refl
last_in_brace (w.JsxText v) ms = refl

-- a node in braces
braced_told : (x : Opened) (fs : List Frame) → Stacked fs (elem x.depth) → (word : Word) (moved : Moved)
    → Begins (nesting (fresh true (x.depth + 1 + 1))) word moved → Told true (plain (in_braces ∷ in_children ∷ below fs)) word moved
    → Told true (in_brace (below fs)) word moved
braced_told x fs z word (Ok next) begins k = record {
  marks_are = k.marks_are;
  last_is = subst (LastIn next.position (marks_in next.position next.stack)) (sym (last_in_brace word (in_braces ∷ in_children ∷ below fs))) k.last_is;
}
braced_told x fs z word (Err v) begins k = begins.0 ∙ brace_refused x fs z true word begins.1

-- a node in the braces of an element that takes no children
no_child_told : (x : Opened) (fs : List Frame) → Stacked fs (elem x.depth) → (word : Word) (moved : Moved)
    → Begins (nesting (fresh true (x.depth + 1 + 1))) word moved → steps.child_refusal moved ≡ wanted_of false (in_brace (below fs)) word
no_child_told x fs z word (Err v) begins = begins.0 ∙ brace_refused x fs z false word begins.1
no_child_told x fs z word (Ok next) begins =
    wanted_child (deep (length (in_braces ∷ in_children ∷ below fs)) word) (begins_node word) (ap (λ (k : ℕ). deep k word) (brace-length x fs z) ∙ begins.1) begins.0
  where
    wanted_child : (d c_ : Bool) → d ≡ false → c_ ≡ true
        → wanted.NoChildren ≡ (if d then wanted.Shallower else if false then wanted.Value else if false then wanted.CloseName else if c_ || false then wanted.NoChildren else wanted.Token)
    wanted_child true c_ h k = absurd (true_false h)
    wanted_child false true h k = refl
    wanted_child false false h k = absurd (true_false (sym k))

braces_told : (x : Opened) (fs : List Frame) (z : At (position.InElement (t.Braces x)) fs) (word : Word)
    → Told (holds_children x.name) (in_brace (below fs)) word (steps.step_braces x fs word)
braces_told x fs z word = on_sign p.CloseBrace word (holds_children x.name) (in_brace (below fs)) _ _
    (record { marks_are = refl; last_is = inr (refl, refl, refl) })
    (by_holds (holds_children x.name) refl)
  where
    by_holds : (b_ : Bool) → holds_children x.name ≡ b_
        → Told b_ (in_brace (below fs)) word (if b_ then steps.open_child x fs word else steps.refused_child (x.depth + 1 + 1) word)
    by_holds true holds = braced_told x fs z.below word _ (begins_told (x.depth + 1 + 1) (f.Child x ∷ fs) word)
        (told_operand (fresh true (x.depth + 1 + 1)) (f.Child x ∷ fs) (record { opened = z.here.0; holds = holds; depth_is = refl; room = z.here.1 }, z.below) word)
    by_holds false holds = no_child_told x fs z.below word _ (begins_told (x.depth + 1 + 1) [] word)

-- After `</`.

abbrev slashed : List Mark → Marks
slashed ms = record { marks = in_end ∷ ms; last = less_slash }

end-length : (x : Opened) (fs : List Frame) → Stacked fs (elem x.depth) → length (in_end ∷ below fs) ≡ x.depth + 1
end-length x fs z = let len = below-length fs (elem x.depth) z in omega arith

close_name_told : (x : Opened) (fs : List Frame) → Stacked fs (elem x.depth) → (word : Word)
    → Told false (slashed (below fs)) word (steps.step_close_name x fs word)
close_name_told x fs z (w.Name text place) = if_true (steps.same_name x.name text) _ _ (Told false (slashed (below fs)) (w.Name text place))
    (λ same. record { marks_are = refl; last_is = inr (refl, refl, refl) }) refl
close_name_told x fs z (w.Sign p.Greater) = if_true (steps.is_fragment x) _ _ (Told false (slashed (below fs)) (w.Sign p.Greater))
    (λ is. deliver_told (element_node x) fs x.depth z false (slashed (below fs)) (w.Sign p.Greater) refl refl)
    (refused_as false (slashed (below fs)) (w.Sign p.Greater) (x.depth + 1) (end-length x fs z) refl refl refl)
close_name_told x fs z (w.Sign sign) = refused_as false (slashed (below fs)) (w.Sign sign) (x.depth + 1) (end-length x fs z) refl refl refl
close_name_told x fs z (w.Number v) = refused_as false (slashed (below fs)) (w.Number v) (x.depth + 1) (end-length x fs z) refl refl refl
close_name_told x fs z (w.Text v) = refused_as false (slashed (below fs)) (w.Text v) (x.depth + 1) (end-length x fs z) refl refl refl
close_name_told x fs z (w.JsxText v) = refused_as false (slashed (below fs)) (w.JsxText v) (x.depth + 1) (end-length x fs z) refl refl refl

told_in_element : (x : InElement) (fs : List Frame) (z : At (position.InElement x) fs) (last : Last) → LastIn (position.InElement x) (marks_in (position.InElement x) fs) last → (word : Word)
    → Told (value_may (position.InElement x)) (record { marks = marks_in (position.InElement x) fs; last = last }) word (steps.step_in_element x fs word)
told_in_element (t.Start d) fs z last is word = quiet-told false (in_tag ∷ below fs) last word _ is
    (on_sign p.Greater word false (plain (in_tag ∷ below fs)) _ _ (record { marks_are = refl; last_is = inr (refl, refl, refl) })
    (on_any_name (d + 1) word false (plain (in_tag ∷ below fs)) _ (λ name. record { marks_are = refl; last_is = inr (refl, refl, refl) })
    (tag_refused fs d z.below word)))
told_in_element (t.Attributes tag) fs z last is word = quiet-told false (in_tag ∷ below fs) last word _ is (attributes_told tag fs z.below word)
told_in_element (t.Equals tag name) fs z last is word = quiet-told false (in_tag ∷ below fs) last word _ is
    (on_sign p.Assign word false (plain (in_tag ∷ below fs)) _ _ (record { marks_are = refl; last_is = inl refl })
    (attributes_told (steps.with_attribute tag name (n.Value (e.Bool true))) fs z.below word))
told_in_element (t.Value tag name) fs z last is word = quiet-told false (in_tag ∷ below fs) last word _ is (attribute_told tag name fs z.below word)
told_in_element (t.Children x) fs z last is word = quiet-told false (in_children ∷ below fs) last word _ is (children_told x fs z.below word)
told_in_element (t.Braces x) fs z last is word =
    subst (λ (l : Last). Told (holds_children x.name) (record { marks = in_braces ∷ in_children ∷ below fs; last = l }) word (steps.step_braces x fs word)) (sym is) (braces_told x fs z word)
told_in_element (t.CloseName x) fs z last is word =
    subst (λ (l : Last). Told false (record { marks = in_end ∷ below fs; last = l }) word (steps.step_close_name x fs word)) (sym is) (close_name_told x fs z.below word)
told_in_element (t.CloseEnd x) fs z last is word = quiet-told false (in_end ∷ below fs) last word _ is
    (on_sign p.Greater word false (plain (in_end ∷ below fs)) _ _
    (deliver_told (element_node x) fs x.depth z.below false (plain (in_end ∷ below fs)) (w.Sign p.Greater) refl refl)
    (refused_as false (plain (in_end ∷ below fs)) word (x.depth + 1) (end-length x fs z.below) refl refl refl))

-- Each step.

told_at : (x : Position) (fs : List Frame) (z : At x fs) (last : Last) → LastIn x (marks_in x fs) last → (word : Word)
    → Told (value_may x) (record { marks = marks_in x fs; last = last }) word (steps.step_at x fs word)
told_at (position.Outside x) fs z last is word = quiet-told false (marks_in (position.Outside x) fs) last word _ is (told_outside x fs z word)
told_at (position.Within x) fs z last is word = quiet-told (value_may (position.Within x)) (in_braces ∷ below fs) last word _ is (told_within x fs z word)
told_at (position.Inside x) fs z last is word = told_inside x fs z last is word
told_at (position.InMap x) fs z last is word = quiet-told false (marks_in (position.InMap x) fs) last word _ is (told_in_map x fs z word)
told_at (position.InElement x) fs z last is word = told_in_element x fs z last is word

pub told_step : (state : State) (z : At state.position state.stack) (m_ : Marks) → IsMarked state m_ → (word : Word)
    → Told (value_may state.position) m_ word (steps.step state word)
told_step state z m_ k word =
    subst (λ (ms : List Mark). Told (value_may state.position) (record { marks = ms; last = m_.last }) word (steps.step state word)) (sym k.marks_are)
    (told_at state.position state.stack z m_.last k.last_is word)

-- Whether a number may come next.

abbrev pub NumberMay : Bool → Moved → Type 0
NumberMay b_ (Ok next) = b_ ≡ true
NumberMay b_ (Err v) = b_ ≡ false

number_close : (frame : Frame) (fs : List Frame) (x : Part) (v : ℤ) → NumberMay false (close frame x fs (w.Number v))
number_close (f.Use draft name) fs x v = refl
number_close (f.Bind draft name) fs x v = refl
number_close (f.If draft) fs x v = refl
number_close (f.Throw draft test) fs x v = refl
number_close (f.Return draft) fs x v = refl
number_close (f.Parens q) fs x v = refl
number_close (f.Yes c) fs x v = refl
number_close (f.No c one) fs x v = refl
number_close (f.Item q items) fs x v = refl
number_close (f.MapBody y item number_) fs x v = refl
number_close (f.Attribute tag name) fs x v = refl
number_close (f.Child y) fs x v = refl
number_close (f.Operand q) fs x v = refl
number_close (f.Kid y) fs x v = refl

number_finish : (fs : List Frame) (x : Part) (v : ℤ) → NumberMay false (finish x fs (w.Number v))
number_finish [] x v = refl
number_finish (f.No c one ∷ fs) x v = number_finish fs (choose_part c.test one x) v
number_finish (frame ∷ fs) x v = number_close frame fs x v

pub number_step : (x : Position) (fs : List Frame) (v : ℤ) → NumberMay (value_may x) (steps.step_at x fs (w.Number v))
number_step (position.Outside (o.File components)) fs v = refl
number_step (position.Outside (o.Name components)) fs v = refl
number_step (position.Outside (o.Open x)) fs v = refl
number_step (position.Outside (o.Properties x)) fs v = refl
number_step (position.Outside (o.FirstProperty x)) fs v = refl
number_step (position.Outside (o.NextProperty x)) fs v = refl
number_step (position.Outside (o.PropertyEnd x)) fs v = refl
number_step (position.Outside (o.Close x)) fs v = refl
number_step (position.Outside (o.Body x)) fs v = refl
number_step (position.Outside (o.BodyEnd components)) fs v = refl
number_step (position.Within (b.Start draft)) fs v = refl
number_step (position.Within (b.ConstName draft)) fs v = refl
number_step (position.Within (b.ConstEquals draft name)) fs v = refl
number_step (position.Within (b.ConstValue draft name)) fs v = refl
number_step (position.Within (b.UseOpen draft name)) fs v = refl
number_step (position.Within (b.End draft)) fs v = refl
number_step (position.Within (b.IfOpen draft)) fs v = refl
number_step (position.Within (b.ThrowWord draft test)) fs v = refl
number_step (position.Inside (i.Operand q)) fs v = refl
number_step (position.Inside (i.Value q d)) fs v = number_finish fs (Value (value_of q d)) v
number_step (position.Inside (i.Node q node)) fs v = number_finish fs (node_part q (Other node)) v
number_step (position.Inside (i.Dot q d)) fs v = refl
number_step (position.Inside (i.ArrayStart q)) fs v = refl
number_step (position.Inside (i.ArrayNext q items)) fs v = refl
number_step (position.InMap (m.Open x)) fs v = refl
number_step (position.InMap (m.Item x)) fs v = refl
number_step (position.InMap (m.ItemEnd x item)) fs v = refl
number_step (position.InMap (m.Number x item)) fs v = refl
number_step (position.InMap (m.NumberEnd x item number_)) fs v = refl
number_step (position.InMap (m.Arrow x item number_)) fs v = refl
number_step (position.InElement (t.Start d)) fs v = refl
number_step (position.InElement (t.Attributes tag)) fs v = refl
number_step (position.InElement (t.Equals tag name)) fs v = refl
number_step (position.InElement (t.Value tag name)) fs v = refl
number_step (position.InElement (t.Children x)) fs v = refl
number_step (position.InElement (t.Braces x)) fs v = by_holds (holds_children x.name)
  where
    by_holds : (b_ : Bool) → NumberMay b_ (if b_ then steps.open_child x fs (w.Number v) else steps.refused_child (x.depth + 1 + 1) (w.Number v))
    by_holds true = refl
    by_holds false = refl
number_step (position.InElement (t.CloseName x)) fs v = refl
number_step (position.InElement (t.CloseEnd x)) fs v = refl
