-- What `finish` does at the innermost frame.
use Rattle.std.proofs.Common.{◌≡◌, ℕ, Bool, true, false, List, [], ◌∷◌, Result, Ok, Err, refl, sym, ap, ◌∙◌, if◌then◌else◌}
use Rattle.jsx_lex.specs.declared.word.Word.{Word}
use Rattle.jsx_lex.specs.declared.word.Punctuator.{Punctuator}
use Rattle.jsx_syntax.specs.WordTests.{is_sign, has_room, refusal, refusal_by}
use Rattle.jsx_syntax.specs.declared.part.Part.{Part}
use Rattle.jsx_syntax.specs.declared.part.Part.TheVariants.{Value, Other}
use Rattle.jsx_syntax.specs.declared.expr.Expr.{Expr}
use Rattle.jsx_syntax.specs.declared.fault.Wanted.{Wanted}
use Rattle.jsx_syntax.specs.declared.fault.Wanted.TheVariants as wanted
use Rattle.jsx_syntax.specs.declared.fault.Stop.{Stop}
use Rattle.jsx_syntax.specs.declared.fault.Stop.TheVariants.{Refused, OutOfMemory}
use Rattle.jsx_syntax.specs.declared.state.State.{State}
use Rattle.jsx_syntax.specs.declared.state.Conditional.{Conditional}
use Rattle.jsx_syntax.specs.declared.state.Frame.{Frame}
use Rattle.jsx_syntax.specs.declared.state.Frame.TheVariants as f
use Rattle.jsx_syntax.specs.declared.state.End.{End}
use Rattle.jsx_syntax.specs.declared.state.Top.{Top}
use Rattle.jsx_syntax.specs.declared.state.Top.TheVariants as top
use Rattle.jsx_syntax.specs.Trees.{choose_part}
use Rattle.jsx_syntax.specs.declared.node.Node.{Node}
use Rattle.jsx_syntax.specs.Steps.{Moved, host_of, deliver_at, deliver_to, Stops, top_of, close_end, finish, part_value, value_then, ended_value}

-- what the end of an expression comes to at a frame, by whether that is the last part of a conditional
abbrev at_top : Top → Part → List Frame → Word → Moved
at_top (top.Last c one) x stack word = finish (choose_part c.test one x) stack word
at_top (top.End e) x stack word = close_end e x stack word

finish_top : (frame : Frame) (x : Part) (stack : List Frame) (word : Word) → finish x (frame ∷ stack) word ≡ at_top (top_of frame) x stack word
finish_top (f.No c one) x stack word = refl
finish_top (f.Use draft name) x stack word = refl
finish_top (f.Bind draft name) x stack word = refl
finish_top (f.If draft) x stack word = refl
finish_top (f.Throw draft test) x stack word = refl
finish_top (f.Return draft) x stack word = refl
finish_top (f.Parens q) x stack word = refl
finish_top (f.Yes c) x stack word = refl
finish_top (f.Item q items) x stack word = refl
finish_top (f.MapBody mapping item number_) x stack word = refl
finish_top (f.Attribute tag name) x stack word = refl
finish_top (f.Child opened) x stack word = refl
finish_top (f.Operand q) x stack word = refl
finish_top (f.Kid opened) x stack word = refl

pub finish_last : (frame : Frame) (c : Conditional) (one x : Part) (stack : List Frame) (word : Word) → top_of frame ≡ top.Last c one
    → finish x (frame ∷ stack) word ≡ finish (choose_part c.test one x) stack word
finish_last frame c one x stack word is = finish_top frame x stack word ∙ ap (λ (t : Top). at_top t x stack word) is

pub finish_end : (frame : Frame) (e : End) (x : Part) (stack : List Frame) (word : Word) → top_of frame ≡ top.End e
    → finish x (frame ∷ stack) word ≡ close_end e x stack word
finish_end frame e x stack word is = finish_top frame x stack word ∙ ap (λ (t : Top). at_top t x stack word) is

-- a value that ends at a sign, and what comes then
pub ended_then : (room : Bool) (open_ : ℕ) (sign : Punctuator) (x : Part) (word : Word) (v : Expr) (next : Expr → State) → room ≡ has_room open_
    → ended_value room sign x word ≡ Ok v → (if is_sign sign word then value_then x next else Err (refusal open_ word)) ≡ Ok (next v)
ended_then room open_ sign x word v next same h = by_test (is_sign sign word) x (refusal_by room word) h
  where
    by_test : (b : Bool) (x : Part) (r : Wanted) → (if b then part_value x else Err r) ≡ Ok v
        → (if b then value_then x next else Err (refusal open_ word)) ≡ Ok (next v)
    by_test true (Value y) r h = let e : y ≡ v = cc in ap (λ (u : Expr). Ok (next u)) e
    by_test true (Other y) r h = absurd (cc)
    by_test false x r h = absurd (cc)

abbrev refused_value : Wanted → Result Expr Wanted
refused_value w = Err w

one_refusal : (r w : Wanted) → refused_value r ≡ refused_value w → r ≡ w
one_refusal r w e = cc

pub ended_err : (room : Bool) (open_ : ℕ) (sign : Punctuator) (x : Part) (word : Word) (stop : Stop) (next : Expr → State) → room ≡ has_room open_
    → Stops (ended_value room sign x word) stop → Stops (if is_sign sign word then value_then x next else Err (refusal open_ word)) stop
ended_err room open_ sign x word stop next same h =
    by_test (is_sign sign word) x (refusal_by room word) (refusal open_ word) (ap (λ (b : Bool). refusal_by b word) same) stop h
  where
    by_test : (b : Bool) (x : Part) (r s : Wanted) → r ≡ s → (stop : Stop) → Stops (if b then part_value x else Err r) stop
        → Stops (if b then value_then x next else Err s) stop
    by_test true (Value y) r s e (Refused w) h = absurd (cc)
    by_test true (Other y) r s e (Refused w) h = ap (λ (u : Wanted). Err u) (one_refusal _ w h)
    by_test false x r s e (Refused w) h = ap (λ (u : Wanted). Err u) (sym e ∙ one_refusal r w h)
    by_test b x r s e OutOfMemory h = tt

-- an element at a frame
pub deliver_host : (frame : Frame) (node : Node) (stack : List Frame) → deliver_at (host_of frame) node stack ≡ deliver_to frame node stack
deliver_host (f.Operand q) node stack = refl
deliver_host (f.Kid opened) node stack = refl
deliver_host (f.No c one) node stack = refl
deliver_host (f.Use draft name) node stack = refl
deliver_host (f.Bind draft name) node stack = refl
deliver_host (f.If draft) node stack = refl
deliver_host (f.Throw draft test) node stack = refl
deliver_host (f.Return draft) node stack = refl
deliver_host (f.Parens q) node stack = refl
deliver_host (f.Yes c) node stack = refl
deliver_host (f.Item q items) node stack = refl
deliver_host (f.MapBody mapping item number_) node stack = refl
deliver_host (f.Attribute tag name) node stack = refl
deliver_host (f.Child opened) node stack = refl
