-- Calls and bodies: a body tells its function, whether it defines it, and its call.
use Rattle.std.proofs.lemmas.List.{append_cancel_left, append_cancel_right}
use Rattle.std.proofs.Common.{◌≡◌, ◌≢◌, ℕ, Bool, true, false, not, if◌then◌else◌, List, [], ◌∷◌, ◌++◌, drop, get_or, Result, Ok, Err, Option, Some, None, refl, sym, ◌∙◌, ap, arith, append_assoc}
use Rattle.std.proofs.Common.{Bor}
use Rattle.std.specs.Option.{MatchOption}
use Rattle.std.specs.Result.{IfOk}
use Rattle.std.specs.Str.{IsUtf8}
use Rattle.fizz_instructions.specs.Bodies.{IsInstruction, arguments_of, body_of, call_of, call_with, function_of}
use Rattle.fizz_instructions.specs.Functions.{name_of, definition_of, complete_boundary_definition, complete_segment_definition, client_render_definition}
use Rattle.fizz_instructions.specs.Reading.{AreArgumentsOf, AreNoArguments, IsBodyOf, IsCallOf, IsNoBody, IsNoCallOf, Says}
use Rattle.fizz_instructions.specs.declared.functions.Function.{Function}
use Rattle.fizz_instructions.specs.declared.functions.Function.TheVariants.{CompleteBoundary, CompleteSegment, ClientRenderBoundary}
use Rattle.fizz_instructions.specs.declared.instruction.Instruction.{Instruction}
use Rattle.fizz_instructions.specs.declared.instruction.SentFunctions.{SentFunctions}
use Rattle.fizz_instructions.specs.Sending.{has}
use Rattle.html_names.proofs.JsStringsLemmas.{apart_bools}
use Rattle.fizz_instructions.proofs.ArgumentsLemmas.{one_instruction}

-- Between the parentheses

pub inner : (call after inside : List ℕ) (f : Function) (r : Option (Bor (List ℕ))) → call ≡ name_of f ++ after → after ≡ 40 ∷ inside → MatchOption r ((front : List ℕ) → inside ≢ front ++ 41 ∷ []) (λ x. inside ≡ x.now ++ 41 ∷ []) →
    MatchOption r ((args : List ℕ) → call ≢ call_with f args) (λ x. call ≡ call_with f x.now)
inner call after inside f None is opens h = λ args e. h args (ap (drop 1) (sym opens ∙ append_cancel_left (name_of f) after (40 ∷ (args ++ 41 ∷ [])) (sym is ∙ e)))
inner call after inside f (Some x) is opens h = is ∙ ap (λ xs. name_of f ++ xs) (opens ∙ ap (λ xs. 40 ∷ xs) h)

same_called : (f : Function) (a b : List ℕ) → call_with f a ≡ call_with f b → a ≡ b
same_called f a b e = append_cancel_right a b (41 ∷ []) (ap (drop 1) (append_cancel_left (name_of f) (40 ∷ (a ++ 41 ∷ [])) (40 ∷ (b ++ 41 ∷ [])) e))

pub no_call : (prefix call : List ℕ) (f : Function) → ((args : List ℕ) → call ≢ call_with f args) → IsNoCallOf prefix call f
no_call prefix call f none i h = none (arguments_of prefix i) (h.is ∙ ap (λ g. call_with g (arguments_of prefix i)) h.calls)

pub calls_from : {E : Type 0} (prefix call args : List ℕ) (f : Function) (r : Result (Option Instruction) E) → call ≡ call_with f args →
    IfOk r (λ found. MatchOption found (AreNoArguments prefix args f) (λ i. AreArgumentsOf prefix args f i)) →
    IfOk r (λ found. MatchOption found (IsNoCallOf prefix call f) (λ i. IsCallOf prefix call f i))
calls_from prefix call args f (Err e) is h = tt
calls_from prefix call args f (Ok None) is h = λ i is_call. h i (record {
  calls = is_call.calls;
  valid = is_call.valid;
  is = same_called f args (arguments_of prefix i) (sym is ∙ (is_call.is ∙ ap (λ g. call_with g (arguments_of prefix i)) is_call.calls));
})
calls_from prefix call args f (Ok (Some i)) is h = record {
  calls = h.calls;
  valid = h.valid;
  is = is ∙ (ap (call_with f) h.is ∙ ap (λ g. call_with g (arguments_of prefix i)) (sym h.calls));
}

-- The function

pub same_name : (f g : Function) (x y : List ℕ) → name_of f ++ x ≡ name_of g ++ y → f ≡ g
same_name CompleteBoundary CompleteBoundary x y e = refl
same_name CompleteBoundary CompleteSegment x y e = absurd (omega (arith, ap (λ xs. get_or xs 2 0) e))
same_name CompleteBoundary ClientRenderBoundary x y e = absurd (omega (arith, ap (λ xs. get_or xs 2 0) e))
same_name CompleteSegment CompleteBoundary x y e = absurd (omega (arith, ap (λ xs. get_or xs 2 0) e))
same_name CompleteSegment CompleteSegment x y e = refl
same_name CompleteSegment ClientRenderBoundary x y e = absurd (omega (arith, ap (λ xs. get_or xs 2 0) e))
same_name ClientRenderBoundary CompleteBoundary x y e = absurd (omega (arith, ap (λ xs. get_or xs 2 0) e))
same_name ClientRenderBoundary CompleteSegment x y e = absurd (omega (arith, ap (λ xs. get_or xs 2 0) e))
same_name ClientRenderBoundary ClientRenderBoundary x y e = refl

text_named : (f : Function) → definition_of f ≡ name_of f ++ drop 3 (definition_of f)
unfolding complete_boundary_definition complete_segment_definition client_render_definition
text_named CompleteBoundary = refl
text_named CompleteSegment = refl
text_named ClientRenderBoundary = refl

text_fourth : (f : Function) (xs : List ℕ) → get_or (definition_of f ++ xs) 3 0 ≡ 61
unfolding complete_boundary_definition complete_segment_definition client_render_definition
text_fourth CompleteBoundary xs = refl
text_fourth CompleteSegment xs = refl
text_fourth ClientRenderBoundary xs = refl

call_fourth : (f : Function) (args : List ℕ) → get_or (call_with f args) 3 0 ≡ 40
call_fourth CompleteBoundary args = refl
call_fourth CompleteSegment args = refl
call_fourth ClientRenderBoundary args = refl

text_no_call : (f g : Function) (xs args : List ℕ) → definition_of f ++ xs ≡ call_with g args → ⊥
text_no_call f g xs args e =
    omega (arith, sym (text_fourth f xs) ∙ (ap (λ ys. get_or ys 3 0) e ∙ call_fourth g args))

named_body : (prefix : List ℕ) (i : Instruction) (d : Bool) → (more : List ℕ) × (body_of prefix i d ≡ name_of (function_of i) ++ more)
named_body prefix i true = (
  drop 3 (definition_of (function_of i)) ++ call_of prefix i,
  ap (λ xs. xs ++ call_of prefix i) (text_named (function_of i)) ∙ append_assoc (name_of (function_of i)) (drop 3 (definition_of (function_of i))) (call_of prefix i),
)
named_body prefix i false = (40 ∷ (arguments_of prefix i ++ 41 ∷ []), refl)

pub no_name : (prefix body : List ℕ) (r : Option Function) → ((f : Function) (more : List ℕ) → body ≡ name_of f ++ more → r ≡ Some f) → r ≡ None → IsNoBody prefix body
no_name prefix body r named none i d h =
    let e : None ≡ Some (function_of i) = sym none ∙ named (function_of i) ((named_body prefix i d).0) (h.is ∙ (named_body prefix i d).1) in
    cc

-- What a body tells, where its name is told, and its definition is split off.
pub record Tells (prefix call : List ℕ) (f : Function) (d : Bool) (i : Instruction) (e : Bool) : Type 0 where
  pub function : f ≡ function_of i
  pub call_is : call ≡ call_of prefix i
  pub defines : d ≡ e

tells_call : (prefix body call : List ℕ) (f : Function) (d : Bool) (i : Instruction) (e : Bool) → f ≡ function_of i → body ≡ (if d then definition_of f else []) ++ call → ((more : List ℕ) → body ≡ definition_of f ++ more → d ≡ true) →
    body ≡ body_of prefix i e → Tells prefix call f d i e
tells_call prefix body call f true i true g split first is = record {
  function = g;
  call_is = append_cancel_left (definition_of f) call (call_of prefix i) (sym split ∙ (is ∙ ap (λ h. definition_of h ++ call_of prefix i) (sym g)));
  defines = refl;
}
tells_call prefix body call f true i false g split first is = absurd (text_no_call f (function_of i) call (arguments_of prefix i) (sym split ∙ is))
tells_call prefix body call f false i true g split first is =
    let e : false ≡ true = first (call_of prefix i) (is ∙ ap (λ h. definition_of h ++ call_of prefix i) (sym g)) in
    cc
tells_call prefix body call f false i false g split first is = record { function = g; call_is = sym split ∙ is; defines = refl }

pub tells : (prefix body call : List ℕ) (f : Function) (d : Bool) (i : Instruction) (e : Bool) → ((g : Function) (more : List ℕ) → body ≡ name_of g ++ more → f ≡ g) → body ≡ (if d then definition_of f else []) ++ call →
    ((more : List ℕ) → body ≡ definition_of f ++ more → d ≡ true) → body ≡ body_of prefix i e → Tells prefix call f d i e
tells prefix body call f d i e named split first is =
    tells_call prefix body call f d i e (named (function_of i) ((named_body prefix i e).0) (is ∙ (named_body prefix i e).1)) split first is

some_same : (f g : Function) → Some f ≡ Some g → f ≡ g
some_same f g e = cc

pub no_body : (prefix body call : List ℕ) (f : Function) (d : Bool) → ((g : Function) (more : List ℕ) → body ≡ name_of g ++ more → Some f ≡ Some g) → body ≡ (if d then definition_of f else []) ++ call →
    ((more : List ℕ) → body ≡ definition_of f ++ more → d ≡ true) → IsNoCallOf prefix call f → IsNoBody prefix body
no_body prefix body call f d named split first none i e h =
    let name : (g : Function) (more : List ℕ) → body ≡ name_of g ++ more → f ≡ g = λ g more is. some_same f g (named g more is) in
    let t : Tells prefix call f d i e = tells prefix body call f d i e name split first h.is in
    none i (record { calls = sym t.function; valid = h.valid; is = t.call_is })

pub body_is : (prefix body call : List ℕ) (f : Function) (d : Bool) (i : Instruction) → body ≡ (if d then definition_of f else []) ++ call → IsCallOf prefix call f i → IsBodyOf prefix body i d
body_is prefix body call f d i split h = record {
  valid = h.valid;
  is = split ∙ (ap (λ xs. (if d then definition_of f else []) ++ xs) h.is ∙ ap (λ g. (if d then definition_of g else []) ++ call_of prefix i) (sym h.calls));
}

defined : (prefix : List ℕ) (i : Instruction) (a : Bool) (more : List ℕ) → body_of prefix i a ≡ definition_of (function_of i) ++ more → a ≡ true
defined prefix i true more e = refl
defined prefix i false more e = absurd (text_no_call (function_of i) (function_of i) more (arguments_of prefix i) (sym e))

-- A body is one instruction's.
pub one_body : (prefix : List ℕ) (i j : Instruction) (a b : Bool) → IsUtf8 prefix → IsInstruction i → IsInstruction j → body_of prefix i a ≡ body_of prefix j b → (i ≡ j) × (a ≡ b)
one_body prefix i j a b p u v e =
    let t : Tells prefix (call_of prefix i) (function_of i) a j b =
    tells prefix (body_of prefix i a) (call_of prefix i) (function_of i) a j b
    (λ g more h. same_name (function_of i) g ((named_body prefix i a).0) more (sym (named_body prefix i a).1 ∙ h)) refl (defined prefix i a) e in
    let args : arguments_of prefix i ≡ arguments_of prefix j =
    same_called (function_of i) (arguments_of prefix i) (arguments_of prefix j) (t.call_is ∙ ap (λ g. call_with g (arguments_of prefix j)) (sym t.function)) in
    (one_instruction prefix i j p u v t.function args, t.defines)

pub one_body_of : (prefix body : List ℕ) (i j : Instruction) (a b : Bool) → IsUtf8 prefix → IsBodyOf prefix body i a → IsBodyOf prefix body j b → (i ≡ j) × (a ≡ b)
one_body_of prefix body i j a b p u v = one_body prefix i j a b p u.valid v.valid (sym u.is ∙ v.is)

-- A reader that doesn't know the function of a body takes no instruction from it.
pub not_said : (prefix body : List ℕ) (known : SentFunctions) (i j : Instruction) → IsUtf8 prefix → IsBodyOf prefix body i false → has known (function_of i) ≡ false → Says prefix body known j → ⊥
not_said prefix body known i j p is unknown says =
    let same : (i ≡ j) × (false ≡ says.defines) = one_body_of prefix body i j false says.defines p is says.body_is in
    apart_bools (has known (function_of i)) (ap (λ k. has known (function_of k)) same.0 ∙ says.callable (sym same.1)) unknown

pub only_said : (prefix body : List ℕ) (known : SentFunctions) (i j : Instruction) (defines : Bool) → IsUtf8 prefix → IsBodyOf prefix body i defines → Says prefix body known j → i ≡ j
only_said prefix body known i j defines p is says = (one_body_of prefix body i j defines says.defines p is says.body_is).0

pub none_said : (prefix body : List ℕ) (known : SentFunctions) (j : Instruction) → IsNoBody prefix body → Says prefix body known j → ⊥
none_said prefix body known j none says = none j says.defines says.body_is

when_not : (b : Bool) → not b ≡ false → b ≡ true
when_not true e = refl
when_not false e = cc

-- The body that is written after some functions says its instruction to a reader that knows them.
pub reads_back : (prefix : List ℕ) (i : Instruction) (sent : SentFunctions) → IsInstruction i → Says prefix (body_of prefix i (not (has sent (function_of i)))) sent i
reads_back prefix i sent v = record {
  defines = not (has sent (function_of i));
  body_is = record { valid = v; is = refl };
  callable = when_not (has sent (function_of i));
}
