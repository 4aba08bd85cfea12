-- Words and files: what the steps say of the grammar.
use Rattle.std.proofs.Common.{◌≡◌, List, [], ◌∷◌, ◌++◌, Ok, Err, ◌⊎◌, inl, inr, refl, sym, ap, subst, ◌∙◌, append_assoc, append-nil}
use Rattle.jsx_lex.specs.declared.word.Word.{Word}
use Rattle.jsx_syntax.specs.declared.file.Component.{Component}
use Rattle.jsx_syntax.specs.declared.state.Frame.{Frame}
use Rattle.jsx_syntax.specs.declared.state.Position.{Position}
use Rattle.jsx_syntax.specs.declared.state.Position.TheVariants as position
use Rattle.jsx_syntax.specs.declared.state.Outside.TheVariants as o
use Rattle.jsx_syntax.specs.Grammar.{Sort, Syntax, Meaning, spell, tree, Fits, HasRoom, IsName, AreNames, equal_sign}
use Rattle.jsx_syntax.specs.Grammar as g
use Rattle.jsx_syntax.specs.Steps.{allows_node, nesting, holds_children, fallback_place, operand_of, component_of, with_stmt, same_name}
use Rattle.jsx_syntax.specs.Steps.{nots_of, equal_of, sums_of, ands_of, ors_of, value_of, node_part, is_empty}
use Rattle.jsx_syntax.proofs.Zipper.{At, at_words}
use Rattle.jsx_syntax.specs.declared.state.State.{State}
use Rattle.jsx_syntax.specs.declared.fault.Wanted.{Wanted}
use Rattle.jsx_syntax.specs.Steps as steps
use Rattle.jsx_syntax.specs.Steps.{Moved, finish, close, step_value, step_operand, name_then, names_before_map, inside, fresh, operand, element_node, element_named, run, first_state}
use Rattle.jsx_syntax.specs.declared.file.File.{File}
use Rattle.jsx_syntax.specs.Grammar.{SpellsFile}
use Rattle.jsx_syntax.proofs.Sound.{Good, sound_step}
use Rattle.jsx_syntax.proofs.Alive.{alive_at, no_file}
use Rattle.jsx_syntax.proofs.Complete.{components_read}
use Rattle.jsx_syntax.specs.Refusals.{IsAlive, IsFirstRefused}

-- A file's words lead from the first state to the file.
pub run-file : (words : List Word) (file_ : File) → SpellsFile words file_ → run (Ok first_state) words ≡ Ok (steps.outside (o.File file_.components) [])
run-file words file_ s =
    ap (λ (ws : List Word). run (Ok first_state) ws) (sym s.spelled)
    ∙ components_read s.syntax s.fits
    ∙ ap (λ (cs : List Component). run (Ok (steps.outside (o.File cs) [])) []) s.tree_is

abbrev moved : State → Moved
moved state = Ok state

pub ok_ok : (r s : State) → moved r ≡ moved s → r ≡ s
ok_ok r s h = cc

abbrev components_in : Position → List Component
components_in (position.Outside (o.File components)) = components
components_in _ = []

same_components : (xs ys : List Component) → moved (steps.outside (o.File xs) []) ≡ moved (steps.outside (o.File ys) []) → xs ≡ ys
same_components xs ys h =
    ap (λ (r : State). components_in r.position) (ok_ok (steps.outside (o.File xs) []) (steps.outside (o.File ys) []) h)

pub one_file : (words : List Word) (file_ other : File) → SpellsFile words file_ → SpellsFile words other → file_ ≡ other
one_file words file_ other s t =
    ap (λ (cs : List Component). record { components = cs })
    (same_components file_.components other.components (sym (run-file words file_ s) ∙ run-file words other t))

pub run-append : (m_ : Moved) (xs ys : List Word) → run m_ (xs ++ ys) ≡ run (run m_ xs) ys
run-append (Err wanted_) xs ys = refl
run-append (Ok state) [] ys = refl
run-append (Ok state) (x ∷ xs) ys = run-append (steps.step state x) xs ys

-- what is read in a state that words lead to
pub record Reached (words : List Word) (state : State) : Type 0 where
  pub at : At state.position state.stack
  pub words_are : (more : List Word) → at_words state.position state.stack at more ≡ words ++ more

pub err_ok : (x : Wanted) (s : State) → Err x ≡ Ok s → ⊥
err_ok x s h = cc

reach : (words : List Word) (state : State) (z : At state.position state.stack) (front : List Word)
    → ((more : List Word) → at_words state.position state.stack z more ≡ front ++ more) → (last : State)
    → run (Ok state) words ≡ Ok last → Reached (front ++ words) last
reach [] state z front is last h =
    let here : Reached (front ++ []) state = record { at = z; words_are = λ more. is more ∙ ap (λ (ws : List Word). ws ++ more) (sym (append-nil front)) } in
    subst (λ (r : State). Reached (front ++ []) r) (ok_ok state last h) here
reach (word ∷ words) state z front is last h =
    by_step (steps.step state word) (sound_step state.position state.stack z word) h (λ next. reach words next)
  where
    by_step : (m_ : Moved) → Good (at_words state.position state.stack z) word m_ → run m_ words ≡ Ok last
        → ((next : State) → (y : At next.position next.stack) (ahead : List Word)
        → ((more : List Word) → at_words next.position next.stack y more ≡ ahead ++ more) → (end : State)
        → run (Ok next) words ≡ Ok end → Reached (ahead ++ words) end)
        → Reached (front ++ word ∷ words) last
    by_step (Err wanted_) good h_ ih = absurd (err_ok wanted_ last h_)
    by_step (Ok next) k h_ ih =
        subst (λ (ws : List Word). Reached ws last) (append_assoc front (word ∷ []) words)
        (ih next k.at (front ++ word ∷ []) (λ more. k.words_are more ∙ is (word ∷ more) ∙ sym (append_assoc front (word ∷ []) more)) last h_)

pub first_at : At first_state.position first_state.stack
first_at = record { here = record { syntax = g.no_component; is = refl; fits = tt }; below = tt }

first_words : (more : List Word) → at_words first_state.position first_state.stack first_at more ≡ more
unfolding first_at
first_words more = refl

pub reached : (words : List Word) (state : State) → run (Ok first_state) words ≡ Ok state → Reached words state
reached words state h = reach words first_state first_at [] first_words state h

pub reached-alive : (words : List Word) (state : State) → Reached words state → IsAlive words
reached-alive words state r =
    let a = alive_at state.position state.stack r.at in
    record { more = a.more; file = a.file_; spells = subst (λ (ws : List Word). SpellsFile ws a.file_) (r.words_are a.more) a.spells }

-- no file goes on where a step is refused
pub refused-dead : (before : List Word) (word : Word) (state : State) (wanted_ : Wanted) → run (Ok first_state) before ≡ Ok state
    → steps.step state word ≡ Err wanted_ → (more : List Word) (file_ : File) → SpellsFile (before ++ word ∷ more) file_ → ⊥
refused-dead before word state wanted_ h e_ more file_ s =
    err_ok wanted_ (steps.outside (o.File file_.components) [])
    (ap (λ (m_ : Moved). run m_ more) (sym e_)
    ∙ ap (λ (m_ : Moved). run m_ (word ∷ more)) (sym h)
    ∙ sym (run-append (Ok first_state) before (word ∷ more))
    ∙ run-file (before ++ word ∷ more) file_ s)

abbrev pub IsFile : Position → Type 0
IsFile (position.Outside (o.File components)) = Unit {0}
IsFile _ = ⊥

-- no file ends where the state is none of a whole file
pub unfinished-dead : (words : List Word) (state : State) → run (Ok first_state) words ≡ Ok state → (IsFile state.position → ⊥)
    → (file_ : File) → SpellsFile words file_ → ⊥
unfinished-dead words state h none file_ s =
    let same : state ≡ steps.outside (o.File file_.components) [] = ok_ok state (steps.outside (o.File file_.components) []) (sym h ∙ run-file words file_ s) in
    none (subst (λ (r : State). IsFile r.position) (sym same) tt)

-- words that lead to a whole file spell it
pub found-file : (words : List Word) (components : List Component) (stack : List Frame)
    → run (Ok first_state) words ≡ Ok (steps.outside (o.File components) stack) → SpellsFile words (record { components = components })
found-file words components stack h = by_stack stack (reached words (steps.outside (o.File components) stack) h)
  where
    by_stack : (stack_ : List Frame) → Reached words (steps.outside (o.File components) stack_) → SpellsFile words (record { components = components })
    by_stack [] r = record {
      syntax = r.at.here.syntax;
      fits = r.at.here.fits;
      spelled = r.words_are [] ∙ append-nil words;
      tree_is = r.at.here.is;
    }
    by_stack (frame ∷ fs) r = absurd (no_file frame fs r.at.below)

-- Words are a file's, or have a first that is refused.

abbrev Judged : List Word → List Word → Type 0
Judged before after = ((file_ : File) × SpellsFile (before ++ after) file_) ⊎ ((front : List Word) × (rest : List Word) × IsFirstRefused (before ++ after) front rest)

at_end : (before : List Word) (position_ : Position) (stack : List Frame) → run (Ok first_state) before ≡ Ok (record { position = position_; stack = stack }) → Judged before []
at_end before (position.Outside (o.File components)) stack h =
    inl (record { components = components }, subst (λ (ws : List Word). SpellsFile ws (record { components = components })) (sym (append-nil before)) (found-file before components stack h))
at_end before position_ stack h =
    inr (
      before,
      [],
      record {
        split = refl;
        alive = reached-alive before (record { position = position_; stack = stack }) (reached before (record { position = position_; stack = stack }) h);
        dead = unfinished-dead before (record { position = position_; stack = stack }) h (λ absent. absent);
      },
    )

judge : (after before : List Word) (state : State) → run (Ok first_state) before ≡ Ok state → Judged before after
judge [] before state h = at_end before state.position state.stack h
judge (word ∷ after) before state h = by_step (steps.step state word) refl (λ next. judge after (before ++ word ∷ []) next)
  where
    by_step : (m_ : Moved) → steps.step state word ≡ m_
        → ((next : State) → run (Ok first_state) (before ++ word ∷ []) ≡ Ok next → Judged (before ++ word ∷ []) after) → Judged before (word ∷ after)
    by_step (Err wanted_) e_ ih = inr (
      before,
      word ∷ after,
      record {
        split = refl;
        alive = reached-alive before state (reached before state h);
        dead = refused-dead before word state wanted_ h e_;
      },
    )
    by_step (Ok next) e_ ih =
        subst (λ (ws : List Word). ((file_ : File) × SpellsFile ws file_) ⊎ ((front : List Word) × (rest : List Word) × IsFirstRefused ws front rest)) (append_assoc before (word ∷ []) after)
        (ih next (run-append (Ok first_state) before (word ∷ []) ∙ ap (λ (m_ : Moved). run m_ (word ∷ [])) h ∙ ap (λ (m_ : Moved). run m_ []) e_))

pub file_or_refused : (words : List Word) → ((file_ : File) × SpellsFile words file_) ⊎ ((before : List Word) × (after : List Word) × IsFirstRefused words before after)
file_or_refused words = judge words [] first_state refl
