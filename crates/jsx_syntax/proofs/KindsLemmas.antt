-- What is wanted in the place of the first word that is refused.
use Rattle.std.proofs.Common.{◌≡◌, ℤ, pos, Bool, true, false, List, [], ◌∷◌, ◌++◌, Ok, Err, inl, refl, sym, ap, subst, ◌∙◌, append_assoc}
use Rattle.jsx_lex.specs.declared.word.Word.{Word}
use Rattle.jsx_lex.specs.declared.word.Word.TheVariants as w
use Rattle.jsx_syntax.specs.declared.file.File.{File}
use Rattle.jsx_syntax.specs.declared.fault.Wanted.{Wanted}
use Rattle.jsx_syntax.specs.declared.state.State.{State}
use Rattle.jsx_syntax.specs.Grammar.{SpellsFile}
use Rattle.jsx_syntax.specs.Refusals.{IsAlive}
use Rattle.jsx_syntax.specs.Marks.{Marks, no_marks, marks_by, marks_from, marks_of}
use Rattle.jsx_syntax.specs.Kinds.{IsWantedFor}
use Rattle.jsx_syntax.specs.Steps.{Moved, run, step, first_state}
use Rattle.jsx_syntax.proofs.Zipper.{At, at_words}
use Rattle.jsx_syntax.proofs.Sound.{Good, sound_step, true_false}
use Rattle.jsx_syntax.proofs.Reading.{run-append, reached, reached-alive, refused-dead, ok_ok, err_ok, first_at}
use Rattle.jsx_syntax.proofs.Marked.{IsMarked, Told, value_may}
use Rattle.jsx_syntax.proofs.Told.{told_step, NumberMay, number_step}

marked : (words : List Word) (state : State) → At state.position state.stack → (m_ : Marks) → IsMarked state m_ → (last : State)
    → run (Ok state) words ≡ Ok last → IsMarked last (marks_from m_ words)
marked [] state z m_ k last h = subst (λ (x : State). IsMarked x m_) (ok_ok state last h) k
marked (word ∷ words) state z m_ k last h =
    by_step (step state word) (sound_step state.position state.stack z word) (told_step state z m_ k word) h (λ next. marked words next)
  where
    by_step : (moved : Moved) → Good (at_words state.position state.stack z) word moved → Told (value_may state.position) m_ word moved → run moved words ≡ Ok last
        → ((next : State) → At next.position next.stack → (n_ : Marks) → IsMarked next n_ → (end : State) → run (Ok next) words ≡ Ok end → IsMarked end (marks_from n_ words))
        → IsMarked last (marks_from (marks_by m_ word) words)
    by_step (Err v) good told h_ ih = absurd (err_ok v last h_)
    by_step (Ok next) good told h_ ih = ih next good.at (marks_by m_ word) told last h_

first_marked : IsMarked first_state no_marks
first_marked = record { marks_are = refl; last_is = inl refl }

leads_on : (before : List Word) (word : Word) (state next : State) → run (Ok first_state) before ≡ Ok state → step state word ≡ Ok next
    → run (Ok first_state) (before ++ word ∷ []) ≡ Ok next
leads_on before word state next h e =
    run-append (Ok first_state) before (word ∷ []) ∙ ap (λ (x : Moved). run x (word ∷ [])) h ∙ ap (λ (x : Moved). run x []) e

may_come : (before : List Word) (word : Word) (state : State) (b_ : Bool) → run (Ok first_state) before ≡ Ok state → (moved : Moved) → step state word ≡ moved
    → NumberMay b_ moved → b_ ≡ true → IsAlive (before ++ word ∷ [])
may_come before word state b_ h (Ok next) e may is = reached-alive (before ++ word ∷ []) next (reached (before ++ word ∷ []) next (leads_on before word state next h e))
may_come before word state b_ h (Err v) e may is = absurd (true_false (sym is ∙ may))

may_not_come : (before : List Word) (word : Word) (state : State) (b_ : Bool) → run (Ok first_state) before ≡ Ok state → (moved : Moved) → step state word ≡ moved
    → NumberMay b_ moved → IsAlive (before ++ word ∷ []) → b_ ≡ true
may_not_come before word state b_ h (Ok next) e may alive = may
may_not_come before word state b_ h (Err v) e may alive =
    absurd (refused-dead before word state v h e alive.more alive.file (subst (λ (ws : List Word). SpellsFile ws alive.file) (append_assoc before (word ∷ []) alive.more) alive.spells))

pub wanted_here : (before : List Word) (word : Word) (state : State) (v : Wanted) → run (Ok first_state) before ≡ Ok state → step state word ≡ Err v
    → IsWantedFor before word v
wanted_here before word state v h e = record {
  value_may = value_may state.position;
  value_may_be = may_come before (w.Number (pos 0)) state (value_may state.position) h (step state (w.Number (pos 0))) refl (number_step state.position state.stack (pos 0));
  value_may_not = may_not_come before (w.Number (pos 0)) state (value_may state.position) h (step state (w.Number (pos 0))) refl (number_step state.position state.stack (pos 0));
  wanted_is = subst (Told (value_may state.position) (marks_of before) word) e
      (told_step state (reached before state h).at (marks_of before) (marked before first_state first_at no_marks first_marked state h) word);
}
