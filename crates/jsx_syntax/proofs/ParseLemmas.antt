-- Parsing token by token: where the state leads, and what a stop says.
use Rattle.std.proofs.Common.{◌≡◌, ℕ, zero, suc, ◌+◌, ◌<◌, ◌≤◌, List, [], ◌∷◌, ◌++◌, length, take, drop, get_or, Some, None, Ok, Err, refl, sym, ap, subst, ◌∙◌, append-nil, arith, drop-cons}
use Rattle.std.proofs.lemmas.List.{take-append-drop, take_more, take_all, map-append}
use Rattle.jsx_lex.specs.TokenLists.{InOrder}
use Rattle.jsx_lex.specs.TokenMeanings.{word_at, words_of}
use Rattle.jsx_lex.specs.declared.token.Token.{Token}
use Rattle.jsx_lex.specs.declared.word.Word.{Word}
use Rattle.jsx_syntax.specs.declared.file.File.{File}
use Rattle.jsx_syntax.specs.declared.file.Component.{Component}
use Rattle.jsx_syntax.specs.declared.fault.Wanted.{Wanted}
use Rattle.jsx_syntax.specs.declared.fault.Wanted.TheVariants as wanted_
use Rattle.jsx_syntax.specs.declared.fault.SyntaxFault.{SyntaxFault}
use Rattle.jsx_syntax.specs.declared.fault.SyntaxFault.TheVariants.{Bad, OutOfMemory}
use Rattle.jsx_syntax.specs.declared.state.State.{State}
use Rattle.jsx_syntax.specs.declared.state.Frame.{Frame}
use Rattle.jsx_syntax.specs.declared.state.Position.{Position}
use Rattle.jsx_syntax.specs.declared.state.Position.TheVariants as position
use Rattle.jsx_syntax.specs.declared.state.Outside.TheVariants as o
use Rattle.jsx_syntax.specs.Advances.{LeadsTo, StopsHere, components_of}
use Rattle.jsx_syntax.specs.Grammar.{SpellsFile}
use Rattle.jsx_syntax.specs.Parsing.{IsRefusedAt, HasCause}
use Rattle.jsx_syntax.specs.Refusals.{IsFirstRefused}
use Rattle.jsx_syntax.specs.Steps.{Moved, run, step, first_state}
use Rattle.jsx_syntax.proofs.KindsLemmas.{wanted_here}
use Rattle.jsx_syntax.proofs.Reading.{run-append, reached, reached-alive, refused-dead, unfinished-dead, found-file, IsFile}

in_order-le : (from to : ℕ) (ts : List Token) → InOrder from to ts → from ≤ to
in_order-le from to [] h = h
in_order-le from to (t ∷ ts) h =
    let rest = in_order-le t.to to ts h.2 in
    let first = h.0 in
    let within = h.1 in
    omega arith

pub ordered_at : (from to : ℕ) (ts : List Token) (i : ℕ) (d : Token) → InOrder from to ts → i < length ts
    → ((get_or ts i d).from ≤ (get_or ts i d).to) × ((get_or ts i d).to ≤ to)
ordered_at from to [] i d h l = absurd (omega arith)
ordered_at from to (t ∷ ts) zero d h l =
    let within = h.1 in
    let rest = in_order-le t.to to ts h.2 in
    (omega arith, rest)
ordered_at from to (t ∷ ts) (suc i) d h l = ordered_at t.to to ts i d h.2 (omega arith)

words-split : (text : List ℕ) (xs ys : List Token) → words_of text (xs ++ ys) ≡ words_of text xs ++ words_of text ys
words-split text xs ys = map-append (word_at text) xs ys

pub moved_on : (text : List ℕ) (tokens : List Token) (i : ℕ) (d : Token) (state next : State) → LeadsTo text (take i tokens) state → i < length tokens
    → step state (word_at text (get_or tokens i d)) ≡ Ok next → LeadsTo text (take (i + 1) tokens) next
moved_on text tokens i d state next h l e =
    ap (λ (ts : List Token). run (Ok first_state) (words_of text ts)) (take_more tokens i d l)
    ∙ ap (λ (ws : List Word). run (Ok first_state) ws) (words-split text (take i tokens) (get_or tokens i d ∷ []))
    ∙ run-append (Ok first_state) (words_of text (take i tokens)) (word_at text (get_or tokens i d) ∷ [])
    ∙ ap (λ (m : Moved). run m (word_at text (get_or tokens i d) ∷ [])) h
    ∙ ap (λ (m : Moved). run m []) e

split_at : (tokens : List Token) (i : ℕ) (d : Token) → i < length tokens → tokens ≡ take i tokens ++ (get_or tokens i d ∷ drop (suc i) tokens)
split_at tokens i d l = sym (take-append-drop i tokens) ∙ ap (λ (ts : List Token). take i tokens ++ ts) (drop-cons tokens i d l)

abbrev refused_here : (text : List ℕ) (tokens : List Token) (i : ℕ) (d : Token) (state : State) (wanted : Wanted) (place : ℕ) → LeadsTo text (take i tokens) state → i < length tokens
    → (step state (word_at text (get_or tokens i d)) ≡ Err wanted) × (place ≡ (get_or tokens i d).from) → IsRefusedAt text tokens place
refused_here text tokens i d state wanted place h l e = record {
  before = take i tokens;
  after = get_or tokens i d ∷ drop (suc i) tokens;
  split = split_at tokens i d l;
  place_is = e.1;
  refused = record {
    split = ap (words_of text) (split_at tokens i d l) ∙ words-split text (take i tokens) (get_or tokens i d ∷ drop (suc i) tokens);
    alive = reached-alive (words_of text (take i tokens)) state (reached (words_of text (take i tokens)) state h);
    dead = refused-dead (words_of text (take i tokens)) (word_at text (get_or tokens i d)) state wanted h e.0;
  };
}

pub stop_cause : (text : List ℕ) (tokens : List Token) (i : ℕ) (d : Token) (state : State) (fault : SyntaxFault) → LeadsTo text (take i tokens) state → i < length tokens
    → StopsHere text (get_or tokens i d) state fault → HasCause text tokens fault
stop_cause text tokens i d state (Bad place wanted) h l e =
    (refused_here text tokens i d state wanted place h l e, wanted_here (words_of text (take i tokens)) (word_at text (get_or tokens i d)) state wanted h e.0)
stop_cause text tokens i d state OutOfMemory h l e = tt

none_spelled : (words before after : List Word) → IsFirstRefused words before after → (file : File) → SpellsFile words file → ⊥
none_spelled words before [] r file s = r.dead file (subst (λ (ws : List Word). SpellsFile ws file) (r.split ∙ append-nil before) s)
none_spelled words before (word ∷ after) r file s = r.dead after file (subst (λ (ws : List Word). SpellsFile ws file) r.split s)

pub stop_only : (text : List ℕ) (tokens : List Token) (fault : SyntaxFault) → HasCause text tokens fault → (file : File) → SpellsFile (words_of text tokens) file → fault ≡ OutOfMemory
stop_only text tokens (Bad place wanted) cause file s =
    absurd (none_spelled (words_of text tokens) (words_of text cause.0.before) (words_of text cause.0.after) cause.0.refused file s)
stop_only text tokens OutOfMemory cause file s = refl

file_some : (x : Position) → IsFile x → components_of x ≡ None → ⊥
file_some (position.Outside (o.File components)) is none = cc
file_some _ is none = is

all_taken : (text : List ℕ) (tokens : List Token) (i : ℕ) (state : State) → LeadsTo text (take i tokens) state → length tokens ≤ i → LeadsTo text tokens state
all_taken text tokens i state h l = ap (λ (ts : List Token). run (Ok first_state) (words_of text ts)) (sym (take_all i tokens l)) ∙ h

abbrev ended_here : (text : List ℕ) (tokens : List Token) (i : ℕ) (state : State) → LeadsTo text (take i tokens) state → length tokens ≤ i
    → components_of state.position ≡ None → IsRefusedAt text tokens (length text)
ended_here text tokens i state h l none =
    let all = all_taken text tokens i state h l in
    record {
      before = tokens;
      after = [];
      split = sym (append-nil tokens);
      place_is = refl;
      refused = record {
        split = sym (append-nil (words_of text tokens));
        alive = reached-alive (words_of text tokens) state (reached (words_of text tokens) state all);
        dead = unfinished-dead (words_of text tokens) state all (λ is. file_some state.position is none);
      };
    }

pub end_cause : (text : List ℕ) (tokens : List Token) (i : ℕ) (state : State) → LeadsTo text (take i tokens) state → length tokens ≤ i
    → components_of state.position ≡ None → HasCause text tokens (Bad (length text) wanted_.Token)
end_cause text tokens i state h l none = (ended_here text tokens i state h l none, refl)

by_position : (words : List Word) (x : Position) (stack : List Frame) (components : List Component) → run (Ok first_state) words ≡ Ok (record { position = x; stack = stack })
    → components_of x ≡ Some components → SpellsFile words (record { components = components })
by_position words (position.Outside (o.File found)) stack components h e =
    let same : found ≡ components = cc in
    subst (λ (cs : List Component). SpellsFile words (record { components = cs })) same (found-file words found stack h)
by_position words _ stack components h e = absurd cc

pub end_found : (text : List ℕ) (tokens : List Token) (i : ℕ) (state : State) (components : List Component) → LeadsTo text (take i tokens) state → length tokens ≤ i
    → components_of state.position ≡ Some components → SpellsFile (words_of text tokens) (record { components = components })
end_found text tokens i state components h l e = by_position (words_of text tokens) state.position state.stack components (all_taken text tokens i state h l) e
