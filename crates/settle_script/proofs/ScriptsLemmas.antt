-- The lines of a script and what they settle.
use Rattle.std.proofs.Common.{◌≡◌, ℕ, suc, ◌+◌, ◌<◌, ◌≤◌, min, nat_lt, Bool, true, false, if◌then◌else◌, Option, Some, None, inl, inr, Result, Err, List, [], ◌∷◌, ◌++◌, length, refl, sym, ap, ◌∙◌, arith}
use Rattle.std.specs.Prelude.{is_some, not, filter_map}
use Rattle.std.specs.List.{position_or_len}
use Rattle.std.specs.Option.{option_to_list}
use Rattle.std.specs.Str.{bytes_eq}
use Rattle.std.proofs.lemmas.Bool.{cases_lt, lt-ltb, le-ltb}
use Rattle.std.proofs.lemmas.List.Elements.{filter_map-append}
use Rattle.serde_json.specs.Data.{array}
use Rattle.serde_json.specs.View.{items_view}
use Rattle.serde_json.specs.declared.value.Value.{Value as Json}
use Rattle.settle_script.specs.declared.value.Entry.{Entry}
use Rattle.settle_script.specs.declared.outcome.Outcome.{Outcome}
use Rattle.settle_script.specs.declared.event.Event.{Event}
use Rattle.settle_script.specs.declared.event.Event.TheVariants.{Resolve, Reject, Work, Flush}
use Rattle.settle_script.specs.declared.fault.ScriptFault.{ScriptFault}
use Rattle.settle_script.specs.declared.fault.ScriptFault.TheVariants.{TooManyEvents}
use Rattle.settle_script.specs.Settlements.{entry_named, IsNew}
use Rattle.settle_script.specs.Scripts.{outcomes_of, settlement_of, settled_name, is_name, first_settling, settled_before, line_count, script_of, events_of, Answers}

-- one more line
cons_is : (event : Event) → filter_map settlement_of (event ∷ []) ≡ option_to_list (settlement_of event)
cons_is (Resolve name value) = refl
cons_is (Reject name digest) = refl
cons_is (Work count) = refl
cons_is (Flush budget) = refl

pub outcomes_of-push : (events : List Event) (event : Event)
    → outcomes_of (events ++ event ∷ []) ≡ outcomes_of events ++ option_to_list (settlement_of event)
outcomes_of-push events event = filter_map-append settlement_of events (event ∷ []) ∙ ap (λ (s : List (Entry Outcome)). outcomes_of events ++ s) (cons_is event)

-- lines settle at most as many names
pub length-outcomes_of : (events : List Event) → length (outcomes_of events) ≤ length events
length-outcomes_of [] = omega arith
length-outcomes_of (Resolve name value ∷ events) = let h = length-outcomes_of events in omega arith
length-outcomes_of (Reject name digest ∷ events) = let h = length-outcomes_of events in omega arith
length-outcomes_of (Work count ∷ events) = let h = length-outcomes_of events in omega arith
length-outcomes_of (Flush budget ∷ events) = let h = length-outcomes_of events in omega arith

-- a name has an outcome exactly where a line settles it
ltb-suc : (a b : ℕ) → nat_lt (1 + a) (suc b) ≡ nat_lt a b
ltb-suc a b = elim (cases_lt a b) [
  | inl less ↦ lt-ltb (1 + a) (suc b) (omega arith) ∙ sym (lt-ltb a b less)
  | inr le ↦ le-ltb (1 + a) (suc b) (omega arith) ∙ sym (le-ltb a b le)
]

step_named : (b : Bool) (p n : ℕ) (o : Option Outcome) (v : Outcome) → nat_lt p n ≡ is_some o
    → nat_lt (if not b then 1 + p else 0) (suc n) ≡ is_some (if b then Some v else o)
step_named true p n o v is = lt-ltb 0 (suc n) (omega arith)
step_named false p n o v is = ltb-suc p n ∙ is

step_unnamed : (p n : ℕ) (o : Option Outcome) → nat_lt p n ≡ is_some o → nat_lt (1 + p) (suc n) ≡ is_some o
step_unnamed p n o is = ltb-suc p n ∙ is

pub settles-named : (name : List ℕ) (events : List Event)
    → nat_lt (position_or_len (λ event. is_name name (settled_name event)) events) (length events) ≡ is_some (entry_named name (outcomes_of events))
settles-named name [] = refl
settles-named name (Resolve n value ∷ events) =
    step_named (bytes_eq name n) (position_or_len (λ event. is_name name (settled_name event)) events) (length events) (entry_named name (outcomes_of events)) _ (settles-named name events)
settles-named name (Reject n digest ∷ events) =
    step_named (bytes_eq name n) (position_or_len (λ event. is_name name (settled_name event)) events) (length events) (entry_named name (outcomes_of events)) _ (settles-named name events)
settles-named name (Work count ∷ events) =
    step_unnamed (position_or_len (λ event. is_name name (settled_name event)) events) (length events) (entry_named name (outcomes_of events)) (settles-named name events)
settles-named name (Flush budget ∷ events) =
    step_unnamed (position_or_len (λ event. is_name name (settled_name event)) events) (length events) (entry_named name (outcomes_of events)) (settles-named name events)

none_at : (b : Bool) (n : ℕ) → b ≡ false → None ≡ (if b then Some n else None)
none_at true n is = absurd (cc)
none_at false n is = refl

pub never_settled : (name : List ℕ) (events : List Event) (outcomes : List (Entry Outcome)) → outcomes ≡ outcomes_of events
    → is_some (entry_named name outcomes) ≡ false → None ≡ first_settling name events
never_settled name events outcomes are none =
    none_at (nat_lt (position_or_len (λ event. is_name name (settled_name event)) events) (length events)) _
    (settles-named name events ∙ sym (ap (λ (os : List (Entry Outcome)). is_some (entry_named name os)) are) ∙ none)

none_from : (b : Bool) (n : ℕ) (o : Option Outcome) → b ≡ is_some o → (if b then Some n else None) ≡ None → o ≡ None
none_from true n o is none = absurd (cc)
none_from false n None is none = refl
none_from false n (Some v) is none = absurd (let e : false ≡ true = is in cc)

name_new : (name : List ℕ) (events : List Event) → first_settling name events ≡ None → entry_named name (outcomes_of events) ≡ None
name_new name events none =
    none_from (nat_lt (position_or_len (λ event. is_name name (settled_name event)) events) (length events)) _
    (entry_named name (outcomes_of events)) (settles-named name events) none

pub settlement_new : (event : Event) (events : List Event) → settled_before (settled_name event) events ≡ None
    → IsNew (settlement_of event) (outcomes_of events)
settlement_new (Resolve name value) events none = name_new name events none
settlement_new (Reject name digest) events none = name_new name events none
settlement_new (Work count) events none = tt
settlement_new (Flush budget) events none = tt

-- as many lines as JSON values
pub line_count-view : (lines : List Json) → line_count (items_view lines) ≡ length lines
line_count-view [] = refl
line_count-view (line ∷ lines) = let h = line_count-view lines in omega arith

-- the answers for too many lines and for others
pub many_lines : (lines : List Json) (n : ℕ) → 65536 < length lines → n ≡ min (length lines) 4294967295
    → script_of (Some (array (items_view lines))) ≡ Err (TooManyEvents n)
many_lines lines n many is =
    let count : line_count (items_view lines) ≡ length lines = line_count-view lines in
    rw count (rw (lt-ltb 65536 (length lines) many) (ap (λ (k : ℕ). Err (TooManyEvents k)) (sym is)))

pub few_lines : (lines : List Json) (r : Result (List Event) ScriptFault) → length lines ≤ 65536 → Answers r (events_of [] (items_view lines))
    → Answers r (script_of (Some (array (items_view lines))))
few_lines lines r few answers =
    let count : line_count (items_view lines) ≡ length lines = line_count-view lines in
    rw count (rw (le-ltb 65536 (length lines) few) answers)
