-- Steps in a row, and what a sink has taken of them.
use Rattle.std.proofs.Common.{◌≡◌, ℕ, ◌+◌, ◌<◌, ◌≤◌, List, [], ◌∷◌, ◌++◌, length, take, drop, map, get_or, Option, Some, None, Result, Ok, Err, IfErr, IfOk, OnOk, refl, sym, ap, subst, ◌∙◌, arith}
use Rattle.std.proofs.lemmas.List.{append-nil, append_assoc, length-append, map-append, replicate_more, take-append-drop, take_all, take_more}
use Rattle.std.proofs.Math.Seq.{drop-append_seam, take-append-add}
use Rattle.std.proofs.KnownBytes.{Appends-nil, Appends-trans}
use Rattle.std.specs.Io.KnownBytes.{Appends}
use Rattle.settle_script.specs.declared.event.Event.{Event}
use Rattle.settle_script.specs.declared.event.Event.TheVariants.{Flush, Work}
use Rattle.fizz_outside.specs.Faults.{FaultCounted}
use Rattle.fizz_piece.specs.declared.plan.Plan.{Plan}
use Rattle.request_laws.specs.Transcripts.{Sends, SendsNothing}
use Rattle.request_laws.specs.Works.{WorksStand}
use Rattle.request_state.specs.Core.{Core, free, new_core}
use Rattle.inline_run.specs.Runs.{EndsEarly, IsCutRun, IsRun, IsWhy, Runs, RunsInto, TakesSteps, begins, goes_on, last_steps, steps_of}
use Rattle.inline_run.specs.Sending.{EndsAtFinish, EndsAtFlush, EndsOn, EndsSending, Finishes, FlushesAll, Steps, StepsOn, flushes_of}
use Rattle.inline_run.specs.Steps.{Step, TakesStep, close, line, reclaim}
use Rattle.inline_run.specs.declared.run.Report.{Report}
use Rattle.inline_run.specs.declared.run.RunFault.{RunFault}
use Rattle.inline_run.specs.declared.run.RunFault.TheVariants.{ShellFailed, SinkFault, OutOfMemory}

taken_on : (plan : Plan) (a b c : Core) (xs ys : List Step) → TakesSteps plan a xs b → TakesSteps plan b ys c
    → TakesSteps plan a (xs ++ ys) c
taken_on plan a b c xs _ first begins = subst (λ l. TakesSteps plan a l b) (sym (append-nil xs)) first
taken_on plan a b c xs _ first (goes_on ys step old new more sound taken) =
    subst (λ l. TakesSteps plan a l c) (append_assoc xs ys (step ∷ []))
    (goes_on (xs ++ ys) step old c (taken_on plan a b old xs ys first more) sound taken)

sends_on : (a b c : Core) (xs ys : List ℕ) → Sends xs a b → Sends ys b c → Sends (xs ++ ys) a c
sends_on a b c xs ys first second =
    second ∙ ap (λ (l : List ℕ). l ++ ys) first ∙ append_assoc a.transcript xs ys

fault_later : (a b c : ℕ) → a ≤ b → FaultCounted b c → FaultCounted a c
fault_later a b c more fault = omega (arith, more, fault)

why_later : (fault : RunFault) (last : Core) (a b c : ℕ) → a ≤ b → IsWhy fault last b c → IsWhy fault last a c
why_later (ShellFailed digest) last a b c more why = why
why_later SinkFault last a b c more why = fault_later a b c more why
why_later OutOfMemory last a b c more why = tt

-- No step is taken.
pub none_taken : (plan : Plan) (old : Core) (held : Option (List ℕ)) (faults : ℕ) → old.failure ≡ None → WorksStand plan old
    → StepsOn plan [] old old held held faults faults
none_taken plan old held faults sound works = record {
  taken = begins;
  sound = sound;
  works = works;
  bytes = [];
  sends = sym (append-nil old.transcript);
  appended = Appends-nil held;
  later = omega arith;
}

pub new_bytes : (old new : Core) (bytes : List ℕ) → Sends bytes old new
    → drop (length old.transcript) new.transcript ≡ bytes
new_bytes old new bytes sends =
    ap (drop (length old.transcript)) sends ∙ drop-append_seam old.transcript bytes

-- One step is taken.
pub one_taken : (plan : Plan) (step : Step) (old new : Core) (held held_after : Option (List ℕ)) (faults faults_after : ℕ)
    → Steps plan step old new → old.failure ≡ None → new.failure ≡ None
    → Appends held held_after (drop (length old.transcript) new.transcript) → faults ≤ faults_after
    → StepsOn plan (step ∷ []) old new held held_after faults faults_after
one_taken plan step old new held held_after faults faults_after steps before after sent later = record {
  taken = goes_on [] step old new begins before steps.taken;
  sound = after;
  works = steps.works;
  bytes = steps.bytes;
  sends = steps.sends;
  appended = subst (Appends held held_after) (new_bytes old new steps.bytes steps.sends) sent;
  later = later;
}

-- the old transcript is within the new one
pub not_shorter : (old new : Core) (bytes : List ℕ) → Sends bytes old new → length old.transcript ≤ length new.transcript
not_shorter old new bytes sends = omega (arith, ap length sends, length-append old.transcript bytes)

-- One step is taken, and the run ends.
pub ends_after : (plan : Plan) (step : Step) (old new : Core) (held held_after : Option (List ℕ)) (faults faults_after : ℕ)
    (fault : RunFault) → Steps plan step old new → old.failure ≡ None
    → EndsSending new (drop (length old.transcript) new.transcript) held held_after faults faults_after fault
    → EndsOn plan (step ∷ []) old held held_after faults faults_after fault
ends_after plan step old new held held_after faults faults_after fault steps before ends = record {
  last = new;
  steps = step ∷ [];
  others = [];
  split = refl;
  taken = goes_on [] step old new begins before steps.taken;
  bytes = steps.bytes;
  sends = steps.sends;
  size = ends.size;
  part = subst (λ l. Appends held held_after (take ends.size l)) (new_bytes old new steps.bytes steps.sends) ends.part;
  why = ends.why;
}

-- No step is taken, and the run ends for want of memory.
pub ends_before : (plan : Plan) (whole : List Step) (old : Core) (held : Option (List ℕ)) (faults : ℕ) (fault : RunFault)
    → fault ≡ OutOfMemory → EndsOn plan whole old held held faults faults fault
ends_before plan whole old held faults fault is = subst (EndsOn plan whole old held held faults faults) (sym is) (record {
  last = old;
  steps = [];
  others = whole;
  split = refl;
  taken = begins;
  bytes = [];
  sends = sym (append-nil old.transcript);
  size = 0;
  part = Appends-nil held;
  why = tt;
})

-- Steps are taken after steps.
pub steps_more : (plan : Plan) (xs ys : List Step) (a b c : Core) (held mid after : Option (List ℕ)) (f g h : ℕ)
    → StepsOn plan xs a b held mid f g → StepsOn plan ys b c mid after g h → StepsOn plan (xs ++ ys) a c held after f h
steps_more plan xs ys a b c held mid after f g h first second = record {
  taken = taken_on plan a b c xs ys first.taken second.taken;
  sound = second.sound;
  works = second.works;
  bytes = first.bytes ++ second.bytes;
  sends = sends_on a b c first.bytes second.bytes first.sends second.sends;
  appended = Appends-trans held mid after first.bytes second.bytes first.appended second.appended;
  later = omega (arith, first.later, second.later);
}

-- A run ends after steps.
pub ends_later : (plan : Plan) (xs ys : List Step) (a b : Core) (held mid after : Option (List ℕ)) (f g h : ℕ)
    (fault : RunFault) → StepsOn plan xs a b held mid f g → EndsOn plan ys b mid after g h fault
    → EndsOn plan (xs ++ ys) a held after f h fault
ends_later plan xs ys a b held mid after f g h fault first ends = record {
  last = ends.last;
  steps = xs ++ ends.steps;
  others = ends.others;
  split = append_assoc xs ends.steps ends.others ∙ ap (λ (l : List Step). xs ++ l) ends.split;
  taken = taken_on plan a b ends.last xs ends.steps first.taken ends.taken;
  bytes = first.bytes ++ ends.bytes;
  sends = sends_on a b ends.last first.bytes ends.bytes first.sends ends.sends;
  size = length first.bytes + ends.size;
  part = subst (Appends held after) (sym (take-append-add first.bytes ends.bytes ends.size))
      (Appends-trans held mid after first.bytes (take ends.size ends.bytes) first.appended ends.part);
  why = why_later fault ends.last f g h first.later ends.why;
}

-- More steps would have been to take.
pub ends_of_more : (plan : Plan) (xs ys : List Step) (a : Core) (held after : Option (List ℕ)) (f g : ℕ) (fault : RunFault)
    → EndsOn plan xs a held after f g fault → EndsOn plan (xs ++ ys) a held after f g fault
ends_of_more plan xs ys a held after f g fault ends = record {
  last = ends.last;
  steps = ends.steps;
  others = ends.others ++ ys;
  split = sym (append_assoc ends.steps ends.others ys) ∙ ap (λ (l : List Step). l ++ ys) ends.split;
  taken = ends.taken;
  bytes = ends.bytes;
  sends = ends.sends;
  size = ends.size;
  part = ends.part;
  why = ends.why;
}

-- A step that sends nothing.
pub silent_step : (plan : Plan) (step : Step) (old new : Core) → TakesStep plan step old new → WorksStand plan new
    → SendsNothing old new → Steps plan step old new
silent_step plan step old new taken works silent = record {
  taken = taken;
  works = works;
  bytes = [];
  sends = silent.transcript ∙ sym (append-nil old.transcript);
}

-- A step that sends some bytes.
pub sending_step : (plan : Plan) (step : Step) (old new : Core) → TakesStep plan step old new → WorksStand plan new
    → (bytes : List ℕ) × Sends bytes old new → Steps plan step old new
sending_step plan step old new taken works sent = record {
  taken = taken;
  works = works;
  bytes = sent.0;
  sends = sent.1;
}

-- After a step its bytes are sent, unless the run ends.
pub step_goes_on : {T : Type 0} (plan : Plan) (step : Step) (old new : Core) (from : ℕ) (held held_after : Option (List ℕ))
    (faults faults_after : ℕ) (result : Result T RunFault) → Steps plan step old new → old.failure ≡ None
    → from ≡ length old.transcript → OnOk result (new.failure ≡ None)
    → OnOk result (Appends held held_after (drop from new.transcript)) → faults ≤ faults_after
    → OnOk result (StepsOn plan (step ∷ []) old new held held_after faults faults_after)
step_goes_on plan step old new from held held_after faults faults_after (Ok done) steps before is sound sent later =
    one_taken plan step old new held held_after faults faults_after steps before sound
    (subst (λ n. Appends held held_after (drop n new.transcript)) is sent) later
step_goes_on plan step old new from held held_after faults faults_after (Err fault) steps before is sound sent later = tt

pub step_ends : {T : Type 0} (plan : Plan) (step : Step) (old new : Core) (from : ℕ) (held held_after : Option (List ℕ))
    (faults faults_after : ℕ) (result : Result T RunFault) → Steps plan step old new → old.failure ≡ None
    → from ≡ length old.transcript
    → IfErr result (EndsSending new (drop from new.transcript) held held_after faults faults_after)
    → IfErr result (EndsOn plan (step ∷ []) old held held_after faults faults_after)
step_ends plan step old new from held held_after faults faults_after (Ok done) steps before is ends = tt
step_ends plan step old new from held held_after faults faults_after (Err fault) steps before is ends =
    ends_after plan step old new held held_after faults faults_after fault steps before
    (subst (λ n. EndsSending new (drop n new.transcript) held held_after faults faults_after fault) is ends)

pub if_err : {A E : Type 0} (result : Result A E) (P : E → Type 0) (e : E) → result ≡ Err e → P e → IfErr result P
if_err result P e is holds = subst (λ r. IfErr r P) (sym is) holds

-- The fault that ends the sending after a step ends the run.
pub step_ends_as : {T : Type 0} (plan : Plan) (step : Step) (old new : Core) (from : ℕ) (held held_after : Option (List ℕ))
    (faults faults_after : ℕ) (why : RunFault) (result : Result T RunFault) (fault : RunFault) → Steps plan step old new
    → old.failure ≡ None → from ≡ length old.transcript → result ≡ Err fault → fault ≡ why
    → EndsSending new (drop from new.transcript) held held_after faults faults_after why
    → IfErr result (EndsOn plan (step ∷ []) old held held_after faults faults_after)
step_ends_as plan step old new from held held_after faults faults_after why result fault steps before is err same ends =
    if_err result (EndsOn plan (step ∷ []) old held held_after faults faults_after) fault err
    (ends_after plan step old new held held_after faults faults_after fault steps before
    (subst (EndsSending new _ held held_after faults faults_after) (sym same)
    (subst (λ n. EndsSending new (drop n new.transcript) held held_after faults faults_after why) is ends)))

pub one_taken_from : (plan : Plan) (step : Step) (old new : Core) (from : ℕ) (held held_after : Option (List ℕ))
    (faults faults_after : ℕ) → Steps plan step old new → old.failure ≡ None → new.failure ≡ None
    → from ≡ length old.transcript → Appends held held_after (drop from new.transcript) → faults ≤ faults_after
    → StepsOn plan (step ∷ []) old new held held_after faults faults_after
one_taken_from plan step old new from held held_after faults faults_after steps before after is sent later =
    one_taken plan step old new held held_after faults faults_after steps before after
    (subst (λ n. Appends held held_after (drop n new.transcript)) is sent) later

-- A run goes on under the same plan.
pub then_steps : (plan other : Plan) → other ≡ plan → (xs ys : List Step) (a b c : Core) (held mid after : Option (List ℕ))
    (f g h : ℕ) → StepsOn plan xs a b held mid f g → StepsOn other ys b c mid after g h
    → StepsOn plan (xs ++ ys) a c held after f h
then_steps plan other same xs ys a b c held mid after f g h first second =
    steps_more plan xs ys a b c held mid after f g h first
    (subst (λ (p : Plan). StepsOn p ys b c mid after g h) same second)

pub then_ends : (plan other : Plan) → other ≡ plan → (xs ys : List Step) (a b : Core) (held mid after : Option (List ℕ))
    (f g h : ℕ) (fault : RunFault) → StepsOn plan xs a b held mid f g → EndsOn other ys b mid after g h fault
    → EndsOn plan (xs ++ ys) a held after f h fault
then_ends plan other same xs ys a b held mid after f g h fault first ends =
    ends_later plan xs ys a b held mid after f g h fault first
    (subst (λ (p : Plan). EndsOn p ys b mid after g h fault) same ends)

pub on_ok_map : {A E : Type 0} (result : Result A E) (P Q : Type 0) → OnOk result P → (P → Q) → OnOk result Q
on_ok_map (Ok a) P Q holds on = on holds
on_ok_map (Err e) P Q holds on = tt

pub if_err_map : {A E : Type 0} (result : Result A E) (P Q : E → Type 0) → IfErr result P → ((e : E) → P e → Q e)
    → IfErr result Q
if_err_map (Ok a) P Q holds on = tt
if_err_map (Err e) P Q holds on = on e holds

-- Lines.

pub lines_more : (lines : List Event) (i : ℕ) (x : Event) → i < length lines → get_or lines i x ≡ x
    → map line (take i lines) ++ line x ∷ [] ≡ map line (take (i + 1) lines)
lines_more lines i x within is =
    sym (ap (map line) (take_more lines i x within ∙ ap (λ (y : Event). take i lines ++ y ∷ []) is)
    ∙ map-append line (take i lines) (x ∷ []))

pub lines_rest : (lines : List Event) (n : ℕ) → map line (take n lines) ++ map line (drop n lines) ≡ map line lines
lines_rest lines n = sym (map-append line (take n lines) (drop n lines)) ∙ ap (map line) (take-append-drop n lines)

-- Flushes.

pub flushes_more : (n : ℕ) → flushes_of n ++ line (Flush 0) ∷ [] ≡ flushes_of (n + 1)
flushes_more n = replicate_more n (line (Flush 0))

-- Whole runs.

pub early_of : (plan : Plan) (lines : List Event) (flushes : ℕ) (whole rest : List Step) (start : Core)
    (held mid after : Option (List ℕ)) (f g h : ℕ) (fault : RunFault) → whole ++ rest ≡ steps_of lines flushes
    → start.transcript ≡ [] → Appends held mid start.transcript → f ≤ g → EndsOn plan whole start mid after g h fault
    → EndsEarly plan lines start held after f h fault
early_of plan lines flushes whole rest start held mid after f g h fault is unsent begun more ends = record {
  last = ends.last;
  comes = record {
    flushes = flushes;
    steps = ends.steps;
    later = ends.others ++ rest;
    split = sym (append_assoc ends.steps ends.others rest) ∙ ap (λ (l : List Step). l ++ rest) ends.split ∙ is;
    taken = ends.taken;
  };
  size = ends.size;
  sent = subst (λ (l : List ℕ). Appends held after (take ends.size l)) (sym whole_bytes)
      (Appends-trans held mid after [] (take ends.size ends.bytes) (subst (Appends held mid) unsent begun) ends.part);
  why = why_later fault ends.last f g h more ends.why;
}
  where
    whole_bytes : ends.last.transcript ≡ ends.bytes
    whole_bytes = ends.sends ∙ ap (λ (l : List ℕ). l ++ ends.bytes) unsent

pub run_over : (plan other : Plan) → other ≡ plan → (lines : List Event) (start served end : Core)
    (mid later after : Option (List ℕ)) (g h k : ℕ) → StepsOn plan (map line lines) start served mid later g h
    → Finishes other served end later after h k → Runs plan lines start end
run_over plan other same lines start served end mid later after g h k first last =
    let all : StepsOn plan (steps_of lines last.flushes) start end mid after g k =
    then_steps plan other same (map line lines) (last_steps last.flushes) start served end mid later after g h k first
    last.stepped in
    record { flushes = last.flushes; taken = all.taken; sound = all.sound; nothing_left = last.nothing_left }

pub run_sent : (plan other : Plan) → other ≡ plan → (lines : List Event) (start served end : Core)
    (held mid later after : Option (List ℕ)) (g h k : ℕ) → start.transcript ≡ [] → Appends held mid start.transcript
    → StepsOn plan (map line lines) start served mid later g h → Finishes other served end later after h k
    → Appends held after end.transcript
run_sent plan other same lines start served end held mid later after g h k unsent begun first last =
    let all : StepsOn plan (steps_of lines last.flushes) start end mid after g k =
    then_steps plan other same (map line lines) (last_steps last.flushes) start served end mid later after g h k first
    last.stepped in
    subst (Appends held after) (sym (all.sends ∙ ap (λ (l : List ℕ). l ++ all.bytes) unsent))
    (Appends-trans held mid after [] all.bytes (subst (Appends held mid) unsent begun) all.appended)

-- the shell had failed before the run
pub failed_before : (plan : Plan) (lines : List Event) (start : Core) (held after : Option (List ℕ)) (f g : ℕ)
    (fault : RunFault) → EndsSending start start.transcript held after f g fault → EndsEarly plan lines start held after f g fault
failed_before plan lines start held after f g fault ends = record {
  last = start;
  comes = record { flushes = 0; steps = []; later = steps_of lines 0; split = refl; taken = begins };
  size = ends.size;
  sent = ends.part;
  why = ends.why;
}

-- a run whose report isn't made, for want of memory
pub unreported : (plan : Plan) (lines : List Event) (start end : Core) (held after : Option (List ℕ)) (f g : ℕ)
    (fault : RunFault) → fault ≡ OutOfMemory → Runs plan lines start end → Appends held after end.transcript
    → EndsEarly plan lines start held after f g fault
unreported plan lines start end held after f g fault is runs sent =
    subst (EndsEarly plan lines start held after f g) (sym is) (record {
      last = end;
      comes = record {
        flushes = runs.flushes;
        steps = steps_of lines runs.flushes;
        later = [];
        split = append-nil (steps_of lines runs.flushes);
        taken = runs.taken;
      };
      size = length end.transcript;
      sent = subst (Appends held after) (sym (take_all (length end.transcript) end.transcript (omega arith))) sent;
      why = tt;
    })

pub steps_of_line : (plan other : Plan) → other ≡ plan → (lines : List Event) (i : ℕ) (x : Event) (a b c : Core)
    (held mid after : Option (List ℕ)) (f g h : ℕ) → i < length lines → get_or lines i x ≡ x
    → StepsOn plan (map line (take i lines)) a b held mid f g → StepsOn other (line x ∷ []) b c mid after g h
    → StepsOn plan (map line (take (i + 1) lines)) a c held after f h
steps_of_line plan other same lines i x a b c held mid after f g h within is first second =
    subst (λ l. StepsOn plan l a c held after f h) (lines_more lines i x within is)
    (then_steps plan other same (map line (take i lines)) (line x ∷ []) a b c held mid after f g h first second)

pub ends_of_line : {T : Type 0} (plan other : Plan) → other ≡ plan → (lines : List Event) (i : ℕ) (x : Event) (a b : Core)
    (held mid after : Option (List ℕ)) (f g h : ℕ) (why : RunFault) (result : Result T RunFault) (fault : RunFault)
    → result ≡ Err fault → fault ≡ why → i < length lines → get_or lines i x ≡ x
    → StepsOn plan (map line (take i lines)) a b held mid f g → EndsOn other (line x ∷ []) b mid after g h why
    → IfErr result (EndsOn plan (map line lines) a held after f h)
ends_of_line plan other same lines i x a b held mid after f g h why result fault err alike within is first ends =
    if_err result (EndsOn plan (map line lines) a held after f h) fault err
    (subst (λ l. EndsOn plan l a held after f h fault) whole
    (ends_of_more plan (map line (take i lines) ++ line x ∷ []) (map line (drop (i + 1) lines)) a held after f h fault
    (subst (EndsOn plan (map line (take i lines) ++ line x ∷ []) a held after f h) (sym alike)
    (then_ends plan other same (map line (take i lines)) (line x ∷ []) a b held mid after f g h why first ends))))
  where
    whole : (map line (take i lines) ++ line x ∷ []) ++ map line (drop (i + 1) lines) ≡ map line lines
    whole = ap (λ (l : List Step). l ++ map line (drop (i + 1) lines)) (lines_more lines i x within is)
        ∙ lines_rest lines (i + 1)

pub steps_of_flush : (plan other : Plan) → other ≡ plan → (n : ℕ) (a b c : Core) (held mid after : Option (List ℕ)) (f g h : ℕ)
    → StepsOn plan (flushes_of n) a b held mid f g → StepsOn other (line (Flush 0) ∷ []) b c mid after g h
    → StepsOn plan (flushes_of (n + 1)) a c held after f h
steps_of_flush plan other same n a b c held mid after f g h first second =
    subst (λ l. StepsOn plan l a c held after f h) (flushes_more n)
    (then_steps plan other same (flushes_of n) (line (Flush 0) ∷ []) a b c held mid after f g h first second)

pub ends_of_flush : {T : Type 0} (plan other : Plan) → other ≡ plan → (n : ℕ) (a b : Core) (held mid after : Option (List ℕ))
    (f g h : ℕ) (why : RunFault) (result : Result T RunFault) (fault : RunFault) → result ≡ Err fault → fault ≡ why
    → StepsOn plan (flushes_of n) a b held mid f g → EndsOn other (line (Flush 0) ∷ []) b mid after g h why
    → IfErr result (EndsAtFlush plan a held after f h)
ends_of_flush plan other same n a b held mid after f g h why result fault err alike first ends =
    if_err result (EndsAtFlush plan a held after f h) fault err (record {
      flushes = n + 1;
      ended = subst (λ l. EndsOn plan l a held after f h fault) (flushes_more n)
          (subst (EndsOn plan (flushes_of n ++ line (Flush 0) ∷ []) a held after f h) (sym alike)
          (then_ends plan other same (flushes_of n) (line (Flush 0) ∷ []) a b held mid after f g h why first ends));
    })

-- after so many flushes something is left
pub too_many : (plan : Plan) (n : ℕ) (a b : Core) (held mid : Option (List ℕ)) (f g : ℕ)
    → StepsOn plan (flushes_of n) a b held mid f g → EndsAtFlush plan a held mid f g OutOfMemory
too_many plan n a b held mid f g first = record {
  flushes = n;
  ended = subst (λ l. EndsOn plan l a held mid f g OutOfMemory) (append-nil (flushes_of n))
      (then_ends plan plan refl (flushes_of n) [] a b held mid mid f g g OutOfMemory first
      (ends_before plan [] b mid g OutOfMemory refl));
}

-- The last steps one after another.

abbrev first_last : List Step
first_last = reclaim ∷ line (Work 0) ∷ close ∷ []

pub finishes : (plan other : Plan) → other ≡ plan → (a b c : Core) (held mid after : Option (List ℕ)) (f g h : ℕ)
    → StepsOn plan (reclaim ∷ line (Work 0) ∷ close ∷ []) a b held mid f g → FlushesAll other b c mid after g h
    → Finishes plan a c held after f h
finishes plan other same a b c held mid after f g h first last = record {
  flushes = last.flushes;
  stepped = then_steps plan other same first_last (flushes_of last.flushes) a b c held mid after f g h first last.stepped;
  nothing_left = last.nothing_left;
}

pub ends_flushing : (plan other : Plan) → other ≡ plan → (a b : Core) (held mid after : Option (List ℕ)) (f g h : ℕ)
    (fault : RunFault) → StepsOn plan (reclaim ∷ line (Work 0) ∷ close ∷ []) a b held mid f g
    → EndsAtFlush other b mid after g h fault → EndsAtFinish plan a held after f h fault
ends_flushing plan other same a b held mid after f g h fault first last = record {
  flushes = last.flushes;
  ended = then_ends plan other same first_last (flushes_of last.flushes) a b held mid after f g h fault first last.ended;
}

-- the run ends within the last steps, of which these were to be taken so far
pub ends_among : {T : Type 0} (plan : Plan) (whole rest : List Step) → whole ++ rest ≡ last_steps 0 → (a : Core)
    (held after : Option (List ℕ)) (f g : ℕ) (why : RunFault) (result : Result T RunFault) (fault : RunFault)
    → result ≡ Err fault → fault ≡ why → EndsOn plan whole a held after f g why
    → IfErr result (EndsAtFinish plan a held after f g)
ends_among plan whole rest is a held after f g why result fault err alike ends =
    if_err result (EndsAtFinish plan a held after f g) fault err (record {
      flushes = 0;
      ended = subst (EndsOn plan (last_steps 0) a held after f g) (sym alike)
          (subst (λ l. EndsOn plan l a held after f g why) is
          (ends_of_more plan whole rest a held after f g why ends));
    })

-- a fault that is handed on
pub fault_of : {T E : Type 0} (P : E → Type 0) (result : Result T E) (fault why : E) → result ≡ Err fault → fault ≡ why → P why
    → IfErr result P
fault_of P result fault why err alike holds = if_err result P fault err (subst P (sym alike) holds)

pub ends_at_lines : (plan : Plan) (lines : List Event) (start : Core) (held mid after : Option (List ℕ)) (f g h : ℕ)
    (fault : RunFault) → start.transcript ≡ [] → Appends held mid start.transcript → f ≤ g
    → EndsOn plan (map line lines) start mid after g h fault → EndsEarly plan lines start held after f h fault
ends_at_lines plan lines start held mid after f g h fault unsent begun more ends =
    early_of plan lines 0 (map line lines) (last_steps 0) start held mid after f g h fault refl unsent begun more ends

pub ends_at_finish : (plan other : Plan) → other ≡ plan → (lines : List Event) (start served : Core)
    (held mid later after : Option (List ℕ)) (f g h k : ℕ) (fault : RunFault) → start.transcript ≡ []
    → Appends held mid start.transcript → f ≤ g → StepsOn plan (map line lines) start served mid later g h
    → EndsAtFinish other served later after h k fault → EndsEarly plan lines start held after f k fault
ends_at_finish plan other same lines start served held mid later after f g h k fault unsent begun more first ends =
    early_of plan lines ends.flushes (steps_of lines ends.flushes) [] start held mid after f g k fault
    (append-nil (steps_of lines ends.flushes)) unsent begun more
    (then_ends plan other same (map line lines) (last_steps ends.flushes) start served mid later after g h k fault first
    ends.ended)

pub if_ok_map : {A E : Type 0} (result : Result A E) (P Q : A → Type 0) → IfOk result P → ((a : A) → P a → Q a)
    → IfOk result Q
if_ok_map (Ok a) P Q holds on = on a holds
if_ok_map (Err e) P Q holds on = tt

-- a run that isn't begun, for want of memory
pub not_begun : (plan : Plan) (lines : List Event) (held : Option (List ℕ)) (f : ℕ) (fault : RunFault) → fault ≡ OutOfMemory
    → IsCutRun plan lines held held f f fault
not_begun plan lines held f fault is = subst (IsCutRun plan lines held held f f) (sym is) (record {
  start = new_core;
  new = refl;
  ends = record {
    last = new_core;
    comes = record { flushes = 0; steps = []; later = steps_of lines 0; split = refl; taken = begins };
    size = 0;
    sent = Appends-nil held;
    why = tt;
  };
})

pub whole_run : (plan other : Plan) → other ≡ plan → (lines : List Event) (start : Core) (held after : Option (List ℕ))
    (report : Report) → free start ≡ new_core → RunsInto other lines start held after report → IsRun plan lines held after report
whole_run plan other same lines start held after report is runs = record {
  start = start;
  new = is;
  runs = subst (λ (p : Plan). RunsInto p lines start held after report) same runs;
}

pub cut_run : (plan other : Plan) → other ≡ plan → (lines : List Event) (start : Core) (held after : Option (List ℕ)) (f g : ℕ)
    (fault : RunFault) → free start ≡ new_core → EndsEarly other lines start held after f g fault
    → IsCutRun plan lines held after f g fault
cut_run plan other same lines start held after f g fault is ends = record {
  start = start;
  new = is;
  ends = subst (λ (p : Plan). EndsEarly p lines start held after f g fault) same ends;
}
