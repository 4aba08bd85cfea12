-- Units of a flush, and how many marks they leave.
use Rattle.std.proofs.Common.{◌≡◌, ℕ, Bool, true, false, List, [], ◌∷◌, Some, None, sym, ◌∙◌, ap, subst, refl}
use Rattle.std.proofs.lemmas.List.{length-set}
use Rattle.id_lists.specs.Lists.{first_of}
use Rattle.flush_queues.specs.Flows.{Tables}
use Rattle.flush_queues.specs.Flushed.{AreAsMany}
use Rattle.flush_queues.specs.Flushing.{Flushes, Sends, Serves, Unit as FlushUnit, begins, goes_on as goes_on_without_shell, leaves, over, refuses, reveals, role_at, sends_complete, sends_partial, serves, stops, stops_at_shell, turns, with_moved, with_refused}
use Rattle.flush_queues.specs.Printing.{Job, Prints, ends, goes_on, has_failed, is_child, is_inline, is_late, names, passes, prints}
use Rattle.flush_queues.specs.Queues.{queue_of}
use Rattle.flush_queues.specs.declared.flow.Flow.{Flow}
use Rattle.flush_queues.specs.declared.queues.Queue.{Queue}
use Rattle.flush_queues.specs.declared.queues.Queue.TheVariants.{ClientRendered}
use Rattle.flush_queues.specs.declared.sending.Role.{Role}
use Rattle.flush_queues.specs.declared.sending.Role.TheVariants.{Content, Inner}

pub not_true : (b : Bool) → b ≡ false → b ≡ true → ⊥
not_true b no_test yes_test = cc

pub first-some : (xs : List ℕ) (x : ℕ) → first_of xs ≡ Some x → (later : List ℕ) × (xs ≡ x ∷ later)
first-some [] x is = absurd cc
first-some (y ∷ ys) x is = let same : y ≡ x = cc in (ys, ap (λ z. z ∷ ys) same)

pub first-none : (xs : List ℕ) → first_of xs ≡ None → xs ≡ []
first-none [] is = refl
first-none (y ∷ ys) is = absurd cc

pub client_unit : (t : Tables) (queue : Queue) (boundary : ℕ) (flow new : Flow) → queue ≡ ClientRendered
    → new ≡ with_refused t boundary flow → (others : List ℕ) → queue_of flow.queues queue ≡ boundary ∷ others
    → FlushUnit t queue flow new
client_unit t queue boundary flow new queue_is is others first =
    subst (λ q. FlushUnit t q flow new) (sym queue_is)
    (subst (λ f. FlushUnit t ClientRendered flow f) (sym is)
    (refuses boundary others flow (subst (λ q. queue_of flow.queues q ≡ boundary ∷ others) queue_is first)))

as_many : (f : Flow) → AreAsMany f f
as_many f = record { segments = refl; boundaries = refl }

joined : (f g h : Flow) → AreAsMany f g → AreAsMany g h → AreAsMany f h
joined f g h a b = record { segments = b.segments ∙ a.segments; boundaries = b.boundaries ∙ a.boundaries }

module _ (t : Tables) where
  pub Prints-as_many : (job : Job) (flow after : Flow) → Prints t job flow after → AreAsMany flow after
  Prints-as_many _ _ _ (ends bytes place flow) = record { segments = refl; boundaries = refl }
  Prints-as_many _ _ _ (goes_on bytes place k kids flow between after p q) =
      let a = Prints-as_many _ _ _ p in
      let b = Prints-as_many _ _ _ q in
      record { segments = b.segments ∙ a.segments; boundaries = b.boundaries ∙ a.boundaries }
  Prints-as_many _ _ _ (passes s flow stage) = as_many flow
  Prints-as_many _ _ _ (names s flow stage) = record { segments = length-set flow.segments s _; boundaries = refl }
  Prints-as_many _ _ _ (prints s bytes flow after stage p) =
      let a = Prints-as_many _ _ _ p in
      record { segments = a.segments ∙ length-set flow.segments s _; boundaries = a.boundaries }
  Prints-as_many _ _ _ (is_child k flow after site p) = Prints-as_many _ _ _ p
  Prints-as_many _ _ _ (has_failed k boundary digest flow after site way p) =
      let a = Prints-as_many _ _ _ p in record { segments = a.segments; boundaries = a.boundaries }
  Prints-as_many _ _ _ (is_inline k boundary flow after site way p) =
      let a = Prints-as_many _ _ _ p in
      record { segments = a.segments; boundaries = a.boundaries ∙ length-set flow.boundaries boundary _ }
  Prints-as_many _ _ _ (is_late k boundary flow after site way p) =
      let a = Prints-as_many _ _ _ p in
      record { segments = a.segments; boundaries = a.boundaries ∙ length-set flow.boundaries boundary _ }

  with_moved-as_many : (role : Role) (s : ℕ) (flow : Flow) → AreAsMany flow (with_moved t role s flow)
  with_moved-as_many Content s flow = as_many flow
  with_moved-as_many Inner s flow = record { segments = refl; boundaries = refl }

  Sends-as_many : (boundary s : ℕ) (flow after : Flow) → Sends t boundary s flow after → AreAsMany flow after
  Sends-as_many boundary s flow after sends =
      let a = Prints-as_many _ _ _ sends.printed in
      let b = with_moved-as_many (role_at t s) s _ in
      subst (λ f. AreAsMany flow f) (sym sends.ended)
      (record { segments = b.segments ∙ a.segments; boundaries = b.boundaries ∙ a.boundaries })

  Unit-as_many : (queue : Queue) (flow after : Flow) → FlushUnit t queue flow after → AreAsMany flow after
  Unit-as_many _ _ _ (refuses boundary others flow first) = record { segments = refl; boundaries = refl }
  Unit-as_many _ _ _ (sends_complete boundary s others later flow after first ready sends) =
      Sends-as_many boundary s flow after sends
  Unit-as_many _ _ _ (reveals boundary others flow first ready) =
      record { segments = refl; boundaries = length-set flow.boundaries boundary _ }
  Unit-as_many _ _ _ (sends_partial boundary s others later flow after first ready sends) =
      let a = Sends-as_many boundary s flow after sends in
      record { segments = a.segments; boundaries = a.boundaries }
  Unit-as_many _ _ _ (leaves boundary others flow first ready) = record { segments = refl; boundaries = refl }

  Serves-as_many : (budget : ℕ) (queues : List Queue) (flow after : Flow) → Serves t budget queues flow after
      → AreAsMany flow after
  Serves-as_many budget _ _ _ (over flow) = as_many flow
  Serves-as_many budget _ _ _ (turns queue queues flow after first s) = Serves-as_many budget _ _ _ s
  Serves-as_many budget _ _ _ (stops queue queues flow after u enough) = Unit-as_many queue flow after u
  Serves-as_many budget _ _ _ (serves queue queues flow between after u enough s) =
      joined flow between after (Unit-as_many queue flow between u) (Serves-as_many budget _ _ _ s)

  pub Flushes-as_many : (budget : ℕ) (flow after : Flow) → Flushes t budget flow after → AreAsMany flow after
  Flushes-as_many budget _ _ (goes_on_without_shell flow after shell s) = Serves-as_many budget _ _ _ s
  Flushes-as_many budget _ _ (stops_at_shell s flow after shell p enough) =
      let a = Prints-as_many _ _ _ p in record { segments = a.segments; boundaries = a.boundaries }
  Flushes-as_many budget _ _ (begins s flow between after shell p enough later) =
      let a = Prints-as_many _ _ _ p in
      let b = Serves-as_many budget _ _ _ later in
      record { segments = b.segments ∙ a.segments; boundaries = b.boundaries ∙ a.boundaries }
