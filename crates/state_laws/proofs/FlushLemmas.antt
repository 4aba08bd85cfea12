-- A flush prints no segment that is open.
use Rattle.std.proofs.Common.{◌≡◌, ℕ, Bool, true, false, not, is_some, List, length, slice_set, Option, Some, None, inl, inr, refl, sym, ap, subst, ◌∙◌, arith}
use Rattle.std.proofs.lemmas.Bool.{cases_eq, cases_lt}
use Rattle.std.proofs.lemmas.List.{get_or_past, get_or-set_other, length-set}
use Rattle.fizz_segment.specs.declared.segment.Mark.{Mark}
use Rattle.fizz_segment.specs.declared.segment.Part.{Part}
use Rattle.fizz_segment.specs.declared.segment.SegKind.{SegKind}
use Rattle.fizz_segment.specs.declared.segment.SegKind.TheVariants.{Root, Child, Site}
use Rattle.fizz_segment.specs.Tree.{blank, mark_at, part_at}
use Rattle.flush_queues.specs.Flows.{Tables, complete, passed, pending, stage_of, stage_with}
use Rattle.flush_queues.specs.Flushing.{Flushes, Sends, Serves, Unit as FlushUnit, begins, goes_on as goes_on_without_shell, kind_role, leaves, over, part_role, refuses, reveals, sends_complete, sends_partial, serves, stops, stops_at_shell, turns, with_moved}
use Rattle.flush_queues.specs.Printing.{Job, Prints, ends, goes_on, has_failed, is_child, is_inline, is_late, names, passes, prints}
use Rattle.flush_queues.specs.declared.queues.Queue.{Queue}
use Rattle.state_laws.specs.Segments.{is_open}
use Rattle.state_laws.proofs.Points.{at_set}

-- No open segment is marked as printed.
abbrev pub AreUnprinted : List (Option Part) → List Mark → Type 0
AreUnprinted parts marks = (segment : ℕ) → is_open (part_at parts segment) ≡ true → (mark_at marks segment).printed ≡ false

pub set_unprinted : (parts : List (Option Part)) (marks : List Mark) (segment : ℕ) (mark : Mark)
    → (is_open (part_at parts segment) ≡ true → mark.printed ≡ false) → AreUnprinted parts marks
    → AreUnprinted parts (slice_set marks segment mark)
set_unprinted parts marks segment mark own all other opened = elim (cases_eq other segment) [
  | inl same ↦ elim (cases_lt segment (length marks)) [
    | inl within ↦ ap (λ (m : Mark). m.printed) (at_set marks segment mark blank other within same)
        ∙ own (subst (λ n. is_open (part_at parts n) ≡ true) same opened)
    | inr past ↦ ap (λ (m : Mark). m.printed) (get_or_past (slice_set marks segment mark) other blank
        (omega (arith, past, same, length-set marks segment mark)))
  ]
  | inr apart ↦ ap (λ (m : Mark). m.printed) (get_or-set_other marks segment other mark blank apart) ∙ all other opened
]

not_true : false ≡ true → ⊥
not_true e = cc

passed_apart : (bytes : List ℕ) → passed ≡ complete bytes → ⊥
passed_apart bytes e = cc

pending_apart : (bytes : List ℕ) → pending ≡ complete bytes → ⊥
pending_apart bytes e = cc

closed_with : (printed : Bool) (found : Option (List ℕ)) (bytes : List ℕ) → stage_with printed found ≡ complete bytes
    → not (is_some found) ≡ true → ⊥
closed_with true found bytes is opened = passed_apart bytes is
closed_with false None bytes is opened = pending_apart bytes is
closed_with false (Some all) bytes is opened = not_true opened

-- what has its bytes isn't open
complete_closed : (part : Option Part) (mark : Mark) (bytes : List ℕ) → stage_of part mark ≡ complete bytes
    → is_open part ≡ true → ⊥
complete_closed None mark bytes is opened = not_true opened
complete_closed (Some part) mark bytes is opened = closed_with mark.printed part.bytes bytes is opened

-- There are so many marks, of which none of an open segment says that it is printed.
pub record AreMarks (parts : List (Option Part)) (count : ℕ) (marks : List Mark) : Type 0 where
  pub unprinted : AreUnprinted parts marks
  pub counted : length marks ≡ count

module _ (t : Tables) (count : ℕ) where
  abbrev Good : List Mark → Type 0
  Good marks = AreMarks t.parts count marks

  set_good : (marks : List Mark) (segment : ℕ) (mark : Mark) → (is_open (part_at t.parts segment) ≡ true → mark.printed ≡ false)
      → Good marks → Good (slice_set marks segment mark)
  set_good marks segment mark own good = record {
    unprinted = set_unprinted t.parts marks segment mark own good.unprinted;
    counted = length-set marks segment mark ∙ good.counted;
  }

  printed_keeps : (job : Job) (flow after : _) → Prints t job flow after → Good flow.segments → Good after.segments
  printed_keeps _ _ _ (ends bytes place flow) good = good
  printed_keeps _ _ _ (goes_on bytes place k kids flow between after p q) good =
      printed_keeps _ _ _ q (printed_keeps _ _ _ p good)
  printed_keeps _ _ _ (passes s flow stage) good = good
  printed_keeps _ _ _ (names s flow stage) good =
      set_good flow.segments s _ (λ opened. good.unprinted s opened) good
  printed_keeps _ _ _ (prints s bytes flow after stage p) good =
      printed_keeps _ _ _ p
      (set_good flow.segments s _
      (λ opened. absurd (complete_closed (part_at t.parts s) (mark_at flow.segments s) bytes stage opened)) good)
  printed_keeps _ _ _ (is_child k flow after site p) good = printed_keeps _ _ _ p good
  printed_keeps _ _ _ (has_failed k boundary digest flow after site way p) good = printed_keeps _ _ _ p good
  printed_keeps _ _ _ (is_inline k boundary flow after site way p) good = printed_keeps _ _ _ p good
  printed_keeps _ _ _ (is_late k boundary flow after site way p) good = printed_keeps _ _ _ p good

  kind_moved : (kind : SegKind) (s : ℕ) (flow : _) → (with_moved t (kind_role kind) s flow).segments ≡ flow.segments
  kind_moved (Root boundary) s flow = refl
  kind_moved Child s flow = refl
  kind_moved (Site boundary) s flow = refl

  part_moved : (part : Option Part) (s : ℕ) (flow : _) → (with_moved t (part_role part) s flow).segments ≡ flow.segments
  part_moved None s flow = refl
  part_moved (Some part) s flow = kind_moved part.kind s flow

  sent_keeps : (boundary s : ℕ) (flow after : _) → Sends t boundary s flow after → Good flow.segments → Good after.segments
  sent_keeps boundary s flow after sends good =
      subst (λ f. Good f.segments) (sym sends.ended)
      (subst Good (sym (part_moved (part_at t.parts s) s _)) (printed_keeps _ _ _ sends.printed good))

  unit_keeps : (queue : Queue) (flow after : _) → FlushUnit t queue flow after → Good flow.segments → Good after.segments
  unit_keeps _ _ _ (refuses boundary others flow first) good = good
  unit_keeps _ _ _ (sends_complete boundary s others later flow after first ready sends) good =
      sent_keeps boundary s flow after sends good
  unit_keeps _ _ _ (reveals boundary others flow first ready) good = good
  unit_keeps _ _ _ (sends_partial boundary s others later flow after first ready sends) good =
      sent_keeps boundary s flow after sends good
  unit_keeps _ _ _ (leaves boundary others flow first ready) good = good

  served_keeps : (budget : ℕ) (queues : List Queue) (flow after : _) → Serves t budget queues flow after
      → Good flow.segments → Good after.segments
  served_keeps budget _ _ _ (over flow) good = good
  served_keeps budget _ _ _ (turns queue queues flow after first s) good = served_keeps budget _ _ _ s good
  served_keeps budget _ _ _ (stops queue queues flow after u enough) good = unit_keeps queue flow after u good
  served_keeps budget _ _ _ (serves queue queues flow between after u enough s) good =
      served_keeps budget _ _ _ s (unit_keeps queue flow between u good)

  pub flushed_unprinted : (budget : ℕ) (flow after : _) → Flushes t budget flow after → Good flow.segments
      → Good after.segments
  flushed_unprinted budget _ _ (goes_on_without_shell flow after shell s) good = served_keeps budget _ _ _ s good
  flushed_unprinted budget _ _ (stops_at_shell s flow after shell p enough) good = printed_keeps _ _ _ p good
  flushed_unprinted budget _ _ (begins s flow between after shell p enough later) good =
      served_keeps budget _ _ _ later (printed_keeps _ _ _ p good)
