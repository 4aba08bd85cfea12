-- Printing with a stack.
use Rattle.std.proofs.Common.{◌≡◌, ℕ, Bool, true, false, List, [], ◌∷◌, ◌++◌, drop, slice_range, Option, Some, None, Ok, Err, Result, OnOk, sym, ◌∙◌, ap, subst, refl}
use Rattle.fizz_segment.specs.Tree.{after as after_in, is_kid, kids_of, mark_at, part_at}
use Rattle.fizz_segment.specs.declared.segment.Mark.{Mark}
use Rattle.fizz_segment.specs.declared.segment.Part.{Part}
use Rattle.flush_queues.specs.Flows.{Tables, Stage as Standing, complete, failed, failed_bytes, inline, late, passed, pending, place_of, root_at, site_of, stage_at, stage_of, stage_with, way_at, with_begun, with_end, with_inline, with_late, with_placeholder, with_written}
use Rattle.flush_queues.specs.Frames.{IsKidIf, Runs, RunsFrame, RunsKid, RunsSegment, RunsWith, bytes_with, closed, kids_from, part_bytes, stage_kind}
use Rattle.flush_queues.specs.Printing.{Prints, ends, goes_on, has_failed, is_child, is_inline, is_late, kid, names, passes, prints, rest, segment}
use Rattle.flush_queues.specs.declared.flow.Flow.{Flow}
use Rattle.flush_queues.specs.declared.frame.Frame.{Frame}
use Rattle.flush_queues.specs.declared.frame.Closing.{Closing}
use Rattle.flush_queues.specs.declared.frame.Closing.TheVariants.{Nothing, End, EndOfLate}
use Rattle.flush_queues.specs.declared.page.Stage.TheVariants.{Passed, Pending, Complete}

pub on_ok : {A E : Type 0} (P Q : Type 0) (r : Result A E) → (P → Q) → OnOk r P → OnOk r Q
on_ok P Q (Ok x) f holds = f holds
on_ok P Q (Err e) f holds = tt

kind-passed : (s : Standing) → stage_kind s ≡ Passed → s ≡ passed
kind-passed passed is = refl
kind-passed pending is = absurd cc
kind-passed (complete bytes) is = absurd cc

kind-pending : (s : Standing) → stage_kind s ≡ Pending → s ≡ pending
kind-pending passed is = absurd cc
kind-pending pending is = refl
kind-pending (complete bytes) is = absurd cc

kind-complete : (s : Standing) → stage_kind s ≡ Complete → (bytes : List ℕ) × (s ≡ complete bytes)
kind-complete passed is = absurd cc
kind-complete pending is = absurd cc
kind-complete (complete bytes) is = (bytes, refl)

complete-bytes : (a b : List ℕ) → complete a ≡ complete b → a ≡ b
complete-bytes a b is = cc

stage_with-bytes : (printed : Bool) (own : Option (List ℕ)) (bytes : List ℕ) → stage_with printed own ≡ complete bytes
    → bytes_with own ≡ bytes
stage_with-bytes true own bytes is = absurd cc
stage_with-bytes false None bytes is = absurd cc
stage_with-bytes false (Some own) bytes is = complete-bytes own bytes is

stage_of-bytes : (part : Option Part) (mark : Mark) (bytes : List ℕ) → stage_of part mark ≡ complete bytes
    → part_bytes part ≡ bytes
stage_of-bytes None mark bytes is = absurd cc
stage_of-bytes (Some part) mark bytes is = stage_with-bytes mark.printed part.bytes bytes is

module _ (t : Tables) where
  pub Runs-last : (frames : List Frame) (frame : Frame) (flow end : Flow) → Runs t (frames ++ frame ∷ []) flow end
      → RunsWith t frame frames flow end
  Runs-last [] frame flow end runs =
      record { between = end; first = subst (λ f. RunsFrame t frame f end) (sym runs.1) runs.2; runs = refl }
  Runs-last (outer ∷ inner) frame flow end runs =
      let below = Runs-last inner frame flow runs.0 runs.1 in
      record { between = below.between; first = below.first; runs = (runs.0, below.runs, runs.2) }

  pub Runs-with : (frames : List Frame) (frame : Frame) (flow end : Flow) → RunsWith t frame frames flow end
      → Runs t (frames ++ frame ∷ []) flow end
  Runs-with [] frame flow end w = (flow, refl, subst (λ f. RunsFrame t frame flow f) w.runs w.first)
  Runs-with (outer ∷ inner) frame flow end w =
      (w.runs.0, Runs-with inner frame flow w.runs.0 (record { between = w.between; first = w.first; runs = w.runs.1 }), w.runs.2)

  pub printed_whole : (s : ℕ) (flow end : Flow) → RunsSegment t s Nothing [] flow end → Prints t (segment s) flow end
  printed_whole s flow end r = subst (λ f. Prints t (segment s) flow f) r.runs r.printed

  module _ (s : ℕ) (closing : Closing) (frames : List Frame) (flow : Flow) where
    pub segment_passes : (new : Flow) → Passed ≡ stage_kind (stage_at t flow s) → new ≡ closed t closing flow
        → (end : Flow) → Runs t frames new end → RunsSegment t s closing frames flow end
    segment_passes new stage is end runs = record {
      between = flow;
      printed = passes s flow (kind-passed (stage_at t flow s) (sym stage));
      runs = subst (λ f. Runs t frames f end) is runs;
    }

    pub segment_named : (named new : Flow) → Pending ≡ stage_kind (stage_at t flow s) → named ≡ with_placeholder t s flow
        → new ≡ closed t closing named → (end : Flow) → Runs t frames new end → RunsSegment t s closing frames flow end
    segment_named named new stage named_is is end runs = record {
      between = with_placeholder t s flow;
      printed = names s flow (kind-pending (stage_at t flow s) (sym stage));
      runs = subst (λ f. Runs t frames f end) (is ∙ ap (λ f. closed t closing f) named_is) runs;
    }

    pub segment_begun : (begun : Flow) (first : Option ℕ) → Complete ≡ stage_kind (stage_at t flow s)
        → begun ≡ with_begun s flow → kids_from t.parts s first ≡ kids_of t.parts s → IsKidIf t.parts s first
        → (end : Flow) → Runs t (frames ++ record { segment = s; place = 0; kid = first; closing = closing } ∷ []) begun end
        → RunsSegment t s closing frames flow end
    segment_begun begun first stage begun_is kids kid_if end runs =
        let found = kind-complete (stage_at t flow s) (sym stage) in
        let w = Runs-last frames (record { segment = s; place = 0; kid = first; closing = closing }) begun end runs in
        let r = w.first kid_if in
        let bytes_are : part_bytes (part_at t.parts s) ≡ found.0 = stage_of-bytes (part_at t.parts s) (mark_at flow.segments s) found.0 found.1 in
        let one : Prints t (rest found.0 0 (kids_from t.parts s first)) begun r.between =
        subst (λ b. Prints t (rest b 0 (kids_from t.parts s first)) begun r.between) bytes_are r.printed in
        let two : Prints t (rest found.0 0 (kids_of t.parts s)) begun r.between =
        subst (λ ks. Prints t (rest found.0 0 ks) begun r.between) kids one in
        record {
          between = r.between;
          printed = prints s found.0 flow r.between found.1
              (subst (λ f. Prints t (rest found.0 0 (kids_of t.parts s)) f r.between) begun_is two);
          runs = subst (λ f. Runs t frames f end) r.closes w.runs;
        }

  module _ (k : ℕ) (frames : List Frame) (flow : Flow) where
    pub kid_of_child : None ≡ site_of (part_at t.parts k) → (end : Flow) → RunsSegment t k Nothing frames flow end
        → RunsKid t k frames flow end
    kid_of_child site end r =
        record { between = r.between; printed = is_child k flow r.between (sym site) r.printed; runs = r.runs }

    pub kid_of_failed : (boundary : ℕ) (digest : List ℕ) (begun : Flow) → Some boundary ≡ site_of (part_at t.parts k)
        → way_at t boundary ≡ failed digest → begun ≡ with_written (failed_bytes digest) flow
        → (end : Flow) → RunsSegment t k End frames begun end → RunsKid t k frames flow end
    kid_of_failed boundary digest begun site way begun_is end r = record {
      between = with_end r.between;
      printed = has_failed k boundary digest flow r.between (sym site) way
          (subst (λ f. Prints t (segment k) f r.between) begun_is r.printed);
      runs = r.runs;
    }

    pub kid_of_inline : (boundary root : ℕ) (begun : Flow) → Some boundary ≡ site_of (part_at t.parts k)
        → way_at t boundary ≡ inline → root ≡ root_at t boundary → begun ≡ with_inline boundary flow
        → (end : Flow) → RunsSegment t root End frames begun end → RunsKid t k frames flow end
    kid_of_inline boundary root begun site way root_is begun_is end r = record {
      between = with_end r.between;
      printed = is_inline k boundary flow r.between (sym site) way
          (subst (λ f. Prints t (segment (root_at t boundary)) f r.between) begun_is
          (subst (λ n. Prints t (segment n) begun r.between) root_is r.printed));
      runs = r.runs;
    }

    pub kid_of_late : (boundary : ℕ) (begun : Flow) → Some boundary ≡ site_of (part_at t.parts k)
        → way_at t boundary ≡ late → begun ≡ with_late t boundary flow
        → (end : Flow) → RunsSegment t k (EndOfLate boundary) frames begun end → RunsKid t k frames flow end
    kid_of_late boundary begun site way begun_is end r = record {
      between = closed t (EndOfLate boundary) r.between;
      printed = is_late k boundary flow r.between (sym site) way
          (subst (λ f. Prints t (segment k) f r.between) begun_is r.printed);
      runs = r.runs;
    }

  module _ (frame : Frame) (frames : List Frame) (flow : Flow) (bytes : List ℕ)
      (bytes_are : bytes ≡ part_bytes (part_at t.parts frame.segment)) where
    pub frame_ends : (last : List ℕ) (written new : Flow) → frame.kid ≡ None → last ≡ drop frame.place bytes
        → written ≡ with_written last flow → new ≡ closed t frame.closing written
        → (end : Flow) → Runs t frames new end → RunsWith t frame frames flow end
    frame_ends last written new no_kid last_is written_is is end runs =
        let all = part_bytes (part_at t.parts frame.segment) in
        let is_written : with_written (drop frame.place all) flow ≡ written =
        sym (written_is ∙ ap (λ b. with_written b flow) (last_is ∙ ap (λ b. drop frame.place b) bytes_are)) in
        let done : Prints t (rest all frame.place []) flow written =
        subst (λ f. Prints t (rest all frame.place []) flow f) is_written (ends all frame.place flow) in
        record {
          between = new;
          first = λ kid_if. record {
            between = written;
            printed = subst (λ k. Prints t (rest all frame.place (kids_from t.parts frame.segment k)) flow written)
                (sym no_kid) done;
            closes = is;
          };
          runs = runs;
        }

    pub frame_goes_on : (k to : ℕ) (next : Option ℕ) (part : List ℕ) (written : Flow) → frame.kid ≡ Some k
        → to ≡ place_of (part_at t.parts k) → part ≡ slice_range bytes frame.place to → written ≡ with_written part flow
        → ((parent : ℕ) → is_kid parent (part_at t.parts k) ≡ true
        → kids_from t.parts parent next ≡ after_in k (kids_of t.parts parent))
        → ((parent : ℕ) → is_kid parent (part_at t.parts k) ≡ true → IsKidIf t.parts parent next)
        → (end : Flow)
        → RunsKid t k (frames ++ record { segment = frame.segment; place = to; kid = next; closing = frame.closing } ∷ []) written end
        → RunsWith t frame frames flow end
    frame_goes_on k to next part written kid_is to_is part_is written_is next_kids next_is end r =
        let all = part_bytes (part_at t.parts frame.segment) in
        let place = place_of (part_at t.parts k) in
        let w = Runs-last frames (record { segment = frame.segment; place = to; kid = next; closing = frame.closing }) r.between end r.runs in
        let is_written : written ≡ with_written (slice_range all frame.place place) flow =
        written_is ∙ ap (λ b. with_written b flow)
        (part_is ∙ ap (λ b. slice_range b frame.place to) bytes_are ∙ ap (λ n. slice_range all frame.place n) to_is) in
        record {
          between = w.between;
          first = λ kid_if.
              let passes_test : is_kid frame.segment (part_at t.parts k) ≡ true = subst (λ o. IsKidIf t.parts frame.segment o) kid_is kid_if in
              let later = w.first (next_is frame.segment passes_test) in
              let one : Prints t (rest all place (kids_from t.parts frame.segment next)) r.between later.between =
              subst (λ n. Prints t (rest all n (kids_from t.parts frame.segment next)) r.between later.between) to_is later.printed in
              let two : Prints t (rest all place (after_in k (kids_of t.parts frame.segment))) r.between later.between =
              subst (λ ks. Prints t (rest all place ks) r.between later.between) (next_kids frame.segment passes_test) one in
              let three : Prints t (rest all frame.place (k ∷ after_in k (kids_of t.parts frame.segment))) flow later.between =
              goes_on all frame.place k (after_in k (kids_of t.parts frame.segment)) flow r.between later.between
              (subst (λ f. Prints t (kid k) f r.between) is_written r.printed) two in
              record {
                between = later.between;
                printed = subst (λ o. Prints t (rest all frame.place (kids_from t.parts frame.segment o)) flow later.between)
                    (sym kid_is) three;
                closes = later.closes;
              };
          runs = w.runs;
        }
