use Rattle.std.proofs.Common.{sym, ap}
use Rattle.std.proofs.lemmas.Result.{err_from_is_err_and}
use Rattle.jsx_value.specs.declared.shape.Shape.TheVariants as s
use Rattle.jsx_value.specs.SeenPlaces.{place_at}
use Rattle.jsx_value.specs.Spots.{One}
use Rattle.fizz_piece.specs.Shapes.{page_of}
use Rattle.fizz_piece.proofs.PlacesLemmas.{not_waiting, stand_inside}
use Rattle.fizz_piece.proofs.PrintingLemmas.{position_is}
use Rattle.fizz_piece.proofs.WorksLemmas.{prints_work, stop_of_work}
use Rattle.fizz_piece.proofs.rendering.outcome_on.Goals as goal

pub sheet_of-requires : goal.sheet_of-requires
sheet_of-requires c = record {
  unfolded = c.requires.unfolded;
  adds_up = c.requires.adds_up;
  waits_not = not_waiting c.in_ok-shape.shape c.in_default.not-Wait;
  inside = stand_inside (page_of c.args.page) c.args.work.now.path (place_at c.args.work.now.spot c.args.work.now.scope) c.in_ok-shape.shape c.in_ok-shape.ensures c.requires.stands;
}

pub returns-in_err-sheet-in_default : goal.returns-in_err-sheet-in_default
returns-in_err-sheet-in_default c =
    let r = err_from_is_err_and c.from_residual-in_err-sheet-in_default.result c.from_residual-in_err-sheet-in_default.ensures.1 in
    rw (r.1, r.2) (record {
      outcome = tt;
      stopped = stop_of_work (page_of c.args.page) c.requires.unfolded c.args.work.now c.in_ok-shape.shape c.in_ok-shape.ensures
          (not_waiting c.in_ok-shape.shape c.in_default.not-Wait) c.in_err-sheet-in_default.field-0.0 c.in_err-sheet-in_default.ensures.stopped;
    })

pub returns-in-Wait-clause-outcome : goal.returns-in-Wait-clause-outcome
returns-in-Wait-clause-outcome c =
    ap (λ (o : One). o.label) (sym (position_is (page_of c.args.page) c.requires.unfolded (place_at c.args.work.now.spot c.args.work.now.scope) c.in_ok-shape.shape
    (s.Wait c.in-Wait.resource) c.in_ok-shape.ensures c.in-Wait.is))

pub returns-in_ok-sheet-in_default : goal.returns-in_ok-sheet-in_default
returns-in_ok-sheet-in_default c = record {
  outcome = prints_work (page_of c.args.page) c.requires.unfolded c.args.work.now c.in_ok-shape.shape c.in_ok-shape.ensures
      (not_waiting c.in_ok-shape.shape c.in_default.not-Wait) c.in_ok-sheet-in_default.sheet c.in_ok-sheet-in_default.ensures.sheet;
  stopped = tt;
}
