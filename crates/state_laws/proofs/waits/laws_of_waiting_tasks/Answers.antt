use Rattle.std.proofs.Common.{[], refl}
use Rattle.jsx_syntax.specs.Rules.{IsApp}
use Rattle.jsx_value.specs.Positions.{Page}
use Rattle.jsx_value.specs.Settling.{settled_since}
use Rattle.fizz_piece.specs.declared.plan.Plan.{Plan}
use Rattle.fizz_piece.specs.Pieces.{page_under}
use Rattle.fizz_piece.specs.Places.{position_of}
use Rattle.state_laws.proofs.WaitsLemmas.{KidsWait, StaysWaiting, claimed_waits, closed_waits, committed_waits, first_waits, flushed_waits, kids_wait, reclaimed_waits, returned_waits, same_label, settles_waits, unknown_since}
use Rattle.state_laws.proofs.waits.laws_of_waiting_tasks.Goals as goal

pub returns : goal.returns
returns c =
    let stay : (plan : Plan) → IsApp plan.app.now → StaysWaiting plan = λ plan app first after resource place more unknown waits.
    let before : Page = page_under plan first in
    let later : Page = page_under plan after in
    let found = c.laws_of_later_positions.ensures.waits (settled_since before later) (position_of before place)
    (position_of later place) (position_of before place) [] resource
    (c.laws_of_pages.ensures.later before later place
    (c.laws_of_settlements.ensures.numbers plan.app.now plan.outcomes.now first after plan.options.now.prefix more)
    (c.laws_of_apps.ensures plan.app.now app)) refl waits
    (unknown_since (before.known resource) (later.known resource) unknown) in
    same_label (position_of later place) found.0 _ found.1 found.2 in
    let kids : (plan : Plan) → IsApp plan.app.now → KidsWait plan = λ plan app.
    kids_wait plan c.laws_of_gaps.ensures.cuts c.laws_of_gaps.ensures.stand
    (λ settled place path is. c.laws_of_pages.ensures.stand (page_under plan settled) place path
    (c.laws_of_apps.ensures plan.app.now app) is) in
    record {
      first = first_waits;
      settled = λ plan old new app. settles_waits plan (stay plan app) old new;
      claimed = claimed_waits;
      committed = λ plan old new work piece app. committed_waits plan (stay plan app) (kids plan app) old new work piece;
      returned = returned_waits;
      reclaimed = reclaimed_waits;
      closed = closed_waits;
      flushed = flushed_waits;
    }
