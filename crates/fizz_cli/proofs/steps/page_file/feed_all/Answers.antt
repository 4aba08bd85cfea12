use Rattle.std.proofs.lemmas.Result.{err_from_is_err_and}
use Rattle.fizz_cli.proofs.Pages.{feeding_stops, feeds_on, parted}
use Rattle.fizz_cli.proofs.steps.page_file.feed_all.Goals as goal

pub pieces-preserved : goal.pieces-preserved
pieces-preserved c =
    feeds_on _ _ _ _ _ _ _ c.pieces.invariant (parted c.pieces.rest.now _ _ _ c.split_at.ensures.front c.split_at.ensures.back)
    c.in_ok-feed.ensures.taken c.in_ok-feed.ensures.counted c.in_ok-feed.ensures.prefix

pub returns-in_err-feed-clause-refused : goal.returns-in_err-feed-clause-refused
returns-in_err-feed-clause-refused c =
    let p = err_from_is_err_and c.from_residual.result c.from_residual.ensures.1 in
    rw (p.1, p.2) (feeding_stops _ _ _ _ _ _ _ c.in_err-feed.field-0.0 c.pieces.invariant
    (parted c.pieces.rest.now _ _ _ c.split_at.ensures.front c.split_at.ensures.back) c.in_err-feed.ensures.refused)
