use Rattle.fizz_piece.specs.declared.plan.Plan.{Plan}
use Rattle.fizz_piece.specs.Pieces.{page_under}
use Rattle.jsx_value.specs.SeenPlaces.{place_at}
use Rattle.request_laws.proofs.WorksLemmas.{StandsLater, claimed_good, claimed_works, closed_works, committed_works, first_works, flushed_works, reclaimed_works, returned_works, settles_works}
use Rattle.request_laws.proofs.works.laws_of_standing_works.Goals as goal

pub returns : goal.returns
returns c =
    let later : (plan : Plan) → StandsLater plan = λ plan first after place more stands.
    c.laws_of_pages.ensures.stay (page_under plan first) (page_under plan after) (place_at place.spot place.scope)
    place.path (c.laws_of_settlements.ensures.numbers plan.app.now plan.outcomes.now first after
    plan.options.now.prefix more) stands in
    record {
      first = λ plan core is. first_works plan core is;
      settled = λ plan old new works settles. settles_works plan (later plan) old new works settles;
      claimed = λ plan old new work works out.
          (claimed_works plan old new work works out, claimed_good plan old new work works out);
      committed = λ plan old new work piece works good is commits.
          committed_works plan (later plan) old new work piece works good is commits;
      returned = λ plan old work works good kept. returned_works plan (later plan) old work works good kept;
      reclaimed = λ plan old works. reclaimed_works plan old works;
      closed = λ plan tasks failed old new works closes. closed_works plan tasks failed old new works closes;
      flushed = λ plan budget old new works flushes. flushed_works plan budget old new works flushes;
    }
