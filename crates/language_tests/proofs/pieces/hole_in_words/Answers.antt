use Rattle.std.proofs.Common.{◌≡◌, ◌≤◌, ℕ, List, [], ◌∷◌, ◌++◌, subst, arith}
use Rattle.std.specs.Prelude.{All}
use Rattle.std.proofs.lemmas.List.Elements.{All-contains, Contains-push}
use Rattle.jsx_value.specs.Positions.{Page}
use Rattle.fizz_piece.specs.declared.piece.Kid.{Kid}
use Rattle.fizz_piece.specs.declared.piece.Piece.{Piece}
use Rattle.fizz_piece.specs.declared.piece.Piece.TheVariants as piece
use Rattle.fizz_piece.specs.Pieces.{IsPieceOf, IsPlaced, page_under}
use Rattle.language_tests.proofs.pieces.hole_in_words.Goals as goal

last_placed : (page : Page) (kids front : List Kid) (last : Kid) → kids ≡ front ++ last ∷ [] → All (IsPlaced page) kids → IsPlaced page last
last_placed page kids front last is placed =
    All-contains (IsPlaced page) (front ++ last ∷ []) last (subst (λ (ks : List Kid). All (IsPlaced page) ks) is placed) (Contains-push front last)

pub render_piece-requires-2 : goal.render_piece-requires-2
render_piece-requires-2 c =
    let work = c.root_work-work.result in
    let first : work.settled ≡ 0 = c.root_work-work.ensures.settled in
    let page : Page = page_under c.args.plan.now work.settled in
    let done : IsPieceOf c.args.plan.now work (piece.Done c.in-Ok-Done.field-0-0 c.in-Ok-Done.field-0-1 c.in-Ok-Done.kids) =
    subst (λ (p : Piece). IsPieceOf c.args.plan.now work p) c.in-Ok-Done.field-0-is c.in-Ok-Done.ensures.piece in
    c.laws_of_works.ensures c.args.plan.now
    (record { task = 1; claim = 0; path = c.in-Some-Hole.path; spot = c.in-Some-Hole.spot; scope = c.in-Some-Hole.scope; settled = work.settled; flags = c.args.flags })
    c.args.settled
    (record {
      within = c.root_work-work.ensures.good.within;
      stands = subst (IsPlaced page) c.in-Some-Hole.field-0-is
          (last_placed page c.in-Ok-Done.kids c.pop.new.self c.in-Some-Hole.field-0 c.in-Some-Hole.ensures done.1.placed);
    })
    (omega (arith, first)) c.requires
